-- What a question which devices are there answers follows from what it heard.
use Rattle.std.proofs.Common.{◌≡◌, ◌<◌, ◌≤◌, ℕ, ◌+◌, List, [], ◌∷◌, ◌++◌, length, filter, Bool, true, false, not, ◌||◌, nat_lt, if◌then◌else◌, Option, Some, None, Result, Ok, Err, refl, sym, ◌∙◌, ap}
use Rattle.std.proofs.Common.{subst, arith}
use Rattle.std.specs.List.{list_any}
use Rattle.std.proofs.lemmas.List.{length-append}
use Rattle.std.proofs.lemmas.List.Elements.{filter-append}
use Rattle.std.proofs.lemmas.List.Folds.{list_any-append}
use Rattle.nfc_base.specs.Trace.{Turn, heard, is_clash, is_damage, is_silence}
use Rattle.nfc_base.specs.declared.event.Heard.{Heard}
use Rattle.nfc_base.specs.declared.event.Heard.TheVariants.{Whole, Collided, Damaged, Silent}
use Rattle.air_core.specs.Conversation.{Over, LightUp, Asks, note}
use Rattle.air_core.specs.World.{Machine}
use Rattle.air_core.specs.Turn.{Air}
use Rattle.nfca_poll.specs.declared.fault.PollFault.{PollFault}
use Rattle.nfca_poll.specs.declared.fault.PollFault.TheVariants as faults
use Rattle.nfc_base.specs.Signal.{Signal}
use Rattle.nfca_poll.specs.declared.inventory.Vcrowd.{Vcrowd}
use Rattle.nfca_poll.specs.Enquiry.{Enquiry, Progress, Reaches, Loses, progress, or_memory, answer_of, Enquires}
use Rattle.nfca_poll.specs.Inventory.{Inventory, Tries, Told, tries, Presence, asking_presence, all_present, inventory}
use Rattle.nfca_poll.specs.ByHeard.{is_strange, silences, damages, has_clash, has_strange, TellsPresence, TellsInventory, turns_since}
use Rattle.nfca_poll.proofs.enquiries.EnquiryWalks.{after}
use Rattle.nfca_poll.proofs.enquiries.TurnWalks.{turns_hold}

abbrev pub one_if : Bool → ℕ
one_if v = if v then 1 else 0

-- one turn more
one_left : (p : Turn → Bool) (t : Turn) → length (filter p (t ∷ [])) ≡ one_if (p t)
one_left p t = by_test (p t)
  where
    by_test : (v : Bool) → length (if v then t ∷ [] else []) ≡ one_if v
    by_test true = refl
    by_test false = refl

pub count_more : (p : Turn → Bool) (ts : List Turn) (t : Turn) → length (filter p (ts ++ t ∷ [])) ≡ length (filter p ts) + one_if (p t)
count_more p ts t = ap length (filter-append p ts (t ∷ [])) ∙ length-append (filter p ts) (filter p (t ∷ [])) ∙ ap (λ n. length (filter p ts) + n) (one_left p t)

or_none : (v w : Bool) → w ≡ false → (v || (w || false)) ≡ v
or_none true w e = refl
or_none false true e = absurd cc
or_none false false e = refl

or_one : (v w : Bool) → w ≡ true → (v || (w || false)) ≡ true
or_one true w e = refl
or_one false true e = refl
or_one false false e = absurd cc

pub any_none : (p : Turn → Bool) (ts : List Turn) (t : Turn) → p t ≡ false → list_any p (ts ++ t ∷ []) ≡ list_any p ts
any_none p ts t e = list_any-append p ts (t ∷ []) ∙ or_none (list_any p ts) (p t) e

pub any_one : (p : Turn → Bool) (ts : List Turn) (t : Turn) → p t ≡ true → list_any p (ts ++ t ∷ []) ≡ true
any_one p ts t e = list_any-append p ts (t ∷ []) ∙ or_one (list_any p ts) (p t) e

pub not_both : (v : Bool) → v ≡ false → v ≡ true → ⊥
not_both true e f = cc
not_both false e f = cc

pub less_of : (a b : ℕ) → nat_lt a b ≡ true → a < b
less_of a b h = grind arith

pub far_of : (a b : ℕ) → nat_lt a b ≡ false → b ≤ a
far_of a b h = grind arith

pub few_left : (n : ℕ) (f g : _) (v : Bool) → nat_lt n tries ≡ v → (if v then Asks f else Over) ≡ Asks g → n < 4
few_left n f g true h e = less_of n 4 h
few_left n f g false h e = absurd cc

-- what is told of one device, of several and of none is apart
pub record IsApart {X : Type 0} (p : Presence X) : Type 0 where
  pub nobody : p.crowd ≡ p.nobody → ⊥
  pub one : (g : Signal) → p.one g ≡ p.nobody → ⊥
  pub crowd : (g : Signal) → p.one g ≡ p.crowd → ⊥

ok_in : {X : Type 0} {x y : X} → ◌≡◌ {A = Result X PollFault} (Ok x) (Ok y) → x ≡ y
ok_in e = cc

module _ {X : Type 0} (p : Presence X) (apart : IsApart p) where
  abbrev asking : Enquiry (Inventory X) X
  asking = asking_presence p

  -- an inventory so far: no clash, no strange answer, and each turn silent or damaged
  record Vain (n : ℕ) (d : Bool) (ts : List Turn) : Type 0 where
    clash : has_clash ts ≡ false
    strange : has_strange p.shows ts ≡ false
    sum : silences ts + damages ts ≡ n
    some : d ≡ true → 0 < damages ts
    none : d ≡ false → damages ts ≡ 0

  abbrev At : Progress (Inventory X) → List Turn → Type 0
  At (Reaches (Tries n d)) ts = Vain n d ts × (n ≤ 4)
  At (Reaches (Told r)) ts = TellsPresence p ts r
  At Loses ts = (n : ℕ) × (d : Bool) × Vain n d ts × (n < 4)

  -- what a turn adds
  record Adds (ts us : List Turn) (o : Option Heard) : Type 0 where
    silent : silences us ≡ silences ts + one_if (is_silence o)
    damage : damages us ≡ damages ts + one_if (is_damage o)
    clash : is_clash o ≡ false → has_clash us ≡ has_clash ts
    clashed : is_clash o ≡ true → has_clash us ≡ true
    strange : is_strange p.shows o ≡ false → has_strange p.shows us ≡ has_strange p.shows ts
    stranger : is_strange p.shows o ≡ true → has_strange p.shows us ≡ true

  adds : (ts : List Turn) (t : Turn) → Adds ts (ts ++ t ∷ []) (heard t)
  adds ts t = record {
    silent = count_more (λ u. is_silence (heard u)) ts t;
    damage = count_more (λ u. is_damage (heard u)) ts t;
    clash = any_none (λ u. is_clash (heard u)) ts t;
    clashed = any_one (λ u. is_clash (heard u)) ts t;
    strange = any_none (λ u. is_strange p.shows (heard u)) ts t;
    stranger = any_one (λ u. is_strange p.shows (heard u)) ts t;
  }

  -- the call is told one of these
  tells_crowd : (us : List Turn) (n : ℕ) → n < 4 → silences us + damages us ≡ n → has_clash us ≡ true → has_strange p.shows us ≡ false → TellsPresence p us (Ok p.crowd)
  tells_crowd us n few sum clash strange = record {
    nobody = (λ e. absurd (apart.nobody (ok_in e)), λ e. absurd (omega (arith, few, sum, e)));
    crowd = (λ e. clash, λ e. refl);
    disturbed = (λ e. absurd cc, λ e. absurd (omega (arith, few, sum, e.0)));
    bad = (λ e. absurd cc, λ e. absurd (not_both (has_strange p.shows us) strange e));
  }

  tells_bad : (us : List Turn) (n : ℕ) → n < 4 → silences us + damages us ≡ n → has_clash us ≡ false → has_strange p.shows us ≡ true → TellsPresence p us (Err faults.BadAnswer)
  tells_bad us n few sum clash strange = record {
    nobody = (λ e. absurd cc, λ e. absurd (omega (arith, few, sum, e)));
    crowd = (λ e. absurd cc, λ e. absurd (not_both (has_clash us) clash e));
    disturbed = (λ e. absurd cc, λ e. absurd (omega (arith, few, sum, e.0)));
    bad = (λ e. strange, λ e. refl);
  }

  -- any other answer that is no end of the tries
  tells_other : (us : List Turn) (n : ℕ) (r : Result X PollFault) → n < 4 → silences us + damages us ≡ n → has_clash us ≡ false → has_strange p.shows us ≡ false
      → (r ≡ Ok p.nobody → ⊥) → (r ≡ Ok p.crowd → ⊥) → (r ≡ Err faults.Disturbed → ⊥) → (r ≡ Err faults.BadAnswer → ⊥) → TellsPresence p us r
  tells_other us n r few sum clash strange a b c d = record {
    nobody = (λ e. absurd (a e), λ e. absurd (omega (arith, few, sum, e)));
    crowd = (λ e. absurd (b e), λ e. absurd (not_both (has_clash us) clash e));
    disturbed = (λ e. absurd (c e), λ e. absurd (omega (arith, few, sum, e.0)));
    bad = (λ e. absurd (d e), λ e. absurd (not_both (has_strange p.shows us) strange e));
  }

  whole_tells : (v : Bool) (g : _) (us : List Turn) (n : ℕ) → n < 4 → silences us + damages us ≡ n → has_clash us ≡ false → (not v ≡ false → has_strange p.shows us ≡ false)
      → (not v ≡ true → has_strange p.shows us ≡ true)
      → At (Reaches (if v then Told (Ok (p.one g)) else Told (Err faults.BadAnswer))) us
  whole_tells true g us n few sum clash well ill = tells_other us n (Ok (p.one g)) few sum clash (well refl) (λ e. apart.one g (ok_in e)) (λ e. apart.crowd g (ok_in e)) (λ e. cc) (λ e. cc)
  whole_tells false g us n few sum clash well ill = tells_bad us n few sum clash (ill refl)

  by_heard : (n : ℕ) (d : Bool) (ts us : List Turn) (o : Option Heard) → Vain n d ts → n < 4 → Adds ts us o → At (after asking (Reaches (Tries n d)) (note o)) us
  by_heard n d ts us None v few a = (
    n,
    d,
    record {
      clash = a.clash refl ∙ v.clash;
      strange = a.strange refl ∙ v.strange;
      sum = omega (arith, a.silent, a.damage, v.sum);
      some = λ e. omega (arith, a.damage, v.some e);
      none = λ e. omega (arith, a.damage, v.none e);
    },
    few,
  )
  by_heard n d ts us (Some (Whole g)) v few a =
      whole_tells (p.shows g) g us n few (omega (arith, a.silent, a.damage, v.sum)) (a.clash refl ∙ v.clash) (λ e. a.strange e ∙ v.strange) a.stranger
  by_heard n d ts us (Some (Collided g)) v few a = tells_crowd us n few (omega (arith, a.silent, a.damage, v.sum)) (a.clashed refl) (a.strange refl ∙ v.strange)
  by_heard n d ts us (Some Damaged) v few a = (
    record { clash = a.clash refl ∙ v.clash; strange = a.strange refl ∙ v.strange; sum = omega (arith, a.silent, a.damage, v.sum); some = λ e. omega (arith, a.damage); none = λ e. absurd cc },
    omega (arith, few),
  )
  by_heard n d ts us (Some Silent) v few a = (
    record {
      clash = a.clash refl ∙ v.clash;
      strange = a.strange refl ∙ v.strange;
      sum = omega (arith, a.silent, a.damage, v.sum);
      some = λ e. omega (arith, a.damage, v.some e);
      none = λ e. omega (arith, a.damage, v.none e);
    },
    omega (arith, few),
  )

  asked : (s : Inventory X) (ts : List Turn) (t : Turn) → At (Reaches s) ts → asking.next s ≡ Asks t.request → At (after asking (Reaches s) (note (heard t))) (ts ++ t ∷ [])
  asked (Tries n d) ts t k e = by_heard n d ts (ts ++ t ∷ []) (heard t) k.0 (few_left n _ t.request (nat_lt n tries) refl e) (adds ts t)
  asked (Told r) ts t k e = absurd cc

  never_lit : (s : Inventory X) (ts : List Turn) → At (Reaches s) ts → asking.next s ≡ LightUp → At (Reaches s) ts
  never_lit s ts k e = k

  -- how it ends
  tried : (n : ℕ) (d : Bool) (ts : List Turn) → Vain n d ts → n ≤ 4 → (v : Bool) → nat_lt n tries ≡ v
      → TellsPresence p ts (or_memory (if v then None else Some (if d then Err faults.Disturbed else Ok p.nobody)))
  tried n d ts v most true h = tells_other ts n (Err faults.Memory) (less_of n 4 h) v.sum v.clash v.strange (λ e. cc) (λ e. cc) (λ e. cc) (λ e. cc)
  tried n true ts v most false h = record {
    nobody = (λ e. absurd cc, λ e. absurd (omega (arith, v.sum, v.some refl, most, e)));
    crowd = (λ e. absurd cc, λ e. absurd (not_both (has_clash ts) v.clash e));
    disturbed = (λ e. (omega (arith, v.sum, most, far_of n 4 h), v.some refl), λ e. refl);
    bad = (λ e. absurd cc, λ e. absurd (not_both (has_strange p.shows ts) v.strange e));
  }
  tried n false ts v most false h = record {
    nobody = (λ e. omega (arith, v.sum, v.none refl, most, far_of n 4 h), λ e. refl);
    crowd = (λ e. absurd (apart.nobody (sym (ok_in e))), λ e. absurd (not_both (has_clash ts) v.clash e));
    disturbed = (λ e. absurd cc, λ e. absurd (omega (arith, e.1, v.none refl)));
    bad = (λ e. absurd cc, λ e. absurd (not_both (has_strange p.shows ts) v.strange e));
  }

  ends : (s : Progress (Inventory X)) (ts : List Turn) → At s ts → TellsPresence p ts (answer_of asking s)
  ends (Reaches (Tries n d)) ts k = tried n d ts k.0 k.1 (nat_lt n tries) refl
  ends (Reaches (Told r)) ts k = k
  ends Loses ts k = tells_other ts k.0 (Err faults.FieldLost) k.3 k.2.sum k.2.clash k.2.strange (λ e. cc) (λ e. cc) (λ e. cc) (λ e. cc)

  begins : At (Reaches asking.start) []
  begins = (record { clash = refl; strange = refl; sum = refl; some = λ e. absurd cc; none = λ e. refl }, omega arith)

  pub tells_presence : {L : Type 0} (m : Machine L) (old new : Air L) (r : Result X PollFault) → Enquires asking m old r new → TellsPresence p (turns_since old new) r
  tells_presence m old new r q =
      let T : Result X PollFault → Type 0 = λ x. TellsPresence p (turns_since old new) x in
      subst T (sym q.comes) (ends (progress asking asking.start q.notes) (turns_since old new) (turns_hold asking m At begins never_lit asked old new r q))

all_apart : IsApart all_present
all_apart = record { nobody = λ e. cc; one = λ g e. cc; crowd = λ g e. cc }

pub tells_inventory : {L : Type 0} (m : Machine L) (old new : Air L) (r : Result Vcrowd PollFault) → Enquires inventory m old r new → TellsInventory (turns_since old new) r
tells_inventory m old new r q = tells_presence all_present all_apart m old new r q
