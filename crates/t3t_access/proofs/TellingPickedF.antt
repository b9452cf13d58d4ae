-- What the selection of a Type 3 tag answers follows from what it heard.
use Rattle.std.proofs.Common.{◌≡◌, ◌⊎◌, ◌<◌, ◌≤◌, ℕ, ◌+◌, List, [], ◌∷◌, ◌++◌, Bool, true, false, not, ◌&&◌, nat_lt, if◌then◌else◌, inl, inr, Option, Some, None, Result, Ok, Err, refl, sym, ◌∙◌}
use Rattle.std.proofs.Common.{subst, arith}
use Rattle.nfc_base.specs.Trace.{Turn, heard, is_silence}
use Rattle.nfc_base.specs.declared.event.Heard.{Heard}
use Rattle.nfc_base.specs.declared.event.Heard.TheVariants.{Whole, Collided, Damaged, Silent}
use Rattle.air_core.specs.Conversation.{LightUp, Asks, note}
use Rattle.air_core.specs.World.{Machine}
use Rattle.air_core.specs.Turn.{Air}
use Rattle.nfca_poll.specs.declared.fault.PollFault.{PollFault}
use Rattle.nfca_poll.specs.declared.fault.PollFault.TheVariants as faults
use Rattle.nfca_poll.specs.Enquiry.{Progress, Reaches, Loses, progress, or_memory, answer_of, Enquires}
use Rattle.nfca_poll.specs.Inventory.{Inventory, Tries, Told, tries}
use Rattle.nfca_poll.specs.ByHeard.{is_strange, silences, has_strange, turns_since}
use Rattle.nfca_poll.proofs.enquiries.EnquiryWalks.{after}
use Rattle.nfca_poll.proofs.enquiries.TurnWalks.{turns_hold}
use Rattle.nfca_poll.proofs.enquiries.TellingInventory.{one_if, not_both, less_of, far_of, few_left, count_more, any_none, any_one}
use Rattle.t3t_access.specs.Polling.{is_sensf_res, is_of, picking_f, is_shown, is_another, has_shown, has_another, TellsPickedF}

module _ (id : List ℕ) where
  -- a selection so far: nothing was heard
  record Vain (n : ℕ) (ts : List Turn) : Type 0 where
    shown : has_shown id ts ≡ false
    another : has_another id ts ≡ false
    strange : has_strange is_sensf_res ts ≡ false
    silent : silences ts ≡ n

  abbrev At : Progress (Inventory (Unit {0})) → List Turn → Type 0
  At (Reaches (Tries n d)) ts = Vain n ts × (n ≤ 4)
  At (Reaches (Told r)) ts = TellsPickedF id ts r
  At Loses ts = (n : ℕ) × Vain n ts × (n < 4)

  -- what a turn adds
  record Adds (ts us : List Turn) (o : Option Heard) : Type 0 where
    silent : silences us ≡ silences ts + one_if (is_silence o)
    shown : is_shown id o ≡ false → has_shown id us ≡ has_shown id ts
    shows : is_shown id o ≡ true → has_shown id us ≡ true
    another : is_another id o ≡ false → has_another id us ≡ has_another id ts
    others : is_another id o ≡ true → has_another id us ≡ true
    strange : is_strange is_sensf_res o ≡ false → has_strange is_sensf_res us ≡ has_strange is_sensf_res ts
    stranger : is_strange is_sensf_res o ≡ true → has_strange is_sensf_res us ≡ true

  adds : (ts : List Turn) (t : Turn) → Adds ts (ts ++ t ∷ []) (heard t)
  adds ts t = record {
    silent = count_more (λ u. is_silence (heard u)) ts t;
    shown = any_none (λ u. is_shown id (heard u)) ts t;
    shows = any_one (λ u. is_shown id (heard u)) ts t;
    another = any_none (λ u. is_another id (heard u)) ts t;
    others = any_one (λ u. is_another id (heard u)) ts t;
    strange = any_none (λ u. is_strange is_sensf_res (heard u)) ts t;
    stranger = any_one (λ u. is_strange is_sensf_res (heard u)) ts t;
  }

  no_silence : (us : List Turn) (n : ℕ) → n < 4 → silences us ≡ n → has_another id us ≡ false → (silences us ≡ tries) ⊎ (has_another id us ≡ true) → ⊥
  no_silence us n few sum another (inl e) = absurd (omega (arith, few, sum, e))
  no_silence us n few sum another (inr e) = not_both (has_another id us) another e

  -- the call is told one of these
  tells_there : (us : List Turn) (n : ℕ) → n < 4 → silences us ≡ n → has_shown id us ≡ true → has_another id us ≡ false → has_strange is_sensf_res us ≡ false → TellsPickedF id us (Ok tt)
  tells_there us n few sum shown another strange = record {
    there = (λ e. shown, λ e. refl);
    not_found = (λ e. absurd cc, λ e. absurd (no_silence us n few sum another e));
    bad = (λ e. absurd cc, λ e. absurd (not_both (has_strange is_sensf_res us) strange e));
  }

  tells_another : (us : List Turn) → has_shown id us ≡ false → has_another id us ≡ true → has_strange is_sensf_res us ≡ false → TellsPickedF id us (Err faults.NotFound)
  tells_another us shown another strange = record {
    there = (λ e. absurd cc, λ e. absurd (not_both (has_shown id us) shown e));
    not_found = (λ e. inr another, λ e. refl);
    bad = (λ e. absurd cc, λ e. absurd (not_both (has_strange is_sensf_res us) strange e));
  }

  tells_bad : (us : List Turn) (n : ℕ) → n < 4 → silences us ≡ n → has_shown id us ≡ false → has_another id us ≡ false → has_strange is_sensf_res us ≡ true → TellsPickedF id us (Err faults.BadAnswer)
  tells_bad us n few sum shown another strange = record {
    there = (λ e. absurd cc, λ e. absurd (not_both (has_shown id us) shown e));
    not_found = (λ e. absurd cc, λ e. absurd (no_silence us n few sum another e));
    bad = (λ e. strange, λ e. refl);
  }

  -- any other answer that is no end of the tries
  tells_other : (us : List Turn) (n : ℕ) (f : PollFault) → n < 4 → silences us ≡ n → has_shown id us ≡ false → has_another id us ≡ false → has_strange is_sensf_res us ≡ false
      → (◌≡◌ {A = Result (Unit {0}) PollFault} (Err f) (Err faults.NotFound) → ⊥) → (◌≡◌ {A = Result (Unit {0}) PollFault} (Err f) (Err faults.BadAnswer) → ⊥) → TellsPickedF id us (Err f)
  tells_other us n f few sum shown another strange a b = record {
    there = (λ e. absurd cc, λ e. absurd (not_both (has_shown id us) shown e));
    not_found = (λ e. absurd (a e), λ e. absurd (no_silence us n few sum another e));
    bad = (λ e. absurd (b e), λ e. absurd (not_both (has_strange is_sensf_res us) strange e));
  }

  whole_tells : (v w : Bool) (us : List Turn) (n : ℕ) → n < 4 → silences us ≡ n
      → (v && w ≡ false → has_shown id us ≡ false) → (v && w ≡ true → has_shown id us ≡ true)
      → (v && not w ≡ false → has_another id us ≡ false) → (v && not w ≡ true → has_another id us ≡ true)
      → (not v ≡ false → has_strange is_sensf_res us ≡ false) → (not v ≡ true → has_strange is_sensf_res us ≡ true)
      → TellsPickedF id us (if v then (if w then Ok tt else Err faults.NotFound) else Err faults.BadAnswer)
  whole_tells true true us n few sum less more lone others well ill = tells_there us n few sum (more refl) (lone refl) (well refl)
  whole_tells true false us n few sum less more lone others well ill = tells_another us (less refl) (others refl) (well refl)
  whole_tells false w us n few sum less more lone others well ill = tells_bad us n few sum (less refl) (lone refl) (ill refl)

  by_heard : (n : ℕ) (d : Bool) (ts us : List Turn) (o : Option Heard) → Vain n ts → n < 4 → Adds ts us o → At (after (picking_f id) (Reaches (Tries n d)) (note o)) us
  by_heard n d ts us None v few a =
      (n, record { shown = a.shown refl ∙ v.shown; another = a.another refl ∙ v.another; strange = a.strange refl ∙ v.strange; silent = omega (arith, a.silent, v.silent) }, few)
  by_heard n d ts us (Some (Whole g)) v few a =
      whole_tells (is_sensf_res g) (is_of id g) us n few (omega (arith, a.silent, v.silent)) (λ e. a.shown e ∙ v.shown) a.shows (λ e. a.another e ∙ v.another) a.others (λ e. a.strange e ∙ v.strange)
      a.stranger
  by_heard n d ts us (Some (Collided g)) v few a = tells_there us n few (omega (arith, a.silent, v.silent)) (a.shows refl) (a.another refl ∙ v.another) (a.strange refl ∙ v.strange)
  by_heard n d ts us (Some Damaged) v few a = tells_there us n few (omega (arith, a.silent, v.silent)) (a.shows refl) (a.another refl ∙ v.another) (a.strange refl ∙ v.strange)
  by_heard n d ts us (Some Silent) v few a =
      (record { shown = a.shown refl ∙ v.shown; another = a.another refl ∙ v.another; strange = a.strange refl ∙ v.strange; silent = omega (arith, a.silent, v.silent) }, omega (arith, few))

  asked : (s : Inventory (Unit {0})) (ts : List Turn) (t : Turn) → At (Reaches s) ts → (picking_f id).next s ≡ Asks t.request → At (after (picking_f id) (Reaches s) (note (heard t))) (ts ++ t ∷ [])
  asked (Tries n d) ts t k e = by_heard n d ts (ts ++ t ∷ []) (heard t) k.0 (few_left n _ t.request (nat_lt n tries) refl e) (adds ts t)
  asked (Told r) ts t k e = absurd cc

  never_lit : (s : Inventory (Unit {0})) (ts : List Turn) → At (Reaches s) ts → (picking_f id).next s ≡ LightUp → At (Reaches s) ts
  never_lit s ts k e = k

  -- how it ends
  tried : (n : ℕ) (ts : List Turn) → Vain n ts → n ≤ 4 → (v : Bool) → nat_lt n tries ≡ v → TellsPickedF id ts (or_memory (if v then None else Some (Err faults.NotFound)))
  tried n ts v most true h = tells_other ts n faults.Memory (less_of n 4 h) v.silent v.shown v.another v.strange (λ e. cc) (λ e. cc)
  tried n ts v most false h = record {
    there = (λ e. absurd cc, λ e. absurd (not_both (has_shown id ts) v.shown e));
    not_found = (λ e. inl (omega (arith, v.silent, most, far_of n 4 h)), λ e. refl);
    bad = (λ e. absurd cc, λ e. absurd (not_both (has_strange is_sensf_res ts) v.strange e));
  }

  ends : (s : Progress (Inventory (Unit {0}))) (ts : List Turn) → At s ts → TellsPickedF id ts (answer_of (picking_f id) s)
  ends (Reaches (Tries n d)) ts k = tried n ts k.0 k.1 (nat_lt n tries) refl
  ends (Reaches (Told r)) ts k = k
  ends Loses ts k = tells_other ts k.0 faults.FieldLost k.2 k.1.silent k.1.shown k.1.another k.1.strange (λ e. cc) (λ e. cc)

  begins : At (Reaches (Tries 0 false)) []
  begins = (record { shown = refl; another = refl; strange = refl; silent = refl }, omega arith)

  pub tells_picked_f : {L : Type 0} (m : Machine L) (old new : Air L) (r : Result (Unit {0}) PollFault) → Enquires (picking_f id) m old r new → TellsPickedF id (turns_since old new) r
  tells_picked_f m old new r q =
      let T : Result (Unit {0}) PollFault → Type 0 = λ x. TellsPickedF id (turns_since old new) x in
      subst T (sym q.comes) (ends (progress (picking_f id) (Tries 0 false) q.notes) (turns_since old new) (turns_hold (picking_f id) m At begins never_lit asked old new r q))
