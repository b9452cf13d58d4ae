-- The first of those that are idle, as the crowd's order has it; and that a resolution over devices at rest ends by it.
use Rattle.std.proofs.Common.{◌≡◌, ◌≢◌, ◌⊎◌, ℕ, ◌<◌, ◌≤◌, List, [], ◌∷◌, ◌++◌, length, drop, filter, Bool, true, false, if◌then◌else◌, inl, inr, refl, sym, ◌∙◌, ap, subst, arith, Result, Ok, Err}
use Rattle.nfc_base.specs.Trace.{noise, breaks}
use Rattle.nfc_base.specs.declared.event.Event.{Event}
use Rattle.nfc_base.specs.declared.event.Event.TheVariants.{Reset, Request, Answer, Clash}
use Rattle.air_core.specs.World.{Machine}
use Rattle.air_core.specs.Turn.{Air}
use Rattle.nfca_poll.specs.declared.fault.Picked.{Picked}
use Rattle.nfca_poll.specs.declared.fault.PollFault.{PollFault}
use Rattle.nfca_poll.specs.declared.fault.PollFault.TheVariants as faults
use Rattle.nfca_poll.specs.Enquiry.{LosesByBreak}
use Rattle.nfca_poll.specs.Ident.{IsIdent}
use Rattle.nfca_poll.specs.Front.{Active}
use Rattle.nfca_poll.specs.Rounds.{is_same}
use Rattle.nfca_poll.specs.Crowd.{Card, Each, ahead, crowd_bits, with_front, is_idle, is_rest, AreOurs, cards, picked_of, put_by, crowd, first_picked, first_idle, with_active, left_by, EndsByFirst}
use Rattle.nfca_poll.specs.Crowd.{PicksFirst, PicksFromRest}
use Rattle.nfca_poll.proofs.quiet.CrowdParts.{IsFirst, EndsThroughNoise, PicksThroughNoise, EndsAlone, FindsNobody}
use Rattle.nfca_poll.proofs.identifiers.HeardBits.{pointwise_same, pointwise_path}
use Rattle.nfca_poll.proofs.noise.NobodyIdle.{Sleeps}
use Rattle.nfca_poll.proofs.quiet.Causes.{Leads, none, some, leads}
use Rattle.nfca_poll.proofs.quiet.CrowdOrder.{ids_same, ahead_both}
use Rattle.air_core.proofs.LostField.{break_noise}

-- one device more
put_empty : (p : Picked) (ps : List Picked) → first_picked ps ≡ Err faults.Nobody → first_picked (put_by p ps) ≡ Ok p
put_empty p [] e = refl
put_empty p (q ∷ qs) e = absurd cc

picked_in : Picked → Result Picked PollFault → Picked
picked_in d (Ok p) = p
picked_in d (Err f) = d

put_first : (p : Picked) (ps : List Picked) (q : Picked) → first_picked ps ≡ Ok q → first_picked (put_by p ps) ≡ Ok (if ahead (crowd_bits p.id) (crowd_bits q.id) then p else q)
unfolding picked_in
put_first p [] q e = absurd cc
put_first p (r ∷ rs) q e =
    let same : r ≡ q = ap (picked_in r) e in
    by_order (ahead (crowd_bits p.id) (crowd_bits r.id)) refl ∙ ap (λ (x : Picked). Ok (if ahead (crowd_bits p.id) (crowd_bits x.id) then p else x)) same
  where
    by_order : (v : Bool) → ahead (crowd_bits p.id) (crowd_bits r.id) ≡ v → first_picked (if v then p ∷ r ∷ rs else r ∷ put_by p rs) ≡ Ok (if v then p else r)
    by_order true e = refl
    by_order false e = refl

skipped : (c : Card) (w : List Card) → is_idle c.front ≡ false → first_idle (c ∷ w) ≡ first_idle w
skipped c w h = ap (λ v. first_picked (crowd (if v then c ∷ filter (λ d. is_idle d.front) w else filter (λ d. is_idle d.front) w))) h

taken : (c : Card) (w : List Card) → is_idle c.front ≡ true → first_idle (c ∷ w) ≡ first_picked (put_by (picked_of c) (crowd (filter (λ d. is_idle d.front) w)))
taken c w h = ap (λ v. first_picked (crowd (if v then c ∷ filter (λ d. is_idle d.front) w else filter (λ d. is_idle d.front) w))) h

-- where none is idle there is none
pub none_idle : (w : List Card) → Each Sleeps w → first_idle w ≡ Err faults.Nobody
none_idle [] s = refl
none_idle (c ∷ w) s = skipped c w s.0.1 ∙ none_idle w s.1

-- behind the first there is none, or one that comes after it
abbrev IsBehind : List ℕ → Card → Type 0
IsBehind id c = is_idle c.front ≡ true → ahead (crowd_bits id) (crowd_bits c.id) ≡ true

abbrev IsLater : List ℕ → Result Picked PollFault → Type 0
IsLater id r = (r ≡ Err faults.Nobody) ⊎ ((q : Picked) × (r ≡ Ok q) × (ahead (crowd_bits id) (crowd_bits q.id) ≡ true))

choose : (id : List ℕ) (v : Bool) (p q : Picked) → ahead (crowd_bits id) (crowd_bits p.id) ≡ true → ahead (crowd_bits id) (crowd_bits q.id) ≡ true
    → ahead (crowd_bits id) (crowd_bits (if v then p else q).id) ≡ true
choose id true p q h k = h
choose id false p q h k = k

behind : (id : List ℕ) (w : List Card) → Each (IsBehind id) w → IsLater id (first_idle w)
behind id [] e = inl refl
behind id (c ∷ w) e = by_front (is_idle c.front) refl (behind id w e.1)
  where
    by_front : (v : Bool) → is_idle c.front ≡ v → IsLater id (first_idle w) → IsLater id (first_idle (c ∷ w))
    by_front false h (inl k) = inl (skipped c w h ∙ k)
    by_front false h (inr k) = inr (k.0, skipped c w h ∙ k.1, k.2)
    by_front true h (inl k) = inr (picked_of c, taken c w h ∙ put_empty (picked_of c) (crowd (filter (λ d. is_idle d.front) w)) k, e.0 h)
    by_front true h (inr k) =
        inr (
          (if ahead (crowd_bits c.id) (crowd_bits k.0.id) then picked_of c else k.0),
          taken c w h ∙ put_first (picked_of c) (crowd (filter (λ d. is_idle d.front) w)) k.0 k.1,
          choose id (ahead (crowd_bits c.id) (crowd_bits k.0.id)) (picked_of c) k.0 (e.0 h) k.2,
        )

at_first : (m : Card) (b : List Card) → is_idle m.front ≡ true → IsLater m.id (first_idle b) → first_idle (m ∷ b) ≡ Ok (picked_of m)
at_first m b h (inl k) = taken m b h ∙ put_empty (picked_of m) (crowd (filter (λ d. is_idle d.front) b)) k
at_first m b h (inr k) =
    taken m b h ∙ put_first (picked_of m) (crowd (filter (λ d. is_idle d.front) b)) k.0 k.1 ∙ ap (λ v. Ok (if v then picked_of m else k.0)) k.2

-- before it stands none that comes before it
after_ids : (v : Bool) (p q : Picked) → (v ≡ true → ⊥) → ◌≡◌ {A = Result Picked PollFault} (Ok (if v then p else q)) (Ok q)
after_ids true p q h = absurd (h refl)
after_ids false p q h = refl

before_first : (a : List Card) (m : Card) (b : List Card) → IsIdent m.id → first_idle (m ∷ b) ≡ Ok (picked_of m) → Each (λ c. IsIdent c.id × (is_rest c.front ≡ true)) (a ++ m ∷ b)
    → Each (IsBehind m.id) (a ++ m ∷ b) → Each (λ c. c.id ≢ m.id) a
    → first_idle (a ++ m ∷ b) ≡ Ok (picked_of m)
before_first [] m b i q cs f d = q
before_first (c ∷ a) m b i q cs f d = by_front (is_idle c.front) refl (before_first a m b i q cs.1 f.1 d.1)
  where
    by_front : (v : Bool) → is_idle c.front ≡ v → first_idle (a ++ m ∷ b) ≡ Ok (picked_of m) → first_idle (c ∷ (a ++ m ∷ b)) ≡ Ok (picked_of m)
    by_front false h k = skipped c (a ++ m ∷ b) h ∙ k
    by_front true h k =
        taken c (a ++ m ∷ b) h ∙ put_first (picked_of c) (crowd (filter (λ d. is_idle d.front) (a ++ m ∷ b))) (picked_of m) k
        ∙ after_ids (ahead (crowd_bits c.id) (crowd_bits m.id)) (picked_of c) (picked_of m) (λ x. d.0 (ids_same c.id m.id cs.0.0 i (ahead_both (crowd_bits c.id) (crowd_bits m.id) x (f.0 h))))

back_of : {X : Type 0} (P : X → Type 0) (a : List X) (x : X) (b : List X) → Each P (a ++ x ∷ b) → P x × Each P b
back_of P [] x b e = e
back_of P (y ∷ a) x b e = back_of P a x b e.1

pub first_is : (a : List Card) (m : Card) (b : List Card) → IsFirst a m b → first_idle (a ++ m ∷ b) ≡ Ok (picked_of m)
first_is a m b F =
    let own = back_of (λ c. IsIdent c.id × (is_rest c.front ≡ true)) a m b F.cards in
    let later = back_of (IsBehind m.id) a m b F.first in
    before_first a m b own.0.0 (at_first m b (ap is_idle F.idle) (behind m.id b later.1)) F.cards F.first F.distinct_before

-- the devices once it is active
not_same : (x y : List ℕ) → x ≢ y → is_same x y ≡ false
not_same x y d = by_test (is_same x y) refl
  where
    by_test : (v : Bool) → is_same x y ≡ v → v ≡ false
    by_test true e = absurd (d (pointwise_path x y e))
    by_test false e = refl

others_stay : (id : List ℕ) (w : List Card) → Each (λ c. c.id ≢ id) w → with_active id w ≡ w
others_stay id [] d = refl
others_stay id (c ∷ w) d =
    ap (λ v. (if v then with_front c (Active false) else c) ∷ with_active id w) (not_same c.id id d.0) ∙ ap (λ t. c ∷ t) (others_stay id w d.1)

pub one_active : (a : List Card) (m : Card) (b : List Card) → Each (λ c. c.id ≢ m.id) a → Each (λ c. c.id ≢ m.id) b → a ++ with_front m (Active false) ∷ b ≡ with_active m.id (a ++ m ∷ b)
one_active [] m b d e =
    sym (ap (λ v. (if v then with_front m (Active false) else m) ∷ with_active m.id b) (pointwise_same m.id) ∙ ap (λ t. with_front m (Active false) ∷ t) (others_stay m.id b e))
one_active (c ∷ a) m b d e =
    ap (λ t. c ∷ t) (one_active a m b d.1 e) ∙ sym (ap (λ v. (if v then with_front c (Active false) else c) ∷ with_active m.id (a ++ m ∷ b)) (not_same c.id m.id d.0))

breaks_noise : (es : List Event) → breaks es ≤ noise es
breaks_noise [] = omega arith
breaks_noise (Reset ∷ es) = breaks_noise es
breaks_noise (Request f x ∷ es) = let a = break_noise x in let b = breaks_noise es in omega (arith, a, b)
breaks_noise (Answer f x ∷ es) = let a = break_noise x in let b = breaks_noise es in omega (arith, a, b)
breaks_noise (Clash f x ∷ es) = let a = break_noise x in let b = breaks_noise es in omega (arith, a, b)

no_break : (lit : Bool) (es : List Event) → lit ≡ true → noise es ≡ 0 → (lit ≡ false) ⊎ (0 < breaks es) → ⊥
no_break lit es l z (inl d) = cc
no_break lit es l z (inr b) = let few = breaks_noise es in omega (arith, z, b, few)

-- how a resolution ends
ok_no_err : (p : Picked) → ◌≡◌ {A = Result Picked PollFault} (Ok p) (Err faults.Nobody) → ⊥
ok_no_err p e = cc

through_noise : (a : List Card) (m : Card) (b : List Card) (r : Result Picked PollFault) (v : List Card) (n : ℕ) → IsFirst a m b → EndsThroughNoise a m b r v n → EndsByFirst (a ++ m ∷ b) r v n
through_noise a m b (Ok p) v n F e =
    let id : p.id ≡ m.id = ap (λ (x : Picked). x.id) e.0 in (
      first_is a m b F ∙ ap Ok (sym e.0),
      e.1 ∙ one_active a m b F.distinct_before F.distinct_after ∙ ap (λ x. with_active x (a ++ m ∷ b)) (sym id),
    )
through_noise a m b (Err faults.Nobody) v n F e = inr e
through_noise a m b (Err faults.Disturbed) v n F e = ((λ q. ok_no_err (picked_of m) (sym (first_is a m b F) ∙ q)), e)
through_noise a m b (Err faults.FieldLost) v n F e = tt
through_noise a m b (Err faults.Memory) v n F e = tt
through_noise a m b (Err faults.NotFound) v n F e = absurd e
through_noise a m b (Err faults.BadAnswer) v n F e = absurd e

alone_ends : (w : List Card) (r : Result Picked PollFault) (v : List Card) (n : ℕ) → Each Sleeps w → EndsAlone w r v → EndsByFirst w r v n
alone_ends w (Ok p) v n s e = absurd e
alone_ends w (Err faults.Nobody) v n s e = inl (none_idle w s, e)
alone_ends w (Err faults.Disturbed) v n s e = absurd e
alone_ends w (Err faults.FieldLost) v n s e = tt
alone_ends w (Err faults.Memory) v n s e = tt
alone_ends w (Err faults.NotFound) v n s e = absurd e
alone_ends w (Err faults.BadAnswer) v n s e = absurd e

module _ {L : Type 0} (m : Machine L) (identifier' : L → List ℕ) (ours : AreOurs m identifier') (old new : Air L) (r : Result Picked PollFault) where
  pub from_rest : PicksThroughNoise ours old r new → FindsNobody ours old r new → PicksFromRest ours old r new
  from_rest picks finds crowd = by_lead (cards ours old.listeners) refl (leads (cards ours old.listeners) crowd.cards crowd.distinct)
    where
      by_lead : (w : List Card) → cards ours old.listeners ≡ w → Leads w → EndsByFirst w r (cards ours new.listeners) (noise (drop (length old.trace) new.trace))
      by_lead _ e (none w s) =
          let S : List Card → Type 0 = λ x. Each Sleeps x in
          let P : List Card → Type 0 = λ x. EndsAlone x r (cards ours new.listeners) in
          alone_ends w r (cards ours new.listeners) (noise (drop (length old.trace) new.trace)) s (subst P e (finds (subst S (sym e) s)))
      by_lead _ e (some a c b F) = through_noise a c b r (cards ours new.listeners) (noise (drop (length old.trace) new.trace)) F (picks a c b e F)

  -- and where there was no noise
  quiet : (w v : List Card) (q : Result Picked PollFault) (n : ℕ) → n ≡ 0 → (q ≡ Err faults.FieldLost → ⊥) → EndsByFirst w q v n → (q ≡ Err faults.Memory) ⊎ ((q ≡ first_idle w) × (v ≡ left_by q w))
  quiet w v (Ok p) n z l e = inr (sym e.0, e.1)
  quiet w v (Err faults.Nobody) n z l (inl e) = inr (sym e.0, e.1)
  quiet w v (Err faults.Nobody) n z l (inr e) = absurd (omega (arith, z, e))
  quiet w v (Err faults.Disturbed) n z l e = absurd (omega (arith, z, e.1))
  quiet w v (Err faults.FieldLost) n z l e = absurd (l refl)
  quiet w v (Err faults.Memory) n z l e = inl refl
  quiet w v (Err faults.NotFound) n z l e = absurd e
  quiet w v (Err faults.BadAnswer) n z l e = absurd e

  pub picks_first : old.lit ≡ true → LosesByBreak old r new → PicksFromRest ours old r new → PicksFirst ours old r new
  picks_first lit lost from crowd z =
      quiet (cards ours old.listeners) (cards ours new.listeners) r (noise (drop (length old.trace) new.trace)) z (λ e. no_break old.lit (drop (length old.trace) new.trace) lit z (lost e))
      (from crowd)
