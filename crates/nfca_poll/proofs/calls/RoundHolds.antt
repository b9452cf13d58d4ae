-- What is known at each point of a call by rounds, over polled listeners and whatever noise it meets.
use Rattle.std.proofs.Common.{◌≡◌, ◌⊎◌, ℕ, ◌+◌, ◌<◌, ◌≤◌, List, [], ◌∷◌, ◌++◌, length, filter, map, Bool, true, false, nat_lt, if◌then◌else◌, inl, inr, refl, sym, ◌∙◌, ap, subst, append_assoc, arith}
use Rattle.std.proofs.Common.{Option, Some, None, Result, Ok, Err}
use Rattle.std.proofs.lemmas.List.{append-nil, length-append}
use Rattle.nfc_base.specs.Trace.{Turn, noise}
use Rattle.nfc_base.specs.declared.event.Event.{Event}
use Rattle.air_core.specs.World.{Machine, World}
use Rattle.nfca_poll.specs.declared.kind.Kind.{Kind}
use Rattle.nfca_poll.specs.declared.fault.Picked.{Picked}
use Rattle.nfca_poll.specs.declared.fault.PollFault.{PollFault}
use Rattle.nfca_poll.specs.declared.fault.PollFault.TheVariants as faults
use Rattle.nfca_poll.specs.Ident.{IsIdent}
use Rattle.nfca_poll.specs.Levels.{identifier}
use Rattle.nfca_poll.specs.Poll.{Seek, Calling, Asking, Selecting, Ended, Outcome, Nobody, Disturbed, BadAnswer, Found}
use Rattle.nfca_poll.specs.Crowd.{Card, Each, is_idle, is_rest, AreDistinct, cards}
use Rattle.nfca_poll.specs.Rounds.{most_rounds, most_found, Aim, Search, Begins, Seeks, Sends, Told, next_round, has_found, met, met_or_taken, sought}
use Rattle.nfca_poll.specs.RoundTrace.{rounds, is_noisy, last_four, AreNoisy, MissesEnd, Misses, GivesUp}
use Rattle.nfca_poll.specs.AnyStart.{AreUnlinked, HaveOwnIdents}
use Rattle.nfca_poll.specs.Polled.{ArePolled, AreTidy}
use Rattle.nfca_poll.specs.RoundEnds.{LeavesActive}
use Rattle.nfca_poll.specs.Crowd.{picked_of, crowd}
use Rattle.nfca_poll.specs.RoundEnds as ends
use Rattle.nfc_base.specs.Prefix.{IsPrefix}
use Rattle.nfca_poll.proofs.quiet.Clashes.{wrong, Has}
use Rattle.nfca_poll.proofs.quiet.Eaches.{each_has, has_middle}
use Rattle.nfca_poll.proofs.quiet.Selects.{identifier_of}
use Rattle.nfca_poll.proofs.noise.PolledTurns.{unlinked_tidy}
use Rattle.nfca_poll.proofs.quiet.RoundParts.{InRound, all_noisy, misses, gives_up, calls, noisy_count, last_are}
use Rattle.nfca_poll.proofs.quiet.CrowdOrder.{each_of, mapped_each, each_unmapped, has_mapped, mapped_has, has_front, has_back, IsSorted, AllUnlike, unlike_apart, same_by_id, crowd_sorted}
use Rattle.nfca_poll.proofs.quiet.CrowdOrder.{crowd_length, crowd_has, has_crowd, crowd_unlike, unlike_cards, cards_unlike, next_is, found_has, has_found_is}
use Rattle.nfca_poll.proofs.noise.SoughtFrom.{NoneIdle, EndsWith, SoughtFrom}
use Rattle.nfca_poll.proofs.noise.PickedFrom.{PickedFrom, picked_from, shades_rest}
use Rattle.nfca_poll.proofs.calls.RoundCards.{FitsRound, picked_again, picked_sends, picked_first, unfound_idle}

-- How a call by rounds ends: it took a device, found nobody more, gave all rounds up, or found too many.
pub data CallEnds {X : Type 0} (aim : Aim X) (w : List Card) (v : List Card) (es : List Event) : Result X PollFault → Type 0 where
  taken : (p : Picked) (x : X) → aim.takes p ≡ Some x → LeavesActive p.id p.kind w v → CallEnds aim w v es (Ok x)
  nobody : (found : List Picked) → Each (λ p. aim.takes p ≡ None) found → IsPrefix found (crowd w) → (found ≡ crowd w) ⊎ Misses es → CallEnds aim w v es (aim.nobody found)
  gave_up : GivesUp es → CallEnds aim w v es (Err faults.Disturbed)
  too_many : most_found < length w → CallEnds aim w v es (Err faults.BadAnswer)

-- What doesn't change in a resolution: the cards at its start, and its turns of SENS_REQ, which stand behind others.
pub record Resolves (w : List Card) (found : List Picked) (start : List Card) (ts : List Turn) (now : List Event) : Type 0 where
  pub same : map picked_of start ≡ map picked_of w
  pub fits : Each (FitsRound false (noise now) found) start
  pub earlier : List Turn
  pub all : calls now ≡ earlier ++ ts
  pub few : noisy_count ts ≤ noise now

each_both : {X : Type 0} (P : X → Type 0) (a b : List X) → Each P a → Each P b → Each P (a ++ b)
each_both P [] b p q = q
each_both P (x ∷ a) b p q = (p.0, each_both P a b p.1 q)

each_snoc : {X : Type 0} (P : X → Type 0) (a : List X) (x : X) → Each P a → P x → Each P (a ++ x ∷ [])
each_snoc P a x p q = each_both P a (x ∷ []) p (q, tt)

module _ {L : Type 0} (m : Machine L) {identifier' : L → List ℕ} (polled : ArePolled m identifier') {X : Type 0} (aim : Aim X) (w : List Card) (field : HaveOwnIdents w) where
  abbrev pub cards_of : World L → List Card
  cards_of a = cards polled.ours a.listeners

  -- what is known in a round
  pub record Rounds (round : ℕ) (found : List Picked) (now : List Event) (a : World L) (es : List Event) : Type 0 where
    pub few : round ≤ most_rounds
    pub here : InRound es round now
    pub unlinked : AreUnlinked m polled.unlinked a.listeners
    pub same : map picked_of (cards_of a) ≡ map picked_of w
    pub rest : List Picked
    pub known : crowd w ≡ found ++ rest
    pub others : Each (λ p. aim.takes p ≡ None) found

  -- in a resolution
  pub record InSeek (round : ℕ) (found : List Picked) (s : Seek) (a : World L) (es : List Event) : Type 0 where
    pub now : List Event
    pub common : Rounds round found now a es
    pub start : List Card
    pub ts : List Turn
    pub resolves : Resolves w found start ts now
    pub sought : SoughtFrom start s (cards_of a) ts (noise now)

  -- at SLP_REQ
  pub record InSend (round : ℕ) (found : List Picked) (a : World L) (es : List Event) : Type 0 where
    pub now : List Event
    pub common : Rounds round found now a es
    pub fits : Each (FitsRound true (noise now) found) (cards_of a)

  -- before a round
  pub record AtReset (round : ℕ) (a : World L) (es : List Event) : Type 0 where
    pub few : round ≤ most_rounds
    pub tidy : AreTidy polled a.listeners
    pub same : map picked_of (cards_of a) ≡ map picked_of w
    pub noisy : AreNoisy (rounds es)
    pub count : length (rounds es) + 1 ≡ round

  abbrev pub Holds : Search X → World L → List Event → Type 0
  Holds (Begins round) a es = AtReset round a es
  Holds (Seeks round found s) a es = InSeek round found s a es
  Holds (Sends round found) a es = InSend round found a es
  Holds (Told r) a es = CallEnds aim w (cards_of a) es r

  -- the devices, whatever state they are in
  all_unlike : AllUnlike (map picked_of w)
  all_unlike = unlike_cards w field.distinct

  crowd_apart : (found rest : List Picked) → crowd w ≡ found ++ rest → AllUnlike (found ++ rest)
  crowd_apart found rest e = let P : List Picked → Type 0 = λ t. AllUnlike t in subst P e (crowd_unlike w all_unlike)

  told_idents : Each (λ (p : Picked). IsIdent p.id) (map picked_of w)
  told_idents = mapped_each picked_of (λ (p : Picked). IsIdent p.id) w field.idents

  crowd_idents : (found rest : List Picked) → crowd w ≡ found ++ rest → Each (λ (p : Picked). IsIdent p.id) (found ++ rest)
  crowd_idents found rest e =
      let P : List Picked → Type 0 = λ t. Each (λ (p : Picked). IsIdent p.id) t in
      subst P e (each_of (λ (p : Picked). IsIdent p.id) (crowd w) (λ z h. each_has (λ (p : Picked). IsIdent p.id) z (map picked_of w) told_idents (has_crowd w z h)))

  pub same_distinct : (v : List Card) → map picked_of v ≡ map picked_of w → AreDistinct v
  same_distinct v e = let P : List Picked → Type 0 = λ t. AllUnlike t in cards_unlike v (subst P (sym e) all_unlike)

  pub same_idents : (v : List Card) → map picked_of v ≡ map picked_of w → Each (λ c. IsIdent c.id) v
  same_idents v e = let P : List Picked → Type 0 = λ t. Each (λ (p : Picked). IsIdent p.id) t in each_unmapped picked_of (λ (p : Picked). IsIdent p.id) v (subst P (sym e) told_idents)

  -- a round is given up that had noise
  pub gives_round_up : (round : ℕ) (found : List Picked) (now : List Event) (a : World L) (es : List Event) → Rounds round found now a es → 0 < noise now → Holds (next_round round) a es
  gives_round_up round found now a es c n = by_count (nat_lt round most_rounds) refl
    where
      less : (k : ℕ) → nat_lt k most_rounds ≡ true → k < most_rounds
      less k h = grind arith

      last : (k : ℕ) → nat_lt k most_rounds ≡ false → k ≤ most_rounds → k ≡ most_rounds
      last k h l = grind arith

      by_count : (v : Bool) → nat_lt round most_rounds ≡ v → Holds (if v then Begins (round + 1) else Told (Err faults.Disturbed)) a es
      by_count true q =
          let k : _ × _ = all_noisy es now round c.here n in
          let l : round < most_rounds = less round q in
          record { few = omega (arith, l); tidy = unlinked_tidy m polled a.listeners c.unlinked; same = c.same; noisy = k.0; count = ap (λ i. i + 1) k.1 }
      by_count false q = gave_up (gives_up es now round c.here n (last round q c.few))

  -- Nobody: all are found, or the end was missed
  two_noisy : (ts : List Turn) (now : List Event) (earlier : List Turn) → calls now ≡ earlier ++ ts → length ts ≡ 4 → 2 ≤ noisy_count ts → MissesEnd now
  two_noisy ts now earlier e four two =
      let P : List Turn → Type 0 = λ t. 2 ≤ length (filter is_noisy t) in
      subst P (sym (ap last_four e ∙ last_are earlier ts four)) two

  idle_left : (n : ℕ) (found : List Picked) (start : List Card) (z : Picked) → Each (FitsRound false n found) start → NoneIdle start → Has z (map picked_of start) → (Has z found → ⊥) → ⊥
  idle_left n found start z fits none here unfound =
      let c : (c : Card) × Has c start × (z ≡ picked_of c) = mapped_has picked_of z start here in
      let N : Picked → Type 0 = λ q. Has q found → ⊥ in
      wrong (sym (each_has (λ (d : Card). is_idle d.front ≡ false) c.0 start none c.1) ∙ unfound_idle n found start c.0 fits c.1 (subst N c.2 unfound))

  none_left : (n : ℕ) (found : List Picked) (start : List Card) (rest : List Picked) → map picked_of start ≡ map picked_of w → Each (FitsRound false n found) start → crowd w ≡ found ++ rest
      → NoneIdle start → rest ≡ []
  none_left n found start [] same fits known none = refl
  none_left n found start (z ∷ zs) same fits known none =
      let H : List Picked → Type 0 = λ t. Has z t in
      let here : Has z (map picked_of start) = subst H (sym same) (has_crowd w z (subst H (sym known) (has_back z found (z ∷ zs) (inl refl)))) in
      let unfound : Has z found → ⊥ = λ h. unlike_apart found (z ∷ zs) z (crowd_apart found (z ∷ zs) known) h (inl refl) in
      absurd (idle_left n found start z fits none here unfound)

  lands_nobody : (round : ℕ) (found : List Picked) (now : List Event) (a : World L) (es : List Event) (start : List Card) (ts : List Turn) → Rounds round found now a es → Resolves w found start ts now
      → NoneIdle start ⊎ ((length ts ≡ 4) × (2 ≤ noisy_count ts)) → CallEnds aim w (cards_of a) es (aim.nobody found)
  lands_nobody round found now a es start ts c r (inl none) =
      let empty : c.rest ≡ [] = none_left (noise now) found start c.rest r.same r.fits c.known none in
      let all : crowd w ≡ found = c.known ∙ ap (λ t. found ++ t) empty ∙ append-nil found in
      nobody found c.others (c.rest, c.known) (inl (sym all))
  lands_nobody round found now a es start ts c r (inr q) =
      let some : 0 < noise now = (let f : noisy_count ts ≤ noise now = r.few in omega (arith, f, q.1)) in
      nobody found c.others (c.rest, c.known) (inr (misses es now round c.here some (two_noisy ts now r.earlier r.all q.0 q.1)))

  -- a device is picked
  module _ (round : ℕ) (found : List Picked) (now : List Event) (a : World L) (es : List Event) (start : List Card) (ts : List Turn) (c : Rounds round found now a es)
      (r : Resolves w found start ts now)
      (ls : List (List ℕ)) (kind : Kind) (k : PickedFrom start ls kind (cards_of a)) where
    abbrev p : Picked
    p = record { id = identifier ls; kind = kind }

    is_it : p ≡ picked_of k.picked
    is_it =
        let P : List ℕ → Kind → Picked = λ i j. record { id = i; kind = j } in
        ap (λ i. P i kind) (ap identifier k.same_levels ∙ identifier_of k.picked.id k.own_id) ∙ ap (P k.picked.id) k.same_kind

    leaves_active : LeavesActive (picked_of k.picked).id (picked_of k.picked).kind w (cards_of a)
    leaves_active = (
      k.before',
      k.behind',
      k.left,
      each_both (λ (d : Card). is_rest d.front ≡ true) k.before' k.behind' (shades_rest k.idle k.before k.before' k.shades_before) (shades_rest k.idle k.behind k.behind' k.shades_behind),
      c.same,
    )

    takes : (x : X) → aim.takes p ≡ Some x → CallEnds aim w (cards_of a) es (Ok x)
    takes x e =
        let P : Picked → Type 0 = λ q. aim.takes q ≡ Some x in
        taken (picked_of k.picked) x (subst P is_it e) leaves_active

    in_field : Has (picked_of k.picked) (map picked_of start)
    in_field =
        let H : List Card → Type 0 = λ t. Has k.picked t in
        has_mapped picked_of k.picked start (subst H (sym k.parts) (has_middle k.picked k.before k.behind))

    -- found before
    twice : has_found found (picked_of k.picked).id ≡ true → 0 < noise now
    twice e =
        let q : (q : Picked) × Has q found × (q.id ≡ (picked_of k.picked).id) = has_found_is found (picked_of k.picked).id e in
        let H : List Picked → Type 0 = λ t. Has q.0 t in
        let all : Has q.0 (map picked_of w) = has_crowd w q.0 (subst H (sym c.known) (has_front q.0 found c.rest q.1)) in
        let I : List Picked → Type 0 = λ t. Has (picked_of k.picked) t in
        let same : q.0 ≡ picked_of k.picked = same_by_id (map picked_of w) q.0 (picked_of k.picked) all_unlike all (subst I r.same in_field) q.2 in
        let F : Picked → Type 0 = λ t. Has t found in
        picked_again (noise now) found start ls kind (cards_of a) r.fits k (subst F same q.1)

    -- not found before: it is the next of the crowd
    once : has_found found (picked_of k.picked).id ≡ false → Has (picked_of k.picked) found → ⊥
    once e h = wrong (sym e ∙ found_has found (picked_of k.picked) h)

    the_next : (Has (picked_of k.picked) found → ⊥) → (more : List Picked) × (c.rest ≡ picked_of k.picked ∷ more)
    the_next new =
        let I : List Picked → Type 0 = λ t. Has (picked_of k.picked) t in
        let S : List Picked → Type 0 = λ t. IsSorted t in
        let there : Has (picked_of k.picked) (found ++ c.rest) = subst I c.known (crowd_has w (picked_of k.picked) (subst I r.same in_field)) in
        next_is found c.rest (picked_of k.picked) (subst S c.known (crowd_sorted w)) (crowd_apart found c.rest c.known) (crowd_idents found c.rest c.known) there new
        (λ z h. picked_first (noise now) found start ls kind (cards_of a) r.fits k new z
        (let H : List Picked → Type 0 = λ t. Has z t in subst H (sym r.same) (has_crowd w z (subst H (sym c.known) (has_back z found c.rest h))))
        (λ f. unlike_apart found c.rest z (crowd_apart found c.rest c.known) f h))

    no_room : (more : List Picked) → c.rest ≡ picked_of k.picked ∷ more → nat_lt (length found) most_found ≡ false → most_found < length w
    no_room more e q =
        let n : length (crowd w) ≡ length found + length (picked_of k.picked ∷ more) = ap length (c.known ∙ ap (λ t. found ++ t) e) ∙ length-append found (picked_of k.picked ∷ more) in
        let l : length (crowd w) ≡ length w = crowd_length w in
        let f : most_found ≤ length found = full (length found) q in
        omega (arith, n, l, f)
      where
        full : (i : ℕ) → nat_lt i most_found ≡ false → most_found ≤ i
        full i h = grind arith

    sends : aim.takes (picked_of k.picked) ≡ None → (Has (picked_of k.picked) found → ⊥) → InSend round (found ++ picked_of k.picked ∷ []) a es
    sends e new =
        let more : (more : List Picked) × (c.rest ≡ picked_of k.picked ∷ more) = the_next new in
        record {
          now = now;
          common = record {
            few = c.few;
            here = c.here;
            unlinked = c.unlinked;
            same = c.same;
            rest = more.0;
            known = c.known ∙ ap (λ t. found ++ t) more.1 ∙ sym (append_assoc found (picked_of k.picked ∷ []) more.0);
            others = each_snoc (λ q. aim.takes q ≡ None) found (picked_of k.picked) c.others e;
          };
          fits = picked_sends (noise now) found start ls kind (cards_of a) r.fits k new;
        }

    meets : aim.takes (picked_of k.picked) ≡ None → Holds (met aim next_round round found (picked_of k.picked)) a es
    meets e = by_found (has_found found (picked_of k.picked).id) refl
      where
        by_room : (Has (picked_of k.picked) found → ⊥) → (v : Bool) → nat_lt (length found) most_found ≡ v
            → Holds (if v then Sends round (found ++ picked_of k.picked ∷ []) else Told (Err faults.BadAnswer)) a es
        by_room new true q = sends e new
        by_room new false q = let more : (more : List Picked) × (c.rest ≡ picked_of k.picked ∷ more) = the_next new in too_many (no_room more.0 more.1 q)

        by_found : (v : Bool) → has_found found (picked_of k.picked).id ≡ v
            → Holds (if v then next_round round else if nat_lt (length found) most_found then Sends round (found ++ picked_of k.picked ∷ []) else Told (Err faults.BadAnswer)) a es
        by_found true q = gives_round_up round found now a es c (twice q)
        by_found false q = by_room (once q) (nat_lt (length found) most_found) refl

    pub lands_found : Holds (met_or_taken aim next_round round found p (aim.takes p)) a es
    lands_found = by_aim (aim.takes p) refl
      where
        by_aim : (o : Option X) → aim.takes p ≡ o → Holds (met_or_taken aim next_round round found p o) a es
        by_aim (Some x) q = takes x q
        by_aim None q =
            let P : Picked → Type 0 = λ t. Holds (met aim next_round round found t) a es in
            let N : Picked → Type 0 = λ t. aim.takes t ≡ None in
            subst P (sym is_it) (meets (subst N is_it q))

  -- whatever a resolution has come to
  no_found : (o : Outcome) (ls : List (List ℕ)) (kind : Kind) → ◌≡◌ {A = Outcome} Nobody (Found ls kind) → ⊥
  no_found o ls kind e = cc

  not_disturbed : (ls : List (List ℕ)) (kind : Kind) → ◌≡◌ {A = Outcome} Disturbed (Found ls kind) → ⊥
  not_disturbed ls kind e = cc

  not_bad : (ls : List (List ℕ)) (kind : Kind) → ◌≡◌ {A = Outcome} BadAnswer (Found ls kind) → ⊥
  not_bad ls kind e = cc

  nobody_disturbed : ◌≡◌ {A = Outcome} Nobody Disturbed → ⊥
  nobody_disturbed e = cc

  disturbed_nobody : ◌≡◌ {A = Outcome} Disturbed Nobody → ⊥
  disturbed_nobody e = cc

  bad_disturbed : ◌≡◌ {A = Outcome} BadAnswer Disturbed → ⊥
  bad_disturbed e = cc

  bad_nobody : ◌≡◌ {A = Outcome} BadAnswer Nobody → ⊥
  bad_nobody e = cc

  found_disturbed : (ls : List (List ℕ)) (kind : Kind) → ◌≡◌ {A = Outcome} (Found ls kind) Disturbed → ⊥
  found_disturbed ls kind e = cc

  found_nobody : (ls : List (List ℕ)) (kind : Kind) → ◌≡◌ {A = Outcome} (Found ls kind) Nobody → ⊥
  found_nobody ls kind e = cc

  lands_end : (o : Outcome) (round : ℕ) (found : List Picked) (now : List Event) (a : World L) (es : List Event) (start : List Card) (ts : List Turn) → Rounds round found now a es
      → Resolves w found start ts now
      → EndsWith start o (cards_of a) ts (noise now) → Holds (sought aim next_round round found (Ended o)) a es
  lands_end Nobody round found now a es start ts c r (inl p) = absurd (no_found Nobody _ _ p.seeks.0)
  lands_end Nobody round found now a es start ts c r (inr (inl e)) = absurd (nobody_disturbed e.0)
  lands_end Nobody round found now a es start ts c r (inr (inr e)) = lands_nobody round found now a es start ts c r e.1
  lands_end Disturbed round found now a es start ts c r (inl p) = absurd (not_disturbed _ _ p.seeks.0)
  lands_end Disturbed round found now a es start ts c r (inr (inl e)) = gives_round_up round found now a es c e.1
  lands_end Disturbed round found now a es start ts c r (inr (inr e)) = absurd (disturbed_nobody e.0)
  lands_end BadAnswer round found now a es start ts c r (inl p) = absurd (not_bad _ _ p.seeks.0)
  lands_end BadAnswer round found now a es start ts c r (inr (inl e)) = absurd (bad_disturbed e.0)
  lands_end BadAnswer round found now a es start ts c r (inr (inr e)) = absurd (bad_nobody e.0)
  lands_end (Found ls kind) round found now a es start ts c r (inl p) = lands_found round found now a es start ts c r ls kind (picked_from start ls kind (cards_of a) p)
  lands_end (Found ls kind) round found now a es start ts c r (inr (inl e)) = absurd (found_disturbed ls kind e.0)
  lands_end (Found ls kind) round found now a es start ts c r (inr (inr e)) = absurd (found_nobody ls kind e.0)

  pub lands : (s : Seek) (round : ℕ) (found : List Picked) (now : List Event) (a : World L) (es : List Event) (start : List Card) (ts : List Turn) → Rounds round found now a es
      → Resolves w found start ts now
      → SoughtFrom start s (cards_of a) ts (noise now) → Holds (sought aim next_round round found s) a es
  lands (Calling n) round found now a es start ts c r q = record { now = now; common = c; start = start; ts = ts; resolves = r; sought = q }
  lands (Asking done known) round found now a es start ts c r q = record { now = now; common = c; start = start; ts = ts; resolves = r; sought = q }
  lands (Selecting done l) round found now a es start ts c r q = record { now = now; common = c; start = start; ts = ts; resolves = r; sought = q }
  lands (Ended o) round found now a es start ts c r q = lands_end o round found now a es start ts c r q
