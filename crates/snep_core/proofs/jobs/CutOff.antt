-- What a server accepted by a step that want of memory left unfinished.
use Rattle.std.proofs.Common.{◌≡◌, ◌⊎◌, ℕ, List, [], Option, Some, None, refl, sym, ◌∙◌, subst, append-nil, inl, inr}
use Rattle.llcp_link.specs.State.{LlcState}
use Rattle.llcp_link.specs.Taking.{Item, brought, steps, taken_from}
use Rattle.llcp_link.specs.Giving.{Gave, IsAllowed, gave, given_parts}
use Rattle.llcp_link.specs.Halting.{LeavesService, IsStuck}
use Rattle.llcp_link.specs.Offering.{LeavesNext, LeftBy}
use Rattle.llcp_link.specs.Answering.{Answers, IsStuckGiving}
use Rattle.llcp_link.proofs.StepsSoFar.{steps_more}
use Rattle.snep_core.specs.Payloads.{CutOffAccepts}
use Rattle.nfc_base.specs.Prefix.{IsPrefix}
use Rattle.snep_core.specs.Server.{Received, ServerState, received, serving, session_of}
use Rattle.snep_core.specs.Session.{did}
use Rattle.snep_core.proofs.sessions.PayloadLaw.{front_more}
use Rattle.snep_core.proofs.jobs.CallsKeep.{Keeps, gave_keeps, giving_keeps, parts_keep, steps_keep}

abbrev Accepted : LlcState ServerState → List Received
Accepted l = l.service.accepted

same_front : (xs ys : List Received) → ys ≡ xs → IsPrefix xs ys
same_front xs ys e = ([], e ∙ sym (append-nil xs))

-- PDUs that come add to what is accepted
pub taking_adds : (l : LlcState ServerState) (is : List Item) → IsPrefix (Accepted l) (Accepted (steps serving l is))
taking_adds l is =
    steps_keep serving (λ s. IsPrefix (Accepted l) s.accepted) (λ s c h. h)
    (λ s c u h. front_more (Accepted l) s.accepted (received c (did s.limit s.table (session_of s c) u).accepts) h) l is (same_front (Accepted l) (Accepted l) refl)

-- want of memory leaves what was accepted
pub left_same : (old new : ServerState) → LeavesService serving old new → new.accepted ≡ old.accepted
left_same old new (inl e) = subst (λ z. z.accepted ≡ old.accepted) (sym e) refl
left_same old new (inr k) = k.accepted

module _ (xs : List Received) where
  abbrev IsSame : ServerState → Type 0
  IsSame s = s.accepted ≡ xs

  next_same : (l : LlcState ServerState) (s : ServerState) → IsSame l.service → LeavesNext serving (gave serving l) l.service s → IsSame s
  next_same l s h (inl k) = left_same l.service s k ∙ h
  next_same l s h (inr k) = go (gave serving l) (gave_keeps serving IsSame (λ s c miu h. h) l h) k
    where
      go : (q : Option (Gave ServerState)) → Keeps serving IsSame (λ s c miu h. h) q → LeftBy q s → IsSame s
      go None a b = absurd b
      go (Some x) a b = subst IsSame (sym b) a

  -- what is given adds nothing
  pub giving_same : (l new : LlcState ServerState) → IsSame l.service → IsStuckGiving serving l new → IsSame new.service
  giving_same l new h k = next_same k.halts.front new.service (front_same k.halts.is_front) k.halts.service
    where
      front_same : (k.halts.front ≡ l) ⊎ ((n : ℕ) × IsAllowed serving l n × (k.halts.front ≡ (given_parts serving n l).llc)) → IsSame k.halts.front.service
      front_same (inl e) = subst (λ z. IsSame z.service) (sym e) h
      front_same (inr (n, a, e)) = subst (λ z. IsSame z.service) (sym e) (parts_keep serving IsSame (λ s c miu h. h) n l h)

cut_taking : (old new : LlcState ServerState) (payload : List ℕ) → IsStuck serving old (brought old payload) new
    → IsPrefix (Accepted old) (Accepted new) × IsPrefix (Accepted new) (Accepted (taken_from serving old payload))
cut_taking old new payload k =
    let h = k.halts in
    let e = left_same (steps serving old h.front).service new.service h.service in
    let whole : IsPrefix (Accepted (steps serving old h.front)) (Accepted (steps serving old (brought old payload))) =
    subst (λ is. IsPrefix (Accepted (steps serving old h.front)) (Accepted (steps serving old is))) (sym h.split)
    (subst (λ z. IsPrefix (Accepted (steps serving old h.front)) (Accepted z)) (sym (steps_more serving old h.front h.behind)) (taking_adds (steps serving old h.front) h.behind)) in
    (subst (IsPrefix (Accepted old)) (sym e) (taking_adds old h.front), subst (λ z. IsPrefix z (Accepted (taken_from serving old payload))) (sym e) whole)

cut_giving : (old new : LlcState ServerState) (payload : List ℕ) → IsStuckGiving serving (taken_from serving old payload) new
    → IsPrefix (Accepted old) (Accepted new) × IsPrefix (Accepted new) (Accepted (taken_from serving old payload))
cut_giving old new payload k =
    let whole = taken_from serving old payload in
    let e = giving_same (Accepted whole) whole new refl k in
    (subst (IsPrefix (Accepted old)) (sym e) (taking_adds old (brought old payload)), same_front (Accepted new) (Accepted whole) (sym e))

whole_accepts : (count : ℕ) (old done : LlcState ServerState) (payload reply : List ℕ) → Answers serving count old payload reply done → Accepted done ≡ Accepted (taken_from serving old payload)
whole_accepts count old done payload reply h =
    let whole = taken_from serving old payload in
    subst (λ z. Accepted z ≡ Accepted whole) (sym h.gives.left) (giving_keeps serving (IsSame (Accepted whole)) (λ s c miu h. h) count whole refl)

pub cut_off_accepts : CutOffAccepts
cut_off_accepts old new payload (inl k) =
    let h = cut_taking old new payload k in record { before = h.0; front = h.1; whole = λ count reply done a. whole_accepts count old done payload reply a }
cut_off_accepts old new payload (inr k) =
    let h = cut_giving old new payload k in record { before = h.0; front = h.1; whole = λ count reply done a. whole_accepts count old done payload reply a }
