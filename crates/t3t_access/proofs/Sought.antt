-- Why a selection by an identifier of NFC-F finds nothing.
use Rattle.std.proofs.Common.{◌≡◌, ◌⊎◌, ◌≤◌, ℕ, List, Bool, true, false, if◌then◌else◌, inl, inr, None, Some, Result, Ok, Err, refl, sym, ◌∙◌, ap, nat_eq, take, drop}
use Rattle.std.specs.Cmp.Lexicographic.{pointwise}
use Rattle.nfc_base.specs.Signal.{Signal}
use Rattle.air_core.specs.World.{Machine, answered_by}
use Rattle.nfca_poll.specs.declared.fault.PollFault.{PollFault}
use Rattle.nfca_poll.specs.declared.fault.PollFault.TheVariants as faults
use Rattle.nfca_poll.specs.Crowd.{Each}
use Rattle.nfca_poll.specs.Inventory.{NoneAnswers}
use Rattle.nfca_poll.proofs.quiet.Eaches.{each_map}
use Rattle.nfca_poll.proofs.quiet.Steady.{AnswersThat}
use Rattle.t3t_access.specs.Polling.{sensf_req, is_sensf_res, is_of, judged_res, IsNotOf}

by_other : (v w : Bool) → ◌≡◌ {A = Result (Unit {0}) PollFault} (if v then (if w then Ok tt else Err faults.NotFound) else Err faults.BadAnswer) (Err faults.NotFound) → w ≡ false
by_other true true e = absurd cc
by_other true false e = refl
by_other false w e = absurd cc

by_strange : (v w : Bool) → ◌≡◌ {A = Result (Unit {0}) PollFault} (if v then (if w then Ok tt else Err faults.NotFound) else Err faults.BadAnswer) (Err faults.BadAnswer) → v ≡ true → ⊥
by_strange true true e h = cc
by_strange true false e h = cc
by_strange false w e h = cc

-- a whole answer of another tag says that none is the one which is sought
pub others_stand : {L : Type 0} (m : Machine L) (id : List ℕ) (g : Signal) (ls : List L) → judged_res id g ≡ Err faults.NotFound → Each (AnswersThat m sensf_req g) ls → Each (IsNotOf m id) ls
others_stand m id g ls e = each_map (AnswersThat m sensf_req g) (IsNotOf m id)
    (λ l k x z. ap (λ b. pointwise nat_eq (take 8 (drop 2 b)) id) (k x z) ∙ by_other (is_sensf_res g) (is_of id g) e) ls

-- so does that nobody answers
pub none_stands : {L : Type 0} (m : Machine L) (id : List ℕ) (ls : List L) {n k : ℕ} → NoneAnswers m sensf_req ls ⊎ (n ≤ k) → Each (IsNotOf m id) ls ⊎ (n ≤ k)
none_stands m id ls (inl none) = inl (each_map (λ l. answered_by m l sensf_req None ≡ None) (IsNotOf m id) (λ l q x z. absurd (let n : None ≡ Some x = sym q ∙ z in cc)) ls none)
none_stands m id ls (inr far) = inr far

pub strange_judged : (id : List ℕ) (g : Signal) → judged_res id g ≡ Err faults.BadAnswer → is_sensf_res g ≡ true → ⊥
strange_judged id g e h = by_strange (is_sensf_res g) (is_of id g) e h
