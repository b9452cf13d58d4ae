-- What a call over the open link of a field comes to.
use Rattle.std.proofs.Common.{◌≡◌, ◌≤◌, ℕ, List, length, Bool, Option, None, refl, sym, subst, inl, inr}
use Rattle.nfc_base.specs.Choosing.{Choosing}
use Rattle.nfc_base.specs.declared.carrier.EndCause.{EndCause}
use Rattle.nfc_base.specs.declared.carrier.EndCause.TheVariants as cause
use Rattle.air_core.specs.Turn.{Air}
use Rattle.air_core.specs.declared.listener.Listener.{Ghosts}
use Rattle.air_core.proofs.PlainAside.{Laws}
use Rattle.dep_link.specs.Target.{TargetState}
use Rattle.dep_link.specs.Initiator.{InitState}
use Rattle.dep_link.specs.DepLinks.{DepSeen, IsDepReady, first_seen}
use Rattle.llcp_link.specs.Counting.{AnswersCounted, StopsCounted}
use Rattle.far_air.specs.FarLaws.{IsLinked}
use Rattle.peer_air.specs.PeerFars.{peer_ends}
use Rattle.peer_air.specs.SwapTurns.{Stands}
use Rattle.snep_core.specs.declared.fault.SnepFault.{SnepFault}
use Rattle.snep_core.specs.Accord.{PeerState}
use Rattle.snep_core.specs.Server.{serving}
use Rattle.snep_core.specs.Calling.{Talks, Breaks, FailsBy, fault_of, gives_up}
use Rattle.snep_core.specs.Calling as calling
use Rattle.snep_core.specs.declared.job.Job.TheVariants.{Over}
use Rattle.snep_core.specs.declared.job.Ending.TheVariants.{Refused}
use Rattle.snep_core.specs.Talk.{EndState, Step, Ends, numbers_behind, one_on}
use Rattle.link_calls.specs.Walk.{Course, Through}
use Rattle.link_calls.specs.private.Walking.{Walks}
use Rattle.link_calls.specs.CallDue.{Comes, OnCall, by_client, next_of}
use Rattle.link_calls.specs.CallTurns.{CallTurns, sees, swaps}
use Rattle.link_calls.specs.Carrying.{IsWalkCut}
use Rattle.link_calls.specs.Calls.{IsOpen, IsMade, IsCutOff, CallFails, RequestFails}
use Rattle.link_calls.proofs.CallWalk.{breaks_so, walks_of}
use Rattle.link_calls.proofs.Walked.{came, cut_off_by, opened, reached, within_by}

-- What is said of what a link borrows is said of what it gives back.
pub given_back : {L : Type 0} (P : Air L → InitState → Type 0) (b y : Air L) (j z : InitState) → b ≡ y → j ≡ z → P b j → P y z
given_back P b y j z field initiator p = subst (P y) initiator (subst (λ a. P a j) field p)

module _ {L C : Type 0} (k : Ghosts L) (target : L → TargetState) (see : C → DepSeen L) where
  module _ (laws : Laws k) (a b : C) (far after : Choosing PeerState) (old : Air L) (i : InitState) (is : see a ≡ first_seen old i) (open_ : IsOpen k target old i)
      (ready : (see b).over ≡ None → IsDepReady k target (see b)) where
    abbrev Talk : List ℕ → Step → Step → Type 0
    Talk ns from to = Talks (sees see) (swaps k target see) (AnswersCounted serving) (StopsCounted serving) ns from a far to b after

    -- it came to its end, whatever numbers are left
    abbrev ComesTo : Step → Type 0
    ComesTo to = (ns : List ℕ) → next_of ns to ≡ Through to

    ended : (ns : List ℕ) (from to : Step) → Talk ns from to → ComesTo to
        → Walks by_client (sees see) (swaps k target see) (AnswersCounted serving) (StopsCounted serving) (next_of ns from) a far (Through to) b after
    ended ns from to talk e =
        let P : Course OnCall Step → Type 0 = λ z. Walks by_client (sees see) (swaps k target see) (AnswersCounted serving) (StopsCounted serving) (next_of ns from) a far z b after in
        subst P (e (numbers_behind talk.did ns)) (walks_of k target see (AnswersCounted serving) (StopsCounted serving) ns from to a b far after talk)

    -- in the world, at whatever place the peer stands; it stands there behind it
    pub reaches : (ns : List ℕ) (from to : Step) → Talk ns from to → ComesTo to → (linked : L → Bool) → IsLinked k.machine linked → (place : ℕ)
        → Stands k target linked peer_ends old place → (os : List (Option PeerState))
        → CallTurns k target linked peer_ends ns from i old (see b).air place os far after (Comes to (see b).initiator) × Stands k target linked peer_ends (see b).air place
    reaches ns from to talk e linked links place there os =
        reached k target see by_client laws a b far after old i is open_ ready (next_of ns from) to (ended ns from to talk e) linked links place there os

    pub within : (ns : List ℕ) (from to : Step) → Talk ns from to → length old.trace ≤ length (see b).air.trace
    within ns from to talk =
        within_by k target see by_client laws a b far after old i is open_ ready (next_of ns from) (next_of (numbers_behind talk.did ns) to)
        (walks_of k target see (AnswersCounted serving) (StopsCounted serving) ns from to a b far after talk)

    pub made : (ns : List ℕ) (from to : Step) → Talk ns from to → ComesTo to → IsMade k target ns from old i far (see b).air (see b).initiator after to
    made ns from to talk e = came k target see by_client laws a b far after old i is open_ ready (next_of ns from) to (ended ns from to talk e)

    abbrev Breaking : List ℕ → Step → SnepFault → EndState → Type 0
    Breaking ns from e new = Breaks (sees see) (swaps k target see) (AnswersCounted serving) (StopsCounted serving) ns from a far e new b after

    abbrev Cut : List ℕ → Step → SnepFault → Type 0
    Cut ns from e = IsCutOff k target ns from old i far (see b).air (see b).initiator after e

    by_fault : (ns : List ℕ) (from : Step) (c : EndCause) → IsWalkCut k target by_client (next_of ns from) old i far (see b).air (see b).initiator after c → Cut ns from (fault_of c)
    by_fault ns from cause.FieldLost w = w
    by_fault ns from cause.SixBad w = w
    by_fault ns from cause.Protocol w = w
    by_fault ns from cause.Memory w = w

    pub cut_off : (ns : List ℕ) (from : Step) (e : SnepFault) (new : EndState) → Breaking ns from e new → Cut ns from e
    cut_off ns from e new broke =
        let so = breaks_so k target see (AnswersCounted serving) (StopsCounted serving) ns from a b far after e new (opened k target see by_client laws a b far after old i is open_ ready) broke in
        subst (Cut ns from) (sym so.fault) (by_fault ns from so.why (cut_off_by k target see by_client laws a b far after old i is open_ ready (next_of ns from) so.why so.broke))

    pub call_failed : (ns : List ℕ) (from : Step) (e : SnepFault) (new : EndState) → FailsBy (sees see) (swaps k target see) (AnswersCounted serving) (StopsCounted serving) ns from a far e new b after
        → CallFails k target ns from old i far (see b).air (see b).initiator after new e
    call_failed ns from e new (inl (bad, came_to, talk)) = inl (bad, came_to, made ns from (gives_up came_to new) talk (λ left. refl))
    call_failed ns from e new (inr broke) = inr (cut_off ns from e new broke)

    pub request_failed : (sap : ℕ) (ns : List ℕ) (from : Step) (e : SnepFault) (new : EndState)
        → calling.RequestFails (sees see) (swaps k target see) (AnswersCounted serving) (StopsCounted serving) sap ns from a far e new b after
        → RequestFails k target ns from old i far (see b).air (see b).initiator after sap new e
    request_failed sap ns from e new (inl refused) = inl (refused.why, refused.fault, made ns from (Ends (one_on sap (Over (Refused refused.why))) new) refused.talks (λ left. refl))
    request_failed sap ns from e new (inr failed) = inr (call_failed ns from e new failed)
