-- What messages that are put at once over the open link of a field come to.
use Rattle.std.proofs.Common.{◌≡◌, ℕ, List, Result, Ok, Err, OnOk, IfErr, None, refl, sym, subst}
use Rattle.nfc_base.specs.Choosing.{Choosing}
use Rattle.air_core.specs.Turn.{Air}
use Rattle.air_core.specs.declared.listener.Listener.{Ghosts}
use Rattle.air_core.proofs.PlainAside.{Laws}
use Rattle.dep_link.specs.Target.{TargetState}
use Rattle.dep_link.specs.Initiator.{InitState}
use Rattle.dep_link.specs.DepLinks.{DepSeen, IsDepReady, first_seen}
use Rattle.llcp_link.specs.Counting.{AnswersCounted, StopsCounted}
use Rattle.snep_core.specs.declared.fault.SnepFault.{SnepFault}
use Rattle.snep_core.specs.Accord.{Accords, IsRun, PeerState, RunFails}
use Rattle.snep_core.specs.Server.{serving}
use Rattle.snep_core.specs.Calling.{RunFailsAt, RunsTo}
use Rattle.snep_core.specs.declared.slot.Slot.{Slot}
use Rattle.snep_core.specs.Slots.{all_puts}
use Rattle.snep_core.specs.Talk.{EndState, Ends, TaskOn, begins_all}
use Rattle.snep_core.proofs.jobs.Talking.{fails_by}
use Rattle.link_calls.specs.AtOnce.{AreApart, IsAtRest, all_staged}
use Rattle.link_calls.specs.CallTurns.{sees, swaps}
use Rattle.link_calls.specs.Called.{AllCalled, AllFailed}
use Rattle.link_calls.specs.Calls.{CallFails, IsMade, IsOpen}
use Rattle.link_calls.specs.declared.request.SlotMessage.{SlotMessage}
use Rattle.link_calls.proofs.AtOnce.{puts_same, run_failed, run_rests, run_served}
use Rattle.link_calls.proofs.Made.{call_failed, made}

-- what holds of an end and, where something holds, of it too
pub both_ok : {X E : Type 0} (A P Q R : Type 0) (r : Result X E) → OnOk r P → (A → OnOk r Q) → (P → (A → Q) → R) → OnOk r R
both_ok A P Q R (Ok x) p q f = f p q
both_ok A P Q R (Err e) p q f = tt

pub both_err : {X E : Type 0} (A : Type 0) (P Q R : E → Type 0) (r : Result X E) → IfErr r P → (A → IfErr r Q) → ((e : E) → P e → (A → Q e) → R e) → IfErr r R
both_err A P Q R (Ok x) p q f = tt
both_err A P Q R (Err e) p q f = f e p q

module _ {L C : Type 0} (k : Ghosts L) (target : L → TargetState) (see : C → DepSeen L) (laws : Laws k) (a b : C) (far after : Choosing PeerState) (old : Air L) (i : InitState)
    (is : see a ≡ first_seen old i) (open_ : IsOpen k target old i) (ready : (see b).over ≡ None → IsDepReady k target (see b))
    (ns : List ℕ) (client left : EndState) (ws : List SlotMessage) (slots told : List Slot) (rest : IsAtRest slots) (apart : AreApart ws) where
  -- ... where they are staged
  module _ (begins : EndState) (staged : List Slot) (same : begins ≡ client) (staged_is : staged ≡ all_staged ws slots) where
    abbrev Runs : EndState → List Slot → Type 0
    Runs l xs = RunsTo (sees see) (swaps k target see) (AnswersCounted serving) (StopsCounted serving) ns l xs a far left told b after

    abbrev RunFailsSo : SnepFault → EndState → List Slot → Type 0
    RunFailsSo e l xs = RunFailsAt (sees see) (swaps k target see) (AnswersCounted serving) (StopsCounted serving) ns l xs a far e left told b after

    pub ran : Runs begins staged → (Accords begins far.end → IsRun staged told far.end left after.end)
        → AllCalled k target ns ws client slots (record { air = old; initiator = i; far = far }) left told (record { air = (see b).air; initiator = (see b).initiator; far = after })
    ran t serves =
        let r : Runs client (all_staged ws slots) = subst (Runs client) staged_is (subst (λ l. Runs l staged) same t) in record {
          jobs = r.jobs;
          goes = subst (λ (ts : List TaskOn). IsMade k target ns (begins_all client ts) old i far (see b).air (see b).initiator after (Ends r.jobs left)) (puts_same ws slots rest)
              (made k target see laws a b far after old i is open_ ready ns (begins_all client (all_puts (all_staged ws slots))) (Ends r.jobs left) r.talks (λ more. refl));
          told_is = r.told_is;
          rest = run_rests ws slots told r.jobs rest r.told_is r.finished;
          serves = λ accords. run_served ws slots told r.jobs far.end left after.end rest apart r.told_is
              (subst (λ xs. IsRun xs told far.end left after.end) staged_is (serves (subst (λ l. Accords l far.end) (sym same) accords)));
        }

    pub ran_failed : (e : SnepFault) → RunFailsSo e begins staged → (Accords begins far.end → RunFails staged told far.end e after.end)
        → AllFailed k target ns ws client (record { air = old; initiator = i; far = far }) e left (record { air = (see b).air; initiator = (see b).initiator; far = after })
    ran_failed e t serves =
        let r : RunFailsSo e client (all_staged ws slots) = subst (RunFailsSo e client) staged_is (subst (λ l. RunFailsSo e l staged) same t) in record {
          goes = subst (λ (ts : List TaskOn). CallFails k target ns (begins_all client ts) old i far (see b).air (see b).initiator after left e) (puts_same ws slots rest)
              (call_failed k target see laws a b far after old i is open_ ready ns (begins_all client (all_puts (all_staged ws slots))) e left
              (fails_by (sees see) (swaps k target see) (AnswersCounted serving) (StopsCounted serving) ns (begins_all client (all_puts (all_staged ws slots))) a far r.jobs e left b after r.fails));
          serves = λ accords. run_failed ws slots told far.end left after.end e rest apart
              (subst (λ xs. RunFails xs told far.end e after.end) staged_is (serves (subst (λ l. Accords l far.end) (sym same) accords)));
        }
