-- What sending payloads that were written by hand to the peer at a place does to machines.
use Rattle.std.specs.Prelude.{◌≡◌, ◌⊎◌, ℕ, List, [], length, slice_set, Some, Result, Ok, Err}
use Rattle.nfc_base.specs.Choosing.{Choosing}
use Rattle.nfc_base.specs.declared.carrier.EndCause.{EndCause}
use Rattle.nfc_base.specs.declared.carrier.EndCause.TheVariants as cause
use Rattle.nfc_base.specs.declared.event.Event.{Event}
use Rattle.air_core.specs.Turn.{Air}
use Rattle.arrayvec.specs.ArrayVec.{ArrayVec}
use Rattle.dep_link.specs.Initiator.{InitState}
use Rattle.llcp_link.specs.Counting.{AnswersCounted, RestartsCounted}
use Rattle.snep_core.specs.Server.{serving}
use Rattle.link_calls.specs.Carrying.{IsWalked, IsWalkCut}
use Rattle.link_calls.specs.Exchanging.{by_hand, sending}
use Rattle.bench_script.specs.declared.command.Command.{Command}
use Rattle.bench_devices.specs.declared.device.Device.{Device}
use Rattle.bench_devices.specs.Device.{device_end}
use Rattle.bench_devices.specs.Keeping.{ghosts}
use Rattle.bench_devices.specs.Opening.{OpensAny}
use Rattle.bench_world.specs.declared.bench.ObeyFault.{ObeyFault}
use Rattle.bench_world.specs.declared.bench.ObeyFault.TheVariants as faults
use Rattle.bench_world.specs.declared.entry.Answer.{Answer}
use Rattle.bench_world.specs.declared.entry.Answer.TheVariants as answers
use Rattle.bench_world.specs.declared.entry.Loss.TheVariants as losses
use Rattle.bench_world.specs.World.{FarEnd}
use Rattle.bench_world.specs.Forging.{forged_general}
use Rattle.bench_world.specs.Legal.{State, Joins, CutFront}
use Rattle.bench_world.specs.Halting.{ForgeHalts}
use Rattle.bench_world.specs.private.LinkedAt.{moved_at}
use Rattle.bench_world.specs.Links.{with_link}
use Rattle.bench_world.specs.Obeying.{Machines}

-- What came of payloads: no link was opened, by this cause; or one was, and each has its reply, or the link ended.
abbrev pub Sent : Type 0
Sent = Result (Result (List (List ℕ)) EndCause) EndCause

-- what is told of it, or that memory was wanting
abbrev pub told_cause : EndCause → Result Answer ObeyFault
told_cause cause.FieldLost = Ok (answers.LinkEnded losses.FieldLost)
told_cause cause.SixBad = Ok (answers.LinkEnded losses.SixBad)
told_cause why = Err faults.Memory

abbrev pub told_sent : Sent → Result Answer ObeyFault
told_sent (Ok (Ok replies)) = Ok (answers.Replies replies)
told_sent (Ok (Err why)) = told_cause why
told_sent (Err why) = told_cause why

-- over a link that is open payloads were exchanged, up to their end or by what it was cut off
abbrev pub Exchanges : List (List ℕ) → Air Device → InitState → Choosing FarEnd → Air Device → InitState
    → Choosing FarEnd → Result (List (List ℕ)) EndCause → Type 0
Exchanges payloads old i far new j after (Ok replies) =
    IsWalked ghosts device_end by_hand (sending payloads []) old i far new j after replies
Exchanges payloads old i far new j after (Err why) = IsWalkCut ghosts device_end by_hand (sending payloads []) old i far
    new j after why

-- what was done behind ATR_REQ, by what came of that
abbrev pub GoesBehind : List (List ℕ) → Air Device → Choosing FarEnd → Result (InitState × ArrayVec ℕ) EndCause
    → Air Device → Choosing FarEnd → Sent → Type 0
GoesBehind payloads mid half (Ok p) new after (Ok came) =
    (j : InitState) × Exchanges payloads mid p.0 half new j after came
GoesBehind payloads mid half (Ok p) new after (Err why) = ⊥
GoesBehind payloads mid half (Err why) new after sent = (sent ≡ Err why) × (new ≡ mid) × (after ≡ half)

-- ATR_REQ was asked of a peer, and then the payloads were sent.
pub record SendsAll (old : Air Device) (far : Choosing FarEnd) (payloads : List (List ℕ)) (new : Air Device)
    (after : Choosing FarEnd) (sent : Sent) : Type 0 where
  pub mid : Air Device
  pub half : Choosing FarEnd
  pub came : Result (InitState × ArrayVec ℕ) EndCause
  pub asks : OpensAny (RestartsCounted serving) (AnswersCounted serving) old far mid half forged_general came
  pub behind : GoesBehind payloads mid half came new after sent

-- The machines with this field, and this far end at a place: one link more began and ended, where one was opened.
abbrev pub left_by : {X : Type 0} → Result X EndCause → Machines → Air Device → ℕ → FarEnd → ℕ → ℕ → Machines
left_by (Ok came) m air place after peer start = record {
  air = air;
  ends = slice_set m.ends place (Some after);
  peers = with_link (record { peer = peer; start = start; end = Some (length after.service.accepted) }) m.peers;
  link = m.link;
}
left_by (Err why) m air place after peer start = moved_at m air place after

-- Payloads were sent to the peer with this number and far end.
pub record SendsOver (old new : Machines) (place : ℕ) (counts : List ℕ) (payloads : List (List ℕ)) (peer : ℕ)
    (far : FarEnd) (result : Result Answer ObeyFault) : Type 0 where
  pub air : Air Device
  pub after : Choosing FarEnd
  pub sent : Sent
  pub sends : SendsAll old.air (record { end = far; numbers = counts }) payloads air after sent
  pub told : result ≡ told_sent sent
  pub left : new ≡ left_by sent old air place after.end peer (length far.service.accepted)

-- So it was, or nothing was done, since room for one link more was wanting.
abbrev pub SendsTo : Machines → Machines → ℕ → List ℕ → List (List ℕ) → ℕ → FarEnd → Result Answer ObeyFault → Type 0
SendsTo old new place counts payloads peer far result =
    ((result ≡ Err faults.Memory) × (new ≡ old)) ⊎ SendsOver old new place counts payloads peer far result

-- It was cut off: there is a front of its step, or the peer's end stopped behind one.
abbrev pub ForgeStops : Joins → State → Command → List Event → State → Type 0
ForgeStops joins s c cut t = CutFront joins s c cut t ⊎ ForgeHalts joins s c cut t
