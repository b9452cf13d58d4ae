-- What opening a link to the peer at a place does to machines.
use Rattle.std.specs.Prelude.{◌≡◌, ℕ, ◌+◌, List, length, slice_set, Some, None, Result, Ok, Err}
use Rattle.nfc_base.specs.declared.carrier.EndCause.{EndCause}
use Rattle.nfc_base.specs.declared.carrier.EndCause.TheVariants.{FieldLost, SixBad, Protocol, Memory}
use Rattle.air_core.specs.Turn.{Air}
use Rattle.arrayvec.specs.ArrayVec.{ArrayVec}
use Rattle.dep_link.specs.Initiator.{InitState}
use Rattle.llcp_link.specs.Answering.{Answers}
use Rattle.llcp_link.specs.State.{restarted}
use Rattle.snep_core.specs.Slots.{fresh_slots}
use Rattle.snep_core.specs.Server.{serving}
use Rattle.snep_core.specs.Talk.{EndState}
use Rattle.bench_devices.specs.declared.device.Device.{Device}
use Rattle.bench_devices.specs.Opening.{OpensAny}
use Rattle.bench_world.specs.declared.bench.ObeyFault.{ObeyFault}
use Rattle.bench_world.specs.declared.bench.ObeyFault.TheVariants as faults
use Rattle.bench_world.specs.declared.entry.Answer.{Answer}
use Rattle.bench_world.specs.declared.entry.Answer.TheVariants as answers
use Rattle.bench_world.specs.declared.entry.Loss.TheVariants as losses
use Rattle.bench_world.specs.World.{FarEnd}
use Rattle.bench_world.specs.Linking.{own_general, new_client}
use Rattle.bench_world.specs.Links.{with_link}
use Rattle.bench_world.specs.Obeying.{Machines}

-- the machines with this link
abbrev pub machines_at_start : Machines → ℕ → ℕ → InitState → EndState → Machines
machines_at_start m peer start i client = record {
  air = m.air;
  ends = m.ends;
  peers = with_link (record { peer = peer; start = start; end = None }) m.peers;
  link = Some (record { peer = peer; initiator = i; client = client; slots = fresh_slots });
}

-- what is told of a link that couldn't be opened; no answer comes that isn't allowed
abbrev pub NotOpened : EndCause → Result Answer ObeyFault → Type 0
NotOpened FieldLost told = told ≡ Ok (answers.LinkEnded losses.FieldLost)
NotOpened SixBad told = told ≡ Ok (answers.LinkEnded losses.SixBad)
NotOpened Protocol told = ⊥
NotOpened Memory told = told ≡ Err faults.Memory

-- a new link of an end, and its steps
abbrev pub restarts : FarEnd → List ℕ → FarEnd → Type 0
restarts old general new = new ≡ restarted serving old general

-- the machines with this field, and this far end at a place
abbrev pub moved_at : Machines → Air Device → ℕ → FarEnd → Machines
moved_at m air place after = record {
  air = air;
  ends = slice_set m.ends place (Some after);
  peers = m.peers;
  link = m.link;
}

-- What is there then, by what came of ATR_REQ: the link that is open; or none, where no answer came, or memory was
-- wanting.
abbrev pub LinkLeft : Machines → ℕ → ℕ → ℕ → ℕ → Result (InitState × ArrayVec ℕ) EndCause → Result Answer ObeyFault
    → Machines → Type 0
LinkLeft mid miu window peer start (Ok p) (Ok a) new =
    (a ≡ answers.Linked (length mid.peers.links + 1))
    × (new ≡ machines_at_start mid peer start p.0 (new_client miu window p.1.items))
LinkLeft mid miu window peer start (Ok p) (Err e) new = (e ≡ faults.Memory) × (new ≡ mid)
LinkLeft mid miu window peer start (Err cause) result new = NotOpened cause result × (new ≡ mid)

-- ATR_REQ was asked of the peer with this number and far end.
pub record OpensAt (old new : Machines) (place miu window peer : ℕ) (far : FarEnd) (result : Result Answer ObeyFault)
    : Type 0 where
  pub air : Air Device
  pub after : FarEnd
  pub came : Result (InitState × ArrayVec ℕ) EndCause
  pub asks : OpensAny restarts (Answers serving 0) old.air far air after (own_general miu) came
  pub left : LinkLeft (moved_at old air place after) miu window peer (length far.service.accepted) came result new
