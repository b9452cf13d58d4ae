-- A device of NFC-A: a listener front over the machine that takes its frames once it is selected (NFC Forum Digital
-- Protocol; ISO/IEC 14443-3).
use Rattle.std.specs.Prelude.{ℕ, ◌≤◌, List, Option, Some, None}
use Rattle.nfc_base.specs.declared.frame.Tech.TheVariants.{A}
use Rattle.nfc_base.specs.Signal.{Signal}
use Rattle.nfc_base.specs.Far.{FarUse, Untouched}
use Rattle.air_core.specs.World.{Machine}
use Rattle.nfca_poll.specs.Levels.{levels}
use Rattle.nfca_poll.specs.Calls.{call_of}
use Rattle.nfca_poll.specs.Front.{Front, Off, Idle, Sleep, Ready, Active, front_says, front_next}
use Rattle.nfca_poll.specs.Upper.{UpperMachine}
use Rattle.nfca_poll.specs.declared.upper.UpStep.{UpStep}
use Rattle.nfca_poll.specs.declared.upper.UpStep.TheVariants as steps
use Rattle.nfca_poll.specs.declared.front.FrontState.{FrontState}
use Rattle.nfca_poll.specs.declared.front.FrontState.TheVariants as states

-- What contracts see of a device: its identifier, the state of its front, and the machine above it.
pub record Fronted (U : Type 0) : Type 0 where
  pub id : List ℕ
  pub front : Front
  pub upper : U

-- the state of a front, by the field that keeps it
abbrev pub front_of : FrontState → Front
front_of states.Off = Off
front_of states.Idle = Idle
front_of states.Sleep = Sleep
front_of (states.Ready level starred) = Ready level starred
front_of (states.Active starred) = Active starred

-- the level that is asked next is one of so many
abbrev pub HasLevel : ℕ → Front → Type 0
HasLevel n Off = Unit {0}
HasLevel n Idle = Unit {0}
HasLevel n Sleep = Unit {0}
HasLevel n (Ready k starred) = (1 ≤ k) × (k ≤ n)
HasLevel n (Active starred) = Unit {0}

module _ {U : Type 0} (m : UpperMachine U) where
  -- A device that leaves the state Active gives up what is volatile of its machine.
  abbrev pub left_at : Front → Front → U → U
  left_at Off next u = u
  left_at Idle next u = u
  left_at Sleep next u = u
  left_at (Ready k starred) next u = u
  left_at (Active starred) Off u = m.cleared u
  left_at (Active starred) Idle u = m.cleared u
  left_at (Active starred) Sleep u = m.cleared u
  left_at (Active starred) (Ready k other) u = m.cleared u
  left_at (Active starred) (Active other) u = u

  -- the device with its front in another state
  abbrev pub moved : Fronted U → Front → Fronted U
  moved d next = record { id = d.id; front = next; upper = left_at d.front next d.upper }

  -- what the front says and does at a frame that isn't of the machine
  abbrev pub plain_answer : Fronted U → Signal → Option Signal
  plain_answer d f = front_says (levels d.id) (m.kind d.upper) d.front (call_of f)

  abbrev pub plain_after : Fronted U → Signal → Fronted U
  plain_after d f = moved d (front_next (levels d.id) d.front (call_of f))

  -- A selected device, whose machine says this and is this afterwards.
  abbrev pub active_answer : UpStep → Fronted U → Signal → Option Signal
  active_answer steps.Foreign d f = plain_answer d f
  active_answer steps.Quiet d f = None
  active_answer (steps.Reply g) d f = Some g
  active_answer (steps.Sleep g) d f = Some g
  active_answer (steps.Idle g) d f = Some g

  abbrev pub active_after : UpStep → U → Fronted U → Signal → Fronted U
  active_after steps.Foreign u d f = plain_after d f
  active_after steps.Quiet u d f = record { id = d.id; front = d.front; upper = u }
  active_after (steps.Reply g) u d f = record { id = d.id; front = d.front; upper = u }
  active_after (steps.Sleep g) u d f = record { id = d.id; front = Sleep; upper = m.cleared u }
  active_after (steps.Idle g) u d f = record { id = d.id; front = Idle; upper = m.cleared u }

  -- The step of a device: once it is selected its machine takes its frames; all others are the front's.
  abbrev pub handed_by : Front → Fronted U → Signal → FarUse
  handed_by Off d f = Untouched
  handed_by Idle d f = Untouched
  handed_by Sleep d f = Untouched
  handed_by (Ready k starred) d f = Untouched
  handed_by (Active starred) d f = m.handed d.upper f

  abbrev pub answer_by : Front → Fronted U → Signal → Option (List ℕ) → Option Signal
  answer_by Off d f reply = plain_answer d f
  answer_by Idle d f reply = plain_answer d f
  answer_by Sleep d f reply = plain_answer d f
  answer_by (Ready k starred) d f reply = plain_answer d f
  answer_by (Active starred) d f reply = active_answer (m.says d.upper f reply) d f

  abbrev pub after_by : Front → Fronted U → Signal → Option (List ℕ) → Fronted U
  after_by Off d f reply = plain_after d f
  after_by Idle d f reply = plain_after d f
  after_by Sleep d f reply = plain_after d f
  after_by (Ready k starred) d f reply = plain_after d f
  after_by (Active starred) d f reply = active_after (m.says d.upper f reply) (m.after d.upper f reply) d f

  -- what devices of this kind do: light leads to Idle, dark to Off
  abbrev pub fronts : Machine (Fronted U)
  fronts = record {
    tech = λ d. A;
    handed = λ d f. handed_by d.front d f;
    answer = λ d f reply. answer_by d.front d f reply;
    after = λ d f reply. after_by d.front d f reply;
    woken = λ d. moved d Idle;
    darkened = λ d. moved d Off;
  }
