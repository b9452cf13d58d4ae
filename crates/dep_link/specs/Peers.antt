-- Peers in a field (NFC Forum Digital Protocol): a listener that does at the initiator's frames what the target's table
-- says, under a far end. Who hears what is this project's own.
use Rattle.std.specs.Prelude.{◌≡◌, ℕ, ◌<◌, ◌≤◌, List, [], ◌∷◌, length, slice_index, true, false, Option, Some, None}
use Rattle.std.specs.List.{AllByRecursion}
use Rattle.nfc_base.specs.declared.frame.Tech.TheVariants.{A}
use Rattle.nfc_base.specs.Signal.{Signal}
use Rattle.nfc_base.specs.Far.{FarUse, Untouched, Restarts, Hands}
use Rattle.air_core.specs.declared.listener.Listener.{Ghosts}
use Rattle.dep_pdu.specs.declared.frame.DepFrame.{DepFrame}
use Rattle.dep_pdu.specs.declared.frame.DepFrame.TheVariants.{Info, Ack, Nack, Attention, Extend}
use Rattle.dep_pdu.specs.Spelling.{IsDepFrame}
use Rattle.dep_link.specs.declared.target.TargetStep.{TargetStep}
use Rattle.dep_link.specs.declared.target.TargetStep.TheVariants as steps
use Rattle.dep_link.specs.Sizes.{limit}
use Rattle.dep_link.specs.Frames.{air_frame}
use Rattle.dep_link.specs.Target.{TargetState, target_table, replied, reply_frame, darkened}
use Rattle.dep_link.specs.Answering.{reply_for}

-- what a target asks of the far end in its step
abbrev pub target_use : TargetStep → FarUse
target_use steps.Quiet = Untouched
target_use (steps.Reply f) = Untouched
target_use (steps.Restart general f) = Restarts general.items
target_use (steps.Deliver payload) = Hands payload.items
target_use (steps.Asleep f) = Untouched
target_use (steps.Released f) = Untouched

-- What a target answers in its step, and what it is then, where the far end replies r to what is handed over.
abbrev pub answered_with : TargetState → List ℕ → TargetStep → Option Signal
answered_with t r steps.Quiet = None
answered_with t r (steps.Reply f) = Some f
answered_with t r (steps.Restart general f) = Some f
answered_with t r (steps.Deliver payload) = Some (air_frame (reply_frame t r))
answered_with t r (steps.Asleep f) = Some f
answered_with t r (steps.Released f) = Some f

abbrev pub left_with : TargetState → List ℕ → TargetStep → TargetState
left_with t r (steps.Deliver payload) = replied t r
left_with t r _ = t

-- a frame that an initiator sends in an exchange
abbrev pub IsAskedFrame : DepFrame → Type 0
IsAskedFrame (Info false more pni content) = IsDepFrame (Info false more pni content)
IsAskedFrame (Ack false pni) = IsDepFrame (Ack false pni)
IsAskedFrame (Nack pni) = IsDepFrame (Nack pni)
IsAskedFrame (Attention false) = Unit {0}
IsAskedFrame (Extend false times) = IsDepFrame (Extend false times)
IsAskedFrame _ = ⊥

-- such a frame on the air, whose items are bytes
pub record IsAsked (f : Signal) : Type 0 where
  pub value : DepFrame
  pub asked : IsAskedFrame value
  pub bytes : (i : ℕ) → slice_index f.bytes i < 256
  pub frame : f ≡ air_frame value

abbrev pub IsShort : List ℕ → Type 0
IsShort xs = length xs ≤ limit

-- a frame that was heard, and what the far end replied in that step, if it was asked
pub record Hearing : Type 0 where
  pub frame : Signal
  pub reply : List ℕ

pub record IsHearing (h : Hearing) : Type 0 where
  pub asked : IsAsked h.frame
  pub short : IsShort h.reply

module _ {L : Type 0} (k : Ghosts L) where
  -- a listener once it has heard a frame to which the far end replies r
  abbrev pub heard_with : L → Signal → List ℕ → L
  heard_with l f r = k.machine.after l f (reply_for r (k.machine.handed l f))

  abbrev pub reached : L → List Hearing → L
  reached l [] = l
  reached l (h ∷ hs) = reached (heard_with l h.frame h.reply) hs

module _ {L : Type 0} (k : Ghosts L) (target : L → TargetState) where
  -- At a frame, with that reply, a listener does what the target's table says, and stays selected.
  pub record StepsByTarget (l : L) (f : Signal) (r : List ℕ) : Type 0 where
    pub asks : k.machine.handed l f ≡ target_use (target_table (target l) f).does
    pub answer : k.machine.answer l f (reply_for r (k.machine.handed l f))
        ≡ answered_with (target_table (target l) f).state r (target_table (target l) f).does
    pub target_is : target (heard_with k l f r) ≡ left_with (target_table (target l) f).state r
        (target_table (target l) f).does
    pub selected : k.is_selected (heard_with k l f r) ≡ true

  -- A selected listener is a peer: by the initiator's frames, whatever the far end replies, it only comes to where it
  -- does so again; and the dark clears its target's end.
  pub record IsPeer (l : L) : Type 0 where
    pub tech : k.machine.tech l ≡ A
    pub steps_on : (hs : List Hearing) → AllByRecursion IsHearing hs → (f : Signal) → IsAsked f → (r : List ℕ)
        → IsShort r → StepsByTarget (reached k l hs) f r
    pub cleared : (hs : List Hearing) → AllByRecursion IsHearing hs
        → target (k.machine.darkened (reached k l hs)) ≡ darkened (target (reached k l hs))
