-- The replies that frames bring to an initiator (NFCIP-1, ISO/IEC 18092), counted as payloads are at a target; and what
-- an initiator has heard and given in exchanges one after another.
use Rattle.std.specs.Prelude.{◌≡◌, ℕ, ◌==◌, Bool, true, false, List, [], ◌∷◌, ◌++◌, if◌then◌else◌}
use Rattle.nfc_base.specs.Signal.{Signal}
use Rattle.nfc_base.specs.declared.event.Heard.{Heard}
use Rattle.nfc_base.specs.declared.event.Heard.TheVariants.{Whole, Collided, Damaged, Silent}
use Rattle.dep_pdu.specs.declared.frame.DepFrame.{DepFrame}
use Rattle.dep_pdu.specs.declared.frame.DepFrame.TheVariants.{Info, Ack}
use Rattle.dep_link.specs.declared.initiator.Phase.{Phase}
use Rattle.dep_link.specs.declared.initiator.Phase.TheVariants.{Asked, Nacked, Attending, Free, EndedSixBad}
use Rattle.dep_link.specs.declared.initiator.Phase.TheVariants.{EndedProtocol}
use Rattle.dep_link.specs.declared.initiator.InitStep.{InitStep}
use Rattle.dep_link.specs.declared.initiator.InitStep.TheVariants as steps
use Rattle.dep_link.specs.Frames.{after}
use Rattle.dep_link.specs.Initiator.{InitState, init_table, begun, waiting}
use Rattle.dep_link.specs.Payloads.{Cut, joined, begins}
use Rattle.dep_link.specs.Exchange.{frames_of}

-- one frame more, from target to initiator
abbrev pub taken_up : Cut → DepFrame → Cut
taken_up c (Info true more pni content) = if pni == c.next then joined c more (c.chain ++ content.items) else c
taken_up c (Ack true pni) = if pni == c.next then record c { next = after c.next } else c
taken_up c _ = c

abbrev pub cut_up : Cut → List DepFrame → Cut
cut_up c [] = c
cut_up c (v ∷ vs) = cut_up (taken_up c v) vs

-- an initiator, the whole frames that it has heard, and the replies that it has given
pub record Talk : Type 0 where
  pub initiator : InitState
  pub heard : List Signal
  pub replies : List (List ℕ)

abbrev pub whole_in : Heard → List Signal
whole_in (Whole f) = f ∷ []
whole_in (Collided f) = []
whole_in Damaged = []
whole_in Silent = []

abbrev pub reply_in : InitStep → List (List ℕ)
reply_in (steps.Send f) = []
reply_in (steps.Finished reply) = reply.items ∷ []
reply_in steps.SixBad = []
reply_in steps.Protocol = []

-- whether an exchange is under way
abbrev pub is_under_way : Phase → Bool
is_under_way Asked = true
is_under_way Nacked = true
is_under_way Attending = true
is_under_way Free = false
is_under_way EndedSixBad = false
is_under_way EndedProtocol = false

abbrev pub goes_on : Talk → Heard → Talk
goes_on w h =
    record {
      initiator = (init_table w.initiator h).state;
      heard = w.heard ++ whole_in h;
      replies = w.replies ++ reply_in (init_table w.initiator h).does;
    }

-- one reception more, while an exchange is under way
abbrev pub hears : Talk → Heard → Talk
hears w h = if is_under_way w.initiator.phase then goes_on w h else w

abbrev pub hears_all : Talk → List Heard → Talk
hears_all w [] = w
hears_all w (h ∷ hs) = hears_all (hears w h) hs

-- an exchange: its payload, and what is heard in it
pub record Talked : Type 0 where
  pub out : List ℕ
  pub receptions : List Heard

abbrev pub talks : Talk → Talked → Talk
talks w q = hears_all (record w { initiator = begun w.initiator q.out }) q.receptions

abbrev pub talks_all : Talk → List Talked → Talk
talks_all w [] = w
talks_all w (q ∷ qs) = talks_all (talks w q) qs

-- Each exchange but the last ended with a reply; the last wasn't ended by a frame that isn't allowed.
abbrev pub IsTalk : Talk → List Talked → Type 0
IsTalk w [] = Unit {0}
IsTalk w (q ∷ []) = (talks w q).initiator.phase ≡ EndedProtocol → ⊥
IsTalk w (q ∷ p ∷ qs) = ((talks w q).initiator.phase ≡ Free) × IsTalk (talks w q) (p ∷ qs)

-- an initiator for a target with this LR code, before its first exchange
abbrev pub quiet_talk : ℕ → Talk
quiet_talk code = record { initiator = waiting code; heard = []; replies = [] }

-- By the frames that an initiator has heard, these are the replies that it has given: each frame that it allowed is
-- taken once.
abbrev pub HeardReplies : Type 0
HeardReplies = (code : ℕ) (qs : List Talked) → IsTalk (quiet_talk code) qs
    → (cut_up (begins 0) (frames_of (talks_all (quiet_talk code) qs).heard)).payloads
    ≡ (talks_all (quiet_talk code) qs).replies
