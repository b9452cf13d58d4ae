-- Both ends of NFC-DEP as a link that stops and waits (NFCIP-1, ISO/IEC 18092; NFC Forum Digital Protocol): their
-- tables on the air, how one exchange begins, and in how many frames its payload and its reply are sent.
use Rattle.std.specs.Prelude.{◌≡◌, ℕ, ◌+◌, ◌<◌, ◌≤◌, false, List, [], ◌∷◌, length, Option, Some, None}
use Rattle.nfc_base.specs.Signal.{Signal}
use Rattle.nfc_base.specs.StopAndWait.{Does, Quiet, Reply, Deliver, Finished, SixBad, Protocol, Next, Send, Ends}
use Rattle.nfc_base.specs.StopAndWait.{StopAndWait, World, Once, IsReplyTo, run}
use Rattle.nfc_base.specs.Sessions.{opening}
use Rattle.nfc_base.specs.LinkTurns.{heard_of}
use Rattle.dep_pdu.specs.declared.frame.DepFrame.{DepFrame}
use Rattle.dep_link.specs.declared.target.TargetStep.{TargetStep}
use Rattle.dep_link.specs.declared.target.TargetStep.TheVariants as target
use Rattle.dep_link.specs.declared.initiator.InitStep.{InitStep}
use Rattle.dep_link.specs.declared.initiator.InitStep.TheVariants as initiator
use Rattle.nfc_base.specs.declared.event.Fate.{Fate}
use Rattle.dep_link.specs.Sizes.{limit}
use Rattle.dep_link.specs.Frames.{air_frame, spelled}
use Rattle.nfc_base.specs.Pieces.{pieces, most_busy, longest_extension}
use Rattle.dep_link.specs.Target.{TargetState, target_table, replied, reply_frame, darkened}
use Rattle.dep_link.specs.Initiator.{InitState, init_table, begun, request}
use Rattle.dep_link.specs.Payloads.{begins, cut_by, payloads}

-- The steps of both ends, in the words of such a link. No exchange has an ATR_REQ: at one a target answers and delivers
-- nothing.
abbrev pub target_does : TargetStep → Does Signal
target_does target.Quiet = Quiet
target_does (target.Reply f) = Reply f
target_does (target.Restart general f) = Reply f
target_does (target.Deliver payload) = Deliver payload.items
target_does (target.Asleep f) = Reply f
target_does (target.Released f) = Reply f

abbrev pub initiator_does : InitStep → Next Signal
initiator_does (initiator.Send f) = Send f
initiator_does (initiator.Finished reply) = Ends (Finished reply.items)
initiator_does initiator.SixBad = Ends SixBad
initiator_does initiator.Protocol = Ends Protocol

abbrev pub before_frames : Option DepFrame → List DepFrame → List DepFrame
before_frames None vs = vs
before_frames (Some v) vs = v ∷ vs

-- the frames of NFC-DEP that some on the air spell, in order
abbrev pub frames_of : List Signal → List DepFrame
frames_of [] = []
frames_of (f ∷ fs) = before_frames (spelled f) (frames_of fs)

-- the tables of initiator and target, whose payloads are counted from this PNI
abbrev pub nfc_dep : ℕ → StopAndWait InitState TargetState Signal
nfc_dep first = record {
  heard = λ t f. (target_table t f).state;
  does = λ t f. target_does (target_table t f).does;
  replied = replied;
  answer = λ t r. air_frame (reply_frame t r);
  dark = darkened;
  next = λ i h. (init_table i (heard_of h)).state;
  acts = λ i h. initiator_does (init_table i (heard_of h)).does;
  payloads = λ fs. payloads first (frames_of fs);
}

-- an exchange on such a link
abbrev pub Exchange : Type 0
Exchange = World InitState TargetState Signal

-- Between two exchanges both ends are in step: the target expects the initiator's PNI, has no piece of a payload, and
-- no byte and no piece of a reply that isn't sent, and each cuts what it sends into pieces that a frame holds. How much
-- more time the target asks for is in its range.
pub record InStep (i : InitState) (t : TargetState) : Type 0 where
  pub heeds : t.mute ≡ false
  pub number : i.core.number < 4
  pub expects : t.expected ≡ i.core.number
  pub no_chain : t.chain ≡ []
  pub no_left : t.left ≡ []
  pub all_sent : t.unsent ≡ false
  pub asks : (0 < i.core.most) × (i.core.most ≤ 251)
  pub answers : (0 < t.most) × (t.most ≤ 251)
  pub busy : t.busy ≤ most_busy
  pub times : (1 ≤ t.times) × (t.times ≤ longest_extension)

-- By the frames that arrived since this PNI was expected, the target was handed these payloads, and this much of
-- another one came.
abbrev pub IsCut : ℕ → TargetState → List (List ℕ) → List Signal → Type 0
IsCut first t handed arrived = cut_by (begins first) (frames_of arrived)
    ≡ record { next = t.expected; chain = t.chain; payloads = handed }

-- the next exchange may begin
abbrev pub IsReady : ℕ → Exchange → Type 0
IsReady first w = InStep w.asking w.answering × IsCut first w.answering w.delivered w.arrived

-- an exchange of this payload begins, behind those in which the target was handed these and heard these frames
abbrev pub beginning : InitState → TargetState → List (List ℕ) → List Signal → List ℕ → Exchange
beginning i t handed arrived out = opening (begun i out) t handed arrived (air_frame (request (begun i out).core))

-- the exchange of a payload begins, from where the one before it ended
abbrev pub next_exchange : Exchange → List ℕ → Exchange
next_exchange w out = beginning w.asking w.answering w.delivered w.arrived out

-- how many frames a target takes for a reply: its time extensions, and then the pieces
abbrev pub frames_back : TargetState → List ℕ → ℕ
frames_back t r = t.busy + pieces t.most r

-- The law of an exchange between an initiator with this state and a target with that one, whose far end replies by the
-- function far: at any moment the payload was handed over at most once, as Once says, with at most 2 (k1 + k2 - 1) + 2
-- K + 4 b transmissions, for K time extensions.
abbrev pub HandedOnce : (first : ℕ) (far : List ℕ → List ℕ) (i : InitState) (t : TargetState) (handed : List (List ℕ))
    (out : List ℕ) → Exchange → Type 0
HandedOnce first far i t handed out w =
    Once (nfc_dep first) (IsReady first) (IsReplyTo far out) handed out (pieces i.core.most out) (frames_back t) w

-- Over every list of fates, and whatever the far end replies, an exchange between ends in step keeps that law.
abbrev pub HandsOnce : Type 0
HandsOnce =
    (first : ℕ) (far : List ℕ → List ℕ) (i : InitState) (t : TargetState) (handed : List (List ℕ))
    (arrived : List Signal) (out : List ℕ) (fates : List Fate)
    → ((xs : List ℕ) → length (far xs) ≤ limit) → length out ≤ limit → InStep i t → IsCut first t handed arrived
    → HandedOnce first far i t handed out (run (nfc_dep first) far (beginning i t handed arrived out) fates)
