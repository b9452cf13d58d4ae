-- Both ends of NFC-DEP by what came on a link, as C asks for them, and the frames by which a link begins (NFCIP-1,
-- ISO/IEC 18092; NFC Forum Digital Protocol; how C keeps what came, and the numbers of faults, are this project's own).
use Rattle.std.specs.Prelude.{◌≡◌, ◌≤◌, ◌<◌, ℕ, ◌==◌, ◌&&◌, nat_le, if◌then◌else◌, List, length, Option, Some, None}
use Rattle.nfc_base.specs.Signal.{whole_a}
use Rattle.nfc_base.specs.declared.event.Heard.{Heard}
use Rattle.dep_pdu.specs.declared.frame.DepFrame.{DepFrame}
use Rattle.dep_pdu.specs.declared.frame.DepFrame.TheVariants.{AtrReq, AtrRes}
use Rattle.dep_pdu.specs.Spelling.{written}
use Rattle.dep_link.specs.declared.initiator.InitStep.{InitStep}
use Rattle.dep_link.specs.declared.initiator.InitStep.TheVariants as initiator
use Rattle.dep_link.specs.declared.target.TargetStep.{TargetStep}
use Rattle.dep_link.specs.declared.target.TargetStep.TheVariants as target
use Rattle.dep_link.specs.Frames.{air_frame}
use Rattle.dep_link.specs.Initiator.{InitState, InitTurn, begun, init_table, request, waiting}
use Rattle.dep_link.specs.Target.{TargetState, TargetTurn, fresh, replied, reply_frame, target_table}
use Rattle.zevlodek_c.specs.declared.showing.Told.{Told}
use Rattle.zevlodek_c.specs.Codes.{done, send, silent, asleep, opened, released, bad_argument, dep_six_bad}
use Rattle.zevlodek_c.specs.Codes.{dep_no_answer}
use Rattle.zevlodek_c.specs.Entries.{Entry, EndTells, a_frame, a_reply, begins_with, heard_of, most_frame}
use Rattle.zevlodek_c.specs.Showing.{Seen, shows, answers}

-- the most bytes of a payload, and of a reply
abbrev pub most_payload : ℕ
most_payload = 2178

-- An initiator, and what it does behind what came; nothing before the first payload.
pub record InitiatorNow : Type 0 where
  pub state : InitState
  pub does : Option InitStep

abbrev pub initiator_begins : ℕ → InitiatorNow
initiator_begins lr = record { state = waiting lr; does = None }

abbrev pub initiator_asks : InitState → InitiatorNow
initiator_asks s = record { state = s; does = Some (initiator.Send (air_frame (request s.core))) }

abbrev pub initiator_took : InitTurn → InitiatorNow
initiator_took t = record { state = t.state; does = Some t.does }

abbrev pub initiator_hears : InitState → Option Heard → Option InitiatorNow
initiator_hears s None = None
initiator_hears s (Some h) = Some (initiator_took (init_table s h))

-- In the initiator's log stand payloads, and what was heard of the frame that was sent last.
abbrev pub initiator_takes : InitiatorNow → Entry → Option InitiatorNow
initiator_takes n e =
    if e.kind == begins_with
    then (if nat_le (length e.content) most_payload then Some (initiator_asks (begun n.state e.content)) else None)
    else initiator_hears n.state (heard_of e)

-- the frame that is to be sent, the reply to the payload, or how the exchange ended
abbrev pub initiator_step_shown : Option InitStep → List ℕ → Told → Seen
initiator_step_shown None out told = answers silent out told
initiator_step_shown (Some (initiator.Send f)) out told = shows send f.bytes out told
initiator_step_shown (Some (initiator.Finished reply)) out told = shows done reply.items out told
initiator_step_shown (Some initiator.SixBad) out told = answers dep_six_bad out told
initiator_step_shown (Some initiator.Protocol) out told = answers dep_no_answer out told

abbrev pub initiator_shown : InitiatorNow → List ℕ → Told → Seen
initiator_shown n out told = initiator_step_shown n.does out told

-- what C sees of an initiator that knows a target's LR code
pub record InitiatorTells (lr : ℕ) (log out : List ℕ) (told : Told) (seen : Seen) : Type 0 where
  pub taken : lr < 4 → EndTells initiator_takes (initiator_begins lr) initiator_shown log out told seen
  pub refused : (lr < 4 → ⊥) → seen ≡ answers bad_argument out told

-- A target, and what it does behind what came.
abbrev pub target_begins : List ℕ → ℕ → List ℕ → TargetTurn
target_begins id lr general = record { state = fresh id lr general; does = target.Quiet }

abbrev pub target_replies : TargetState → List ℕ → TargetTurn
target_replies t content = record { state = replied t content; does = target.Reply (air_frame (reply_frame t content)) }

-- a reply is taken only where a payload was delivered
abbrev pub target_replied : TargetState → List ℕ → TargetStep → Option TargetTurn
target_replied t content (target.Deliver payload) = Some (target_replies t content)
target_replied t content _ = None

-- In the target's log stand frames of the initiator, and replies to the payloads that were delivered.
abbrev pub target_takes : TargetTurn → Entry → Option TargetTurn
target_takes n e =
    if e.kind == a_frame
    then (if nat_le (length e.content) most_frame then Some (target_table n.state (whole_a e.content)) else None)
    else if (e.kind == a_reply) && nat_le (length e.content) most_payload then target_replied n.state e.content n.does
    else None

-- the frame that is to be sent, or the payload that is to be replied to
abbrev pub target_step_shown : TargetStep → List ℕ → Told → Seen
target_step_shown target.Quiet out told = answers silent out told
target_step_shown (target.Reply f) out told = shows send f.bytes out told
target_step_shown (target.Restart general f) out told = shows opened f.bytes out told
target_step_shown (target.Deliver payload) out told = shows done payload.items out told
target_step_shown (target.Asleep f) out told = shows asleep f.bytes out told
target_step_shown (target.Released f) out told = shows released f.bytes out told

abbrev pub target_shown : TargetTurn → List ℕ → Told → Seen
target_shown n out told = target_step_shown n.does out told

-- what an LR code may be, and how many general bytes ATR_RES takes
pub record IsTargetAsked (lr : ℕ) (general : List ℕ) : Type 0 where
  pub code : lr < 4
  pub fits : length general ≤ 47

-- what C sees of a target with this NFCID3, LR code and general bytes
pub record TargetTells (id : List ℕ) (lr : ℕ) (general log out : List ℕ) (told : Told) (seen : Seen) : Type 0 where
  pub taken : IsTargetAsked lr general → EndTells target_takes (target_begins id lr general) target_shown log out told
      seen
  pub refused : (IsTargetAsked lr general → ⊥) → seen ≡ answers bad_argument out told

-- ATR_REQ of an initiator that takes frames of 254 bytes
abbrev pub request_of : List ℕ → List ℕ → DepFrame
request_of id general = AtrReq id 3 (record { items = general })

-- It is told, where the general bytes fit it.
pub record RequestTold (id general out : List ℕ) (told : Told) (seen : Seen) : Type 0 where
  pub taken : length general ≤ 48 → seen ≡ shows done (written (request_of id general)) out told
  pub refused : (length general ≤ 48 → ⊥) → seen ≡ answers bad_argument out told

-- the general bytes of ATR_REQ or ATR_RES, with the LR code of the end that sent it
abbrev pub general_shown : Option DepFrame → List ℕ → Told → Seen
general_shown (Some (AtrReq id lr general)) out told = shows done general.items out (record told { code = lr })
general_shown (Some (AtrRes id timeout lr general)) out told = shows done general.items out (record told { code = lr })
general_shown _ out told = answers bad_argument out told
