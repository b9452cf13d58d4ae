-- The report: the text of an entry, by the entry alone. Its form is this project's own.
use Rattle.std.specs.Prelude.{◌≡◌, ℕ, ◌/◌, ◌%◌, ◌<◌, Option, Some, None, List, [], ◌∷◌, ◌++◌, codes, length, ◌==◌}
use Rattle.std.specs.Prelude.{if◌then◌else◌, Bool, true, false}
use Rattle.std.specs.List.{flat_map}
use Rattle.std.specs.Fmt.{decimal}
use Rattle.arrayvec.specs.ArrayVec.{ArrayVec}
use Rattle.hex.specs.Hex.{encode_upper}
use Rattle.nfc_base.specs.Signal.{Signal}
use Rattle.nfc_base.specs.declared.event.Event.{Event}
use Rattle.nfc_base.specs.declared.event.Event.TheVariants.{Reset, Request, Answer, Clash}
use Rattle.nfc_base.specs.declared.event.Fate.{Fate}
use Rattle.nfc_base.specs.declared.event.Fate.TheVariants.{Pass, Damage, Lose, Break}
use Rattle.bench_world.specs.declared.entry.Answer.{Answer as Said}
use Rattle.bench_world.specs.declared.entry.Answer.TheVariants.{Done, Store, Found, Crowd, T3None, T3One, T3Crowd}
use Rattle.bench_world.specs.declared.entry.Answer.TheVariants.{Message, NotNdef, Version, NoRead, Sectors, BadSize}
use Rattle.bench_world.specs.declared.entry.Answer.TheVariants.{NoMessageTlv, BadTlv, Unfinished, Disturbed, FieldLost}
use Rattle.bench_world.specs.declared.entry.Answer.TheVariants.{NotFound, SixBad, Written, Refused, ReadOnly, TooLong}
use Rattle.bench_world.specs.declared.entry.Answer.TheVariants.{ShortMlc, WrongKind, Inbox, Linked, Success, Reject}
use Rattle.bench_world.specs.declared.entry.Answer.TheVariants.{Value, NoValue, Excess, NotImplemented, Sap, LinkEnded}
use Rattle.bench_world.specs.declared.entry.Answer.TheVariants.{Replies, Heard, Puts, Unlinked, NoLink}
use Rattle.bench_world.specs.declared.entry.Entry.{Entry}
use Rattle.bench_world.specs.declared.entry.Loss.{Loss}
use Rattle.bench_world.specs.declared.entry.Loss.TheVariants as losses
use Rattle.bench_world.specs.declared.entry.Received.{Received}
use Rattle.bench_world.specs.declared.entry.RawHeard.{RawHeard}
use Rattle.bench_world.specs.declared.entry.RawHeard.TheVariants as heard
use Rattle.bench_world.specs.declared.entry.SlotDone.{SlotDone}
use Rattle.bench_world.specs.declared.entry.Seen.{Seen}
use Rattle.bench_devices.specs.declared.polling.SeenKind.{SeenKind}
use Rattle.bench_devices.specs.declared.polling.SeenKind.TheVariants as kinds
use Rattle.snep_core.specs.Talk.{client_sap}
use Rattle.bench_script.specs.DeviceIds.{bytes_of}
use Rattle.bench_script.specs.Canonical.{hex_text, frame_text}

-- FATE
abbrev pub fate_text : Fate → List ℕ
fate_text Pass = codes "pass"
fate_text Damage = codes "damage"
fate_text Lose = codes "lose"
fate_text Break = codes "break"

-- a transmission: FRAME FATE
abbrev pub sent_text : Signal → Fate → List ℕ
sent_text f x = frame_text f ++ codes " " ++ fate_text x

-- an event
abbrev pub event_text : Event → List ℕ
event_text Reset = codes "! reset"
event_text (Request f x) = codes "> " ++ sent_text f x
event_text (Answer f x) = codes "< " ++ sent_text f x
event_text (Clash f x) = codes "* " ++ sent_text f x

-- whether the message may be written
abbrev pub access_text : Bool → List ℕ
access_text true = codes "writable"
access_text false = codes "readonly"

-- KIND
abbrev pub kind_text : SeenKind → List ℕ
kind_text kinds.T2 = codes "t2"
kind_text kinds.T4 = codes "t4"
kind_text kinds.T5 = codes "t5"
kind_text kinds.Peer = codes "peer"

-- a device that was found: a space, then ID:KIND
abbrev pub seen_text : Seen → List ℕ
seen_text s = codes " " ++ hex_text (bytes_of s.id) ++ codes ":" ++ kind_text s.kind

-- the code of a refusal: four upper-case digits
abbrev pub code_text : ℕ → List ℕ
code_text code = encode_upper (code / 256 ∷ code % 256 ∷ [])

-- how many devices were found, and which
abbrev pub found_text : List Seen → Bool → List ℕ
found_text devices crowd = codes "found " ++ decimal (length devices) ++ flat_map seen_text devices
    ++ (if crowd then codes " crowd" else [])

-- how many Type 5 tags were found, and which
abbrev pub tag_text : List ℕ → List ℕ
tag_text id = codes " " ++ hex_text id

abbrev pub tags_text : List (List ℕ) → List ℕ
tags_text ids = codes "crowd " ++ decimal (length ids) ++ flat_map tag_text ids

-- the SAP from which a message came, untold where it is that from which a reader's client connects
abbrev pub source_text : ℕ → List ℕ
source_text source = if source == client_sap then [] else codes "." ++ decimal source

-- a message that a peer's server accepted: a space, then L:HEX from that SAP, L.S:HEX from another
abbrev pub received_text : Received → List ℕ
received_text r = codes " " ++ decimal r.link ++ source_text r.source ++ codes ":" ++ hex_text r.message

-- how many messages a peer's server accepted, and which
abbrev pub inbox_text : List Received → List ℕ
inbox_text messages = codes "inbox " ++ decimal (length messages) ++ flat_map received_text messages

-- how a link was lost
abbrev pub loss_text : Loss → List ℕ
loss_text losses.FieldLost = codes "field lost"
loss_text losses.SixBad = codes "six bad"

-- the replies to payloads that were written by hand, each behind a space
abbrev pub reply_text : List ℕ → List ℕ
reply_text reply = codes " " ++ hex_text reply

abbrev pub replies_text : List (List ℕ) → List ℕ
replies_text replies = codes "heard" ++ flat_map reply_text replies

-- what was heard behind each frame that a script sent, each behind a space
abbrev pub heard_text : RawHeard → List ℕ
heard_text (heard.Whole f) = codes " " ++ frame_text f
heard_text heard.Silent = codes " silent"
heard_text heard.Damaged = codes " damaged"
heard_text heard.Clash = codes " clash"

abbrev pub all_heard_text : List RawHeard → List ℕ
all_heard_text all = codes "heard" ++ flat_map heard_text all

-- what each client was told of its put, each behind a space: K:success or K:reject
abbrev pub outcome_text : Bool → List ℕ
outcome_text true = codes ":success"
outcome_text false = codes ":reject"

abbrev pub slot_done_text : SlotDone → List ℕ
slot_done_text d = codes " " ++ decimal d.slot ++ outcome_text d.success

abbrev pub puts_text : List SlotDone → List ℕ
puts_text done = codes "puts" ++ flat_map slot_done_text done

-- ANSWER
abbrev pub answer_text : Said → List ℕ
answer_text Done = codes "ok"
answer_text NotNdef = codes "not ndef"
answer_text Version = codes "version"
answer_text NoRead = codes "no read"
answer_text Sectors = codes "sectors"
answer_text BadSize = codes "bad size"
answer_text NoMessageTlv = codes "no message tlv"
answer_text BadTlv = codes "bad tlv"
answer_text Unfinished = codes "unfinished"
answer_text Disturbed = codes "disturbed"
answer_text FieldLost = codes "field lost"
answer_text NotFound = codes "not found"
answer_text SixBad = codes "six bad"
answer_text Written = codes "written"
answer_text (Refused code) = codes "refused " ++ code_text code
answer_text ReadOnly = codes "read only"
answer_text (TooLong room) = codes "too long " ++ decimal room
answer_text ShortMlc = codes "short mlc"
answer_text WrongKind = codes "wrong kind"
answer_text (Store bytes) = codes "store " ++ hex_text bytes
answer_text (Inbox messages) = inbox_text messages
answer_text (Found devices crowd) = found_text devices crowd
answer_text (Crowd ids) = tags_text ids
answer_text T3None = codes "t3 none"
answer_text (T3One id) = codes "t3 " ++ hex_text id
answer_text T3Crowd = codes "t3 crowd"
answer_text (Message message writable) = codes "message " ++ hex_text message ++ codes " " ++ access_text writable
answer_text (Linked link) = codes "linked " ++ decimal link
answer_text Success = codes "success"
answer_text Reject = codes "reject"
answer_text (Value value) = codes "value " ++ hex_text value
answer_text NoValue = codes "no value"
answer_text Excess = codes "excess"
answer_text NotImplemented = codes "not implemented"
answer_text (Sap sap) = codes "sap " ++ decimal sap
answer_text (LinkEnded loss) = codes "link ended " ++ loss_text loss
answer_text (Replies replies) = replies_text replies
answer_text (Heard all) = all_heard_text all
answer_text (Puts done) = puts_text done
answer_text Unlinked = codes "unlinked"
answer_text NoLink = codes "no link"

-- a line of the report, for line n of the script
abbrev pub line_text : ℕ → List ℕ → List ℕ
line_text n body = decimal n ++ codes " " ++ body ++ codes "\n"

-- a line for each event
abbrev pub events_text : ℕ → List Event → List ℕ
events_text n es = flat_map (λ e. line_text n (event_text e)) es

-- the text of an entry: its events, unless quiet, and its answer
abbrev pub entry_text : Bool → Entry → List ℕ
entry_text quiet e = (if quiet then [] else events_text e.line e.events) ++ line_text e.line (answer_text e.answer)

-- the text of some entries
abbrev pub report_text : Bool → List Entry → List ℕ
report_text quiet es = flat_map (entry_text quiet) es

-- a piece of a line's text that is left, which isn't empty, unless none is left
abbrev pub GivesPiece : List ℕ → Option (ArrayVec ℕ) → List ℕ → Type 0
GivesPiece left None left' = (left ≡ []) × (left' ≡ [])
GivesPiece left (Some piece) left' = (left ≡ piece.items ++ left') × (0 < length piece.items)
