-- A report's text is made of whole lines: no LF stands within one.
use Rattle.std.proofs.Common.{◌≡◌, ℕ, zero, suc, ◌+◌, ◌/◌, ◌%◌, List, [], ◌∷◌, ◌++◌, length, Bool, true, false, not, ◌&&◌, ◌==◌, nat_lt, if◌then◌else◌, slice_index, codes, refl, ◌∙◌, ap, arith}
use Rattle.std.specs.List.{flat_map}
use Rattle.std.specs.Fmt.{decimal, digits, digits_onto, digit_glyph}
use Rattle.hex.specs.Hex.{encode_with, encode_upper, upper_digits}
use Rattle.nfc_io.specs.Lines.{NoLf}
use Rattle.nfc_base.specs.Signal.{Signal}
use Rattle.nfc_base.specs.declared.event.Event.{Event}
use Rattle.nfc_base.specs.declared.event.Event.TheVariants.{Reset, Request, Answer, Clash}
use Rattle.nfc_base.specs.declared.event.Fate.{Fate}
use Rattle.nfc_base.specs.declared.event.Fate.TheVariants.{Pass, Damage, Lose, Break}
use Rattle.bench_script.specs.DeviceIds.{bytes_of}
use Rattle.bench_script.specs.Script.{tail_text}
use Rattle.bench_script.specs.Canonical.{hex_text, frame_text}
use Rattle.bench_devices.specs.declared.polling.SeenKind.{SeenKind}
use Rattle.bench_devices.specs.declared.polling.SeenKind.TheVariants as kinds
use Rattle.bench_world.specs.declared.entry.Answer.{Answer as Said}
use Rattle.bench_world.specs.declared.entry.Answer.TheVariants.{Done, Store, Found, Crowd, T3None, T3One, T3Crowd, Message, NotNdef, Version, NoRead, Sectors, BadSize, NoMessageTlv, BadTlv}
use Rattle.bench_world.specs.declared.entry.Answer.TheVariants.{Unfinished, Disturbed, FieldLost, NotFound, SixBad, Written, Refused, ReadOnly, TooLong, ShortMlc, WrongKind, Inbox, Linked, Success}
use Rattle.bench_world.specs.declared.entry.Answer.TheVariants.{Reject, Value, NoValue, Excess, NotImplemented, Sap, LinkEnded, Replies, Heard, Puts, Unlinked, NoLink}
use Rattle.bench_world.specs.declared.entry.Loss.{Loss}
use Rattle.bench_world.specs.declared.entry.Loss.TheVariants as losses
use Rattle.bench_world.specs.declared.entry.Received.{Received}
use Rattle.bench_world.specs.declared.entry.RawHeard.{RawHeard}
use Rattle.bench_world.specs.declared.entry.RawHeard.TheVariants as heard
use Rattle.bench_world.specs.declared.entry.SlotDone.{SlotDone}
use Rattle.bench_world.specs.declared.entry.Seen.{Seen}
use Rattle.bench_world.specs.Report.{access_text, answer_text, code_text, event_text, fate_text, found_text, heard_text, inbox_text, kind_text, loss_text, outcome_text, received_text, reply_text}
use Rattle.bench_world.specs.Report.{seen_text, sent_text, slot_done_text, source_text, tag_text, tags_text}
use Rattle.snep_core.specs.Talk.{client_sap}

-- whether no LF is in the text
abbrev is_clean : List ℕ → Bool
is_clean [] = true
is_clean (b ∷ bs) = not (b == 10) && is_clean bs

abbrev IsClean : List ℕ → Type 0
IsClean l = is_clean l ≡ true

none_here : (l : List ℕ) → IsClean l → NoLf l
none_here [] e k small = absurd (omega arith)
none_here (b ∷ l) e zero small = grind arith
none_here (b ∷ l) e (suc k) small = none_here l (grind arith) k (omega arith)

clean_on : (b : ℕ) (l : List ℕ) → not (b == 10) ≡ true → IsClean l → IsClean (b ∷ l)
clean_on b l other e = ap (λ v. v && is_clean l) other ∙ e

clean_append : (xs ys : List ℕ) → IsClean xs → IsClean ys → IsClean (xs ++ ys)
clean_append [] ys p q = q
clean_append (x ∷ xs) ys p q = clean_on x (xs ++ ys) (grind arith) (clean_append xs ys (grind arith) q)

clean_all : {X : Type 0} (f : X → List ℕ) → ((x : X) → IsClean (f x)) → (xs : List X) → IsClean (flat_map f xs)
clean_all f each [] = refl
clean_all f each (x ∷ xs) = clean_append (f x) (flat_map f xs) (each x) (clean_all f each xs)

clean_if : (v : Bool) (xs ys : List ℕ) → IsClean xs → IsClean ys → IsClean (if v then xs else ys)
clean_if true xs ys p q = p
clean_if false xs ys p q = q

-- digits
clean_glyph : (d : ℕ) (v : Bool) → not ((if v then 48 + d else 87 + d) == 10) ≡ true
clean_glyph d true = grind arith
clean_glyph d false = grind arith

clean_digits : (k n : ℕ) (more : List ℕ) → IsClean more → IsClean (digits_onto k 10 false n more)
clean_digits zero n more e = e
clean_digits (suc k) n more e =
    let one : IsClean (digit_glyph false (n % 10) ∷ more) = clean_on (digit_glyph false (n % 10)) more (clean_glyph (n % 10) (nat_lt (n % 10) 10)) e in
    clean_if (n / 10 == 0) (digit_glyph false (n % 10) ∷ more) (digits_onto k 10 false (n / 10) (digit_glyph false (n % 10) ∷ more)) one
    (clean_digits k (n / 10) (digit_glyph false (n % 10) ∷ more) one)

clean_decimal : (n : ℕ) → IsClean (decimal n)
unfolding digits
clean_decimal n = clean_digits 64 n [] refl

clean_at : (l : List ℕ) → IsClean l → (k : ℕ) → not (slice_index l k == 10) ≡ true
clean_at [] e k = refl
clean_at (b ∷ l) e zero = grind arith
clean_at (b ∷ l) e (suc k) = clean_at l (grind arith) k

clean_upper : (bytes : List ℕ) → IsClean (encode_upper bytes)
unfolding encode_with
clean_upper [] = refl
clean_upper (b ∷ bs) =
    let low : ℕ = slice_index upper_digits (b % 16) in
    clean_on (slice_index upper_digits (b / 16)) (low ∷ encode_upper bs) (clean_at upper_digits refl (b / 16)) (clean_on low (encode_upper bs) (clean_at upper_digits refl (b % 16)) (clean_upper bs))

clean_hex : (bytes : List ℕ) → IsClean (hex_text bytes)
clean_hex bytes = clean_if (length bytes == 0) (codes "-") (encode_upper bytes) refl (clean_upper bytes)

clean_tail : (t : ℕ) → IsClean (tail_text t)
clean_tail t = clean_if (t == 0) [] (codes "/" ++ decimal t) refl (clean_append (codes "/") (decimal t) refl (clean_decimal t))

clean_frame : (f : Signal) → IsClean (frame_text f)
clean_frame f = clean_append (hex_text f.bytes) (tail_text f.tail) (clean_hex f.bytes) (clean_tail f.tail)

-- words and a number, or digits
clean_numbered : (words : List ℕ) → IsClean words → (n : ℕ) → IsClean (words ++ decimal n)
clean_numbered words e n = clean_append words (decimal n) e (clean_decimal n)

clean_spelled : (words : List ℕ) → IsClean words → (bytes : List ℕ) → IsClean (words ++ hex_text bytes)
clean_spelled words e bytes = clean_append words (hex_text bytes) e (clean_hex bytes)

-- an event
clean_fate : (x : Fate) → IsClean (fate_text x)
clean_fate Pass = refl
clean_fate Damage = refl
clean_fate Lose = refl
clean_fate Break = refl

clean_sent : (f : Signal) (x : Fate) → IsClean (sent_text f x)
clean_sent f x =
    clean_append (frame_text f ++ codes " ") (fate_text x) (clean_append (frame_text f) (codes " ") (clean_frame f) refl) (clean_fate x)

pub clean_event : (e : Event) → IsClean (event_text e)
clean_event Reset = refl
clean_event (Request f x) = clean_append (codes "> ") (sent_text f x) refl (clean_sent f x)
clean_event (Answer f x) = clean_append (codes "< ") (sent_text f x) refl (clean_sent f x)
clean_event (Clash f x) = clean_append (codes "* ") (sent_text f x) refl (clean_sent f x)

-- what answers list
clean_kind : (k : SeenKind) → IsClean (kind_text k)
clean_kind kinds.T2 = refl
clean_kind kinds.T4 = refl
clean_kind kinds.T5 = refl
clean_kind kinds.Peer = refl

clean_seen : (s : Seen) → IsClean (seen_text s)
clean_seen s =
    clean_append (codes " " ++ hex_text (bytes_of s.id) ++ codes ":") (kind_text s.kind)
    (clean_append (codes " " ++ hex_text (bytes_of s.id)) (codes ":") (clean_spelled (codes " ") refl (bytes_of s.id)) refl) (clean_kind s.kind)

clean_found : (devices : List Seen) (crowd : Bool) → IsClean (found_text devices crowd)
clean_found devices crowd =
    let counted : List ℕ = codes "found " ++ decimal (length devices) in
    clean_append (counted ++ flat_map seen_text devices) (if crowd then codes " crowd" else [])
    (clean_append counted (flat_map seen_text devices) (clean_numbered (codes "found ") refl (length devices)) (clean_all seen_text clean_seen devices))
    (clean_if crowd (codes " crowd") [] refl refl)

clean_tags : (ids : List (List ℕ)) → IsClean (tags_text ids)
clean_tags ids =
    clean_append (codes "crowd " ++ decimal (length ids)) (flat_map tag_text ids) (clean_numbered (codes "crowd ") refl (length ids)) (clean_all tag_text (clean_spelled (codes " ") refl) ids)

clean_received : (r : Received) → IsClean (received_text r)
clean_received r =
    let number : List ℕ = codes " " ++ decimal r.link in
    clean_append (number ++ source_text r.source ++ codes ":") (hex_text r.message)
    (clean_append (number ++ source_text r.source) (codes ":")
    (clean_append number (source_text r.source) (clean_numbered (codes " ") refl r.link)
    (clean_if (r.source == client_sap) [] (codes "." ++ decimal r.source) refl (clean_numbered (codes ".") refl r.source))) refl)
    (clean_hex r.message)

clean_inbox : (messages : List Received) → IsClean (inbox_text messages)
clean_inbox messages =
    clean_append (codes "inbox " ++ decimal (length messages)) (flat_map received_text messages) (clean_numbered (codes "inbox ") refl (length messages))
    (clean_all received_text clean_received messages)

clean_heard : (h : RawHeard) → IsClean (heard_text h)
clean_heard (heard.Whole f) = clean_append (codes " ") (frame_text f) refl (clean_frame f)
clean_heard heard.Silent = refl
clean_heard heard.Damaged = refl
clean_heard heard.Clash = refl

clean_outcome : (v : Bool) → IsClean (outcome_text v)
clean_outcome true = refl
clean_outcome false = refl

clean_done : (d : SlotDone) → IsClean (slot_done_text d)
clean_done d = clean_append (codes " " ++ decimal d.slot) (outcome_text d.success) (clean_numbered (codes " ") refl d.slot) (clean_outcome d.success)

clean_message : (message : List ℕ) (v : Bool) → IsClean (codes "message " ++ hex_text message ++ codes " " ++ access_text v)
clean_message message v =
    clean_append (codes "message " ++ hex_text message ++ codes " ") (access_text v)
    (clean_append (codes "message " ++ hex_text message) (codes " ") (clean_spelled (codes "message ") refl message) refl) (by v)
  where
    by : (w : Bool) → IsClean (access_text w)
    by true = refl
    by false = refl

clean_loss : (l : Loss) → IsClean (loss_text l)
clean_loss losses.FieldLost = refl
clean_loss losses.SixBad = refl

pub clean_answer : (a : Said) → IsClean (answer_text a)
clean_answer Done = refl
clean_answer NotNdef = refl
clean_answer Version = refl
clean_answer NoRead = refl
clean_answer Sectors = refl
clean_answer BadSize = refl
clean_answer NoMessageTlv = refl
clean_answer BadTlv = refl
clean_answer Unfinished = refl
clean_answer Disturbed = refl
clean_answer FieldLost = refl
clean_answer NotFound = refl
clean_answer SixBad = refl
clean_answer Written = refl
clean_answer (Refused code) = clean_append (codes "refused ") (code_text code) refl (clean_upper (code / 256 ∷ code % 256 ∷ []))
clean_answer ReadOnly = refl
clean_answer (TooLong room) = clean_numbered (codes "too long ") refl room
clean_answer ShortMlc = refl
clean_answer WrongKind = refl
clean_answer (Store bytes) = clean_spelled (codes "store ") refl bytes
clean_answer (Inbox messages) = clean_inbox messages
clean_answer (Found devices crowd) = clean_found devices crowd
clean_answer (Crowd ids) = clean_tags ids
clean_answer T3None = refl
clean_answer (T3One id) = clean_spelled (codes "t3 ") refl id
clean_answer T3Crowd = refl
clean_answer (Message message writable) = clean_message message writable
clean_answer (Linked link) = clean_numbered (codes "linked ") refl link
clean_answer Success = refl
clean_answer Reject = refl
clean_answer (Value value) = clean_spelled (codes "value ") refl value
clean_answer NoValue = refl
clean_answer Excess = refl
clean_answer NotImplemented = refl
clean_answer (Sap sap) = clean_numbered (codes "sap ") refl sap
clean_answer (LinkEnded loss) = clean_append (codes "link ended ") (loss_text loss) refl (clean_loss loss)
clean_answer (Replies replies) = clean_append (codes "heard") (flat_map reply_text replies) refl (clean_all reply_text (clean_spelled (codes " ") refl) replies)
clean_answer (Heard all) = clean_append (codes "heard") (flat_map heard_text all) refl (clean_all heard_text clean_heard all)
clean_answer (Puts done) = clean_append (codes "puts") (flat_map slot_done_text done) refl (clean_all slot_done_text clean_done done)
clean_answer Unlinked = refl
clean_answer NoLink = refl

-- a line of the report, without its LF
abbrev pub said : ℕ → List ℕ → List ℕ
said n body = decimal n ++ codes " " ++ body

clean_said : (n : ℕ) (body : List ℕ) → IsClean body → NoLf (said n body)
clean_said n body e =
    none_here (said n body) (clean_append (decimal n ++ codes " ") body (clean_append (decimal n) (codes " ") (clean_decimal n) refl) e)

pub event_clean : (n : ℕ) (e : Event) → NoLf (said n (event_text e))
event_clean n e = clean_said n (event_text e) (clean_event e)

pub answer_clean : (n : ℕ) (a : Said) → NoLf (said n (answer_text a))
answer_clean n a = clean_said n (answer_text a) (clean_answer a)
