-- The lines of a report tell what they say.
use Rattle.std.proofs.Common.{◌≡◌, ◌≢◌, ℕ, suc, ◌/◌, ◌%◌, ◌<◌, ◌^◌, List, [], ◌∷◌, ◌++◌, length, append_assoc, drop, get_or, Bool, true, false, ◌==◌, refl, sym, ◌∙◌, ap, subst, arith}
use Rattle.std.specs.Prelude.{codes, if◌then◌else◌, ◌&&◌, ltb}
use Rattle.std.specs.List.{All}
use Rattle.std.specs.Fmt.{decimal}
use Rattle.std.proofs.lemmas.Bool.{ne_eqb}
use Rattle.std.proofs.lemmas.Fmt.{decimal_is_IsNumeral, decimal_injective}
use Rattle.std.proofs.lemmas.Str.Parse.{digit_at}
use Rattle.std.proofs.lemmas.List.Elements.{All-cons, All-nil, All-append, All-from_get_or, All-weaker}
use Rattle.std.proofs.lemmas.List.{length-append}
use Rattle.hex.specs.Hex.{encode_with, encode_upper, upper_digits, decode_of, IsBytes}
use Rattle.hex.proofs.HexLemmas.{length-encode_with, decode_of-encode_upper, decode_of-same}
use Rattle.nfc_base.specs.Signal.{Signal, signal, IsSignal}
use Rattle.nfc_base.specs.declared.frame.Tech.{Tech}
use Rattle.nfc_base.specs.declared.event.Event.{Event}
use Rattle.nfc_base.specs.declared.event.Event.TheVariants.{Reset, Request, Answer, Clash}
use Rattle.nfc_base.specs.declared.event.Fate.{Fate}
use Rattle.nfc_base.specs.declared.event.Fate.TheVariants.{Pass, Damage, Lose, Break}
use Rattle.bench_script.specs.Script.{tail_text}
use Rattle.bench_script.specs.Canonical.{hex_text, frame_text}
use Rattle.bench_script.proofs.Frames.{first, cut, tail_begins, tail_tells}
use Rattle.bench_world.specs.declared.entry.Answer.{Answer as Said}
use Rattle.bench_world.specs.declared.entry.Answer.TheVariants.{Done, Store, Found, Crowd, T3None, T3One, T3Crowd, Message, NotNdef, Version, NoRead, Sectors, BadSize, NoMessageTlv, BadTlv}
use Rattle.bench_world.specs.declared.entry.Answer.TheVariants.{Unfinished, Disturbed, FieldLost, NotFound, SixBad, Written, Refused, ReadOnly, TooLong, ShortMlc, WrongKind, Inbox, Linked, Success}
use Rattle.bench_world.specs.declared.entry.Answer.TheVariants.{Reject, Value, NoValue, Excess, NotImplemented, Sap, LinkEnded, Replies, Heard, Puts, Unlinked, NoLink}
use Rattle.bench_world.specs.Report.{fate_text, sent_text, event_text, answer_text, line_text}
use Rattle.bench_world.specs.ReadBack.{IsOf, LinesTellEvents, AnswersApart}

-- what stands before the LF
before_lf : (xs us : List ℕ) → xs ++ 10 ∷ [] ≡ us ++ 10 ∷ [] → xs ≡ us
before_lf [] [] e = refl
before_lf [] (u ∷ us) e = absurd (omega (arith, ap length e, length-append us (10 ∷ [])))
before_lf (x ∷ xs) [] e = absurd (omega (arith, ap length e, length-append xs (10 ∷ [])))
before_lf (x ∷ xs) (u ∷ us) e =
    let head : x ≡ u = ap first e in ap (λ b. b ∷ xs) head ∙ ap (λ l. u ∷ l) (before_lf xs us (ap (drop 1) e))

decimal_above : (n : ℕ) → n < 2 ^ 32 → All (λ b. 47 < b) (decimal n)
decimal_above n small =
    let digits = (decimal_is_IsNumeral n (omega arith)).0.1 in
    All-from_get_or (λ b. 47 < b) (decimal n) 0 (λ i within. let at = digit_at (decimal n) i digits within in omega arith)

no_space : (xs : List ℕ) → All (λ b. 47 < b) xs → All (λ b. b ≢ 32) xs
no_space xs above = All-weaker (λ b. 47 < b) (λ b. b ≢ 32) (λ b more e. omega arith) xs above

no_slash : (xs : List ℕ) → All (λ b. 47 < b) xs → All (λ b. b ≢ 47) xs
no_slash xs above = All-weaker (λ b. 47 < b) (λ b. b ≢ 47) (λ b more e. omega arith) xs above

line_is : (n : ℕ) (x : List ℕ) → line_text n x ≡ decimal n ++ 32 ∷ (x ++ 10 ∷ [])
line_is n x = append_assoc (decimal n ++ 32 ∷ []) x (10 ∷ []) ∙ append_assoc (decimal n) (32 ∷ []) (x ++ 10 ∷ [])

-- two lines that are equal have one number and say the same
lines_apart : (n k : ℕ) (x y : List ℕ) → n < 2 ^ 32 → k < 2 ^ 32 → line_text n x ≡ line_text k y → (n ≡ k) × (x ≡ y)
lines_apart n k x y small less e =
    let parts = cut 32 (decimal n) (32 ∷ (x ++ 10 ∷ [])) (decimal k) (32 ∷ (y ++ 10 ∷ [])) (no_space (decimal n) (decimal_above n small)) (no_space (decimal k) (decimal_above k less)) refl refl
    (sym (line_is n x) ∙ e ∙ line_is k y) in
    (decimal_injective n k (omega arith) (omega arith) parts.0, before_lf x y (ap (drop 1) parts.1))

-- the digits of a byte stand above the signs
abbrev pub all_above : List ℕ → Bool
all_above [] = true
all_above (b ∷ bs) = ltb 47 b && all_above bs

above : (w : List ℕ) → all_above w ≡ true → All (λ b. 47 < b) w
above [] e = All-nil (λ b. 47 < b)
above (b ∷ bs) e = All-cons (λ b. 47 < b) b bs (grind arith) (above bs (grind arith))

digit_above : (d : ℕ) → d < 16 → 47 < get_or upper_digits d 0
digit_above d small = above upper_digits refl d 0 (omega arith)

upper_above : (bytes : List ℕ) → IsBytes bytes → All (λ b. 47 < b) (encode_upper bytes)
unfolding encode_with
upper_above [] small = All-nil (λ b. 47 < b)
upper_above (b ∷ bs) small =
    let byte : b < 256 = small 0 in
    let more : IsBytes bs = λ k. small (suc k) in
    let high : ℕ = get_or upper_digits (b / 16) 0 in
    let low : ℕ = get_or upper_digits (b % 16) 0 in
    All-cons (λ b. 47 < b) high (low ∷ encode_upper bs) (digit_above (b / 16) (omega arith))
    (All-cons (λ b. 47 < b) low (encode_upper bs) (digit_above (b % 16) (omega arith)) (upper_above bs more))

hex_some : (b : ℕ) (bs : List ℕ) → hex_text (b ∷ bs) ≡ encode_upper (b ∷ bs)
hex_some b bs = ap (λ none. if none then codes "-" else encode_upper (b ∷ bs)) (ne_eqb (length (b ∷ bs)) 0 (λ e. omega arith))

hex_no_slash : (bytes : List ℕ) → IsBytes bytes → All (λ b. b ≢ 47) (hex_text bytes)
hex_no_slash [] small = All-cons (λ b. b ≢ 47) 45 [] (λ e. omega arith) (All-nil (λ b. b ≢ 47))
hex_no_slash (b ∷ bs) small = subst (λ x. All (λ c. c ≢ 47) x) (sym (hex_some b bs)) (no_slash (encode_upper (b ∷ bs)) (upper_above (b ∷ bs) small))

hex_no_space : (bytes : List ℕ) → IsBytes bytes → All (λ b. b ≢ 32) (hex_text bytes)
hex_no_space [] small = All-cons (λ b. b ≢ 32) 45 [] (λ e. omega arith) (All-nil (λ b. b ≢ 32))
hex_no_space (b ∷ bs) small = subst (λ x. All (λ c. c ≢ 32) x) (sym (hex_some b bs)) (no_space (encode_upper (b ∷ bs)) (upper_above (b ∷ bs) small))

-- hex tells its bytes
hex_tells : (xs ys : List ℕ) → IsBytes xs → IsBytes ys → hex_text xs ≡ hex_text ys → xs ≡ ys
hex_tells [] [] small less e = refl
hex_tells [] (y ∷ ys) small less e = absurd (omega (arith, ap length (e ∙ hex_some y ys), length-encode_with upper_digits (y ∷ ys)))
hex_tells (x ∷ xs) [] small less e = absurd (omega (arith, ap length (sym (hex_some x xs) ∙ e), length-encode_with upper_digits (x ∷ xs)))
hex_tells (x ∷ xs) (y ∷ ys) small less e =
    let one = decode_of-encode_upper (x ∷ xs) small in
    let other = decode_of-encode_upper (y ∷ ys) less in
    decode_of-same (encode_upper (x ∷ xs)) (x ∷ xs) (y ∷ ys) one (ap decode_of (sym (hex_some x xs) ∙ e ∙ hex_some y ys) ∙ other)

tail_by : (v : Bool) (t : ℕ) → t < 2 ^ 32 → All (λ b. b ≢ 32) (if v then [] else codes "/" ++ decimal t)
tail_by true t small = All-nil (λ b. b ≢ 32)
tail_by false t small = All-cons (λ b. b ≢ 32) 47 (decimal t) (λ e. omega arith) (no_space (decimal t) (decimal_above t small))

frame_no_space : (f : Signal) → IsSignal f → All (λ b. b ≢ 32) (frame_text f)
frame_no_space f is =
    let small : f.tail < 8 = is.small in
    All-append (λ b. b ≢ 32) (hex_text f.bytes) (tail_text f.tail) (hex_no_space f.bytes is.bytes) (tail_by (f.tail == 0) f.tail (omega arith))

-- a frame's text tells its bits
frame_tells : (f g : Signal) → IsSignal f → IsSignal g → f.tech ≡ g.tech → frame_text f ≡ frame_text g → f ≡ g
frame_tells f g is are tech e =
    let parts = cut 47 (hex_text f.bytes) (tail_text f.tail) (hex_text g.bytes) (tail_text g.tail) (hex_no_slash f.bytes is.bytes) (hex_no_slash g.bytes are.bytes)
    (tail_begins (f.tail == 0) f.tail) (tail_begins (g.tail == 0) g.tail) e in
    let bytes : f.bytes ≡ g.bytes = hex_tells f.bytes g.bytes is.bytes are.bytes parts.0 in
    let tail : f.tail ≡ g.tail = tail_tells (f.tail == 0) (g.tail == 0) f.tail g.tail refl refl is.small are.small parts.1 in
    ap (λ x. signal x f.bytes f.tail) tech ∙ ap (λ x. signal g.tech x f.tail) bytes ∙ ap (λ x. signal g.tech g.bytes x) tail

pub fate_tells : (x y : Fate) → fate_text x ≡ fate_text y → x ≡ y
fate_tells Pass Pass e = refl
fate_tells Pass Damage e = absurd (omega (arith, ap first e))
fate_tells Pass Lose e = absurd (omega (arith, ap first e))
fate_tells Pass Break e = absurd (omega (arith, ap first e))
fate_tells Damage Pass e = absurd (omega (arith, ap first e))
fate_tells Damage Damage e = refl
fate_tells Damage Lose e = absurd (omega (arith, ap first e))
fate_tells Damage Break e = absurd (omega (arith, ap first e))
fate_tells Lose Pass e = absurd (omega (arith, ap first e))
fate_tells Lose Damage e = absurd (omega (arith, ap first e))
fate_tells Lose Lose e = refl
fate_tells Lose Break e = absurd (omega (arith, ap first e))
fate_tells Break Pass e = absurd (omega (arith, ap first e))
fate_tells Break Damage e = absurd (omega (arith, ap first e))
fate_tells Break Lose e = absurd (omega (arith, ap first e))
fate_tells Break Break e = refl

sent_tells : (f g : Signal) (x y : Fate) → IsSignal f → IsSignal g → f.tech ≡ g.tech → sent_text f x ≡ sent_text g y → (f ≡ g) × (x ≡ y)
sent_tells f g x y is are tech e =
    let parts = cut 32 (frame_text f) (32 ∷ fate_text x) (frame_text g) (32 ∷ fate_text y) (frame_no_space f is) (frame_no_space g are) refl refl
    (sym (append_assoc (frame_text f) (32 ∷ []) (fate_text x)) ∙ e ∙ append_assoc (frame_text g) (32 ∷ []) (fate_text y)) in
    (frame_tells f g is are tech parts.0, fate_tells x y (ap (drop 1) parts.1))

event_tells : (t : Tech) (e f : Event) → IsOf t e → IsOf t f → event_text e ≡ event_text f → e ≡ f
event_tells t Reset Reset one other same = refl
event_tells t Reset (Request g y) one other same = absurd (omega (arith, ap first same))
event_tells t Reset (Answer g y) one other same = absurd (omega (arith, ap first same))
event_tells t Reset (Clash g y) one other same = absurd (omega (arith, ap first same))
event_tells t (Request f x) Reset one other same = absurd (omega (arith, ap first same))
event_tells t (Request f x) (Request g y) one other same =
    let is = sent_tells f g x y one.0 other.0 (one.1 ∙ sym other.1) (ap (drop 2) same) in ap (λ h. Request h x) is.0 ∙ ap (λ z. Request g z) is.1
event_tells t (Request f x) (Answer g y) one other same = absurd (omega (arith, ap first same))
event_tells t (Request f x) (Clash g y) one other same = absurd (omega (arith, ap first same))
event_tells t (Answer f x) Reset one other same = absurd (omega (arith, ap first same))
event_tells t (Answer f x) (Request g y) one other same = absurd (omega (arith, ap first same))
event_tells t (Answer f x) (Answer g y) one other same =
    let is = sent_tells f g x y one.0 other.0 (one.1 ∙ sym other.1) (ap (drop 2) same) in ap (λ h. Answer h x) is.0 ∙ ap (λ z. Answer g z) is.1
event_tells t (Answer f x) (Clash g y) one other same = absurd (omega (arith, ap first same))
event_tells t (Clash f x) Reset one other same = absurd (omega (arith, ap first same))
event_tells t (Clash f x) (Request g y) one other same = absurd (omega (arith, ap first same))
event_tells t (Clash f x) (Answer g y) one other same = absurd (omega (arith, ap first same))
event_tells t (Clash f x) (Clash g y) one other same =
    let is = sent_tells f g x y one.0 other.0 (one.1 ∙ sym other.1) (ap (drop 2) same) in ap (λ h. Clash h x) is.0 ∙ ap (λ z. Clash g z) is.1

pub lines_tell : LinesTellEvents
lines_tell = λ t n k e f small less one other same.
    let parts = lines_apart n k (event_text e) (event_text f) small less same in
    (parts.0, event_tells t e f one other parts.1)

-- an event begins with a sign, and an answer with a letter
sign_first : (e : Event) → first (event_text e) < 63
sign_first Reset = omega arith
sign_first (Request f x) = omega arith
sign_first (Answer f x) = omega arith
sign_first (Clash f x) = omega arith

letter_first : (a : Said) → 96 < first (answer_text a)
letter_first Done = omega arith
letter_first NotNdef = omega arith
letter_first Version = omega arith
letter_first NoRead = omega arith
letter_first Sectors = omega arith
letter_first BadSize = omega arith
letter_first NoMessageTlv = omega arith
letter_first BadTlv = omega arith
letter_first Disturbed = omega arith
letter_first FieldLost = omega arith
letter_first NotFound = omega arith
letter_first SixBad = omega arith
letter_first Written = omega arith
letter_first (Refused code) = omega arith
letter_first ReadOnly = omega arith
letter_first (TooLong room) = omega arith
letter_first ShortMlc = omega arith
letter_first WrongKind = omega arith
letter_first (Store bytes) = omega arith
letter_first (Inbox messages) = omega arith
letter_first (Found devices crowd) = omega arith
letter_first (Crowd tags) = omega arith
letter_first T3None = omega arith
letter_first (T3One id) = omega arith
letter_first T3Crowd = omega arith
letter_first Unfinished = omega arith
letter_first (Message message writable) = omega arith
letter_first (Linked link) = omega arith
letter_first Success = omega arith
letter_first Reject = omega arith
letter_first (Value value) = omega arith
letter_first NoValue = omega arith
letter_first Excess = omega arith
letter_first NotImplemented = omega arith
letter_first (Sap sap) = omega arith
letter_first (LinkEnded loss) = omega arith
letter_first (Replies replies) = omega arith
letter_first (Heard all) = omega arith
letter_first (Puts done) = omega arith
letter_first Unlinked = omega arith
letter_first NoLink = omega arith

pub answers_apart : AnswersApart
answers_apart = λ n k e a small less same.
    let parts = lines_apart n k (event_text e) (answer_text a) small less same in
    omega (arith, sign_first e, letter_first a, ap first parts.1)
