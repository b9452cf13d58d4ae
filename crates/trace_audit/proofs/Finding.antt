-- What stands in the text of an event, and where it is cut.
use Rattle.std.proofs.Common.{◌≡◌, ◌≢◌, ℕ, zero, suc, ◌+◌, ◌-◌, ◌*◌, ◌/◌, ◌%◌, ◌<◌, ◌≤◌, ◌^◌, List, [], ◌∷◌, ◌++◌, length, append_assoc, take, drop, get_or, Bool, true, false, ◌==◌, refl, sym, ◌∙◌}
use Rattle.std.proofs.Common.{ap, subst, arith, Ok, Some, None}
use Rattle.std.specs.Prelude.{codes, if◌then◌else◌, Result, MatchResult, Err}
use Rattle.std.specs.List.{All}
use Rattle.std.specs.Fmt.{decimal}
use Rattle.std.proofs.lemmas.Bool.{ne_eqb}
use Rattle.std.proofs.lemmas.Fmt.{decimal_is_IsNumeral}
use Rattle.std.proofs.lemmas.Str.Parse.{digit_at}
use Rattle.std.proofs.lemmas.List.Elements.{All-cons, All-nil, All-append, All-from_get_or, All-weaker}
use Rattle.std.proofs.lemmas.List.{length-append, append-nil, take_rest}
use Rattle.std.proofs.Math.Seq.{take-append_seam, drop-append_seam}
use Rattle.hex.specs.Hex.{encode_with, encode_upper, upper_digits, decode_of, decode_sized, IsBytes}
use Rattle.hex.specs.declared.error.FromHexError.{FromHexError}
use Rattle.hex.proofs.HexLemmas.{length-encode_with, decode_of-encode_upper, decode_sized-twice}
use Rattle.nfc_base.specs.Signal.{Signal, signal, IsSignal}
use Rattle.nfc_base.specs.declared.frame.Tech.{Tech}
use Rattle.nfc_base.specs.declared.event.Event.{Event}
use Rattle.nfc_base.specs.declared.event.Event.TheVariants.{Reset, Request, Answer, Clash}
use Rattle.nfc_base.specs.declared.event.Fate.{Fate}
use Rattle.bench_script.specs.Script.{tail_text}
use Rattle.bench_script.specs.Canonical.{hex_text, frame_text}
use Rattle.bench_script.proofs.Frames.{first, cut, tail_begins, tail_is}
use Rattle.bench_world.specs.Report.{fate_text, event_text}
use Rattle.trace_audit.specs.private.Finding.{Finds, IsDigitsOf, IsWordOf, IsSentOf, IsTextOf, IsLineOf}
use Rattle.bench_world.proofs.lines.ReadBack.{all_above}

-- digits stand above the signs, and so does no byte of these texts meet one
decimal_above : (n : ℕ) → n < 2 ^ 32 → All (λ b. 47 < b) (decimal n)
decimal_above n small =
    let digits = (decimal_is_IsNumeral n (omega arith)).0.1 in
    All-from_get_or (λ b. 47 < b) (decimal n) 0 (λ i within. let at = digit_at (decimal n) i digits within in omega arith)

above : (w : List ℕ) → all_above w ≡ true → All (λ b. 47 < b) w
above [] e = All-nil (λ b. 47 < b)
above (b ∷ bs) e = All-cons (λ b. 47 < b) b bs (grind arith) (above bs (grind arith))

digit_above : (d : ℕ) → d < 16 → 47 < get_or upper_digits d 0
digit_above d small = above upper_digits refl d 0 (omega arith)

upper_above : (bytes : List ℕ) → IsBytes bytes → All (λ b. 47 < b) (encode_upper bytes)
unfolding encode_with
upper_above [] small = All-nil (λ b. 47 < b)
upper_above (b ∷ bs) small =
    let byte : b < 256 = small 0 in
    let more : IsBytes bs = λ k. small (suc k) in
    let high : ℕ = get_or upper_digits (b / 16) 0 in
    let low : ℕ = get_or upper_digits (b % 16) 0 in
    All-cons (λ b. 47 < b) high (low ∷ encode_upper bs) (digit_above (b / 16) (omega arith))
    (All-cons (λ b. 47 < b) low (encode_upper bs) (digit_above (b % 16) (omega arith)) (upper_above bs more))

-- a byte that is no digit isn't among them
without : (s : ℕ) (xs : List ℕ) → s < 48 → All (λ b. 47 < b) xs → All (λ b. b ≢ s) xs
without s xs low above = All-weaker (λ b. 47 < b) (λ b. b ≢ s) (λ b more e. omega arith) xs above

pub decimal_without : (s n : ℕ) → s < 48 → n < 2 ^ 32 → All (λ b. b ≢ s) (decimal n)
decimal_without s n low small = without s (decimal n) low (decimal_above n small)

hex_some : (b : ℕ) (bs : List ℕ) → hex_text (b ∷ bs) ≡ encode_upper (b ∷ bs)
hex_some b bs = ap (λ none. if none then codes "-" else encode_upper (b ∷ bs)) (ne_eqb (length (b ∷ bs)) 0 (λ e. omega arith))

pub hex_without : (s : ℕ) (bytes : List ℕ) → s < 48 → s ≢ 45 → IsBytes bytes → All (λ b. b ≢ s) (hex_text bytes)
hex_without s [] low other small = All-cons (λ b. b ≢ s) 45 [] (λ e. other (sym e)) (All-nil (λ b. b ≢ s))
hex_without s (b ∷ bs) low other small =
    subst (λ x. All (λ c. c ≢ s) x) (sym (hex_some b bs)) (without s (encode_upper (b ∷ bs)) low (upper_above (b ∷ bs) small))

tail_without : (s : ℕ) (v : Bool) (t : ℕ) → s < 47 → t < 2 ^ 32 → All (λ b. b ≢ s) (if v then [] else codes "/" ++ decimal t)
tail_without s true t low small = All-nil (λ b. b ≢ s)
tail_without s false t low small = All-cons (λ b. b ≢ s) 47 (decimal t) (λ e. omega arith) (decimal_without s t (omega arith) small)

pub frame_without : (s : ℕ) (f : Signal) → s < 45 → IsSignal f → All (λ b. b ≢ s) (frame_text f)
frame_without s f low is =
    let small : f.tail < 8 = is.small in
    All-append (λ b. b ≢ s) (hex_text f.bytes) (tail_text f.tail) (hex_without s f.bytes (omega arith) (λ e. omega arith) is.bytes) (tail_without s (f.tail == 0) f.tail (omega arith) (omega arith))

-- the digits of a frame's bytes, where it has some
spelled : (digits bytes : List ℕ) → digits ≡ hex_text bytes → digits ≢ codes "-" → digits ≡ encode_upper bytes
spelled digits [] is some = absurd (some is)
spelled digits (b ∷ bs) is some = is ∙ hex_some b bs

pub digits_known : (tech : Tech) (digits : List ℕ) (tail : ℕ) (f : Signal) → IsDigitsOf tech digits tail f → digits ≢ codes "-"
    → (length digits ≡ 2 * length f.bytes) × (digits ≡ encode_upper f.bytes)
digits_known tech digits tail f is some =
    let text = spelled digits f.bytes is.is some in
    (ap length text ∙ length-encode_with upper_digits f.bytes, text)

pub no_bytes : (bytes : List ℕ) → hex_text bytes ≡ codes "-" → bytes ≡ []
no_bytes [] e = refl
no_bytes (b ∷ bs) e = absurd (omega (arith, ap length (sym (hex_some b bs) ∙ e), length-encode_with upper_digits (b ∷ bs)))

-- what decoding into room for them answers
pub decoded : (digits bytes room : List ℕ) (n : ℕ) (r : Result (Unit {0}) FromHexError) → digits ≡ encode_upper bytes → IsBytes bytes → n ≡ length digits / 2
    → MatchResult (decode_sized digits n) (λ xs. (r ≡ Ok tt) × (room ≡ xs)) (λ e. r ≡ Err e) → (r ≡ Ok tt) × (room ≡ bytes)
decoded digits bytes room n r is small half known =
    let size : length digits ≡ 2 * n = (let two : length digits ≡ 2 * length bytes = ap length is ∙ length-encode_with upper_digits bytes in omega (arith, two, half)) in
    let all : decode_sized digits n ≡ Ok bytes = decode_sized-twice digits n size ∙ ap decode_of is ∙ decode_of-encode_upper bytes small in
    let P : Result (List ℕ) FromHexError → Type 0 = λ x. MatchResult x (λ xs. (r ≡ Ok tt) × (room ≡ xs)) (λ e. r ≡ Err e) in subst P all known

pub same_signal : (f g : Signal) → f.tech ≡ g.tech → f.bytes ≡ g.bytes → f.tail ≡ g.tail → f ≡ g
same_signal f g tech bytes tail = ap (λ x. signal x f.bytes f.tail) tech ∙ ap (λ x. signal g.tech x f.tail) bytes ∙ ap (λ x. signal g.tech g.bytes x) tail

no_tail : (t : ℕ) → t < 8 → tail_text t ≡ [] → t ≡ 0
no_tail zero small e = refl
no_tail (suc t) small e = absurd (omega (arith, ap length (sym (tail_is (suc t) (omega arith) small) ∙ e)))

some_tail : (t : ℕ) (rest : List ℕ) → t < 8 → 47 ∷ rest ≡ tail_text t → (0 < t) × (rest ≡ (48 + t) ∷ [])
some_tail zero rest small e = absurd (omega (arith, ap length e))
some_tail (suc t) rest small e = (omega arith, ap (drop 1) (e ∙ tail_is (suc t) (omega arith) small))

-- A word with no slash is all digits, and its frame is whole.
pub whole_word : (tech : Tech) (word : List ℕ) (f : Signal) → All (λ b. b ≢ 47) word → IsWordOf tech word f → IsDigitsOf tech word 0 f
whole_word tech word f none is =
    let parts = cut 47 word [] (hex_text f.bytes) (tail_text f.tail) none (hex_without 47 f.bytes (omega arith) (λ e. omega arith) is.on_air.bytes) tt (tail_begins (f.tail == 0) f.tail)
    (append-nil word ∙ is.is) in
    record { on_air = is.on_air; technology = is.technology; is = parts.0; part = no_tail f.tail is.on_air.small (sym parts.1) }

-- One with a slash says behind it how many bits are sent.
pub part_word : (tech : Tech) (word digits rest : List ℕ) (f : Signal) → word ≡ digits ++ 47 ∷ rest → All (λ b. b ≢ 47) digits → IsWordOf tech word f
    → (rest ≡ (48 + f.tail) ∷ []) × (0 < f.tail) × (f.tail < 8) × IsDigitsOf tech digits f.tail f
part_word tech word digits rest f split none is =
    let parts = cut 47 digits (47 ∷ rest) (hex_text f.bytes) (tail_text f.tail) none (hex_without 47 f.bytes (omega arith) (λ e. omega arith) is.on_air.bytes) refl (tail_begins (f.tail == 0) f.tail)
    (sym split ∙ is.is) in
    let tail = some_tail f.tail rest is.on_air.small parts.1 in
    (tail.1, tail.0, is.on_air.small, record { on_air = is.on_air; technology = is.technology; is = parts.0; part = refl })

-- A transmission is cut at its space.
pub sent_parts : (tech : Tech) (text word name : List ℕ) (f : Signal) (x : Fate) → text ≡ word ++ 32 ∷ name → All (λ b. b ≢ 32) word → IsSentOf tech text (f, x)
    → IsWordOf tech word f × (name ≡ fate_text x)
sent_parts tech text word name f x split none is =
    let parts = cut 32 word (32 ∷ name) (frame_text f) (32 ∷ fate_text x) none (frame_without 32 f (omega arith) is.on_air) refl refl
    (sym split ∙ is.is ∙ append_assoc (frame_text f) (32 ∷ []) (fate_text x)) in
    (record { on_air = is.on_air; technology = is.technology; is = parts.0 }, ap (drop 1) parts.1)

one_some : (x y : Signal × Fate) → Some x ≡ Some y → x ≡ y
one_some x y e = cc

-- Behind its sign and a space stands what was sent.
pub asked_told : (tech : Tech) (text sent : List ℕ) (frame : Signal) (fate : Fate) (e : Event) → text ≡ 62 ∷ 32 ∷ sent → Finds (IsSentOf tech sent) (Some (frame, fate)) → IsTextOf tech text e
    → e ≡ Request frame fate
asked_told tech text sent frame fate Reset begins finds is = absurd (omega (arith, ap first (sym begins ∙ is.is)))
asked_told tech text sent frame fate (Request f x) begins finds is =
    let same = one_some (frame, fate) (f, x) (finds (f, x) (record { on_air = is.of.0; technology = is.of.1; is = ap (drop 2) (sym begins ∙ is.is) })) in
    ap (λ (y : Signal × Fate). Request y.0 y.1) (sym same)
asked_told tech text sent frame fate (Answer f x) begins finds is = absurd (omega (arith, ap first (sym begins ∙ is.is)))
asked_told tech text sent frame fate (Clash f x) begins finds is = absurd (omega (arith, ap first (sym begins ∙ is.is)))

pub answered_told : (tech : Tech) (text sent : List ℕ) (frame : Signal) (fate : Fate) (e : Event) → text ≡ 60 ∷ 32 ∷ sent → Finds (IsSentOf tech sent) (Some (frame, fate)) → IsTextOf tech text e
    → e ≡ Answer frame fate
answered_told tech text sent frame fate Reset begins finds is = absurd (omega (arith, ap first (sym begins ∙ is.is)))
answered_told tech text sent frame fate (Request f x) begins finds is = absurd (omega (arith, ap first (sym begins ∙ is.is)))
answered_told tech text sent frame fate (Answer f x) begins finds is =
    let same = one_some (frame, fate) (f, x) (finds (f, x) (record { on_air = is.of.0; technology = is.of.1; is = ap (drop 2) (sym begins ∙ is.is) })) in
    ap (λ (y : Signal × Fate). Answer y.0 y.1) (sym same)
answered_told tech text sent frame fate (Clash f x) begins finds is = absurd (omega (arith, ap first (sym begins ∙ is.is)))

pub clashed_told : (tech : Tech) (text sent : List ℕ) (frame : Signal) (fate : Fate) (e : Event) → text ≡ 42 ∷ 32 ∷ sent → Finds (IsSentOf tech sent) (Some (frame, fate)) → IsTextOf tech text e
    → e ≡ Clash frame fate
clashed_told tech text sent frame fate Reset begins finds is = absurd (omega (arith, ap first (sym begins ∙ is.is)))
clashed_told tech text sent frame fate (Request f x) begins finds is = absurd (omega (arith, ap first (sym begins ∙ is.is)))
clashed_told tech text sent frame fate (Answer f x) begins finds is = absurd (omega (arith, ap first (sym begins ∙ is.is)))
clashed_told tech text sent frame fate (Clash f x) begins finds is =
    let same = one_some (frame, fate) (f, x) (finds (f, x) (record { on_air = is.of.0; technology = is.of.1; is = ap (drop 2) (sym begins ∙ is.is) })) in
    ap (λ (y : Signal × Fate). Clash y.0 y.1) (sym same)

-- Where nothing was sent, it is the text of no event but a reset.
pub nothing_told : (tech : Tech) (text sent : List ℕ) (sign : ℕ) (e : Event) → text ≡ sign ∷ 32 ∷ sent → text ≢ codes "! reset" → Finds (IsSentOf tech sent) None → IsTextOf tech text e → ⊥
nothing_told tech text sent sign Reset begins other finds is = other is.is
nothing_told tech text sent sign (Request f x) begins other finds is =
    let same = finds (f, x) (record { on_air = is.of.0; technology = is.of.1; is = ap (drop 2) (sym begins ∙ is.is) }) in cc
nothing_told tech text sent sign (Answer f x) begins other finds is =
    let same = finds (f, x) (record { on_air = is.of.0; technology = is.of.1; is = ap (drop 2) (sym begins ∙ is.is) }) in cc
nothing_told tech text sent sign (Clash f x) begins other finds is =
    let same = finds (f, x) (record { on_air = is.of.0; technology = is.of.1; is = ap (drop 2) (sym begins ∙ is.is) }) in cc

two_begin : (text : List ℕ) → 2 ≤ length text → text ≡ get_or text 0 0 ∷ get_or text 1 0 ∷ drop 2 text
two_begin [] two = absurd (omega arith)
two_begin (a ∷ []) two = absurd (omega arith)
two_begin (a ∷ b ∷ text) two = refl

-- a text by its first two bytes and what stands behind them
pub two_first : (text : List ℕ) → 2 ≤ length text → text ≡ get_or text 0 0 ∷ get_or text 1 0 ∷ take (length text - 2) (drop 2 text)
two_first text two = rw take_rest (two_begin text two)

-- Behind its number and a space stands the text of an event, and an LF.
pub line_parts : (tech : Tech) (text number said : List ℕ) (e : Event) → text ≡ number ++ 32 ∷ said → All (λ b. b ≢ 32) number → IsLineOf tech text e → said ≡ event_text e ++ 10 ∷ []
line_parts tech text number said e split none is =
    let n : ℕ = is.number in
    let body : List ℕ = event_text e in
    let parts = cut 32 number (32 ∷ said) (decimal n) (32 ∷ (body ++ 10 ∷ [])) none (decimal_without 32 n (omega arith) is.small) refl refl
    (sym split ∙ is.is ∙ append_assoc (decimal n ++ 32 ∷ []) body (10 ∷ []) ∙ append_assoc (decimal n) (32 ∷ []) (body ++ 10 ∷ [])) in
    ap (drop 1) parts.1

-- ... and what stands before the last byte
pub front_of : (said body : List ℕ) → said ≡ body ++ 10 ∷ [] → take (length said - 1) said ≡ body
front_of said body e =
    let size : length said - 1 ≡ length body = omega (arith, ap length e, length-append body (10 ∷ [])) in
    ap (λ s. take (length said - 1) s) e ∙ ap (λ n. take n (body ++ 10 ∷ [])) size ∙ take-append_seam body (10 ∷ [])

pub ends_so : (said body : List ℕ) → said ≡ body ++ 10 ∷ [] → drop (length said - 1) said ≡ 10 ∷ []
ends_so said body e =
    let size : length said - 1 ≡ length body = omega (arith, ap length e, length-append body (10 ∷ [])) in
    ap (λ s. drop (length said - 1) s) e ∙ ap (λ n. drop n (body ++ 10 ∷ [])) size ∙ drop-append_seam body (10 ∷ [])

-- one digit tells its number
pub first_digit : (t u : ℕ) → (48 + t) ∷ [] ≡ (48 + u) ∷ [] → t ≡ u
first_digit t u e = omega (arith, ap first e)
