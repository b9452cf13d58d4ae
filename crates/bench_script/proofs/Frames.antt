-- A word spells one frame, and how it is cut.
use Rattle.std.proofs.Common.{◌≡◌, ◌≢◌, ℕ, zero, suc, ◌+◌, ◌-◌, ◌<◌, ◌≤◌, ◌^◌, ◌++◌, inl, inr, List, [], ◌∷◌, take, drop, length, Bool, true, false, ◌==◌, refl, sym, ◌∙◌, ap, subst, arith}
use Rattle.std.specs.Prelude.{codes, if◌then◌else◌, slice_index_or}
use Rattle.std.specs.List.{All}
use Rattle.std.specs.Fmt.{decimal}
use Rattle.std.proofs.lemmas.Bool.{ne_eqb}
use Rattle.std.proofs.lemmas.Fmt.{decimal_digit, decimal_injective}
use Rattle.std.proofs.lemmas.List.{append_cancel_right, append-nil, length-append, take-append-drop, drop_all, get_or-append_right}
use Rattle.std.proofs.Math.Seq.{drop-cons}
use Rattle.std.proofs.lemmas.List.Elements.{All-cons, All-nil, All-head, All-tail, All-weaker}
use Rattle.hex.specs.Hex.{is_hex_digit}
use Rattle.hex.proofs.HexLemmas.{decode_of-ok}
use Rattle.nfc_base.specs.Signal.{Signal, signal, IsSignal, IsBadTail, last_byte}
use Rattle.nfc_base.specs.declared.frame.Tech.{Tech}
use Rattle.bench_script.specs.private.Words.{CutsTail, SpellsNoHex}
use Rattle.bench_script.specs.Script.{SpellsHex, tail_text, SpellsFrame}
use Rattle.bench_script.proofs.Messages.{hex_one}

-- the first byte of a text
abbrev pub first : List ℕ → ℕ
first [] = 0
first (b ∷ bs) = b

-- a text that goes on goes on by this byte
abbrev pub Begins : ℕ → List ℕ → Type 0
Begins s [] = Unit {0}
Begins s (b ∷ bs) = b ≡ s

-- what stands before the first such byte, and what stands behind
pub cut : (s : ℕ) (xs ys us vs : List ℕ) → All (λ b. b ≢ s) xs → All (λ b. b ≢ s) us → Begins s ys → Begins s vs → xs ++ ys ≡ us ++ vs → (xs ≡ us) × (ys ≡ vs)
cut s [] ys [] vs none other at there e = (refl, e)
cut s [] [] (u ∷ us) vs none other at there e = absurd (omega (arith, ap length e))
cut s [] (y ∷ ys) (u ∷ us) vs none other at there e = absurd (other 0 0 (omega arith) (sym (ap first e) ∙ at))
cut s (x ∷ xs) ys [] [] none other at there e = absurd (omega (arith, ap length e))
cut s (x ∷ xs) ys [] (v ∷ vs) none other at there e = absurd (none 0 0 (omega arith) (ap first e ∙ there))
cut s (x ∷ xs) ys (u ∷ us) vs none other at there e =
    let head : x ≡ u = ap first e in
    let rest = cut s xs ys us vs (λ k d small. none (suc k) d (omega arith)) (λ k d small. other (suc k) d (omega arith)) at there (ap (drop 1) e) in
    (ap (λ b. b ∷ xs) head ∙ ap (λ l. u ∷ l) rest.0, rest.1)

-- a tail's text begins with a slash, and tells how many bits are sent
pub tail_begins : (v : Bool) (t : ℕ) → Begins 47 (if v then [] else codes "/" ++ decimal t)
tail_begins true t = tt
tail_begins false t = refl

pub tail_tells : (v w : Bool) (t u : ℕ) → (t == 0) ≡ v → (u == 0) ≡ w → t < 8 → u < 8 → (if v then [] else codes "/" ++ decimal t) ≡ (if w then [] else codes "/" ++ decimal u) → t ≡ u
tail_tells true true t u whole none small less e = grind (arith, whole, none)
tail_tells true false t u whole none small less e = absurd (omega (arith, ap length e))
tail_tells false true t u whole none small less e = absurd (omega (arith, ap length e))
tail_tells false false t u whole none small less e = decimal_injective t u (omega arith) (omega arith) (ap (drop 1) e)

-- the text of a tail that is sent in part
pub tail_is : (t : ℕ) → 0 < t → t < 8 → tail_text t ≡ 47 ∷ (48 + t) ∷ []
tail_is t some small =
    ap (λ none. if none then [] else codes "/" ++ decimal t) (ne_eqb t 0 (λ e. omega arith)) ∙ ap (λ d. 47 ∷ d) (decimal_digit t (omega arith))

-- no digit of HEX is a slash
hex_no_slash : (word bytes : List ℕ) → SpellsHex word bytes → All (λ b. b ≢ 47) word
hex_no_slash word bytes (inl p) = subst (λ w. All (λ b. b ≢ 47) w) (sym p.0) (All-cons (λ b. b ≢ 47) 45 [] (λ e. omega arith) (All-nil (λ b. b ≢ 47)))
hex_no_slash word bytes (inr p) =
    All-weaker (λ b. is_hex_digit b ≡ true) (λ b. b ≢ 47)
    (λ b digit e. let slash : is_hex_digit 47 ≡ true = (let P : ℕ → Type 0 = λ x. is_hex_digit x ≡ true in subst P e digit) in cc) word (decode_of-ok word bytes p.1).1

same_signal : (f g : Signal) → f.tech ≡ g.tech → f.bytes ≡ g.bytes → f.tail ≡ g.tail → f ≡ g
same_signal f g tech bytes tail = ap (λ x. signal x f.bytes f.tail) tech ∙ ap (λ x. signal g.tech x f.tail) bytes ∙ ap (λ x. signal g.tech g.bytes x) tail

-- the digits of a frame's word, and its tail
parts_one : (word h g : List ℕ) (a b : List ℕ) (t u : ℕ) → SpellsHex h a → SpellsHex g b → t < 8 → u < 8 → word ≡ h ++ tail_text t → word ≡ g ++ tail_text u → (h ≡ g) × (t ≡ u)
parts_one word h g a b t u p q small less e f =
    let parts = cut 47 h (tail_text t) g (tail_text u) (hex_no_slash h a p) (hex_no_slash g b q) (tail_begins (t == 0) t) (tail_begins (u == 0) u) (sym e ∙ f) in
    (parts.0, tail_tells (t == 0) (u == 0) t u refl refl small less parts.1)

-- a word spells one frame of a technology
pub frame_one : (tech : Tech) (word : List ℕ) (f g : Signal) → SpellsFrame tech word f → SpellsFrame tech word g → f ≡ g
frame_one tech word f g p q =
    let parts = parts_one word p.hex q.hex f.bytes g.bytes f.tail g.tail p.bytes q.bytes p.fits.small q.fits.small p.is q.is in
    let bytes : f.bytes ≡ g.bytes = hex_one q.hex f.bytes g.bytes (let P : List ℕ → Type 0 = λ w. SpellsHex w f.bytes in subst P parts.0 p.bytes) q.bytes in
    same_signal f g (p.technology ∙ sym q.technology) bytes parts.1

slash_in : (digits rest : List ℕ) → All (λ b. b ≢ 47) (digits ++ 47 ∷ rest) → ⊥
slash_in [] rest none = All-head (λ b. b ≢ 47) 47 rest none refl
slash_in (d ∷ ds) rest none = slash_in ds rest (All-tail (λ b. b ≢ 47) d (ds ++ 47 ∷ rest) none)

-- where the digits of a word are cut off, they are those of its frame
cut_digits : (word digits : List ℕ) (tail : ℕ) (h : List ℕ) (other : ℕ) → CutsTail word digits tail → All (λ b. b ≢ 47) h → other < 8 → word ≡ h ++ tail_text other → (h ≡ digits) × (other ≡ tail)
cut_digits word digits zero h zero c none small is = (sym (append-nil h) ∙ sym is ∙ c.is ∙ append-nil digits, refl)
cut_digits word digits (suc t) h zero c none small is =
    let begun : word ≡ digits ++ 47 ∷ (48 + suc t) ∷ [] = c.is ∙ ap (λ x. digits ++ x) (tail_is (suc t) (omega arith) c.small) in
    absurd (slash_in digits ((48 + suc t) ∷ []) (subst (λ w. All (λ b. b ≢ 47) w) (sym (append-nil h) ∙ sym is ∙ begun) none))
cut_digits word digits tail h (suc u) c none small is =
    let same : suc u ≡ tail = c.alone h (suc u) (omega arith) small is in
    (append_cancel_right h digits (tail_text tail) (ap (λ x. h ++ tail_text x) (sym same) ∙ sym is ∙ c.is), same)

-- Where they are no HEX, the word spells no frame.
pub digits_refused : (tech : Tech) (word digits : List ℕ) (tail : ℕ) → CutsTail word digits tail → SpellsNoHex digits → (f : Signal) → SpellsFrame tech word f → ⊥
digits_refused tech word digits tail c none f s =
    let parts = cut_digits word digits tail s.hex f.tail c (hex_no_slash s.hex f.bytes s.bytes) s.fits.small s.is in
    none.none f.bytes (let P : List ℕ → Type 0 = λ w. SpellsHex w f.bytes in subst P parts.0 s.bytes)

-- a frame's tail is one that its bytes can have
no_bad_tail : (f : Signal) → IsSignal f → IsBadTail f.bytes f.tail → ⊥
no_bad_tail f is (inl large) = (let small : f.tail < 8 = is.small in omega (arith, small, large))
no_bad_tail f is (inr (some, inl none)) = (let held : 0 < length f.bytes = is.held some in omega (arith, held, none))
no_bad_tail f is (inr (some, inr more)) = (let unused : last_byte f.bytes < 2 ^ f.tail = is.unused some in omega (arith, unused, more))

-- Nor does it where its bytes and its tail make none.
pub part_refused : (tech : Tech) (word digits bytes : List ℕ) (tail : ℕ) → CutsTail word digits tail → SpellsHex digits bytes
    → ((length bytes ≤ 288) × (IsBadTail bytes tail → ⊥) → ⊥) → (f : Signal) → SpellsFrame tech word f → ⊥
part_refused tech word digits bytes tail c hex none f s =
    let parts = cut_digits word digits tail s.hex f.tail c (hex_no_slash s.hex f.bytes s.bytes) s.fits.small s.is in
    let same : f.bytes ≡ bytes = hex_one digits f.bytes bytes (let P : List ℕ → Type 0 = λ w. SpellsHex w f.bytes in subst P parts.0 s.bytes) hex in
    let fits : length bytes ≤ 288 = subst (λ b. length b ≤ 288) same s.fits.fits in
    none (fits, subst (λ t. IsBadTail bytes t → ⊥) parts.1 (subst (λ b. IsBadTail b f.tail → ⊥) same (no_bad_tail f s.fits)))

last_of : List ℕ → ℕ
last_of [] = 0
last_of (b ∷ []) = b
last_of (b ∷ c ∷ cs) = last_of (c ∷ cs)

last_two : (front : List ℕ) (a b : ℕ) → last_of (front ++ a ∷ b ∷ []) ≡ b
unfolding last_of
last_two [] a b = refl
last_two (x ∷ []) a b = refl
last_two (x ∷ y ∷ front) a b = last_two (y ∷ front) a b

-- a word that ends in a slash and a digit from 1 to 7 is cut before the slash
pub tail_cut : (word digits : List ℕ) (count : ℕ) → word ≡ digits ++ 47 ∷ count ∷ [] → 48 < count → count < 56 → CutsTail word digits (count - 48)
tail_cut word digits count is more less =
    let digit : 48 + (count - 48) ≡ count = omega (arith, more) in
    record {
      is = is ∙ ap (λ x. digits ++ x) (ap (λ n. 47 ∷ n ∷ []) (sym digit) ∙ sym (tail_is (count - 48) (omega (arith, more)) (omega (arith, less))));
      small = omega (arith, less);
      alone = λ front other some small e.
          let ends : front ++ 47 ∷ (48 + other) ∷ [] ≡ digits ++ 47 ∷ count ∷ [] = sym (e ∙ ap (λ x. front ++ x) (tail_is other some small)) ∙ is in
          let same : 48 + other ≡ count = sym (last_two front 47 (48 + other)) ∙ ap last_of ends ∙ last_two digits 47 count in
          omega (arith, same);
    }

-- any other word has no tail
pub whole_cut : (word : List ℕ) → ((front : List ℕ) (count : ℕ) → 48 < count → count < 56 → word ≡ front ++ 47 ∷ count ∷ [] → ⊥) → CutsTail word word 0
whole_cut word none = record {
  is = sym (append-nil word);
  small = omega arith;
  alone = λ front other some small e. absurd (none front (48 + other) (omega (arith, some)) (omega (arith, small)) (e ∙ ap (λ x. front ++ x) (tail_is other some small)));
}

-- its last two bytes, by their places
ends_by : (word : List ℕ) → 2 ≤ length word → word ≡ take (length word - 2) word ++ slice_index_or word (length word - 2) 0 ∷ slice_index_or word (length word - 1) 0 ∷ []
ends_by word two =
    let n : ℕ = length word - 2 in
    let next : suc n ≡ length word - 1 = omega (arith, two) in
    let ends : length word ≤ suc (suc n) = omega (arith, two) in
    let first : drop n word ≡ slice_index_or word n 0 ∷ drop (suc n) word = drop-cons word n 0 (omega (arith, two)) in
    let second : drop (suc n) word ≡ slice_index_or word (suc n) 0 ∷ drop (suc (suc n)) word = drop-cons word (suc n) 0 (omega (arith, two)) in
    let none : drop (suc (suc n)) word ≡ [] = drop_all (suc (suc n)) word ends in
    sym (take-append-drop n word)
    ∙ ap (λ t. take n word ++ t) (first ∙ ap (λ t. slice_index_or word n 0 ∷ t) (second ∙ ap (λ i. slice_index_or word i 0 ∷ drop (suc (suc n)) word) next
    ∙ ap (λ t. slice_index_or word (length word - 1) 0 ∷ t) none))

-- A word is cut by its last two bytes.
pub cut_by_ends : (word : List ℕ) → 2 ≤ length word → slice_index_or word (length word - 2) 0 ≡ 47 → 49 ≤ slice_index_or word (length word - 1) 0
    → slice_index_or word (length word - 1) 0 < 56 → CutsTail word (take (length word - 2) word) (slice_index_or word (length word - 1) 0 - 48)
cut_by_ends word two slash more less =
    tail_cut word (take (length word - 2) word) (slice_index_or word (length word - 1) 0)
    (ends_by word two ∙ ap (λ b. take (length word - 2) word ++ b ∷ slice_index_or word (length word - 1) 0 ∷ []) slash) (omega (arith, more)) less

pub whole_by_ends : (word : List ℕ) → (2 ≤ length word → slice_index_or word (length word - 2) 0 ≡ 47 → 49 ≤ slice_index_or word (length word - 1) 0
    → slice_index_or word (length word - 1) 0 < 56 → ⊥) → CutsTail word word 0
whole_by_ends word none = whole_cut word (λ front count more less is.
    let size : length word ≡ length front + 2 = ap length is ∙ length-append front (47 ∷ count ∷ []) in
    let slash : slice_index_or word (length word - 2) 0 ≡ 47 =
    ap (λ w. slice_index_or w (length word - 2) 0) is ∙ get_or-append_right front (47 ∷ count ∷ []) (length front) (length word - 2) 0 refl (omega (arith, size))
    ∙ ap (λ i. slice_index_or (47 ∷ count ∷ []) i 0) (let at : length word - 2 - length front ≡ 0 = omega (arith, size) in at) in
    let last : slice_index_or word (length word - 1) 0 ≡ count =
    ap (λ w. slice_index_or w (length word - 1) 0) is ∙ get_or-append_right front (47 ∷ count ∷ []) (length front) (length word - 1) 0 refl (omega (arith, size))
    ∙ ap (λ i. slice_index_or (47 ∷ count ∷ []) i 0) (let at : length word - 1 - length front ≡ 1 = omega (arith, size) in at) in
    none (omega (arith, size)) slash (omega (arith, last, more)) (omega (arith, last, less)))
