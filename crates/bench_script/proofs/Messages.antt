-- Counted bytes, and how a word spells them.
use Rattle.std.proofs.Common.{◌≡◌, ◌≢◌, ℕ, suc, ◌+◌, ◌-◌, ◌%◌, ◌<◌, ◌≤◌, ◌^◌, ◌++◌, inl, inr, List, [], ◌∷◌, map, take, drop, Ok, true, refl, sym, ◌∙◌, ap, subst, arith}
use Rattle.std.specs.Prelude.{codes, bytes_eq}
use Rattle.std.specs.List.{range_with_len}
use Rattle.std.specs.Fmt.{decimal}
use Rattle.std.proofs.lemmas.List.{append_assoc, take-append-drop}
use Rattle.std.proofs.lemmas.Slice.Eq.{bytes_eq-Decides}
use Rattle.std.proofs.lemmas.List.Elements.{All-head, All-tail, All-from_get_or}
use Rattle.std.proofs.lemmas.Fmt.{decimal_is_IsNumeral, decimal_injective}
use Rattle.std.proofs.lemmas.Str.Parse.{digit_at}
use Rattle.hex.specs.Hex.{decode_of, is_hex_digit}
use Rattle.hex.proofs.HexLemmas.{decode_of-ok, decode_of-same}
use Rattle.bench_script.specs.declared.message.Msg.{Msg}
use Rattle.bench_script.specs.declared.message.Msg.TheVariants.{Hex, Gen}
use Rattle.bench_script.specs.Script.{SpellsHex, SpellsWithin, SpellsCounted, SpellsMsg}
use Rattle.bench_script.specs.private.Words.{HasNoColon, SpellsNoCount, SpellsNoHex}

-- the bytes from the one at a place on
abbrev counted_from : ℕ → ℕ → ℕ → List ℕ
counted_from start i n = map (λ k. (start + k) % 256) (range_with_len i n)

-- one byte more is made, and one fewer is left to make
pub one_more : (start i n b : ℕ) (front : List ℕ) → i < n → b ≡ (start + i % 256) % 256
    → (front ++ b ∷ []) ++ counted_from start (i + 1) (n - (i + 1)) ≡ front ++ counted_from start i (n - i)
one_more start i n b front within is =
    let left : n - i ≡ suc (n - (i + 1)) = omega arith in
    let byte : b ≡ (start + i) % 256 = omega (arith, is) in
    append_assoc front (b ∷ []) (counted_from start (i + 1) (n - (i + 1)))
    ∙ ap (λ x. front ++ x ∷ counted_from start (i + 1) (n - (i + 1))) byte
    ∙ ap (λ m. front ++ counted_from start i m) (sym left)

-- a text is cut at its first colon in one way
pub one_cut : (a b c d : List ℕ) → a ++ 58 ∷ b ≡ c ++ 58 ∷ d → HasNoColon a → HasNoColon c → (a ≡ c) × (b ≡ d)
one_cut [] b [] d e p q = (refl, (let h : b ≡ d = cc in h))
one_cut [] b (y ∷ c) d e p q = absurd (All-head (λ x. x ≢ 58) y c q (let h : y ≡ 58 = cc in h))
one_cut (x ∷ a) b [] d e p q = absurd (All-head (λ x. x ≢ 58) x a p (let h : x ≡ 58 = cc in h))
one_cut (x ∷ a) b (y ∷ c) d e p q =
    let first : x ≡ y = cc in
    let more : a ++ 58 ∷ b ≡ c ++ 58 ∷ d = cc in
    let rest = one_cut a b c d more (All-tail (λ x. x ≢ 58) x a p) (All-tail (λ x. x ≢ 58) y c q) in
    let behind : a ≡ c = rest.0 in
    (cc, rest.1)

pub colon_after : (a b : List ℕ) → HasNoColon (a ++ 58 ∷ b) → ⊥
colon_after [] b none = All-head (λ x. x ≢ 58) 58 b none refl
colon_after (x ∷ a) b none = colon_after a b (All-tail (λ y. y ≢ 58) x (a ++ 58 ∷ b) none)

-- no digit is a colon
pub digits_without : (n : ℕ) → n < 2 ^ 32 → HasNoColon (decimal n)
digits_without n small =
    let digits = (decimal_is_IsNumeral n (omega arith)).0.1 in
    All-from_get_or (λ b. b ≢ 58) (decimal n) 0
    (λ i within e. let at = digit_at (decimal n) i digits within in omega arith)

-- what stands round the first colon behind `gen:` are the two numbers
pub counted_parts : (word rest a b : List ℕ) (n s : ℕ) → word ≡ codes "gen:" ++ rest → rest ≡ a ++ 58 ∷ b → HasNoColon a
    → SpellsCounted word n s → (a ≡ decimal n) × (b ≡ decimal s)
counted_parts word rest a b n s begins cut without spelled =
    let small : n < 2 ^ 32 = (let few : n ≤ 65536 = spelled.few in omega arith) in
    let same : rest ≡ decimal n ++ 58 ∷ decimal s = ap (drop 4) (sym begins ∙ spelled.spells) in
    one_cut a b (decimal n) (decimal s) (sym cut ∙ same) without (digits_without n small)

-- no word spells counted bytes in two ways
pub counted_one : (word : List ℕ) (m r n s : ℕ) → SpellsCounted word m r → SpellsCounted word n s → (m ≡ n) × (r ≡ s)
counted_one word m r n s p q =
    let m_few : m ≤ 65536 = p.few in
    let n_few : n ≤ 65536 = q.few in
    let r_few : r < 256 = p.byte in
    let s_few : s < 256 = q.byte in
    let parts = counted_parts word (decimal m ++ 58 ∷ decimal r) (decimal m) (decimal r) n s p.spells refl
    (digits_without m (omega arith)) q in
    (decimal_injective m n (omega arith) (omega arith) parts.0, decimal_injective r s (omega arith) (omega arith) parts.1)

-- counted bytes are no HEX
pub counted_differs : (word bytes : List ℕ) (n s : ℕ) → SpellsCounted word n s → SpellsHex word bytes → ⊥
counted_differs word bytes n s p (inl q) = absurd (let h : codes "gen:" ++ decimal n ++ 58 ∷ decimal s ≡ codes "-" = sym p.spells ∙ q.0 in cc)
counted_differs word bytes n s p (inr q) =
    let read : decode_of (codes "gen:" ++ decimal n ++ 58 ∷ decimal s) ≡ Ok bytes =
    (let P : List ℕ → Type 0 = λ t. decode_of t ≡ Ok bytes in subst P p.spells q.1) in
    let passes = (decode_of-ok (codes "gen:" ++ decimal n ++ 58 ∷ decimal s) bytes read).1 in
    let first : is_hex_digit 103 ≡ true = All-head (λ c. is_hex_digit c ≡ true) 103 (101 ∷ 110 ∷ 58 ∷ decimal n ++ 58 ∷ decimal s) passes in
    cc

-- what stands behind `gen:`
pub behind_gen : (word rest : List ℕ) → bytes_eq (take 4 word) (codes "gen:") ≡ true → rest ≡ drop 4 word
    → word ≡ codes "gen:" ++ rest
behind_gen word rest begins is =
    sym (take-append-drop 4 word)
    ∙ ap (λ t. t ++ drop 4 word) ((bytes_eq-Decides (take 4 word) (codes "gen:")).0 begins)
    ∙ ap (λ t. codes "gen:" ++ t) (sym is)

-- there is a colon in it
pub colon_missing : (word rest : List ℕ) → word ≡ codes "gen:" ++ rest → HasNoColon rest → SpellsNoCount word
colon_missing word rest begins none n s spelled =
    let same : rest ≡ decimal n ++ 58 ∷ decimal s = ap (drop 4) (sym begins ∙ spelled.spells) in
    let all : HasNoColon (decimal n ++ 58 ∷ decimal s) = (let P : List ℕ → Type 0 = HasNoColon in subst P same none) in
    colon_after (decimal n) (decimal s) all

-- a number before it, and one behind it
pub count_missing : (word rest a b : List ℕ) → word ≡ codes "gen:" ++ rest → rest ≡ a ++ 58 ∷ b → HasNoColon a
    → ((n : ℕ) → SpellsWithin 0 65536 a n → ⊥) → SpellsNoCount word
count_missing word rest a b begins cut without none n s spelled =
    let parts = counted_parts word rest a b n s begins cut without spelled in
    none n (parts.0, omega arith, spelled.few)

pub start_missing : (word rest a b : List ℕ) → word ≡ codes "gen:" ++ rest → rest ≡ a ++ 58 ∷ b → HasNoColon a
    → ((s : ℕ) → SpellsWithin 0 255 b s → ⊥) → SpellsNoCount word
start_missing word rest a b begins cut without none n s spelled =
    let parts = counted_parts word rest a b n s begins cut without spelled in
    none s (parts.1, omega arith, (let byte : s < 256 = spelled.byte in omega arith))

-- a word that spells neither counted bytes nor HEX spells no message
pub no_message : (word : List ℕ) → SpellsNoCount word → SpellsNoHex word → (message : Msg) → SpellsMsg word message → ⊥
no_message word uncounted none (Hex bytes) s = none.none bytes s
no_message word uncounted none (Gen n s) t = uncounted n s t

-- `-` isn't an even number of digits
pub dash_odd : (w b : List ℕ) → w ≡ codes "-" → decode_of w ≡ Ok b → ⊥
dash_odd w b e d = let h : decode_of (codes "-") ≡ Ok b = (let P : List ℕ → Type 0 = λ t. decode_of t ≡ Ok b in subst P e d) in cc

-- a word spells one list of bytes
pub hex_one : (w a b : List ℕ) → SpellsHex w a → SpellsHex w b → a ≡ b
hex_one w a b (inl p) (inl q) = p.1 ∙ sym q.1
hex_one w a b (inl p) (inr q) = absurd (dash_odd w b p.0 q.1)
hex_one w a b (inr p) (inl q) = absurd (dash_odd w a q.0 p.1)
hex_one w a b (inr p) (inr q) = decode_of-same w a b p.1 q.1

-- a word spells one message
pub message_one : (word : List ℕ) (a b : Msg) → SpellsMsg word a → SpellsMsg word b → a ≡ b
message_one word (Hex a) (Hex b) p q = ap (λ x. let m : Msg = Hex x in m) (hex_one word a b p q)
message_one word (Hex a) (Gen n s) p q = absurd (counted_differs word a n s q p)
message_one word (Gen n s) (Hex b) p q = absurd (counted_differs word b n s p q)
message_one word (Gen m r) (Gen n s) p q =
    let same = counted_one word m r n s p q in
    let counts : m ≡ n = same.0 in
    let starts : r ≡ s = same.1 in
    cc
