-- Each line of a workload spells its command, and is short.
use Rattle.std.proofs.Common.{◌≡◌, ◌≢◌, ℕ, zero, suc, ◌+◌, ◌<◌, ◌≤◌, ◌^◌, ◌++◌, inl, inr, List, [], ◌∷◌, length, get_or, map, refl, ap, arith}
use Rattle.std.specs.Prelude.{codes}
use Rattle.std.specs.List.{All, onto_first, range_with_len, flat_map}
use Rattle.std.specs.Fmt.{decimal, digits}
use Rattle.std.proofs.lemmas.Fmt.{decimal_is_IsNumeral, length-decimal-le}
use Rattle.std.proofs.lemmas.Str.Parse.{digit_at}
use Rattle.std.proofs.lemmas.List.{length-append}
use Rattle.std.proofs.lemmas.List.Elements.{All-cons, All-nil, All-append, All-from_get_or}
use Rattle.std.proofs.lemmas.Bool.{ne_eqb}
use Rattle.hex.specs.Hex.{decode_pairs}
use Rattle.hex.proofs.HexLemmas.{decode_of-ok}
use Rattle.nfca_poll.specs.Ident.{IsBadCascade}
use Rattle.bench_script.specs.declared.command.Command.{Command}
use Rattle.bench_script.specs.declared.command.Command.TheVariants.{Skip, Fates, PlaceT2, PlacePeer, Read, Write, Link, Put}
use Rattle.bench_script.specs.declared.command.DeviceId.TheVariants.{A}
use Rattle.bench_script.specs.declared.message.Msg.TheVariants.{Gen}
use Rattle.bench_script.specs.Canonical.{message_text}
use Rattle.bench_script.specs.Limits.{AreWithinLimits, longest_line}
use Rattle.bench_script.specs.Script.{words_of, fate_letter, SpellsIdent, SpellsCounted, Spells}
use Rattle.workload.specs.Workload.{IsCount, SpellEach, tag_line, peer_line, fates_line, write_line, read_line, link_line, put_line, tag_id, peer_id, tag_head, round_fates, round_lines}
use Rattle.workload.specs.Workload.{round_commands, written_size, put_size, first_byte, workload_lines, workload_commands}
use Rattle.workload.proofs.Places.{lines_size}

-- the identifiers are some
tag_calm : IsBadCascade tag_id → ⊥
tag_calm (inl (e, f)) = omega (arith, e)
tag_calm (inr (e, f)) = omega (arith, f)

peer_calm : IsBadCascade peer_id → ⊥
peer_calm (inl (e, f)) = omega (arith, f)
peer_calm (inr (e, f)) = omega (arith, e)

tag_named : SpellsIdent (codes "04112233445566") tag_id
unfolding decode_pairs
tag_named = (refl, record { size = inr (inl refl); bytes = (decode_of-ok (codes "04112233445566") tag_id refl).3; cascade = tag_calm })

peer_named : SpellsIdent (codes "08010203") peer_id
unfolding decode_pairs
peer_named = (refl, record { size = inl refl; bytes = (decode_of-ok (codes "08010203") peer_id refl).3; cascade = peer_calm })

tag_spelled : Spells tag_line (PlaceT2 tag_id 231 tag_head)
unfolding decode_pairs digits
tag_spelled =
    (codes "04112233445566", codes "231", codes "000000000000000000000000E1106D000300FE", refl, tag_named, (refl, omega arith, omega arith), inr (omega arith, refl))

peer_spelled : Spells peer_line (PlacePeer peer_id 3 128 1 1024)
unfolding digits
peer_spelled = (
  codes "08010203",
  codes "3",
  codes "128",
  codes "1",
  codes "1024",
  refl,
  peer_named,
  (refl, omega arith, omega arith),
  (refl, omega arith, omega arith),
  (refl, omega arith, omega arith),
  (refl, omega arith, omega arith),
)

fates_spelled : Spells fates_line (Fates round_fates)
fates_spelled = (map fate_letter round_fates, refl, record { letters = refl; some = omega arith; few = omega arith })

read_spelled : Spells read_line (Read (A tag_id))
read_spelled = (codes "04112233445566", refl, tag_named)

link_spelled : Spells link_line (Link peer_id 128 1)
unfolding digits
link_spelled = (codes "08010203", codes "128", codes "1", refl, peer_named, (refl, omega arith, omega arith), (refl, omega arith, omega arith))

-- a text without spaces is one word
one_word : (t : List ℕ) → All (λ b. b ≢ 32) t → words_of t ≡ t ∷ []
one_word [] none = refl
one_word (b ∷ t) none =
    let other : b ≢ 32 = none 0 0 (omega arith) in
    rw (ne_eqb b 32 other) (ap (onto_first b) (one_word t (λ k d within. none (suc k) d (omega arith))))

no_space : (n : ℕ) → n < 2 ^ 32 → All (λ b. b ≢ 32) (decimal n)
no_space n small =
    let digits = (decimal_is_IsNumeral n (omega arith)).0.1 in
    All-from_get_or (λ b. b ≢ 32) (decimal n) 0 (λ i within e. let at = digit_at (decimal n) i digits within in omega arith)

counted_word : (size first : ℕ) → size < 2 ^ 32 → first < 2 ^ 32 → words_of (message_text (Gen size first)) ≡ message_text (Gen size first) ∷ []
counted_word size first s f =
    let P : ℕ → Type 0 = λ b. b ≢ 32 in
    let tail : All P (decimal size ++ 58 ∷ decimal first) = All-append P (decimal size) (58 ∷ decimal first) (no_space size s) (All-cons P 58 (decimal first) (λ e. omega arith) (no_space first f)) in
    one_word (message_text (Gen size first))
    (All-cons P 103 (codes "en:" ++ decimal size ++ 58 ∷ decimal first) (λ e. omega arith)
    (All-cons P 101 (codes "n:" ++ decimal size ++ 58 ∷ decimal first) (λ e. omega arith)
    (All-cons P 110 (codes ":" ++ decimal size ++ 58 ∷ decimal first) (λ e. omega arith)
    (All-cons P 58 (decimal size ++ 58 ∷ decimal first) (λ e. omega arith) tail))))

counted_spelled : (size first : ℕ) → size < 1024 → first < 256 → SpellsCounted (message_text (Gen size first)) size first
counted_spelled size first s f = record { spells = refl; few = omega arith; byte = f }

write_spelled : (size first : ℕ) → size < 1024 → first < 256 → Spells (write_line size first) (Write (A tag_id) (Gen size first))
write_spelled size first s f = (
  codes "04112233445566",
  message_text (Gen size first),
  ap (λ ws. codes "write" ∷ codes "04112233445566" ∷ ws) (counted_word size first (omega arith) (omega arith)),
  tag_named,
  counted_spelled size first s f,
)

put_spelled : (size first : ℕ) → size < 1024 → first < 256 → Spells (put_line size first) (Put (Gen size first))
put_spelled size first s f = (
  message_text (Gen size first),
  ap (λ ws. codes "put" ∷ ws) (counted_word size first (omega arith) (omega arith)),
  counted_spelled size first s f,
)

-- one more line and its command
onto : (l : List ℕ) (c : Command) (ls : List (List ℕ)) (cs : List Command) → Spells l c → SpellEach ls cs → SpellEach (l ∷ ls) (c ∷ cs)
onto l c ls cs spelled each = record { size = ap suc each.size; at = places }
  where
    places : (place : ℕ) → place < length (l ∷ ls) → Spells (get_or (l ∷ ls) place []) (get_or (c ∷ cs) place Skip)
    places zero within = spelled
    places (suc place) within = each.at place (omega arith)

rounds_spelled : (seed a n : ℕ) → SpellEach (flat_map (round_lines seed) (range_with_len a n)) (flat_map (round_commands seed) (range_with_len a n))
rounds_spelled seed a zero = record { size = refl; at = λ place within. absurd (omega arith) }
rounds_spelled seed a (suc n) =
    onto fates_line _ _ _ fates_spelled
    (onto (write_line (written_size seed a) (first_byte a)) _ _ _ (write_spelled (written_size seed a) (first_byte a) (omega arith) (omega arith))
    (onto read_line _ _ _ read_spelled
    (onto link_line _ _ _ link_spelled
    (onto (put_line (put_size seed a) (first_byte a)) _ _ _ (put_spelled (put_size seed a) (first_byte a) (omega arith) (omega arith))
    (rounds_spelled seed (a + 1) n)))))

pub lines_spelled : (seed count : ℕ) → SpellEach (workload_lines seed count) (workload_commands seed count)
lines_spelled seed count =
    onto tag_line _ _ _ tag_spelled (onto peer_line _ _ _ peer_spelled (rounds_spelled seed 0 count))

-- the lines are short
abbrev IsShort : List ℕ → Type 0
IsShort l = length l ≤ longest_line

counted_short : (front : List ℕ) (size first : ℕ) → length front ≤ 100 → size < 1024 → first < 256 → length (front ++ message_text (Gen size first)) ≤ 4096
counted_short front size first h s f =
    let p = length-append front (message_text (Gen size first)) in
    let q = length-append (decimal size) (58 ∷ decimal first) in
    let m = length-decimal-le 4 size (omega arith) (omega arith) (omega arith) in
    let n = length-decimal-le 4 first (omega arith) (omega arith) (omega arith) in
    omega (arith, p, q, m, n, h)

rounds_short : (seed a n : ℕ) → All IsShort (flat_map (round_lines seed) (range_with_len a n))
rounds_short seed a zero = All-nil IsShort
rounds_short seed a (suc n) =
    let wrote : List ℕ = write_line (written_size seed a) (first_byte a) in
    let put : List ℕ = put_line (put_size seed a) (first_byte a) in
    let rest : List (List ℕ) = flat_map (round_lines seed) (range_with_len (a + 1) n) in
    All-cons IsShort fates_line (wrote ∷ read_line ∷ link_line ∷ put ∷ rest) (omega arith)
    (All-cons IsShort wrote (read_line ∷ link_line ∷ put ∷ rest)
    (counted_short (codes "write 04112233445566 ") (written_size seed a) (first_byte a) (omega arith) (omega arith) (omega arith))
    (All-cons IsShort read_line (link_line ∷ put ∷ rest) (omega arith)
    (All-cons IsShort link_line (put ∷ rest) (omega arith)
    (All-cons IsShort put rest
    (counted_short (codes "put ") (put_size seed a) (first_byte a) (omega arith) (omega arith) (omega arith))
    (rounds_short seed (a + 1) n)))))

pub within_limits : (seed count : ℕ) → IsCount count → AreWithinLimits (workload_lines seed count)
within_limits seed count is = record {
  few = (let size = lines_size seed count in let most : count ≤ 150 = is.1 in omega (arith, size, most));
  short = (
      let rest : List (List ℕ) = flat_map (round_lines seed) (range_with_len 0 count) in
      All-cons IsShort tag_line (peer_line ∷ rest) (omega arith) (All-cons IsShort peer_line rest (omega arith) (rounds_short seed 0 count)));
}
