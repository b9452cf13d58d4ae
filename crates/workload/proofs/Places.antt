-- The lines of a workload by their places.
use Rattle.std.proofs.Common.{◌≡◌, ℕ, zero, suc, ◌+◌, ◌*◌, ◌-◌, ◌/◌, ◌%◌, ◌≤◌, ◌<◌, ◌++◌, List, [], length, get_or, refl, ◌∙◌, ap, arith}
use Rattle.std.specs.List.{range_with_len, flat_map}
use Rattle.std.proofs.lemmas.List.{length-append, get_or_append_left, get_or-append-add}
use Rattle.workload.specs.Workload.{round_lines, workload_lines}

rounds_size : (seed a n : ℕ) → length (flat_map (round_lines seed) (range_with_len a n)) ≡ 5 * n
rounds_size seed a zero = refl
rounds_size seed a (suc n) =
    let rest : List (List ℕ) = flat_map (round_lines seed) (range_with_len (a + 1) n) in
    let more : length rest ≡ 5 * n = rounds_size seed (a + 1) n in
    length-append (round_lines seed a) rest ∙ omega (arith, more)

pub lines_size : (seed count : ℕ) → length (workload_lines seed count) ≡ 2 + 5 * count
lines_size seed count = let h = rounds_size seed 0 count in omega (arith, h)

-- line `part` of round `round`
pub round_at : (seed a n round part : ℕ) → round < n → part < 5
    → get_or (flat_map (round_lines seed) (range_with_len a n)) (5 * round + part) [] ≡ get_or (round_lines seed (a + round)) part []
round_at seed a zero round part few within = absurd (omega arith)
round_at seed a (suc n) zero part few within =
    let rest : List (List ℕ) = flat_map (round_lines seed) (range_with_len (a + 1) n) in
    let place : 5 * 0 + part ≡ part = omega arith in
    let here : a ≡ a + 0 = omega arith in
    ap (λ p. get_or (round_lines seed a ++ rest) p []) place
    ∙ get_or_append_left (round_lines seed a) rest [] part within
    ∙ ap (λ r. get_or (round_lines seed r) part []) here
round_at seed a (suc n) (suc round) part few within =
    let rest : List (List ℕ) = flat_map (round_lines seed) (range_with_len (a + 1) n) in
    let place : 5 * suc round + part ≡ 5 + (5 * round + part) = omega arith in
    let next : (a + 1) + round ≡ a + suc round = omega arith in
    ap (λ p. get_or (round_lines seed a ++ rest) p []) place
    ∙ get_or-append-add (round_lines seed a) rest (5 * round + part) []
    ∙ round_at seed (a + 1) n round part (omega arith) within
    ∙ ap (λ r. get_or (round_lines seed r) part []) next

pub line_at : (seed count place : ℕ) → 2 ≤ place → place < length (workload_lines seed count)
    → get_or (workload_lines seed count) place [] ≡ get_or (round_lines seed ((place - 2) / 5)) ((place - 2) % 5) []
line_at seed count place behind short =
    let within : place < 2 + 5 * count = (let size = lines_size seed count in omega (arith, short, size)) in
    let round : ℕ = (place - 2) / 5 in
    let part : ℕ = (place - 2) % 5 in
    let is : place ≡ suc (suc (5 * round + part)) = omega arith in
    let same : 0 + round ≡ round = omega arith in
    ap (λ p. get_or (workload_lines seed count) p []) is
    ∙ round_at seed 0 count round part (omega arith) (omega arith)
    ∙ ap (λ r. get_or (round_lines seed r) part []) same
