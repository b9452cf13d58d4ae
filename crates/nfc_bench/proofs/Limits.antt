-- The lines of a text against the limits.
use Rattle.std.proofs.Common.{ℕ, zero, suc, ◌+◌, ◌*◌, ◌<◌, ◌≤◌, List, [], ◌∷◌, ◌++◌, length, Bool, true, false, ◌==◌, sym, subst, arith}
use Rattle.std.specs.Prelude.{if◌then◌else◌}
use Rattle.std.specs.List.{All, onto_first}
use Rattle.std.proofs.lemmas.List.{append-nil, length-append}
use Rattle.std.proofs.lemmas.List.Elements.{All-append}
use Rattle.nfc_io.specs.Lines.{lines_of, NoLf}
use Rattle.bench_script.specs.Limits.{most_lines, longest_line, AreWithinLimits}
use Rattle.nfc_bench.specs.Limits.{longest_script}
use Rattle.nfc_io.proofs.Lines.{lines_last}

-- a line isn't too long
abbrev pub IsShort : List ℕ → Type 0
IsShort l = length l ≤ longest_line

pub all_one : (l : List ℕ) → IsShort l → All IsShort (l ∷ [])
all_one l short zero d small = short
all_one l short (suc k) d small = absurd (omega arith)

pub all_at : (before after : List (List ℕ)) (l : List ℕ) → All IsShort (before ++ l ∷ after) → IsShort l
all_at [] after l all = all 0 l (omega arith)
all_at (x ∷ before) after l all = all_at before after l (λ k d small. all (suc k) d (omega arith))

-- one more line
pub limits_more : (lines : List (List ℕ)) (l : List ℕ) → AreWithinLimits lines → length lines < most_lines → IsShort l → AreWithinLimits (lines ++ l ∷ [])
limits_more lines l limits room short = record {
  few = omega (arith, length-append lines (l ∷ []));
  short = All-append IsShort lines (l ∷ []) limits.short (all_one l short);
}

pub no_limits : AreWithinLimits []
no_limits = record { few = omega arith; short = λ k d small. absurd (omega arith) }

-- and a last one that has begun
pub limits_begun : (lines : List (List ℕ)) (last : List ℕ) → AreWithinLimits lines → length lines < most_lines → NoLf last → IsShort last → AreWithinLimits (lines ++ lines_of last)
limits_begun lines [] limits room none short = let W : List (List ℕ) → Type 0 = λ ls. AreWithinLimits ls in subst W (sym (append-nil lines)) limits
limits_begun lines (b ∷ l) limits room none short =
    let W : List (List ℕ) → Type 0 = λ ls. AreWithinLimits (lines ++ ls) in
    subst W (sym (lines_last (b ∷ l) none (omega arith))) (limits_more lines (b ∷ l) limits room short)

-- the bytes of some lines, with an LF each
total : List (List ℕ) → ℕ
total [] = 0
total (l ∷ ls) = (length l + 1) + total ls

total-onto : (b : ℕ) (ls : List (List ℕ)) → total ls + 1 ≤ total (onto_first b ls)
unfolding total
total-onto b [] = omega arith
total-onto b (w ∷ ws) = omega arith

total-if : (v : Bool) (b : ℕ) (ls : List (List ℕ)) → total ls + 1 ≤ total (if v then [] ∷ ls else onto_first b ls)
unfolding total
total-if true b ls = omega arith
total-if false b ls = total-onto b ls

length-total : (text : List ℕ) → length text ≤ total (lines_of text)
unfolding total
length-total [] = omega arith
length-total (b ∷ text) = omega (arith, length-total text, total-if (b == 10) b (lines_of text))

total-short : (ls : List (List ℕ)) → All IsShort ls → total ls ≤ (longest_line + 1) * length ls
unfolding total
total-short [] all = omega arith
total-short (l ∷ ls) all =
    let here : length l ≤ longest_line = all 0 l (omega arith) in
    omega (arith, total-short ls (λ k d small. all (suc k) d (omega arith)))

-- a text within the limits isn't long
pub within_short : (text : List ℕ) → AreWithinLimits (lines_of text) → length text ≤ longest_script
within_short text limits =
    let few : length (lines_of text) ≤ most_lines = limits.few in
    omega (arith, length-total text, total-short (lines_of text) limits.short)
