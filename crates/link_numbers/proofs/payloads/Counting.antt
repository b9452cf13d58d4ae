-- The lengths in an AGF count its PDUs.
use Rattle.std.proofs.Common.{◌≡◌, ℕ, zero, suc, ◌+◌, ◌*◌, ◌/◌, ◌%◌, ◌<◌, ◌≤◌, ◌==◌, ◌⊎◌, inl, inr, nat_le, Bool, true, false, if◌then◌else◌, List, [], ◌∷◌, ◌++◌, length, drop, append_assoc, arith}
use Rattle.std.proofs.Common.{refl, sym, ap, ◌∙◌}
use Rattle.std.specs.Prelude.{◌&&◌, slice_index}
use Rattle.std.proofs.lemmas.Bool.{ne_eqb}
use Rattle.dep_link.specs.Sizes.{limit}
use Rattle.llcp_pdu.specs.declared.part.Part.{Part}
use Rattle.llcp_pdu.specs.declared.part.Part.TheVariants.{Symm, Ui, Connect, Disc, Cc, Dm, Frmr, Snl, Info, Rr, Rnr}
use Rattle.llcp_pdu.specs.declared.pdu.Pdu.TheVariants.{Agf, One}
use Rattle.llcp_pdu.specs.Raw.{raw}
use Rattle.llcp_pdu.specs.Spelling.{Headed, PartSpelling, PartsSpelling, report_bytes}
use Rattle.llcp_pdu.specs.Writing.{inner_bytes, params_bytes, part_bytes, parts_bytes, pdu_bytes}
use Rattle.link_numbers.specs.Shown.{CountsBehind, CountsSpelled, CountsWritten, NoneHeadsAgf, counted, heads_agf, parts_of, several}

-- in what follows the first so many bytes, where there are so many, and where there are fewer
pub there : (n : ℕ) (xs : List ℕ) (m : ℕ) → m ≤ length xs → counted n xs m ≡ counted n (drop m xs) 0
there n [] zero h = refl
there n [] (suc m) h = absurd (omega arith)
there n (x ∷ xs) zero h = refl
there n (x ∷ xs) (suc m) h = there n xs m (omega arith)

pub short : (n : ℕ) (xs : List ℕ) (m : ℕ) → length xs < m → counted n xs m ≡ 0
short n [] zero h = absurd (omega arith)
short n [] (suc m) h = refl
short n (x ∷ xs) zero h = absurd (omega arith)
short n (x ∷ xs) (suc m) h = short n xs m (omega arith)

pub one_more : (n : ℕ) (xs : List ℕ) → 2 ≤ length xs → counted n xs 0 ≡ counted (n + 1) (drop 2 xs) (256 * slice_index xs 0 + slice_index xs 1)
one_more n [] h = absurd (omega arith)
one_more n (x ∷ []) h = absurd (omega arith)
one_more n (x ∷ y ∷ rest) h = refl

-- bytes and others behind them
behind_all : (n : ℕ) (one rest : List ℕ) (m : ℕ) → m ≡ length one → counted n (one ++ rest) m ≡ counted n rest 0
behind_all n one rest m e = ap (λ k. counted n (one ++ rest) k) e ∙ go one
  where
    go : (xs : List ℕ) → counted n (xs ++ rest) (length xs) ≡ counted n rest 0
    go [] = refl
    go (x ∷ xs) = go xs

none_before : (n : ℕ) → 0 + n ≡ n
none_before n = omega arith

more_by_one : (n : ℕ) (ps : List Part) → n + 1 + length ps ≡ n + suc (length ps)
more_by_one n ps = omega arith

-- PDUs that are spelled, and PDUs that are written, each behind its length
spelled_count : (n : ℕ) (ps : List Part) (b : List ℕ) → PartsSpelling ps b → counted n b 0 ≡ n + length ps
spelled_count n [] b h = ap (λ zs. counted n zs 0) h ∙ let e : n ≡ n + 0 = omega arith in e
spelled_count n (p ∷ ps) b (h, l, one, rest, is, size, spells, behind) =
    ap (λ zs. counted n zs 0) is ∙ behind_all (n + 1) one rest (256 * h + l) (sym size) ∙ spelled_count (n + 1) ps rest behind ∙ more_by_one n ps

two_bytes_back : (n : ℕ) → 256 * (n / 256) + n % 256 ≡ n
two_bytes_back n = omega arith

one_count : (n : ℕ) (p : Part) (rest : List ℕ) → counted n (inner_bytes p ++ rest) 0 ≡ counted (n + 1) rest 0
one_count n p rest = behind_all (n + 1) (part_bytes p) rest _ (two_bytes_back (length (part_bytes p)))

written_count : (n : ℕ) (ps : List Part) → counted n (parts_bytes ps) 0 ≡ n + length ps
written_count n [] = let e : n ≡ n + 0 = omega arith in e
written_count n (p ∷ ps) = one_count n p (parts_bytes ps) ∙ written_count (n + 1) ps ∙ more_by_one n ps

-- with bytes behind them there are none, or more
least : (n : ℕ) (xs : List ℕ) (m : ℕ) → (counted n xs m ≡ 0) ⊎ (n ≤ counted n xs m)
least n [] zero = inr (omega arith)
least n [] (suc m) = inl refl
least n (h ∷ []) zero = inl refl
least n (h ∷ l ∷ rest) zero = elim (least (n + 1) rest (256 * h + l)) [ inl e ↦ inl e | inr q ↦ inr (omega (arith, q)) ]
least n (x ∷ xs) (suc m) = least n xs m

behind_one : (n x : ℕ) (xs : List ℕ) → (counted n (x ∷ xs) 0 ≡ 0) ⊎ (n + 0 < counted n (x ∷ xs) 0)
behind_one n x [] = inl refl
behind_one n x (y ∷ ys) = elim (least (n + 1) ys (256 * x + y)) [ inl e ↦ inl e | inr q ↦ inr (omega (arith, q)) ]

behind_parts : (n : ℕ) (ps : List Part) (x : ℕ) (xs : List ℕ)
    → (counted n (parts_bytes ps ++ x ∷ xs) 0 ≡ 0) ⊎ (n + length ps < counted n (parts_bytes ps ++ x ∷ xs) 0)
behind_parts n [] x xs = behind_one n x xs
behind_parts n (p ∷ ps) x xs = go (behind_parts (n + 1) ps x xs)
  where
    same : counted n (parts_bytes (p ∷ ps) ++ x ∷ xs) 0 ≡ counted (n + 1) (parts_bytes ps ++ x ∷ xs) 0
    same = ap (λ zs. counted n zs 0) (append_assoc (inner_bytes p) (parts_bytes ps) (x ∷ xs)) ∙ one_count n p (parts_bytes ps ++ x ∷ xs)

    go : (counted (n + 1) (parts_bytes ps ++ x ∷ xs) 0 ≡ 0) ⊎ (n + 1 + length ps < counted (n + 1) (parts_bytes ps ++ x ∷ xs) 0)
        → (counted n (parts_bytes (p ∷ ps) ++ x ∷ xs) 0 ≡ 0) ⊎ (n + length (p ∷ ps) < counted n (parts_bytes (p ∷ ps) ++ x ∷ xs) 0)
    go (inl e) = inl (same ∙ e)
    go (inr q) = inr (omega (arith, same, q))

-- a header of another type is none of an AGF
type_two : (a : Bool) (n : ℕ) (c : Bool) → (n ≡ 2 → ⊥) → (a && (n == 2) && c) ≡ false
type_two a n c other = go a (n == 2) c (ne_eqb n 2 other)
  where
    go : (a b c : Bool) → b ≡ false → (a && b && c) ≡ false
    go true true c e = absurd (let f : true ≡ false = e in cc)
    go true false c e = refl
    go false b c e = refl

other_type : (d t s : ℕ) (rest : List ℕ) → 2 < t → t < 16 → heads_agf (raw ((4 * d + t / 4) ∷ (64 * (t % 4) + s) ∷ rest)) ≡ false
other_type d t s rest h k =
    let x : ℕ = 4 * d + t / 4 in
    let y : ℕ = 64 * (t % 4) + s in
    let low : x % 4 ≡ t / 4 = omega arith in
    let high : t % 4 ≤ y / 64 = omega arith in
    let type : 4 * (x % 4) + y / 64 ≡ 2 → ⊥ = λ e. omega (arith, e, low, high) in
    type_two (x / 4 == 0) (4 * (x % 4) + y / 64) (y % 64 == 0) type

pub one_written : NoneHeadsAgf
one_written Symm = refl
one_written (Ui d s info) = other_type d 3 s info (omega arith) (omega arith)
one_written (Connect d s ps) = other_type d 4 s (params_bytes ps) (omega arith) (omega arith)
one_written (Disc d s) = other_type d 5 s [] (omega arith) (omega arith)
one_written (Cc d s ps) = other_type d 6 s (params_bytes ps) (omega arith) (omega arith)
one_written (Dm d s reason) = other_type d 7 s (reason ∷ []) (omega arith) (omega arith)
one_written (Frmr d s r) = other_type d 8 s (report_bytes r) (omega arith) (omega arith)
one_written (Snl ps) = other_type 1 9 1 (params_bytes ps) (omega arith) (omega arith)
one_written (Info d s ns nr info) = other_type d 12 s ((16 * ns + nr) ∷ info) (omega arith) (omega arith)
one_written (Rr d s nr) = other_type d 13 s (nr ∷ []) (omega arith) (omega arith)
one_written (Rnr d s nr) = other_type d 14 s (nr ∷ []) (omega arith) (omega arith)

headed_so : (d t s : ℕ) (b : List ℕ) (R : List ℕ → Type 0) → 2 < t → t < 16 → Headed d t s b R → heads_agf (raw b) ≡ false
headed_so d t s b R h k (rest, small, low, is, r) = ap (λ zs. heads_agf (raw zs)) is ∙ other_type d t s rest h k

one_spelled : (p : Part) (b : List ℕ) → PartSpelling p b → heads_agf (raw b) ≡ false
one_spelled Symm b (rest, small, low, is, r) = ap (λ zs. heads_agf (raw zs)) is
one_spelled (Ui d s info) b h = headed_so d 3 s b _ (omega arith) (omega arith) h
one_spelled (Connect d s ps) b h = headed_so d 4 s b _ (omega arith) (omega arith) h
one_spelled (Disc d s) b h = headed_so d 5 s b _ (omega arith) (omega arith) h
one_spelled (Cc d s ps) b h = headed_so d 6 s b _ (omega arith) (omega arith) h
one_spelled (Dm d s reason) b h = headed_so d 7 s b _ (omega arith) (omega arith) h
one_spelled (Frmr d s r) b h = headed_so d 8 s b _ (omega arith) (omega arith) h
one_spelled (Snl ps) b h = headed_so 1 9 1 b _ (omega arith) (omega arith) h
one_spelled (Info d s ns nr info) b h = headed_so d 12 s b _ (omega arith) (omega arith) h
one_spelled (Rr d s nr) b h = headed_so d 13 s b _ (omega arith) (omega arith) h
one_spelled (Rnr d s nr) b h = headed_so d 14 s b _ (omega arith) (omega arith) h

one_part : (b : List ℕ) → heads_agf (raw b) ≡ false → parts_of b ≡ 1
one_part b e = ap (λ (t : Bool). if t then several (counted 0 (drop 2 b) 0) else 1) e

pub counts_spelled : CountsSpelled
counts_spelled b (One p) h = one_part b (one_spelled p b h)
counts_spelled b (Agf ps) (rest, small, low, is, h) = ap parts_of is ∙ ap several (spelled_count 0 ps rest h ∙ none_before (length ps))

pub counts_written : CountsWritten
counts_written (One p) = one_part (part_bytes p) (one_written p)
counts_written (Agf ps) = ap several (written_count 0 ps ∙ none_before (length ps))

several_is : (n : ℕ) → 2 ≤ n → several n ≡ n
several_is n h = ap (λ (t : Bool). if t then 0 else n) (ne_eqb n 1 (λ e. omega (arith, e)))

pub counts_behind : CountsBehind
counts_behind ps x xs two = by (nat_le (length b) limit)
  where
    b : List ℕ
    b = pdu_bytes (Agf ps) ++ x ∷ xs

    k : ℕ
    k = counted 0 (parts_bytes ps ++ x ∷ xs) 0

    more : (k ≡ 0) ⊎ (0 + length ps < k) → (several k ≡ 0) ⊎ (length ps < several k)
    more (inl e) = inl (ap several e)
    more (inr q) = inr (let e : several k ≡ k = several_is k (omega (arith, q)) in omega (arith, e, q))

    by : (t : Bool) → ((if t then parts_of b else 0) ≡ 0) ⊎ (length ps < (if t then parts_of b else 0))
    by true = more (behind_parts 0 ps x xs)
    by false = inl refl

-- what a count says of payloads
pub ruleset laws = (counts_spelled, counts_written, one_written, counts_behind)
