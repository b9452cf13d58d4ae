use Rattle.std.proofs.Common.{◌≡◌, ℕ, ◌≤◌, ◌++◌, ◌∷◌, List, Bool, true, false, length, leb, ltb, leb-true, take, drop, refl, sym, ◌∙◌, ap, arith, subst, rules, length-take, inl, inr}
use Rattle.std.specs.Prelude.{◌&&◌, ◌||◌}
use Rattle.std.proofs.lemmas.Bool.{leb-false, cases_lt}
use Rattle.std.proofs.lemmas.List.{take-append-drop, take-append-le, get_or-take}
use Rattle.std.proofs.lemmas.List.Folds.{list_any-append}
use Rattle.std.proofs.lemmas.List.Sorted.{IsPartitionPoint-from_clause, IsPartitionedBy-leb, IsNonDecreasingBy-insert}
use Rattle.tlv_area.specs.Map.{in_ranges, IsOrdered}
use Rattle.tlv_area.proofs.control.insert_range.Goals as goal

-- ranges between others
between : (front back : List (ℕ × ℕ)) (x : ℕ × ℕ) (a : ℕ) →
    in_ranges (front ++ x ∷ back) a ≡ (in_ranges (front ++ back) a || (leb x.0 a && ltb a x.1))
between front back x a =
    list_any-append (λ r. leb r.0 a && ltb a r.1) front (x ∷ back)
    ∙ last (in_ranges front a) (leb x.0 a && ltb a x.1) (in_ranges back a)
    ∙ ap (λ b. b || (leb x.0 a && ltb a x.1)) (sym (list_any-append (λ r. leb r.0 a && ltb a r.1) front back))
  where
    last : (f b r : Bool) → (f || (b || r)) ≡ ((f || r) || b)
    last true b r = refl
    last false true true = refl
    last false true false = refl
    last false false true = refl
    last false false false = refl

pub returns-clause-ordered : goal.returns-clause-ordered
returns-clause-ordered c =
    let xs : List (ℕ × ℕ) = c.args.reserved.now.items in
    let clause = rw c.as_slice.ensures.value at c.partition_point-place.ensures.partitioned in
    let parted = IsPartitionedBy-leb (λ (r : ℕ × ℕ). r.0) xs c.args.range.0 c.requires.ordered in
    let point = IsPartitionPoint-from_clause (λ (r : ℕ × ℕ). leb r.0 c.args.range.0) xs _ clause parted (λ a r q k. search rules) in
    subst IsOrdered (sym c.insert.ensures.items)
    (IsNonDecreasingBy-insert (λ (r : ℕ × ℕ). r.0) xs c.partition_point-place.result c.args.range c.requires.ordered
    (omega (arith, c.partition_point-place.ensures.bound, ap length c.as_slice.ensures.value))
    (λ k d low. leb-true _ _ (point.0 k d (omega arith) low))
    (λ k d low high. let over = leb-false _ _ (point.1 k d low high) in omega arith))

pub returns-clause-ranges : goal.returns-clause-ranges
returns-clause-ranges c a =
    let i : ℕ = c.partition_point-place.result in
    let xs : List (ℕ × ℕ) = c.args.reserved.now.items in
    ap (λ rs. in_ranges rs a) c.insert.ensures.items ∙ between (take i xs) (drop i xs) c.args.range a
    ∙ ap (λ rs. in_ranges rs a || (leb c.args.range.0 a && ltb a c.args.range.1)) (take-append-drop i xs)

pub returns-clause-front : goal.returns-clause-front
returns-clause-front c n long low =
    let xs : List (ℕ × ℕ) = c.args.reserved.now.items in
    let i : ℕ = c.partition_point-place.result in
    let clause = rw c.as_slice.ensures.value at c.partition_point-place.ensures.partitioned in
    let parted = IsPartitionedBy-leb (λ (r : ℕ × ℕ). r.0) xs c.args.range.0 c.requires.ordered in
    let point = IsPartitionPoint-from_clause (λ (r : ℕ × ℕ). leb r.0 c.args.range.0) xs _ clause parted (λ a r q k. search rules) in
    let within : n ≤ i = elim (cases_lt i n) [
      | inr h ↦ h
      | inl h ↦ (let here = low i (0, 0) (omega (arith, length-take n xs)) in
          let same = get_or-take n xs i (0, 0) h in
          let over = leb-false _ _ (point.1 i (0, 0) (omega arith) (omega arith)) in
          absurd (omega (arith, ap (λ (r : ℕ × ℕ). r.0) same)))
    ] in
    let short : n ≤ length (take i xs) = omega (arith, length-take i xs) in
    ap (λ rs. take n rs) c.insert.ensures.items ∙ take-append-le n (take i xs) (c.args.range ∷ drop i xs) short
    ∙ sym (take-append-le n (take i xs) (drop i xs) short) ∙ ap (λ rs. take n rs) (take-append-drop i xs)
