-- What stands in the ranges of links in a list that grows.
use Rattle.std.proofs.Common.{◌≡◌, ℕ, suc, ◌+◌, ◌<◌, ◌≤◌, List, [], ◌∷◌, ◌++◌, length, Bool, true, false, nat_eq, nat_le, if◌then◌else◌, Some, None, refl, sym, ◌∙◌, ap, arith}
use Rattle.std.specs.Prelude.{◌&&◌, ◌||◌}
use Rattle.std.proofs.lemmas.Bool.{le-leb, le-ltb, lt-ltb, lt-leb}
use Rattle.std.proofs.Math.Bool.{and-false, or-true}
use Rattle.bench_world.specs.declared.inbox.LinkRange.{LinkRange}
use Rattle.bench_world.specs.Inbox.{is_before, is_in, came_on_link, chosen}

module _ {X : Type 0} where
  pub chosen_append : (choose : ℕ → Bool) (n : ℕ) (xs ys : List X) → chosen choose n (xs ++ ys) ≡ chosen choose n xs ++ chosen choose (n + length xs) ys
  chosen_append choose n [] ys = let same : n ≡ n + 0 = omega arith in ap (λ m. chosen choose m ys) same
  chosen_append choose n (x ∷ xs) ys = by (choose n) (chosen_append choose (n + 1) xs ys ∙ ap (λ m. chosen choose (n + 1) xs ++ chosen choose m ys) next)
    where
      next : n + 1 + length xs ≡ n + suc (length xs)
      next = omega arith

      by : (v : Bool) → chosen choose (n + 1) (xs ++ ys) ≡ chosen choose (n + 1) xs ++ chosen choose (n + suc (length xs)) ys
          → (if v then x ∷ chosen choose (n + 1) (xs ++ ys) else chosen choose (n + 1) (xs ++ ys))
          ≡ (if v then x ∷ chosen choose (n + 1) xs else chosen choose (n + 1) xs) ++ chosen choose (n + suc (length xs)) ys
      by true e = ap (λ zs. x ∷ zs) e
      by false e = e

  -- where all are chosen, and where none is
  pub chosen_all : (choose : ℕ → Bool) (n : ℕ) (xs : List X) → ((m : ℕ) → n ≤ m → choose m ≡ true) → chosen choose n xs ≡ xs
  chosen_all choose n [] all = refl
  chosen_all choose n (x ∷ xs) all =
      ap (λ v. if v then x ∷ chosen choose (n + 1) xs else chosen choose (n + 1) xs) (all n (omega arith))
      ∙ ap (λ zs. x ∷ zs) (chosen_all choose (n + 1) xs (λ m more. all m (omega (arith, more))))

  pub chosen_as : (f g : ℕ → Bool) (n : ℕ) (xs : List X) → ((m : ℕ) → n ≤ m → m < n + length xs → f m ≡ g m) → chosen f n xs ≡ chosen g n xs
  chosen_as f g n [] same = refl
  chosen_as f g n (x ∷ xs) same =
      ap (λ v. if v then x ∷ chosen f (n + 1) xs else chosen f (n + 1) xs) (same n (omega arith) (omega arith))
      ∙ ap (λ zs. if g n then x ∷ zs else zs) (chosen_as f g (n + 1) xs (λ m from to. same m (omega (arith, from)) (omega (arith, to))))

  nowhere : (n : ℕ) (xs : List X) → chosen (λ m. false) n xs ≡ []
  nowhere n [] = refl
  nowhere n (x ∷ xs) = nowhere (n + 1) xs

  pub chosen_none : (choose : ℕ → Bool) (n : ℕ) (xs : List X) → ((m : ℕ) → n ≤ m → m < n + length xs → choose m ≡ false) → chosen choose n xs ≡ []
  chosen_none choose n xs none = chosen_as choose (λ m. false) n xs none ∙ nowhere n xs

-- the range of an open link goes on, and one that ended doesn't
pub in_open : (r : LinkRange) (n : ℕ) → r.end ≡ None → r.start ≤ n → is_in r n ≡ true
in_open r n unended from = ap (λ e. nat_le r.start n && is_before n e) unended ∙ ap (λ v. v && true) (le-leb r.start n from)

pub out_of_closed : (r : LinkRange) (n e : ℕ) → r.end ≡ Some e → e ≤ n → is_in r n ≡ false
out_of_closed r n e closed beyond =
    ap (λ x. nat_le r.start n && is_before n x) closed ∙ ap (λ v. nat_le r.start n && v) (le-ltb n e beyond) ∙ and-false (nat_le r.start n)

-- within the list it is the same once it ended there
pub in_closing : (r q : LinkRange) (n m : ℕ) → r.end ≡ None → q.start ≡ r.start → q.end ≡ Some m → n < m → is_in q n ≡ is_in r n
in_closing r q n m unended start closed within =
    ap (λ x. nat_le q.start n && is_before n x) closed ∙ ap (λ v. nat_le q.start n && v) (lt-ltb n m within) ∙ ap (λ x. nat_le x n && true) start
    ∙ sym (ap (λ e. nat_le r.start n && is_before n e) unended)

-- before its start nothing is in it
pub out_of_begun : (r : LinkRange) (n : ℕ) → n < r.start → is_in r n ≡ false
out_of_begun r n before = ap (λ v. v && is_before n r.end) (lt-leb r.start n before)

-- a place that is in the range of one of a peer's links
pub came_before : (xs ys : List LinkRange) (peer n : ℕ) → came_on_link xs peer n ≡ true → came_on_link (xs ++ ys) peer n ≡ true
came_before [] ys peer n came = absurd cc
came_before (x ∷ xs) ys peer n came = by (nat_eq x.peer peer && is_in x n) came (came_before xs ys peer n)
  where
    by : (v : Bool) → (v || came_on_link xs peer n) ≡ true → (came_on_link xs peer n ≡ true → came_on_link (xs ++ ys) peer n ≡ true) → (v || came_on_link (xs ++ ys) peer n) ≡ true
    by true e more = refl
    by false e more = more e

pub came_last : (xs : List LinkRange) (r : LinkRange) (peer n : ℕ) → nat_eq r.peer peer ≡ true → is_in r n ≡ true → came_on_link (xs ++ r ∷ []) peer n ≡ true
came_last [] r peer n own within = ap (λ v. (v && is_in r n) || false) own ∙ ap (λ v. v || false) within
came_last (x ∷ xs) r peer n own within = ap (λ v. (nat_eq x.peer peer && is_in x n) || v) (came_last xs r peer n own within) ∙ or-true (nat_eq x.peer peer && is_in x n)

-- where the last link ended, the same places are in one
pub came_closing : (xs : List LinkRange) (r q : LinkRange) (peer n : ℕ) → q.peer ≡ r.peer → (nat_eq r.peer peer ≡ true → is_in q n ≡ is_in r n)
    → came_on_link (xs ++ q ∷ []) peer n ≡ came_on_link (xs ++ r ∷ []) peer n
came_closing [] r q peer n same within = first ∙ by_own (nat_eq r.peer peer) within
  where
    first : came_on_link (q ∷ []) peer n ≡ (nat_eq r.peer peer && is_in q n) || false
    first = ap (λ p. (nat_eq p peer && is_in q n) || false) same

    by_own : (v : Bool) → (v ≡ true → is_in q n ≡ is_in r n) → ((v && is_in q n) || false) ≡ ((v && is_in r n) || false)
    by_own true e = ap (λ x. x || false) (e refl)
    by_own false e = refl
came_closing (x ∷ xs) r q peer n same within = ap (λ v. (nat_eq x.peer peer && is_in x n) || v) (came_closing xs r q peer n same within)
