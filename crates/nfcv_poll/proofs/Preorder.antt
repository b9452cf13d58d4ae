-- The order in which a pass asks for its masks: each is the slots of the clashes that led to it, the first one first. A
-- pass asks for a mask before those with a slot behind it, and for lower slots first. So it asks for none twice.
use Rattle.std.proofs.Common.{◌≡◌, ◌⊎◌, inl, inr, ◌<◌, ℕ, ◌+◌, List, [], ◌∷◌, ◌++◌, reverse, append_assoc, refl, sym, ◌∙◌, ap, subst, arith}
use Rattle.std.proofs.lemmas.List.{reverse-append}
use Rattle.nfca_poll.specs.Crowd.{Each}
use Rattle.nfca_poll.proofs.quiet.Eaches.{each_map}

-- at the first slot in which they differ the one is lower, and none goes on where the other ends
abbrev pub Left : List ℕ → List ℕ → Type 0
Left [] q = ⊥
Left (x ∷ p) [] = ⊥
Left (x ∷ p) (y ∷ q) = (x < y) ⊎ ((x ≡ y) × Left p q)

-- the same, or the other goes on where the one ends
abbrev pub Before : List ℕ → List ℕ → Type 0
Before p [] = ⊥
Before [] (y ∷ q) = Unit {0}
Before (x ∷ p) (y ∷ q) = (x < y) ⊎ ((x ≡ y) × Before p q)

pub left_before : (p q : List ℕ) → Left p q → Before p q
left_before [] q h = absurd h
left_before (x ∷ p) [] h = absurd h
left_before (x ∷ p) (y ∷ q) (inl less) = inl less
left_before (x ∷ p) (y ∷ q) (inr same) = inr (same.0, left_before p q same.1)

pub left_child : (p q : List ℕ) (k : ℕ) → Left p q → Left (p ++ k ∷ []) q
left_child [] q k h = absurd h
left_child (x ∷ p) [] k h = absurd h
left_child (x ∷ p) (y ∷ q) k (inl less) = inl less
left_child (x ∷ p) (y ∷ q) k (inr same) = inr (same.0, left_child p q k same.1)

pub before_child : (p : List ℕ) (k : ℕ) → Before p (p ++ k ∷ [])
before_child [] k = tt
before_child (x ∷ p) k = inr (refl, before_child p k)

pub left_children : (p : List ℕ) (j k : ℕ) → j < k → Left (p ++ j ∷ []) (p ++ k ∷ [])
left_children [] j k h = inl h
left_children (x ∷ p) j k h = inr (refl, left_children p j k h)

pub before_through : (p q r : List ℕ) → Before p q → Before q r → Before p r
before_through p [] r h k = absurd h
before_through p (y ∷ q) [] h k = absurd k
before_through [] (y ∷ q) (z ∷ r) h k = tt
before_through (x ∷ p) (y ∷ q) (z ∷ r) (inl less) (inl more) = inl (omega (arith, less, more))
before_through (x ∷ p) (y ∷ q) (z ∷ r) (inl less) (inr same) = inl (omega (arith, less, same.0))
before_through (x ∷ p) (y ∷ q) (z ∷ r) (inr same) (inl more) = inl (omega (arith, same.0, more))
before_through (x ∷ p) (y ∷ q) (z ∷ r) (inr same) (inr equal) = inr (omega (arith, same.0, equal.0), before_through p q r same.1 equal.1)

pub never_before : (p : List ℕ) → Before p p → ⊥
never_before [] h = h
never_before (x ∷ p) (inl less) = omega (arith, less)
never_before (x ∷ p) (inr same) = never_before p same.1

-- each before all behind it; and each behind all behind it
abbrev pub AreInRow : List (List ℕ) → Type 0
AreInRow [] = Unit {0}
AreInRow (p ∷ ps) = Each (Left p) ps × AreInRow ps

abbrev pub AreTurned : List (List ℕ) → Type 0
AreTurned [] = Unit {0}
AreTurned (p ∷ ps) = Each (λ q. Left q p) ps × AreTurned ps

-- a slot of the round of a mask, before this one
pub record IsChild (p : List ℕ) (slot : ℕ) (c : List ℕ) : Type 0 where
  pub at : ℕ
  pub less : at < slot
  pub is : c ≡ p ++ at ∷ []

-- How far a pass is: what it asked for, this mask last; the slots of its round that clashed; and what is still to be asked for.
pub record IsSoFar (asked : List (List ℕ)) (p : List ℕ) (slot : ℕ) (clashes waiting : List (List ℕ)) : Type 0 where
  pub asked' : Each (λ a. (a ≡ p) ⊎ Before a p) asked
  pub ahead : Each (Left p) waiting
  pub row : AreInRow waiting
  pub children : Each (IsChild p slot) clashes
  pub turned : AreTurned clashes

-- a slot without a clash
pub next_slot : (asked : List (List ℕ)) (p : List ℕ) (slot : ℕ) (cs ws : List (List ℕ)) → IsSoFar asked p slot cs ws → IsSoFar asked p (slot + 1) cs ws
next_slot asked p slot cs ws s = record {
  asked' = s.asked';
  ahead = s.ahead;
  row = s.row;
  children = each_map (IsChild p slot) (IsChild p (slot + 1)) (λ c k. record { at = k.at; less = omega (arith, k.less); is = k.is }) cs s.children;
  turned = s.turned;
}

-- a slot that clashed
pub clashed_slot : (asked : List (List ℕ)) (p : List ℕ) (slot : ℕ) (cs ws : List (List ℕ)) → IsSoFar asked p slot cs ws
    → IsSoFar asked p (slot + 1) ((p ++ slot ∷ []) ∷ cs) ws
clashed_slot asked p slot cs ws s =
    let n : IsSoFar asked p (slot + 1) cs ws = next_slot asked p slot cs ws s in
    record {
      asked' = s.asked';
      ahead = s.ahead;
      row = s.row;
      children = (record { at = slot; less = omega arith; is = refl }, n.children);
      turned = (each_map (IsChild p slot) (λ q. Left q (p ++ slot ∷ [])) (λ c k. subst (λ q. Left q (p ++ slot ∷ [])) (sym k.is) (left_children p k.at slot k.less)) cs s.children, s.turned);
    }

pub turned_over : {X : Type 0} (cs : List X) (c : X) (ws : List X) → reverse (c ∷ cs) ++ ws ≡ reverse cs ++ c ∷ ws
turned_over cs c ws = ap (λ x. x ++ ws) (reverse-append (c ∷ []) cs) ∙ append_assoc (reverse cs) (c ∷ []) ws

-- the clashes of a round, the lowest slot first, and then what waited
in_row : (cs ws : List (List ℕ)) → AreTurned cs → AreInRow ws → Each (λ c. Each (Left c) ws) cs → AreInRow (reverse cs ++ ws)
in_row [] ws turned row apart = row
in_row (c ∷ cs) ws turned row apart =
    subst AreInRow (sym (turned_over cs c ws)) (in_row cs (c ∷ ws) turned.1 (apart.0, row) (both cs turned.0 apart.1))
  where
    both : (ds : List (List ℕ)) → Each (λ d. Left d c) ds → Each (λ d. Each (Left d) ws) ds → Each (λ d. Each (Left d) (c ∷ ws)) ds
    both [] h k = tt
    both (d ∷ ds) h k = ((h.0, k.0), both ds h.1 k.1)

-- the next mask: none that was asked for is the same
pub record IsNext (asked : List (List ℕ)) (p : List ℕ) (waiting : List (List ℕ)) : Type 0 where
  pub new : Each (λ a. Before a p) asked
  pub so_far : IsSoFar (p ∷ asked) p 0 [] waiting

pub next_mask : (asked : List (List ℕ)) (p : List ℕ) (slot : ℕ) (cs ws : List (List ℕ)) → IsSoFar asked p slot cs ws → (h : List ℕ) (rest : List (List ℕ)) → reverse cs ++ ws ≡ h ∷ rest
    → IsNext asked h rest
next_mask asked p slot cs ws s h rest e = record {
  new = new;
  so_far = record { asked' = (inl refl, each_map (λ a. Before a h) (λ a. (a ≡ h) ⊎ Before a h) (λ a k. inr k) asked new); ahead = row.0; row = row.1; children = tt; turned = tt };
}
  where
    behind : (cs ws : List (List ℕ)) → Each (Before p) cs → Each (Before p) ws → Each (Before p) (reverse cs ++ ws)
    behind [] ws k l = l
    behind (c ∷ cs) ws k l = subst (Each (Before p)) (sym (turned_over cs c ws)) (behind cs (c ∷ ws) k.1 (k.0, l))

    later : Each (Before p) (h ∷ rest)
    later =
        subst (Each (Before p)) e
        (behind cs ws (each_map (IsChild p slot) (Before p) (λ c k. subst (Before p) (sym k.is) (before_child p k.at)) cs s.children)
        (each_map (Left p) (Before p) (λ w l. left_before p w l) ws s.ahead))

    row : AreInRow (h ∷ rest)
    row =
        subst AreInRow e
        (in_row cs ws s.turned s.row
        (each_map (IsChild p slot) (λ c. Each (Left c) ws)
        (λ c k. subst (λ q. Each (Left q) ws) (sym k.is) (each_map (Left p) (Left (p ++ k.at ∷ [])) (λ w l. left_child p w k.at l) ws s.ahead)) cs s.children))

    before_it : (a : List ℕ) → (a ≡ p) ⊎ Before a p → Before a h
    before_it a (inl same) = subst (λ q. Before q h) (sym same) later.0
    before_it a (inr k) = before_through a p h k later.0

    new : Each (λ a. Before a h) asked
    new = each_map (λ a. (a ≡ p) ⊎ Before a p) (λ a. Before a h) before_it asked s.asked'
