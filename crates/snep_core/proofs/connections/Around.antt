-- What is found round the circle of SAPs: what one of them has, or nothing where none has anything.
use Rattle.std.proofs.Common.{◌≡◌, ◌<◌, ◌≤◌, ◌⊎◌, ℕ, zero, suc, ◌+◌, ◌%◌, ◌==◌, Bool, true, false, Option, Some, None, IfSome, refl, sym, ap, subst, ◌∙◌, inl, inr, arith}
use Rattle.std.proofs.lemmas.Bool.{eqb-true, cases_lt}
use Rattle.llcp_conn.specs.Conn.{IsSap}
use Rattle.llcp_pdu.specs.Wire.{sap_count}
use Rattle.llcp_link.specs.Giving.{circle_start, first_from, first_of_all, or_else, sap_after}
use Rattle.llcp_link.proofs.Clients.{not_equal}

-- of two, neither is there
pub none_first : {A : Type 0} (a b : Option A) → or_else a b ≡ None → a ≡ None
none_first None b e = refl
none_first (Some x) b e = absurd cc

pub none_second : {A : Type 0} (a b : Option A) → or_else a b ≡ None → b ≡ None
none_second None b e = e
none_second (Some x) b e = absurd cc

module _ {A : Type 0} (f : ℕ → Option A) where
  from_next : (n s : ℕ) → first_from (suc n) s f ≡ or_else (f s) (first_from n (sap_after s) f)
  unfolding first_from
  from_next n s = refl

  from_none : (s : ℕ) → first_from 0 s f ≡ None
  unfolding first_from
  from_none s = refl

  module _ (one : ℕ) where
    -- so many SAPs on lies the one
    abbrev Ahead : ℕ → ℕ → Type 0
    Ahead n s = (s < sap_count) × (((s ≤ one) × (one < s + n)) ⊎ ((one < s) × (one + sap_count < s + n)))

    next_ahead : (n s : ℕ) → one < sap_count → (s == one) ≡ false → Ahead (suc n) s → Ahead n (sap_after s)
    next_ahead n s low t (h, inl (a, b)) = let k = not_equal s one t in (
      (let z : (s + 1) % 64 < 64 = omega arith in z),
      inl (
        (let d : s ≤ one = a in let c : s < one = grind arith in let e : (s + 1) % 64 ≡ s + 1 = omega arith in omega arith),
        (let c : s < one = grind arith in let e : (s + 1) % 64 ≡ s + 1 = omega arith in omega arith),
      ),
    )
    next_ahead n s low t (h, inr (a, b)) = by_end (cases_lt (s + 1) 64)
      where
        by_end : ((s + 1 < 64) ⊎ (64 ≤ s + 1)) → Ahead n (sap_after s)
        by_end (inl c) = let e : (s + 1) % 64 ≡ s + 1 = omega arith in ((omega arith), inr ((omega arith), (omega arith)))
        by_end (inr c) = let e : (s + 1) % 64 ≡ 0 = omega arith in ((omega arith), inl ((omega arith), (omega arith)))

    none_from : one < sap_count → (n s : ℕ) → Ahead n s → first_from n s f ≡ None → f one ≡ None
    none_from low zero s (h, inl (a, b)) e = absurd (omega arith)
    none_from low zero s (h, inr (a, b)) e = absurd (omega arith)
    none_from low (suc n) s h e = by_here (s == one) refl (sym (from_next n s) ∙ e) (none_from low n (sap_after s))
      where
        by_here : (b : Bool) → (s == one) ≡ b → or_else (f s) (first_from n (sap_after s) f) ≡ None
            → (Ahead n (sap_after s) → first_from n (sap_after s) f ≡ None → f one ≡ None) → f one ≡ None
        by_here true t k on = sym (ap f (eqb-true s one t)) ∙ none_first (f s) (first_from n (sap_after s) f) k
        by_here false t k on = on (next_ahead n s low t h) (none_second (f s) (first_from n (sap_after s) f) k)

    start_low : (last : Option ℕ) → IfSome last IsSap → circle_start last < sap_count
    start_low None h = omega arith
    start_low (Some s) h = (let z : (s + 1) % 64 < 64 = omega arith in z)

    pub none_at : one < sap_count → (last : Option ℕ) → IfSome last IsSap → first_of_all last f ≡ None → f one ≡ None
    none_at low last h e =
        let k = start_low last h in
        none_from low sap_count (circle_start last) (k, by_side (cases_lt one (circle_start last)) k) e
      where
        by_side : ((one < circle_start last) ⊎ (circle_start last ≤ one)) → circle_start last < sap_count
            → ((circle_start last ≤ one) × (one < circle_start last + sap_count)) ⊎ ((one < circle_start last) × (one + sap_count < circle_start last + sap_count))
        by_side (inl c) k = inr (c, omega arith)
        by_side (inr c) k = inl (c, omega arith)

  module _ (P : Option A → Type 0) (some : (s : ℕ) (x : A) → f s ≡ Some x → P (Some x)) where
    found_from : (n s : ℕ) → (first_from n s f ≡ None → P None) → P (first_from n s f)
    found_from zero s none = subst P (sym (from_none s)) (none (from_none s))
    found_from (suc n) s none = subst P (sym (from_next n s)) (go (f s) refl (found_from n (sap_after s)))
      where
        go : (o : Option A) → f s ≡ o → ((first_from n (sap_after s) f ≡ None → P None) → P (first_from n (sap_after s) f)) → P (or_else o (first_from n (sap_after s) f))
        go (Some x) e more = some s x e
        go None e more = more (λ r. none (from_next n s ∙ ap (λ o. or_else o (first_from n (sap_after s) f)) e ∙ r))

    -- what holds of what any SAP has, and where none has anything, holds of what is found
    pub found_of : (last : Option ℕ) → IfSome last IsSap → (((s : ℕ) → s < sap_count → f s ≡ None) → P None) → P (first_of_all last f)
    found_of last h none = found_from sap_count (circle_start last) (λ r. none (λ s low. none_at s low last h r))
