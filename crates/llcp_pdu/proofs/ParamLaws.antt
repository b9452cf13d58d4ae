-- Parameters that are spelled are read, and what is read is spelled.
use Rattle.std.proofs.Common.{◌≡◌, ◌≤◌, ℕ, zero, suc, ◌+◌, ◌||◌, not, nat_lt, Bool, true, false, List, [], ◌∷◌, ◌++◌, length, take, drop, Option, Some, None, is_some, Result, Ok, Err, refl, sym, ◌∙◌}
use Rattle.std.proofs.Common.{ap, subst, arith, length-append, length-take, slice_index_or, option_to_list}
use Rattle.std.proofs.lemmas.Bool.Decides.{nat_tests}
use Rattle.std.proofs.lemmas.List.{take-append-drop}
use Rattle.llcp_pdu.specs.declared.fault.PduKind.TheVariants.{Parameter}
use Rattle.llcp_pdu.specs.declared.fault.Refusal.{Refusal}
use Rattle.llcp_pdu.specs.declared.param.Param.{Param}
use Rattle.llcp_pdu.specs.Reading.{refused, onto}
use Rattle.llcp_pdu.specs.Params.{param, is_known, kept, taken, params, Tlv, tlv, printed, is_sized, AllSized, known_first, known, ParamsSpelling}

pub not_lt : (m n : ℕ) → n ≤ m → nat_lt m n ≡ false
not_lt m n h = grind (arith, nat_tests)

pub le_from_not : (m n : ℕ) → nat_lt m n ≡ false → n ≤ m
le_from_not m n h = grind (arith, nat_tests)

pub take_length : (xs ys : List ℕ) → take (length xs) (xs ++ ys) ≡ xs
take_length [] ys = refl
take_length (x ∷ xs) ys = ap (λ z. x ∷ z) (take_length xs ys)

-- bytes that are passed over
pub params_skip : (xs rest : List ℕ) (at : ℕ) → params (xs ++ rest) (length xs) at ≡ params rest 0 (at + length xs)
params_skip [] rest at = let e : at + 0 ≡ at = omega arith in rw e refl
params_skip (x ∷ xs) rest at =
    params_skip xs rest (at + 1) ∙ (let e : at + 1 + length xs ≡ at + length (x ∷ xs) = omega arith in rw e refl)

pub taken_sized : (o : Option Param) (b : Bool) (at : ℕ) (behind : Result (List Param) Refusal) → (is_some o || not b) ≡ true → taken o b at behind ≡ kept o behind
taken_sized (Some p) b at behind h = refl
taken_sized None true at behind h = absurd (let e : false ≡ true = h in cc)
taken_sized None false at behind h = refl

pub taken_wrong : (o : Option Param) (b : Bool) (at : ℕ) (behind : Result (List Param) Refusal) → (is_some o || not b) ≡ false → taken o b at behind ≡ refused Parameter at
taken_wrong (Some p) b at behind h = absurd (let e : true ≡ false = h in cc)
taken_wrong None true at behind h = refl
taken_wrong None false at behind h = absurd (let e : true ≡ false = h in cc)

kept_known : (o : Option Param) (ps : List Param) → kept o (Ok ps) ≡ Ok (known_first o ps)
kept_known None ps = refl
kept_known (Some p) ps = refl

pub params_read : (ts : List Tlv) (at : ℕ) → AllSized ts → params (printed ts) 0 at ≡ Ok (known ts)
params_read [] at h = refl
params_read (t ∷ ts) at h =
    let n : nat_lt (length (t.value ++ printed ts)) (length t.value) ≡ false = not_lt _ _ (omega (arith, length-append {A = ℕ})) in
    rw (n, take_length t.value (printed ts), params_skip t.value (printed ts) (at + 2), params_read ts (at + 2 + length t.value) h.1)
    (taken_sized (param t.kind t.value) (is_known t.kind) at (Ok (known ts)) h.0 ∙ kept_known (param t.kind t.value) (known ts))

no_kept : (o : Option Param) (r : Refusal) (ps : List Param) → kept o (Err r) ≡ Ok ps → ⊥
no_kept None r ps e = cc
no_kept (Some p) r ps e = cc

pub same_ok : {A : Type 0} (x y : A) → ◌≡◌ {A = Result A Refusal} (Ok x) (Ok y) → x ≡ y
same_ok x y e = cc

-- one parameter, where those behind it are spelled
one_found : (k n : ℕ) (rest : List ℕ) (at : ℕ) (ps : List Param)
    → ((m i : ℕ) (qs : List Param) → m ≤ length rest → params rest m i ≡ Ok qs → ParamsSpelling qs (drop m rest))
    → params (k ∷ n ∷ rest) 0 at ≡ Ok ps → ParamsSpelling ps (k ∷ n ∷ rest)
one_found k n rest at ps more e = go (nat_lt (length rest) n) refl
  where
    found : n ≤ length rest → is_sized (tlv k (take n rest)) ≡ true → (z : Result (List Param) Refusal) → params rest n (at + 2) ≡ z
        → kept (param k (take n rest)) z ≡ Ok ps → ParamsSpelling ps (k ∷ n ∷ rest)
    found l s (Err r) i f = absurd (no_kept (param k (take n rest)) r ps f)
    found l s (Ok qs) i f =
        let h = more n (at + 2) qs l i in
        let long : length (take n rest) ≡ n = omega (arith, length-take {A = ℕ}) in (
          tlv k (take n rest) ∷ h.0,
          (s, h.1),
          (rw h.2 (same_ok _ _ (sym (kept_known (param k (take n rest)) qs) ∙ f))),
          (rw (long, ← h.3, take-append-drop) refl),
        )

    sizes : n ≤ length rest → (b : Bool) → is_sized (tlv k (take n rest)) ≡ b
        → taken (param k (take n rest)) (is_known k) at (params rest n (at + 2)) ≡ Ok ps
        → ParamsSpelling ps (k ∷ n ∷ rest)
    sizes l true s f =
        found l s (params rest n (at + 2)) refl
        (sym (taken_sized (param k (take n rest)) (is_known k) at (params rest n (at + 2)) s) ∙ f)
    sizes l false s f =
        absurd (let g : refused Parameter at ≡ Ok ps = sym (taken_wrong (param k (take n rest)) (is_known k) at (params rest n (at + 2)) s) ∙ f in cc)

    go : (b : Bool) → nat_lt (length rest) n ≡ b → ParamsSpelling ps (k ∷ n ∷ rest)
    go true i = let f : refused Parameter at ≡ Ok ps = rw i at e in cc
    go false i = sizes (le_from_not (length rest) n i) (is_sized (tlv k (take n rest))) refl (rw i at e)

-- the parameters that were read are spelled
pub params_found : (b : List ℕ) (m at : ℕ) (ps : List Param) → m ≤ length b → params b m at ≡ Ok ps → ParamsSpelling ps (drop m b)
params_found [] zero at ps h e = ([], tt, same_ok _ _ e, refl)
params_found [] (suc m) at ps h e = absurd (omega arith)
params_found (k ∷ []) zero at ps h e = cc
params_found (k ∷ n ∷ rest) zero at ps h e = one_found k n rest at ps (λ m i qs l f. params_found rest m i qs l f) e
params_found (k ∷ rest) (suc m) at ps h e = params_found rest m (at + 1) ps (omega arith) e

pub params_behind : (n : ℕ) (xs : List ℕ) (at : ℕ) → n ≤ length xs → params xs n at ≡ params (drop n xs) 0 (at + n)
params_behind n xs at h =
    let l : length (take n xs) ≡ n = omega (arith, length-take {A = ℕ}) in
    subst (λ z. params xs z at ≡ params (drop n xs) 0 (at + z)) l
    (subst (λ z. params z (length (take n xs)) at ≡ params (drop n xs) 0 (at + length (take n xs))) (take-append-drop n xs)
    (params_skip (take n xs) (drop n xs) at))

-- the first parameter, which has its size, in front of those behind it
pub params_split : (xs value tail : List ℕ) (at : ℕ) → 2 ≤ length xs → slice_index_or xs 1 0 ≤ length (drop 2 xs) → value ≡ take (slice_index_or xs 1 0) (drop 2 xs)
    → tail ≡ drop (slice_index_or xs 1 0) (drop 2 xs)
    → is_sized (tlv (slice_index_or xs 0 0) value) ≡ true
    → params xs 0 at ≡ kept (param (slice_index_or xs 0 0) value) (params tail 0 (at + 2 + length value))
params_split [] value tail at h n v t s = absurd (omega arith)
params_split (k ∷ []) value tail at h n v t s = absurd (omega arith)
params_split (k ∷ n ∷ rest) value tail at h fits v t s =
    let l : nat_lt (length rest) n ≡ false = not_lt (length rest) n fits in
    let m : length value ≡ n = ap length v ∙ (let z : length (take n rest) ≡ n = omega (arith, length-take {A = ℕ}) in z) in
    rw (l, ← v)
    (taken_sized (param k value) (is_known k) at (params rest n (at + 2)) s
    ∙ ap (kept (param k value)) (params_behind n rest (at + 2) fits ∙ rw (← t, m) refl))

-- items in front of those that are read behind them
abbrev pub before : {A : Type 0} → List A → Result (List A) Refusal → Result (List A) Refusal
before [] behind = behind
before (x ∷ xs) behind = onto x (before xs behind)

-- the parameters in front of those that are still to be read
pub before_end : {A : Type 0} (ps : List A) → before ps (Ok []) ≡ Ok ps
before_end [] = refl
before_end (p ∷ ps) = rw (before_end ps) refl

pub before_err : {A : Type 0} (ps : List A) (r : Refusal) → before ps (Err r) ≡ Err r
before_err [] r = refl
before_err (p ∷ ps) r = rw (before_err ps r) refl

pub before_more : {A : Type 0} (ps : List A) (p : A) (r : Result (List A) Refusal) → before (ps ++ p ∷ []) r ≡ before ps (onto p r)
before_more [] p r = refl
before_more (q ∷ ps) p r = ap (onto q) (before_more ps p r)

pub nil_right : {X : Type 0} (xs : List X) → xs ++ [] ≡ xs
nil_right [] = refl
nil_right (x ∷ xs) = ap (λ z. x ∷ z) (nil_right xs)

pub before_kept : (ps : List Param) (o : Option Param) (r : Result (List Param) Refusal) → before (ps ++ option_to_list o) r ≡ before ps (kept o r)
before_kept ps None r = rw nil_right refl
before_kept ps (Some p) r = before_more ps p r

pub params_none : (xs : List ℕ) (at : ℕ) → length xs ≡ 0 → params xs 0 at ≡ Ok []
params_none [] at h = refl
params_none (x ∷ xs) at h = absurd (omega arith)

-- one more parameter was read
pub params_more : (ps : List Param) (o : Option Param) (found : List Param) (whole rest : Result (List Param) Refusal) (behind : List ℕ) (n m : ℕ)
    → whole ≡ before ps rest → rest ≡ kept o (params behind 0 n) → found ≡ ps ++ option_to_list o → n ≡ m → whole ≡ before found (params behind 0 m)
params_more ps o found whole rest behind n m e i f p =
    e ∙ ap (before ps) i ∙ sym (before_kept ps o (params behind 0 n)) ∙ ap (λ z. before z (params behind 0 n)) (sym f) ∙ ap (λ z. before found (params behind 0 z)) p
