-- The passes of some turns, as turns are added at their end.
use Rattle.std.proofs.Common.{◌≡◌, ◌+◌, List, [], ◌∷◌, ◌++◌, true, false, if◌then◌else◌, append_assoc, refl, sym, ◌∙◌, ap, subst, arith}
use Rattle.std.proofs.lemmas.List.{append-nil}
use Rattle.nfc_base.specs.Trace.{Turn}
use Rattle.nfca_poll.specs.Crowd.{Each}
use Rattle.nfcv_poll.specs.Finding.{is_answered_question}
use Rattle.nfcv_poll.specs.Passes.{in_first, passes, noise_of, noise_in}

-- no question was answered among these
abbrev pub AreOpen : List Turn → Type 0
AreOpen ts = Each (λ t. is_answered_question t ≡ false) ts

-- the passes that have ended, and the turns of the one that hasn't
pub record Parted (ts : List Turn) (ended : List (List Turn)) (now : List Turn) : Type 0 where
  pub goes : (us : List Turn) → passes (ts ++ us) ≡ ended ++ passes (now ++ us)
  pub open' : AreOpen now

pub parted_none : Parted [] [] []
parted_none = record { goes = λ us. refl; open' = tt }

pub each_end : {X : Type 0} (P : X → Type 0) (xs : List X) (x : X) → Each P xs → P x → Each P (xs ++ x ∷ [])
each_end P [] x h here = (here, tt)
each_end P (y ∷ xs) x h here = (h.0, each_end P xs x h.1 here)

-- a turn more in the same pass
pub parted_more : (ts : List Turn) (ended : List (List Turn)) (now : List Turn) (t : Turn) → Parted ts ended now → is_answered_question t ≡ false → Parted (ts ++ t ∷ []) ended (now ++ t ∷ [])
parted_more ts ended now t p e = record {
  goes = λ us. ap passes (append_assoc ts (t ∷ []) us) ∙ p.goes (t ∷ us) ∙ ap (λ xs. ended ++ passes xs) (sym (append_assoc now (t ∷ []) us));
  open' = each_end (λ u. is_answered_question u ≡ false) now t p.open' e;
}

-- a turn that ends it
closed : (now : List Turn) (t : Turn) (us : List Turn) → AreOpen now → is_answered_question t ≡ true → passes (now ++ t ∷ us) ≡ (now ++ t ∷ []) ∷ passes us
closed [] t us h e = ap (λ v. if v then (t ∷ []) ∷ passes us else in_first t (passes us)) e
closed (n ∷ now) t us h e =
    ap (λ v. if v then (n ∷ []) ∷ passes (now ++ t ∷ us) else in_first n (passes (now ++ t ∷ us))) h.0 ∙ ap (in_first n) (closed now t us h.1 e)

pub parted_end : (ts : List Turn) (ended : List (List Turn)) (now : List Turn) (t : Turn) → Parted ts ended now → is_answered_question t ≡ true
    → Parted (ts ++ t ∷ []) (ended ++ (now ++ t ∷ []) ∷ []) []
parted_end ts ended now t p e = record {
  goes = λ us.
      ap passes (append_assoc ts (t ∷ []) us) ∙ p.goes (t ∷ us) ∙ ap (λ xs. ended ++ xs) (closed now t us p.open' e)
      ∙ sym (append_assoc ended ((now ++ t ∷ []) ∷ []) (passes us));
  open' = tt;
}

-- what holds of each pass that has ended, and of the turns of the one that hasn't, holds of each pass
pub each_pass : (P : List Turn → Type 0) (ts : List Turn) (ended : List (List Turn)) (now : List Turn) → Parted ts ended now → Each P ended → P now → Each P (passes ts)
each_pass P ts ended now p h here =
    let all : passes ts ≡ ended ++ passes now = ap passes (sym (append-nil ts)) ∙ p.goes [] ∙ ap (λ xs. ended ++ passes xs) (append-nil now) in
    subst (Each P) (sym all) (both ended h)
  where
    one : (xs : List Turn) → AreOpen xs → P xs → Each P (passes xs)
    one [] o k = tt
    one (x ∷ xs) o k = subst (Each P) (sym (whole x xs o)) (k, tt)
      where
        whole : (x : Turn) (xs : List Turn) → AreOpen (x ∷ xs) → passes (x ∷ xs) ≡ (x ∷ xs) ∷ []
        whole x [] o = ap (λ v. if v then (x ∷ []) ∷ [] else in_first x []) o.0
        whole x (y ∷ ys) o = ap (λ v. if v then (x ∷ []) ∷ passes (y ∷ ys) else in_first x (passes (y ∷ ys))) o.0 ∙ ap (in_first x) (whole y ys o.1)

    both : (ps : List (List Turn)) → Each P ps → Each P (ps ++ passes now)
    both [] k = one now p.open' here
    both (q ∷ ps) k = (k.0, both ps k.1)

pub each_ended : (P : List Turn → Type 0) (ts : List Turn) (ended : List (List Turn)) → Parted ts ended [] → Each P ended → Each P (passes ts)
each_ended P ts ended p h =
    let all : passes ts ≡ ended = ap passes (sym (append-nil ts)) ∙ p.goes [] ∙ append-nil ended in
    subst (Each P) (sym all) h

-- the noise of a turn more
pub noise_more : (ts : List Turn) (t : Turn) → noise_in (ts ++ t ∷ []) ≡ noise_in ts + noise_of t
noise_more [] t = omega arith
noise_more (u ∷ ts) t = omega (arith, noise_more ts t)

pub none_before : (ts : List Turn) (t : Turn) → noise_in (ts ++ t ∷ []) ≡ 0 → (noise_in ts ≡ 0) × (noise_of t ≡ 0)
none_before ts t h = let e = noise_more ts t in (omega (arith, e, h), omega (arith, e, h))
