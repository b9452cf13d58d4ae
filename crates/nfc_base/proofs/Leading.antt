-- Commands on a link, one after another.
use Rattle.std.proofs.Common.{◌≡◌, ℕ, inl, inr, List, [], ◌∷◌, ◌++◌, Option, Some, None, refl, sym, ◌∙◌, ap, subst, append_assoc, append-nil, false, arith}
use Rattle.std.specs.List.{AllByRecursion}
use Rattle.nfc_base.specs.Signal.{Signal}
use Rattle.nfc_base.specs.TagLinks.{TagState, TagStep, LinkView, after_all, passed, Leads, Rises, AskCause}
use Rattle.nfc_base.specs.declared.tag_link.AskFault.{AskFault}
use Rattle.nfc_base.specs.declared.tag_link.AskFault.TheVariants.{FieldLost, SixBad, Memory, Protocol}

pub after_append : (step : TagState → Signal → TagStep) (s : TagState) (cs ds : List Signal) →
    after_all step s (cs ++ ds) ≡ after_all step (after_all step s cs) ds
after_append step s [] ds = refl
after_append step s (c ∷ cs) ds = after_append step (step s c).after cs ds

pub passed_append : (step : TagState → Signal → TagStep) (s : TagState) (cs ds : List Signal) →
    passed step s (cs ++ ds) ≡ passed step s cs ++ passed step (after_all step s cs) ds
passed_append step s [] ds = refl
passed_append step s (c ∷ cs) ds = ap (λ xs. (step s c).after.store ∷ xs) (passed_append step (step s c).after cs ds)

pub all_append : {A : Type 0} (P : A → Type 0) (xs ys : List A) → AllByRecursion P xs → AllByRecursion P ys → AllByRecursion P (xs ++ ys)
all_append P [] ys p q = q
all_append P (x ∷ xs) ys p q = (p.0, all_append P xs ys p.1 q)

pub all_map : {A : Type 0} (P Q : A → Type 0) (xs : List A) → ((x : A) → P x → Q x) → AllByRecursion P xs → AllByRecursion Q xs
all_map P Q [] f p = tt
all_map P Q (x ∷ xs) f p = (f x p.0, all_map P Q xs f p.1)

-- where nothing was asked
pub leads_again : (a : LinkView) → Leads a a []
leads_again a = record {
  kind = refl;
  identifier = refl;
  step = refl;
  obeyed = sym (append-nil a.obeyed);
  store = refl;
  state = λ h. refl;
  ended = λ e h. (h, refl);
}

-- where a link isn't over it wasn't before
pub open_before : (a b : LinkView) (xs : List Signal) → Leads a b xs → b.over ≡ None → a.over ≡ None
open_before a b xs p h = by_over a.over refl
  where
    by_over : (o : Option AskFault) → a.over ≡ o → a.over ≡ None
    by_over None e = e
    by_over (Some f) e = absurd (let over : b.over ≡ Some f = (p.ended f e).0 in cc)

-- The tag as calls left it, and what it then obeyed: where nothing more was obeyed, it may be seen by its store alone.
held_then : (a b : LinkView) (xs ys : List Signal) → Leads a b xs → (o : Option AskFault) → b.over ≡ o
    → ((f : AskFault) → b.over ≡ Some f → ys ≡ [])
    → (passed b.step b.state ys ≡ passed a.step (after_all a.step a.state xs) ys)
    × ((after_all b.step b.state ys).store ≡ (after_all a.step (after_all a.step a.state xs) ys).store)
held_then a b xs ys p None e none =
    let step : b.step ≡ a.step = p.step in
    let state : b.state ≡ after_all a.step a.state xs = p.state e in (
      ap (λ st. passed st b.state ys) step ∙ ap (λ s. passed a.step s ys) state,
      ap (λ st. (after_all st b.state ys).store) step ∙ ap (λ s. (after_all a.step s ys).store) state,
    )
held_then a b xs ys p (Some f) e none =
    let P : List Signal → Type 0 = λ zs. (passed b.step b.state zs ≡ passed a.step (after_all a.step a.state xs) zs)
    × ((after_all b.step b.state zs).store ≡ (after_all a.step (after_all a.step a.state xs) zs).store) in
    subst P (sym (none f e)) (refl, p.store)

pub leads_on : (a b c : LinkView) (xs ys : List Signal) → Leads a b xs → Leads b c ys → Leads a c (xs ++ ys)
leads_on a b c xs ys p q = record {
  kind = q.kind ∙ p.kind;
  identifier = q.identifier ∙ p.identifier;
  step = q.step ∙ p.step;
  obeyed = q.obeyed ∙ ap (λ os. os ++ ys) p.obeyed ∙ append_assoc a.obeyed xs ys;
  store = q.store ∙ (held_then a b xs ys p b.over refl (λ f h. (q.ended f h).1)).1 ∙ ap (λ s. s.store) (sym (after_append a.step a.state xs ys));
  state = λ h.
      q.state h ∙ ap (λ st. after_all st b.state ys) p.step ∙ ap (λ s. after_all a.step s ys) (p.state (open_before b c ys q h))
      ∙ sym (after_append a.step a.state xs ys);
  ended = λ e h.
      let first : (b.over ≡ Some e) × (xs ≡ []) = p.ended e h in
      let then' : (c.over ≡ Some e) × (ys ≡ []) = q.ended e first.0 in
      (then'.0, ap (λ zs. zs ++ ys) first.1 ∙ then'.1);
}

-- the stores that the tag passed, one after another
pub passed_on : (a b c : LinkView) (xs ys : List Signal) → Leads a b xs → Leads b c ys →
    passed a.step a.state (xs ++ ys) ≡ passed a.step a.state xs ++ passed b.step b.state ys
passed_on a b c xs ys p q =
    passed_append a.step a.state xs ys
    ∙ ap (λ zs. passed a.step a.state xs ++ zs) (sym (held_then a b xs ys p b.over refl (λ f h. (q.ended f h).1)).0)

-- what holds of each of them
pub all_on : (P : List ℕ → Type 0) (a b c : LinkView) (xs ys : List Signal) → Leads a b xs → Leads b c ys →
    AllByRecursion P (passed a.step a.state xs) → AllByRecursion P (passed b.step b.state ys) → AllByRecursion P (passed a.step a.state (xs ++ ys))
all_on P a b c xs ys p q u v = rw (passed_on a b c xs ys p q) (all_append P (passed a.step a.state xs) (passed b.step b.state ys) u v)

pub rises_again : (a : LinkView) → Rises a a
rises_again a = record { counts = record { breaks = omega arith; six_bad = omega arith; odd = omega arith }; noise = omega arith }

pub rises_on : (a b c : LinkView) → Rises a b → Rises b c → Rises a c
rises_on a b c p q = record {
  counts = record {
    breaks = omega (arith, p.counts.breaks, q.counts.breaks);
    six_bad = omega (arith, p.counts.six_bad, q.counts.six_bad);
    odd = omega (arith, p.counts.odd, q.counts.odd);
  };
  noise = omega (arith, p.noise, q.noise);
}

-- A cause in a later call is a cause in all of them, where the field was lit before the last.
pub cause_on : (a b c : LinkView) (e : AskFault) → Rises a b → b.dark ≡ false → AskCause b c e → AskCause a c e
cause_on a b c FieldLost p lit (inl q) = inl (omega (arith, p.counts.breaks, q))
cause_on a b c FieldLost p lit (inr q) = absurd (grind (arith, lit, q))
cause_on a b c SixBad p lit q = omega (arith, p.counts.six_bad, q)
cause_on a b c Protocol p lit q = omega (arith, p.counts.odd, q)
cause_on a b c Memory p lit q = tt
