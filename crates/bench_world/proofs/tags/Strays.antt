-- Where events part from those that their own numbers lead to, no entry has more of them.
use Rattle.std.proofs.Common.{◌≡◌, ◌⊎◌, inl, inr, ℕ, zero, suc, ◌<◌, List, [], ◌∷◌, ◌++◌, length, take, drop, refl, sym, ◌∙◌, ap, subst, arith}
use Rattle.std.proofs.Math.Numerals.{lt_of_le_of_ne}
use Rattle.std.proofs.lemmas.List.{append-nil, take-append-drop}
use Rattle.nfc_base.specs.declared.event.Event.{Event}
use Rattle.bench_script.specs.declared.command.Command.{Command}
use Rattle.bench_world.specs.declared.entry.Entry.{Entry}
use Rattle.bench_world.specs.Alike.{Alike}
use Rattle.bench_world.specs.Following.{BeginAlike, GoApart, NoneBegins, NoneHas}
use Rattle.bench_world.specs.Legal.{Given, LegalStep, State}
use Rattle.bench_world.specs.Showing.{BeginsSame, IsBetweenCommands, MayShow, shown_of}
use Rattle.bench_world.proofs.alike.AlikeStates.{alike_back, alike_steps}
use Rattle.bench_world.proofs.showing.ShowingSteps.{numbers_show}

-- where two courses part, none goes on with the next event of the other
pub no_more : (n : ℕ) (xs ys : List Event) → GoApart (drop n xs) (drop n ys) → n < length ys → (more : List Event) → xs ≡ take (suc n) ys ++ more → ⊥
no_more zero xs [] a p more e = absurd (omega (arith, p))
no_more zero [] (y ∷ ys) a p more e = absurd cc
no_more zero (x ∷ xs) (y ∷ ys) a p more e = a (let first : x ∷ xs ≡ y ∷ more = e in cc)
no_more (suc n) xs [] a p more e = absurd (omega (arith, p))
no_more (suc n) [] (y ∷ ys) a p more e = absurd cc
no_more (suc n) (x ∷ xs) (y ∷ ys) a p more e =
    no_more n xs ys a (omega (arith, p)) more (let later : x ∷ xs ≡ y ∷ (take (suc n) ys ++ more) = e in cc)

-- a course doesn't part from itself before its end
pub parts_not : (n : ℕ) (xs : List Event) → GoApart (drop n xs) (drop n xs) → n < length xs → ⊥
parts_not zero [] a p = absurd (omega (arith, p))
parts_not zero (x ∷ xs) a p = a refl
parts_not (suc n) [] a p = absurd (omega (arith, p))
parts_not (suc n) (x ∷ xs) a p = parts_not n xs a (omega (arith, p))

-- so one that is longer than what is the same isn't the other
pub not_other : (made told : List Event) (n : ℕ) → BeginAlike made told n → (n ≡ length made → ⊥) ⊎ (n ≡ length told → ⊥) → told ≡ made → ⊥
not_other made told n b which same =
    parts_not n made (subst (λ es. GoApart (drop n made) (drop n es)) same b.apart) (below which)
  where
    m : length told ≡ length made
    m = ap length same

    below : (n ≡ length made → ⊥) ⊎ (n ≡ length told → ⊥) → n < length made
    below (inl other) = lt_of_le_of_ne b.within other
    below (inr other) = subst (λ k. n < k) m (lt_of_le_of_ne b.within_other other)

-- an entry begins with the events that are the same
pub begins_with : (made told : List Event) (good : ℕ) → BeginAlike made told good → made ≡ take good told ++ drop good made
begins_with made told good b = sym (take-append-drop good made) ∙ ap (λ es. es ++ drop good made) b.same

-- this entry was made by the numbers that these events show
module _ (s u : State) (between : IsBetweenCommands s) (c : Command) (shows : MayShow s c) (h : Given) (e : Entry) (step : LegalStep s h e u) (asked : e.command ≡ c)
    (told : List Event) (shown : h.joins ≡ shown_of s c told) where
  -- one of an alike state that begins with some of them has its events begin so
  same_front : (t v : State) (g : Given) (f : Entry) (es more rest : List Event) → told ≡ es ++ more → Alike s t → LegalStep t g f v → f.command ≡ c → f.events ≡ es ++ rest
      → BeginsSame es rest e.events
  same_front t v g f es more rest split alike legal same begins =
      let k = alike_steps t s v g f (alike_back s t alike) legal in
      numbers_show s k.0 u g h f e es rest more between (subst (MayShow s) (sym same) shows) k.1 begins step (asked ∙ sym same)
      (shown ∙ ap (shown_of s c) split ∙ ap (λ x. shown_of s x (es ++ more)) (sym same))

  pub none_begins : (good : ℕ) → BeginAlike e.events told good → good < length told → NoneBegins s c (take (suc good) told)
  none_begins good b p t v g f rest alike legal same begins =
      let k = same_front t v g f (take (suc good) told) (drop (suc good) told) rest (sym (take-append-drop (suc good) told)) alike legal same begins in
      no_more good e.events told b.apart p k.other k.begins

  pub none_has : (told ≡ e.events → ⊥) → NoneHas s c told
  none_has other t v g f alike legal same is =
      let none : told ++ [] ≡ told = append-nil told in
      let k = same_front t v g f told [] [] (sym none) alike legal same (is ∙ sym none) in
      other (sym (k.begins ∙ ap (λ es. told ++ es) (k.ends refl) ∙ none))
