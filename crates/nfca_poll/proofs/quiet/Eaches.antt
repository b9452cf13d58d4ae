-- Each element of a list, and answers of a list of devices.
use Rattle.std.proofs.Common.{◌≡◌, List, [], ◌∷◌, ◌++◌, map, filter_map, inl, inr, refl, sym, ◌∙◌, ap, subst, Option, Some, None}
use Rattle.std.specs.List.{cons_option}
use Rattle.nfca_poll.specs.Crowd.{Each}
use Rattle.nfca_poll.proofs.quiet.Clashes.{Has}

pub each_map : {X : Type 0} (P Q : X → Type 0) → ((x : X) → P x → Q x) → (xs : List X) → Each P xs → Each Q xs
each_map P Q f [] e = tt
each_map P Q f (x ∷ xs) e = (f x e.0, each_map P Q f xs e.1)

pub each_with : {X : Type 0} (P Q R : X → Type 0) → ((x : X) → P x → Q x → R x) → (xs : List X) → Each P xs → Each Q xs → Each R xs
each_with P Q R f [] e g = tt
each_with P Q R f (x ∷ xs) e g = (f x e.0 g.0, each_with P Q R f xs e.1 g.1)

pub each_has : {X : Type 0} (P : X → Type 0) (m : X) (xs : List X) → Each P xs → Has m xs → P m
each_has P m [] e h = absurd h
each_has P m (x ∷ xs) e (inl p) = subst P (sym p) e.0
each_has P m (x ∷ xs) e (inr h) = each_has P m xs e.1 h

pub each_front : {X : Type 0} (P : X → Type 0) (xs ys : List X) → Each P (xs ++ ys) → Each P xs
each_front P [] ys e = tt
each_front P (x ∷ xs) ys e = (e.0, each_front P xs ys e.1)

pub each_back : {X : Type 0} (P : X → Type 0) (xs ys : List X) → Each P (xs ++ ys) → Each P ys
each_back P [] ys e = e
each_back P (x ∷ xs) ys e = each_back P xs ys e.1

pub has_middle : {X : Type 0} (m : X) (xs ys : List X) → Has m (xs ++ m ∷ ys)
has_middle m [] ys = inl refl
has_middle m (x ∷ xs) ys = inr (has_middle m xs ys)

pub map_same : {X Y : Type 0} (f g : X → Y) (xs : List X) → Each (λ x. f x ≡ g x) xs → map f xs ≡ map g xs
map_same f g [] e = refl
map_same f g (x ∷ xs) e = ap (λ t. t ∷ map f xs) e.0 ∙ ap (λ t. g x ∷ t) (map_same f g xs e.1)

pub map_twice : {X Y Z : Type 0} (f : Y → Z) (g : X → Y) (xs : List X) → map f (map g xs) ≡ map (λ x. f (g x)) xs
map_twice f g [] = refl
map_twice f g (x ∷ xs) = ap (λ t. f (g x) ∷ t) (map_twice f g xs)

pub map_none : {X : Type 0} (f : X → X) (xs : List X) → Each (λ x. f x ≡ x) xs → map f xs ≡ xs
map_none f [] e = refl
map_none f (x ∷ xs) e = ap (λ t. t ∷ map f xs) e.0 ∙ ap (λ t. x ∷ t) (map_none f xs e.1)

-- answers of devices, by any rule
abbrev pub IfSaid : {Y : Type 0} → (Y → Type 0) → Option Y → Type 0
IfSaid P None = Unit {0}
IfSaid P (Some g) = P g

pub said_map : {X Z Y : Type 0} (p : Z → Option Y) (h : X → Z) (cs : List X) → filter_map p (map h cs) ≡ filter_map (λ c. p (h c)) cs
said_map p h [] = refl
said_map p h (c ∷ cs) = ap (cons_option (p (h c))) (said_map p h cs)

pub said_same : {X Y : Type 0} (p q : X → Option Y) (cs : List X) → Each (λ c. p c ≡ q c) cs → filter_map p cs ≡ filter_map q cs
said_same p q [] e = refl
said_same p q (c ∷ cs) e = ap (λ t. cons_option t (filter_map p cs)) e.0 ∙ ap (cons_option (q c)) (said_same p q cs e.1)

pub said_none : {X Y : Type 0} (p : X → Option Y) (cs : List X) → Each (λ c. p c ≡ None) cs → filter_map p cs ≡ []
said_none p [] e = refl
said_none p (c ∷ cs) e = ap (λ t. cons_option t (filter_map p cs)) e.0 ∙ said_none p cs e.1

onto_each : {Y : Type 0} (P : Y → Type 0) (o : Option Y) (gs : List Y) → IfSaid P o → Each P gs → Each P (cons_option o gs)
onto_each P None gs i e = e
onto_each P (Some g) gs i e = (i, e)

pub said_each : {X Y : Type 0} (P : Y → Type 0) (p : X → Option Y) (cs : List X) → Each (λ c. IfSaid P (p c)) cs → Each P (filter_map p cs)
said_each P p [] e = tt
said_each P p (c ∷ cs) e = onto_each P (p c) (filter_map p cs) e.0 (said_each P p cs e.1)

pub onto_back : {Y : Type 0} (P : Y → Type 0) (o : Option Y) (gs : List Y) → Each P (cons_option o gs) → IfSaid P o × Each P gs
onto_back P None gs e = (tt, e)
onto_back P (Some g) gs e = e

pub each_said : {X Y : Type 0} (P : Y → Type 0) (p : X → Option Y) (cs : List X) → Each P (filter_map p cs) → Each (λ c. IfSaid P (p c)) cs
each_said P p [] e = tt
each_said P p (c ∷ cs) e = let q : _ × _ = onto_back P (p c) (filter_map p cs) e in (q.0, each_said P p cs q.1)

onto_has : {Y : Type 0} (g : Y) (o : Option Y) (gs : List Y) → Has g gs → Has g (cons_option o gs)
onto_has g None gs h = h
onto_has g (Some x) gs h = inr h

pub said_has : {X Y : Type 0} (p : X → Option Y) (m : X) (g : Y) (cs : List X) → Has m cs → p m ≡ Some g → Has g (filter_map p cs)
said_has p m g [] h s = h
said_has {Y = Y} p m g (c ∷ cs) (inl q) s = let P : Option Y → Type 0 = λ o. Has g (cons_option o (filter_map p cs)) in subst P (sym (sym (ap p q) ∙ s)) (inl refl)
said_has p m g (c ∷ cs) (inr h) s = onto_has g (p c) (filter_map p cs) (said_has p m g cs h s)

pub none_in : {X Y : Type 0} (p : X → Option Y) (xs : List X) → filter_map p xs ≡ [] → Each (λ x. p x ≡ None) xs
none_in p [] e = tt
none_in {Y = Y} p (x ∷ xs) e = by_one (p x) refl e (λ k. none_in p xs k)
  where
    by_one : (o : Option Y) → p x ≡ o → cons_option o (filter_map p xs) ≡ [] → (filter_map p xs ≡ [] → Each (λ z. p z ≡ None) xs) → Each (λ z. p z ≡ None) (x ∷ xs)
    by_one None q k rest = (q, rest k)
    by_one (Some y) q k rest = absurd cc
