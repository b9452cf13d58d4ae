-- What a resolution that picked a device leaves of the cards.
use Rattle.std.proofs.Common.{◌≡◌, ℕ, List, [], ◌∷◌, ◌++◌, map, Bool, true, false, inl, inr, refl, sym, ◌∙◌, ap, subst}
use Rattle.nfca_poll.specs.declared.kind.Kind.{Kind}
use Rattle.nfca_poll.specs.Ident.{IsIdent}
use Rattle.nfca_poll.specs.Levels.{levels}
use Rattle.nfca_poll.specs.Front.{Front, Idle, Sleep, Active}
use Rattle.nfca_poll.specs.Poll.{Ended, Outcome, Found}
use Rattle.nfca_poll.specs.Crowd.{Card, Each, with_front, is_idle, is_rest, ahead, crowd_bits}
use Rattle.nfca_poll.proofs.quiet.CrowdParts.{IsFirst}
use Rattle.nfca_poll.proofs.quiet.Eaches.{each_back}
use Rattle.nfca_poll.proofs.quiet.CrowdOrder.{each_unmapped}
use Rattle.nfca_poll.proofs.noise.Standing.{part_of, cast, Shade, Shades, part_rests}
use Rattle.nfca_poll.proofs.noise.SoughtFrom.{Plays}

-- where the images of some elements are divided, the elements are
pub record Divided {X Y : Type 0} (f : X → Y) (xs : List X) (a : List Y) (y : Y) (b : List Y) : Type 0 where
  pub before : List X
  pub at : X
  pub behind : List X
  pub parts : xs ≡ before ++ at ∷ behind
  pub front : map f before ≡ a
  pub here : f at ≡ y
  pub back : map f behind ≡ b

no_split : {Y : Type 0} (a : List Y) (y : Y) (b : List Y) → [] ≡ a ++ y ∷ b → ⊥
no_split [] y b e = cc
no_split (x ∷ a) y b e = cc

heads : {Y : Type 0} (x y : Y) (a b : List Y) → x ∷ a ≡ y ∷ b → x ≡ y
heads x y a b e = cc

tails : {Y : Type 0} (x y : Y) (a b : List Y) → x ∷ a ≡ y ∷ b → a ≡ b
tails x y a b e = cc

pub divide : {X Y : Type 0} (f : X → Y) (xs : List X) (a : List Y) (y : Y) (b : List Y) → map f xs ≡ a ++ y ∷ b → Divided f xs a y b
divide f [] a y b e = absurd (no_split a y b e)
divide f (x ∷ xs) [] y b e = record { before = []; at = x; behind = xs; parts = refl; front = refl; here = heads (f x) y (map f xs) b e; back = tails (f x) y (map f xs) b e }
divide f (x ∷ xs) (z ∷ a) y b e =
    let d : Divided f xs a y b = divide f xs a y b (tails (f x) z (map f xs) (a ++ y ∷ b) e) in
    record {
      before = x ∷ d.before;
      at = d.at;
      behind = d.behind;
      parts = ap (λ t. x ∷ t) d.parts;
      front = ap (λ t. t ∷ map f d.before) (heads (f x) z (map f xs) (a ++ y ∷ b) e) ∙ ap (λ t. z ∷ t) d.front;
      here = d.here;
      back = d.back;
    }

-- and so are the cards behind their parts
record Shaded (idle : Bool) (before : List Card) (c : Card) (behind : List Card) (y : Card) (v : List Card) : Type 0 where
  pub before' : List Card
  pub at' : Card
  pub behind' : List Card
  pub parts : v ≡ before' ++ at' ∷ behind'
  pub front : Shades idle before (map (cast idle) before) before'
  pub here : Shade idle c y at'
  pub back : Shades idle behind (map (cast idle) behind) behind'

shaded : (idle : Bool) (before : List Card) (c : Card) (behind : List Card) (y : Card) (v : List Card)
    → Shades idle (before ++ c ∷ behind) (map (cast idle) before ++ y ∷ map (cast idle) behind) v → Shaded idle before c behind y v
shaded idle [] c behind y [] s = absurd s
shaded idle [] c behind y (v ∷ vs) s = record { before' = []; at' = v; behind' = vs; parts = refl; front = tt; here = s.0; back = s.1 }
shaded idle (x ∷ xs) c behind y [] s = absurd s
shaded idle (x ∷ xs) c behind y (v ∷ vs) s =
    let r : Shaded idle xs c behind y vs = shaded idle xs c behind y vs s.1 in
    record { before' = v ∷ r.before'; at' = r.at'; behind' = r.behind'; parts = ap (λ t. v ∷ t) r.parts; front = (s.0, r.front); here = r.here; back = r.back }

-- One was picked: it is active, and the others are as their parts are, or idle.
pub record PickedFrom (start : List Card) (ls : List (List ℕ)) (kind : Kind) (v : List Card) : Type 0 where
  pub idle : Bool
  pub before : List Card
  pub picked : Card
  pub behind : List Card
  pub parts : start ≡ before ++ picked ∷ behind
  pub before' : List Card
  pub behind' : List Card
  pub left : v ≡ before' ++ record { id = picked.id; kind = picked.kind; front = Active false } ∷ behind'
  pub same_levels : ls ≡ levels picked.id
  pub same_kind : kind ≡ picked.kind
  pub own_id : IsIdent picked.id
  pub part : part_of idle picked.front ≡ Idle
  pub first : Each (λ d. is_idle (part_of idle d.front) ≡ true → ahead (crowd_bits picked.id) (crowd_bits d.id) ≡ true) (before ++ picked ∷ behind)
  pub apart_before : Each (λ (d : Card). d.id ≡ picked.id → ⊥) before
  pub apart_behind : Each (λ (d : Card). d.id ≡ picked.id → ⊥) behind
  pub shades_before : Shades idle before (map (cast idle) before) before'
  pub shades_behind : Shades idle behind (map (cast idle) behind) behind'

no_sleep : (s : Bool) → ◌≡◌ {A = Front} (Active s) Sleep → ⊥
no_sleep s e = cc

active_shade : (idle : Bool) (c m v : Card) → Shade idle c (with_front m (Active false)) v → v ≡ with_front m (Active false)
active_shade idle c m v (inl e) = e
active_shade idle c m v (inr h) = absurd (no_sleep false h.1)

found_levels : (a b : List (List ℕ)) (k l : Kind) → ◌≡◌ {A = Outcome} (Found a k) (Found b l) → a ≡ b
found_levels a b k l e = cc

found_kind : (a b : List (List ℕ)) (k l : Kind) → ◌≡◌ {A = Outcome} (Found a k) (Found b l) → k ≡ l
found_kind a b k l e = cc

cards_map : (idle : Bool) (P : Card → Type 0) (before : List Card) (c : Card) (behind : List Card) → Each P (map (cast idle) before ++ cast idle c ∷ map (cast idle) behind)
    → Each (λ d. P (cast idle d)) (before ++ c ∷ behind)
cards_map idle P [] c behind e = (e.0, each_unmapped (cast idle) P behind e.1)
cards_map idle P (x ∷ xs) c behind e = (e.0, cards_map idle P xs c behind e.1)

here_in : {X : Type 0} (P : X → Type 0) (a : List X) (x : X) (b : List X) → Each P (a ++ x ∷ b) → P x
here_in P a x b e = (each_back P a (x ∷ b) e).0

divided : (idle : Bool) (start before : List Card) (c : Card) (behind : List Card) (ls : List (List ℕ)) (kind : Kind) (x v : List Card) → start ≡ before ++ c ∷ behind
    → IsFirst (map (cast idle) before) (cast idle c) (map (cast idle) behind)
    → Found ls kind ≡ Found (levels c.id) c.kind → x ≡ map (cast idle) before ++ with_front (cast idle c) (Active false) ∷ map (cast idle) behind → Shades idle start x v
    → PickedFrom start ls kind v
divided idle start before c behind ls kind x v parts F same world shades =
    let S : List Card → List Card → Type 0 = λ s t. Shades idle s t v in
    let Q : List Card → Type 0 = λ s. S s x in
    let R : List Card → Type 0 = λ t. S (before ++ c ∷ behind) t in
    let k : Shaded idle before c behind (with_front (cast idle c) (Active false)) v = shaded idle before c behind (with_front (cast idle c) (Active false)) v (subst R world (subst Q parts shades)) in
    record {
      idle = idle;
      before = before;
      picked = c;
      behind = behind;
      parts = parts;
      before' = k.before';
      behind' = k.behind';
      left = k.parts ∙ ap (λ t. k.before' ++ t ∷ k.behind') (active_shade idle c (cast idle c) k.at' k.here);
      same_levels = found_levels ls (levels c.id) kind c.kind same;
      same_kind = found_kind ls (levels c.id) kind c.kind same;
      own_id = (here_in (λ (d : Card). IsIdent d.id × (is_rest d.front ≡ true)) (map (cast idle) before) (cast idle c) (map (cast idle) behind) F.cards).0;
      part = F.idle;
      first = cards_map idle (λ d. is_idle d.front ≡ true → ahead (crowd_bits c.id) (crowd_bits d.id) ≡ true) before c behind F.first;
      apart_before = each_unmapped (cast idle) (λ (d : Card). d.id ≡ c.id → ⊥) before F.distinct_before;
      apart_behind = each_unmapped (cast idle) (λ (d : Card). d.id ≡ c.id → ⊥) behind F.distinct_after;
      shades_before = k.front;
      shades_behind = k.back;
    }

pub picked_from : (start : List Card) (ls : List (List ℕ)) (kind : Kind) (v : List Card) → Plays start (Ended (Found ls kind)) v → PickedFrom start ls kind v
picked_from start ls kind v p =
    let d : Divided (cast p.idle) start p.a p.m p.b = divide (cast p.idle) start p.a p.m p.b p.parts in
    let A : List Card → Type 0 = λ t. IsFirst t p.m p.b in
    let M : Card → Type 0 = λ t. IsFirst (map (cast p.idle) d.before) t p.b in
    let B : List Card → Type 0 = λ t. IsFirst (map (cast p.idle) d.before) (cast p.idle d.at) t in
    let F : IsFirst (map (cast p.idle) d.before) (cast p.idle d.at) (map (cast p.idle) d.behind) = subst B (sym d.back) (subst M (sym d.here) (subst A (sym d.front) p.first)) in
    let K : Card → Outcome = λ c. Found (levels c.id) c.kind in
    let W : List Card → Card → List Card → List Card = λ a c b. a ++ with_front c (Active false) ∷ b in
    divided p.idle start d.before d.at d.behind ls kind p.played v d.parts F (p.seeks.0 ∙ sym (ap K d.here))
    (p.seeks.1 ∙ sym (ap (λ a. W a (cast p.idle d.at) (map (cast p.idle) d.behind)) d.front ∙ ap (λ c. W p.a c (map (cast p.idle) d.behind)) d.here ∙ ap (W p.a p.m) d.back)) p.shades

-- the others are at rest
shade_rests : (idle : Bool) (c v : Card) → Shade idle c (cast idle c) v → is_rest v.front ≡ true
shade_rests idle c v (inl e) = ap (λ (x : Card). is_rest x.front) e ∙ part_rests idle c.front
shade_rests idle c v (inr h) = ap (λ (x : Card). is_rest x.front) h.2

pub shades_rest : (idle : Bool) (cs vs : List Card) → Shades idle cs (map (cast idle) cs) vs → Each (λ c. is_rest c.front ≡ true) vs
shades_rest idle [] [] s = tt
shades_rest idle [] (v ∷ vs) s = absurd s
shades_rest idle (c ∷ cs) [] s = absurd s
shades_rest idle (c ∷ cs) (v ∷ vs) s = (shade_rests idle c v s.0, shades_rest idle cs vs s.1)
