-- Where `pick` has selected a Type 2 tag among fronts, a plain link may be made to it.
use Rattle.std.proofs.Common.{◌≡◌, ◌≢◌, ℕ, List, [], ◌∷◌, ◌++◌, length, Bool, true, false, refl, sym, ◌∙◌, ap, subst}
use Rattle.std.specs.List.{AllByRecursion}
use Rattle.nfc_base.specs.Signal.{Signal}
use Rattle.nfc_base.specs.TagLinks.{TagState, TagStep}
use Rattle.air_core.specs.Turn.{Air}
use Rattle.air_core.specs.PlainTags.{IsAside, HasPlainTag}
use Rattle.nfca_poll.specs.declared.kind.Kind.TheVariants.{T2}
use Rattle.nfca_poll.specs.declared.fault.Picked.{Picked}
use Rattle.nfca_poll.specs.Front.{Front, Off, Idle, Sleep, Ready, Active, is_ready, is_active}
use Rattle.nfca_poll.specs.Upper.{UpperMachine, IsUpper}
use Rattle.nfca_poll.specs.Fronted.{Fronted}
use Rattle.nfca_poll.specs.Crowd.{Card, Each, is_rest, AreDistinct, cards}
use Rattle.nfca_poll.specs.RoundEnds.{LeavesActive}
use Rattle.nfca_poll.specs.laws.Ours.{fronts_are_ours}
use Rattle.nfca_poll.specs.laws.PlainFronts.{IsPlainUpper, front_ghosts, plain_front}
use Rattle.nfca_poll.proofs.quiet.CrowdOrder.{AllUnlike, unlike_cards, cards_unlike}
use Rattle.nfca_poll.proofs.quiet.Eaches.{each_has, has_middle}

head_of : Card → List Card → Card
head_of d [] = d
head_of d (c ∷ cs) = c

tail_of : List Card → List Card
tail_of [] = []
tail_of (c ∷ cs) = cs

-- a list of devices, each with an identifier of its own, is split at one of them in one way
record SameSplit (a : List Card) (c : Card) (b x : List Card) (y : Card) (z : List Card) : Type 0 where
  before : a ≡ x
  at : c ≡ y
  behind : b ≡ z

one_split : (a : List Card) (c : Card) (b x : List Card) (y : Card) (z : List Card) → a ++ c ∷ b ≡ x ++ y ∷ z → c.id ≡ y.id → AreDistinct (a ++ c ∷ b) → SameSplit a c b x y z
unfolding head_of tail_of
one_split [] c b [] y z e i d = record { before = refl; at = ap (head_of c) e; behind = ap tail_of e }
one_split [] c b (w ∷ x) y z e i d =
    let P : List Card → Type 0 = λ t. Each (λ v. v.id ≢ c.id) t in
    absurd (each_has (λ v. v.id ≢ c.id) y (x ++ y ∷ z) (subst P (ap tail_of e) d.0) (has_middle y x z) (sym i))
one_split (w ∷ a) c b [] y z e i d =
    let same : w ≡ y = ap (head_of w) e in
    absurd (each_has (λ v. v.id ≢ w.id) c (a ++ c ∷ b) d.0 (has_middle c a b) (i ∙ sym (ap (λ (v : Card). v.id) same)))
one_split (w ∷ a) c b (v ∷ x) y z e i d =
    let rest = one_split a c b x y z (ap tail_of e) i d.1 in
    record { before = ap (λ t. t ∷ a) (ap (head_of w) e) ∙ ap (λ t. v ∷ t) rest.before; at = rest.at; behind = rest.behind }

-- the others have other identifiers
back_of : {X : Type 0} (P : X → Type 0) (a : List X) (x : X) (b : List X) → Each P (a ++ x ∷ b) → P x
back_of P [] x b e = e.0
back_of P (y ∷ a) x b e = back_of P a x b e.1

before_unlike : (a : List Card) (c : Card) (b : List Card) → AreDistinct (a ++ c ∷ b) → Each (λ v. v.id ≢ c.id) a
before_unlike [] c b d = tt
before_unlike (w ∷ a) c b d = ((λ e. back_of (λ v. v.id ≢ w.id) a c b d.0 (sym e)), before_unlike a c b d.1)

behind_unlike : (a : List Card) (c : Card) (b : List Card) → AreDistinct (a ++ c ∷ b) → Each (λ v. v.id ≢ c.id) b
behind_unlike [] c b d = d.0
behind_unlike (w ∷ a) c b d = behind_unlike a c b d.1

front_each : {X : Type 0} (P : X → Type 0) (a b : List X) → Each P (a ++ b) → Each P a × Each P b
front_each P [] b e = (tt, e)
front_each P (x ∷ a) b e = let r = front_each P a b e.1 in ((e.0, r.0), r.1)

rests_so : (front : Front) → is_rest front ≡ true → (is_ready front ≡ false) × (is_active front ≡ false)
rests_so Off r = (refl, refl)
rests_so Idle r = (refl, refl)
rests_so Sleep r = (refl, refl)
rests_so (Ready k starred) r = absurd cc
rests_so (Active starred) r = absurd cc

module _ {U : Type 0} {m : UpperMachine U} {store : U → List ℕ} {commands : U → TagState → Signal → TagStep} {is_open : U → Bool} {attributes : Signal → Bool}
    (laws : IsUpper m store commands is_open attributes) where
  abbrev shows : List (Fronted U) → List Card
  shows ls = cards (fronts_are_ours m) ls

  shown : Fronted U → Card
  shown d = record { id = d.id; kind = m.kind d.upper; front = d.front }

  -- the cards of fronts
  shows_append : (a : List (Fronted U)) (l : Fronted U) (b : List (Fronted U)) → shows (a ++ l ∷ b) ≡ shows a ++ shown l ∷ shows b
  unfolding shown
  shows_append [] l b = refl
  shows_append (d ∷ a) l b = ap (λ t. shown d ∷ t) (shows_append a l b)

  aside : (id : List ℕ) (ds : List (Fronted U)) → Each (λ c. is_rest c.front ≡ true) (shows ds) → Each (λ c. c.id ≢ id) (shows ds) → AllByRecursion (IsAside (front_ghosts laws) id) ds
  unfolding shown
  aside id [] r d = tt
  aside id (x ∷ ds) r d = (record { rests = λ t. rests_so x.front r.0; other = λ e. d.0 (sym e) }, aside id ds r.1 d.1)

  -- The tag that `pick` has selected, at the place where it stands: a plain link may be made to it.
  pub plain_at : IsPlainUpper m store commands → (w : List Card) (new : Air (Fronted U)) (id : List ℕ) (before : List (Fronted U)) (l : Fronted U) (behind : List (Fronted U))
      → AreDistinct w → LeavesActive id T2 w (shows new.listeners) → new.listeners ≡ before ++ l ∷ behind → l.id ≡ id → HasPlainTag (front_ghosts laws) new (length before)
  unfolding shown
  plain_at plain w new id before l behind own (a, b, split, rest, told) at same =
      let c : Card = record { id = id; kind = T2; front = Active false } in
      let v : shows new.listeners ≡ shows before ++ shown l ∷ shows behind = ap shows at ∙ shows_append before l behind in
      let U' : List Picked → Type 0 = λ t. AllUnlike t in
      let distinct : AreDistinct (shows new.listeners) = cards_unlike (shows new.listeners) (subst U' (sym told) (unlike_cards w own)) in
      let D : List Card → Type 0 = λ t. AreDistinct t in
      let s = one_split (shows before) (shown l) (shows behind) a c b (sym v ∙ split) same (subst D v distinct) in
      let parts = front_each (λ (x : Card). is_rest x.front ≡ true) a b rest in
      let R : List Card → Type 0 = λ t. Each (λ x. is_rest x.front ≡ true) t in
      let N : List ℕ → Type 0 = λ i. Each (λ x. x.id ≢ i) (shows before) in
      let front : l.front ≡ Active false = ap (λ (x : Card). x.front) s.at in
      record {
        tag = l;
        selected = ap is_active front;
        alone = record {
          before = before;
          behind = behind;
          split = at;
          stands = refl;
          first = aside l.id before (subst R (sym s.before) parts.0) (before_unlike (shows before) (shown l) (shows behind) (subst D v distinct));
          later = aside l.id behind (subst R (sym s.behind) parts.1) (behind_unlike (shows before) (shown l) (shows behind) (subst D v distinct));
        };
        named = tt;
        plain = plain_front laws plain l (ap (λ (x : Card). x.kind) s.at) (ap is_ready front);
      }
