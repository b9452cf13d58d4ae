-- A resolution whose field has active devices beside idle ones: those of one group are picked from, the others are as good
-- as asleep.
use Rattle.std.proofs.Common.{◌≡◌, ◌⊎◌, ℕ, ◌<◌, List, [], ◌∷◌, length, map, filter_map, Bool, true, false, if◌then◌else◌, inl, inr, refl, sym, ◌∙◌, ap, None}
use Rattle.std.specs.List.{cons_option}
use Rattle.nfca_poll.specs.declared.kind.Kind.{Kind}
use Rattle.nfca_poll.specs.Ident.{IsIdent}
use Rattle.nfca_poll.specs.Levels.{levels}
use Rattle.nfca_poll.specs.Calls.{Reading, Calls, Sens, Sdd, Sel}
use Rattle.nfca_poll.specs.Front.{Front, Off, Idle, Sleep, Ready, Active, front_next, front_says, is_active}
use Rattle.nfca_poll.specs.Crowd.{Card, Each, with_front, is_idle, is_rest, AreDistinct}
use Rattle.nfca_poll.proofs.quiet.Clashes.{wrong}
use Rattle.nfca_poll.proofs.identifiers.Fitting.{card_next, card_says, card_at}
use Rattle.nfca_poll.proofs.quiet.Choosing.{IsCard, woken_by, some_levels}

-- how a device stands where a resolution of a round begins: neither ready, nor active after sleep
abbrev pub is_standing : Front → Bool
is_standing Off = true
is_standing Idle = true
is_standing Sleep = true
is_standing (Ready k starred) = false
is_standing (Active starred) = if starred then false else true

abbrev pub Stands : Card → Type 0
Stands c = IsIdent c.id × (is_standing c.front ≡ true)

-- The part that a device plays: of those that were idle, or of those that were active, the others being asleep.
abbrev pub part_of : Bool → Front → Front
part_of idle Off = Off
part_of idle Idle = if idle then Idle else Sleep
part_of idle Sleep = Sleep
part_of idle (Ready k starred) = Sleep
part_of idle (Active starred) = if idle then Sleep else Idle

abbrev pub cast : Bool → Card → Card
cast idle c = with_front c (part_of idle c.front)

-- a device of the other group, which is idle where its part sleeps
abbrev pub is_aside : Bool → Front → Bool
is_aside idle f = if idle then is_active f else is_idle f

-- c was so at the start; x is its part now, and v is what it is.
abbrev pub Shade : Bool → Card → Card → Card → Type 0
Shade idle c x v = (v ≡ x) ⊎ ((is_aside idle c.front ≡ true) × (x.front ≡ Sleep) × (v ≡ with_front x Idle))

abbrev pub Shades : Bool → List Card → List Card → List Card → Type 0
Shades idle [] [] [] = Unit {0}
Shades idle [] [] (v ∷ vs) = ⊥
Shades idle [] (x ∷ xs) vs = ⊥
Shades idle (c ∷ cs) [] vs = ⊥
Shades idle (c ∷ cs) (x ∷ xs) [] = ⊥
Shades idle (c ∷ cs) (x ∷ xs) (v ∷ vs) = Shade idle c x v × Shades idle cs xs vs

-- a call that neither wakes an idle device nor one that sleeps
pub record Unmoved (r : Reading) : Type 0 where
  pub sleeps : (ls : List (List ℕ)) → front_next ls Sleep r ≡ Sleep
  pub rests : (ls : List (List ℕ)) → front_next ls Idle r ≡ Idle
  pub asleep : (ls : List (List ℕ)) (k : Kind) → front_says ls k Sleep r ≡ None
  pub silent : (ls : List (List ℕ)) (k : Kind) → front_says ls k Idle r ≡ None

pub sdd_unmoved : (k : ℕ) (known : List Bool) → Unmoved (Calls (Sdd k known))
sdd_unmoved k known = record { sleeps = λ ls. refl; rests = λ ls. refl; asleep = λ ls q. refl; silent = λ ls q. refl }

pub sel_unmoved : (k : ℕ) (l : List ℕ) → Unmoved (Calls (Sel k l))
sel_unmoved k l = record { sleeps = λ ls. refl; rests = λ ls. refl; asleep = λ ls q. refl; silent = λ ls q. refl }

module _ (r : Reading) (u : Unmoved r) where
  shade_next : (idle : Bool) (c x v : Card) → Shade idle c x v → Shade idle c (card_next r x) (card_next r v)
  shade_next idle c x v (inl e) = inl (ap (card_next r) e)
  shade_next idle c x v (inr h) =
      inr (h.0, ap (λ f. front_next (levels x.id) f r) h.1 ∙ u.sleeps (levels x.id), ap (card_next r) h.2 ∙ ap (with_front x) (u.rests (levels x.id)))

  shade_says : (idle : Bool) (c x v : Card) → Shade idle c x v → card_says r v ≡ card_says r x
  shade_says idle c x v (inl e) = ap (card_says r) e
  shade_says idle c x v (inr h) =
      ap (card_says r) h.2 ∙ u.silent (levels x.id) x.kind ∙ sym (ap (λ f. front_says (levels x.id) x.kind f r) h.1 ∙ u.asleep (levels x.id) x.kind)

  -- each turn goes on as if the others slept
  pub shades_next : (idle : Bool) (cs xs vs : List Card) → Shades idle cs xs vs → Shades idle cs (map (card_next r) xs) (map (card_next r) vs)
  shades_next idle [] [] [] s = tt
  shades_next idle [] [] (v ∷ vs) s = absurd s
  shades_next idle [] (x ∷ xs) vs s = absurd s
  shades_next idle (c ∷ cs) [] vs s = absurd s
  shades_next idle (c ∷ cs) (x ∷ xs) [] s = absurd s
  shades_next idle (c ∷ cs) (x ∷ xs) (v ∷ vs) s = (shade_next idle c x v s.0, shades_next idle cs xs vs s.1)

  pub shades_say : (idle : Bool) (cs xs vs : List Card) → Shades idle cs xs vs → filter_map (card_says r) vs ≡ filter_map (card_says r) xs
  shades_say idle [] [] [] s = refl
  shades_say idle [] [] (v ∷ vs) s = absurd s
  shades_say idle [] (x ∷ xs) vs s = absurd s
  shades_say idle (c ∷ cs) [] vs s = absurd s
  shades_say idle (c ∷ cs) (x ∷ xs) [] s = absurd s
  shades_say idle (c ∷ cs) (x ∷ xs) (v ∷ vs) s =
      ap (λ o. cons_option o (filter_map (card_says r) vs)) (shade_says idle c x v s.0) ∙ ap (cons_option (card_says r x)) (shades_say idle cs xs vs s.1)

-- SENS_REQ
abbrev pub called : Card → Card
called c = card_next (Calls Sens) c

abbrev ThreeCalls : Card → Type 0
ThreeCalls c =
    (called (called (called c)) ≡ called c)
    × Shade true c (card_at [] [] (cast true c)) (called c) × Shade false c (card_at [] [] (cast false c)) (called (called c))
    × (card_says (Calls Sens) c ≡ card_says (Calls Sens) (cast true c))
    × (card_says (Calls Sens) (called c) ≡ card_says (Calls Sens) (cast false c))
    × (card_says (Calls Sens) (called (called c)) ≡ card_says (Calls Sens) (cast true c))

three_by : (id : List ℕ) (k : Kind) (f : Front) → 0 < length (levels id) → is_standing f ≡ true → ThreeCalls (record { id = id; kind = k; front = f })
three_by id k Off h s = (refl, inl refl, inl refl, refl, refl, refl)
three_by id k Idle h s = (refl, inl (woken_by id k Idle h refl), inr (refl, refl, refl), refl, refl, refl)
three_by id k Sleep h s = (refl, inl refl, inl refl, refl, refl, refl)
three_by id k (Ready j starred) h s = wrong s
three_by id k (Active true) h s = wrong s
three_by id k (Active false) h s = (refl, inr (refl, refl, refl), inl (woken_by id k Idle h refl), refl, refl, refl)

three_calls : (c : Card) → Stands c → ThreeCalls c
three_calls c h = three_by c.id c.kind c.front (some_levels c.id h.0) h.1

-- the third call finds them as the first one did
pub third_call : (w : List Card) → Each Stands w → map called (map called (map called w)) ≡ map called w
third_call [] e = refl
third_call (c ∷ cs) e = ap (λ t. t ∷ map called (map called (map called cs))) (three_calls c e.0).0 ∙ ap (λ t. called c ∷ t) (third_call cs e.1)

-- behind the first call those that were idle are asked, behind the second those that were active
pub first_shades : (w : List Card) → Each Stands w → Shades true w (map (card_at [] []) (map (cast true) w)) (map called w)
first_shades [] e = tt
first_shades (c ∷ cs) e = ((three_calls c e.0).1, first_shades cs e.1)

pub second_shades : (w : List Card) → Each Stands w → Shades false w (map (card_at [] []) (map (cast false) w)) (map called (map called w))
second_shades [] e = tt
second_shades (c ∷ cs) e = ((three_calls c e.0).2, second_shades cs e.1)

-- and these answer
pub first_answers : (w : List Card) → Each Stands w → filter_map (card_says (Calls Sens)) w ≡ filter_map (card_says (Calls Sens)) (map (cast true) w)
first_answers [] e = refl
first_answers (c ∷ cs) e =
    ap (λ o. cons_option o (filter_map (card_says (Calls Sens)) cs)) (three_calls c e.0).3 ∙ ap (cons_option (card_says (Calls Sens) (cast true c))) (first_answers cs e.1)

pub second_answers : (w : List Card) → Each Stands w → filter_map (card_says (Calls Sens)) (map called w) ≡ filter_map (card_says (Calls Sens)) (map (cast false) w)
second_answers [] e = refl
second_answers (c ∷ cs) e =
    ap (λ o. cons_option o (filter_map (card_says (Calls Sens)) (map called cs))) (three_calls c e.0).4 ∙ ap (cons_option (card_says (Calls Sens) (cast false c))) (second_answers cs e.1)

pub third_answers : (w : List Card) → Each Stands w → filter_map (card_says (Calls Sens)) (map called (map called w)) ≡ filter_map (card_says (Calls Sens)) (map (cast true) w)
third_answers [] e = refl
third_answers (c ∷ cs) e =
    ap (λ o. cons_option o (filter_map (card_says (Calls Sens)) (map called (map called cs)))) (three_calls c e.0).5
    ∙ ap (cons_option (card_says (Calls Sens) (cast true c))) (third_answers cs e.1)

-- parts are at rest, each with an identifier of its own
pub part_rests : (idle : Bool) (f : Front) → is_rest (part_of idle f) ≡ true
part_rests idle Off = refl
part_rests true Idle = refl
part_rests false Idle = refl
part_rests idle Sleep = refl
part_rests idle (Ready k starred) = refl
part_rests true (Active starred) = refl
part_rests false (Active starred) = refl

pub cast_cards : (idle : Bool) (w : List Card) → Each Stands w → Each IsCard (map (cast idle) w)
cast_cards idle [] e = tt
cast_cards idle (c ∷ cs) e = ((e.0.0, part_rests idle c.front), cast_cards idle cs e.1)

cast_apart : (idle : Bool) (id : List ℕ) (w : List Card) → Each (λ d. d.id ≡ id → ⊥) w → Each (λ d. d.id ≡ id → ⊥) (map (cast idle) w)
cast_apart idle id [] e = tt
cast_apart idle id (c ∷ cs) e = (e.0, cast_apart idle id cs e.1)

pub cast_distinct : (idle : Bool) (w : List Card) → AreDistinct w → AreDistinct (map (cast idle) w)
cast_distinct idle [] d = tt
cast_distinct idle (c ∷ cs) d = (cast_apart idle c.id cs d.0, cast_distinct idle cs d.1)
