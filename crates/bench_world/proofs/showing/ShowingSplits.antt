-- Events that are the first ones of turns are whole turns, and maybe a request whose answer follows: over any air.
use Rattle.std.proofs.Common.{◌≡◌, ◌⊎◌, inl, inr, List, [], ◌∷◌, ◌++◌, Bool, true, false, if◌then◌else◌, refl, sym, ◌∙◌, ap, subst, append_assoc}
use Rattle.std.proofs.lemmas.List.{append-nil}
use Rattle.nfc_base.specs.Signal.{Signal}
use Rattle.nfc_base.specs.Trace.{back_of}
use Rattle.nfc_base.specs.Trace as backs
use Rattle.nfc_base.specs.declared.event.Event.{Event}
use Rattle.nfc_base.specs.declared.event.Event.TheVariants.{Reset, Request, Answer, Clash}
use Rattle.nfc_base.specs.declared.event.Fate.{Fate}
use Rattle.nfc_base.specs.declared.event.Fate.TheVariants.{Pass, Damage, Lose, Break}
use Rattle.air_core.specs.Joint.{Joint, Nothing, Single, Clashing}
use Rattle.air_core.specs.Conversation.{AirModel, joint_events, replay, turn_events, Move, Light, Ask, move_events, trace_of, AreTurns}
use Rattle.air_core.specs.laws.Turning.{replay-append, turns-append}

-- What these events have behind whole turns: nothing, or a request, whose answer is the next event.
abbrev pub IsTail : List Event → List Event → Type 0
IsTail tail rest = (tail ≡ []) ⊎ ((f : Signal) × (tail ≡ Request f Pass ∷ []) × (back_of rest ≡ backs.Nothing → ⊥))

-- Two lists that one list is: the first is within the first part, or takes all of it.
data Parted (E T es rest : List Event) : Type 0 where
  beyond : (fs : List Event) → es ≡ E ++ fs → T ≡ fs ++ rest → Parted E T es rest
  within : (z : Event) (zs : List Event) → E ≡ es ++ z ∷ zs → rest ≡ z ∷ (zs ++ T) → Parted E T es rest

first_same : (x y : Event) (xs ys : List Event) → x ∷ xs ≡ y ∷ ys → (y ≡ x) × (xs ≡ ys)
first_same x y xs ys e = (cc, cc)

parted : (E T es rest : List Event) → E ++ T ≡ es ++ rest → Parted E T es rest
parted [] T es rest e = beyond es refl e
parted (x ∷ E) T [] rest e = within x E refl (sym e)
parted (x ∷ E) T (y ∷ es) rest e =
    let k = first_same x y (E ++ T) (es ++ rest) e in
    on k.0 (parted E T es rest k.1)
  where
    on : y ≡ x → Parted E T es rest → Parted (x ∷ E) T (y ∷ es) rest
    on is (beyond fs p q) = beyond fs (ap (λ z. z ∷ es) is ∙ ap (λ t. x ∷ t) p) q
    on is (within z zs p q) = within z zs (ap (λ t. x ∷ t) p ∙ ap (λ v. v ∷ (es ++ z ∷ zs)) (sym is)) q

module _ {W : Type 0} (m : AirModel W) where
  pub record Splits (w : W) (es rest : List Event) : Type 0 where
    pub turned : List Event
    pub tail : List Event
    pub all : es ≡ turned ++ tail
    pub turns : AreTurns m w turned
    pub behind : AreTurns m (replay m w turned) (tail ++ rest)
    pub kind : IsTail tail rest

  none_turned : (w : W) → AreTurns m w []
  none_turned w = record { moves = []; made = refl }

  -- none of it is turned
  none_splits : (w : W) (tail rest : List Event) → AreTurns m w (tail ++ rest) → IsTail tail rest → Splits w tail rest
  none_splits w tail rest turns kind = record { turned = []; tail = tail; all = refl; turns = none_turned w; behind = turns; kind = kind }

  -- one move before
  moved : (w : W) (k : Move m) → AreTurns m w (move_events m w k)
  moved w k = record { moves = k ∷ []; made = sym (append-nil (move_events m w k)) }

  splits_on : (w : W) (k : Move m) (es rest : List Event) → Splits (replay m w (move_events m w k)) es rest → Splits w (move_events m w k ++ es) rest
  splits_on w k es rest s =
      let E : List Event = move_events m w k in
      record {
        turned = E ++ s.turned;
        tail = s.tail;
        all = ap (λ t. E ++ t) s.all ∙ sym (append_assoc E s.turned s.tail);
        turns = turns-append m w E s.turned (moved w k) s.turns;
        behind = subst (λ v. AreTurns m v (s.tail ++ rest)) (sym (replay-append m w E s.turned)) s.behind;
        kind = s.kind;
      }

  -- Within the events of one move there is a request alone.
  abbrev Short : List Event → Event → List Event → Type 0
  Short es z zs = (es ≡ []) ⊎ ((f : Signal) × (es ≡ Request f Pass ∷ []) × (back_of (z ∷ zs) ≡ backs.Nothing → ⊥))

  one_short : (x : Event) (es : List Event) (z : Event) (zs : List Event) → x ∷ [] ≡ es ++ z ∷ zs → Short es z zs
  one_short x [] z zs e = inl refl
  one_short x (y ∷ []) z zs e = absurd cc
  one_short x (y ∷ u ∷ es) z zs e = absurd cc

  two_short : (f : Signal) (x : Event) → ((ts : List Event) → back_of (x ∷ ts) ≡ backs.Nothing → ⊥) → (es : List Event) (z : Event) (zs : List Event)
      → Request f Pass ∷ x ∷ [] ≡ es ++ z ∷ zs → Short es z zs
  two_short f x some [] z zs e = inl refl
  two_short f x some (y ∷ []) z zs e =
      let k = first_same (Request f Pass) y (x ∷ []) (z ∷ zs) e in
      let l = first_same x z [] zs k.1 in
      inr (f, ap (λ v. v ∷ []) k.0, λ none. some zs (ap (λ v. back_of (v ∷ zs)) (sym l.0) ∙ none))
  two_short f x some (y ∷ u ∷ []) z zs e = absurd cc
  two_short f x some (y ∷ u ∷ v ∷ es) z zs e = absurd cc

  joint_short : (f : Signal) (j : Joint) (y : Fate) (es : List Event) (z : Event) (zs : List Event) → Request f Pass ∷ joint_events j y ≡ es ++ z ∷ zs → Short es z zs
  joint_short f Nothing y es z zs e = one_short (Request f Pass) es z zs e
  joint_short f (Single g) y es z zs e = two_short f (Answer g y) (λ ts k. cc) es z zs e
  joint_short f (Clashing g) y es z zs e = two_short f (Clash g y) (λ ts k. cc) es z zs e

  turn_short : (w : W) (f : Signal) (x y : Fate) (es : List Event) (z : Event) (zs : List Event) → turn_events m w f x y ≡ es ++ z ∷ zs → Short es z zs
  turn_short w f Pass y es z zs e = joint_short f (m.joint w f) y es z zs e
  turn_short w f Damage y es z zs e = one_short (Request f Damage) es z zs e
  turn_short w f Lose y es z zs e = one_short (Request f Lose) es z zs e
  turn_short w f Break y es z zs e = one_short (Request f Break) es z zs e

  none_short : (es : List Event) (z : Event) (zs : List Event) → [] ≡ es ++ z ∷ zs → Short es z zs
  none_short [] z zs e = inl refl
  none_short (x ∷ es) z zs e = absurd cc

  move_short : (w : W) (k : Move m) (es : List Event) (z : Event) (zs : List Event) → move_events m w k ≡ es ++ z ∷ zs → Short es z zs
  move_short w Light es z zs e = one_short Reset es z zs e
  move_short w (Ask f x y) es z zs e = by (m.lit w) e
    where
      by : (v : Bool) → (if v then turn_events m w f x y else []) ≡ es ++ z ∷ zs → Short es z zs
      by true d = turn_short w f x y es z zs d
      by false d = none_short es z zs d

  back_more : (z : Event) (zs ts : List Event) → back_of (z ∷ (zs ++ ts)) ≡ back_of (z ∷ zs)
  back_more Reset zs ts = refl
  back_more (Request f x) zs ts = refl
  back_more (Answer f x) zs ts = refl
  back_more (Clash f x) zs ts = refl

  split_moves : (ks : List (Move m)) (w : W) (es rest : List Event) → trace_of m w ks ≡ es ++ rest → Splits w es rest
  split_moves [] w [] rest e = none_splits w [] rest (record { moves = []; made = sym e }) (inl refl)
  split_moves [] w (x ∷ es) rest e = absurd cc
  split_moves (k ∷ ks) w es rest e = by (λ fs q. split_moves ks (replay m w E) fs rest q) (parted E T es rest e)
    where
      E : List Event
      E = move_events m w k

      T : List Event
      T = trace_of m (replay m w E) ks

      turns : AreTurns m w (es ++ rest)
      turns = record { moves = k ∷ ks; made = sym e }

      by : ((fs : List Event) → T ≡ fs ++ rest → Splits (replay m w E) fs rest) → Parted E T es rest → Splits w es rest
      by later (beyond fs p q) = subst (λ t. Splits w t rest) (sym p) (splits_on w k fs rest (later fs q))
      by later (within z zs p q) = short (move_short w k es z zs p)
        where
          short : Short es z zs → Splits w es rest
          short (inl none) = subst (λ t. Splits w t rest) (sym none) (none_splits w [] rest (subst (λ t. AreTurns m w (t ++ rest)) none turns) (inl refl))
          short (inr (f, is, some)) =
              let kind : IsTail (Request f Pass ∷ []) rest = inr (f, refl, λ h. some (sym (back_more z zs T) ∙ ap back_of (sym q) ∙ h)) in
              subst (λ t. Splits w t rest) (sym is) (none_splits w (Request f Pass ∷ []) rest (subst (λ t. AreTurns m w (t ++ rest)) is turns) kind)

  pub splits : (w : W) (es rest : List Event) → AreTurns m w (es ++ rest) → Splits w es rest
  splits w es rest turns = split_moves turns.moves w es rest (sym turns.made)
