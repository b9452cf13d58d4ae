-- Where the same is due and the same turns are made by other numbers, a course by these numbers begins with the same events: over any air.
use Rattle.std.proofs.Common.{◌≡◌, inl, inr, List, [], ◌∷◌, ◌++◌, refl, sym, ◌∙◌, ap, subst, append_assoc}
use Rattle.std.proofs.lemmas.List.{append-nil}
use Rattle.nfc_base.specs.Signal.{Signal}
use Rattle.nfc_base.specs.Trace.{back_of}
use Rattle.nfc_base.specs.Trace as backs
use Rattle.nfc_base.specs.declared.event.Event.{Event}
use Rattle.nfc_base.specs.declared.event.Event.TheVariants.{Reset, Request, Answer, Clash}
use Rattle.nfc_base.specs.declared.event.Fate.{Fate}
use Rattle.nfc_base.specs.declared.event.Fate.TheVariants.{Pass}
use Rattle.air_core.specs.Conversation.{AirModel, Note, Next, Over, Asks, receptions, replay, EachDue, first_fate, later_fates, queue_after, FatesFrom, AreTurns}
use Rattle.air_core.proofs.Following.{no_demand, nothing_more, same_asked, light_is_no_request, trace_first}
use Rattle.bench_world.specs.Showing.{BeginsSame}
use Rattle.bench_world.proofs.showing.ShowingSplits.{IsTail, Splits, splits}
use Rattle.bench_world.proofs.showing.ShowingTurns.{GoesOn, IsDueFront, goes_on}

-- What is due of events splits at each place, and so do fates.
pub due_front : (next : List Note → Next) (before a b : List Event) → EachDue next before (a ++ b) → EachDue next before a
due_front next before [] b d = tt
due_front next before (Reset ∷ a) b d = (d.0, due_front next (before ++ Reset ∷ []) a b d.1)
due_front next before (Request f x ∷ a) b d = (d.0, due_front next (before ++ Request f x ∷ []) a b d.1)
due_front next before (Answer g x ∷ a) b d = due_front next (before ++ Answer g x ∷ []) a b d
due_front next before (Clash g x ∷ a) b d = due_front next (before ++ Clash g x ∷ []) a b d

pub due_behind : (next : List Note → Next) (before a b : List Event) → EachDue next before (a ++ b) → EachDue next (before ++ a) b
due_behind next before [] b d = subst (λ t. EachDue next t b) (sym (append-nil before)) d
due_behind next before (Reset ∷ a) b d = subst (λ t. EachDue next t b) (append_assoc before (Reset ∷ []) a) (due_behind next (before ++ Reset ∷ []) a b d.1)
due_behind next before (Request f x ∷ a) b d = subst (λ t. EachDue next t b) (append_assoc before (Request f x ∷ []) a) (due_behind next (before ++ Request f x ∷ []) a b d.1)
due_behind next before (Answer g x ∷ a) b d = subst (λ t. EachDue next t b) (append_assoc before (Answer g x ∷ []) a) (due_behind next (before ++ Answer g x ∷ []) a b d)
due_behind next before (Clash g x ∷ a) b d = subst (λ t. EachDue next t b) (append_assoc before (Clash g x ∷ []) a) (due_behind next (before ++ Clash g x ∷ []) a b d)

pub fates_front : (q : List Fate) (a b : List Event) → FatesFrom q (a ++ b) → FatesFrom q a
fates_front q [] b d = tt
fates_front q (Reset ∷ a) b d = fates_front q a b d
fates_front q (Request f x ∷ a) b d = (d.0, fates_front (later_fates q) a b d.1)
fates_front q (Answer g x ∷ a) b d = (d.0, fates_front (later_fates q) a b d.1)
fates_front q (Clash g x ∷ a) b d = (d.0, fates_front (later_fates q) a b d.1)

pub fates_behind : (q : List Fate) (a b : List Event) → FatesFrom q (a ++ b) → FatesFrom (queue_after q a) b
fates_behind q [] b d = d
fates_behind q (Reset ∷ a) b d = fates_behind q a b d
fates_behind q (Request f x ∷ a) b d = fates_behind (later_fates q) a b d.1
fates_behind q (Answer g x ∷ a) b d = fates_behind (later_fates q) a b d.1
fates_behind q (Clash g x ∷ a) b d = fates_behind (later_fates q) a b d.1

-- By other numbers the same turns are made, behind which there are these events: each of their requests is due, and a request that stands
-- behind them; both are over or neither is.
pub record GoesSame {W : Type 0} (m : AirModel W) (v : W) (first second : List Note → Next) (turned more : List Event) : Type 0 where
  pub turns : AreTurns m v turned
  pub each : EachDue second [] turned
  pub asks : (f : Signal) (x : Fate) (tail : List Event) → more ≡ Request f x ∷ tail → first (receptions turned) ≡ Asks f → second (receptions turned) ≡ Asks f
  pub over : first (receptions turned) ≡ Over → second (receptions turned) ≡ Over
  pub over_back : second (receptions turned) ≡ Over → first (receptions turned) ≡ Over

module _ {W : Type 0} (m : AirModel W) (first second : List Note → Next) (w v : W) (q : List Fate) where
  -- a request that is due behind turns is the next event of a course
  asked_next : (f : Signal) (fs turned : List Event) → second (receptions turned) ≡ Asks f → first_fate (queue_after q turned) ≡ Pass → second (receptions fs) ≡ Over
      → GoesOn m second q fs turned
      → (other : List Event) × (fs ≡ (turned ++ Request f Pass ∷ []) ++ other)
  asked_next f fs turned asked pass over g = by g.other g.is g.fresh g.due g.fates
    where
      by : (other : List Event) → fs ≡ turned ++ other → back_of other ≡ backs.Nothing → EachDue second turned other → FatesFrom (queue_after q turned) other
          → (other : List Event) × (fs ≡ (turned ++ Request f Pass ∷ []) ++ other)
      by [] is fresh due fates =
          absurd (no_demand (Asks f) (sym asked ∙ ap (λ t. second (receptions t)) (sym (is ∙ append-nil turned)) ∙ over) tt)
      by (Reset ∷ es) is fresh due fates = absurd (light_is_no_request f (sym due.0 ∙ asked))
      by (Request h x ∷ es) is fresh due fates =
          let same : h ≡ f = same_asked h f (sym due.0 ∙ asked) in
          let fate : x ≡ Pass = fates.0 ∙ pass in
          (es, is ∙ ap (λ k. turned ++ Request k x ∷ es) same ∙ ap (λ y. turned ++ Request f y ∷ es) fate ∙ sym (append_assoc turned (Request f Pass ∷ []) es))
      by (Answer h x ∷ es) is fresh due fates = absurd cc
      by (Clash h x ∷ es) is fresh due fates = absurd cc

  module _ (es rest fs : List Event) (turns : AreTurns m w (es ++ rest)) (each : EachDue first [] (es ++ rest)) (fates : FatesFrom q (es ++ rest)) (done : first (receptions (es ++ rest)) ≡ Over)
      (turns_by : AreTurns m v fs) (each_by : EachDue second [] fs) (fates_by : FatesFrom q fs) (done_by : second (receptions fs) ≡ Over) where
    course : IsDueFront second [] q fs
    course = record { due = each_by; fates = fates_by }

    -- these are whole turns
    begins_whole : back_of rest ≡ backs.Nothing → (more : List Event) → GoesSame m v first second es more → BeginsSame es rest fs
    begins_whole fresh more same =
        let front : IsDueFront second [] q es = record { due = same.each; fates = fates_front q es rest fates } in
        let g : GoesOn m second q fs es = goes_on m second v q es fs same.turns turns_by front course done_by in
        record {
          other = g.other;
          begins = g.is;
          ends = λ none.
              nothing_more m second es g.other
              (same.over (ap (λ t. first (receptions t)) (sym (append-nil es) ∙ ap (λ t. es ++ t) (sym none)) ∙ done)) g.fresh g.due;
          ended = λ none fresh.
              nothing_more m first es rest
              (same.over_back (ap (λ t. second (receptions t)) (sym (append-nil es) ∙ ap (λ t. es ++ t) (sym none) ∙ sym g.is) ∙ done_by)) fresh (due_behind first [] es rest each);
        }

    -- a request stands behind them
    begins_midst : (turned : List Event) (f : Signal) → es ≡ turned ++ Request f Pass ∷ [] → (back_of rest ≡ backs.Nothing → ⊥) → (more : List Event)
        → GoesSame m v first second turned (Request f Pass ∷ more) → BeginsSame es rest fs
    begins_midst turned f is some more same =
        let all : es ++ rest ≡ turned ++ Request f Pass ∷ rest = ap (λ t. t ++ rest) is ∙ append_assoc turned (Request f Pass ∷ []) rest in
        let due : EachDue first turned (Request f Pass ∷ rest) = due_behind first [] turned (Request f Pass ∷ rest) (subst (EachDue first []) all each) in
        let fated : FatesFrom q (turned ++ Request f Pass ∷ rest) = subst (FatesFrom q) all fates in
        let front : IsDueFront second [] q turned = record { due = same.each; fates = fates_front q turned (Request f Pass ∷ rest) fated } in
        let g : GoesOn m second q fs turned = goes_on m second v q turned fs same.turns turns_by front course done_by in
        let next = asked_next f fs turned (same.asks f Pass more refl due.0) (sym (fates_behind q turned (Request f Pass ∷ rest) fated).0) done_by g in
        record {
          other = next.0;
          begins = next.1 ∙ ap (λ t. t ++ next.0) (sym is);
          ends = λ none. absurd (some (ap back_of none));
          ended = λ none fresh. absurd (some fresh);
        }

    -- So a course by these numbers begins with the same events, if whatever whole turns they begin with go the same way.
    pub begins_same : (more : List Event) → ((turned tail : List Event) → es ≡ turned ++ tail → AreTurns m w turned → EachDue first [] turned
        → GoesSame m v first second turned (tail ++ more))
        → BeginsSame es rest fs
    begins_same more same = by (splits m w es rest turns)
      where
        by : Splits m w es rest → BeginsSame es rest fs
        by s = kind s.kind
          where
            due : EachDue first [] s.turned
            due = due_front first [] s.turned s.tail (subst (EachDue first []) s.all (due_front first [] es rest each))

            goes : GoesSame m v first second s.turned (s.tail ++ more)
            goes = same s.turned s.tail s.all s.turns due

            kind : IsTail s.tail rest → BeginsSame es rest fs
            kind (inl none) =
                let all : s.turned ≡ es = sym (append-nil s.turned) ∙ ap (λ t. s.turned ++ t) (sym none) ∙ sym s.all in
                let behind : AreTurns m (replay m w s.turned) rest = subst (λ t. AreTurns m (replay m w s.turned) (t ++ rest)) none s.behind in
                begins_whole (ap back_of behind.made ∙ trace_first m (replay m w s.turned) behind.moves) more
                (subst (λ t. GoesSame m v first second t more) all (subst (λ t. GoesSame m v first second s.turned (t ++ more)) none goes))
            kind (inr (f, is, some)) =
                begins_midst s.turned f (s.all ∙ ap (λ t. s.turned ++ t) is) some more (subst (λ t. GoesSame m v first second s.turned (t ++ more)) is goes)
