-- Numbers of PDUs that the frames of a call show are as good as the true ones, whatever stands behind them: ends may
-- join PDUs as they like (NFC Forum LLCP 1.3); that numbers are read off a trace is this project's own.
use Rattle.std.specs.Prelude.{◌≡◌, ◌<◌, ◌≤◌, ℕ, List, [], ◌∷◌, ◌++◌}
use Rattle.nfc_base.specs.Signal.{Signal}
use Rattle.nfc_base.specs.declared.event.Event.{Event}
use Rattle.nfc_base.specs.declared.event.Event.TheVariants.{Request}
use Rattle.nfc_base.specs.declared.event.Fate.{Fate}
use Rattle.air_core.specs.Conversation.{Note, Next, Over, Asks, EachDue, receptions}
use Rattle.nfc_base.specs.Pieces.{Core}
use Rattle.dep_link.specs.Initiator.{InitState}
use Rattle.snep_core.specs.Talk.{EndState, Ends, GivesUp, Goes, Step}
use Rattle.link_calls.specs.Walk.{walk_due_at}
use Rattle.link_calls.specs.CallDue.{call_due, call_stand}
use Rattle.link_calls.specs.ClosingDue.{closing_due, closing_due_at, closing_stand}
use Rattle.link_numbers.specs.Shown.{own_shown}

-- an initiator that rests between two exchanges: its PNI is one, and its pieces have two bytes or more and fit into a
-- frame
pub record Rested (c : Core) : Type 0 where
  pub number : c.number < 4
  pub some : 2 ≤ c.most
  pub fits : c.most ≤ 251

-- no payload of this end is longer than one may be
abbrev pub IsWithin : EndState → Type 0
IsWithin l = l.far_miu ≤ 2176

-- something holds of the end of a step
abbrev pub AtEnd : (EndState → Type 0) → Step → Type 0
AtEnd P (Goes w) = P w.llc
AtEnd P (Ends jobs l) = P l
AtEnd P (GivesUp g) = P g.llc

-- What is due by where a first course stands is due by the second: of these events each request, and one that stands
-- behind them. Both are over or neither is, and where they are they stand the same.
pub record GoesAlike {C : Type 0} (due : C → Next) (first second : List Note → C) (turned more : List Event)
    : Type 0 where
  pub each : EachDue (λ ns. due (second ns)) [] turned
  pub asks : (f : Signal) (x : Fate) (tail : List Event) → more ≡ Request f x ∷ tail
      → due (first (receptions turned)) ≡ Asks f
      → due (second (receptions turned)) ≡ Asks f
  pub over : due (first (receptions turned)) ≡ Over → due (second (receptions turned)) ≡ Over
  pub over_back : due (second (receptions turned)) ≡ Over → due (first (receptions turned)) ≡ Over
  pub stands : due (first (receptions turned)) ≡ Over → second (receptions turned) ≡ first (receptions turned)

-- So it is of a call whose requests were due by some numbers, and of the numbers that its frames show, with any events
-- behind.
abbrev pub OwnShows : Type 0
OwnShows =
    (ns : List ℕ) (from : Step) (i : InitState) (turned more : List Event) → Rested i.core → AtEnd IsWithin from
    → EachDue (call_due ns from i) [] turned
    → GoesAlike walk_due_at (call_stand ns from i) (call_stand (own_shown i.core.number (turned ++ more)) from i) turned
    more

-- and of a closing
abbrev pub OwnShowsClosing : Type 0
OwnShowsClosing =
    (ns : List ℕ) (from : Step) (i : InitState) (turned more : List Event) → Rested i.core → AtEnd IsWithin from
    → EachDue (closing_due ns from i) [] turned
    → GoesAlike closing_due_at (closing_stand ns from i)
    (closing_stand (own_shown i.core.number (turned ++ more)) from i) turned more
