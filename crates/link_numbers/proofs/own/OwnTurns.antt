-- A course of requests, each of which was due by what was heard before it, turn by turn; and that it is so just where each request among
-- some events was due.
use Rattle.std.proofs.Common.{◌≡◌, List, [], ◌∷◌, ◌++◌, append_assoc, append-nil, refl, sym, ap, ◌∙◌}
use Rattle.nfc_base.specs.Signal.{Signal}
use Rattle.nfc_base.specs.Trace.{Back, back_of, heard_by}
use Rattle.nfc_base.specs.Trace as backs
use Rattle.nfc_base.specs.declared.event.Event.{Event}
use Rattle.nfc_base.specs.declared.event.Event.TheVariants.{Reset, Request, Answer, Clash}
use Rattle.air_core.specs.Conversation.{Note, note, Next, LightUp, Asks, receptions, EachDue}
use Rattle.link_numbers.specs.Shown.{requests_of}

-- a request, and what was heard of it
pub record Turn : Type 0 where
  pub request : Signal
  pub heard : Note

abbrev pub turns_of : List Event → List Turn
turns_of [] = []
turns_of (Reset ∷ es) = turns_of es
turns_of (Request f x ∷ es) = record { request = f; heard = note (heard_by x (back_of es)) } ∷ turns_of es
turns_of (Answer g x ∷ es) = turns_of es
turns_of (Clash g x ∷ es) = turns_of es

abbrev pub asked_in : List Turn → List Signal
asked_in [] = []
asked_in (t ∷ ts) = t.request ∷ asked_in ts

abbrev pub heard_in : List Turn → List Note
heard_in [] = []
heard_in (t ∷ ts) = t.heard ∷ heard_in ts

-- no field is lit among them
abbrev pub NoReset : List Event → Type 0
NoReset [] = Unit {0}
NoReset (Reset ∷ es) = ⊥
NoReset (Request f x ∷ es) = NoReset es
NoReset (Answer g x ∷ es) = NoReset es
NoReset (Clash g x ∷ es) = NoReset es

pub asked_of : (es : List Event) → requests_of es ≡ asked_in (turns_of es)
asked_of [] = refl
asked_of (Reset ∷ es) = asked_of es
asked_of (Request f x ∷ es) = ap (λ fs. f ∷ fs) (asked_of es)
asked_of (Answer g x ∷ es) = asked_of es
asked_of (Clash g x ∷ es) = asked_of es

pub heard_of : (es : List Event) → NoReset es → receptions es ≡ heard_in (turns_of es)
heard_of [] h = refl
heard_of (Reset ∷ es) h = absurd h
heard_of (Request f x ∷ es) h = ap (λ ns. note (heard_by x (back_of es)) ∷ ns) (heard_of es h)
heard_of (Answer g x ∷ es) h = heard_of es h
heard_of (Clash g x ∷ es) h = heard_of es h

pub requests_then : (es fs : List Event) → requests_of (es ++ fs) ≡ requests_of es ++ requests_of fs
requests_then [] fs = refl
requests_then (Reset ∷ es) fs = requests_then es fs
requests_then (Request f x ∷ es) fs = ap (λ gs. f ∷ gs) (requests_then es fs)
requests_then (Answer g x ∷ es) fs = requests_then es fs
requests_then (Clash g x ∷ es) fs = requests_then es fs

-- where something stands that moves at each note, and what is due there
module _ {C : Type 0} (moves : C → Note → C) (due : C → Next) where
  abbrev pub on : C → List Note → C
  on c [] = c
  on c (n ∷ ns) = on (moves c n) ns

  -- each request was due
  abbrev pub Along : C → List Turn → Type 0
  Along c [] = Unit {0}
  Along c (t ∷ ts) = (due c ≡ Asks t.request) × Along (moves c t.heard) ts

  -- what is due behind some events, by how it stands behind them, whatever comes back of their last request
  abbrev IsDueBy : (List Note → Next) → List Event → (Back → C) → Type 0
  IsDueBy next before at = (es : List Event) → next (receptions (before ++ es)) ≡ due (on (at (back_of es)) (receptions es))

  here : (next : List Note → Next) (before : List Event) (at : Back → C) → IsDueBy next before at → next (receptions before) ≡ due (at backs.Nothing)
  here next before at by = ap (λ es. next (receptions es)) (sym (append-nil before)) ∙ by []

  past : (next : List Note → Next) (before : List Event) (e : Event) (at later : Back → C)
      → ((es : List Event) → on (at (back_of (e ∷ es))) (receptions (e ∷ es)) ≡ on (later (back_of es)) (receptions es)) → IsDueBy next before at
      → IsDueBy next (before ++ e ∷ []) later
  past next before e at later same by es = ap (λ fs. next (receptions fs)) (append_assoc before (e ∷ []) es) ∙ by (e ∷ es) ∙ ap due (same es)

  module _ (dark : (c : C) → due c ≡ LightUp → ⊥) where
    along_from : (next : List Note → Next) (before es : List Event) (at : Back → C) → IsDueBy next before at → EachDue next before es → NoReset es × Along (at (back_of es)) (turns_of es)
    along_from next before [] at by each = (tt, tt)
    along_from next before (Reset ∷ es) at by each = absurd (dark (at backs.Nothing) (sym (here next before at by) ∙ each.0))
    along_from next before (Request f x ∷ es) at by each =
        let later = along_from next (before ++ Request f x ∷ []) es (λ b. moves (at backs.Nothing) (note (heard_by x b)))
        (past next before (Request f x) at (λ b. moves (at backs.Nothing) (note (heard_by x b))) (λ es. refl) by) each.1 in
        (later.0, (sym (here next before at by) ∙ each.0, later.1))
    along_from next before (Answer g x ∷ es) at by each =
        along_from next (before ++ Answer g x ∷ []) es (λ b. at (backs.Single g x)) (past next before (Answer g x) at (λ b. at (backs.Single g x)) (λ es. refl) by) each
    along_from next before (Clash g x ∷ es) at by each =
        along_from next (before ++ Clash g x ∷ []) es (λ b. at (backs.Clashing g x)) (past next before (Clash g x) at (λ b. at (backs.Clashing g x)) (λ es. refl) by) each

    -- each request among some events was due: so turn by turn
    pub along_events : (c : C) (es : List Event) → EachDue (λ ns. due (on c ns)) [] es → NoReset es × Along c (turns_of es)
    along_events c es each = along_from (λ ns. due (on c ns)) [] es (λ b. c) (λ fs. refl) each

  due_from : (next : List Note → Next) (before es : List Event) (at : Back → C) → IsDueBy next before at → NoReset es → Along (at (back_of es)) (turns_of es) → EachDue next before es
  due_from next before [] at by none along = tt
  due_from next before (Reset ∷ es) at by none along = absurd none
  due_from next before (Request f x ∷ es) at by none along = (
    here next before at by ∙ along.0,
    due_from next (before ++ Request f x ∷ []) es (λ b. moves (at backs.Nothing) (note (heard_by x b)))
        (past next before (Request f x) at (λ b. moves (at backs.Nothing) (note (heard_by x b))) (λ es. refl) by) none along.1,
  )
  due_from next before (Answer g x ∷ es) at by none along =
      due_from next (before ++ Answer g x ∷ []) es (λ b. at (backs.Single g x)) (past next before (Answer g x) at (λ b. at (backs.Single g x)) (λ es. refl) by) none along
  due_from next before (Clash g x ∷ es) at by none along =
      due_from next (before ++ Clash g x ∷ []) es (λ b. at (backs.Clashing g x)) (past next before (Clash g x) at (λ b. at (backs.Clashing g x)) (λ es. refl) by) none along

  pub events_due : (c : C) (es : List Event) → NoReset es → Along c (turns_of es) → EachDue (λ ns. due (on c ns)) [] es
  events_due c es none along = due_from (λ ns. due (on c ns)) [] es (λ b. c) (λ fs. refl) none along

  -- one turn more
  pub along_more : (c : C) (ts : List Turn) (t : Turn) → Along c ts → due (on c (heard_in ts)) ≡ Asks t.request → Along c (ts ++ t ∷ [])
  along_more c [] t along e = (e, tt)
  along_more c (s ∷ ts) t along e = (along.0, along_more (moves c s.heard) ts t along.1 e)

  pub along_last : (c : C) (ts : List Turn) (t : Turn) → Along c (ts ++ t ∷ []) → due (on c (heard_in ts)) ≡ Asks t.request
  along_last c [] t along = along.0
  along_last c (s ∷ ts) t along = along_last (moves c s.heard) ts t along.1
