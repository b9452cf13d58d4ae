-- Turns of a link that stops and waits, as events of a field: what one turn changes at the answering end and adds to
-- the trace, and what a trace tells of an exchange (NFC Forum Digital Protocol; the air is this project's own).
use Rattle.std.specs.Prelude.{◌≡◌, ℕ, ◌+◌, List, [], ◌∷◌, ◌++◌, if◌then◌else◌, Option, Some, None}
use Rattle.nfc_base.specs.Signal.{Signal}
use Rattle.nfc_base.specs.Trace.{by_fate, back_of, heard_by, is_bad_in_wait}
use Rattle.nfc_base.specs.StopAndWait.{Does, Quiet, Reply, Deliver, Hears, Whole, Damaged, Silent, StopAndWait}
use Rattle.nfc_base.specs.declared.event.Event.{Event}
use Rattle.nfc_base.specs.declared.event.Event.TheVariants.{Reset, Request, Answer, Clash}
use Rattle.nfc_base.specs.declared.event.Fate.{Fate}
use Rattle.nfc_base.specs.declared.event.Fate.TheVariants.{Pass, Damage, Lose, Break}
use Rattle.nfc_base.specs.declared.event.Heard.{Heard}
use Rattle.nfc_base.specs.declared.event.Heard.TheVariants as heards

-- With one device that answers, nothing collides.
abbrev pub heard_of : Hears Signal → Heard
heard_of (Whole f) = heards.Whole f
heard_of Damaged = heards.Damaged
heard_of Silent = heards.Silent

-- what an asking end hears of an answer, by its fate; none where the field was lost
abbrev pub hears_at : Fate → Signal → Option (Hears Signal)
hears_at Pass a = Some (Whole a)
hears_at Damage a = Some Damaged
hears_at Lose a = Some Silent
hears_at Break a = None

-- what was heard of a turn; none where the field was lost
abbrev pub heard_in : Option (Hears Signal) → Option Heard
heard_in None = None
heard_in (Some h) = Some (heard_of h)

abbrev pub with_arrived : Signal → Fate → List Signal → List Signal
with_arrived f x fs = by_fate x (f ∷ fs) fs fs

-- the requests of a trace that arrived
abbrev pub arrived : List Event → List Signal
arrived [] = []
arrived (Reset ∷ es) = arrived es
arrived (Request f x ∷ es) = with_arrived f x (arrived es)
arrived (Answer g x ∷ es) = arrived es
arrived (Clash g x ∷ es) = arrived es

abbrev pub bads_heard : Option Heard → ℕ
bads_heard None = 0
bads_heard (Some h) = if is_bad_in_wait h then 1 else 0

-- the bad receptions of a trace whose turns all stand in waits
abbrev pub bad_receptions : List Event → ℕ
bad_receptions [] = 0
bad_receptions (Reset ∷ es) = bad_receptions es
bad_receptions (Request f x ∷ es) = bads_heard (heard_by x (back_of es)) + bad_receptions es
bad_receptions (Answer g x ∷ es) = bad_receptions es
bad_receptions (Clash g x ∷ es) = bad_receptions es

-- what a turn leaves of the answering end, what is heard of it, the payload that was delivered in it, and its events
pub record Turned (T : Type 0) : Type 0 where
  pub answering : T
  pub heard : Option (Hears Signal)
  pub asked : Option (List ℕ)
  pub events : List Event

-- The far end, of states E, made the step that a turn asked of it, if it asked one.
abbrev pub MovedBy : {E : Type 0} → (E → List ℕ → List ℕ → E → Type 0) → E → Option (List ℕ) → List ℕ → E → Type 0
MovedBy steps far None r later = later ≡ far
MovedBy steps far (Some p) r later = steps far p r later

-- The far end stands where what was given in an exchange of this payload leaves it.
abbrev pub GivenBy : {E : Type 0} → (E → List ℕ → List ℕ → E → Type 0) → E → List ℕ → Option (List ℕ) → E → Type 0
GivenBy steps far payload None later = later ≡ far
GivenBy steps far payload (Some r) later = steps far payload r later

module _ {I T : Type 0} (L : StopAndWait I T Signal) where
  -- an answering end at a frame, with its owner's reply
  pub record Step : Type 0 where
    pub state : T
    pub answer : Option Signal
    pub asked : Option (List ℕ)

  abbrev pub settled : List ℕ → T → Does Signal → Step
  settled r t Quiet = record { state = t; answer = None; asked = None }
  settled r t (Reply a) = record { state = t; answer = Some a; asked = None }
  settled r t (Deliver p) = record { state = L.replied t r; answer = Some (L.answer t r); asked = Some p }

  abbrev pub step : List ℕ → T → Signal → Step
  step r t f = settled r (L.heard t f) (L.does t f)

  -- an answer comes back
  abbrev pub sent_back : T → Option (List ℕ) → Signal → Signal → Fate → Turned T
  sent_back t asked f a y =
      record {
        answering = by_fate y t t (L.dark t);
        heard = hears_at y a;
        asked = asked;
        events = Request f Pass ∷ Answer a y ∷ [];
      }

  abbrev pub answered : T → Option (List ℕ) → Signal → Option Signal → Fate → Turned T
  answered t asked f None y = record { answering = t; heard = Some Silent; asked = asked; events = Request f Pass ∷ [] }
  answered t asked f (Some a) y = sent_back t asked f a y

  -- One turn, with the reply r where one is asked: the request has fate x, and an answer fate y.
  abbrev pub turned : List ℕ → T → Signal → Fate → Fate → Turned T
  turned r t f x y =
      by_fate x (answered (step r t f).state (step r t f).asked f (step r t f).answer y)
      (record { answering = t; heard = Some Silent; asked = None; events = Request f x ∷ [] })
      (record { answering = L.dark t; heard = None; asked = None; events = Request f x ∷ [] })

  -- From an answering end, a trace and a far end to others a turn was made, of which that was heard. Its reply keeps
  -- Fits.
  pub record IsTurn (E : Type 0) (Fits : List ℕ → Type 0) (steps : E → List ℕ → List ℕ → E → Type 0) (t : T)
      (es : List Event) (far : E) (f : Signal)
      (heard : Option Heard) (t' : T) (es' : List Event) (far' : E) : Type 0 where
    pub reply : List ℕ
    pub first : Fate
    pub second : Fate
    pub fits : Fits reply
    pub answering : t' ≡ (turned reply t f first second).answering
    pub heard_is : heard ≡ heard_in (turned reply t f first second).heard
    pub events : es' ≡ es ++ (turned reply t f first second).events
    pub moved : MovedBy steps far (turned reply t f first second).asked reply far'
