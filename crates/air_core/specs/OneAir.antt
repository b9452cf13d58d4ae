-- One air: what a turn is to a reader, to the listeners and to a link that stops and waits (this project's own air).
use Rattle.std.specs.Prelude.{◌≡◌, ℕ, ◌+◌, List, [], ◌∷◌, ◌++◌, map, length, true, Option, Some, None}
use Rattle.nfc_base.specs.declared.frame.Tech.{Tech}
use Rattle.nfc_base.specs.declared.event.Fate.{Fate}
use Rattle.nfc_base.specs.Signal.{Signal}
use Rattle.nfc_base.specs.Far.{Untouched}
use Rattle.nfc_base.specs.Trace.{turns, heard}
use Rattle.nfc_base.specs.StopAndWait as exchanges
use Rattle.nfc_base.specs.StopAndWait.{StopAndWait, Hears, Stage, Requests, Answers, Over, Dark, stage_of, transmitted}
use Rattle.nfc_base.specs.LinkTurns.{heard_in, arrived, step, turned}
use Rattle.air_core.specs.World.{Machine, World, quiet_air}
use Rattle.air_core.specs.Conversation.{AirModel, replay, turn_events, turn_heard}

-- What was heard of a turn is what its events tell.
abbrev pub TellsHeard : {W : Type 0} → AirModel W → Type 0
TellsHeard {W} m = (w : W) (f : Signal) (x y : Fate) → map heard (turns (turn_events m w f x y))
    ≡ turn_heard m w f x y ∷ []

module _ {I T : Type 0} (L : StopAndWait I T Signal) (reply : List ℕ) where
  -- an answering end as a listener of this technology, whose owner gives this reply
  abbrev pub listener_of : Tech → Machine T
  listener_of u = record {
    tech = λ t. u;
    handed = λ t f. Untouched;
    answer = λ t f said. (step L reply t f).answer;
    after = λ t f said. (step L reply t f).state;
    woken = λ t. t;
    darkened = L.dark;
  }

  -- a lit field of it alone
  abbrev pub alone : T → World T
  alone t = record { lit = true; listeners = t ∷ [] }

  -- A turn of a link that stops and waits is a turn of the air with its answering end alone: the same events, the same
  -- is heard, and the end is left the same.
  pub record IsAirTurn (t : T) (f : Signal) (x y : Fate) : Type 0 where
    pub events : (turned L reply t f x y).events ≡ turn_events (quiet_air (listener_of f.tech)) (alone t) f x y
    pub heard_is : heard_in (turned L reply t f x y).heard ≡ turn_heard (quiet_air (listener_of f.tech)) (alone t) f x y
    pub left : (replay (quiet_air (listener_of f.tech)) (alone t) (turned L reply t f x y).events).listeners
        ≡ (turned L reply t f x y).answering ∷ []

  -- what the asking end does at what it heard of the turn
  abbrev pub stage_by : I → Option (Hears Signal) → Stage Signal
  stage_by i None = Dark
  stage_by i (Some h) = stage_of (L.acts i h)

  -- the transmission of an answer, where one is sent next
  abbrev pub back_by : exchanges.World I T Signal → Stage Signal → Fate → exchanges.World I T Signal
  back_by w (Requests f) y = w
  back_by w (Answers a) y = transmitted L (λ p. reply) w (Answers a) y
  back_by w (Over e) y = w
  back_by w Dark y = w

  -- a request and its answer, as transmissions one by one
  abbrev pub both_by : exchanges.World I T Signal → Signal → Fate → Fate → exchanges.World I T Signal
  both_by w f x y = back_by (transmitted L (λ p. reply) w (Requests f) x)
      (transmitted L (λ p. reply) w (Requests f) x).stage y

  -- Its transmissions one by one come to the same turn: the same frames arrive, the answering end is left the same, and
  -- the asking end goes on by what was heard.
  pub record IsBothTransmitted (w : exchanges.World I T Signal) (f : Signal) (x y : Fate) : Type 0 where
    pub answering : (both_by w f x y).answering ≡ (turned L reply w.answering f x y).answering
    pub arrives : (both_by w f x y).arrived ≡ w.arrived ++ arrived (turned L reply w.answering f x y).events
    pub sent : (both_by w f x y).sent ≡ w.sent + length (turned L reply w.answering f x y).events
    pub stage : (both_by w f x y).stage ≡ stage_by w.asking (turned L reply w.answering f x y).heard

-- whatever the end, its owner's reply, the request and the fates
abbrev pub TurnsOnAir : {I T : Type 0} → StopAndWait I T Signal → Type 0
TurnsOnAir {I} {T} L = (reply : List ℕ) (t : T) (f : Signal) (x y : Fate) → IsAirTurn L reply t f x y

abbrev pub SendsTurns : {I T : Type 0} → StopAndWait I T Signal → Type 0
SendsTurns {I} {T} L = (reply : List ℕ) (w : exchanges.World I T Signal) (f : Signal) (x y : Fate)
    → IsBothTransmitted L reply w f x y
