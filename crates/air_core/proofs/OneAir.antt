-- A turn is the same to a reader, to the listeners and to a link that stops and waits.
use Rattle.std.proofs.Common.{◌≡◌, ℕ, ◌+◌, List, [], ◌∷◌, ◌++◌, length, true, if◌then◌else◌, Option, Some, None, refl, sym, ◌∙◌, ap, arith, append-nil}
use Rattle.std.specs.Prelude.{map}
use Rattle.std.specs.List.{cons_option}
use Rattle.nfc_base.specs.declared.frame.Tech.{Tech}
use Rattle.nfc_base.specs.declared.frame.Tech.TheVariants.{A, V, F}
use Rattle.nfc_base.specs.declared.event.Event.{Event}
use Rattle.nfc_base.specs.declared.event.Event.TheVariants.{Request}
use Rattle.nfc_base.specs.declared.event.Fate.{Fate}
use Rattle.nfc_base.specs.declared.event.Fate.TheVariants.{Pass, Damage, Lose, Break}
use Rattle.nfc_base.specs.Signal.{Signal}
use Rattle.nfc_base.specs.Trace.{turns, heard, heard_by}
use Rattle.nfc_base.specs.StopAndWait as exchanges
use Rattle.nfc_base.specs.StopAndWait.{StopAndWait, Does, Quiet, Reply, Deliver, Next, Send, Ends, Silent, Stage, Requests, stage_of, transmitted, counted, hears, answering_does}
use Rattle.nfc_base.specs.LinkTurns.{Turned, arrived, settled, step, answered, turned}
use Rattle.air_core.specs.Joint.{Joint, Nothing, Single, Clashing, joint, same_tech}
use Rattle.air_core.specs.World.{quiet_air}
use Rattle.air_core.specs.Conversation.{AirModel, joint_events, joint_back, replay}
use Rattle.air_core.specs.OneAir.{TellsHeard, listener_of, alone, IsAirTurn, back_by, both_by, stage_by, IsBothTransmitted, TurnsOnAir, SendsTurns}
use Rattle.air_core.proofs.PlainTurns.{one, joint_one}
use Rattle.air_core.proofs.TableTurns.{passed_events, passed_heard}

joint_tells : (f : Signal) (j : Joint) (y : Fate) → map heard (turns (Request f Pass ∷ joint_events j y)) ≡ heard_by Pass (joint_back j y) ∷ []
joint_tells f Nothing y = refl
joint_tells f (Single g) y = refl
joint_tells f (Clashing g) y = refl

pub tells_heard : {W : Type 0} (m : AirModel W) → TellsHeard m
tells_heard m w f Pass y = joint_tells f (m.joint w f) y
tells_heard m w f Damage y = refl
tells_heard m w f Lose y = refl
tells_heard m w f Break y = refl

pub same_itself : (t : Tech) → same_tech t t ≡ true
same_itself A = refl
same_itself V = refl
same_itself F = refl

module _ {I T : Type 0} (L : StopAndWait I T Signal) (reply : List ℕ) where
  -- the end once the request has passed, whatever comes back
  passed_left : (u : Tech) (s t : T) (asked : Option (List ℕ)) (f : Signal) (o : Option Signal) (y : Fate) → s ≡ t
      → (replay (quiet_air (listener_of L reply u)) (alone L reply s) (joint_events (one o) y)).listeners ≡ (answered L t asked f o y).answering ∷ []
  passed_left u s t asked f None y e = ap (λ z. z ∷ []) e
  passed_left u s t asked f (Some g) Pass e = ap (λ z. z ∷ []) e
  passed_left u s t asked f (Some g) Damage e = ap (λ z. z ∷ []) e
  passed_left u s t asked f (Some g) Lose e = ap (λ z. z ∷ []) e
  passed_left u s t asked f (Some g) Break e = ap (λ z. L.dark z ∷ []) e

  air_turn : (t : T) (f : Signal) (x y : Fate) → IsAirTurn L reply t f x y
  air_turn t f Pass y =
      let o : Option Signal = (step L reply t f).answer in
      let s : T = (step L reply t f).state in
      let asked : Option (List ℕ) = (step L reply t f).asked in
      let own : same_tech f.tech f.tech ≡ true = same_itself f.tech in
      let joins : joint (cons_option (if same_tech f.tech f.tech then o else None) []) ≡ one o = ap (λ v. joint (cons_option (if v then o else None) [])) own ∙ joint_one o in
      let steps : (if same_tech f.tech f.tech then s else t) ≡ s = ap (λ v. if v then s else t) own in
      let R : List Event → List T = λ es. (replay (quiet_air (listener_of L reply f.tech)) (alone L reply t) es).listeners in
      record {
        events = passed_events L s asked f o y ∙ sym (ap (λ j. Request f Pass ∷ joint_events j y) joins);
        heard_is = passed_heard L s asked f o y ∙ sym (ap (λ j. heard_by Pass (joint_back j y)) joins);
        left = ap R (passed_events L s asked f o y) ∙ passed_left f.tech (if same_tech f.tech f.tech then s else t) s asked f o y steps;
      }
  air_turn t f Damage y = record { events = refl; heard_is = refl; left = refl }
  air_turn t f Lose y = record { events = refl; heard_is = refl; left = refl }
  air_turn t f Break y = record { events = refl; heard_is = refl; left = refl }

  -- where the asking end goes on, no answer is sent
  rests : (w : exchanges.World I T Signal) (n : Next Signal) (y : Fate) → back_by L reply w (stage_of n) y ≡ w
  rests w (Send f) y = refl
  rests w (Ends e) y = refl

  -- the transmissions come to this turn of w
  record ComesTo (w v : exchanges.World I T Signal) (turn : Turned T) : Type 0 where
    pub answering : v.answering ≡ turn.answering
    pub arrives : v.arrived ≡ w.arrived ++ arrived turn.events
    pub sent : v.sent ≡ w.sent + length turn.events
    pub stage : v.stage ≡ stage_by L reply w.asking turn.heard

  silent_comes : (w v : exchanges.World I T Signal) (turn : Turned T) (n : Next Signal) (y : Fate) → v.stage ≡ stage_of n → ComesTo w v turn → ComesTo w (back_by L reply v v.stage y) turn
  silent_comes w v turn n y e c =
      let same : back_by L reply v v.stage y ≡ v = ap (λ s. back_by L reply v s y) e ∙ rests v n y in
      record {
        answering = ap (λ z. z.answering) same ∙ c.answering;
        arrives = ap (λ z. z.arrived) same ∙ c.arrives;
        sent = ap (λ z. z.sent) same ∙ c.sent;
        stage = ap (λ z. z.stage) same ∙ c.stage;
      }

  -- the world where the request has reached the answering end
  abbrev reached : exchanges.World I T Signal → Signal → exchanges.World I T Signal
  reached w f = record (counted w) { arrived = w.arrived ++ f ∷ [] }

  back_comes : (w : exchanges.World I T Signal) (f a : Signal) (t : T) (asked given : Option (List ℕ)) (delivered : List (List ℕ)) (y : Fate)
      → ComesTo w (transmitted L (λ p. reply) (record (reached w f) { answering = t; stage = exchanges.Answers a; given = given; delivered = delivered }) (exchanges.Answers a) y)
      (answered L t asked f (Some a) y)
  back_comes w f a t asked given delivered Pass = record { answering = refl; arrives = refl; sent = omega arith; stage = refl }
  back_comes w f a t asked given delivered Damage = record { answering = refl; arrives = refl; sent = omega arith; stage = refl }
  back_comes w f a t asked given delivered Lose = record { answering = refl; arrives = refl; sent = omega arith; stage = refl }
  back_comes w f a t asked given delivered Break = record { answering = refl; arrives = refl; sent = omega arith; stage = refl }

  passed_comes : (w : exchanges.World I T Signal) (f : Signal) (t : T) (d : Does Signal) (y : Fate)
      → ComesTo w (back_by L reply (answering_does L (λ p. reply) (reached w f) t d) (answering_does L (λ p. reply) (reached w f) t d).stage y)
      (answered L (settled L reply t d).state (settled L reply t d).asked f (settled L reply t d).answer y)
  passed_comes w f t Quiet y =
      silent_comes w (hears L (record (reached w f) { answering = t }) Silent) (answered L t None f None y) (L.acts w.asking Silent) y refl
      (record { answering = refl; arrives = refl; sent = refl; stage = refl })
  passed_comes w f t (Reply a) y = back_comes w f a t None w.given w.delivered y
  passed_comes w f t (Deliver p) y = back_comes w f (L.answer t reply) (L.replied t reply) (Some p) (Some reply) (w.delivered ++ p ∷ []) y

  comes_to : (w : exchanges.World I T Signal) (f : Signal) (x y : Fate) → ComesTo w (both_by L reply w f x y) (turned L reply w.answering f x y)
  comes_to w f Pass y = passed_comes w f (L.heard w.answering f) (L.does w.answering f) y
  comes_to w f Damage y =
      silent_comes w (hears L (counted w) Silent) (turned L reply w.answering f Damage y) (L.acts w.asking Silent) y refl
      (record { answering = refl; arrives = sym (append-nil w.arrived); sent = refl; stage = refl })
  comes_to w f Lose y =
      silent_comes w (hears L (counted w) Silent) (turned L reply w.answering f Lose y) (L.acts w.asking Silent) y refl
      (record { answering = refl; arrives = sym (append-nil w.arrived); sent = refl; stage = refl })
  comes_to w f Break y = record { answering = refl; arrives = sym (append-nil w.arrived); sent = refl; stage = refl }

  both_transmitted : (w : exchanges.World I T Signal) (f : Signal) (x y : Fate) → IsBothTransmitted L reply w f x y
  both_transmitted w f x y =
      let c : ComesTo w (both_by L reply w f x y) (turned L reply w.answering f x y) = comes_to w f x y in
      record { answering = c.answering; arrives = c.arrives; sent = c.sent; stage = c.stage }

pub turns_on_air : {I T : Type 0} (L : StopAndWait I T Signal) → TurnsOnAir L
turns_on_air L reply t f x y = air_turn L reply t f x y

pub sends_turns : {I T : Type 0} (L : StopAndWait I T Signal) → SendsTurns L
sends_turns L reply w f x y = both_transmitted L reply w f x y
