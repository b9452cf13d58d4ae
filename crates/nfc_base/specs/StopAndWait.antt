-- A link that stops and waits, of any frames and numbers: an asking end sends one frame and waits, an answering end
-- says one frame at a time and only when it is asked (ISO/IEC 14443-4; ISO/IEC 18092; NFC Forum Digital Protocol). The
-- air between them, in which each transmission has a fate, is this project's own.
use Rattle.std.specs.Prelude.{◌≡◌, ℕ, ◌+◌, ◌-◌, ◌*◌, ◌≤◌, List, [], ◌∷◌, ◌++◌, Option, Some, None}
use Rattle.nfc_base.specs.declared.event.Fate.{Fate}
use Rattle.nfc_base.specs.declared.event.Fate.TheVariants.{Pass, Damage, Lose, Break}

-- what an answering end does at a frame: it is silent, answers this frame, or delivers this payload to its owner
pub data Does (F : Type 0) : Type 0 where
  Quiet : Does F
  Reply : F → Does F
  Deliver : List ℕ → Does F

-- what an asking end hears of the frame that it sent
pub data Hears (F : Type 0) : Type 0 where
  Whole : F → Hears F
  Damaged : Hears F
  Silent : Hears F

-- how an exchange ends: with this reply, by too many bad receptions, or by a whole frame that isn't allowed
pub data Ending : Type 0 where
  Finished : List ℕ → Ending
  SixBad : Ending
  Protocol : Ending

-- what an asking end does then
pub data Next (F : Type 0) : Type 0 where
  Send : F → Next F
  Ends : Ending → Next F

-- The tables of both ends. The states of an asking end are I, those of an answering end T. A waiting time extension is
-- no row here: it is a frame as any other, and what is left of it stands in the states.
pub record StopAndWait (I T F : Type 0) : Type 0 where
  -- the answering end at a frame, and at its owner's reply to what it delivered; and where the field goes dark
  pub heard : T → F → T
  pub does : T → F → Does F
  pub replied : T → List ℕ → T
  pub answer : T → List ℕ → F
  pub dark : T → T
  -- the asking end at a reception
  pub next : I → Hears F → I
  pub acts : I → Hears F → Next F
  -- the payloads that frames bring to the answering end, by the standard
  pub payloads : List F → List (List ℕ)

-- Where an exchange stands: one of the ends sends this frame next, or the exchange is over, or the field is lost.
pub data Stage (F : Type 0) : Type 0 where
  Requests : F → Stage F
  Answers : F → Stage F
  Over : Ending → Stage F
  Dark : Stage F

abbrev pub stage_of : {F : Type 0} → Next F → Stage F
stage_of (Send f) = Requests f
stage_of (Ends e) = Over e

-- an exchange at some moment
pub record World (I T F : Type 0) : Type 0 where
  pub asking : I
  pub answering : T
  pub stage : Stage F
  -- what the owner of the answering end replied in this exchange, if it was asked
  pub given : Option (List ℕ)
  -- all payloads that were delivered, and all frames that arrived at the answering end
  pub delivered : List (List ℕ)
  pub arrived : List F
  -- the transmissions and the bad receptions of this exchange
  pub sent : ℕ
  pub bads : ℕ

-- a reception is bad that is no whole frame
abbrev pub badness : {F : Type 0} → Hears F → ℕ
badness (Whole f) = 0
badness Damaged = 1
badness Silent = 1

-- one transmission more
abbrev pub counted : {I T F : Type 0} → World I T F → World I T F
counted w = record w { sent = w.sent + 1 }

module _ {I T F : Type 0} (L : StopAndWait I T F) where
  -- the asking end hears that
  abbrev pub hears : World I T F → Hears F → World I T F
  hears w h = record w { asking = L.next w.asking h; stage = stage_of (L.acts w.asking h); bads = w.bads + badness h }

  -- the answering end, now t, does that; its owner replies by the function far
  abbrev pub answering_does : (List ℕ → List ℕ) → World I T F → T → Does F → World I T F
  answering_does far w t Quiet = hears (record w { answering = t }) Silent
  answering_does far w t (Reply a) = record w { answering = t; stage = Answers a }
  answering_does far w t (Deliver p) =
      record w {
        answering = L.replied t (far p);
        stage = Answers (L.answer t (far p));
        given = Some (far p);
        delivered = w.delivered ++ p ∷ [];
      }

  -- a frame arrives at the answering end
  abbrev pub arrives : (List ℕ → List ℕ) → World I T F → F → World I T F
  arrives far w f = answering_does far (record w { arrived = w.arrived ++ f ∷ [] }) (L.heard w.answering f)
      (L.does w.answering f)

  -- the field is lost
  abbrev pub darkened : World I T F → World I T F
  darkened w = record w { stage = Dark; answering = L.dark w.answering }

  -- One transmission with its fate. A request that doesn't arrive is heard as silence; an answer may be heard damaged.
  abbrev pub transmitted : (List ℕ → List ℕ) → World I T F → Stage F → Fate → World I T F
  transmitted far w (Requests f) Pass = arrives far (counted w) f
  transmitted far w (Requests f) Damage = hears (counted w) Silent
  transmitted far w (Requests f) Lose = hears (counted w) Silent
  transmitted far w (Requests f) Break = darkened (counted w)
  transmitted far w (Answers a) Pass = hears (counted w) (Whole a)
  transmitted far w (Answers a) Damage = hears (counted w) Damaged
  transmitted far w (Answers a) Lose = hears (counted w) Silent
  transmitted far w (Answers a) Break = darkened (counted w)
  transmitted far w (Over e) fate = w
  transmitted far w Dark fate = w

  -- an exchange over a list of fates, one for each transmission; those behind its end are left
  abbrev pub run : (List ℕ → List ℕ) → World I T F → List Fate → World I T F
  run far w [] = w
  run far w (fate ∷ fates) = run far (transmitted far w w.stage fate) fates

-- the payloads of an exchange of this payload, by what was given in it: at most that one, at most once
abbrev pub delivered_of : List ℕ → Option (List ℕ) → List (List ℕ)
delivered_of out None = []
delivered_of out (Some r) = out ∷ []

-- what was given, if it was, is the reply to this payload
abbrev pub IsReplyTo : (List ℕ → List ℕ) → List ℕ → Option (List ℕ) → Type 0
IsReplyTo far out None = Unit {0}
IsReplyTo far out (Some r) = r ≡ far out

-- the pieces that come back, at least those of a reply that was given
abbrev pub pieces_back : (List ℕ → ℕ) → Option (List ℕ) → ℕ
pieces_back pieces None = 1
pieces_back pieces (Some r) = pieces r

-- How an exchange ended, if it did: never by a frame that isn't allowed; with a reply only where that was given, and
-- then both ends and all that came before are Ready for the next exchange.
abbrev pub IsEnding : {I T F : Type 0} → (World I T F → Type 0) → World I T F → Stage F → Type 0
IsEnding Ready w (Over (Finished r)) = (w.given ≡ Some r) × Ready w
IsEnding Ready w (Over SixBad) = Unit {0}
IsEnding Ready w (Over Protocol) = ⊥
IsEnding Ready w (Requests f) = Unit {0}
IsEnding Ready w (Answers a) = Unit {0}
IsEnding Ready w Dark = Unit {0}

-- The law of an exchange of one payload, which goes out in so many pieces and whose reply comes back in `back` pieces,
-- at any moment of it: behind the payloads before, this one was delivered at most once; it was exactly where something
-- was given, and that keeps Gave; what was delivered is what the frames that arrived bring; and the transmissions are
-- few.
pub record Once {I T F : Type 0} (L : StopAndWait I T F) (Ready : World I T F → Type 0)
    (Gave : Option (List ℕ) → Type 0) (before : List (List ℕ)) (payload : List ℕ)
    (out : ℕ) (back : List ℕ → ℕ) (w : World I T F) : Type 0 where
  pub once : w.delivered ≡ before ++ delivered_of payload w.given
  pub reply : Gave w.given
  pub brings : L.payloads w.arrived ≡ w.delivered
  pub ending : IsEnding Ready w w.stage
  pub within : w.sent ≤ 2 * (out + pieces_back back w.given - 1) + 4 * w.bads
