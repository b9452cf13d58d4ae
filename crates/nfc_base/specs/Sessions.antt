-- Exchanges one after another on one link that stops and waits, each over an air of its own (this project's own air),
-- and the law of them.
use Rattle.std.specs.Prelude.{◌≡◌, ◌⊎◌, ℕ, ◌≤◌, Bool, false, if◌then◌else◌, List, [], ◌∷◌, ◌++◌, length, Option, Some}
use Rattle.std.specs.Prelude.{None}
use Rattle.std.specs.List.{AllByRecursion}
use Rattle.std.specs.Option.{is_some, option_to_list}
use Rattle.nfc_base.specs.StopAndWait.{Finished, SixBad, Protocol, Stage, Requests, Answers, Over, Dark, StopAndWait}
use Rattle.nfc_base.specs.StopAndWait.{World, run}
use Rattle.nfc_base.specs.declared.event.Fate.{Fate}

-- an exchange begins with this frame, behind those in which these payloads were delivered and these frames arrived
abbrev pub opening : {I T F : Type 0} → I → T → List (List ℕ) → List F → F → World I T F
opening i t delivered arrived f =
    record {
      asking = i;
      answering = t;
      stage = Requests f;
      given = None;
      delivered = delivered;
      arrived = arrived;
      sent = 0;
      bads = 0;
    }

-- a link on which nothing was asked yet
abbrev pub unasked : {I T F : Type 0} → I → T → World I T F
unasked i t =
    record {
      asking = i;
      answering = t;
      stage = Over (Finished []);
      given = None;
      delivered = [];
      arrived = [];
      sent = 0;
      bads = 0;
    }

-- a payload, how the owner of the answering end replies then, and what becomes of the transmissions
pub record Attempt : Type 0 where
  pub payload : List ℕ
  pub far : List ℕ → List ℕ
  pub fates : List Fate

-- The payload and every reply have at most so many bytes.
pub record Fits (limit : ℕ) (q : Attempt) : Type 0 where
  pub payload : length q.payload ≤ limit
  pub replies : (xs : List ℕ) → length (q.far xs) ≤ limit

-- the reply with which an exchange ended, if it did with one
abbrev pub ended_with : {F : Type 0} → Stage F → Option (List ℕ)
ended_with (Requests f) = None
ended_with (Answers f) = None
ended_with (Over (Finished r)) = Some r
ended_with (Over SixBad) = None
ended_with (Over Protocol) = None
ended_with Dark = None

abbrev pub is_replied : {F : Type 0} → Stage F → Bool
is_replied s = is_some (ended_with s)

-- All that was asked was delivered, each payload once and in order; or all but the last, which wasn't replied to.
abbrev pub DeliversAll : {I T F : Type 0} → List (List ℕ) → List (List ℕ) → World I T F → Type 0
DeliversAll before asked w =
    (w.delivered ≡ before ++ asked)
    ⊎ ((last : List ℕ) × (w.delivered ++ last ∷ [] ≡ before ++ asked) × (is_replied w.stage ≡ false))

-- The exchange of a payload begins, from where the one before it ended, by the function begins.
module _ {I T F : Type 0} (L : StopAndWait I T F) (begins : World I T F → List ℕ → World I T F) where
  abbrev pub exchanged : World I T F → Attempt → World I T F
  exchanged w q = run L q.far (begins w q.payload) q.fates

  -- The exchanges of some payloads; the first one that isn't replied to is the last.
  abbrev pub session : World I T F → List Attempt → World I T F
  session w [] = w
  session w (q ∷ qs) = if is_replied (exchanged w q).stage then session (exchanged w q) qs else exchanged w q

  -- the payloads that are asked in them
  abbrev pub asked_in : World I T F → List Attempt → List (List ℕ)
  asked_in w [] = []
  asked_in w (q ∷ qs) = q.payload ∷ (if is_replied (exchanged w q).stage then asked_in (exchanged w q) qs else [])

  -- the replies with which they ended, and what is replied to the payloads of those that ended with one
  abbrev pub replies_in : World I T F → List Attempt → List (List ℕ)
  replies_in w [] = []
  replies_in w (q ∷ qs) =
      option_to_list (ended_with (exchanged w q).stage)
      ++ (if is_replied (exchanged w q).stage then replies_in (exchanged w q) qs else [])

  abbrev pub replies_due : World I T F → List Attempt → List (List ℕ)
  replies_due w [] = []
  replies_due w (q ∷ qs) =
      if is_replied (exchanged w q).stage then q.far q.payload ∷ replies_due (exchanged w q) qs else []

  -- what holds of each session of payloads and replies of at most so many bytes, from where an exchange may begin
  abbrev pub EachSession : (Ready : World I T F → Type 0) (limit : ℕ) (P : World I T F → List Attempt → Type 0) → Type 0
  EachSession Ready limit P = (w : World I T F) (qs : List Attempt) → Ready w → AllByRecursion (Fits limit) qs → P w qs

  -- In exchanges one after another what was asked is delivered.
  abbrev pub SessionDelivers : (Ready : World I T F → Type 0) (limit : ℕ) → Type 0
  SessionDelivers Ready limit = EachSession Ready limit (λ w qs. DeliversAll w.delivered (asked_in w qs) (session w qs))

  -- And that is what the frames that arrived bring.
  abbrev pub SessionBrings : (Ready : World I T F → Type 0) (limit : ℕ) → Type 0
  SessionBrings Ready limit =
      EachSession Ready limit (λ w qs. L.payloads (session w qs).arrived ≡ (session w qs).delivered)

  -- The replies are those of the owner to these payloads, in order.
  abbrev pub SessionReplies : (Ready : World I T F → Type 0) (limit : ℕ) → Type 0
  SessionReplies Ready limit = EachSession Ready limit (λ w qs. replies_in w qs ≡ replies_due w qs)
