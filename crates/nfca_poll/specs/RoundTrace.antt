-- The rounds of a trace, their noise, and missed ends (rounds and four presence requests are this project's own).
use Rattle.std.specs.Prelude.{ℕ, ◌+◌, ◌-◌, ◌<◌, ◌≤◌, ◌≡◌, List, [], ◌∷◌, length, drop, filter, Bool, nat_lt}
use Rattle.nfc_base.specs.Trace.{Back, Turn, turns, noise, other_than_pass}
use Rattle.nfc_base.specs.Trace as backs
use Rattle.nfc_base.specs.declared.event.Event.{Event}
use Rattle.nfc_base.specs.declared.event.Event.TheVariants.{Reset, Request, Answer, Clash}
use Rattle.nfca_poll.specs.Counting.{is_sens_req}
use Rattle.nfca_poll.specs.Crowd.{Each}
use Rattle.nfca_poll.specs.Rounds.{most_rounds}

-- the events up to the next reset
abbrev pub up_to_reset : List Event → List Event
up_to_reset [] = []
up_to_reset (Reset ∷ es) = []
up_to_reset (Request f x ∷ es) = Request f x ∷ up_to_reset es
up_to_reset (Answer g x ∷ es) = Answer g x ∷ up_to_reset es
up_to_reset (Clash g x ∷ es) = Clash g x ∷ up_to_reset es

-- the rounds of some events: what stands between one reset and the next, or the end
abbrev pub rounds : List Event → List (List Event)
rounds [] = []
rounds (Reset ∷ es) = up_to_reset es ∷ rounds es
rounds (Request f x ∷ es) = rounds es
rounds (Answer g x ∷ es) = rounds es
rounds (Clash g x ∷ es) = rounds es

abbrev pub last_of : List (List Event) → List Event
last_of [] = []
last_of (r ∷ []) = r
last_of (r ∷ s ∷ rs) = last_of (s ∷ rs)

-- how many transmissions of what came back have another fate than Pass
abbrev pub back_noise : Back → ℕ
back_noise backs.Nothing = 0
back_noise (backs.Single g x) = other_than_pass x
back_noise (backs.Clashing g x) = other_than_pass x

-- a turn whose request or answer has another fate than Pass
abbrev pub is_noisy : Turn → Bool
is_noisy t = nat_lt 0 (other_than_pass t.fate + back_noise t.back)

abbrev pub last_four : {X : Type 0} → List X → List X
last_four xs = drop (length xs - 4) xs

-- the turns of the last four SENS_REQ
abbrev pub last_calls : List Event → List Turn
last_calls es = last_four (filter (λ t. is_sens_req t.request) (turns es))

-- At least two of the last four SENS_REQ of a round, or their answers, met noise: so it may have ended before its time.
abbrev pub MissesEnd : List Event → Type 0
MissesEnd round = 2 ≤ length (filter is_noisy (last_calls round))

-- every round had noise
abbrev pub AreNoisy : List (List Event) → Type 0
AreNoisy rs = Each (λ r. 0 < noise r) rs

-- The last round of some events missed its end; and so every round had noise, the earlier ones being given up.
pub record Misses (es : List Event) : Type 0 where
  pub last : MissesEnd (last_of (rounds es))
  pub noisy : AreNoisy (rounds es)

-- All rounds were given up, and each had noise.
pub record GivesUp (es : List Event) : Type 0 where
  pub all : length (rounds es) ≡ most_rounds
  pub noisy : AreNoisy (rounds es)
