-- Noise as a bench counts it: by tries, each of which is a turn, over all that happened in a command (tries, rounds and
-- missed ends are this project's own).
use Rattle.std.specs.Prelude.{◌≡◌, ◌<◌, ℕ, List, length, filter, Bool, true, false, ◌&&◌}
use Rattle.nfc_base.specs.Signal.{Signal, is_nfc_a}
use Rattle.nfc_base.specs.Trace.{turns}
use Rattle.nfc_base.specs.declared.event.Event.{Event}
use Rattle.air_core.specs.Joint.{same_signal}
use Rattle.nfca_poll.specs.Calls.{Reading, Calls, Other, call_of}
use Rattle.nfca_poll.specs.Crowd.{Each}
use Rattle.nfca_poll.specs.RoundTrace.{rounds, last_of, is_noisy, MissesEnd}
use Rattle.nfca_poll.specs.Rounds.{most_rounds}

-- a request with which NFC-A devices are polled
abbrev pub is_polling : Reading → Bool
is_polling (Calls c) = true
is_polling Other = false

abbrev pub is_call : Signal → Bool
is_call f = is_nfc_a f.tech && is_polling (call_of f)

-- how many turns had noise, of those whose request is one of these
abbrev pub noisy_turns : (Signal → Bool) → List Event → ℕ
noisy_turns is_one es = length (filter (λ t. is_noisy t && is_one t.request) (turns es))

-- how many tries of a request had noise
abbrev pub noisy_tries : Signal → List Event → ℕ
noisy_tries f es = noisy_turns (λ g. same_signal f g) es

-- in every round a call had noise
abbrev pub AreDisturbed : List (List Event) → Type 0
AreDisturbed rs = Each (λ r. 0 < noisy_turns is_call r) rs

-- The last round missed its end; and so in every round a call had noise, the earlier ones being given up.
pub record MissedRound (es : List Event) : Type 0 where
  pub last : MissesEnd (last_of (rounds es))
  pub noisy : AreDisturbed (rounds es)

-- All rounds were given up, and in each a call had noise.
pub record GaveUp (es : List Event) : Type 0 where
  pub all : length (rounds es) ≡ most_rounds
  pub noisy : AreDisturbed (rounds es)
