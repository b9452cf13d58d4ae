-- Which identifiers were selected in a round of polling, by its turns, and why a round is given up (NFC Forum Digital
-- Protocol; ISO/IEC 14443-3; rounds and their number are this project's own).
use Rattle.std.specs.Prelude.{◌≡◌, ◌⊎◌, ℕ, ◌-◌, List, [], ◌∷◌, ◌++◌, take, length, slice_index, Bool, true, false, not}
use Rattle.std.specs.Prelude.{◌&&◌, Option}
use Rattle.std.specs.List.{list_any}
use Rattle.nfc_base.specs.Trace.{Turn, turns, heard, by_heard}
use Rattle.nfc_base.specs.declared.event.Event.{Event}
use Rattle.nfc_base.specs.declared.event.Heard.{Heard}
use Rattle.nfca_poll.specs.Levels.{identifier}
use Rattle.nfca_poll.specs.Calls.{Reading, Calls, Other, Sens, All, Slp, Sdd, Sel, call_of}
use Rattle.nfca_poll.specs.Poll.{has_bit, is_one_byte}
use Rattle.nfca_poll.specs.Crowd.{Each}
use Rattle.nfca_poll.specs.Rounds.{most_rounds, is_same}
use Rattle.nfca_poll.specs.RoundTrace.{rounds}
use Rattle.nfca_poll.specs.ByHeard.{has_missed}

-- the levels that were selected last, and the identifiers that were whole
pub record Named : Type 0 where
  pub levels : List (List ℕ)
  pub ids : List (List ℕ)

-- SEL_RES says that no other level follows.
abbrev pub is_last : Option Heard → Bool
is_last o = by_heard o (λ g. is_one_byte g && not (has_bit (slice_index g.bytes 0) 0x04)) (λ g. false) false false false

abbrev pub with_levels : Named → List (List ℕ) → Bool → Named
with_levels n ls true = record { levels = ls; ids = n.ids ++ identifier ls ∷ [] }
with_levels n ls false = record { levels = ls; ids = n.ids }

-- a level stands behind those before it, and where it is the last an identifier is whole
abbrev pub named_by : Named → Reading → Option Heard → Named
named_by n (Calls Sens) o = n
named_by n (Calls All) o = n
named_by n (Calls Slp) o = n
named_by n (Calls (Sdd k known)) o = n
named_by n (Calls (Sel k l)) o = with_levels n (take (k - 1) n.levels ++ l ∷ []) (is_last o)
named_by n Other o = n

abbrev pub named_after : Named → List Turn → Named
named_after n [] = n
named_after n (t ∷ ts) = named_after (named_by n (call_of t.request) (heard t)) ts

-- the identifiers that were selected in these turns, in order
abbrev pub selected_ids : List Turn → List (List ℕ)
selected_ids ts = (named_after (record { levels = []; ids = [] }) ts).ids

-- The identifier that was selected last had been selected before.
pub record CameAgain (ts : List Turn) : Type 0 where
  pub before : List (List ℕ)
  pub id : List ℕ
  pub all : selected_ids ts ≡ before ++ id ∷ []
  pub again : list_any (λ i. is_same i id) before ≡ true

-- a round is given up: a reception was bad once presence was shown, or an identifier came again
abbrev pub IsGivenUp : List Event → Type 0
IsGivenUp round = (has_missed (turns round) ≡ true) ⊎ CameAgain (turns round)

-- Each of as many rounds as a call makes was given up.
pub record AllGivenUp (es : List Event) : Type 0 where
  pub all : length (rounds es) ≡ most_rounds
  pub each : Each IsGivenUp (rounds es)
