-- How often a reader asks in one resolution.
use Rattle.std.specs.Prelude.{ℕ, ◌+◌, ◌≤◌, List, [], ◌∷◌, slice_index, Bool, ◌==◌, ◌&&◌, if◌then◌else◌}
use Rattle.nfc_base.specs.Signal.{Signal}
use Rattle.nfc_base.specs.declared.event.Event.{Event}
use Rattle.nfc_base.specs.declared.event.Event.TheVariants.{Reset, Request, Answer, Clash}
use Rattle.nfca_poll.specs.Calls.{is_short, is_sdd, is_sel, cmd_level}

-- how many requests pass a test
abbrev pub requests_that : (Signal → Bool) → List Event → ℕ
requests_that p [] = 0
requests_that p (Reset ∷ es) = requests_that p es
requests_that p (Request f x ∷ es) = (if p f then 1 else 0) + requests_that p es
requests_that p (Answer g x ∷ es) = requests_that p es
requests_that p (Clash g x ∷ es) = requests_that p es

abbrev pub is_sens_req : Signal → Bool
is_sens_req f = is_short f 0x26

-- SDD_REQ and SEL_REQ of a level, counted from 1
abbrev pub is_sdd_req : ℕ → Signal → Bool
is_sdd_req k f = is_sdd f && (cmd_level (slice_index f.bytes 0) == k)

abbrev pub is_sel_req : ℕ → Signal → Bool
is_sel_req k f = is_sel f && (cmd_level (slice_index f.bytes 0) == k)

-- At most four SENS_REQ, and for each level at most 33 SDD_REQ and one SEL_REQ.
pub record AsksFew (es : List Event) : Type 0 where
  pub sens : requests_that is_sens_req es ≤ 4
  pub sdd : (k : ℕ) → requests_that (is_sdd_req k) es ≤ 33
  pub sel : (k : ℕ) → requests_that (is_sel_req k) es ≤ 1
