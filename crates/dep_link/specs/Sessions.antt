-- Exchanges of NFC-DEP one after another, from ATR_REQ on (this project's own air).
use Rattle.std.specs.Prelude.{ℕ, ◌≤◌, List, []}
use Rattle.std.specs.List.{AllByRecursion}
use Rattle.nfc_base.specs.Sessions.{Attempt, Fits, DeliversAll, unasked, session, asked_in}
use Rattle.dep_link.specs.Sizes.{limit}
use Rattle.nfc_base.specs.Pieces.{most_busy, longest_extension}
use Rattle.dep_link.specs.Target.{TargetState, opened}
use Rattle.dep_link.specs.Initiator.{waiting}
use Rattle.dep_link.specs.Exchange.{nfc_dep, Exchange, IsReady, next_exchange}

-- A target has answered ATR_REQ of an initiator with this LR code, and nothing was swapped yet.
abbrev pub activated_link : TargetState → ℕ → Exchange
activated_link t code = unasked (waiting t.lr) (opened t code []).state

-- How much more time a target asks for is in its range.
pub record IsBusy (t : TargetState) : Type 0 where
  pub count : t.busy ≤ most_busy
  pub times : (1 ≤ t.times) × (t.times ≤ longest_extension)

-- From the activation of a link on both ends are in step.
abbrev pub ActivatedReady : Type 0
ActivatedReady = (t : TargetState) (code : ℕ) → IsBusy t → IsReady 0 (activated_link t code)

-- And the target is handed what was swapped, one payload after another.
abbrev pub ActivatedHands : Type 0
ActivatedHands =
    (t : TargetState) (code : ℕ) (qs : List Attempt) → IsBusy t → AllByRecursion (Fits limit) qs
    → DeliversAll [] (asked_in (nfc_dep 0) next_exchange (activated_link t code) qs)
    (session (nfc_dep 0) next_exchange (activated_link t code) qs)
