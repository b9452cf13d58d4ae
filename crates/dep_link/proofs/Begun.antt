-- Where a link begins both ends are in step.
use Rattle.std.proofs.Common.{◌<◌, ◌≤◌, ◌==◌, ℕ, ◌-◌, List, Bool, true, false, if◌then◌else◌, refl, arith}
use Rattle.dep_link.specs.Sizes.{piece_size}
use Rattle.dep_link.specs.Target.{TargetState, opened}
use Rattle.dep_link.specs.Initiator.{waiting}
use Rattle.dep_link.specs.Exchange.{InStep}
use Rattle.dep_link.specs.Sessions.{IsBusy}

size_bounds : (code : ℕ) → (0 < piece_size code) × (piece_size code ≤ 251)
size_bounds code = go (code == 0) (code == 1) (code == 2)
  where
    go : (a b c : Bool) → (0 < (if a then 64 else (if b then 128 else (if c then 192 else 254))) - 3) × ((if a then 64 else (if b then 128 else (if c then 192 else 254))) - 3 ≤ 251)
    go true b c = (omega arith, omega arith)
    go false true c = (omega arith, omega arith)
    go false false true = (omega arith, omega arith)
    go false false false = (omega arith, omega arith)

-- an initiator for a target's LR code, and that target once it took ATR_REQ
pub in_step_first : (t : TargetState) (code : ℕ) (general : List ℕ) → IsBusy t → InStep (waiting t.lr) (opened t code general).state
in_step_first t code general b = record {
  heeds = refl;
  number = omega arith;
  expects = refl;
  no_chain = refl;
  no_left = refl;
  all_sent = refl;
  asks = size_bounds t.lr;
  answers = size_bounds code;
  busy = b.count;
  times = b.times;
}
