-- What no frame breaks of the machine above a front stays true of it whatever the front does.
use Rattle.std.proofs.Common.{ℕ, List, Option}
use Rattle.nfc_base.specs.Signal.{Signal}
use Rattle.nfca_poll.specs.Front.{Front, Off, Idle, Sleep, Ready, Active, front_next}
use Rattle.nfca_poll.specs.Fronted.{Fronted, active_after, after_by, left_at, moved, plain_after}
use Rattle.nfca_poll.specs.Calls.{call_of}
use Rattle.nfca_poll.specs.Levels.{levels}
use Rattle.nfca_poll.specs.Upper.{UpperMachine}
use Rattle.nfca_poll.specs.declared.upper.UpStep.{UpStep}
use Rattle.nfca_poll.specs.declared.upper.UpStep.TheVariants as steps

module _ {U : Type 0} (m : UpperMachine U) (P : U → Type 0) (after : (u : U) (f : Signal) (reply : Option (List ℕ)) → P u → P (m.after u f reply)) (cleared : (u : U) → P u → P (m.cleared u)) where
  left_so : (front next : Front) (u : U) → P u → P (left_at m front next u)
  left_so Off next u h = h
  left_so Idle next u h = h
  left_so Sleep next u h = h
  left_so (Ready k starred) next u h = h
  left_so (Active starred) Off u h = cleared u h
  left_so (Active starred) Idle u h = cleared u h
  left_so (Active starred) Sleep u h = cleared u h
  left_so (Active starred) (Ready k other) u h = cleared u h
  left_so (Active starred) (Active other) u h = h

  pub moved_so : (d : Fronted U) (next : Front) → P d.upper → P (moved m d next).upper
  moved_so d next h = left_so d.front next d.upper h

  plain_so : (d : Fronted U) (f : Signal) → P d.upper → P (plain_after m d f).upper
  plain_so d f h = moved_so d (front_next (levels d.id) d.front (call_of f)) h

  active_so : (s : UpStep) (u : U) (d : Fronted U) (f : Signal) → P u → P d.upper → P (active_after m s u d f).upper
  active_so steps.Foreign u d f h k = plain_so d f k
  active_so steps.Quiet u d f h k = h
  active_so (steps.Reply g) u d f h k = h
  active_so (steps.Sleep g) u d f h k = cleared u h
  active_so (steps.Idle g) u d f h k = cleared u h

  pub after_so : (front : Front) (d : Fronted U) (f : Signal) (reply : Option (List ℕ)) → P d.upper → P (after_by m front d f reply).upper
  after_so Off d f reply h = plain_so d f h
  after_so Idle d f reply h = plain_so d f h
  after_so Sleep d f reply h = plain_so d f h
  after_so (Ready k starred) d f reply h = plain_so d f h
  after_so (Active starred) d f reply h = active_so (m.says d.upper f reply) (m.after d.upper f reply) d f (after d.upper f reply h) h
