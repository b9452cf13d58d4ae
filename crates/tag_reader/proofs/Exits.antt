-- The exit of a `?` by another fault: what is told there.
use Rattle.std.proofs.Common.{◌≡◌, ap}
use Rattle.std.specs.Prelude.{Result, Ok, Err, IsErrAnd}

pub exit_is : {A E : Type 0} (r : Result A E) (e : E) → IsErrAnd r (λ y. y ≡ e) → r ≡ Err e
exit_is (Ok x) e is = absurd is
exit_is (Err y) e is = ap Err is
