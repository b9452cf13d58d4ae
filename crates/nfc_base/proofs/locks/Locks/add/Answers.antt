use Rattle.std.proofs.Common.{ℕ, ◌*◌, ◌<◌, List, length, set, true, ◌∙◌, ap, arith}
use Rattle.nfc_base.proofs.Locking.{bits_with}
use Rattle.nfc_base.proofs.locks.Locks.add.Goals as goal

pub returns : goal.returns
returns g c =
    let table : List ℕ = c.self.inside.table in
    let within : c.args.block < 8 * length table = omega (arith, c.requires) in
    bits_with table c.args.block within ∙ ap (λ bits. set bits c.args.block true) c.self.view_is
