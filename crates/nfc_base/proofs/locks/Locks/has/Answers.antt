use Rattle.std.proofs.Common.{ℕ, ◌<◌, ◌*◌, ◌/◌, ◌%◌, ◌^◌, List, length, get_or, nat_eq, false, sym, ◌∙◌, ap, arith}
use Rattle.std.proofs.lemmas.Nat.{and_mask}
use Rattle.nfc_base.proofs.BitsOfBytes.{bit_of}
use Rattle.nfc_base.proofs.locks.Locks.has.Goals as goal

pub returns : goal.returns
returns g c =
    let table : List ℕ = c.self.inside.table in
    let within : c.args.block < 8 * length table = omega (arith, c.requires) in
    ap (λ t. nat_eq t 1) (and_mask (get_or table (c.args.block / 8) 0 / 2 ^ (c.args.block % 8)) 1)
    ∙ sym (bit_of table c.args.block within)
    ∙ ap (λ bits. get_or bits c.args.block false) c.self.view_is
