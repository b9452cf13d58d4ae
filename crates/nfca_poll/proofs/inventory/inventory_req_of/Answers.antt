use Rattle.std.proofs.Common.{◌∷◌, List, ℕ, ◌∙◌, ap, arith}
use Rattle.std.proofs.lemmas.Grind.{common_steps}
use Rattle.nfc_base.specs.Signal.{whole_v}
use Rattle.nfca_poll.proofs.quiet.Inventories.{turned_eight}
use Rattle.nfca_poll.proofs.inventory.inventory_req_of.Goals as goal

pub returns : goal.returns
returns c = grind (arith, common_steps) ∙ ap (λ (b : List ℕ). whole_v (0x26 ∷ 0x01 ∷ 0x40 ∷ b)) (turned_eight c.args.id (omega (arith, c.well_formed)))
