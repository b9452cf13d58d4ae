use Rattle.std.proofs.Common.{◌≡◌, length, arith, ◌∙◌, sym}
use Rattle.std.proofs.lemmas.Grind.{common_steps}
use Rattle.nfc_io.proofs.Pieces.{piece}
use Rattle.nfc_io.proofs.plain.PlainSource.fill.Goals as goal

pub returns-clause-moved : goal.returns-clause-moved
returns-clause-moved c =
    let len : length c.copy_from_slice.new.self ≡ c.min-count.result = grind (arith, common_steps, c.copy_from_slice.ensures.len, c.min-count.ensures) in
    sym c.self.view_is ∙ piece c.self.inside.content.items c.copy_from_slice.new.self _ c.self.inside.at c.min-count.result (rw c.deref.ensures.value at c.copy_from_slice.ensures.after) len
