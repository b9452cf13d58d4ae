use Rattle.std.proofs.Common.{refl, sym, subst}
use Rattle.tag_reader.specs.declared.how.How.TheVariants.{T5}
use Rattle.tag_reader.specs.Kinds.{IsNamed}
use Rattle.tag_tests.proofs.write_tests.write_t5.Goals as goal

pub write-requires-clause-of : goal.write-requires-clause-of
write-requires-clause-of c =
    let tag = c.args.link.now.card.tag in
    let is = c.store-shape.ensures.shape.shape in
    record { kind = refl; named = subst (λ i. IsNamed (T5 i) tag.id) (sym c.id-id.ensures) (refl, is.id, is.bytes) }
