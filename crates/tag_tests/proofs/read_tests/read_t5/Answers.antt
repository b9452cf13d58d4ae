use Rattle.std.proofs.Common.{refl, ap, subst}
use Rattle.tag_tests.specs.declared.card.Awake.{Awake}
use Rattle.tag_reader.specs.declared.how.How.TheVariants.{T5}
use Rattle.tag_reader.specs.Kinds.{IsNamed}
use Rattle.tag_tests.proofs.read_tests.read_t5.Goals as goal

pub read-outcome-requires-clause-of : goal.read-outcome-requires-clause-of
read-outcome-requires-clause-of c =
    let is = c.store-shape.ensures.shape.shape in
    record {
      kind = refl;
      named = subst (λ i. IsNamed (T5 i) c.new-link.result.card.tag.id) c.requires.named (ap (λ (a : Awake). a.tag.id) c.new-link.ensures, is.id, is.bytes);
    }
