use Rattle.std.proofs.Common.{◌≡◌, Some, nat_eq, sym, ◌∙◌, ap, arith}
use Rattle.std.proofs.lemmas.Grind.{common_steps}
use Rattle.t5t_tag.specs.Slots.{id_number}
use Rattle.nfcv_poll.specs.Search.{below, id_at}
use Rattle.nfcv_poll.proofs.Recorded.{with_known, number_itself}
use Rattle.nfcv_poll.proofs.ids.Ids.add.Goals as goal

pub returns-then-number-clause-ok : goal.returns-then-number-clause-ok
returns-then-number-clause-ok c =
    let at : id_at c.args.self.now (below c.args.self.now c.args.id) ≡ Some c.in-Some.known = ap (id_at c.args.self.now) (sym c.below-at.ensures) ∙ sym c.get.ensures.id ∙ c.in-Some.is in
    let same : id_number c.in-Some.known ≡ id_number c.args.id = grind (arith, common_steps) in
    sym (with_known c.args.self.now c.args.id c.in-Some.known at (ap (λ n. nat_eq n (id_number c.args.id)) same ∙ number_itself (id_number c.args.id)))
