use Rattle.std.proofs.Common.{rules, ◌≡◌, sym, subst}
use Rattle.t2t_tag.specs.Store.{IsSameTag}
use Rattle.t2t_tag.specs.Step.{t2_after}
use Rattle.t2t_tag.proofs.Steps.{same_tag, stays_tag}
use Rattle.t2t_tag.proofs.tag.T2Tag.obey.Goals as goal

pub returns-in_err-block-clause-stays : goal.returns-in_err-block-clause-stays
returns-in_err-block-clause-stays c m is = stays_tag m is c.args.request.now

pub returns-clause-stays : goal.returns-clause-stays
returns-clause-stays c m is = stays_tag m is c.args.request.now

pub returns-clause-same : goal.returns-clause-same
returns-clause-same c =
    let step : c.match-branch-2.self ≡ t2_after c.args.self.now c.args.request.now = search rules in
    subst (λ n. IsSameTag c.args.self.now n) (sym step) (same_tag c.args.self.now c.args.request.now)
