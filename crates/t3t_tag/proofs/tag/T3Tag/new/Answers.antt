use Rattle.std.proofs.Common.{rules, ◌≡◌, ap, List, Bool, false, replicate}
use Rattle.t3t_tag.specs.Store.{T3State, most_blocks}
use Rattle.t3t_tag.proofs.tag.T3Tag.new.Goals as goal

pub returns-clause-ok : goal.returns-clause-ok
returns-clause-ok c =
    let none : c.none.result ≡ replicate most_blocks false = search rules in
    ap (λ (l : List Bool). the_tag l) none
  where
    the_tag : List Bool → T3State
    the_tag l = record { id = c.args.id; store = c.args.store.items; locked = l }
