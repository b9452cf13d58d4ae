use Rattle.std.proofs.Common.{rules, ◌≡◌, ap, List, Bool, false, None, replicate}
use Rattle.t5t_tag.specs.Store.{T5State, lock_count}
use Rattle.t5t_tag.proofs.tag.T5Tag.new.Goals as goal

pub returns-clause-ok : goal.returns-clause-ok
returns-clause-ok c =
    let none : c.none.result ≡ replicate lock_count false = search rules in
    ap (λ (l : List Bool). the_tag l) none
  where
    the_tag : List Bool → T5State
    the_tag l = record { id = c.args.id; size = c.args.block; store = c.args.store.items; locked = l; quiet = false; round = None }
