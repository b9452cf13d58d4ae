use Rattle.std.proofs.Common.{rules, arith, List, [], ◌∷◌, ℕ, slice_index_or, refl}
use Rattle.std.proofs.lemmas.Grind.{common_steps}
use Rattle.t2t_tag.specs.Spelling.{T2Spelling}
use Rattle.t2t_tag.specs.declared.command.T2Command.{T2Command}
use Rattle.t2t_tag.specs.declared.command.T2Command.TheVariants.{Read, Write}
use Rattle.t2t_tag.proofs.Spellings.{exact_by, not_none, spells_write}
use Rattle.t2t_tag.proofs.command.T2Command.read_from.Goals as goal

pub returns-in-48-clause-none : goal.returns-in-48-clause-none
returns-in-48-clause-none c =
    not_none (λ d. T2Spelling d c.args.frame.now) (Read (slice_index_or c.view.result.now 1 0)) (grind (arith, common_steps))

pub returns-in-162-clause-reads : goal.returns-in-162-clause-reads
returns-in-162-clause-reads c =
    spells_write c.args.frame.now c.view.result.now (search rules) (search rules) (search rules) (search rules) (search rules)

pub returns-in-162-clause-exact : goal.returns-in-162-clause-exact
returns-in-162-clause-exact c = exact_by c.args.frame.now _ (returns-in-162-clause-reads c)

pub returns-in-162-clause-none : goal.returns-in-162-clause-none
returns-in-162-clause-none c =
    let bytes : List ℕ = c.view.result.now in
    let written : T2Command = Write (slice_index_or bytes 1 0) (slice_index_or bytes 2 0 ∷ slice_index_or bytes 3 0 ∷ slice_index_or bytes 4 0 ∷ slice_index_or bytes 5 0 ∷ []) in
    not_none (λ d. T2Spelling d c.args.frame.now) written ((returns-in-162-clause-exact c written).0 refl)
