use Rattle.std.proofs.Common.{sym, ◌∙◌, ap, length, subst}
use Rattle.tag_writer.specs.Commands.{updates_in, commands_at, IsFit}
use Rattle.tag_writer.specs.Works.{steps_at}
use Rattle.tag_writer.proofs.Commanding.{length_commands}
use Rattle.tag_writer.proofs.work.Work.count.Goals as goal

pub update_count-requires : goal.update_count-requires
update_count-requires c = let f = c.in-File in (subst IsFit f.is c.requires).0

pub returns-in-Blocks : goal.returns-in-Blocks
returns-in-Blocks c =
    let b = c.in-Blocks in
    c.step_count.ensures ∙ sym (length_commands b.how (steps_at c.args.phase b.plan)) ∙ ap (λ w. length (commands_at c.args.phase w)) (sym b.is)

pub returns-in-File : goal.returns-in-File
returns-in-File c =
    let f = c.in-File in
    c.update_count.ensures ∙ ap (λ xs. length (updates_in c.args.phase xs f.most f.close)) c.as_slice.ensures ∙ ap (λ w. length (commands_at c.args.phase w)) (sym f.is)
