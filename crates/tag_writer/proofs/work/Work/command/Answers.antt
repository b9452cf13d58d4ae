use Rattle.std.proofs.Common.{◌+◌, ◌≤◌, ◌<◌, sym, ◌∙◌, ap, length, subst}
use Rattle.t4t_tag.specs.Spelling.{offset_end}
use Rattle.tag_writer.specs.Commands.{updates_in, commands_at, command_at, IsFit}
use Rattle.tag_writer.specs.Works.{steps_at}
use Rattle.tag_writer.proofs.Commanding.{length_commands, fit_at, steps_commands}
use Rattle.tag_writer.proofs.work.Work.command.Goals as goal

pub step_at-requires : goal.step_at-requires
step_at-requires c =
    let b = c.in-Blocks in
    subst (λ n. c.args.index < n) (ap (λ w. length (commands_at c.args.phase w)) b.is ∙ length_commands b.how (steps_at c.args.phase b.plan)) c.requires.low

pub block_frame-requires : goal.block_frame-requires
block_frame-requires c =
    let b = c.in-Blocks in
    c.step_at.ensures.fit b.how (fit_at c.args.phase b.how b.plan (subst IsFit b.is c.requires.fit))

pub update_at-requires-clause-some : goal.update_at-requires-clause-some
update_at-requires-clause-some c = let f = c.in-File in (subst IsFit f.is c.requires.fit).0

pub update_at-requires-clause-few : goal.update_at-requires-clause-few
update_at-requires-clause-few c = let f = c.in-File in (subst IsFit f.is c.requires.fit).1.0

pub update_at-requires-clause-small : goal.update_at-requires-clause-small
update_at-requires-clause-small c =
    let f = c.in-File in
    subst (λ xs. 2 + length xs ≤ offset_end) (sym c.as_slice.ensures) (subst IsFit f.is c.requires.fit).1.1

pub update_at-requires-clause-low : goal.update_at-requires-clause-low
update_at-requires-clause-low c =
    let f = c.in-File in (
      f.close,
      subst (λ xs. c.args.index < length (updates_in c.args.phase xs f.most f.close)) (sym c.as_slice.ensures)
          (subst (λ w. c.args.index < length (commands_at c.args.phase w)) f.is c.requires.low),
    )

pub returns-in-Blocks : goal.returns-in-Blocks
returns-in-Blocks c =
    let b = c.in-Blocks in
    c.block_frame.ensures ∙ sym (c.step_at.ensures.signal b.how 0) ∙ steps_commands b.how 0 (steps_at c.args.phase b.plan) c.args.index
    ∙ ap (λ w. command_at (commands_at c.args.phase w) c.args.index) (sym b.is)

pub returns-in-File : goal.returns-in-File
returns-in-File c =
    let f = c.in-File in
    c.update_at.ensures f.close (subst (λ xs. c.args.index < length (updates_in c.args.phase xs f.most f.close)) (sym c.as_slice.ensures)
    (subst (λ w. c.args.index < length (commands_at c.args.phase w)) f.is c.requires.low))
    ∙ ap (λ xs. command_at (updates_in c.args.phase xs f.most f.close) c.args.index) c.as_slice.ensures ∙ ap (λ w. command_at (commands_at c.args.phase w) c.args.index) (sym f.is)
