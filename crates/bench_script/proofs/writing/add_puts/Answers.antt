use Rattle.std.proofs.lemmas.Result.{on_ok_weaker}
use Rattle.std.proofs.Common.{◌++◌, ◌∙◌, map, ap, sym, append_assoc}
use Rattle.std.specs.Prelude.{codes}
use Rattle.bench_script.specs.Canonical.{slot_put_text, row_text}
use Rattle.bench_script.proofs.Canonical.{joined_row}
use Rattle.bench_script.proofs.writing.add_puts.Goals as goal

pub returns : goal.returns
returns c =
    on_ok_weaker c.add_slot_puts.result
    (λ e. e ∙ ap (λ x. x ++ row_text (map slot_put_text c.args.puts.now)) c.in_ok-extend_from_slice.ensures.items
    ∙ append_assoc c.args.line.now.items (codes "puts") (row_text (map slot_put_text c.args.puts.now))
    ∙ ap (λ t. c.args.line.now.items ++ t) (sym (joined_row (codes "puts") (map slot_put_text c.args.puts.now)))) c.add_slot_puts.ensures
