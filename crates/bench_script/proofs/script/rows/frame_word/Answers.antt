use Rattle.std.proofs.Common.{◌≡◌, true, false, arith}
use Rattle.std.proofs.lemmas.Grind.{common_steps}
use Rattle.bench_script.proofs.Frames.{digits_refused, part_refused}
use Rattle.bench_script.proofs.script.rows.frame_word.Goals as goal

pub returns-in_err-bytes-clause-refused : goal.returns-in_err-bytes-clause-refused
returns-in_err-bytes-clause-refused c = λ is.
    digits_refused c.args.tech c.args.word.now c.tail_parts-tail.result.0.now c.tail_parts-tail.result.1 c.tail_parts-tail.ensures
    (c.in_err-bytes.ensures.refused (grind (arith, common_steps)))

pub returns-clause-refused : goal.returns-clause-refused
returns-clause-refused c = λ is.
    part_refused c.args.tech c.args.word.now c.tail_parts-tail.result.0.now c.as_slice.result.now c.tail_parts-tail.result.1 c.tail_parts-tail.ensures
    (grind (arith, common_steps)) (λ fits. (let never : false ≡ true = c.in-Err.ensures.fits.1 fits in cc))
