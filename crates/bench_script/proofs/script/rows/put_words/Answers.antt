use Rattle.std.proofs.Common.{◌≡◌, ◌<◌, inl, inr, List, length, false, arith}
use Rattle.std.proofs.lemmas.Grind.{common_steps}
use Rattle.bench_script.specs.Script.{words_of, SpellsSlotPut, SpellRow, most_puts, least_puts}
use Rattle.bench_script.specs.Slots.{have_own_slots}
use Rattle.bench_script.specs.declared.command.SlotPut.{SlotPut}
use Rattle.bench_script.proofs.SlotPuts.{puts_refused}
use Rattle.bench_script.proofs.script.rows.put_words.Goals as goal
use Rattle.bench_script.proofs.script.rows.put_words.Goals.{then-as_slice-lt-LEAST_PUTS-via-then-as_slice-lt-LEAST_PUTS}
use Rattle.bench_script.proofs.script.rows.put_words.Goals.{then-as_slice-lt-LEAST_PUTS-via-else-as_slice-lt-LEAST_PUTS+then-not-have_own_slots}

pub returns-then-as_slice-lt-LEAST_PUTS-clause-refused : goal.returns-then-as_slice-lt-LEAST_PUTS-clause-refused
returns-then-as_slice-lt-LEAST_PUTS-clause-refused c = λ is.
    let puts : List SlotPut = c.in_ok-puts.puts in
    let row : SpellRow SpellsSlotPut 1 most_puts (words_of c.args.text.now) puts = c.in_ok-puts.ensures.ok in
    puts_refused (words_of c.args.text.now) puts row (elim c.then-as_slice-lt-LEAST_PUTS.branch [
      | then-as_slice-lt-LEAST_PUTS-via-then-as_slice-lt-LEAST_PUTS w ↦ inl (let few : length puts < least_puts = grind (arith, common_steps) in few)
      | then-as_slice-lt-LEAST_PUTS-via-else-as_slice-lt-LEAST_PUTS+then-not-have_own_slots w ↦ inr (let twice : have_own_slots puts ≡ false = grind (arith, common_steps) in twice)
    ])
