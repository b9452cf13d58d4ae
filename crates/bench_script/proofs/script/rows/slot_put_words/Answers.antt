use Rattle.std.proofs.Common.{rules, ◌≡◌, ◌++◌, ◌<◌, ◌≤◌, ◌+◌, ℕ, List, [], ◌∷◌, length, sym, ◌∙◌, ap, subst, arith, append_assoc}
use Rattle.std.proofs.lemmas.Grind.{common_steps}
use Rattle.std.proofs.lemmas.List.{length-append}
use Rattle.std.specs.Option.{option_copied}
use Rattle.bench_script.specs.declared.command.SlotPut.{SlotPut}
use Rattle.bench_script.specs.Script.{words_of, SpellEach, SpellRow, SpellsSlotPut, most_puts}
use Rattle.bench_script.proofs.Rows.{each_joined, last_spelled, none_left, too_many}
use Rattle.bench_script.proofs.script.rows.slot_put_words.Goals as goal

pub returns-in_err-put-clause-refused : goal.returns-in_err-put-clause-refused
returns-in_err-put-clause-refused c = λ is.
    none_left SpellsSlotPut 1 most_puts c.args.text.now c.loop.left.now c.cut_word.result.0.now c.loop.invariant.before (option_copied c.cut_word.result.1)
    c.loop.invariant.split c.cut_word.ensures (c.in_err-put.ensures.refused (grind (arith, common_steps)))

pub returns-in-None-clause-ok : goal.returns-in-None-clause-ok
returns-in-None-clause-ok c =
    let x : SlotPut = c.in_ok-put.put in
    let ends : words_of c.loop.left.now ≡ c.cut_word.result.0.now ∷ [] = search rules in
    let made : c.new.result ≡ c.push.new.self.items = search rules in
    let same : c.push.new.self.items ≡ c.loop.puts.items ++ x ∷ [] = search rules in
    let few : length c.loop.puts.items < most_puts = omega (arith, c.loop.invariant.count, c.loop-test.true) in
    subst (SpellRow SpellsSlotPut 1 most_puts (words_of c.args.text.now)) (sym (made ∙ same))
    (last_spelled SpellsSlotPut most_puts c.args.text.now c.loop.left.now c.cut_word.result.0.now c.loop.invariant.before c.loop.puts.items x c.loop.invariant.split
    c.loop.invariant.each ends c.in_ok-put.ensures.ok few)

pub loop-preserved : goal.loop-preserved
loop-preserved c =
    let x : SlotPut = c.in_ok-put.put in
    let word : List ℕ = c.cut_word.result.0.now in
    let before : List (List ℕ) = c.loop.invariant.before in
    let cut : words_of c.loop.left.now ≡ word ∷ words_of c.in-Some.rest.now = search rules in
    let same : c.push.new.self.items ≡ c.loop.puts.items ++ x ∷ [] = search rules in
    record {
      before = before ++ word ∷ [];
      split = c.loop.invariant.split ∙ ap (λ ws. before ++ ws) cut ∙ sym (append_assoc before (word ∷ []) (words_of c.in-Some.rest.now));
      each =
          subst (SpellEach SpellsSlotPut (before ++ word ∷ [])) (sym same)
          (each_joined SpellsSlotPut before (word ∷ []) c.loop.puts.items (x ∷ []) c.loop.invariant.each (c.in_ok-put.ensures.ok, tt));
      count = ap length same ∙ length-append c.loop.puts.items (x ∷ []) ∙ ap (λ n. n + 1) c.loop.invariant.count;
    }

pub returns-clause-refused : goal.returns-clause-refused
returns-clause-refused c = λ is.
    let full : most_puts ≤ length c.loop.puts.items = omega (arith, c.loop.invariant.count, c.loop-test.false, c.loop.auto.counter-end) in
    too_many SpellsSlotPut 1 most_puts c.args.text.now c.loop.left.now c.loop.invariant.before c.loop.puts.items c.loop.invariant.split c.loop.invariant.each full
