use Rattle.std.proofs.Common.{rules, ◌≡◌, ◌++◌, ◌<◌, ◌≤◌, ◌+◌, ℕ, List, [], ◌∷◌, length, sym, ◌∙◌, ap, subst, arith, append_assoc}
use Rattle.std.proofs.lemmas.Grind.{common_steps}
use Rattle.std.proofs.lemmas.List.{length-append}
use Rattle.std.specs.Option.{option_copied}
use Rattle.bench_script.specs.Script.{words_of, SpellEach, SpellRow, SpellsPayload, most_payloads}
use Rattle.bench_script.proofs.Rows.{each_joined, last_spelled, none_left, too_many}
use Rattle.bench_script.proofs.script.rows.payload_words.Goals as goal

pub returns-in_err-payload-clause-refused : goal.returns-in_err-payload-clause-refused
returns-in_err-payload-clause-refused c = λ is.
    none_left SpellsPayload 1 most_payloads c.args.text.now c.loop.left.now c.cut_word.result.0.now c.loop.invariant.before (option_copied c.cut_word.result.1)
    c.loop.invariant.split c.cut_word.ensures (c.in_err-payload.ensures.refused (grind (arith, common_steps)))

pub returns-in-None-clause-ok : goal.returns-in-None-clause-ok
returns-in-None-clause-ok c =
    let x : List ℕ = c.in_ok-payload.payload in
    let ends : words_of c.loop.left.now ≡ c.cut_word.result.0.now ∷ [] = search rules in
    let made : c.new.result ≡ c.push.new.self.items = search rules in
    let same : c.push.new.self.items ≡ c.loop.payloads.items ++ x ∷ [] = search rules in
    let few : length c.loop.payloads.items < most_payloads = omega (arith, c.loop.invariant.count, c.loop-test.true) in
    subst (SpellRow SpellsPayload 1 most_payloads (words_of c.args.text.now)) (sym (made ∙ same))
    (last_spelled SpellsPayload most_payloads c.args.text.now c.loop.left.now c.cut_word.result.0.now c.loop.invariant.before c.loop.payloads.items x c.loop.invariant.split
    c.loop.invariant.each ends c.in_ok-payload.ensures.ok few)

pub loop-preserved : goal.loop-preserved
loop-preserved c =
    let x : List ℕ = c.in_ok-payload.payload in
    let word : List ℕ = c.cut_word.result.0.now in
    let before : List (List ℕ) = c.loop.invariant.before in
    let cut : words_of c.loop.left.now ≡ word ∷ words_of c.in-Some.rest.now = search rules in
    let same : c.push.new.self.items ≡ c.loop.payloads.items ++ x ∷ [] = search rules in
    record {
      before = before ++ word ∷ [];
      split = c.loop.invariant.split ∙ ap (λ ws. before ++ ws) cut ∙ sym (append_assoc before (word ∷ []) (words_of c.in-Some.rest.now));
      each =
          subst (SpellEach SpellsPayload (before ++ word ∷ [])) (sym same)
          (each_joined SpellsPayload before (word ∷ []) c.loop.payloads.items (x ∷ []) c.loop.invariant.each (c.in_ok-payload.ensures.ok, tt));
      count = ap length same ∙ length-append c.loop.payloads.items (x ∷ []) ∙ ap (λ n. n + 1) c.loop.invariant.count;
    }

pub returns-clause-refused : goal.returns-clause-refused
returns-clause-refused c = λ is.
    let full : most_payloads ≤ length c.loop.payloads.items = omega (arith, c.loop.invariant.count, c.loop-test.false, c.loop.auto.counter-end) in
    too_many SpellsPayload 1 most_payloads c.args.text.now c.loop.left.now c.loop.invariant.before c.loop.payloads.items c.loop.invariant.split c.loop.invariant.each full
