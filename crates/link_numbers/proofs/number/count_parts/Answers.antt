use Rattle.std.proofs.Common.{◌≡◌, ◌+◌, ◌*◌, ◌<◌, ◌≤◌, ◌∙◌, ap, arith, drop, length, length-drop, List, slice_index_or, sym, ℕ}
use Rattle.link_numbers.specs.Shown.{counted}
use Rattle.link_numbers.proofs.payloads.Counting.{one_more, short, there}
use Rattle.link_numbers.proofs.number.count_parts.Goals as goal

pub returns-then-tail-size : goal.returns-then-tail-size
returns-then-tail-size c =
    let rest : List ℕ = c.parts.rest.now in
    let size : ℕ = 256 * slice_index_or rest 0 0 + slice_index_or rest 1 0 in
    let tail_is : length c.behind-tail.result.now ≡ length (drop 2 rest) = ap length c.behind-tail.ensures in
    let less : length (drop 2 rest) < size = omega (arith, tail_is) in
    sym (sym c.parts.invariant.counted ∙ one_more c.parts.count rest (omega arith) ∙ short (c.parts.count + 1) (drop 2 rest) size less)

pub parts-preserved : goal.parts-preserved
parts-preserved c =
    let rest : List ℕ = c.parts.rest.now in
    let size : ℕ = 256 * slice_index_or rest 0 0 + slice_index_or rest 1 0 in
    let left_is : c.behind-rest.result.now ≡ drop size (drop 2 rest) = c.behind-rest.ensures ∙ ap (drop size) c.behind-tail.ensures in
    let tail_is : length c.behind-tail.result.now ≡ length (drop 2 rest) = ap length c.behind-tail.ensures in
    let left_size : length c.behind-rest.result.now ≡ length (drop size (drop 2 rest)) = ap length left_is in
    let enough : size ≤ length (drop 2 rest) = omega (arith, tail_is) in
    let few : c.parts.count + length rest ≤ length c.args.inner.now = c.parts.invariant.few in
    let two : 2 ≤ length rest = omega arith in
    record {
      counted = ap (λ zs. counted (c.parts.count + 1) zs 0) left_is ∙ sym (there (c.parts.count + 1) (drop 2 rest) size enough)
          ∙ sym (one_more c.parts.count rest two) ∙ c.parts.invariant.counted;
      few = omega (arith, left_size, few, two, length-drop size (drop 2 rest), length-drop 2 rest);
    }
