use Rattle.std.proofs.Common.{◌≡◌, ◌<◌, ◌≤◌, ◌++◌, ◌∷◌, [], List, Bool, length, take, drop, sym, ◌∙◌, ap, append_assoc, append-nil, arith}
use Rattle.std.proofs.lemmas.Grind.{common_steps}
use Rattle.nfc_base.specs.Bits.{number_of, packed}
use Rattle.nfca_poll.proofs.identifiers.KnownPacks.{packed_more, packed_rest, packed_empty}
use Rattle.nfca_poll.proofs.known.pack.Goals as goal

pub loop-left-preserved : goal.loop-left-preserved
loop-left-preserved c =
    let x : List Bool = c.loop-left.left.now in
    let some : 8 ≤ length x = omega arith in
    let front : c.split_at.result.0.now ≡ take 8 x = grind (arith, common_steps) in
    let back : c.split_at.result.1.now ≡ drop 8 x = grind (arith, common_steps) in
    let n : c.number.result ≡ number_of (take 8 x) = c.number.ensures ∙ ap number_of front in
    record {
      count = grind (arith, common_steps);
      bytes = c.loop-left.invariant.bytes ∙ ap (λ t. c.loop-left.packed.items ++ t) (packed_more x some)
          ∙ ap (λ t. c.loop-left.packed.items ++ t ∷ packed (drop 8 x)) (sym n)
          ∙ sym (append_assoc c.loop-left.packed.items (c.number.result ∷ []) (packed (drop 8 x)))
          ∙ ap (λ t. t ++ packed (drop 8 x)) (sym c.push.ensures.items)
          ∙ ap (λ t. c.push.new.self.items ++ packed t) (sym back);
    }

pub returns-then-not-is_empty : goal.returns-then-not-is_empty
returns-then-not-is_empty c =
    let x : List Bool = c.loop-left.left.now in
    let some : 0 < length x = grind (arith, common_steps) in
    let few : length x < 8 = omega arith in
    c.push-then-not-is_empty.ensures.items ∙ ap (λ t. c.loop-left.packed.items ++ t ∷ []) c.number-then-not-is_empty.ensures
    ∙ ap (λ t. c.loop-left.packed.items ++ t) (sym (packed_rest x some few)) ∙ sym c.loop-left.invariant.bytes

pub returns-else-not-is_empty : goal.returns-else-not-is_empty
returns-else-not-is_empty c =
    let x : List Bool = c.loop-left.left.now in
    let none : length x ≤ 0 = grind (arith, common_steps) in
    sym (c.loop-left.invariant.bytes ∙ ap (λ t. c.loop-left.packed.items ++ t) (packed_empty x none) ∙ append-nil c.loop-left.packed.items)
