use Rattle.std.proofs.Common.{◌≡◌, ◌++◌, [], ℕ, List, length, sym, ◌∙◌, arith}
use Rattle.std.proofs.lemmas.Grind.{common_steps}
use Rattle.bench_world.specs.Listing.{listed_text}
use Rattle.bench_world.proofs.lines.Joined.{empty_is, bytes_piece, some_digits, listed_piece, tail_piece, last_left, less_left}
use Rattle.bench_world.proofs.pieces.AnswerPiecesIterator.next.Goals as goal

pub returns-then-not-is_empty-2-clause-steps : goal.returns-then-not-is_empty-2-clause-steps
returns-then-not-is_empty-2-clause-steps c =
    let head : c.self.inside.head.items ≡ [] = empty_is c.self.inside.head.items (grind (arith, common_steps)) in
    let some : length c.self.inside.bytes.now ≡ 0 → ⊥ = λ none. grind (arith, none) in
    let rest : List ℕ = listed_text c.self.inside.listed ++ c.self.inside.tail.items in
    let front : length c.split_at.result.0.now ≡ c.min.result = c.split_at.ensures.front_len in (
      sym c.self.view_is
          ∙ bytes_piece c.self.inside.head.items c.self.inside.bytes.now rest c.digits.result.items c.split_at.result.0.now c.split_at.result.1.now c.min.result head
          c.split_at.ensures.front c.split_at.ensures.back c.digits.ensures.value,
      some_digits c.self.inside.bytes.now c.split_at.result.0.now c.digits.result.items c.digits.ensures.size (front ∙ c.min.ensures) some,
    )

pub returns-then-not-is_empty-2-clause-goes : goal.returns-then-not-is_empty-2-clause-goes
returns-then-not-is_empty-2-clause-goes c =
    let steps = returns-then-not-is_empty-2-clause-steps c in
    record {
      on = λ finite. (tt, tt, less_left c.args.self.now c.digits.result.items _ steps.0 steps.1);
      keeps = tt;
      rests = λ finite. tt;
    }

pub returns-in-Some-clause-steps : goal.returns-in-Some-clause-steps
returns-in-Some-clause-steps c =
    let head : c.self.inside.head.items ≡ [] = empty_is c.self.inside.head.items (grind (arith, common_steps)) in
    let bytes : c.self.inside.bytes.now ≡ [] = empty_is c.self.inside.bytes.now (grind (arith, common_steps)) in (
      sym c.self.view_is
          ∙ listed_piece c.self.inside.head.items c.self.inside.bytes.now (listed_text c.self.inside.listed) c.self.inside.tail.items c.in-Some.piece.items c.in-Some.bytes.now
          (listed_text c.next_item.new.self) head bytes c.in-Some.ensures.0,
      c.in-Some.ensures.1,
    )

pub returns-then-not-is_empty-3-clause-steps : goal.returns-then-not-is_empty-3-clause-steps
returns-then-not-is_empty-3-clause-steps c =
    let head : c.self.inside.head.items ≡ [] = empty_is c.self.inside.head.items (grind (arith, common_steps)) in
    let bytes : c.self.inside.bytes.now ≡ [] = empty_is c.self.inside.bytes.now (grind (arith, common_steps)) in
    let piece : c.replace-then-not-is_empty-3.result.items ≡ c.self.inside.tail.items = grind (arith, common_steps) in
    let after : c.replace-then-not-is_empty-3.new.dest.items ≡ [] = grind (arith, common_steps) in (
      sym c.self.view_is
          ∙ tail_piece c.self.inside.head.items c.self.inside.bytes.now (listed_text c.self.inside.listed) (listed_text c.next_item.new.self) c.self.inside.tail.items
          c.replace-then-not-is_empty-3.result.items c.replace-then-not-is_empty-3.new.dest.items head bytes c.in_default.ensures.0 c.in_default.ensures.1 piece after,
      grind (arith, common_steps),
    )

pub returns-clause-steps : goal.returns-clause-steps
returns-clause-steps c =
    let head : c.self.inside.head.items ≡ [] = empty_is c.self.inside.head.items (grind (arith, common_steps)) in
    let bytes : c.self.inside.bytes.now ≡ [] = empty_is c.self.inside.bytes.now (grind (arith, common_steps)) in
    let tail : c.self.inside.tail.items ≡ [] = empty_is c.self.inside.tail.items (grind (arith, common_steps)) in (
      sym c.self.view_is ∙ last_left c.self.inside.head.items c.self.inside.bytes.now (listed_text c.self.inside.listed) c.self.inside.tail.items head bytes c.in_default.ensures.0 ∙ tail,
      last_left c.self.inside.head.items c.self.inside.bytes.now (listed_text c.next_item.new.self) c.self.inside.tail.items head bytes c.in_default.ensures.1 ∙ tail,
    )
