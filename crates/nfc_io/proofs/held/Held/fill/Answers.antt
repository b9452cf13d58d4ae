use Rattle.std.proofs.Common.{◌≡◌, ℕ, List, ◌∙◌, ap, sym, take, drop, ◌+◌, ◌-◌, ◌++◌, ◌≤◌, ◌<◌, length, arith}
use Rattle.std.proofs.lemmas.List.{length-take-le}
use borrow.Rule.Slice.PartMut.{post_of}
use Rattle.nfc_io.proofs.Room.{asked_for, filled, end_at_none}
use Rattle.nfc_io.proofs.held.Held.fill.Goals as goal

pub returns-clause-ok : goal.returns-clause-ok
returns-clause-ok g c =
    let n : ℕ = c.in_ok-n.n in
    let buf : List ℕ = c.read.new.buf in
    let i : ℕ = c.self.inside.start in
    let j : ℕ = c.self.inside.end in
    let room : List ℕ = c.deref_mut.result.now in
    let most : ℕ = c.min-most.result in
    let whole : length room ≡ 4097 = omega (arith, c.deref_mut.ensures.len, c.move_to_front.ensures.len) in
    let before : take (j - i) room ≡ c.args.self.now = ap (take (j - i)) c.deref_mut.ensures.value ∙ c.move_to_front.ensures.moved ∙ c.self.view_is in
    let size : length c.args.self.now ≡ j - i = ap length (sym before) ∙ length-take-le (j - i) room (omega (arith, whole)) in
    let some : 0 < most = omega (arith, size, c.min-most.ensures, c.requires) in
    let few : (most ≤ 4096) × (most ≤ 4097 - (j - i)) = (omega (arith, c.min-most.ensures), omega (arith, c.min-most.ensures)) in
    let asked : length (take (j - i + most - (j - i)) (drop (j - i) room)) ≡ most = asked_for room (j - i) most (omega (arith, whole, few.1)) in
    let fits : n ≤ length buf = omega (arith, c.in_ok-n.ensures.bound, c.read.auto.buf) in
    record {
      got = take n buf;
      size = length-take-le n buf fits;
      few = omega (arith, asked, few.0, c.in_ok-n.ensures.bound);
      parts = filled room buf (post_of (j - i) (j - i + most - (j - i)) room) _ (j - i) n _ (omega (arith, whole)) fits
          (omega (arith, asked, few.1, whole, c.deref_mut.ensures.len, c.in_ok-n.ensures.bound)) ∙ ap (λ x. x ++ take n buf) before;
      read = c.in_ok-n.ensures.ok;
      end = end_at_none (g.S.Source.left c.args.source.now) (g.S.Source.left c.read.new.self) buf n c.in_ok-n.ensures.ok
          (λ none. c.in_ok-n.ensures.end none (omega (arith, asked, some)));
    }
