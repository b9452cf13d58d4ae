use Rattle.std.proofs.Common.{◌≡◌, ◌++◌, ◌-◌, ◌≤◌, ◌∙◌, ap, arith, length, List, sym, take, ℕ}
use Rattle.link_numbers.specs.Walking.{room}
use Rattle.link_numbers.proofs.far.Kept.{put_behind}
use Rattle.link_numbers.proofs.side.append.Goals as goal

pub returns : goal.returns
returns c =
    let begun : List ℕ = c.args.begun.now.items in
    let content : List ℕ = c.args.content.now in
    let fits : length begun ≤ room = omega arith in
    let first : c.first_of.result.now ≡ take (room - length begun) content =
    c.first_of.ensures ∙ ap (λ k. take (room - k) content) c.len-left.ensures.value in
    (rw c.unwrap.ensures at c.try_extend_from_slice.ensures.ok) ∙ ap (λ zs. begun ++ zs) first ∙ sym (put_behind room begun content fits)
