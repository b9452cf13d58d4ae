-- What the answer to a READ of a Type 2 tag brings.
use Rattle.std.proofs.Common.{◌≡◌, ℕ, ◌*◌, ◌≤◌, List, length, take, drop, ◌∙◌, ap, arith}
use Rattle.std.proofs.lemmas.List.{length-append, length-drop, length-take-le}
use Rattle.t2t_tag.specs.Step.{four_blocks}
use Rattle.tag_reader.specs.declared.how.How.TheVariants.{T2}
use Rattle.tag_reader.specs.Kinds.{IsStore}
use Rattle.tag_reader.specs.Steps.{rolling, IsInReach}
use Rattle.tag_reader.proofs.Bytes.{four_rolling}

pub four_part : (size k : ℕ) (store : List ℕ) → IsStore T2 size store → IsInReach store k → four_blocks store (4 * k) ≡ take size (drop (size * k) (rolling store))
four_part size k store is low = rw is.0 (four_rolling store k is.1 low)

pub four_long : (size k : ℕ) (store : List ℕ) → IsStore T2 size store → IsInReach store k → length (four_blocks store (4 * k)) ≡ 16
four_long size k store is low =
    let room : 16 ≤ length (drop (16 * k) (rolling store)) = (let least = is.1.least in omega (arith, length-drop (16 * k) (rolling store), length-append store store)) in
    ap length (four_rolling store k is.1 low) ∙ length-take-le 16 (drop (16 * k) (rolling store)) room
