-- The two files of a tag in its store, and what an update changes there.
use Rattle.std.proofs.Common.{◌≡◌, ℕ, ◌+◌, List, ◌++◌, length, take, drop, sym, ◌∙◌, ap, append_assoc, arith}
use Rattle.std.proofs.Math.Seq.{take-append_seam, drop-append_seam, take-append-add, drop-append-add}
use Rattle.t4t_tag.specs.Store.{T4State, store_of}
use Rattle.t4t_tag.specs.Step.{writes, overwritten}

pub container_in_store : (t : T4State) → take (length t.container) (store_of t) ≡ t.container
container_in_store t = take-append_seam t.container t.file

pub file_in_store : (t : T4State) → drop (length t.container) (store_of t) ≡ t.file
file_in_store t = drop-append_seam t.container t.file

-- an update inside the NDEF file is one inside the store, behind the container
pub writes_store : (t : T4State) (offset : ℕ) (content : List ℕ) → store_of (writes t offset content).after ≡ overwritten (store_of t) (length t.container + offset) content
writes_store t offset content =
    let at : ℕ = length t.container in
    let front : take (at + offset) (store_of t) ≡ t.container ++ take offset t.file = take-append-add t.container t.file offset in
    let sum : at + offset + length content ≡ at + (offset + length content) = omega arith in
    let rest : drop (at + offset + length content) (store_of t) ≡ drop (offset + length content) t.file =
    ap (λ n. drop n (store_of t)) sum ∙ drop-append-add t.container t.file (offset + length content) in
    sym (append_assoc t.container (take offset t.file ++ content) (drop (offset + length content) t.file))
    ∙ ap (λ x. x ++ drop (offset + length content) t.file) (sym (append_assoc t.container (take offset t.file) content))
    ∙ sym (ap (λ x. x ++ content ++ drop (at + offset + length content) (store_of t)) front ∙ ap (λ x. t.container ++ take offset t.file ++ content ++ x) rest)
