-- That the tags of this repository are tags that a link of the tests may lead to.
use Rattle.std.proofs.Common.{◌≡◌, ℕ, ◌≤◌, false, List, ◌++◌, length, take, drop, refl, sym, ◌∙◌, ap, subst, arith}
use Rattle.std.proofs.lemmas.List.{length-append, get_or_append_left}
use Rattle.nfc_base.specs.Signal.{Signal}
use Rattle.nfc_base.specs.TagLinks.{LinkView, Type4}
use Rattle.t2t_tag.specs.Store.{T2Memory}
use Rattle.t2t_tag.specs.Step.{t2_after}
use Rattle.t2t_tag.proofs.Steps as t2
use Rattle.t5t_tag.specs.Store.{T5State, darkened}
use Rattle.t5t_tag.specs.Step.{t5_after}
use Rattle.t5t_tag.proofs.Steps.{same_tag}
use Rattle.t4t_tag.specs.Store.{T4State, IsT4State, store_of, file_size}
use Rattle.t4t_tag.specs.declared.current.CurrentFile.{CurrentFile}
use Rattle.t4t_tag.specs.declared.current.CurrentFile.TheVariants as current
use Rattle.t4t_tag.proofs.Stores.{container_in_store, file_in_store}
use Rattle.tag_reader.specs.declared.how.How.TheVariants.{T4}
use Rattle.tag_reader.specs.Files.{container_end, container_in, file_in, IsFileStore, current_file, shown_file, t4_memory, shown, t4_link_step}
use Rattle.tag_reader.specs.Kinds.{IsTag, t2_step, t5_step}

pub t2_same : (m : T2Memory) (f : Signal) → t2_step (t2_after m f).locked ≡ t2_step m.locked
t2_same m f = ap t2_step (t2.same_tag m f).locked

pub t5_same : (t : T5State) (f : Signal) → t.quiet ≡ false →
    t5_step (darkened (t5_after t f)).id (darkened (t5_after t f)).size (darkened (t5_after t f)).locked (darkened (t5_after t f)).quiet ≡ t5_step t.id t.size t.locked t.quiet
t5_same t f awake =
    let same = same_tag t f in
    ap (λ id. t5_step id (t5_after t f).size (t5_after t f).locked false) same.id ∙ ap (λ size. t5_step t.id size (t5_after t f).locked false) same.size
    ∙ ap (λ locked. t5_step t.id t.size locked false) same.locked ∙ ap (λ quiet. t5_step t.id t.size t.locked quiet) (sym awake)

-- a Type 4 tag is what its link shows of it
word_front : (c f : List ℕ) → 15 ≤ length c → file_size (c ++ f) ≡ file_size c
word_front c f long = rw (get_or_append_left c f 0 11 (omega (arith, long)), get_or_append_left c f 0 12 (omega (arith, long))) refl

pub end_is : (t : T4State) → IsT4State t → container_end (store_of t) ≡ length t.container
end_is t is =
    let size : file_size (store_of t) ≡ length t.file = word_front t.container t.file is.least ∙ sym is.whole in
    omega (arith, size, length-append t.container t.file)

pub container_is : (t : T4State) → IsT4State t → container_in (store_of t) ≡ t.container
container_is t is = ap (λ n. take n (store_of t)) (end_is t is) ∙ container_in_store t

pub file_is : (t : T4State) → IsT4State t → file_in (store_of t) ≡ t.file
file_is t is = ap (λ n. drop n (store_of t)) (end_is t is) ∙ file_in_store t

same_file : (f : CurrentFile) → current_file (shown_file f) ≡ f
same_file current.NoFile = refl
same_file current.Container = refl
same_file current.Ndef = refl

pub memory_is : (t : T4State) → IsT4State t → t4_memory t.code (shown t) ≡ t
memory_is t is = rw (container_is t is, file_is t is, same_file t.current) refl

pub store_is : (t : T4State) → IsT4State t → IsFileStore (store_of t)
store_is t is = (t.code, rw (container_is t is, file_is t is) is)

pub t4_tag : (v : LinkView) (t : T4State) → v.kind ≡ Type4 → IsT4State t → v.state ≡ shown t → v.step ≡ t4_link_step t.code → (size : ℕ) × IsTag T4 size v
t4_tag v t kind is state step = (
  0,
  record {
    kind = kind;
    named = tt;
    store = subst (λ s. IsFileStore s.store) (sym state) (store_is t is);
    steps = (t.code, is.coded, λ s c is' may. ap (λ st. st s c) step);
  },
)
