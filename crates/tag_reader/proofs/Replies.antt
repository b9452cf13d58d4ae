-- What a Type 2 tag does at a READ: it answers, and stays as it is.
use Rattle.std.proofs.Common.{◌≡◌, ℕ, ◌*◌, Bool, true, List, refl, sym, ◌∙◌, subst, arith}
use Rattle.std.specs.Prelude.{nat_lt, Some}
use Rattle.std.proofs.lemmas.Bool.{lt-ltb}
use Rattle.nfc_base.specs.Signal.{Signal}
use Rattle.nfc_base.specs.TagLinks.{TagState, TagStep, LinkView, MayAsk}
use Rattle.t2t_tag.specs.Store.{block_count, IsT2Store}
use Rattle.tag_reader.specs.declared.how.How.TheVariants.{T2}
use Rattle.tag_reader.specs.Heard.{IsOf}
use Rattle.tag_reader.specs.Kinds.{IsTag, command, reply, t2_step}
use Rattle.tag_reader.specs.Steps.{IsInReach}
use Rattle.tag_reader.proofs.Links.{Keeps}

-- a READ is what the tag may be asked
pub may_ask : (v : LinkView) (size : ℕ) (store : List ℕ) (k : ℕ) → IsOf T2 v → MayAsk v.kind v.identifier (command T2 size store k)
may_ask v size store k of = subst (λ kind. MayAsk kind v.identifier (command T2 size store k)) (sym of.kind) refl

-- the tag's answer, after which it is what it was
abbrev pub Replies : TagState → Signal → TagStep
Replies s r = record { answer = Some r; after = s }

t2_replies : (locked : List Bool) (s : TagState) (k : ℕ) → IsT2Store s.store → IsInReach s.store k → t2_step locked s (command T2 16 s.store k) ≡ Replies s (reply s.store k)
t2_replies locked s k is low =
    let inside : nat_lt (4 * k) (block_count s.store) ≡ true = lt-ltb (4 * k) (block_count s.store) (omega (arith, is.whole)) in
    rw inside refl

-- the step of the tag behind a link on a READ that is in reach: it answers, and keeps its store
pub keeps : (size : ℕ) (v : LinkView) (k : ℕ) → IsTag T2 size v → IsInReach v.state.store k → Keeps v (command T2 size v.state.store k) (reply v.state.store k) v.state
keeps size v k is low = record {
  step = is.steps.1 v.state (command T2 size v.state.store k) is.store.1 refl ∙ t2_replies is.steps.0 v.state k is.store.1 low;
  store = refl;
}
