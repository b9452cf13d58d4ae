-- Type 5 tags in a field, which step in the light alone.
use Rattle.std.proofs.Common.{◌≡◌, ℕ, List, Bool, true, false, if◌then◌else◌, Option, Some, None, refl, sym, ◌∙◌, ap}
use Rattle.nfc_base.specs.declared.frame.Tech.TheVariants.{V}
use Rattle.nfc_base.specs.Signal.{Signal}
use Rattle.nfc_base.specs.TagLinks.{IsAddressedIn}
use Rattle.t5t_tag.specs.Step.{T5Turn, sent, t5_answer, t5_after}
use Rattle.t5t_tag.specs.Store.{T5State}
use Rattle.t5t_tag.proofs.Steps.{IsSameTag, same_tag, other_silent, answer_tech}

pub powered_tech : (lit : Bool) (t : T5State) (f g : Signal) → (if lit then t5_answer t f else None) ≡ Some g
    → g.tech ≡ V
powered_tech true t f g e = answer_tech t f g e
powered_tech false t f g e = absurd cc

pub powered_id : (lit : Bool) (t : T5State) (f : Signal) → (if lit then t5_after t f else t).id ≡ t.id
powered_id true t f = let same : IsSameTag t (t5_after t f) = same_tag t f in same.id
powered_id false t f = refl

-- a tag of another identifier is silent
pub powered_ignores : (lit : Bool) (t : T5State) (other : List ℕ) (f : Signal) → IsAddressedIn V other f
    → (other ≡ t.id → ⊥)
    → (if lit then t5_answer t f else None) ≡ None
powered_ignores true t other f to k = ap (t5_answer t) to.1.frame
    ∙ ap (λ (r : T5Turn). sent r.answer) (other_silent t other to.0 k to.1.code to.1.rest)
powered_ignores false t other f to k = refl
