-- A reading's walk over what it knows.
use Rattle.std.proofs.Common.{◌≡◌, ℕ, ◌+◌, ◌-◌, ◌<◌, List, ◌++◌, [], length, sym, ◌∙◌, ap, arith, subst, take, inl, inr}
use Rattle.std.proofs.Math.Seq.{take-append-add}
use Rattle.std.proofs.lemmas.Bool.{cases_lt}
use Rattle.std.proofs.lemmas.List.{take-append-le, take_all, append-nil}
use Rattle.tlv_area.specs.declared.space.Space.{Space}
use Rattle.tlv_area.specs.declared.walk.Walk.{Walk}
use Rattle.tlv_area.specs.declared.walk.Walker.{Walker}
use Rattle.tlv_area.specs.Form.{NeedsMore}
use Rattle.tlv_area.specs.Walking.{Finds, HasCome}

pub finds_in : (w : Walker) (space : Space) (known : List ℕ) (result : Walk) → w.space ≡ space → Finds w.space known result → Finds space known result
finds_in w space known result same finds = subst (λ s. Finds s known result) same finds

pub needs_in : (w : Walker) (space : Space) (known : List ℕ) → w.space ≡ space → NeedsMore w.space known → NeedsMore space known
needs_in w space known same more = subst (λ s. NeedsMore s known) same more

pub short_in : (w : Walker) (space : Space) (known : List ℕ) → w.space ≡ space → length known < w.space.end → length known < space.end
short_in w space known same short = subst (λ s. length known < s.end) same short

-- the front of what is known grows with it
front_grown : (end : ℕ) (known piece : List ℕ) → (more : List ℕ) × (take end (known ++ piece) ≡ take end known ++ more)
front_grown end known piece = elim (cases_lt (length known) end) [
  | inr h ↦ ([], take-append-le end known piece h ∙ sym (append-nil (take end known)))
  | inl h ↦
      (let n : ℕ = end - length known in
      let sum : length known + n ≡ end = omega arith in
      (take n piece, ap (λ m. take m (known ++ piece)) (sym sum) ∙ take-append-add known piece n ∙ ap (λ front. front ++ take n piece) (sym (take_all end known (omega arith)))))
]

pub come_further : (w : Walker) (end : ℕ) (known front piece known' : List ℕ) → front ≡ take end known → known' ≡ known ++ piece → ((more : List ℕ) → HasCome w (front ++ more)) →
    HasCome w (take end known')
come_further w end known front piece known' front_is grown come =
    let more = front_grown end known piece in
    subst (HasCome w) (ap (λ f. f ++ more.0) front_is ∙ sym (ap (λ k. take end k) grown ∙ more.1)) (come more.0)
