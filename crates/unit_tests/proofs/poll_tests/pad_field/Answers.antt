use Rattle.std.proofs.Common.{rules, ◌≡◌, ◌<◌, ◌≤◌, ℕ, length, Bool, true, false, if◌then◌else◌, List, [], ◌∷◌, slice_index_or, Some, None, refl, sym, ◌∙◌, ap, subst, arith, inr}
use Rattle.std.proofs.lemmas.Grind.{common_steps}
use Rattle.nfc_base.specs.Signal.{Signal, whole_a}
use Rattle.nfca_poll.specs.declared.kind.Kind.{Kind}
use Rattle.nfca_poll.specs.declared.kind.Kind.TheVariants.{T2}
use Rattle.nfca_poll.specs.declared.upper.UpStep.TheVariants as steps
use Rattle.unit_tests.specs.declared.poll_tests.Pad.{Pad}
use Rattle.nfca_poll.specs.Ident.{IsIdent}
use Rattle.nfca_poll.specs.Front.{Off}
use Rattle.nfca_poll.specs.Fronted.{Fronted}
use Rattle.nfca_poll.specs.Crowd.{Card, cards, AreDistinct}
use Rattle.nfca_poll.specs.AnyStart.{HaveOwnIdents}
use Rattle.nfca_poll.specs.Polled.{AreTidy}
use Rattle.nfca_poll.specs.RoundEnds.{LeavesActive}
use Rattle.nfc_base.specs.Headed.{is_t2_frame}
use Rattle.nfca_poll.specs.Upper.{answer_in, IsUpper}
use Rattle.nfca_poll.specs.laws.Ours.{fronts_are_ours, fronts_are_polled}
use Rattle.nfca_poll.specs.laws.PlainFronts.{is_last, ObeysStep, IsPlainUpper}
use Rattle.unit_tests.specs.contracts.poll_tests.PadUpper.TheImpl.{ghosts}
use Rattle.nfca_poll.proofs.identifiers.HeardBits.{pointwise_path}
use Rattle.nfca_poll.proofs.noise.PlainPlaces.{plain_at}
use Rattle.unit_tests.proofs.poll_tests.pad_field.Goals as goal

laws : IsUpper ghosts.machine ghosts.store ghosts.commands ghosts.is_open ghosts.attributes
laws = search rules

-- it acknowledges what its step on commands does
obeys : (u : Pad) (f : Signal) → ObeysStep ghosts.machine ghosts.store ghosts.commands u f
obeys u f = record { untouched = refl; answer = by_test (is_t2_frame f); stays = by_last (is_t2_frame f); after = refl; again = refl }
  where
    by_test : (v : Bool) → answer_in (if v then steps.Reply (whole_a (u.ack ∷ [])) else steps.Foreign) ≡ (if v then Some (whole_a (u.ack ∷ [])) else None)
    by_test true = refl
    by_test false = refl

    by_last : (v : Bool) → is_last (if v then steps.Reply (whole_a (u.ack ∷ [])) else steps.Foreign) ≡ false
    by_last true = refl
    by_last false = refl

plain : IsPlainUpper ghosts.machine ghosts.store ghosts.commands
plain u f kind whole = obeys u f

one_item : {X : Type 0} (xs : List X) (x : X) → 1 ≤ length xs → length xs < 2 → x ≡ slice_index_or xs 0 x → xs ≡ x ∷ []
one_item [] x h k e = absurd (omega (arith, h))
one_item (y ∷ []) x h k e = ap (λ z. z ∷ []) (sym e)
one_item (y ∷ z ∷ xs) x h k e = absurd (omega (arith, k))

pub returns : goal.returns
returns c =
    let id : List ℕ = c.in_ok-id.id in
    let l : Fronted Pad = c.front-item.result in
    let d : Fronted Pad = record { id = c.in_ok-new.field-0; front = Off; upper = record { ack = 170 } } in
    let was : c.put_in.new.self.listeners ≡ d ∷ [] = grind (arith, common_steps) in
    let kind : c.in_ok-pick.field-0 ≡ T2 = grind (arith, common_steps) in
    let list : c.pick.new.field.listeners ≡ l ∷ [] = sym c.listeners.ensures ∙ one_item c.listeners.result.now l c.in-len1.len_at_least c.in-len1.len_below c.front-item.is in
    let same : l.id ≡ id = sym c.id.ensures ∙ pointwise_path c.id.result.now id (sym c.eq.ensures ∙ c.if-eq.true) in
    let W : List (Fronted Pad) → List Card = λ ls. cards (fronts_are_ours ghosts.machine) ls in
    let T : List (Fronted Pad) → Type 0 = λ ls. AreTidy (fronts_are_polled laws) ls in
    let O : List (Fronted Pad) → Type 0 = λ ls. HaveOwnIdents (W ls) in
    let own : O (d ∷ []) = record { idents = (subst IsIdent (sym c.in_ok-new.ensures.ok) (c.in_ok-new.ensures.valid.0 refl), tt); distinct = (tt, tt) } in
    let K : Kind → Type 0 = λ k. LeavesActive id k (W c.put_in.new.self.listeners) (W c.pick.new.field.listeners) in
    let leaves : K T2 = subst K kind (c.in_ok-pick.ensures.crowd (fronts_are_polled laws) (subst T (sym was) ((λ t. inr refl), tt)) (subst O (sym was) own)) in
    let D : List (Fronted Pad) → Type 0 = λ ls. AreDistinct (W ls) in
    plain_at laws plain (W c.put_in.new.self.listeners) c.pick.new.field id [] l [] (subst D (sym was) (tt, tt)) leaves list same
