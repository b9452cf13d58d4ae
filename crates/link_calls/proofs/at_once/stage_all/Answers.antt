use Rattle.std.proofs.Common.{rules, ◌≡◌, ◌<◌, ◌+◌, ℕ, List, ◌∷◌, drop, length, refl, sym, ◌∙◌, ap, subst, arith}
use Rattle.std.proofs.lemmas.List.{drop_more}
use Rattle.snep_core.specs.declared.slot.Slot.{Slot}
use Rattle.snep_core.specs.Slots.{staged_on}
use Rattle.link_calls.specs.AtOnce.{AreApart, EachOf, all_staged}
use Rattle.link_calls.specs.declared.request.SlotMessage.{SlotMessage}
use Rattle.link_calls.proofs.AtOnce.{IsFree, all_free, still_free}
use Rattle.link_calls.proofs.at_once.stage_all.Goals as goal

pub loop-one-init : goal.loop-one-init
loop-one-init c = record {
  llc = refl;
  going = c.requires.going;
  slots = refl;
  free = all_free c.args.client.now.slots c.requires.rest.none c.args.messages.now;
  apart = c.requires.apart;
}

pub loop-one-preserved : goal.loop-one-preserved
loop-one-preserved c =
    let i : ℕ = c.loop-one.one-index in
    let ms : List SlotMessage = c.args.messages.now in
    let w : SlotMessage = c.one-item.result in
    let old : List Slot = c.loop-one.client.slots in
    let within : i < length ms = omega (arith, c.loop-one-test.true) in
    let left : drop i ms ≡ w ∷ drop (i + 1) ms = drop_more ms i w within ∙ ap (λ z. z ∷ drop (i + 1) ms) (sym c.one-item.is) in
    let free : EachOf (IsFree old) (w ∷ drop (i + 1) ms) = subst (EachOf (IsFree old)) left c.loop-one.invariant.free in
    let apart : AreApart (w ∷ drop (i + 1) ms) = subst AreApart left c.loop-one.invariant.apart in
    let now : c.stage.new.self.slots ≡ staged_on old w.slot w.message = search rules in
    record {
      llc = search rules;
      going = search rules;
      slots = ap (all_staged (drop (i + 1) ms)) now ∙ sym (ap (λ ws. all_staged ws old) left) ∙ c.loop-one.invariant.slots;
      free = subst (λ xs. EachOf (IsFree xs) (drop (i + 1) ms)) (sym now) (still_free old w.slot w.message (drop (i + 1) ms) apart.2 free.1);
      apart = apart.3;
    }
