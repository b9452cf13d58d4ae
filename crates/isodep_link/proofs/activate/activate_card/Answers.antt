use Rattle.std.proofs.Common.{rules, ◌≡◌, ℕ, Result, Err, sym, ap, ◌∙◌}
use Rattle.nfc_base.specs.Signal.{Signal}
use Rattle.nfc_base.specs.declared.tag_link.AskFault.{AskFault}
use Rattle.air_core.proofs.FirstAnswers.{told_as}
use Rattle.air_core.proofs.ListenerLaws.{laws_of}
use Rattle.isodep_link.specs.Activating.{told_code, told_ats}
use Rattle.isodep_link.proofs.ActivateLaw.{asked_rats}
use Rattle.isodep_link.proofs.activate.activate_card.Goals as goal

abbrev told : Result Signal AskFault → Result ℕ AskFault
told = told_as told_ats (λ fault. Err fault)

pub returns-in_err-answer : goal.returns-in_err-answer
returns-in_err-answer g c =
    let same : Err c.in_err-answer.field-0.0 ≡ c.from_residual.result = search rules in
    let x = asked_rats g.L.Listener (laws_of g.met.L.Listener) g.L.CardListener.card g.L.CardListener.tag g.met.L.CardListener.holds _ _ (λ a b p h. h) c.args.field.now c.args.place _ _ _ _
    c.rats.ensures _ c.ask_first.ensures.turns c.from_residual.result (ap told c.in_err-answer.was ∙ same) in
    record { turns = x.0; ends = x.1 }

pub returns : goal.returns
returns g c =
    let same : told_code c.ats_code.result ≡ c.ok_or.result = search rules in
    let x = asked_rats g.L.Listener (laws_of g.met.L.Listener) g.L.CardListener.card g.L.CardListener.tag g.met.L.CardListener.holds _ _ (λ a b p h. h) c.args.field.now c.args.place _ _ _ _
    c.rats.ensures _ c.ask_first.ensures.turns c.ok_or.result (ap told c.in_ok-answer.was ∙ ap told_code (sym c.ats_code.ensures) ∙ same) in
    record { turns = x.0; ends = x.1 }
