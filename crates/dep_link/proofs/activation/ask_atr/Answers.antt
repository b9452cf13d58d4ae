use Rattle.std.proofs.Common.{ℕ, Result, Ok, Err, sym, ap, ◌∙◌}
use Rattle.nfc_base.specs.Signal.{Signal}
use Rattle.nfc_base.specs.declared.tag_link.AskFault.{AskFault}
use Rattle.nfc_base.specs.declared.carrier.EndCause.{EndCause}
use Rattle.nfc_base.specs.declared.carrier.EndCause.TheVariants as cause
use Rattle.air_core.proofs.FirstAnswers.{told_as}
use Rattle.air_core.proofs.ListenerLaws.{laws_of}
use Rattle.arrayvec.specs.ArrayVec.{ArrayVec}
use Rattle.dep_link.specs.Initiator.{InitState}
use Rattle.dep_link.specs.AnyTarget.{told_initiator, cause_of, told_first}
use Rattle.dep_link.proofs.ActivateLaw.{asked_atr}
use Rattle.dep_link.proofs.activation.ask_atr.Goals as goal

abbrev told : Result Signal AskFault → Result (InitState × ArrayVec ℕ) EndCause
told = told_as told_first (λ fault. Err (cause_of fault))

pub returns-in-Some : goal.returns-in-Some
returns-in-Some g c =
    let x = asked_atr g.L.Listener (laws_of g.met.L.Listener) g.L.PeerListener.target _ _ _ _ _ c.args.general.now c.requires _ _ _ _ c.atr_frame.ensures _ c.ask_first.ensures.turns
    (Ok (c.new.result, c.in-Some.general))
    (ap told c.in-Ok.is ∙ ap told_initiator (sym c.told_atr.ensures.value ∙ c.in-Some.is) ∙ ap (λ (i : InitState). Ok (i, c.in-Some.general)) (sym c.new.ensures)) in
    record { turns = x.0; ends = x.1 }

pub returns-in-None : goal.returns-in-None
returns-in-None g c =
    let x = asked_atr g.L.Listener (laws_of g.met.L.Listener) g.L.PeerListener.target _ _ _ _ _ c.args.general.now c.requires _ _ _ _ c.atr_frame.ensures _ c.ask_first.ensures.turns
    (Err cause.Protocol) (ap told c.in-Ok.is ∙ ap told_initiator (sym c.told_atr.ensures.value ∙ c.in-None.is)) in
    record { turns = x.0; ends = x.1 }

pub returns-in-Err : goal.returns-in-Err
returns-in-Err g c =
    let x = asked_atr g.L.Listener (laws_of g.met.L.Listener) g.L.PeerListener.target _ _ _ _ _ c.args.general.now c.requires _ _ _ _ c.atr_frame.ensures _ c.ask_first.ensures.turns
    (Err c.cause_of.result) (ap told c.in-Err.is ∙ ap (λ (e : EndCause). Err e) (sym c.cause_of.ensures)) in
    record { turns = x.0; ends = x.1 }
