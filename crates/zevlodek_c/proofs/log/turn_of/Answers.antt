use Rattle.std.proofs.Common.{rules, ◌≡◌, ◌≤◌, List, ℕ, length, slice_index, subst, sym, ap, refl, arith, IsOk}
use Rattle.nfc_base.specs.Signal.{IsBadTail}
use Rattle.zevlodek_c.proofs.Spelled.{behind_command, said_is, right_tail}
use Rattle.zevlodek_c.proofs.log.turn_of.Goals as goal

-- src/log.rt:42:26
pub returns-in_err-answer-clause-none : goal.returns-in_err-answer-clause-none
returns-in_err-answer-clause-none c e t rest s =
    c.in_err-answer.ensures.none refl t.answer.bytes rest (omega (arith, s.answer.fits))
    (behind_command c.args.tech t c.args.log.now rest c.in_ok-command.command.now c.in_ok-command.rest.now s c.in_ok-command.ensures.some.0)

-- src/log.rt:44:18
pub returns-in_err-answer-2-clause-none : goal.returns-in_err-answer-2-clause-none
returns-in_err-answer-2-clause-none c e t rest s =
    let said : c.in_ok-answer.answer.now ≡ t.answer.bytes =
    said_is c.args.tech t c.args.log.now rest c.in_ok-command.command.now c.in_ok-command.rest.now c.in_ok-answer.answer.now c.in_ok-answer.rest.now s c.in_ok-command.ensures.some.0
    c.in_ok-answer.ensures.some.0 in
    let few : length c.in_ok-answer.answer.now ≤ 288 = subst (λ (l : List ℕ). length l ≤ 288) (sym said) s.answer.fits in
    let last : slice_index c.args.log.now 0 ≡ t.answer.tail = ap (λ l. slice_index l 0) s.bytes in
    let right : IsBadTail c.in_ok-answer.answer.now (slice_index c.args.log.now 0) → ⊥ = (λ bad. right_tail t.answer s.answer
    (subst (λ n. IsBadTail t.answer.bytes n) last (subst (λ (l : List ℕ). IsBadTail l (slice_index c.args.log.now 0)) said bad))) in
    let ok : IsOk c.part.result = c.part.ensures.fits.1 (few, right) in
    search rules
