use Rattle.std.proofs.Common.{◌≡◌, ℕ, List, None, sym, ◌∙◌, ap, subst}
use Rattle.std.proofs.lemmas.Bool.{iff_false}
use Rattle.air_core.specs.Listening.{said_at}
use Rattle.nfca_poll.specs.Calls.{Reading, call_of}
use Rattle.nfca_poll.specs.Front.{Idle, Sleep, front_says}
use Rattle.nfca_poll.specs.Fronted.{front_of}
use Rattle.nfca_poll.specs.Levels.{levels}
use Rattle.nfca_poll.specs.declared.front.FrontState.{FrontState}
use Rattle.nfca_poll.proofs.noise.Unwoken.{idle_silent, sleep_silent}
use Rattle.nfca_poll.proofs.front.step_at.Goals as goal

pub returns-else-is_sens_or_all-clause-answer : goal.returns-else-is_sens_or_all-clause-answer
returns-else-is_sens_or_all-clause-answer c =
    let ls : List (List ℕ) = levels c.args.id.now in
    let r : Reading = call_of c.args.frame.now in
    let P : FrontState → Type 0 = λ s. None ≡ front_says ls c.args.kind (front_of s) r in
    let silent : None ≡ front_says ls c.args.kind Idle r = sym (idle_silent ls c.args.kind r (iff_false c.is_sens_or_all.ensures c.if-is_sens_or_all.false)) in
    ap (λ b. said_at b c.args.answer.now) (ap (λ s. s.said) c.silent-else-is_sens_or_all.ensures) ∙ subst P (sym c.in-Idle.is) silent

pub returns-else-is_all-clause-answer : goal.returns-else-is_all-clause-answer
returns-else-is_all-clause-answer c =
    let ls : List (List ℕ) = levels c.args.id.now in
    let r : Reading = call_of c.args.frame.now in
    let P : FrontState → Type 0 = λ s. None ≡ front_says ls c.args.kind (front_of s) r in
    let silent : None ≡ front_says ls c.args.kind Sleep r = sym (sleep_silent ls c.args.kind r (iff_false c.is_all.ensures c.if-is_all.false)) in
    ap (λ b. said_at b c.args.answer.now) (ap (λ s. s.said) c.silent-else-is_all.ensures) ∙ subst P (sym c.in-Sleep.is) silent
