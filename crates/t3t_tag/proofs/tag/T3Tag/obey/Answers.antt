use Rattle.std.proofs.Common.{rules, ◌≡◌, ◌↔◌, IfSome, IsNone, refl, sym, ◌∙◌, ap, subst}
use Rattle.t3t_tag.specs.Spelling.{T3AnswerSpelling, answer_frame}
use Rattle.t3t_tag.specs.declared.answer.T3Answer.{T3Answer}
use Rattle.t3t_tag.specs.Store.{IsT3Store, IsT3State, IsSameTag}
use Rattle.t3t_tag.specs.Step.{T3Turn, silent, t3_turn, sent, t3_answer, t3_after, SpoilsStore}
use Rattle.t3t_tag.proofs.Bytes.{AreBytes}
use Rattle.t3t_tag.proofs.Steps.{same_tag, told_in_range, heard_again, silent_for_another}
use Rattle.t3t_tag.proofs.Overlong.{store_ruined}
use Rattle.t3t_tag.proofs.tag.T3Tag.obey.Goals as goal

pub returns-clause-range : goal.returns-clause-range
returns-clause-range c =
    let is : IsT3State c.args.self.now = search rules in
    let small : AreBytes c.args.request.now.bytes = search rules in
    let answer : c.hear_frame.result ≡ t3_answer c.args.self.now c.args.request.now = c.hear_frame.ensures.answer in
    subst (λ a. IfSome a (λ f. (b : T3Answer) × T3AnswerSpelling b f)) (sym answer) (told_in_range c.args.self.now is c.args.request.now small)

pub returns-clause-same : goal.returns-clause-same
returns-clause-same c =
    let small : AreBytes c.args.request.now.bytes = search rules in
    let step : c.hear_frame.new.self ≡ t3_after c.args.self.now c.args.request.now = c.hear_frame.ensures.step in
    subst (λ u. IsSameTag c.args.self.now u) (sym step) (same_tag c.args.self.now c.args.request.now small)

pub returns-clause-again : goal.returns-clause-again
returns-clause-again c =
    let is : IsT3State c.args.self.now = search rules in
    let small : AreBytes c.args.request.now.bytes = search rules in
    let step : c.hear_frame.new.self ≡ t3_after c.args.self.now c.args.request.now = c.hear_frame.ensures.step in
    subst (λ u. t3_turn u c.args.request.now ≡ t3_turn c.args.self.now c.args.request.now) (sym step) (heard_again c.args.self.now is.id c.args.request.now small)

pub returns-clause-store : goal.returns-clause-store
returns-clause-store c =
    let is : IsT3State c.args.self.now = search rules in
    let small : AreBytes c.args.request.now.bytes = search rules in
    let step : c.hear_frame.new.self ≡ t3_after c.args.self.now c.args.request.now = c.hear_frame.ensures.step in
    subst (λ u. IsT3Store c.args.self.now.store → ((IsT3Store u.store → ⊥) ↔ SpoilsStore c.args.self.now c.args.request.now)) (sym step)
    (store_ruined c.args.self.now c.args.request.now is.id small)

pub returns-clause-other : goal.returns-clause-other
returns-clause-other c is =
    let turn : t3_turn c.args.self.now c.args.request.now ≡ silent c.args.self.now = silent_for_another c.args.self.now c.args.request.now is in
    let answer : c.hear_frame.result ≡ t3_answer c.args.self.now c.args.request.now = c.hear_frame.ensures.answer in
    let step : c.hear_frame.new.self ≡ t3_after c.args.self.now c.args.request.now = c.hear_frame.ensures.step in
    (subst (λ o. IsNone o) (sym (answer ∙ ap (λ (r : T3Turn). sent r.answer) turn)) refl, step ∙ ap (λ (r : T3Turn). r.after) turn)
