use Rattle.std.proofs.Common.{rules, ◌≡◌, ◌∷◌, Some, take, filter_map}
use Rattle.llcp_pdu.specs.Views.{params_in, shown_param}
use Rattle.llcp_link.specs.private.Answers.{put_one}
use Rattle.llcp_link.specs.Names.{answer_to}
use Rattle.llcp_link.proofs.SdAnswers.{goes_on}
use Rattle.llcp_link.proofs.discovery.answers_to.Goals as goal

pub params-preserved-in-Continue-1 : goal.params-preserved-in-Continue-1
params-preserved-in-Continue-1 c =
    let f = answer_to c.args.bound.now in
    let most = c.args.most in
    let had = c.params.answers.items in
    let new = c.put_answer.new.answers.items in
    let left = params_in c.params.param-iterator in
    let ps = params_in c.next.new.self in
    let all = take most (filter_map f (params_in c.args.params.now)) in
    let p = shown_param c.in-Some.param in
    let e : left ≡ p ∷ ps = search rules in
    let a : f p ≡ Some c.in-Some-answer_to.answer = search rules in
    let n : new ≡ put_one most c.in-Some-answer_to.answer had = search rules in
    record { answers = goes_on f most had new left ps all p c.in-Some-answer_to.answer c.params.invariant.answers e a c.params.invariant.all.few n; all = search rules }
