use Rattle.std.proofs.Common.{rules, ◌≡◌, ◌∙◌, true, List, ℕ, Some, ap}
use Rattle.air_core.specs.Listening.{Step}
use Rattle.dep_link.specs.Frames.{air_frame}
use Rattle.dep_link.specs.Target.{target_table, replied, reply_frame}
use Rattle.dep_link.specs.declared.target.TargetStep.TheVariants.{Deliver}
use Rattle.dep_link.specs.laws.Delivering.{delivers_step}
use Rattle.link_tests.proofs.phone.PhoneListener.hear.Goals as goal

pub returns-else-is_err-clause-ok : goal.returns-else-is_err-clause-ok
returns-else-is_err-clause-ok g c =
    let l = c.args.self.now in
    let r : List ℕ = c.answer.new.reply.items in
    let on : l.lit ≡ true = search rules in
    let e : target_table l.target c.args.frame.now ≡ record { state = c.hear.new.self; does = Deliver c.in-Deliver.payload } = search rules in
    let d : g.A.Answerer.steps c.args.far.now c.in-Deliver.payload.items r c.answer.new.self = search rules in
    let a : c.reply-in-Deliver.result ≡ air_frame (reply_frame c.hear.new.self r) = search rules in
    let b : c.reply-in-Deliver.new.self ≡ replied c.hear.new.self r = search rules in
    let s = delivers_step g.A.Answerer.restarts g.A.Answerer.steps l.lit l.target c.hear.new.self c.args.frame.now c.in-Deliver.payload r c.args.far.now c.answer.new.self on e d
    (g.met.A.Answerer.fits c.args.far.now c.in-Deliver.payload.items r c.answer.new.self d) in record {
      reply = Some r;
      far = s.0;
      says = ap Some a ∙ s.1;
      left = ap (λ t. record l { target = t }) (b ∙ s.2);
    }
