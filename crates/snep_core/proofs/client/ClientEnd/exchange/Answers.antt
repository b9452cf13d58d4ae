use Rattle.std.proofs.Common.{rules, ◌≡◌, subst, sym}
use Rattle.llcp_link.specs.Answering.{Gives}
use Rattle.llcp_link.specs.Taking.{taken_from}
use Rattle.snep_core.specs.Listening.{all_awaiting}
use Rattle.snep_core.specs.Talk.{silent}
use Rattle.snep_core.proofs.jobs.Cutting.{cut_failed, cut_unread, exchanged}
use Rattle.snep_core.proofs.client.ClientEnd.exchange.Goals as goal

pub returns-in-Err-swap-clause-err : goal.returns-in-Err-swap-clause-err
returns-in-Err-swap-clause-err g c =
    let gives : Gives silent c.args.count c.args.self.now.llc c.give.new.target.items c.give.new.self = search rules in
    let sent : Gives silent c.args.count c.args.self.now.llc c.deref.result.now c.give.new.self =
    subst (λ b. Gives silent c.args.count c.args.self.now.llc b c.give.new.self) (sym c.deref.ensures.value) gives in
    let kept : c.ended.new.self.llc ≡ c.give.new.self = search rules in
    cut_failed g.C.Carrier.seen g.C.Carrier.swaps g.A.Answerer.steps g.A.Answerer.stops c.args.carrier.now c.args.far.now c.swap.new.self
    c.swap.new.far c.args.self.now.llc c.give.new.self c.args.count c.deref.result.now sent c.ended.new.self.llc kept c.ended.result c.in-Err-swap.end c.swap.result c.in-Err-swap.is
    c.ended.ensures.fault
    c.in-Err-swap.ensures.err c.swap.ensures.ended c.in-Err-swap.ensures.failed

pub returns-then-is_err-2-clause-err : goal.returns-then-is_err-2-clause-err
returns-then-is_err-2-clause-err g c =
    let gives : Gives silent c.args.count c.args.self.now.llc c.give.new.target.items c.give.new.self = search rules in
    let sent : Gives silent c.args.count c.args.self.now.llc c.deref.result.now c.give.new.self =
    subst (λ b. Gives silent c.args.count c.args.self.now.llc b c.give.new.self) (sym c.deref.ensures.value) gives in
    cut_unread g.C.Carrier.seen g.C.Carrier.swaps g.A.Answerer.steps g.A.Answerer.stops c.args.carrier.now c.args.far.now c.swap.new.self
    c.swap.new.far c.args.self.now.llc c.give.new.self c.args.count c.deref.result.now sent c.spend-then-is_err-2.new.self.llc c.spend-then-is_err-2.result c.in-Ok-swap.reply.items
    c.spend-then-is_err-2.ensures.fault c.in-Ok-swap.ensures.ok c.in-Ok-swap.ensures.swapped

pub returns-clause-ok : goal.returns-clause-ok
returns-clause-ok g c =
    let gives : Gives silent c.args.count c.args.self.now.llc c.give.new.target.items c.give.new.self = search rules in
    let sent : Gives silent c.args.count c.args.self.now.llc c.deref.result.now c.give.new.self =
    subst (λ b. Gives silent c.args.count c.args.self.now.llc b c.give.new.self) (sym c.deref.ensures.value) gives in
    let read : c.take.new.self ≡ taken_from silent c.give.new.self c.in-Ok-swap.reply.items = search (rules, c.awaiting.ensures.same) in
    let awaited : c.in-Ok.all.items ≡ all_awaiting c.give.new.self c.args.jobs.items = search rules in
    exchanged g.C.Carrier.seen g.C.Carrier.swaps g.A.Answerer.steps g.A.Answerer.stops c.args.carrier.now c.args.far.now c.swap.new.self
    c.swap.new.far c.args.self.now.llc c.give.new.self c.args.count c.deref.result.now sent c.args.jobs.items c.in-Ok-swap.reply.items
    c.in-Ok.all.items c.take.new.self
    c.in-Ok-swap.ensures.ok c.in-Ok-swap.ensures.swapped read awaited
