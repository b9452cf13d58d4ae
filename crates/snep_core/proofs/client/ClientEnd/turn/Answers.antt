use Rattle.std.proofs.Common.{Option, ap, sym, subst, ◌∙◌}
use Rattle.snep_core.specs.declared.job.HeardAll.{HeardAll}
use Rattle.snep_core.specs.Listening.{HearsAll, forgets}
use Rattle.snep_core.proofs.jobs.Talking.{apart_awaited, heard_saps, turned_none, turned_some}
use Rattle.snep_core.proofs.client.ClientEnd.turn.Goals as goal

pub all_hear-requires : goal.all_hear-requires
all_hear-requires g c = record {
  apart = apart_awaited g.C.Carrier.seen g.C.Carrier.swaps g.A.Answerer.steps g.A.Answerer.stops c.args.carrier.now c.args.far.now c.exchange.new.carrier
      c.exchange.new.far c.args.self.now.llc c.all_ready.new.self.llc c.exchange.new.self.llc c.args.jobs.items c.in-Ok.now.items c.args.idle c.in-Ok.ensures.ok
      c.args.count c.in-Ok-exchange.all.items c.in-Ok-exchange.ensures.ok c.requires.apart;
}

pub settle-requires-clause-saps : goal.settle-requires-clause-saps
settle-requires-clause-saps g c =
    let h =
    subst (λ (o : Option HeardAll). HearsAll c.exchange.new.self.llc c.in-Ok-exchange.all.items o c.all_hear.new.self.llc) c.in-Ok-Some.field-0-is
    c.in-Ok-Some.ensures.ok in
    c.requires.saps
    ∙ sym (heard_saps g.C.Carrier.seen g.C.Carrier.swaps g.A.Answerer.steps g.A.Answerer.stops c.args.carrier.now c.args.far.now c.exchange.new.carrier
    c.exchange.new.far c.args.self.now.llc c.all_ready.new.self.llc c.exchange.new.self.llc c.args.jobs.items c.in-Ok.now.items c.args.idle c.in-Ok.ensures.ok
    c.args.count c.in-Ok-exchange.all.items c.in-Ok-exchange.ensures.ok c.in-Ok-Some.heard c.all_hear.new.self.llc h)

pub returns-in-Ok-None-clause-ok : goal.returns-in-Ok-None-clause-ok
returns-in-Ok-None-clause-ok g c =
    let h =
    subst (λ (o : Option HeardAll). HearsAll c.exchange.new.self.llc c.in-Ok-exchange.all.items o c.all_hear.new.self.llc) c.in-Ok-None.field-0-is
    c.in-Ok-None.ensures.ok in
    turned_none g.C.Carrier.seen g.C.Carrier.swaps g.A.Answerer.steps g.A.Answerer.stops c.args.carrier.now c.args.far.now c.exchange.new.carrier
    c.exchange.new.far c.args.self.now.llc c.all_ready.new.self.llc c.exchange.new.self.llc c.args.jobs.items c.in-Ok.now.items c.args.idle c.in-Ok.ensures.ok
    c.args.count c.in-Ok-exchange.all.items c.in-Ok-exchange.ensures.ok c.all_hear.new.self.llc c.forget_all.new.self.llc h
    (c.forget_all.ensures.forgot ∙ ap (λ ss. forgets ss c.all_hear.new.self.llc) c.requires.saps)

pub returns-in-Ok-Some-clause-ok : goal.returns-in-Ok-Some-clause-ok
returns-in-Ok-Some-clause-ok g c =
    let h =
    subst (λ (o : Option HeardAll). HearsAll c.exchange.new.self.llc c.in-Ok-exchange.all.items o c.all_hear.new.self.llc) c.in-Ok-Some.field-0-is
    c.in-Ok-Some.ensures.ok in
    turned_some g.C.Carrier.seen g.C.Carrier.swaps g.A.Answerer.steps g.A.Answerer.stops c.args.carrier.now c.args.far.now c.exchange.new.carrier
    c.exchange.new.far c.args.self.now.llc c.all_ready.new.self.llc c.exchange.new.self.llc c.args.jobs.items c.in-Ok.now.items c.args.idle c.in-Ok.ensures.ok
    c.args.count c.in-Ok-exchange.all.items c.in-Ok-exchange.ensures.ok c.in-Ok-Some.heard c.all_hear.new.self.llc h c.settle.result c.settle.new.self.llc
    c.settle.ensures.step
