use Rattle.std.proofs.Common.{rules, [], IfErr, IfOk}
use Rattle.std.proofs.lemmas.Result.{IfErr-weaker, IfOk-weaker}
use Rattle.air_core.proofs.PlainAside.{Laws}
use Rattle.dep_link.specs.DepLinks.{seen_pair}
use Rattle.link_calls.specs.Carrying.{IsWalked, IsWalkCut}
use Rattle.link_calls.specs.Exchanging.{by_hand, sending}
use Rattle.link_calls.proofs.Made.{given_back}
use Rattle.link_calls.proofs.Walked.{came, cut_off_by}
use Rattle.link_calls.proofs.exchanging.exchange_all.Given as given
use Rattle.link_calls.proofs.exchanging.exchange_all.Goals as goal

laws : (g : given.Over) → Laws g.L.Listener
laws g = record {
  step_keeps = g.met.L.Listener.step_keeps;
  dark_keeps = g.met.L.Listener.dark_keeps;
  dark_rests = g.met.L.Listener.dark_rests;
  rests = g.met.L.Listener.rests;
  ignores = g.met.L.Listener.ignores;
}

pub returns-clause-ok : goal.returns-clause-ok
returns-clause-ok g c =
    let from = sending c.args.payloads.now [] in
    given_back (λ a i. IfOk c.swap_each.result (λ replies. IsWalked g.L.Listener g.L.PeerListener.target by_hand from c.args.field.now c.args.initiator.now c.args.far.now a i c.swap_each.new.far
    replies))
    c.swap_each.new.carrier.field.now _ c.swap_each.new.carrier.initiator.now _ (search rules) (search rules)
    (IfOk-weaker c.swap_each.result _ _ (λ replies t. came g.L.Listener g.L.PeerListener.target (seen_pair {L = g.row.L.Denot}) by_hand (laws g) c.on-pair.result c.swap_each.new.carrier c.args.far.now
    c.swap_each.new.far
    c.args.field.now c.args.initiator.now c.on-pair.ensures.fresh c.requires.open_ c.swap_each.ensures.ready from replies t) c.swap_each.ensures.ok)

pub returns-clause-err : goal.returns-clause-err
returns-clause-err g c =
    let from = sending c.args.payloads.now [] in
    given_back (λ a i. IfErr c.swap_each.result (λ cause. IsWalkCut g.L.Listener g.L.PeerListener.target by_hand from c.args.field.now c.args.initiator.now c.args.far.now a i c.swap_each.new.far
    cause))
    c.swap_each.new.carrier.field.now _ c.swap_each.new.carrier.initiator.now _ (search rules) (search rules)
    (IfErr-weaker c.swap_each.result _ _ (λ cause t. cut_off_by g.L.Listener g.L.PeerListener.target (seen_pair {L = g.row.L.Denot}) by_hand (laws g) c.on-pair.result c.swap_each.new.carrier
    c.args.far.now c.swap_each.new.far
    c.args.field.now c.args.initiator.now c.on-pair.ensures.fresh c.requires.open_ c.swap_each.ensures.ready from cause t) c.swap_each.ensures.err)
