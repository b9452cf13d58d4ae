use Rattle.std.proofs.Common.{rules, refl, sym, ◌∙◌, ap, subst}
use Rattle.nfc_base.specs.Choosing.{Choosing}
use Rattle.air_core.proofs.PlainAside.{Laws}
use Rattle.dep_link.specs.DepLinks.{seen_pair}
use Rattle.snep_core.specs.Accord.{AsideFails, IsClosed, PeerState}
use Rattle.snep_core.specs.Talk.{Ends, all_closed, closes}
use Rattle.snep_core.proofs.accord.Peers.{counted_is_peer}
use Rattle.link_calls.specs.Closing.{ClosingFails, IsReleased}
use Rattle.link_calls.proofs.Made.{given_back, made}
use Rattle.link_calls.proofs.Closed.{closing_failed, released, release_failed}
use Rattle.link_calls.proofs.Silent.{takes_rls, aside_fails}
use Rattle.link_calls.proofs.closing.close_and_release.Given as given
use Rattle.link_calls.proofs.closing.close_and_release.Goals as goal

laws : (g : given.Over) → Laws g.L.Listener
laws g = record {
  step_keeps = g.met.L.Listener.step_keeps;
  dark_keeps = g.met.L.Listener.dark_keeps;
  dark_rests = g.met.L.Listener.dark_rests;
  rests = g.met.L.Listener.rests;
  ignores = g.met.L.Listener.ignores;
}

pub returns-in-Err-clause-err : goal.returns-in-Err-clause-err
returns-in-Err-clause-err g c =
    let from = closes c.args.client.now.llc in
    given_back (λ a i. ClosingFails g.L.Listener g.L.PeerListener.target c.args.counts from c.args.field.now c.args.initiator.now c.args.far.now a c.close.new.far c.close.new.self.llc i
    c.in-Err.fault)
    c.close.new.carrier.field.now _ c.close.new.carrier.initiator.now _ (search rules) (search rules)
    (closing_failed g.L.Listener g.L.PeerListener.target (seen_pair {L = g.row.L.Denot}) (laws g) c.on-pair.result c.close.new.carrier c.args.far.now c.close.new.far c.args.field.now
    c.args.initiator.now
    c.on-pair.ensures.fresh c.requires.open_ c.close.ensures.ready c.args.counts from c.close.new.self.llc c.in-Err.fault (c.in-Err.ensures.err c.requires.going))

pub returns-in-Err-clause-fails : goal.returns-in-Err-clause-fails
returns-in-Err-clause-fails g c = λ accords quiet. c.in-Err.ensures.fails (λ p. p.end) counted_is_peer accords

pub returns-in-Err-release-clause-err : goal.returns-in-Err-release-clause-err
returns-in-Err-release-clause-err g c =
    let from = closes c.args.client.now.llc in
    given_back (λ a i. ClosingFails g.L.Listener g.L.PeerListener.target c.args.counts from c.args.field.now c.args.initiator.now c.args.far.now a c.release.new.far c.close.new.self.llc i
    c.fault_at.result)
    c.release.new.pair.0 _ c.close.new.carrier.initiator.now _ (search rules) (search rules)
    (subst (ClosingFails g.L.Listener g.L.PeerListener.target c.args.counts from c.args.field.now c.args.initiator.now c.args.far.now c.release.new.pair.0 c.release.new.far c.close.new.self.llc
    c.close.new.carrier.initiator.now)
    (sym c.fault_at.ensures)
    (release_failed g.L.Listener g.L.PeerListener.target (seen_pair {L = g.row.L.Denot}) (laws g) c.on-pair.result c.close.new.carrier c.args.far.now c.close.new.far c.args.field.now
    c.args.initiator.now
    c.on-pair.ensures.fresh c.requires.open_ c.close.ensures.ready c.args.counts from all_closed c.close.new.self.llc c.in-Ok.ensures.ok (λ p. p.end.stuck) c.release.new.pair.0 c.release.new.far
    (λ quiet. c.in-Err-release.ensures.stays (takes_rls g.L.Listener g.L.PeerListener.target c.close.new.carrier.field.now c.close.new.carrier.initiator.now
    (made g.L.Listener g.L.PeerListener.target (seen_pair {L = g.row.L.Denot}) (laws g) c.on-pair.result c.close.new.carrier c.args.far.now c.close.new.far c.args.field.now c.args.initiator.now
    c.on-pair.ensures.fresh c.requires.open_ c.close.ensures.ready c.args.counts from (Ends all_closed c.close.new.self.llc) c.in-Ok.ensures.ok (λ left. refl)).open_.in_step quiet))
    c.in-Err-release.end.answered c.in-Err-release.end.cause c.in-Err-release.ensures.turn))

pub returns-in-Ok-release-clause-ok : goal.returns-in-Ok-release-clause-ok
returns-in-Ok-release-clause-ok g c =
    let from = closes c.args.client.now.llc in
    given_back (λ a i. IsReleased g.L.Listener g.L.PeerListener.target c.args.counts from c.args.field.now c.args.initiator.now c.args.far.now a c.release.new.far
    (Ends all_closed c.close.new.self.llc))
    c.release.new.pair.0 _ c.close.new.carrier.initiator.now c.close.new.carrier.initiator.now (search rules) refl
    (released g.L.Listener g.L.PeerListener.target (seen_pair {L = g.row.L.Denot}) (laws g) c.on-pair.result c.close.new.carrier c.args.far.now c.close.new.far c.args.field.now c.args.initiator.now
    c.on-pair.ensures.fresh c.requires.open_ c.close.ensures.ready c.args.counts from all_closed c.close.new.self.llc c.in-Ok.ensures.ok (λ p. p.end.stuck) c.release.new.pair.0 c.release.new.far
    (λ quiet. c.in-Ok-release.ensures.stays (takes_rls g.L.Listener g.L.PeerListener.target c.close.new.carrier.field.now c.close.new.carrier.initiator.now
    (made g.L.Listener g.L.PeerListener.target (seen_pair {L = g.row.L.Denot}) (laws g) c.on-pair.result c.close.new.carrier c.args.far.now c.close.new.far c.args.field.now c.args.initiator.now
    c.on-pair.ensures.fresh c.requires.open_ c.close.ensures.ready c.args.counts from (Ends all_closed c.close.new.self.llc) c.in-Ok.ensures.ok (λ left. refl)).open_.in_step quiet))
    c.in-Ok-release.ensures.turn)

pub returns-in-Ok-release-clause-closed : goal.returns-in-Ok-release-clause-closed
returns-in-Ok-release-clause-closed g c = λ accords quiet.
    let open_ = (made g.L.Listener g.L.PeerListener.target (seen_pair {L = g.row.L.Denot}) (laws g) c.on-pair.result c.close.new.carrier c.args.far.now c.close.new.far c.args.field.now
    c.args.initiator.now
    c.on-pair.ensures.fresh c.requires.open_ c.close.ensures.ready c.args.counts (closes c.args.client.now.llc) (Ends all_closed c.close.new.self.llc) c.in-Ok.ensures.ok (λ left. refl)).open_ in
    subst (λ p. IsClosed c.args.far.now.end c.close.new.self.llc p.end)
    (sym (c.in-Ok-release.ensures.stays (takes_rls g.L.Listener g.L.PeerListener.target c.close.new.carrier.field.now c.close.new.carrier.initiator.now open_.in_step quiet)))
    (c.in-Ok.ensures.closed (λ p. p.end) counted_is_peer accords)

pub returns-in-Err-release-clause-fails : goal.returns-in-Err-release-clause-fails
returns-in-Err-release-clause-fails g c = λ accords quiet.
    let open_ = (made g.L.Listener g.L.PeerListener.target (seen_pair {L = g.row.L.Denot}) (laws g) c.on-pair.result c.close.new.carrier c.args.far.now c.close.new.far c.args.field.now
    c.args.initiator.now
    c.on-pair.ensures.fresh c.requires.open_ c.close.ensures.ready c.args.counts (closes c.args.client.now.llc) (Ends all_closed c.close.new.self.llc) c.in-Ok.ensures.ok (λ left. refl)).open_ in
    let same = c.in-Err-release.ensures.stays (takes_rls g.L.Listener g.L.PeerListener.target c.close.new.carrier.field.now c.close.new.carrier.initiator.now open_.in_step quiet) in
    let closed = c.in-Ok.ensures.closed (λ p. p.end) counted_is_peer accords in
    subst (λ e. AsideFails c.args.far.now.end e c.release.new.far.end) (sym c.fault_at.ensures)
    (aside_fails c.args.far.now.end c.release.new.far.end c.in-Err-release.end.cause (ap (λ (p : Choosing PeerState). p.end.service.accepted) same ∙ ap (λ s. s.accepted) closed.aside.service))
