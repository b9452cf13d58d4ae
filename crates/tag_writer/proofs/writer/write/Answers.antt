use Rattle.std.proofs.Common.{inl, inr, subst}
use Rattle.nfc_base.specs.TagLinks.{LinkView}
use Rattle.tag_writer.specs.Commands.{all_commands}
use Rattle.tag_writer.specs.WriteHeard.{AreAcknowledged, StopsAmong}
use Rattle.tag_writer.specs.WriteTold.{IsPlannedBy}
use Rattle.tag_writer.proofs.Grounded.{work_kind, of_planned}
use Rattle.tag_writer.proofs.Wholes.{Stops, Succeeds, stops_for, succeeds_for, unwritten}
use Rattle.tag_writer.proofs.writer.write.Goals as goal

pub returns-in-Err-clause-law : goal.returns-in-Err-clause-law
returns-in-Err-clause-law g c size is =
    let a : LinkView = g.T.TagLink.seen c.args.link.now in
    let b : LinkView = g.T.TagLink.seen c.prepare.new.link in
    let h = c.in-Err.ensures in
    let s : Stops c.args.how size c.args.message.now a b c.in-Err.fault = unwritten c.args.how size c.args.message.now a b c.in-Err.fault (h.stays size is) (h.asked size is) (h.whole size is)
    (h.goes_on size is) (h.untaken size is) (h.err size is) in
    s.keeps

pub returns-in-Err-clause-whole : goal.returns-in-Err-clause-whole
returns-in-Err-clause-whole g c size is =
    let a : LinkView = g.T.TagLink.seen c.args.link.now in
    let b : LinkView = g.T.TagLink.seen c.prepare.new.link in
    let h = c.in-Err.ensures in
    let s : Stops c.args.how size c.args.message.now a b c.in-Err.fault = unwritten c.args.how size c.args.message.now a b c.in-Err.fault (h.stays size is) (h.asked size is) (h.whole size is)
    (h.goes_on size is) (h.untaken size is) (h.err size is) in
    s.whole

pub returns-in-Ok-open-clause-law : goal.returns-in-Ok-open-clause-law
returns-in-Ok-open-clause-law g c size is =
    let a : LinkView = g.T.TagLink.seen c.args.link.now in
    let b : LinkView = g.T.TagLink.seen c.open.new.link in
    let p = c.in-Ok.ensures.ok size is in
    let s : Succeeds c.args.how size c.args.message.now a b = succeeds_for p.job c.args.how size c.args.message.now a b p.kind p.sized p.new p.at.serves p.since.store
    (c.in-Ok-open.ensures.ends.ok p.job a p.at p.since) (c.in-Ok-open.ensures.ends.new p.job p.at) in
    s.keeps

pub returns-in-Ok-open-clause-asked : goal.returns-in-Ok-open-clause-asked
returns-in-Ok-open-clause-asked g c size is =
    let a : LinkView = g.T.TagLink.seen c.args.link.now in
    let b : LinkView = g.T.TagLink.seen c.open.new.link in
    let p = c.in-Ok.ensures.ok size is in
    let s : Succeeds c.args.how size c.args.message.now a b = succeeds_for p.job c.args.how size c.args.message.now a b p.kind p.sized p.new p.at.serves p.since.store
    (c.in-Ok-open.ensures.ends.ok p.job a p.at p.since) (c.in-Ok-open.ensures.ends.new p.job p.at) in
    s.asked

pub returns-in-Ok-open-clause-whole : goal.returns-in-Ok-open-clause-whole
returns-in-Ok-open-clause-whole g c size is =
    let a : LinkView = g.T.TagLink.seen c.args.link.now in
    let b : LinkView = g.T.TagLink.seen c.open.new.link in
    let p = c.in-Ok.ensures.ok size is in
    let s : Succeeds c.args.how size c.args.message.now a b = succeeds_for p.job c.args.how size c.args.message.now a b p.kind p.sized p.new p.at.serves p.since.store
    (c.in-Ok-open.ensures.ends.ok p.job a p.at p.since) (c.in-Ok-open.ensures.ends.new p.job p.at) in
    s.whole

pub returns-in-Ok-open-clause-goes_on : goal.returns-in-Ok-open-clause-goes_on
returns-in-Ok-open-clause-goes_on g c size is =
    let a : LinkView = g.T.TagLink.seen c.args.link.now in
    let b : LinkView = g.T.TagLink.seen c.open.new.link in
    let p = c.in-Ok.ensures.ok size is in
    let s : Succeeds c.args.how size c.args.message.now a b = succeeds_for p.job c.args.how size c.args.message.now a b p.kind p.sized p.new p.at.serves p.since.store
    (c.in-Ok-open.ensures.ends.ok p.job a p.at p.since) (c.in-Ok-open.ensures.ends.new p.job p.at) in
    s.goes_on

pub returns-in-Ok-open-clause-ok : goal.returns-in-Ok-open-clause-ok
returns-in-Ok-open-clause-ok g c size is =
    let a : LinkView = g.T.TagLink.seen c.args.link.now in
    let b : LinkView = g.T.TagLink.seen c.open.new.link in
    let p = c.in-Ok.ensures.ok size is in
    let s : Succeeds c.args.how size c.args.message.now a b = succeeds_for p.job c.args.how size c.args.message.now a b p.kind p.sized p.new p.at.serves p.since.store
    (c.in-Ok-open.ensures.ends.ok p.job a p.at p.since) (c.in-Ok-open.ensures.ends.new p.job p.at) in
    s.succeeded

pub returns-in-Err-open-clause-law : goal.returns-in-Err-open-clause-law
returns-in-Err-open-clause-law g c size is =
    let a : LinkView = g.T.TagLink.seen c.args.link.now in
    let b : LinkView = g.T.TagLink.seen c.open.new.link in
    let p = c.in-Ok.ensures.ok size is in
    let s : Stops c.args.how size c.args.message.now a b c.in-Err-open.stopped.cause = stops_for p.job c.args.how size c.args.message.now a b c.in-Err-open.stopped.cause p.kind p.sized p.new
    p.at.serves p.since.store (c.in-Err-open.ensures.ends.err p.job a p.at p.since) in
    s.keeps

pub returns-in-Err-open-clause-asked : goal.returns-in-Err-open-clause-asked
returns-in-Err-open-clause-asked g c size is =
    let a : LinkView = g.T.TagLink.seen c.args.link.now in
    let b : LinkView = g.T.TagLink.seen c.open.new.link in
    let p = c.in-Ok.ensures.ok size is in
    let s : Stops c.args.how size c.args.message.now a b c.in-Err-open.stopped.cause = stops_for p.job c.args.how size c.args.message.now a b c.in-Err-open.stopped.cause p.kind p.sized p.new
    p.at.serves p.since.store (c.in-Err-open.ensures.ends.err p.job a p.at p.since) in
    s.asked

pub returns-in-Err-open-clause-whole : goal.returns-in-Err-open-clause-whole
returns-in-Err-open-clause-whole g c size is =
    let a : LinkView = g.T.TagLink.seen c.args.link.now in
    let b : LinkView = g.T.TagLink.seen c.open.new.link in
    let p = c.in-Ok.ensures.ok size is in
    let s : Stops c.args.how size c.args.message.now a b c.in-Err-open.stopped.cause = stops_for p.job c.args.how size c.args.message.now a b c.in-Err-open.stopped.cause p.kind p.sized p.new
    p.at.serves p.since.store (c.in-Err-open.ensures.ends.err p.job a p.at p.since) in
    s.whole

pub returns-in-Err-open-clause-goes_on : goal.returns-in-Err-open-clause-goes_on
returns-in-Err-open-clause-goes_on g c size is =
    let a : LinkView = g.T.TagLink.seen c.args.link.now in
    let b : LinkView = g.T.TagLink.seen c.open.new.link in
    let p = c.in-Ok.ensures.ok size is in
    let s : Stops c.args.how size c.args.message.now a b c.in-Err-open.stopped.cause = stops_for p.job c.args.how size c.args.message.now a b c.in-Err-open.stopped.cause p.kind p.sized p.new
    p.at.serves p.since.store (c.in-Err-open.ensures.ends.err p.job a p.at p.since) in
    s.goes_on

pub returns-in-Err-open-clause-err : goal.returns-in-Err-open-clause-err
returns-in-Err-open-clause-err g c size is =
    let a : LinkView = g.T.TagLink.seen c.args.link.now in
    let b : LinkView = g.T.TagLink.seen c.open.new.link in
    let p = c.in-Ok.ensures.ok size is in
    let s : Stops c.args.how size c.args.message.now a b c.in-Err-open.stopped.cause = stops_for p.job c.args.how size c.args.message.now a b c.in-Err-open.stopped.cause p.kind p.sized p.new
    p.at.serves p.since.store (c.in-Err-open.ensures.ends.err p.job a p.at p.since) in
    s.cause

pub returns-in-Err-open-clause-calm : goal.returns-in-Err-open-clause-calm
returns-in-Err-open-clause-calm g c size is calm =
    let p = c.in-Ok.ensures.ok size is in
    c.in-Err-open.ensures.ends.calm p.job (g.T.TagLink.seen c.args.link.now) p.at p.since calm

pub returns-in-Err-clause-few : goal.returns-in-Err-clause-few
returns-in-Err-clause-few g c size is =
    let a : LinkView = g.T.TagLink.seen c.args.link.now in
    let b : LinkView = g.T.TagLink.seen c.prepare.new.link in
    let h = c.in-Err.ensures in
    let s : Stops c.args.how size c.args.message.now a b c.in-Err.fault = unwritten c.args.how size c.args.message.now a b c.in-Err.fault (h.stays size is) (h.asked size is) (h.whole size is)
    (h.goes_on size is) (h.untaken size is) (h.err size is) in
    s.few

pub returns-in-Ok-open-clause-few : goal.returns-in-Ok-open-clause-few
returns-in-Ok-open-clause-few g c size is =
    let a : LinkView = g.T.TagLink.seen c.args.link.now in
    let b : LinkView = g.T.TagLink.seen c.open.new.link in
    let p = c.in-Ok.ensures.ok size is in
    let s : Succeeds c.args.how size c.args.message.now a b = succeeds_for p.job c.args.how size c.args.message.now a b p.kind p.sized p.new p.at.serves p.since.store
    (c.in-Ok-open.ensures.ends.ok p.job a p.at p.since) (c.in-Ok-open.ensures.ends.new p.job p.at) in
    s.few

pub returns-in-Err-open-clause-few : goal.returns-in-Err-open-clause-few
returns-in-Err-open-clause-few g c size is =
    let a : LinkView = g.T.TagLink.seen c.args.link.now in
    let b : LinkView = g.T.TagLink.seen c.open.new.link in
    let p = c.in-Ok.ensures.ok size is in
    let s : Stops c.args.how size c.args.message.now a b c.in-Err-open.stopped.cause = stops_for p.job c.args.how size c.args.message.now a b c.in-Err-open.stopped.cause p.kind p.sized p.new
    p.at.serves p.since.store (c.in-Err-open.ensures.ends.err p.job a p.at p.since) in
    s.few

-- whatever the tag does
pub open-requires-clause-of : goal.open-requires-clause-of
open-requires-clause-of g c = of_planned c.args.how c.args.message.now c.in-Ok.prepared.work (g.T.TagLink.seen c.args.link.now) (g.T.TagLink.seen c.prepare.new.link) c.requires.of c.in-Ok.ensures.told

pub returns-in-Err-clause-told : goal.returns-in-Err-clause-told
returns-in-Err-clause-told g c = inl c.in-Err.ensures.told

pub returns-in-Ok-open-clause-told : goal.returns-in-Ok-open-clause-told
returns-in-Ok-open-clause-told g c =
    let v : LinkView = g.T.TagLink.seen c.prepare.new.link in
    let b : LinkView = g.T.TagLink.seen c.open.new.link in
    let w = c.in-Ok.prepared.work in
    let p : IsPlannedBy c.args.how c.args.message.now w (g.T.TagLink.seen c.args.link.now) v = c.in-Ok.ensures.told in
    (v, w, p, subst (λ h. AreAcknowledged h v b (all_commands w)) (work_kind c.args.how p.ground c.args.message.now w p.on) c.in-Ok-open.ensures.ends.told)

pub returns-in-Err-open-clause-told : goal.returns-in-Err-open-clause-told
returns-in-Err-open-clause-told g c =
    let v : LinkView = g.T.TagLink.seen c.prepare.new.link in
    let b : LinkView = g.T.TagLink.seen c.open.new.link in
    let w = c.in-Ok.prepared.work in
    let p : IsPlannedBy c.args.how c.args.message.now w (g.T.TagLink.seen c.args.link.now) v = c.in-Ok.ensures.told in
    inr (v, w, p, subst (λ h. StopsAmong h v b (all_commands w) c.in-Err-open.stopped.cause) (work_kind c.args.how p.ground c.args.message.now w p.on) c.in-Err-open.ensures.ends.told)
