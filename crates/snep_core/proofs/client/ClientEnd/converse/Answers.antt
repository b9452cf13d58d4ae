use Rattle.std.proofs.Common.{rules, ◌≡◌, ◌<◌, List, sym, ap, subst, ◌∙◌}
use Rattle.llcp_conn.specs.Conn.{count_end}
use Rattle.llcp_link.specs.Asking.{acked_of}
use Rattle.snep_core.specs.declared.job.Ending.{Ending}
use Rattle.snep_core.specs.Calling.{FailsBy, Talks}
use Rattle.snep_core.specs.Jobs.{Over}
use Rattle.snep_core.specs.RepliesLeft.{IsUnderWay}
use Rattle.snep_core.specs.Talk.{Ends, OnSap, begun, one_on, own_of}
use Rattle.snep_core.specs.private.Waning.{IsOf, aim_of}
use Rattle.snep_core.proofs.sessions.Following.{one_under_way, told_only}
use Rattle.snep_core.proofs.jobs.Talking.{fails_by, talks_rests}
use Rattle.snep_core.proofs.client.ClientEnd.converse.Goals as goal

pub converse_all-told-requires-clause-under_way : goal.converse_all-told-requires-clause-under_way
converse_all-told-requires-clause-under_way g c =
    let one : c.push.new.self.items ≡ one_on c.args.sap c.args.first = search rules in
    let few : acked_of (own_of c.args.sap c.args.self.now.llc) < count_end = search rules in
    subst (λ (js : List OnSap). IsUnderWay (record { llc = c.args.self.now.llc; jobs = js; idle = 0 })) (sym one)
    (one_under_way c.args.sap c.args.first c.args.self.now.llc few)

pub returns-then-is_err-clause-err : goal.returns-then-is_err-clause-err
returns-then-is_err-clause-err g c =
    talks_rests g.C.Carrier.seen g.C.Carrier.swaps g.A.Answerer.steps g.A.Answerer.stops c.args.counts
    (record { llc = c.args.self.now.llc; jobs = one_on c.args.sap c.args.first; idle = 0 }) c.args.carrier.now c.args.far.now c.spend.result
    c.spend.new.self.llc c.spend.ensures.fault

pub only_ending-requires : goal.only_ending-requires
only_ending-requires g c =
    let one : c.push.new.self.items ≡ one_on c.args.sap c.args.first = search rules in
    let talks =
    subst (λ (js : List OnSap). Talks g.C.Carrier.seen g.C.Carrier.swaps g.A.Answerer.steps g.A.Answerer.stops c.args.counts
    (begun c.args.self.now.llc js) c.args.carrier.now c.args.far.now (Ends c.in-Ok.ended c.converse_all-told.new.self.llc) c.converse_all-told.new.carrier
    c.converse_all-told.new.far) one c.in-Ok.ensures.ok in
    let only = told_only c.args.sap c.args.first c.args.self.now.llc 0 c.args.counts talks.did c.in-Ok.ended c.converse_all-told.new.self.llc talks.told in
    (c.args.sap, only.ending, only.is)

pub returns-in-Ok-clause-ok : goal.returns-in-Ok-clause-ok
returns-in-Ok-clause-ok g c =
    let one : c.push.new.self.items ≡ one_on c.args.sap c.args.first = search rules in
    let talks =
    subst (λ (js : List OnSap). Talks g.C.Carrier.seen g.C.Carrier.swaps g.A.Answerer.steps g.A.Answerer.stops c.args.counts
    (begun c.args.self.now.llc js) c.args.carrier.now c.args.far.now (Ends c.in-Ok.ended c.converse_all-told.new.self.llc) c.converse_all-told.new.carrier
    c.converse_all-told.new.far) one c.in-Ok.ensures.ok in
    let only = told_only c.args.sap c.args.first c.args.self.now.llc 0 c.args.counts talks.did c.in-Ok.ended c.converse_all-told.new.self.llc talks.told in
    subst (λ (js : List OnSap). Talks g.C.Carrier.seen g.C.Carrier.swaps g.A.Answerer.steps g.A.Answerer.stops c.args.counts
    (begun c.args.self.now.llc (one_on c.args.sap c.args.first)) c.args.carrier.now c.args.far.now (Ends js c.converse_all-told.new.self.llc)
    c.converse_all-told.new.carrier c.converse_all-told.new.far)
    (only.is ∙ ap (λ (e : Ending). one_on c.args.sap (Over e)) (sym (c.only_ending.ensures c.args.sap only.ending only.is))) talks

pub returns-in-Ok-clause-aim : goal.returns-in-Ok-clause-aim
returns-in-Ok-clause-aim g c =
    let one : c.push.new.self.items ≡ one_on c.args.sap c.args.first = search rules in
    let talks =
    subst (λ (js : List OnSap). Talks g.C.Carrier.seen g.C.Carrier.swaps g.A.Answerer.steps g.A.Answerer.stops c.args.counts
    (begun c.args.self.now.llc js) c.args.carrier.now c.args.far.now (Ends c.in-Ok.ended c.converse_all-told.new.self.llc) c.converse_all-told.new.carrier
    c.converse_all-told.new.far) one c.in-Ok.ensures.ok in
    let only = told_only c.args.sap c.args.first c.args.self.now.llc 0 c.args.counts talks.did c.in-Ok.ended c.converse_all-told.new.self.llc talks.told in
    subst (λ (e : Ending). IsOf (aim_of c.args.first) e) (sym (c.only_ending.ensures c.args.sap only.ending only.is)) only.of_aim

pub returns-in-Err-clause-err : goal.returns-in-Err-clause-err
returns-in-Err-clause-err g c =
    let one : c.push.new.self.items ≡ one_on c.args.sap c.args.first = search rules in
    let failed = c.in-Err.ensures.err in
    subst (λ (js : List OnSap). FailsBy g.C.Carrier.seen g.C.Carrier.swaps g.A.Answerer.steps g.A.Answerer.stops c.args.counts
    (begun c.args.self.now.llc js) c.args.carrier.now c.args.far.now c.in-Err.fault c.converse_all-told.new.self.llc c.converse_all-told.new.carrier
    c.converse_all-told.new.far) one
    (fails_by g.C.Carrier.seen g.C.Carrier.swaps g.A.Answerer.steps g.A.Answerer.stops c.args.counts (begun c.args.self.now.llc c.push.new.self.items)
    c.args.carrier.now c.args.far.now failed.0 c.in-Err.fault c.converse_all-told.new.self.llc c.converse_all-told.new.carrier c.converse_all-told.new.far failed.1)
