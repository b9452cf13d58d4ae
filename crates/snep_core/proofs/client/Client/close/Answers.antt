use Rattle.std.proofs.Common.{rules, ◌≡◌, true, false, sym, subst}
use Rattle.std.specs.List.{AllByRecursion}
use Rattle.snep_core.specs.Calling.{ClientState, Talks}
use Rattle.snep_core.specs.RepliesLeft.{IsBelowCountEnd}
use Rattle.snep_core.specs.Talk.{Ends, Step, all_closed, all_opening, client_saps, leave_from, some_open}
use Rattle.snep_core.proofs.jobs.AllClosed.{close_fails, close_rests, close_so, close_way, saps_distinct}
use Rattle.snep_core.proofs.jobs.Leaving.{closes_none}
use Rattle.snep_core.proofs.accord.CloseEnds.{close_ends, close_fails as close_falls}
use Rattle.snep_core.proofs.jobs.Talking.{talks_none}
use Rattle.snep_core.proofs.client.Client.close.Goals as goal

pub leave_all-requires : goal.leave_all-requires
leave_all-requires g c = saps_distinct

pub returns-then-not-any_open-clause-ok : goal.returns-then-not-any_open-clause-ok
returns-then-not-any_open-clause-ok g c =
    let l = c.args.self.now.llc in
    let shut : some_open l client_saps ≡ false = search rules in
    subst (λ (s : Step). Talks g.C.Carrier.seen g.C.Carrier.swaps g.A.Answerer.steps g.A.Answerer.stops c.args.counts s
    c.args.carrier.now c.args.far.now (Ends all_closed l) c.args.carrier.now c.args.far.now) (sym (closes_none client_saps l shut))
    (talks_none g.C.Carrier.seen g.C.Carrier.swaps g.A.Answerer.steps g.A.Answerer.stops c.args.counts (Ends all_closed l) c.args.carrier.now c.args.far.now)

pub returns-in-Err-clause-err : goal.returns-in-Err-clause-err
returns-in-Err-clause-err g c =
    let l = c.args.self.now.llc in
    let some : some_open l client_saps ≡ true = search rules in
    λ going. close_rests g.C.Carrier.seen g.C.Carrier.swaps g.A.Answerer.steps g.A.Answerer.stops c.args.counts client_saps l some c.args.carrier.now c.args.far.now c.in-Err.fault
    c.leave_all.new.self.llc
    c.in-Err.ensures.err

pub converse_all-requires-clause-under_way : goal.converse_all-requires-clause-under_way
converse_all-requires-clause-under_way g c =
    let l = c.args.self.now.llc in
    let some : some_open l client_saps ≡ true = search rules in
    let o : all_opening (leave_from client_saps) l ≡ record { llc = c.leave_all.new.self.llc; jobs = c.in-Ok.jobs.items } =
    subst (λ (z : ClientState). all_opening (leave_from client_saps) z.llc ≡ record { llc = c.leave_all.new.self.llc; jobs = c.in-Ok.jobs.items }) c.self.view_is c.in-Ok.ensures.ok in
    let counted : AllByRecursion (IsBelowCountEnd l) client_saps =
    subst (λ (z : ClientState). AllByRecursion (IsBelowCountEnd z.llc) client_saps) c.self.view_is c.in-Ok.ensures.counted in
    close_way client_saps l c.leave_all.new.self.llc c.in-Ok.jobs.items some o saps_distinct counted

pub returns-clause-ok : goal.returns-clause-ok
returns-clause-ok g c =
    let l = c.args.self.now.llc in
    let some : some_open l client_saps ≡ true = search rules in
    let o : all_opening (leave_from client_saps) l ≡ record { llc = c.leave_all.new.self.llc; jobs = c.in-Ok.jobs.items } =
    subst (λ (z : ClientState). all_opening (leave_from client_saps) z.llc ≡ record { llc = c.leave_all.new.self.llc; jobs = c.in-Ok.jobs.items }) c.self.view_is c.in-Ok.ensures.ok in
    close_so g.C.Carrier.seen g.C.Carrier.swaps g.A.Answerer.steps g.A.Answerer.stops c.args.counts client_saps l some c.leave_all.new.self.llc c.in-Ok.jobs.items o c.in-Ok-converse_all.ended
    c.converse_all.new.self.llc
    c.args.carrier.now c.converse_all.new.carrier c.args.far.now c.converse_all.new.far c.in-Ok-converse_all.ensures.ok

pub returns-in-Err-converse_all-clause-err : goal.returns-in-Err-converse_all-clause-err
returns-in-Err-converse_all-clause-err g c =
    let l = c.args.self.now.llc in
    let some : some_open l client_saps ≡ true = search rules in
    let o : all_opening (leave_from client_saps) l ≡ record { llc = c.leave_all.new.self.llc; jobs = c.in-Ok.jobs.items } =
    subst (λ (z : ClientState). all_opening (leave_from client_saps) z.llc ≡ record { llc = c.leave_all.new.self.llc; jobs = c.in-Ok.jobs.items }) c.self.view_is c.in-Ok.ensures.ok in
    let failed = c.in-Err-converse_all.ensures.err in
    λ going. close_fails g.C.Carrier.seen g.C.Carrier.swaps g.A.Answerer.steps g.A.Answerer.stops c.args.counts client_saps l some c.leave_all.new.self.llc c.in-Ok.jobs.items o failed.0
    c.in-Err-converse_all.fault
    c.converse_all.new.self.llc c.args.carrier.now c.converse_all.new.carrier c.args.far.now c.converse_all.new.far failed.1

pub returns-then-not-any_open-clause-closed : goal.returns-then-not-any_open-clause-closed
returns-then-not-any_open-clause-closed g c = λ view peer a.
    close_ends g.C.Carrier.seen g.C.Carrier.swaps g.A.Answerer.steps g.A.Answerer.stops view peer c.args.self.now.llc c.args.carrier.now c.args.far.now a c.args.counts c.args.self.now.llc
    c.args.carrier.now c.args.far.now (returns-then-not-any_open-clause-ok g c)

pub returns-clause-closed : goal.returns-clause-closed
returns-clause-closed g c = λ view peer a.
    close_ends g.C.Carrier.seen g.C.Carrier.swaps g.A.Answerer.steps g.A.Answerer.stops view peer c.args.self.now.llc c.args.carrier.now c.args.far.now a c.args.counts c.converse_all.new.self.llc
    c.converse_all.new.carrier c.converse_all.new.far (returns-clause-ok g c)

pub returns-in-Err-converse_all-clause-fails : goal.returns-in-Err-converse_all-clause-fails
returns-in-Err-converse_all-clause-fails g c = λ view peer a.
    let going : c.args.self.now.spent ≡ false = search rules in
    close_falls g.C.Carrier.seen g.C.Carrier.swaps g.A.Answerer.steps g.A.Answerer.stops view peer c.args.self.now.llc c.args.carrier.now c.args.far.now a c.args.counts c.in-Err-converse_all.fault
    c.converse_all.new.self.llc c.converse_all.new.carrier c.converse_all.new.far (returns-in-Err-converse_all-clause-err g c going)
