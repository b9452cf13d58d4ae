use Rattle.std.proofs.Common.{rules, ◌≡◌, true, false, length, List, sym, ap, subst, ◌∙◌}
use Rattle.std.specs.List.{AllByRecursion}
use Rattle.snep_core.specs.Accord.{RunAdds, RunFails}
use Rattle.snep_core.specs.Calling.{ClientState, RunFailsAt, slots_left}
use Rattle.snep_core.specs.RepliesLeft.{IsBelowCountEnd, task_saps}
use Rattle.snep_core.specs.Slots.{AllFit, Slot, all_puts, noted, slot_count, some_staged}
use Rattle.snep_core.specs.Talk.{all_opening}
use Rattle.snep_core.proofs.accord.RunEnds.{run_done, run_ended, run_failed, run_idle, run_nothing, run_rests, run_still, run_stopped, run_way}
use Rattle.snep_core.proofs.client.Client.run.Goals as goal

pub returns-then-not-any_staged-clause-ok : goal.returns-then-not-any_staged-clause-ok
returns-then-not-any_staged-clause-ok g c =
    let w : some_staged c.args.self.now.slots ≡ false = search rules in
    run_idle g.C.Carrier.seen g.C.Carrier.swaps g.A.Answerer.steps g.A.Answerer.stops c.args.counts c.args.self.now.slots c.args.self.now.llc c.args.carrier.now c.args.far.now w

pub returns-in-Err-clause-err : goal.returns-in-Err-clause-err
returns-in-Err-clause-err g c =
    let slots = c.args.self.now.slots in
    let l = c.args.self.now.llc in
    let fit : AllFit slots = subst (λ (z : ClientState). AllFit z.slots) c.self.view_is c.as_slice.ensures.fit in
    let eight : length slots ≡ slot_count = subst (λ (z : ClientState). length z.slots ≡ slot_count) c.self.view_is c.as_slice.ensures.eight in
    let w : some_staged slots ≡ true = search rules in
    let same : slots ≡ c.self.inside.slots = sym (ap (λ (z : ClientState). z.slots) c.self.view_is) in
    λ going. subst (λ (ss : List Slot). RunFailsAt g.C.Carrier.seen g.C.Carrier.swaps g.A.Answerer.steps g.A.Answerer.stops c.args.counts l slots c.args.carrier.now c.args.far.now c.in-Err.fault
    c.begin_all.new.self.llc ss
    c.args.carrier.now c.args.far.now) same
    (run_rests slots fit eight g.C.Carrier.seen g.C.Carrier.swaps g.A.Answerer.steps g.A.Answerer.stops c.args.counts l c.begin_all.new.self.llc c.args.carrier.now c.args.far.now c.in-Err.fault w
    c.in-Err.ensures.err)

pub converse_all-requires-clause-under_way : goal.converse_all-requires-clause-under_way
converse_all-requires-clause-under_way g c =
    let slots = c.args.self.now.slots in
    let l = c.args.self.now.llc in
    let fit : AllFit slots = subst (λ (z : ClientState). AllFit z.slots) c.self.view_is c.as_slice.ensures.fit in
    let eight : length slots ≡ slot_count = subst (λ (z : ClientState). length z.slots ≡ slot_count) c.self.view_is c.as_slice.ensures.eight in
    let w : some_staged slots ≡ true = search rules in
    let o : all_opening (all_puts slots) l ≡ record { llc = c.begin_all.new.self.llc; jobs = c.in-Ok.jobs.items } =
    subst (λ (z : ClientState). all_opening (all_puts z.slots) z.llc ≡ record { llc = c.begin_all.new.self.llc; jobs = c.in-Ok.jobs.items }) c.self.view_is
    (subst (λ (ss : List Slot). all_opening (all_puts ss) c.self.inside.end.llc ≡ record { llc = c.begin_all.new.self.llc; jobs = c.in-Ok.jobs.items }) c.as_slice.ensures.same
    c.in-Ok.ensures.ok) in
    let counted : AllByRecursion (IsBelowCountEnd l) (task_saps (all_puts slots)) =
    subst (λ (z : ClientState). AllByRecursion (IsBelowCountEnd z.llc) (task_saps (all_puts z.slots))) c.self.view_is
    (subst (λ (ss : List Slot). AllByRecursion (IsBelowCountEnd c.self.inside.end.llc) (task_saps (all_puts ss))) c.as_slice.ensures.same c.in-Ok.ensures.counted) in
    run_way slots fit eight l c.begin_all.new.self.llc c.in-Ok.jobs.items w o counted

pub returns-in-Ok-converse_all-clause-ok : goal.returns-in-Ok-converse_all-clause-ok
returns-in-Ok-converse_all-clause-ok g c =
    let slots = c.args.self.now.slots in
    let l = c.args.self.now.llc in
    let fit : AllFit slots = subst (λ (z : ClientState). AllFit z.slots) c.self.view_is c.as_slice.ensures.fit in
    let eight : length slots ≡ slot_count = subst (λ (z : ClientState). length z.slots ≡ slot_count) c.self.view_is c.as_slice.ensures.eight in
    let w : some_staged slots ≡ true = search rules in
    let o : all_opening (all_puts slots) l ≡ record { llc = c.begin_all.new.self.llc; jobs = c.in-Ok.jobs.items } =
    subst (λ (z : ClientState). all_opening (all_puts z.slots) z.llc ≡ record { llc = c.begin_all.new.self.llc; jobs = c.in-Ok.jobs.items }) c.self.view_is
    (subst (λ (ss : List Slot). all_opening (all_puts ss) c.self.inside.end.llc ≡ record { llc = c.begin_all.new.self.llc; jobs = c.in-Ok.jobs.items }) c.as_slice.ensures.same
    c.in-Ok.ensures.ok) in
    let told : c.converse_all.new.slots ≡ noted c.in-Ok-converse_all.jobs slots =
    subst (λ (z : ClientState). c.converse_all.new.slots ≡ noted c.in-Ok-converse_all.jobs z.slots) c.self.view_is c.in-Ok-converse_all.ensures.told in
    run_done slots fit eight g.C.Carrier.seen g.C.Carrier.swaps g.A.Answerer.steps g.A.Answerer.stops c.args.counts l c.begin_all.new.self.llc c.converse_all.new.self.llc c.in-Ok.jobs.items
    c.in-Ok-converse_all.jobs
    c.converse_all.new.slots c.args.carrier.now c.converse_all.new.carrier c.args.far.now c.converse_all.new.far w o c.in-Ok-converse_all.ensures.ok told

pub returns-in-Ok-converse_all-clause-ran : goal.returns-in-Ok-converse_all-clause-ran
returns-in-Ok-converse_all-clause-ran g c =
    let slots = c.args.self.now.slots in
    let l = c.args.self.now.llc in
    let fit : AllFit slots = subst (λ (z : ClientState). AllFit z.slots) c.self.view_is c.as_slice.ensures.fit in
    let eight : length slots ≡ slot_count = subst (λ (z : ClientState). length z.slots ≡ slot_count) c.self.view_is c.as_slice.ensures.eight in
    let w : some_staged slots ≡ true = search rules in
    λ view peer a. run_ended slots fit eight g.C.Carrier.seen g.C.Carrier.swaps g.A.Answerer.steps g.A.Answerer.stops view peer l c.args.carrier.now c.args.far.now a c.args.counts w
    c.converse_all.new.slots c.converse_all.new.self.llc
    c.converse_all.new.carrier c.converse_all.new.far (returns-in-Ok-converse_all-clause-ok g c)

pub returns-in-Err-converse_all-clause-err : goal.returns-in-Err-converse_all-clause-err
returns-in-Err-converse_all-clause-err g c =
    let slots = c.args.self.now.slots in
    let l = c.args.self.now.llc in
    let fit : AllFit slots = subst (λ (z : ClientState). AllFit z.slots) c.self.view_is c.as_slice.ensures.fit in
    let eight : length slots ≡ slot_count = subst (λ (z : ClientState). length z.slots ≡ slot_count) c.self.view_is c.as_slice.ensures.eight in
    let w : some_staged slots ≡ true = search rules in
    let o : all_opening (all_puts slots) l ≡ record { llc = c.begin_all.new.self.llc; jobs = c.in-Ok.jobs.items } =
    subst (λ (z : ClientState). all_opening (all_puts z.slots) z.llc ≡ record { llc = c.begin_all.new.self.llc; jobs = c.in-Ok.jobs.items }) c.self.view_is
    (subst (λ (ss : List Slot). all_opening (all_puts ss) c.self.inside.end.llc ≡ record { llc = c.begin_all.new.self.llc; jobs = c.in-Ok.jobs.items }) c.as_slice.ensures.same
    c.in-Ok.ensures.ok) in
    let failed = c.in-Err-converse_all.ensures.err in
    let told : c.leave.new.self ≡ slots_left c.in-Err-converse_all.fault (noted failed.0 slots) =
    c.leave.ensures ∙ ap (slots_left c.in-Err-converse_all.fault)
    (subst (λ (z : ClientState). c.converse_all.new.slots ≡ noted failed.0 z.slots) c.self.view_is failed.2) in
    λ going. run_stopped slots fit eight g.C.Carrier.seen g.C.Carrier.swaps g.A.Answerer.steps g.A.Answerer.stops c.args.counts l c.begin_all.new.self.llc c.converse_all.new.self.llc
    c.in-Ok.jobs.items failed.0
    c.leave.new.self c.args.carrier.now c.converse_all.new.carrier c.args.far.now c.converse_all.new.far c.in-Err-converse_all.fault w o failed.1 told

pub returns-in-Err-converse_all-clause-fails : goal.returns-in-Err-converse_all-clause-fails
returns-in-Err-converse_all-clause-fails g c =
    let slots = c.args.self.now.slots in
    let l = c.args.self.now.llc in
    let fit : AllFit slots = subst (λ (z : ClientState). AllFit z.slots) c.self.view_is c.as_slice.ensures.fit in
    let eight : length slots ≡ slot_count = subst (λ (z : ClientState). length z.slots ≡ slot_count) c.self.view_is c.as_slice.ensures.eight in
    let w : some_staged slots ≡ true = search rules in
    let going : c.args.self.now.spent ≡ false = search rules in
    λ view peer a. run_failed slots fit eight g.C.Carrier.seen g.C.Carrier.swaps g.A.Answerer.steps g.A.Answerer.stops view peer l c.args.carrier.now c.args.far.now a c.args.counts w c.leave.new.self
    c.in-Err-converse_all.fault
    c.converse_all.new.self.llc c.converse_all.new.carrier c.converse_all.new.far (returns-in-Err-converse_all-clause-err g c going)

pub returns-in-Err-clause-fails : goal.returns-in-Err-clause-fails
returns-in-Err-clause-fails g c =
    let slots = c.args.self.now.slots in
    let l = c.args.self.now.llc in
    let fit : AllFit slots = subst (λ (z : ClientState). AllFit z.slots) c.self.view_is c.as_slice.ensures.fit in
    let eight : length slots ≡ slot_count = subst (λ (z : ClientState). length z.slots ≡ slot_count) c.self.view_is c.as_slice.ensures.eight in
    let w : some_staged slots ≡ true = search rules in
    let same : slots ≡ c.self.inside.slots = sym (ap (λ (z : ClientState). z.slots) c.self.view_is) in
    λ view peer a. subst (λ e. RunFails slots c.self.inside.slots (view c.args.far.now) e (view c.args.far.now)) (sym c.in-Err.ensures.err)
    (subst (λ (ss : List Slot). RunAdds slots ss (view c.args.far.now) (view c.args.far.now)) same (run_still slots (view c.args.far.now)))

pub returns-then-not-any_staged-clause-ran : goal.returns-then-not-any_staged-clause-ran
returns-then-not-any_staged-clause-ran g c = λ view peer a. run_nothing c.args.self.now.slots c.args.self.now.llc (view c.args.far.now) a

pub returns-then-self-clause-fails : goal.returns-then-self-clause-fails
returns-then-self-clause-fails g c = λ view peer a. run_still c.args.self.now.slots (view c.args.far.now)
