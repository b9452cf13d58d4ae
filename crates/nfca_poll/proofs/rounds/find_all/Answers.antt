use Rattle.std.proofs.Common.{◌≡◌, ℕ, ◌+◌, ◌<◌, List, [], None, Result, Ok, Err, refl, sym, ap, subst, arith}
use Rattle.std.proofs.lemmas.Grind.{common_steps}
use Rattle.nfca_poll.specs.declared.fault.Picked.{Picked}
use Rattle.nfca_poll.specs.declared.fault.PollFault.{PollFault}
use Rattle.nfca_poll.specs.declared.fault.PollFault.TheVariants as faults
use Rattle.nfca_poll.specs.declared.rounds.RoundEnd.{RoundEnd}
use Rattle.nfca_poll.specs.declared.rounds.RoundEnd.TheVariants as ends
use Rattle.nfca_poll.specs.Enquiry.{Enquires}
use Rattle.nfca_poll.specs.private.OneRound.{one_round}
use Rattle.nfca_poll.specs.Rounds.{Search, Told, all_devices, finding, next_round, listed}
use Rattle.nfca_poll.proofs.enquiries.Enquiring.{Reached, reached_start, enquires_end}
use Rattle.nfca_poll.proofs.calls.RoundCalls.{round_begins, round_came, round_failed, given_up}
use Rattle.nfca_poll.proofs.enquiries.TellingRounds.{tells_found}
use Rattle.nfca_poll.proofs.quiet.FoundCrowd.{finds_crowd}
use Rattle.nfca_poll.proofs.enquiries.GivenUp.{find_given_up}
use Rattle.nfca_poll.proofs.calls.CallEnds.{find_lit, find_lost, find_rounds, find_other}
use Rattle.nfca_poll.proofs.rounds.find_all.Goals as goal

pub loop-init : goal.loop-init
loop-init g c = reached_start finding g.L.Listener.machine c.args.field.now

pub loop-preserved : goal.loop-preserved
loop-preserved g c =
    let m = g.L.Listener.machine in
    let n : ℕ = c.loop.counter in
    let h : n < 4 = omega arith in
    let R : Search (List Picked) → Type 0 = λ s. Reached finding m c.args.field.now c.loop.field s in
    let E : RoundEnd → Type 0 = λ e. Enquires (one_round None) m c.loop.field (Ok e) c.round.new.field in
    let lost : c.in_ok-found.field-0 ≡ ends.Disturbed = given_up m c.loop.field c.round.new.field c.in_ok-found.field-0 c.in_default.not-Nobody c.in_ok-found.ensures.turns in
    round_came all_devices None (λ kind. []) (λ p. refl) (n + 1) m c.args.field.now c.round.new.field c.loop.field ends.Disturbed (subst R (round_begins n h) c.loop.invariant)
    (subst E lost c.in_ok-found.ensures.turns)

pub returns-in_err-found-clause-turns : goal.returns-in_err-found-clause-turns
returns-in_err-found-clause-turns g c =
    let m = g.L.Listener.machine in
    let n : ℕ = c.loop.counter in
    let h : n < 4 = omega arith in
    let R : Search (List Picked) → Type 0 = λ s. Reached finding m c.args.field.now c.loop.field s in
    let E : Result (List Picked) PollFault → Type 0 = λ r. Enquires finding m c.args.field.now r c.round.new.field in
    let same : c.from_residual.result ≡ Err c.in_err-found.field-0.0 = grind (arith, common_steps) in
    subst E (sym (ap listed same))
    (round_failed all_devices None (λ kind. []) (λ p. refl) (n + 1) m c.args.field.now c.round.new.field c.loop.field c.in_err-found.field-0.0 (subst R (round_begins n h) c.loop.invariant)
    c.in_err-found.ensures.turns)

pub returns-in_err-found-clause-lit : goal.returns-in_err-found-clause-lit
returns-in_err-found-clause-lit g c = find_lit g.L.Listener.machine c.args.field.now c.round.new.field (listed c.from_residual.result) (returns-in_err-found-clause-turns g c)

pub returns-in_err-found-clause-lost : goal.returns-in_err-found-clause-lost
returns-in_err-found-clause-lost g c = find_lost g.L.Listener.machine c.args.field.now c.round.new.field (listed c.from_residual.result) (returns-in_err-found-clause-turns g c)

pub returns-in_err-found-clause-rounds : goal.returns-in_err-found-clause-rounds
returns-in_err-found-clause-rounds g c = find_rounds g.L.Listener.machine c.args.field.now c.round.new.field (listed c.from_residual.result) (returns-in_err-found-clause-turns g c)

pub returns-in_err-found-clause-crowd : goal.returns-in_err-found-clause-crowd
returns-in_err-found-clause-crowd g c = finds_crowd g.L.Listener.machine g.L.Listener.identifier c.args.field.now c.round.new.field (listed c.from_residual.result)
    (returns-in_err-found-clause-turns g c)

pub returns-in_err-found-clause-other : goal.returns-in_err-found-clause-other
returns-in_err-found-clause-other g c = find_other g.L.Listener.machine c.args.field.now c.round.new.field (listed c.from_residual.result) (returns-in_err-found-clause-turns g c)

pub returns-in-Nobody-clause-turns : goal.returns-in-Nobody-clause-turns
returns-in-Nobody-clause-turns g c =
    let m = g.L.Listener.machine in
    let n : ℕ = c.loop.counter in
    let h : n < 4 = omega arith in
    let R : Search (List Picked) → Type 0 = λ s. Reached finding m c.args.field.now c.loop.field s in
    let E : RoundEnd → Type 0 = λ e. Enquires (one_round None) m c.loop.field (Ok e) c.round.new.field in
    let D : List Picked → Type 0 = λ found. Enquires finding m c.args.field.now (Ok found) c.round.new.field in
    subst D (sym c.into_vec.ensures)
    (enquires_end finding m c.args.field.now c.round.new.field (Told (Ok c.in-Nobody.found)) (Ok c.in-Nobody.found)
    (round_came all_devices None (λ kind. []) (λ p. refl) (n + 1) m c.args.field.now c.round.new.field c.loop.field (ends.Nobody c.in-Nobody.found) (subst R (round_begins n h) c.loop.invariant)
    (subst E c.in-Nobody.is c.in_ok-found.ensures.turns))
    refl)

pub returns-in-Nobody-clause-lit : goal.returns-in-Nobody-clause-lit
returns-in-Nobody-clause-lit g c = find_lit g.L.Listener.machine c.args.field.now c.round.new.field (Ok c.into_vec.result.items) (returns-in-Nobody-clause-turns g c)

pub returns-in-Nobody-clause-rounds : goal.returns-in-Nobody-clause-rounds
returns-in-Nobody-clause-rounds g c = find_rounds g.L.Listener.machine c.args.field.now c.round.new.field (Ok c.into_vec.result.items) (returns-in-Nobody-clause-turns g c)

pub returns-in-Nobody-clause-crowd : goal.returns-in-Nobody-clause-crowd
returns-in-Nobody-clause-crowd g c = finds_crowd g.L.Listener.machine g.L.Listener.identifier c.args.field.now c.round.new.field (Ok c.into_vec.result.items) (returns-in-Nobody-clause-turns g c)

pub returns-clause-turns : goal.returns-clause-turns
returns-clause-turns g c =
    let m = g.L.Listener.machine in
    let R : ℕ → Type 0 = λ n. Reached finding m c.args.field.now c.loop.field (next_round n) in
    let all : c.loop.counter ≡ 4 = omega arith in
    enquires_end finding m c.args.field.now c.loop.field (Told (Err faults.Disturbed)) (Err faults.Disturbed) (subst R all c.loop.invariant) refl

pub returns-clause-lit : goal.returns-clause-lit
returns-clause-lit g c = find_lit g.L.Listener.machine c.args.field.now c.loop.field (Err faults.Disturbed) (returns-clause-turns g c)

pub returns-clause-rounds : goal.returns-clause-rounds
returns-clause-rounds g c = find_rounds g.L.Listener.machine c.args.field.now c.loop.field (Err faults.Disturbed) (returns-clause-turns g c)

pub returns-clause-crowd : goal.returns-clause-crowd
returns-clause-crowd g c = finds_crowd g.L.Listener.machine g.L.Listener.identifier c.args.field.now c.loop.field (Err faults.Disturbed) (returns-clause-turns g c)

pub returns-in_err-found-clause-told : goal.returns-in_err-found-clause-told
returns-in_err-found-clause-told g c = tells_found g.L.Listener.machine c.args.field.now c.round.new.field (listed c.from_residual.result) (returns-in_err-found-clause-turns g c)

pub returns-in-Nobody-clause-told : goal.returns-in-Nobody-clause-told
returns-in-Nobody-clause-told g c = tells_found g.L.Listener.machine c.args.field.now c.round.new.field (Ok c.into_vec.result.items) (returns-in-Nobody-clause-turns g c)

pub returns-clause-told : goal.returns-clause-told
returns-clause-told g c = tells_found g.L.Listener.machine c.args.field.now c.loop.field (Err faults.Disturbed) (returns-clause-turns g c)

pub returns-in_err-found-clause-disturbed : goal.returns-in_err-found-clause-disturbed
returns-in_err-found-clause-disturbed g c = find_given_up g.L.Listener.machine c.args.field.now c.round.new.field (listed c.from_residual.result) (returns-in_err-found-clause-turns g c)

pub returns-in-Nobody-clause-disturbed : goal.returns-in-Nobody-clause-disturbed
returns-in-Nobody-clause-disturbed g c = find_given_up g.L.Listener.machine c.args.field.now c.round.new.field (Ok c.into_vec.result.items) (returns-in-Nobody-clause-turns g c)

pub returns-clause-disturbed : goal.returns-clause-disturbed
returns-clause-disturbed g c = find_given_up g.L.Listener.machine c.args.field.now c.loop.field (Err faults.Disturbed) (returns-clause-turns g c)
