use Rattle.std.proofs.Common.{◌≡◌, ℕ, ◌+◌, ◌<◌, List, Some, Result, Ok, Err, refl, sym, subst, arith}
use Rattle.std.proofs.lemmas.Grind.{common_steps}
use Rattle.nfca_poll.specs.declared.kind.Kind.{Kind}
use Rattle.nfca_poll.specs.declared.fault.PollFault.{PollFault}
use Rattle.nfca_poll.specs.declared.fault.PollFault.TheVariants as faults
use Rattle.nfca_poll.specs.declared.rounds.RoundEnd.{RoundEnd}
use Rattle.nfca_poll.specs.declared.rounds.RoundEnd.TheVariants as ends
use Rattle.nfca_poll.specs.Enquiry.{Enquires}
use Rattle.nfca_poll.specs.private.OneRound.{one_round}
use Rattle.nfca_poll.specs.Rounds.{Search, Told, device_of, picking, next_round}
use Rattle.nfca_poll.proofs.enquiries.Enquiring.{Reached, reached_start, enquires_end}
use Rattle.nfca_poll.proofs.calls.RoundCalls.{round_begins, round_came, round_failed}
use Rattle.nfca_poll.proofs.enquiries.TellingRounds.{tells_picked}
use Rattle.nfca_poll.proofs.quiet.FoundCrowd.{selects_alone}
use Rattle.nfca_poll.proofs.enquiries.GivenUp.{pick_given_up}
use Rattle.nfca_poll.proofs.calls.CallEnds.{pick_lit, pick_lost, pick_rounds, pick_other}
use Rattle.nfca_poll.proofs.rounds.pick.Goals as goal

pub loop-init : goal.loop-init
loop-init g c = reached_start (picking c.args.id.now) g.L.Listener.machine c.args.field.now

pub loop-preserved : goal.loop-preserved
loop-preserved g c =
    let m = g.L.Listener.machine in
    let id : List ℕ = c.args.id.now in
    let n : ℕ = c.loop.counter in
    let h : n < 4 = omega arith in
    let R : Search Kind → Type 0 = λ s. Reached (picking id) m c.args.field.now c.loop.field s in
    let E : RoundEnd → Type 0 = λ e. Enquires (one_round (Some id)) m c.loop.field (Ok e) c.round.new.field in
    round_came (device_of id) (Some id) (λ kind. kind) (λ p. refl) (n + 1) m c.args.field.now c.round.new.field c.loop.field ends.Disturbed (subst R (round_begins n h) c.loop.invariant)
    (subst E c.in-Disturbed.is c.in_ok-round.ensures.turns)

pub returns-in_err-round-clause-turns : goal.returns-in_err-round-clause-turns
returns-in_err-round-clause-turns g c =
    let m = g.L.Listener.machine in
    let id : List ℕ = c.args.id.now in
    let n : ℕ = c.loop.counter in
    let h : n < 4 = omega arith in
    let R : Search Kind → Type 0 = λ s. Reached (picking id) m c.args.field.now c.loop.field s in
    let E : Result Kind PollFault → Type 0 = λ r. Enquires (picking id) m c.args.field.now r c.round.new.field in
    let same : c.from_residual.result ≡ Err c.in_err-round.field-0.0 = grind (arith, common_steps) in
    subst E (sym same)
    (round_failed (device_of id) (Some id) (λ kind. kind) (λ p. refl) (n + 1) m c.args.field.now c.round.new.field c.loop.field c.in_err-round.field-0.0 (subst R (round_begins n h) c.loop.invariant)
    c.in_err-round.ensures.turns)

pub returns-in_err-round-clause-lit : goal.returns-in_err-round-clause-lit
returns-in_err-round-clause-lit g c = pick_lit c.args.id.now g.L.Listener.machine c.args.field.now c.round.new.field c.from_residual.result (returns-in_err-round-clause-turns g c)

pub returns-in_err-round-clause-lost : goal.returns-in_err-round-clause-lost
returns-in_err-round-clause-lost g c = pick_lost c.args.id.now g.L.Listener.machine c.args.field.now c.round.new.field c.from_residual.result (returns-in_err-round-clause-turns g c)

pub returns-in_err-round-clause-rounds : goal.returns-in_err-round-clause-rounds
returns-in_err-round-clause-rounds g c = pick_rounds c.args.id.now g.L.Listener.machine c.args.field.now c.round.new.field c.from_residual.result (returns-in_err-round-clause-turns g c)

pub returns-in_err-round-clause-crowd : goal.returns-in_err-round-clause-crowd
returns-in_err-round-clause-crowd g c = selects_alone g.L.Listener.machine g.L.Listener.identifier c.args.id.now c.args.field.now c.round.new.field c.from_residual.result
    (returns-in_err-round-clause-turns g c)

pub returns-in_err-round-clause-other : goal.returns-in_err-round-clause-other
returns-in_err-round-clause-other g c = pick_other c.args.id.now g.L.Listener.machine c.args.field.now c.round.new.field c.from_residual.result (returns-in_err-round-clause-turns g c)

pub returns-in-Nobody-clause-turns : goal.returns-in-Nobody-clause-turns
returns-in-Nobody-clause-turns g c =
    let m = g.L.Listener.machine in
    let id : List ℕ = c.args.id.now in
    let n : ℕ = c.loop.counter in
    let h : n < 4 = omega arith in
    let R : Search Kind → Type 0 = λ s. Reached (picking id) m c.args.field.now c.loop.field s in
    let E : RoundEnd → Type 0 = λ e. Enquires (one_round (Some id)) m c.loop.field (Ok e) c.round.new.field in
    enquires_end (picking id) m c.args.field.now c.round.new.field (Told (Err faults.NotFound)) (Err faults.NotFound)
    (round_came (device_of id) (Some id) (λ kind. kind) (λ p. refl) (n + 1) m c.args.field.now c.round.new.field c.loop.field (ends.Nobody c.in-Nobody.field-0)
    (subst R (round_begins n h) c.loop.invariant)
    (subst E c.in-Nobody.is c.in_ok-round.ensures.turns))
    refl

pub returns-in-Nobody-clause-lit : goal.returns-in-Nobody-clause-lit
returns-in-Nobody-clause-lit g c = pick_lit c.args.id.now g.L.Listener.machine c.args.field.now c.round.new.field (Err faults.NotFound) (returns-in-Nobody-clause-turns g c)

pub returns-in-Nobody-clause-rounds : goal.returns-in-Nobody-clause-rounds
returns-in-Nobody-clause-rounds g c = pick_rounds c.args.id.now g.L.Listener.machine c.args.field.now c.round.new.field (Err faults.NotFound) (returns-in-Nobody-clause-turns g c)

pub returns-in-Nobody-clause-crowd : goal.returns-in-Nobody-clause-crowd
returns-in-Nobody-clause-crowd g c = selects_alone g.L.Listener.machine g.L.Listener.identifier c.args.id.now c.args.field.now c.round.new.field (Err faults.NotFound)
    (returns-in-Nobody-clause-turns g c)

pub returns-in-Selected-clause-turns : goal.returns-in-Selected-clause-turns
returns-in-Selected-clause-turns g c =
    let m = g.L.Listener.machine in
    let id : List ℕ = c.args.id.now in
    let n : ℕ = c.loop.counter in
    let h : n < 4 = omega arith in
    let R : Search Kind → Type 0 = λ s. Reached (picking id) m c.args.field.now c.loop.field s in
    let E : RoundEnd → Type 0 = λ e. Enquires (one_round (Some id)) m c.loop.field (Ok e) c.round.new.field in
    enquires_end (picking id) m c.args.field.now c.round.new.field (Told (Ok c.in-Selected.kind)) (Ok c.in-Selected.kind)
    (round_came (device_of id) (Some id) (λ kind. kind) (λ p. refl) (n + 1) m c.args.field.now c.round.new.field c.loop.field (ends.Selected c.in-Selected.kind)
    (subst R (round_begins n h) c.loop.invariant)
    (subst E c.in-Selected.is c.in_ok-round.ensures.turns))
    refl

pub returns-in-Selected-clause-lit : goal.returns-in-Selected-clause-lit
returns-in-Selected-clause-lit g c = pick_lit c.args.id.now g.L.Listener.machine c.args.field.now c.round.new.field (Ok c.in-Selected.kind) (returns-in-Selected-clause-turns g c)

pub returns-in-Selected-clause-rounds : goal.returns-in-Selected-clause-rounds
returns-in-Selected-clause-rounds g c = pick_rounds c.args.id.now g.L.Listener.machine c.args.field.now c.round.new.field (Ok c.in-Selected.kind) (returns-in-Selected-clause-turns g c)

pub returns-in-Selected-clause-crowd : goal.returns-in-Selected-clause-crowd
returns-in-Selected-clause-crowd g c = selects_alone g.L.Listener.machine g.L.Listener.identifier c.args.id.now c.args.field.now c.round.new.field (Ok c.in-Selected.kind)
    (returns-in-Selected-clause-turns g c)

pub returns-clause-turns : goal.returns-clause-turns
returns-clause-turns g c =
    let m = g.L.Listener.machine in
    let id : List ℕ = c.args.id.now in
    let R : ℕ → Type 0 = λ n. Reached (picking id) m c.args.field.now c.loop.field (next_round n) in
    let all : c.loop.counter ≡ 4 = omega arith in
    enquires_end (picking id) m c.args.field.now c.loop.field (Told (Err faults.Disturbed)) (Err faults.Disturbed) (subst R all c.loop.invariant) refl

pub returns-clause-lit : goal.returns-clause-lit
returns-clause-lit g c = pick_lit c.args.id.now g.L.Listener.machine c.args.field.now c.loop.field (Err faults.Disturbed) (returns-clause-turns g c)

pub returns-clause-rounds : goal.returns-clause-rounds
returns-clause-rounds g c = pick_rounds c.args.id.now g.L.Listener.machine c.args.field.now c.loop.field (Err faults.Disturbed) (returns-clause-turns g c)

pub returns-clause-crowd : goal.returns-clause-crowd
returns-clause-crowd g c = selects_alone g.L.Listener.machine g.L.Listener.identifier c.args.id.now c.args.field.now c.loop.field (Err faults.Disturbed) (returns-clause-turns g c)

pub returns-in_err-round-clause-told : goal.returns-in_err-round-clause-told
returns-in_err-round-clause-told g c = tells_picked g.L.Listener.machine c.args.id.now c.args.field.now c.round.new.field c.from_residual.result (returns-in_err-round-clause-turns g c)

pub returns-in-Nobody-clause-told : goal.returns-in-Nobody-clause-told
returns-in-Nobody-clause-told g c = tells_picked g.L.Listener.machine c.args.id.now c.args.field.now c.round.new.field (Err faults.NotFound) (returns-in-Nobody-clause-turns g c)

pub returns-in-Selected-clause-told : goal.returns-in-Selected-clause-told
returns-in-Selected-clause-told g c = tells_picked g.L.Listener.machine c.args.id.now c.args.field.now c.round.new.field (Ok c.in-Selected.kind) (returns-in-Selected-clause-turns g c)

pub returns-clause-told : goal.returns-clause-told
returns-clause-told g c = tells_picked g.L.Listener.machine c.args.id.now c.args.field.now c.loop.field (Err faults.Disturbed) (returns-clause-turns g c)

pub returns-in_err-round-clause-disturbed : goal.returns-in_err-round-clause-disturbed
returns-in_err-round-clause-disturbed g c = pick_given_up g.L.Listener.machine c.args.id.now c.args.field.now c.round.new.field c.from_residual.result (returns-in_err-round-clause-turns g c)

pub returns-in-Nobody-clause-disturbed : goal.returns-in-Nobody-clause-disturbed
returns-in-Nobody-clause-disturbed g c = pick_given_up g.L.Listener.machine c.args.id.now c.args.field.now c.round.new.field (Err faults.NotFound) (returns-in-Nobody-clause-turns g c)

pub returns-in-Selected-clause-disturbed : goal.returns-in-Selected-clause-disturbed
returns-in-Selected-clause-disturbed g c = pick_given_up g.L.Listener.machine c.args.id.now c.args.field.now c.round.new.field (Ok c.in-Selected.kind) (returns-in-Selected-clause-turns g c)

pub returns-clause-disturbed : goal.returns-clause-disturbed
returns-clause-disturbed g c = pick_given_up g.L.Listener.machine c.args.id.now c.args.field.now c.loop.field (Err faults.Disturbed) (returns-clause-turns g c)
