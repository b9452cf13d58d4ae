use Rattle.std.proofs.Common.{◌≡◌, ◌<◌, ℕ, List, Some, Result, Ok, Err, refl, sym, ◌∙◌, ap, subst, arith}
use Rattle.std.proofs.lemmas.Grind.{common_steps}
use Rattle.nfc_base.specs.declared.event.Event.TheVariants.{Reset}
use Rattle.air_core.specs.World.{reset_by}
use Rattle.air_core.specs.Turn.{Air, world, after_event}
use Rattle.nfca_poll.specs.declared.fault.PollFault.{PollFault}
use Rattle.nfca_poll.specs.declared.fault.PollFault.TheVariants as faults
use Rattle.nfca_poll.specs.Enquiry.{Enquires, or_memory}
use Rattle.nfca_poll.proofs.enquiries.Enquiring.{Reached, reached_start, reached_reset, reached_turn, enquires_err, enquires_end, enquires_so}
use Rattle.nfcv_poll.specs.Finding.{identifiers}
use Rattle.nfcv_poll.specs.Search.{hears, due_request, over_at, is_over, Begins, Runs, asked_for, finding_all}
use Rattle.nfcv_poll.specs.declared.search.Search.{Search}
use Rattle.nfcv_poll.proofs.Ascending.{finds_ascending}
use Rattle.nfcv_poll.proofs.Causes.{has_causes}
use Rattle.nfcv_poll.proofs.Ends.{due_not_over, over_well}
use Rattle.nfcv_poll.proofs.Falls.{left, falls}
use Rattle.nfcv_poll.proofs.Crowding.{searches_crowd}
use Rattle.nfcv_poll.proofs.FoundTags.{finds_tags}
use Rattle.nfcv_poll.proofs.Losses.{loses_exactly}
use Rattle.nfcv_poll.proofs.finding.find_all_v.Goals as goal

pub returns-then-is_err-clause-turns : goal.returns-then-is_err-clause-turns
returns-then-is_err-clause-turns g c =
    let m = g.L.Listener.machine in
    let same : c.reset.new.self ≡ c.args.field.now = grind (arith, common_steps) in
    let R : Air _ → Type 0 = λ a. Reached finding_all m c.args.field.now a Begins in
    enquires_so finding_all m c.args.field.now c.reset.new.self Begins (Err faults.Memory) (subst R (sym same) (reached_start finding_all m c.args.field.now)) refl

pub returns-then-is_err-clause-crowd : goal.returns-then-is_err-clause-crowd
returns-then-is_err-clause-crowd g c = searches_crowd g.L.Listener.machine c.args.field.now c.reset.new.self (Err faults.Memory) (returns-then-is_err-clause-turns g c)

pub requests-init : goal.requests-init
requests-init g c =
    let m = g.L.Listener.machine in
    let same : c.reset.new.self ≡ after_event c.args.field.now Reset c.args.field.now.fates (reset_by m (world c.args.field.now)) = grind (arith, common_steps) in
    let R : Search → Type 0 = λ s. Reached finding_all m c.args.field.now c.reset.new.self (Runs s) in
    record {
      lit = ap (λ a. a.lit) same;
      so_far = subst R (sym c.new-search.ensures) (reached_reset finding_all m c.args.field.now c.args.field.now c.reset.new.self Begins (reached_start finding_all m c.args.field.now) refl same);
    }

pub returns-in_err-heard-clause-turns : goal.returns-in_err-heard-clause-turns
returns-in_err-heard-clause-turns g c =
    let m = g.L.Listener.machine in
    let s : Search = c.requests.search in
    let due : due_request s ≡ Some c.in-Some.request = sym c.due.ensures ∙ c.in-Some.is in
    let E : Result (List (List ℕ)) PollFault → Type 0 = λ r. Enquires finding_all m c.args.field.now r c.ask.new.field in
    let same : c.from_residual.result ≡ Err c.in_err-heard.field-0.0 = grind (arith, common_steps) in
    subst E (sym (ap identifiers same))
    (enquires_err finding_all m c.args.field.now c.requests.field c.ask.new.field (Runs s) c.in-Some.request c.in_err-heard.field-0.0 c.requests.invariant.so_far (ap asked_for due)
    (due_not_over s c.in-Some.request due) c.in_err-heard.ensures)

pub returns-in_err-heard-clause-causes : goal.returns-in_err-heard-clause-causes
returns-in_err-heard-clause-causes g c = has_causes g.L.Listener.machine c.args.field.now c.ask.new.field (identifiers c.from_residual.result) (returns-in_err-heard-clause-turns g c)

pub returns-in_err-heard-clause-crowd : goal.returns-in_err-heard-clause-crowd
returns-in_err-heard-clause-crowd g c = searches_crowd g.L.Listener.machine c.args.field.now c.ask.new.field (identifiers c.from_residual.result) (returns-in_err-heard-clause-turns g c)

pub returns-in_err-heard-clause-lost : goal.returns-in_err-heard-clause-lost
returns-in_err-heard-clause-lost g c = loses_exactly g.L.Listener.machine c.args.field.now c.ask.new.field (identifiers c.from_residual.result) (returns-in_err-heard-clause-turns g c)

pub requests-smaller : goal.requests-smaller
requests-smaller g c =
    let s : Search = c.requests.search in
    let due : due_request s ≡ Some c.in-Some.request = sym c.due.ensures ∙ c.in-Some.is in
    let became : c.hear.new.self ≡ hears s c.in_ok-heard.heard = grind (arith, common_steps) in
    let B : Search → Type 0 = λ t. left t < left s in
    subst B (sym became) (falls s c.in_ok-heard.heard c.in-Some.request due)

pub requests-preserved : goal.requests-preserved
requests-preserved g c =
    let m = g.L.Listener.machine in
    let s : Search = c.requests.search in
    let due : due_request s ≡ Some c.in-Some.request = sym c.due.ensures ∙ c.in-Some.is in
    let became : c.hear.new.self ≡ hears s c.in_ok-heard.heard = grind (arith, common_steps) in
    let R : Search → Type 0 = λ t. Reached finding_all m c.args.field.now c.ask.new.field (Runs t) in
    record {
      lit = c.in_ok-heard.ensures.1;
      so_far = subst R (sym became)
          (reached_turn finding_all m c.args.field.now c.requests.field c.ask.new.field (Runs s) c.in-Some.request c.in_ok-heard.heard c.requests.invariant.so_far (ap asked_for due)
          c.in_ok-heard.ensures);
    }

pub returns-in_err-hear-clause-turns : goal.returns-in_err-hear-clause-turns
returns-in_err-hear-clause-turns g c =
    let m = g.L.Listener.machine in
    let s : Search = c.requests.search in
    let due : due_request s ≡ Some c.in-Some.request = sym c.due.ensures ∙ c.in-Some.is in
    let E : Result (List (List ℕ)) PollFault → Type 0 = λ r. Enquires finding_all m c.args.field.now r c.ask.new.field in
    let same : c.from_residual-in_err-hear.result ≡ Err faults.Memory = grind (arith, common_steps) in
    subst E (sym (ap identifiers same))
    (enquires_so finding_all m c.args.field.now c.ask.new.field (Runs (hears s c.in_ok-heard.heard)) (Err faults.Memory)
    (reached_turn finding_all m c.args.field.now c.requests.field c.ask.new.field (Runs s) c.in-Some.request c.in_ok-heard.heard c.requests.invariant.so_far (ap asked_for due) c.in_ok-heard.ensures)
    (sym (ap or_memory c.in_err-hear.ensures.err.1)))

pub returns-in_err-hear-clause-causes : goal.returns-in_err-hear-clause-causes
returns-in_err-hear-clause-causes g c =
    has_causes g.L.Listener.machine c.args.field.now c.ask.new.field (identifiers c.from_residual-in_err-hear.result) (returns-in_err-hear-clause-turns g c)

pub returns-in_err-hear-clause-crowd : goal.returns-in_err-hear-clause-crowd
returns-in_err-hear-clause-crowd g c =
    searches_crowd g.L.Listener.machine c.args.field.now c.ask.new.field (identifiers c.from_residual-in_err-hear.result) (returns-in_err-hear-clause-turns g c)

pub returns-in_err-hear-clause-lost : goal.returns-in_err-hear-clause-lost
returns-in_err-hear-clause-lost g c =
    loses_exactly g.L.Listener.machine c.args.field.now c.ask.new.field (identifiers c.from_residual-in_err-hear.result) (returns-in_err-hear-clause-turns g c)

pub returns-in-Fails-clause-causes : goal.returns-in-Fails-clause-causes
returns-in-Fails-clause-causes g c =
    let m = g.L.Listener.machine in
    has_causes m c.args.field.now c.requests.field (Err c.in-Fails.fault)
    (enquires_end finding_all m c.args.field.now c.requests.field (Runs c.requests.search) (Err c.in-Fails.fault) c.requests.invariant.so_far (ap (over_at c.requests.search.found) c.in-Fails.is))

pub returns-in-Fails-clause-tags : goal.returns-in-Fails-clause-tags
returns-in-Fails-clause-tags g c =
    let m = g.L.Listener.machine in
    finds_tags m c.args.field.now c.requests.field (Err c.in-Fails.fault)
    (enquires_end finding_all m c.args.field.now c.requests.field (Runs c.requests.search) (Err c.in-Fails.fault) c.requests.invariant.so_far (ap (over_at c.requests.search.found) c.in-Fails.is))

pub returns-in-Fails-clause-crowd : goal.returns-in-Fails-clause-crowd
returns-in-Fails-clause-crowd g c =
    let m = g.L.Listener.machine in
    searches_crowd m c.args.field.now c.requests.field (Err c.in-Fails.fault)
    (enquires_end finding_all m c.args.field.now c.requests.field (Runs c.requests.search) (Err c.in-Fails.fault) c.requests.invariant.so_far (ap (over_at c.requests.search.found) c.in-Fails.is))

pub returns-in-Fails-clause-lost : goal.returns-in-Fails-clause-lost
returns-in-Fails-clause-lost g c =
    let m = g.L.Listener.machine in
    loses_exactly m c.args.field.now c.requests.field (Err c.in-Fails.fault)
    (enquires_end finding_all m c.args.field.now c.requests.field (Runs c.requests.search) (Err c.in-Fails.fault) c.requests.invariant.so_far (ap (over_at c.requests.search.found) c.in-Fails.is))

pub returns : goal.returns
returns g c =
    let m = g.L.Listener.machine in
    let s : Search = c.requests.search in
    let E : List (List ℕ) → Type 0 = λ found. Enquires finding_all m c.args.field.now (Ok found) c.requests.field in
    let over : is_over s ≡ Some (Ok s.found) = over_well s.found s.stage c.due.result c.due.ensures c.in_default.not-Some c.in_default-stage.not-Fails in
    let turns : E c.into_vec.result.items = subst E (sym c.into_vec.ensures) (enquires_end finding_all m c.args.field.now c.requests.field (Runs s) (Ok s.found) c.requests.invariant.so_far over) in
    record {
      turns = turns;
      tags = finds_tags m c.args.field.now c.requests.field (Ok c.into_vec.result.items) turns;
      crowd = searches_crowd m c.args.field.now c.requests.field (Ok c.into_vec.result.items) turns;
      ascending = finds_ascending m c.args.field.now c.requests.field (Ok c.into_vec.result.items) turns;
      causes = has_causes m c.args.field.now c.requests.field (Ok c.into_vec.result.items) turns;
      lost = loses_exactly m c.args.field.now c.requests.field (Ok c.into_vec.result.items) turns;
    }
