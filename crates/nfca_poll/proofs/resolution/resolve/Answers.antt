use Rattle.std.proofs.Common.{◌≡◌, ◌<◌, Result, Err, sym, ◌∙◌, subst, arith}
use Rattle.std.proofs.lemmas.Grind.{common_steps}
use Rattle.nfca_poll.specs.declared.fault.Picked.{Picked}
use Rattle.nfca_poll.specs.declared.fault.PollFault.{PollFault}
use Rattle.nfca_poll.specs.Poll.{Seek, seek_step}
use Rattle.nfca_poll.specs.Enquiry.{Enquires, LosesByBreak}
use Rattle.nfca_poll.specs.Seeking.{resolution, seek_of}
use Rattle.nfca_poll.proofs.enquiries.SeekSteps.{potential, falls}
use Rattle.nfca_poll.proofs.enquiries.Enquiring.{Reached, reached_start, due_of_request, goes_on, ended_is, reached_turn, enquires_err, enquires_end}
use Rattle.nfca_poll.specs.Crowd.{PicksFromRest}
use Rattle.nfca_poll.proofs.enquiries.FewAsked.{Counted, counted_start, counted_turn, few_asked, few_err}
use Rattle.nfca_poll.proofs.enquiries.LostField.{lost_err, never_lost}
use Rattle.nfca_poll.proofs.enquiries.TellingResolution.{tells_resolution}
use Rattle.nfca_poll.proofs.quiet.FirstIdle.{from_rest, picks_first}
use Rattle.nfca_poll.proofs.noise.ThroughNoise.{Holds, holds_start, holds_turn, holds_end, holds_err}
use Rattle.nfca_poll.proofs.noise.NobodyIdle.{Sleepers, sleepers_start, sleepers_turn, sleepers_end, sleepers_err}
use Rattle.nfca_poll.specs.AnyStart.{PicksFromAny, PicksAlone}
use Rattle.nfca_poll.proofs.noise.AnyTurns.{Mixes, mixes_start, mixes_turn, mixes_end, mixes_err}
use Rattle.nfca_poll.proofs.noise.Unlinked.{Frees, frees_start, frees_turn, frees_end, frees_err}
use Rattle.nfca_poll.proofs.resolution.resolve.Goals as goal

pub returns-in_err-heard-clause-turns : goal.returns-in_err-heard-clause-turns
returns-in_err-heard-clause-turns g c lit =
    let E : Result Picked PollFault → Type 0 = λ r. Enquires resolution g.L.Listener.machine c.args.field.now r c.ask.new.field in
    let same : c.from_residual.result ≡ Err c.in_err-heard.field-0.0 = grind (arith, common_steps) in
    subst E (sym same)
    (enquires_err resolution g.L.Listener.machine c.args.field.now c.loop-heard.field c.ask.new.field (seek_of c.loop-heard.seeking) c.request.result c.in_err-heard.field-0.0
    c.loop-heard.invariant.so_far
    (due_of_request c.loop-heard.seeking c.request.result c.request.ensures) (goes_on c.loop-heard.seeking) c.in_err-heard.ensures)

pub loop-heard-smaller : goal.loop-heard-smaller
loop-heard-smaller g c =
    let P : Seek → Type 0 = λ s. potential s < potential (seek_of c.loop-heard.seeking) in
    subst P (sym c.in-Goes.ensures) (falls c.loop-heard.seeking c.in_ok-heard.heard)

pub loop-heard-preserved : goal.loop-heard-preserved
loop-heard-preserved g c =
    let P : Seek → Type 0 = λ s. Reached resolution g.L.Listener.machine c.args.field.now c.ask.new.field s in
    let K : Seek → Type 0 = λ s. Counted g.L.Listener.machine c.args.field.now c.ask.new.field s in
    let H : Seek → Type 0 = λ s. Holds g.L.Listener.machine g.L.Listener.identifier c.args.field.now c.ask.new.field s in
    let M : Seek → Type 0 = λ s. Mixes g.L.Listener.machine g.L.Listener.identifier c.args.field.now c.ask.new.field s in
    let U : Seek → Type 0 = λ s. Frees g.L.Listener.machine g.L.Listener.identifier c.args.field.now c.ask.new.field s in
    let N : Seek → Type 0 = λ s. Sleepers g.L.Listener.machine g.L.Listener.identifier c.args.field.now c.ask.new.field s in
    record {
      lit = c.in_ok-heard.ensures.1;
      so_far = subst P (sym c.in-Goes.ensures)
          (reached_turn resolution g.L.Listener.machine c.args.field.now c.loop-heard.field c.ask.new.field (seek_of c.loop-heard.seeking) c.request.result c.in_ok-heard.heard
          c.loop-heard.invariant.so_far
          (due_of_request c.loop-heard.seeking c.request.result c.request.ensures) c.in_ok-heard.ensures);
      count = subst K (sym c.in-Goes.ensures)
          (counted_turn g.L.Listener.machine c.args.field.now c.loop-heard.field c.ask.new.field c.loop-heard.seeking c.request.result c.in_ok-heard.heard c.loop-heard.invariant.count
          c.loop-heard.invariant.so_far
          c.request.ensures c.in_ok-heard.ensures);
      noisy = subst H (sym c.in-Goes.ensures)
          (holds_turn g.L.Listener.machine g.L.Listener.identifier c.args.field.now c.loop-heard.field c.ask.new.field c.loop-heard.seeking c.request.result c.in_ok-heard.heard
          c.loop-heard.invariant.noisy c.loop-heard.invariant.so_far
          c.request.ensures c.in_ok-heard.ensures);
      nobody = subst N (sym c.in-Goes.ensures)
          (sleepers_turn g.L.Listener.machine g.L.Listener.identifier c.args.field.now c.loop-heard.field c.ask.new.field c.loop-heard.seeking c.request.result c.in_ok-heard.heard
          c.loop-heard.invariant.nobody
          c.request.ensures c.in_ok-heard.ensures);
      any = subst M (sym c.in-Goes.ensures)
          (mixes_turn g.L.Listener.machine g.L.Listener.identifier c.args.field.now c.loop-heard.field c.ask.new.field c.loop-heard.seeking c.request.result c.in_ok-heard.heard
          c.loop-heard.invariant.any c.loop-heard.invariant.so_far
          c.request.ensures c.in_ok-heard.ensures);
      alone = subst U (sym c.in-Goes.ensures)
          (frees_turn g.L.Listener.machine g.L.Listener.identifier c.args.field.now c.loop-heard.field c.ask.new.field c.loop-heard.seeking c.request.result c.in_ok-heard.heard
          c.loop-heard.invariant.alone c.loop-heard.invariant.so_far
          c.request.ensures c.in_ok-heard.ensures);
    }

pub returns-in-Ends-clause-turns : goal.returns-in-Ends-clause-turns
returns-in-Ends-clause-turns g c lit =
    enquires_end resolution g.L.Listener.machine c.args.field.now c.ask.new.field (seek_step (seek_of c.loop-heard.seeking) c.in_ok-heard.heard) c.in-Ends.result
    (reached_turn resolution g.L.Listener.machine c.args.field.now c.loop-heard.field c.ask.new.field (seek_of c.loop-heard.seeking) c.request.result c.in_ok-heard.heard c.loop-heard.invariant.so_far
    (due_of_request c.loop-heard.seeking c.request.result c.request.ensures) c.in_ok-heard.ensures)
    (ended_is (seek_step (seek_of c.loop-heard.seeking) c.in_ok-heard.heard) c.in-Ends.ensures.0 c.in-Ends.result c.in-Ends.ensures.1 c.in-Ends.ensures.2)

pub loop-heard-init : goal.loop-heard-init
loop-heard-init g c = record {
  lit = grind (arith, common_steps);
  so_far = reached_start resolution g.L.Listener.machine c.args.field.now;
  count = counted_start g.L.Listener.machine c.args.field.now;
  noisy = holds_start g.L.Listener.machine g.L.Listener.identifier c.args.field.now;
  nobody = sleepers_start g.L.Listener.machine g.L.Listener.identifier c.args.field.now;
  any = mixes_start g.L.Listener.machine g.L.Listener.identifier c.args.field.now;
  alone = frees_start g.L.Listener.machine g.L.Listener.identifier c.args.field.now;
}

pub returns-in_err-heard-clause-few : goal.returns-in_err-heard-clause-few
returns-in_err-heard-clause-few g c =
    few_err g.L.Listener.machine c.args.field.now c.loop-heard.field c.ask.new.field c.loop-heard.seeking c.request.result c.in_err-heard.field-0.0 c.loop-heard.invariant.count
    c.loop-heard.invariant.so_far c.request.ensures
    c.in_err-heard.ensures

pub returns-in-Ends-clause-few : goal.returns-in-Ends-clause-few
returns-in-Ends-clause-few g c =
    few_asked g.L.Listener.machine c.args.field.now c.ask.new.field (seek_step (seek_of c.loop-heard.seeking) c.in_ok-heard.heard)
    (counted_turn g.L.Listener.machine c.args.field.now c.loop-heard.field c.ask.new.field c.loop-heard.seeking c.request.result c.in_ok-heard.heard c.loop-heard.invariant.count
    c.loop-heard.invariant.so_far
    c.request.ensures c.in_ok-heard.ensures)

pub returns-in_err-heard-clause-lost : goal.returns-in_err-heard-clause-lost
returns-in_err-heard-clause-lost g c =
    let E : Result Picked PollFault → Type 0 = λ r. LosesByBreak c.args.field.now r c.ask.new.field in
    let same : c.from_residual.result ≡ Err c.in_err-heard.field-0.0 = grind (arith, common_steps) in
    subst E (sym same)
    (lost_err g.L.Listener.machine resolution c.args.field.now c.loop-heard.field c.ask.new.field (seek_of c.loop-heard.seeking) c.request.result c.in_err-heard.field-0.0 c.loop-heard.invariant.so_far
    c.in_err-heard.ensures)

pub returns-in-Ends-clause-lost : goal.returns-in-Ends-clause-lost
returns-in-Ends-clause-lost g c e = absurd (never_lost c.in-Ends.ensures.0 (sym c.in-Ends.ensures.2 ∙ e))

pub returns-in_err-heard-clause-any : goal.returns-in_err-heard-clause-any
returns-in_err-heard-clause-any g c lit polled =
    let E : Result Picked PollFault → Type 0 = λ r. PicksFromAny polled.ours c.args.field.now r c.ask.new.field in
    let same : c.from_residual.result ≡ Err c.in_err-heard.field-0.0 = grind (arith, common_steps) in
    subst E (sym same)
    (mixes_err g.L.Listener.machine g.L.Listener.identifier c.args.field.now c.loop-heard.field c.ask.new.field c.loop-heard.seeking c.request.result c.in_err-heard.field-0.0
    c.loop-heard.invariant.any c.in_err-heard.ensures polled.ours polled.yields)

pub returns-in-Ends-clause-any : goal.returns-in-Ends-clause-any
returns-in-Ends-clause-any g c lit polled =
    mixes_end g.L.Listener.machine g.L.Listener.identifier c.args.field.now c.ask.new.field (seek_step (seek_of c.loop-heard.seeking) c.in_ok-heard.heard) c.in-Ends.ensures.0 c.in-Ends.result
    (mixes_turn g.L.Listener.machine g.L.Listener.identifier c.args.field.now c.loop-heard.field c.ask.new.field c.loop-heard.seeking c.request.result c.in_ok-heard.heard c.loop-heard.invariant.any
    c.loop-heard.invariant.so_far
    c.request.ensures c.in_ok-heard.ensures)
    c.in-Ends.ensures.1 c.in-Ends.ensures.2 polled.ours polled.yields

pub returns-in_err-heard-clause-alone : goal.returns-in_err-heard-clause-alone
returns-in_err-heard-clause-alone g c lit polled =
    let E : Result Picked PollFault → Type 0 = λ r. PicksAlone polled.ours polled.unlinked c.args.field.now r c.ask.new.field in
    let same : c.from_residual.result ≡ Err c.in_err-heard.field-0.0 = grind (arith, common_steps) in
    subst E (sym same)
    (frees_err g.L.Listener.machine g.L.Listener.identifier c.args.field.now c.loop-heard.field c.ask.new.field c.loop-heard.seeking c.request.result c.in_err-heard.field-0.0
    c.loop-heard.invariant.alone c.in_err-heard.ensures polled.ours polled.unlinked polled.leaves)

pub returns-in-Ends-clause-alone : goal.returns-in-Ends-clause-alone
returns-in-Ends-clause-alone g c lit polled =
    frees_end g.L.Listener.machine g.L.Listener.identifier c.args.field.now c.ask.new.field (seek_step (seek_of c.loop-heard.seeking) c.in_ok-heard.heard) c.in-Ends.ensures.0 c.in-Ends.result
    (frees_turn g.L.Listener.machine g.L.Listener.identifier c.args.field.now c.loop-heard.field c.ask.new.field c.loop-heard.seeking c.request.result c.in_ok-heard.heard c.loop-heard.invariant.alone
    c.loop-heard.invariant.so_far
    c.request.ensures c.in_ok-heard.ensures)
    c.in-Ends.ensures.1 c.in-Ends.ensures.2 polled.ours polled.unlinked polled.leaves

pub returns-in_err-heard-clause-told : goal.returns-in_err-heard-clause-told
returns-in_err-heard-clause-told g c lit = tells_resolution g.L.Listener.machine c.args.field.now c.ask.new.field _ (returns-in_err-heard-clause-turns g c lit)

pub returns-in-Ends-clause-told : goal.returns-in-Ends-clause-told
returns-in-Ends-clause-told g c lit = tells_resolution g.L.Listener.machine c.args.field.now c.ask.new.field _ (returns-in-Ends-clause-turns g c lit)

pub returns-in_err-heard-clause-crowd : goal.returns-in_err-heard-clause-crowd
returns-in_err-heard-clause-crowd g c lit ours =
    let E : Result Picked PollFault → Type 0 = λ r. PicksFromRest ours c.args.field.now r c.ask.new.field in
    let same : c.from_residual.result ≡ Err c.in_err-heard.field-0.0 = grind (arith, common_steps) in
    subst E (sym same)
    (from_rest g.L.Listener.machine g.L.Listener.identifier ours c.args.field.now c.ask.new.field (Err c.in_err-heard.field-0.0)
    (holds_err g.L.Listener.machine g.L.Listener.identifier c.args.field.now c.loop-heard.field c.ask.new.field c.request.result c.in_err-heard.field-0.0 c.in_err-heard.ensures ours)
    (sleepers_err g.L.Listener.machine g.L.Listener.identifier c.args.field.now c.loop-heard.field c.ask.new.field c.request.result c.in_err-heard.field-0.0 c.in_err-heard.ensures ours))

pub returns-in-Ends-clause-crowd : goal.returns-in-Ends-clause-crowd
returns-in-Ends-clause-crowd g c lit ours =
    from_rest g.L.Listener.machine g.L.Listener.identifier ours c.args.field.now c.ask.new.field c.in-Ends.result
    (holds_end g.L.Listener.machine g.L.Listener.identifier c.args.field.now c.ask.new.field (seek_step (seek_of c.loop-heard.seeking) c.in_ok-heard.heard) c.in-Ends.ensures.0 c.in-Ends.result
    (holds_turn g.L.Listener.machine g.L.Listener.identifier c.args.field.now c.loop-heard.field c.ask.new.field c.loop-heard.seeking c.request.result c.in_ok-heard.heard c.loop-heard.invariant.noisy
    c.loop-heard.invariant.so_far
    c.request.ensures c.in_ok-heard.ensures)
    c.in-Ends.ensures.1 c.in-Ends.ensures.2 ours)
    (sleepers_end g.L.Listener.machine g.L.Listener.identifier c.args.field.now c.ask.new.field (seek_step (seek_of c.loop-heard.seeking) c.in_ok-heard.heard) c.in-Ends.ensures.0 c.in-Ends.result
    (sleepers_turn g.L.Listener.machine g.L.Listener.identifier c.args.field.now c.loop-heard.field c.ask.new.field c.loop-heard.seeking c.request.result c.in_ok-heard.heard
    c.loop-heard.invariant.nobody c.request.ensures
    c.in_ok-heard.ensures)
    c.in-Ends.ensures.1 c.in-Ends.ensures.2 ours)

pub returns-in_err-heard-clause-first : goal.returns-in_err-heard-clause-first
returns-in_err-heard-clause-first g c lit ours =
    picks_first g.L.Listener.machine g.L.Listener.identifier ours c.args.field.now c.ask.new.field _ lit (returns-in_err-heard-clause-lost g c) (returns-in_err-heard-clause-crowd g c lit ours)

pub returns-in-Ends-clause-first : goal.returns-in-Ends-clause-first
returns-in-Ends-clause-first g c lit ours =
    picks_first g.L.Listener.machine g.L.Listener.identifier ours c.args.field.now c.ask.new.field c.in-Ends.result lit (returns-in-Ends-clause-lost g c) (returns-in-Ends-clause-crowd g c lit ours)
