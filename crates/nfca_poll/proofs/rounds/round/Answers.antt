use Rattle.std.proofs.Common.{◌≡◌, ℕ, List, [], ◌∷◌, ◌++◌, length, nat_lt, true, false, Option, Result, Ok, Err, refl, sym, ap, subst, arith}
use Rattle.std.proofs.lemmas.Grind.{common_steps}
use Rattle.std.specs.Option.{option_copied}
use Rattle.nfca_poll.specs.declared.fault.Picked.{Picked}
use Rattle.nfca_poll.specs.declared.fault.PollFault.{PollFault}
use Rattle.nfca_poll.specs.declared.fault.PollFault.TheVariants as faults
use Rattle.nfca_poll.specs.declared.rounds.RoundEnd.{RoundEnd}
use Rattle.nfca_poll.specs.declared.rounds.RoundEnd.TheVariants as ends
use Rattle.nfc_base.specs.declared.event.Event.TheVariants.{Reset}
use Rattle.air_core.specs.Conversation.{Asks}
use Rattle.air_core.specs.World.{reset_by}
use Rattle.air_core.specs.Turn.{Air, world, after_event}
use Rattle.nfca_poll.specs.Poll.{Calling}
use Rattle.nfca_poll.specs.Enquiry.{Enquires, or_memory}
use Rattle.nfca_poll.specs.Seeking.{resolution}
use Rattle.nfca_poll.specs.Rounds.{Search, Begins, Seeks, Sends, has_found, most_found, search_ended}
use Rattle.nfca_poll.specs.private.OneRound.{one_round, round_of, is_wanted}
use Rattle.nfca_poll.proofs.enquiries.Enquiring.{Reached, reached_start, reached_reset, reached_turn, enquires_end, enquires_so, enquires_err}
use Rattle.nfca_poll.proofs.enquiries.EnquiryEnds.{leaves_lit}
use Rattle.nfca_poll.proofs.calls.RoundSteps.{met_in, device_met, nobody_left, given_up, fault_told, met_wanted, met_again, met_too_many, met_new}
use Rattle.nfca_poll.proofs.rounds.round.Goals as goal

pub returns-then-is_err : goal.returns-then-is_err
returns-then-is_err g c =
    let m = g.L.Listener.machine in
    let w : Option (List ℕ) = option_copied c.args.wanted in
    let same : c.reset.new.self ≡ c.args.field.now = grind (arith, common_steps) in
    let R : Air _ → Type 0 = λ a. Reached (one_round w) m c.args.field.now a (Begins 1) in
    record { turns = enquires_so (one_round w) m c.args.field.now c.reset.new.self (Begins 1) (Err faults.Memory) (subst R (sym same) (reached_start (one_round w) m c.args.field.now)) refl }

pub loop-device-init : goal.loop-device-init
loop-device-init g c =
    let m = g.L.Listener.machine in
    let w : Option (List ℕ) = option_copied c.args.wanted in
    let same : c.reset.new.self ≡ after_event c.args.field.now Reset c.args.field.now.fates (reset_by m (world c.args.field.now)) = grind (arith, common_steps) in
    let R : List Picked → Type 0 = λ found. Reached (one_round w) m c.args.field.now c.reset.new.self (Seeks 1 found (Calling 0)) in
    record {
      lit = ap (λ a. a.lit) same;
      few = grind (arith, common_steps);
      so_far = subst R (sym c.new-found.ensures) (reached_reset (one_round w) m c.args.field.now c.args.field.now c.reset.new.self (Begins 1) (reached_start (one_round w) m c.args.field.now) refl
          same);
    }

pub returns-in-Err-Nobody : goal.returns-in-Err-Nobody
returns-in-Err-Nobody g c =
    let m = g.L.Listener.machine in
    let w : Option (List ℕ) = option_copied c.args.wanted in
    let E : PollFault → Type 0 = λ f. Enquires resolution m c.loop-device.field (Err f) c.resolve.new.field in
    record {
      turns = nobody_left w c.loop-device.found m c.args.field.now c.resolve.new.field c.loop-device.field c.loop-device.invariant.so_far
          (subst E c.in-Err-Nobody.field-0-is (c.in-Err-Nobody.ensures.turns c.loop-device.invariant.lit));
    }

pub returns-in-Err-Disturbed : goal.returns-in-Err-Disturbed
returns-in-Err-Disturbed g c =
    let m = g.L.Listener.machine in
    let w : Option (List ℕ) = option_copied c.args.wanted in
    let E : PollFault → Type 0 = λ f. Enquires resolution m c.loop-device.field (Err f) c.resolve.new.field in
    record {
      turns = given_up w c.loop-device.found m c.args.field.now c.resolve.new.field c.loop-device.field c.loop-device.invariant.so_far
          (subst E c.in-Err-Disturbed.field-0-is (c.in-Err-Disturbed.ensures.turns c.loop-device.invariant.lit));
    }

pub returns-in-Err : goal.returns-in-Err
returns-in-Err g c =
    let m = g.L.Listener.machine in
    let w : Option (List ℕ) = option_copied c.args.wanted in
    let a : c.in-Err.fault ≡ faults.Nobody → ⊥ = grind (arith, common_steps) in
    let b : c.in-Err.fault ≡ faults.Disturbed → ⊥ = grind (arith, common_steps) in
    record {
      turns = fault_told w c.loop-device.found m c.args.field.now c.resolve.new.field c.loop-device.field c.in-Err.fault a b c.loop-device.invariant.so_far
          (c.in-Err.ensures.turns c.loop-device.invariant.lit);
    }

pub returns-then-is_wanted : goal.returns-then-is_wanted
returns-then-is_wanted g c =
    let m = g.L.Listener.machine in
    let w : Option (List ℕ) = option_copied c.args.wanted in
    let d : Picked = c.in-Ok.device in
    let wanted : is_wanted w d ≡ true = sym c.if-is_wanted.ensures in
    record {
      turns = enquires_end (one_round w) m c.args.field.now c.resolve.new.field (met_in w c.loop-device.found d) (Ok (ends.Selected d.kind))
          (device_met w c.loop-device.found m c.args.field.now c.resolve.new.field c.loop-device.field d c.loop-device.invariant.so_far (c.in-Ok.ensures.turns c.loop-device.invariant.lit))
          (ap (search_ended (round_of w)) (met_wanted w c.loop-device.found d wanted));
    }

pub returns-then-has : goal.returns-then-has
returns-then-has g c =
    let m = g.L.Listener.machine in
    let w : Option (List ℕ) = option_copied c.args.wanted in
    let d : Picked = c.in-Ok.device in
    let other : is_wanted w d ≡ false = sym c.if-is_wanted.ensures in
    let again : has_found c.loop-device.found d.id ≡ true = sym c.if-has.ensures in
    record {
      turns = enquires_end (one_round w) m c.args.field.now c.resolve.new.field (met_in w c.loop-device.found d) (Ok ends.Disturbed)
          (device_met w c.loop-device.found m c.args.field.now c.resolve.new.field c.loop-device.field d c.loop-device.invariant.so_far (c.in-Ok.ensures.turns c.loop-device.invariant.lit))
          (ap (search_ended (round_of w)) (met_again w c.loop-device.found d other again));
    }

pub returns-then-len-ge-MOST_FOUND : goal.returns-then-len-ge-MOST_FOUND
returns-then-len-ge-MOST_FOUND g c =
    let m = g.L.Listener.machine in
    let w : Option (List ℕ) = option_copied c.args.wanted in
    let d : Picked = c.in-Ok.device in
    let other : is_wanted w d ≡ false = sym c.if-is_wanted.ensures in
    let new : has_found c.loop-device.found d.id ≡ false = sym c.if-has.ensures in
    let full : nat_lt (length c.loop-device.found) most_found ≡ false = grind (arith, common_steps) in
    record {
      turns = enquires_end (one_round w) m c.args.field.now c.resolve.new.field (met_in w c.loop-device.found d) (Err faults.BadAnswer)
          (device_met w c.loop-device.found m c.args.field.now c.resolve.new.field c.loop-device.field d c.loop-device.invariant.so_far (c.in-Ok.ensures.turns c.loop-device.invariant.lit))
          (ap (search_ended (round_of w)) (met_too_many w c.loop-device.found d other new full));
    }

-- after a device that was taken in, SLP_REQ is due
pub returns-in_err-push : goal.returns-in_err-push
returns-in_err-push g c =
    let m = g.L.Listener.machine in
    let w : Option (List ℕ) = option_copied c.args.wanted in
    let d : Picked = c.in-Ok.device in
    let other : is_wanted w d ≡ false = sym c.if-is_wanted.ensures in
    let new : has_found c.loop-device.found d.id ≡ false = sym c.if-has.ensures in
    let room : nat_lt (length c.loop-device.found) most_found ≡ true = grind (arith, common_steps) in
    let E : Result RoundEnd PollFault → Type 0 = λ r. Enquires (one_round w) m c.args.field.now r c.resolve.new.field in
    let same : c.from_residual.result ≡ Err faults.Memory = grind (arith, common_steps) in
    record {
      turns = subst E (sym same)
          (enquires_so (one_round w) m c.args.field.now c.resolve.new.field (met_in w c.loop-device.found d) (Err faults.Memory)
          (device_met w c.loop-device.found m c.args.field.now c.resolve.new.field c.loop-device.field d c.loop-device.invariant.so_far (c.in-Ok.ensures.turns c.loop-device.invariant.lit))
          (ap (λ s. or_memory (search_ended (round_of w) s)) (sym (met_new w c.loop-device.found d other new room))));
    }

pub ask-requires : goal.ask-requires
ask-requires g c = leaves_lit resolution g.L.Listener.machine c.loop-device.field c.resolve.new.field (Ok c.in-Ok.device) refl (c.in-Ok.ensures.turns c.loop-device.invariant.lit)

pub loop-device-preserved : goal.loop-device-preserved
loop-device-preserved g c =
    let m = g.L.Listener.machine in
    let w : Option (List ℕ) = option_copied c.args.wanted in
    let d : Picked = c.in-Ok.device in
    let other : is_wanted w d ≡ false = sym c.if-is_wanted.ensures in
    let new : has_found c.loop-device.found d.id ≡ false = sym c.if-has.ensures in
    let room : nat_lt (length c.loop-device.found) most_found ≡ true = grind (arith, common_steps) in
    let grown : c.push.new.self ≡ c.loop-device.found ++ d ∷ [] = grind (arith, common_steps) in
    let R : Search RoundEnd → Type 0 = λ s. Reached (one_round w) m c.args.field.now c.resolve.new.field s in
    let N : List Picked → Type 0 = λ found. Reached (one_round w) m c.args.field.now c.ask.new.field (Seeks 1 found (Calling 0)) in
    let met : R (Sends 1 (c.loop-device.found ++ d ∷ [])) = subst R (met_new w c.loop-device.found d other new room)
    (device_met w c.loop-device.found m c.args.field.now c.resolve.new.field c.loop-device.field d c.loop-device.invariant.so_far (c.in-Ok.ensures.turns c.loop-device.invariant.lit)) in
    record {
      lit = c.in_ok-ask.ensures.1;
      few = grind (arith, common_steps);
      so_far = subst N (sym grown)
          (reached_turn (one_round w) m c.args.field.now c.resolve.new.field c.ask.new.field (Sends 1 (c.loop-device.found ++ d ∷ [])) c.slp_req.result c.in_ok-ask.field-0 met
          (ap Asks (sym c.slp_req.ensures)) c.in_ok-ask.ensures);
    }

pub returns-in_err-ask : goal.returns-in_err-ask
returns-in_err-ask g c =
    let m = g.L.Listener.machine in
    let w : Option (List ℕ) = option_copied c.args.wanted in
    let d : Picked = c.in-Ok.device in
    let other : is_wanted w d ≡ false = sym c.if-is_wanted.ensures in
    let new : has_found c.loop-device.found d.id ≡ false = sym c.if-has.ensures in
    let room : nat_lt (length c.loop-device.found) most_found ≡ true = grind (arith, common_steps) in
    let R : Search RoundEnd → Type 0 = λ s. Reached (one_round w) m c.args.field.now c.resolve.new.field s in
    let E : Result RoundEnd PollFault → Type 0 = λ r. Enquires (one_round w) m c.args.field.now r c.ask.new.field in
    let same : c.from_residual-in_err-ask.result ≡ Err c.in_err-ask.field-0.0 = grind (arith, common_steps) in
    let met : R (Sends 1 (c.loop-device.found ++ d ∷ [])) = subst R (met_new w c.loop-device.found d other new room)
    (device_met w c.loop-device.found m c.args.field.now c.resolve.new.field c.loop-device.field d c.loop-device.invariant.so_far (c.in-Ok.ensures.turns c.loop-device.invariant.lit)) in
    record {
      turns = subst E (sym same)
          (enquires_err (one_round w) m c.args.field.now c.resolve.new.field c.ask.new.field (Sends 1 (c.loop-device.found ++ d ∷ [])) c.slp_req.result c.in_err-ask.field-0.0 met
          (ap Asks (sym c.slp_req.ensures)) refl
          c.in_err-ask.ensures);
    }
