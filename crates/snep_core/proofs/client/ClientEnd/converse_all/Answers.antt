use Rattle.std.proofs.Common.{rules, ◌≡◌, ◌<◌, ℕ, List, refl, sym, ap, subst, ◌∙◌}
use Rattle.nfc_base.specs.Choosing.{first_number}
use Rattle.snep_core.specs.declared.job.Turn.{Turn}
use Rattle.snep_core.specs.declared.job.Turn.TheVariants.{Ended, Went, GaveUp}
use Rattle.snep_core.specs.Calling.{IsCut, Turned}
use Rattle.snep_core.specs.RepliesLeft.{IsUnderWay, replies_left}
use Rattle.snep_core.specs.Slots.{noted}
use Rattle.snep_core.specs.Talk.{Ends, Goes, OnSap, Working, begun, client_sap, ready, saps}
use Rattle.snep_core.proofs.jobs.CallsEnd.{replies_fall}
use Rattle.snep_core.proofs.sessions.Following.{ended_follow, replied_follow, replied_saps}
use Rattle.snep_core.proofs.jobs.SlotPuts.{follow_stays, noted_again}
use Rattle.snep_core.proofs.jobs.Talking.{TalksTo, rests_at, talks_begin, talks_break_at, talks_give_up_at, talks_on}
use Rattle.snep_core.proofs.client.ClientEnd.converse_all.Goals as goal

pub turns-init : goal.turns-init
turns-init g c = record {
  spent = c.requires.going;
  ready = c.requires.ready;
  same = refl;
  slots_are = search rules;
  saps_are = search rules;
  under_way = c.requires.under_way;
  talks = talks_begin g.C.Carrier.seen g.C.Carrier.swaps g.A.Answerer.steps g.A.Answerer.stops c.args.counts
      (begun c.args.self.now.llc c.args.first.items) c.args.carrier.now c.args.far.now;
}

pub returns-in_default-clause-err : goal.returns-in_default-clause-err
returns-in_default-clause-err g c = (
  c.args.first.items,
  rests_at g.C.Carrier.seen g.C.Carrier.swaps g.A.Answerer.steps g.A.Answerer.stops c.args.counts
      (record { llc = c.args.self.now.llc; jobs = c.args.first.items; idle = 0 }) c.args.carrier.now c.args.far.now c.spend.result c.spend.new.self.llc
      c.spend.ensures.fault,
  search rules,
)

pub returns-in-Err-clause-err : goal.returns-in-Err-clause-err
returns-in-Err-clause-err g c =
    let w : Working = record { llc = c.turns.self.llc; jobs = c.turns.jobs.items; idle = c.turns.idle } in
    let new = c.turn.new.self.llc in
    let cut =
    subst (λ (n : ℕ). IsCut g.C.Carrier.seen g.C.Carrier.swaps g.A.Answerer.steps g.A.Answerer.stops n (ready w).llc c.turns.carrier c.turns.far
    c.in-Err.fault new c.turn.new.carrier c.turn.new.far) c.next.ensures.first c.in-Err.ensures.err in (
      c.turns.jobs.items,
      talks_break_at g.C.Carrier.seen g.C.Carrier.swaps g.A.Answerer.steps g.A.Answerer.stops c.args.counts
          (begun c.args.self.now.llc c.args.first.items) c.args.carrier.now c.args.far.now c.turns.left w c.turns.carrier c.turns.far c.turns.invariant.talks
          c.in-Err.fault new c.turn.new.carrier c.turn.new.far cut,
      c.turns.invariant.slots_are,
    )

pub returns-in-Ok-Ended-clause-ok : goal.returns-in-Ok-Ended-clause-ok
returns-in-Ok-Ended-clause-ok g c =
    let w : Working = record { llc = c.turns.self.llc; jobs = c.turns.jobs.items; idle = c.turns.idle } in
    let new = c.turn.new.self.llc in
    let turned =
    subst (λ (t : Turn). Turned g.C.Carrier.seen g.C.Carrier.swaps g.A.Answerer.steps g.A.Answerer.stops c.next.result w c.turns.carrier c.turns.far t new
    c.turn.new.carrier c.turn.new.far) c.in-Ok-Ended.field-0-is c.in-Ok-Ended.ensures.ok in
    let counted =
    subst (λ (n : ℕ). Turned g.C.Carrier.seen g.C.Carrier.swaps g.A.Answerer.steps g.A.Answerer.stops n w c.turns.carrier c.turns.far
    (Ended c.in-Ok-Ended.ended) new c.turn.new.carrier c.turn.new.far) c.next.ensures.first turned in
    (talks_on g.C.Carrier.seen g.C.Carrier.swaps g.A.Answerer.steps g.A.Answerer.stops c.args.counts (begun c.args.self.now.llc c.args.first.items)
    c.args.carrier.now c.args.far.now c.turns.left w c.turns.carrier c.turns.far c.turns.invariant.talks (Ends c.in-Ok-Ended.ended new)
    c.turn.new.carrier c.turn.new.far counted).talks

pub returns-in-Ok-GaveUp-clause-err : goal.returns-in-Ok-GaveUp-clause-err
returns-in-Ok-GaveUp-clause-err g c =
    let w : Working = record { llc = c.turns.self.llc; jobs = c.turns.jobs.items; idle = c.turns.idle } in
    let new = c.turn.new.self.llc in
    let turned =
    subst (λ (t : Turn). Turned g.C.Carrier.seen g.C.Carrier.swaps g.A.Answerer.steps g.A.Answerer.stops c.next.result w c.turns.carrier c.turns.far t new
    c.turn.new.carrier c.turn.new.far) c.in-Ok-GaveUp.field-0-is c.in-Ok-GaveUp.ensures.ok in
    let counted =
    subst (λ (n : ℕ). Turned g.C.Carrier.seen g.C.Carrier.swaps g.A.Answerer.steps g.A.Answerer.stops n w c.turns.carrier c.turns.far
    GaveUp new c.turn.new.carrier c.turn.new.far) c.next.ensures.first turned in (
      c.turns.jobs.items,
      talks_give_up_at g.C.Carrier.seen g.C.Carrier.swaps g.A.Answerer.steps g.A.Answerer.stops c.args.counts (begun c.args.self.now.llc c.args.first.items)
          c.args.carrier.now c.args.far.now c.turns.left w c.turns.carrier c.turns.far c.turns.invariant.talks counted.0 new
          c.turn.new.carrier c.turn.new.far counted.1,
      c.turns.invariant.slots_are,
    )

pub returns-in-Ok-Ended-clause-told : goal.returns-in-Ok-Ended-clause-told
returns-in-Ok-Ended-clause-told g c =
    let w : Working = record { llc = c.turns.self.llc; jobs = c.turns.jobs.items; idle = c.turns.idle } in
    let new = c.turn.new.self.llc in
    let ended = c.in-Ok-Ended.ended in
    let turned =
    subst (λ (t : Turn). Turned g.C.Carrier.seen g.C.Carrier.swaps g.A.Answerer.steps g.A.Answerer.stops c.next.result w c.turns.carrier c.turns.far t new
    c.turn.new.carrier c.turn.new.far) c.in-Ok-Ended.field-0-is c.in-Ok-Ended.ensures.ok in
    let stays = follow_stays w.jobs ended (ended_follow c.next.result w ended new turned.reply turned.step) in
    let again : noted ended c.turns.slots ≡ noted ended c.args.slots.now =
    ap (noted ended) c.turns.invariant.slots_are ∙ noted_again w.jobs ended stays c.args.slots.now client_sap in
    search (rules, again)

pub turns-preserved : goal.turns-preserved
turns-preserved g c =
    let w : Working = record { llc = c.turns.self.llc; jobs = c.turns.jobs.items; idle = c.turns.idle } in
    let new = c.turn.new.self.llc in
    let went : Working = record { llc = new; jobs = c.in-Ok-Went.next; idle = c.in-Ok-Went.replies } in
    let turned =
    subst (λ (t : Turn). Turned g.C.Carrier.seen g.C.Carrier.swaps g.A.Answerer.steps g.A.Answerer.stops c.next.result w c.turns.carrier c.turns.far t new
    c.turn.new.carrier c.turn.new.far) c.in-Ok-Went.field-0-is c.in-Ok-Went.ensures.ok in
    let counted =
    subst (λ (n : ℕ). Turned g.C.Carrier.seen g.C.Carrier.swaps g.A.Answerer.steps g.A.Answerer.stops n w c.turns.carrier c.turns.far
    (Went c.in-Ok-Went.next c.in-Ok-Went.replies) new c.turn.new.carrier c.turn.new.far) c.next.ensures.first turned in
    let on =
    talks_on g.C.Carrier.seen g.C.Carrier.swaps g.A.Answerer.steps g.A.Answerer.stops c.args.counts (begun c.args.self.now.llc c.args.first.items)
    c.args.carrier.now c.args.far.now c.turns.left w c.turns.carrier c.turns.far c.turns.invariant.talks (Goes went)
    c.turn.new.carrier c.turn.new.far counted in
    let same : c.into_vec-jobs.result.items ≡ c.in-Ok-Went.next = search rules in
    let stays = follow_stays w.jobs went.jobs (replied_follow (first_number c.turns.left) w went counted.reply counted.step) in
    let again : noted went.jobs c.turns.slots ≡ noted went.jobs c.args.slots.now =
    ap (noted went.jobs) c.turns.invariant.slots_are ∙ noted_again w.jobs went.jobs stays c.args.slots.now client_sap in
    let way = replies_fall w (first_number c.turns.left) counted.reply went c.turns.invariant.under_way counted.step in record {
      spent = c.in-Ok-Went.ensures.going;
      ready = c.in-Ok-Went.ensures.ready;
      same = c.in-Ok-Went.ensures.same ∙ c.turns.invariant.same;
      slots_are = search (rules, again, same);
      saps_are = c.turns.invariant.saps_are ∙ sym (replied_saps (first_number c.turns.left) w went counted.reply counted.step) ∙ ap saps (sym same);
      under_way = subst (λ (js : List OnSap). IsUnderWay (record { llc = new; jobs = js; idle = c.in-Ok-Went.replies })) (sym same) way.0;
      talks = subst (λ (js : List OnSap). TalksTo g.C.Carrier.seen g.C.Carrier.swaps g.A.Answerer.steps g.A.Answerer.stops c.args.counts
          (begun c.args.self.now.llc c.args.first.items) c.args.carrier.now c.args.far.now c.next.new.self
          (Goes (record { llc = new; jobs = js; idle = c.in-Ok-Went.replies })) c.turn.new.carrier c.turn.new.far) (sym same)
          (subst (λ ns. TalksTo g.C.Carrier.seen g.C.Carrier.swaps g.A.Answerer.steps g.A.Answerer.stops c.args.counts
          (begun c.args.self.now.llc c.args.first.items) c.args.carrier.now c.args.far.now ns (Goes went) c.turn.new.carrier c.turn.new.far)
          (sym c.next.ensures.later) on);
    }

pub turns-smaller : goal.turns-smaller
turns-smaller g c =
    let w : Working = record { llc = c.turns.self.llc; jobs = c.turns.jobs.items; idle = c.turns.idle } in
    let new = c.turn.new.self.llc in
    let went : Working = record { llc = new; jobs = c.in-Ok-Went.next; idle = c.in-Ok-Went.replies } in
    let turned =
    subst (λ (t : Turn). Turned g.C.Carrier.seen g.C.Carrier.swaps g.A.Answerer.steps g.A.Answerer.stops c.next.result w c.turns.carrier c.turns.far t new
    c.turn.new.carrier c.turn.new.far) c.in-Ok-Went.field-0-is c.in-Ok-Went.ensures.ok in
    let same : c.into_vec-jobs.result.items ≡ c.in-Ok-Went.next = search rules in
    subst (λ (js : List OnSap). replies_left (record { llc = new; jobs = js; idle = c.in-Ok-Went.replies }) < replies_left w) (sym same)
    (replies_fall w c.next.result turned.reply went c.turns.invariant.under_way turned.step).1
