use Rattle.std.proofs.Common.{rules, ◌≡◌, length, Some, None, nat_le, if◌then◌else◌, ap, ◌∙◌, inl, to_z, of_z, w32, arith}
use Rattle.std.proofs.lemmas.Bool.{le-leb, lt-leb}
use Rattle.nfc_base.specs.Signal.{Signal, part_a}
use Rattle.t2t_tag.specs.Store.{T2Memory}
use Rattle.t2t_tag.specs.Step.{t2_answer, t2_after}
use Rattle.zevlodek_c.specs.Codes.{done}
use Rattle.zevlodek_c.specs.Showing.{shows}
use Rattle.zevlodek_c.specs.Tags.{IsT2Asked, t2_held, t2_stepped}
use Rattle.zevlodek_c.proofs.Locked.{silent_step, answered_step, with_room, without_room}
use Rattle.zevlodek_c.proofs.tags.zev_t2_tag.Goals as goal
use Rattle.zevlodek_c.proofs.tags.zev_t2_tag.Goals.{then-view-out, else-view-out}

-- src/tags.rt:54:9
pub returns-in_default-obey : goal.returns-in_default-obey
returns-in_default-obey c =
    let silent' : t2_answer (t2_held c.args.memory.now c.args.locks.now) (part_a c.args.command.now c.args.bits) ≡ None = search rules in
    let asked : IsT2Asked c.args.memory.now c.args.locks.now c.args.command.now c.args.bits = record {
      store = search rules;
      locks' = search rules;
      fits = search rules;
      bits' = (c.part.ensures.fits.0 (search rules)).1;
    } in
    record {
      taken = λ asked. inl (silent_step c.args.memory.now c.args.locks.now c.args.out.now c.args.told.now (part_a c.args.command.now c.args.bits) silent');
      refused = λ no. absurd (no asked);
    }

-- src/tags.rt:27:1
pub returns : goal.returns
returns c =
    let m : T2Memory = t2_held c.args.memory.now c.args.locks.now in
    let f : Signal = part_a c.args.command.now c.args.bits in
    let said : t2_answer m f ≡ Some c.in-Some.answer = search rules in
    let after : c.obey.new.self.store ≡ (t2_after m f).store = search rules in
    let asked : IsT2Asked c.args.memory.now c.args.locks.now c.args.command.now c.args.bits = record {
      store = search rules;
      locks' = search rules;
      fits = search rules;
      bits' = (c.part.ensures.fits.0 (search rules)).1;
    } in
    let held : c.if-view-out.memory ≡ (if nat_le (length c.in-Some.answer.bytes) (length c.args.out.now) then (t2_after m f).store else c.args.memory.now) =
    elim c.if-view-out.branch [
      | then-view-out w ↦ with_room (nat_le (length c.in-Some.answer.bytes) (length c.args.out.now)) c.if-view-out.memory (t2_after m f).store c.args.memory.now
          (le-leb (length c.in-Some.answer.bytes) (length c.args.out.now) (omega (arith, ap length c.view.ensures.bytes, w.if-view-out.true)))
          (w.memory-is ∙ (w.copy_from_slice.ensures.after ∙ (w.store.ensures.store ∙ after)))
      | else-view-out w ↦ without_room (nat_le (length c.in-Some.answer.bytes) (length c.args.out.now)) c.if-view-out.memory (t2_after m f).store c.args.memory.now
          (lt-leb (length c.in-Some.answer.bytes) (length c.args.out.now) (omega (arith, ap length c.view.ensures.bytes, w.if-view-out.false))) w.memory-is
    ] in
    let is : to_z w32 (of_z w32 c.show.result) ≡ c.show.result = search rules in
    let answered : record { kept = c.if-view-out.memory; seen = shows done c.in-Some.answer.bytes c.args.out.now (record c.args.told.now { bits = c.in-Some.answer.tail }) }
    ≡ t2_stepped c.args.memory.now c.args.locks.now f c.args.out.now c.args.told.now
    = answered_step c.args.memory.now c.args.locks.now c.args.out.now c.args.told.now f c.in-Some.answer c.if-view-out.memory said held in
    record {
      taken = λ asked. inl (search rules);
      refused = λ no. absurd (no asked);
    }
