use Rattle.std.proofs.Common.{rules, ◌≡◌, ◌<◌, ◌≤◌, length, Some, inl, to_z, of_z, w32}
use Rattle.nfc_base.specs.Signal.{whole_v}
use Rattle.t5t_tag.specs.Store.{T5State}
use Rattle.t5t_tag.specs.Step.{t5_answer, t5_after}
use Rattle.zevlodek_c.specs.T5Tags.{IsT5Asked, t5_held, t5_kept, t5_stepped}
use Rattle.zevlodek_c.proofs.Stepping.{with_place, without_place}
use Rattle.zevlodek_c.proofs.t5_tags.zev_t5_tag.Goals as goal

-- src/t5_tags.rt:138:9
pub returns-then-view-out : goal.returns-then-view-out
returns-then-view-out c =
    let t : T5State = t5_held c.args.id.now c.args.block_size c.args.memory.now c.args.locks.now c.args.standing.now in
    let said : t5_answer t (whole_v c.args.command.now) ≡ Some c.in-Some.answer = search rules in
    let low : length c.args.out.now < length c.in-Some.answer.bytes = search rules in
    let is : to_z w32 (of_z w32 c.show.result) ≡ c.show.result = search rules in
    let stepped : record { kept = record { memory = c.args.memory.now; standing = c.args.standing.now }; seen = record { answer = c.show.result; out = c.show.new.out; told = c.show.new.told } }
    ≡ t5_stepped c.args.id.now c.args.block_size c.args.memory.now c.args.locks.now c.args.standing.now (whole_v c.args.command.now) c.args.out.now c.args.told.now
    = without_place (t5_answer t (whole_v c.args.command.now)) c.in-Some.answer
    (record { memory = c.args.memory.now; standing = c.args.standing.now }) (t5_kept (t5_after t (whole_v c.args.command.now)))
    c.args.out.now c.args.told.now (record { answer = c.show.result; out = c.show.new.out; told = c.show.new.told }) said low (search rules) in
    let asked : IsT5Asked c.args.block_size c.args.memory.now c.args.locks.now × (length c.args.command.now ≤ 288) = (search rules, search rules) in
    record {
      taken = λ is fits. inl (search rules);
      refused = λ no. absurd (no asked);
    }

-- src/t5_tags.rt:106:1
pub returns : goal.returns
returns c =
    let t : T5State = t5_held c.args.id.now c.args.block_size c.args.memory.now c.args.locks.now c.args.standing.now in
    let said : t5_answer t (whole_v c.args.command.now) ≡ Some c.in-Some.answer = search rules in
    let low : length c.in-Some.answer.bytes ≤ length c.args.out.now = search rules in
    let is : to_z w32 (of_z w32 c.show-2.result) ≡ c.show-2.result = search rules in
    let stepped : record { kept = t5_kept (t5_after t (whole_v c.args.command.now)); seen = record { answer = c.show-2.result; out = c.show-2.new.out; told = c.show-2.new.told } }
    ≡ t5_stepped c.args.id.now c.args.block_size c.args.memory.now c.args.locks.now c.args.standing.now (whole_v c.args.command.now) c.args.out.now c.args.told.now
    = with_place (t5_answer t (whole_v c.args.command.now)) c.in-Some.answer
    (record { memory = c.args.memory.now; standing = c.args.standing.now }) (t5_kept (t5_after t (whole_v c.args.command.now)))
    c.args.out.now c.args.told.now (record { answer = c.show-2.result; out = c.show-2.new.out; told = c.show-2.new.told }) said low (search rules) in
    let asked : IsT5Asked c.args.block_size c.args.memory.now c.args.locks.now × (length c.args.command.now ≤ 288) = (search rules, search rules) in
    record {
      taken = λ is fits. inl (search rules);
      refused = λ no. absurd (no asked);
    }
