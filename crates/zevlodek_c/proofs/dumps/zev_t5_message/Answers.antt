use Rattle.std.proofs.Common.{rules, ◌≡◌, Ok, subst, to_z, of_z, w32}
use Rattle.zevlodek_c.specs.Dumps.{IsBlockSize, MessageTold}
use Rattle.zevlodek_c.specs.Showing.{Seen}
use Rattle.zevlodek_c.proofs.dumps.zev_t5_message.Goals as goal

-- src/dumps.rt:145:1
pub returns-in-Ok : goal.returns-in-Ok
returns-in-Ok c =
    let seen : Seen = record { answer = to_z w32 (of_z w32 c.tell_area.result); out = c.tell_area.new.out; told = c.tell_area.new.told } in
    let same : to_z w32 (of_z w32 c.tell_area.result) ≡ c.tell_area.result = search rules in
    let size : IsBlockSize c.args.size = search rules in
    let told : MessageTold (Ok c.in-Ok.space) c.args.memory.now c.args.out.now c.args.told.now seen = search rules in
    record {
      taken = λ _. subst (λ r. MessageTold r c.args.memory.now c.args.out.now c.args.told.now seen) c.in-Ok.ensures.area told;
      refused = λ no. absurd (no size);
    }
