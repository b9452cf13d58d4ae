use Rattle.std.proofs.Common.{◌≡◌, sym, ◌∙◌, map}
use Rattle.bench_script.specs.declared.command.Command.TheVariants.{Write}
use Rattle.bench_script.specs.Messages.{message_of}
use Rattle.far_air.specs.FarEnds.{rests}
use Rattle.peer_air.specs.PeerFars.{peer_ends}
use Rattle.bench_world.specs.Obeying.{Machines, link_ended}
use Rattle.bench_world.proofs.open_link.Unlinking.{write_resets, reset_obeyed, reset_cut}
use Rattle.bench_world.proofs.asking.write_message.Goals as goal

pub returns-in-Ok-select_and_write-clause-ok : goal.returns-in-Ok-select_and_write-clause-ok
returns-in-Ok-select_and_write-clause-ok c =
    let old : Machines = c.args.machines.now in
    let m : Machines = record {
      air = c.machines.inside.field;
      ends = c.machines.inside.ends.items;
      peers = record { numbers = c.machines.inside.numbers.items; gone = map (rests peer_ends) c.machines.inside.gone.items; links = c.machines.inside.links.items };
      link = c.machines.inside.link;
    } in
    let is : m ≡ link_ended old = c.machines.view_is ∙ c.end_link.ensures in
    let bytes : message_of c.args.message.now ≡ c.deref.result.now = sym (c.deref.ensures.value ∙ c.in-Ok.ensures) in
    reset_obeyed (Write c.args.id.now c.args.message.now) (write_resets c.args.id.now c.args.message.now) old c.requires c.select_and_write.new.field m c.in-Ok-select_and_write.answer is
    (c.in-Ok-select_and_write.ensures.ok c.args.message.now bytes)

pub returns-clause-cut : goal.returns-clause-cut
returns-clause-cut c =
    let old : Machines = c.args.machines.now in
    let m : Machines = record {
      air = c.machines.inside.field;
      ends = c.machines.inside.ends.items;
      peers = record { numbers = c.machines.inside.numbers.items; gone = map (rests peer_ends) c.machines.inside.gone.items; links = c.machines.inside.links.items };
      link = c.machines.inside.link;
    } in
    let is : m ≡ link_ended old = c.machines.view_is ∙ c.end_link.ensures in
    let bytes : message_of c.args.message.now ≡ c.deref.result.now = sym (c.deref.ensures.value ∙ c.in-Ok.ensures) in
    reset_cut (Write c.args.id.now c.args.message.now) (write_resets c.args.id.now c.args.message.now) old c.requires c.select_and_write.new.field m is (c.in-Err.ensures.cut c.args.message.now bytes)
