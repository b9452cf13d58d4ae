use Rattle.std.proofs.Common.{rules, ◌<◌, refl, arith}
use Rattle.llcp_link.specs.Offering.{Owes}
use Rattle.llcp_link.proofs.GivesNext.{ack_longer}
use Rattle.llcp_link.proofs.llc.Llc.give_served_ack.Goals as goal

pub returns-then-room-lt-NUMBERED-clause-next : goal.returns-then-room-lt-NUMBERED-clause-next
returns-then-room-lt-NUMBERED-clause-next g c =
    let o : Owes c.args.client c.args.self.now.served c.in-Some.place = search rules in
    let few : c.args.room < 5 = omega (arith, c.if-room-lt-NUMBERED.true) in
    (refl, ack_longer g.S.Service.serving c.args.self.now c.args.client c.args.room c.in-Some.place o few)
