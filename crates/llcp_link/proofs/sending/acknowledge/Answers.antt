use Rattle.std.proofs.Common.{rules, ◌≡◌, slice_index_or}
use Rattle.llcp_pdu.specs.declared.part.Part.TheVariants.{Rr}
use Rattle.llcp_link.specs.Offering.{behind_ack}
use Rattle.llcp_link.proofs.SendsOn.{acked_there, acked_all}
use Rattle.llcp_link.proofs.sending.acknowledge.Goals as goal

pub returns-clause-acked : goal.returns-clause-acked
returns-clause-acked c =
    let x = c.index_mut.result.now in
    let is : x ≡ slice_index_or c.args.served.now.items c.args.place x = search rules in
    let now : c.ack_on.new.conn ≡ behind_ack x = search rules in
    let part : c.ack_on.result ≡ Rr x.there x.here x.vr = search rules in
    acked_there c.args._client c.args.served.now.items c.args.place c.requires.owes c.requires.all x c.ack_on.new.conn c.ack_on.result is now part

pub returns-clause-all : goal.returns-clause-all
returns-clause-all c =
    let x = c.index_mut.result.now in
    let is : x ≡ slice_index_or c.args.served.now.items c.args.place x = search rules in
    let now : c.ack_on.new.conn ≡ behind_ack x = search rules in
    acked_all c.args._client c.args.served.now.items c.args.place c.requires.owes c.requires.all x c.ack_on.new.conn is now
