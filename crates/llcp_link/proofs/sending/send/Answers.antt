use Rattle.std.proofs.Common.{rules, ◌≡◌, sym, subst, ◌∙◌, slice_index_or}
use Rattle.llcp_link.specs.Kept.{IsServed}
use Rattle.llcp_link.specs.Offering.{info_of, sent_on}
use Rattle.llcp_link.proofs.Places.{read_at}
use Rattle.llcp_link.proofs.SendsOn.{sent_there, sent_all}
use Rattle.llcp_link.proofs.sending.send.Goals as goal

pub send_on-requires-clause-served : goal.send_on-requires-clause-served
send_on-requires-clause-served c =
    let o = c.requires.sends in
    let x = c.index_mut.result.now in
    let is : x ≡ slice_index_or c.args.served.now.items c.args.place x = search rules in
    subst IsServed (sym (is ∙ read_at c.args._client c.args.served.now.items c.args.place o.at x)) o.served

pub returns-in-Ok-clause-sent : goal.returns-in-Ok-clause-sent
returns-in-Ok-clause-sent c =
    let x = c.index_mut.result.now in
    let is : x ≡ slice_index_or c.args.served.now.items c.args.place x = search rules in
    let now : c.send_on.new.conn ≡ sent_on x c.args.unit.now = search rules in
    let part : c.in-Ok.part ≡ info_of x c.args.unit.now = search rules in
    sent_there c.args._client c.args._miu c.args.unit.now c.args.served.now.items c.args.place c.requires.sends x c.send_on.new.conn c.in-Ok.part c.requires.size is now part

pub returns-in-Ok-clause-all : goal.returns-in-Ok-clause-all
returns-in-Ok-clause-all c =
    let x = c.index_mut.result.now in
    let is : x ≡ slice_index_or c.args.served.now.items c.args.place x = search rules in
    let now : c.send_on.new.conn ≡ sent_on x c.args.unit.now = search rules in
    sent_all c.args._client c.args._miu c.args.unit.now c.args.served.now.items c.args.place c.requires.sends c.requires.all x c.send_on.new.conn is now
