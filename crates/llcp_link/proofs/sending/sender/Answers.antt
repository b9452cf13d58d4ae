use Rattle.std.proofs.Common.{rules, ◌≡◌, true, false}
use Rattle.llcp_link.specs.Giving.{may_send}
use Rattle.llcp_link.specs.Kept.{AllServed}
use Rattle.llcp_link.specs.Places.{IsPlace}
use Rattle.llcp_link.proofs.SendsOn.{not_allowed, sends_there}
use Rattle.llcp_link.proofs.sending.sender.Goals as goal

pub returns-then-not-may_send : goal.returns-then-not-may_send
returns-then-not-may_send c =
    let p : IsPlace c.args.client c.args.served.now c.in_ok-place.place = search rules in
    let x = c.index-served-place.result in
    let e : may_send x ≡ false = search rules in not_allowed c.args.client c.args.served.now c.in_ok-place.place p x c.index-served-place.is e

pub returns : goal.returns
returns c =
    let p : IsPlace c.args.client c.args.served.now c.in_ok-place.place = search rules in
    let x = c.index-served-place.result in
    let e : may_send x ≡ true = search rules in
    let all : AllServed c.args.served.now = search rules in
    let n : c.far_miu.result ≡ x.far_miu = search rules in sends_there c.args.client c.args.served.now c.in_ok-place.place p all x c.far_miu.result c.index-served-place.is e n
