use Rattle.std.proofs.Common.{rules, ◌≡◌, true, false}
use Rattle.llcp_link.specs.Places.{IsPlace}
use Rattle.llcp_link.proofs.SendsOn.{not_owing, owes_there}
use Rattle.llcp_link.proofs.sending.ower.Goals as goal

pub returns-then-not-owed : goal.returns-then-not-owed
returns-then-not-owed c =
    let p : IsPlace c.args.client c.args.served.now c.in_ok-place.place = search rules in
    let x = c.index-served-place.result in
    let e : x.owed ≡ false = search rules in not_owing c.args.client c.args.served.now c.in_ok-place.place p x c.index-served-place.is e

pub returns : goal.returns
returns c =
    let p : IsPlace c.args.client c.args.served.now c.in_ok-place.place = search rules in
    let x = c.index-served-place.result in
    let e : x.owed ≡ true = search rules in owes_there c.args.client c.args.served.now c.in_ok-place.place p x c.index-served-place.is e
