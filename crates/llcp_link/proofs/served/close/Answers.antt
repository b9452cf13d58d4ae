use Rattle.std.proofs.Common.{rules, ◌≡◌, Some, subst, slice_index_or, remove}
use Rattle.llcp_conn.specs.Conn.{numbers}
use Rattle.llcp_link.specs.Kept.{AllServed}
use Rattle.llcp_link.specs.Places.{IsBetweenOf}
use Rattle.llcp_link.proofs.Held.{closed_there, all_gone}
use Rattle.llcp_link.proofs.served.close.Goals as goal

pub returns-clause-closed : goal.returns-clause-closed
returns-clause-closed c =
    let old = c.args.served.now.items in
    let place = c.in_ok-place.place in
    let p : IsBetweenOf c.args.here c.args.client old (Some place) =
    subst (λ xs. IsBetweenOf c.args.here c.args.client xs (Some place)) c.deref.ensures.value c.in_ok-place.ensures in
    let all : AllServed old = search rules in
    let conn = c.remove-conn.result in
    let is : conn ≡ slice_index_or old place conn = search rules in
    let n : c.numbers.result ≡ numbers conn = search rules in
    let new : c.remove-conn.new.self.items ≡ remove old place = search rules in
    closed_there c.args.here c.args.client old place p.0 p.1 all conn c.numbers.result c.remove-conn.new.self.items is n new

pub returns-clause-all : goal.returns-clause-all
returns-clause-all c =
    let old = c.args.served.now.items in
    let place = c.in_ok-place.place in
    let p : IsBetweenOf c.args.here c.args.client old (Some place) =
    subst (λ xs. IsBetweenOf c.args.here c.args.client xs (Some place)) c.deref.ensures.value c.in_ok-place.ensures in
    let all : AllServed old = search rules in
    let gone = all_gone c.args.here c.args.client old place p.0 p.1 all in
    search rules
