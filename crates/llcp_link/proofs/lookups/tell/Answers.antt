use Rattle.std.proofs.Common.{rules, ◌≡◌, None, ap, ◌∙◌}
use Rattle.llcp_link.proofs.LookedUp.{lookup_place, told_none, told_there}
use Rattle.llcp_link.proofs.lookups.tell.Goals as goal

pub returns-in-Some : goal.returns-in-Some
returns-in-Some c =
    told_there c.args.tid c.args.lookups.now.items c.args.sap c.place_of.result c.in-Some.place (c.place_of.ensures.place ∙ ap (lookup_place c.args.tid) c.deref.ensures.value) c.in-Some.is

pub returns-in_default : goal.returns-in_default
returns-in_default c =
    let none : c.place_of.result ≡ None = search rules in
    told_none c.args.tid c.args.lookups.now.items c.args.sap c.place_of.result (c.place_of.ensures.place ∙ ap (lookup_place c.args.tid) c.deref.ensures.value) none
