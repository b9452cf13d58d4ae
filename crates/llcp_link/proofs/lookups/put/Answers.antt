use Rattle.std.proofs.Common.{rules, ◌≡◌, ◌++◌, ◌∷◌, [], None, ap, ◌∙◌}
use Rattle.llcp_link.specs.State.{Lookup}
use Rattle.llcp_link.proofs.LookedUp.{lookup_place, put_new, put_there}
use Rattle.llcp_link.proofs.lookups.put.Goals as goal

pub returns-in-Some-clause-ok : goal.returns-in-Some-clause-ok
returns-in-Some-clause-ok c =
    put_there c.args.tid c.args.lookups.now.items c.place_of.result c.in-Some.place (c.place_of.ensures.place ∙ ap (lookup_place c.args.tid) c.deref.ensures.value) c.in-Some.is

pub returns-in_ok-push-in-None-clause-ok : goal.returns-in_ok-push-in-None-clause-ok
returns-in_ok-push-in-None-clause-ok c =
    let new : Lookup = record { tid = c.args.tid; told = None } in
    let pushed : c.push.new.self.items ≡ c.args.lookups.now.items ++ new ∷ [] = search rules in
    pushed ∙ put_new c.args.tid c.args.lookups.now.items c.place_of.result (c.place_of.ensures.place ∙ ap (lookup_place c.args.tid) c.deref.ensures.value) c.in-None.is
