use Rattle.std.proofs.Common.{rules, ◌≡◌, ◌<◌, ℕ, List, length, refl, ◌∙◌, ap}
use Rattle.std.proofs.lemmas.Result.{on_ok_weaker}
use Rattle.llcp_link.specs.Serving.{asked}
use Rattle.snep_core.specs.Session.{Session, after_sent}
use Rattle.snep_core.specs.Server.{ServerState, from_sources, padded, serving}
use Rattle.snep_core.proofs.sessions.Serving.{asked_there}
use Rattle.snep_core.proofs.server.ServerService.next.Goals as goal

pub returns-then-place-len-clause-sent : goal.returns-then-place-len-clause-sent
returns-then-place-len-clause-sent c =
    let client : ℕ = c.args.ssap in
    let room : List Session = c.self.inside.sessions.items in
    let x : Session = c.index_mut.result.now in
    let s : ServerState = record {
      limit = c.self.inside.limit;
      table = c.self.inside.table.items;
      accepted = from_sources c.self.inside.sources.items c.self.inside.accepted.items;
      sessions = padded room;
    } in
    let there : client < length room = search rules in
    on_ok_weaker c.next.result
    (λ (went : c.next.new.self ≡ after_sent c.args.miu x).
    asked_there s room client c.args.miu x c.next.new.self refl there c.index_mut.ensures.value went
    ∙ ap (λ t. asked serving t client c.args.miu) c.self.view_is)
    c.next.ensures.step
