use Rattle.std.proofs.Common.{rules, ◌≡◌, ◌<◌, ◌≤◌, ℕ, List, length, refl, sym, ◌∙◌, ap}
use Rattle.snep_core.specs.Session.{Session, fresh_session}
use Rattle.snep_core.specs.Server.{ServerState, from_sources, padded, with_session}
use Rattle.snep_core.proofs.sessions.Sessions.{padded_still}
use Rattle.snep_core.proofs.sessions.Serving.{session_put}
use Rattle.snep_core.proofs.server.ServerService.begin.Goals as goal

pub returns-then-place-len : goal.returns-then-place-len
returns-then-place-len c =
    let client : ℕ = c.args.ssap in
    let room : List Session = c.self.inside.sessions.items in
    let s : ServerState = record {
      limit = c.self.inside.limit;
      table = c.self.inside.table.items;
      accepted = from_sources c.self.inside.sources.items c.self.inside.accepted.items;
      sessions = padded room;
    } in
    let there : client < length room = search rules in
    session_put s room client c.begin_anew.new.self refl there
    ∙ ap (with_session s client) c.begin_anew.ensures
    ∙ ap (λ t. with_session t client fresh_session) c.self.view_is

pub returns-else-place-len : goal.returns-else-place-len
returns-else-place-len c =
    let client : ℕ = c.args.ssap in
    let room : List Session = c.self.inside.sessions.items in
    let past : length room ≤ client = search rules in
    let seen : padded room ≡ c.args.self.now.sessions = ap (λ (t : ServerState). t.sessions) c.self.view_is in
    let still : c.args.self.now.sessions ≡ (with_session c.args.self.now client fresh_session).sessions =
    sym seen ∙ sym (padded_still room client past) ∙ ap (λ xs. (with_session (record c.args.self.now { sessions = xs }) client fresh_session).sessions) seen in
    ap (λ xs. record c.args.self.now { sessions = xs }) still
