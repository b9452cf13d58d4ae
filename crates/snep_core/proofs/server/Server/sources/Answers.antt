use Rattle.std.proofs.Common.{rules, ◌≡◌, List, ℕ, sym, ◌∙◌, ap}
use Rattle.snep_core.specs.Server.{ServerState, sources_of, from_sources}
use Rattle.snep_core.proofs.sessions.Sessions.{told_sources}
use Rattle.snep_core.proofs.server.Server.sources.Goals as goal

pub returns : goal.returns
returns c =
    let sources : List ℕ = c.self.inside.sources.items in
    let messages : List (List ℕ) = c.self.inside.accepted.items in
    let told : c.as_slice.result.now ≡ sources = search rules in
    let seen : from_sources sources messages ≡ c.args.self.now.accepted = ap (λ (s : ServerState). s.accepted) c.self.view_is in
    told ∙ sym (told_sources sources messages c.self.invariant.1) ∙ ap sources_of seen
