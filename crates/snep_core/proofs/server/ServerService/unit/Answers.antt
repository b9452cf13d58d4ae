use Rattle.std.proofs.Common.{rules, ◌≡◌, ◌<◌, ℕ, List, [], ◌∷◌, ◌++◌, length, sym, ◌∙◌, ap}
use Rattle.std.proofs.lemmas.List.{append-nil}
use Rattle.snep_core.specs.Session.{Session, Offer, did}
use Rattle.snep_core.specs.Server.{ServerState, received, from_sources, padded, session_of, brought_by}
use Rattle.snep_core.proofs.sessions.Sessions.{one_more}
use Rattle.snep_core.proofs.sessions.Serving.{heard}
use Rattle.snep_core.proofs.server.ServerService.unit.Goals as goal

pub returns-in_ok-keep-clause-ok : goal.returns-in_ok-keep-clause-ok
returns-in_ok-keep-clause-ok c =
    let client : ℕ = c.args.ssap in
    let unit : List ℕ = c.args.unit.now in
    let table : List Offer = c.self.inside.table.items in
    let sources : List ℕ = c.self.inside.sources.items in
    let messages : List (List ℕ) = c.self.inside.accepted.items in
    let room : List Session = c.make_room.new.sessions.items in
    let x : Session = c.index_mut.result.now in
    let s : ServerState = record { limit = c.self.inside.limit; table = table; accepted = from_sources sources messages; sessions = padded c.self.inside.sessions.items } in
    let there : client < length room = search rules in
    let read : c.deref.result.now ≡ table = search rules in
    let took : c.in_ok-message.field-0 ≡ (did s.limit table x unit).accepts = search rules in
    let went : c.hear.new.self ≡ (did s.limit table x unit).session = search rules in
    let more : c.keep.new.sources.items ≡ sources ++ client ∷ [] = search rules in
    let also : c.keep.new.accepted.items ≡ messages ++ c.in-Some.message ∷ [] = search rules in
    let kept : from_sources c.keep.new.sources.items c.keep.new.accepted.items ≡ s.accepted ++ received client (did s.limit table x unit).accepts =
    ap (λ t. from_sources t c.keep.new.accepted.items) more ∙ ap (from_sources (sources ++ client ∷ [])) also
    ∙ one_more sources messages client c.in-Some.message c.self.invariant.1
    ∙ ap (λ o. s.accepted ++ received client o) (sym c.in-Some.is ∙ took) in
    heard s room client x c.hear.new.self unit (from_sources c.keep.new.sources.items c.keep.new.accepted.items) (c.make_room.ensures.same) there c.index_mut.ensures.value went kept
    ∙ ap (λ (t : ServerState). brought_by t client (did t.limit t.table (session_of t client) unit)) c.self.view_is

pub returns-in_default-clause-ok : goal.returns-in_default-clause-ok
returns-in_default-clause-ok c =
    let client : ℕ = c.args.ssap in
    let unit : List ℕ = c.args.unit.now in
    let table : List Offer = c.self.inside.table.items in
    let sources : List ℕ = c.self.inside.sources.items in
    let messages : List (List ℕ) = c.self.inside.accepted.items in
    let room : List Session = c.make_room.new.sessions.items in
    let x : Session = c.index_mut.result.now in
    let s : ServerState = record { limit = c.self.inside.limit; table = table; accepted = from_sources sources messages; sessions = padded c.self.inside.sessions.items } in
    let there : client < length room = search rules in
    let took : c.in_ok-message.field-0 ≡ (did s.limit table x unit).accepts = search rules in
    let went : c.hear.new.self ≡ (did s.limit table x unit).session = search rules in
    let kept : from_sources sources messages ≡ s.accepted ++ received client (did s.limit table x unit).accepts =
    sym (append-nil s.accepted) ∙ ap (λ o. s.accepted ++ received client o) (sym c.in_default.is ∙ took) in
    heard s room client x c.hear.new.self unit (from_sources sources messages) (c.make_room.ensures.same) there c.index_mut.ensures.value went kept
    ∙ ap (λ (t : ServerState). brought_by t client (did t.limit t.table (session_of t client) unit)) c.self.view_is
