-- What the calls of a session do to the server.
use Rattle.std.proofs.Common.{◌≡◌, ◌<◌, ℕ, List, ◌++◌, length, Option, Some, None, set, get_or, refl, sym, ◌∙◌, ap}
use Rattle.std.proofs.lemmas.List.{set-get_or, get_or_default}
use Rattle.llcp_link.specs.Serving.{asked_so, asked}
use Rattle.snep_core.specs.Session.{Session, fresh_session, did, sent, after_asked, after_sent}
use Rattle.snep_core.specs.Server.{ServerState, Received, received, padded, session_of, with_session, brought_by, serving}
use Rattle.snep_core.proofs.sessions.Sessions.{padded_set, padded_get}

-- a session that is there is the server's
pub session_there : (s : ServerState) (room : List Session) (client : ℕ) (x : Session) → padded room ≡ s.sessions → client < length room
    → x ≡ get_or room client x → session_of s client ≡ x
session_there s room client x same there is =
    ap (λ xs. get_or xs client fresh_session) (sym same) ∙ padded_get room client there ∙ get_or_default room client fresh_session x there ∙ sym is

-- the server with this session in the place of one that is there
pub session_put : (s : ServerState) (room : List Session) (client : ℕ) (new : Session) → padded room ≡ s.sessions → client < length room
    → record s { sessions = padded (set room client new) } ≡ with_session s client new
session_put s room client new same there =
    ap (λ xs. record s { sessions = xs }) (padded_set room client new there ∙ ap (λ xs. set xs client new) same)

-- a unit that a session heard is one brought to the server
pub heard : (s : ServerState) (room : List Session) (client : ℕ) (x new : Session) (unit : List ℕ) (accepted : List Received)
    → padded room ≡ s.sessions → client < length room → x ≡ get_or room client x
    → new ≡ (did s.limit s.table x unit).session
    → accepted ≡ s.accepted ++ received client (did s.limit s.table x unit).accepts
    → record s { accepted = accepted; sessions = padded (set room client new) } ≡ brought_by s client (did s.limit s.table (session_of s client) unit)
heard s room client x new unit accepted same there is went kept =
    ap (λ a. record s { accepted = a; sessions = padded (set room client new) }) kept
    ∙ ap (λ (t : ServerState). record t { accepted = s.accepted ++ received client (did s.limit s.table x unit).accepts }) (session_put s room client new same there)
    ∙ ap (λ y. brought_by s client (record { session = y; accepts = (did s.limit s.table x unit).accepts })) went
    ∙ ap (λ y. brought_by s client (did s.limit s.table y unit)) (sym (session_there s room client x same there is))

-- a session that is asked for a unit is the server asked for one
asked_session : (s : ServerState) (client : ℕ) (new : Session) (unit : Option (List ℕ))
    → with_session s client (after_asked (session_of s client) new unit) ≡ asked_so s (with_session s client new) unit
asked_session s client new None = ap (λ xs. record s { sessions = xs }) (set-get_or s.sessions client fresh_session)
asked_session s client new (Some u) = refl

pub asked_there : (s : ServerState) (room : List Session) (client miu : ℕ) (x new : Session)
    → padded room ≡ s.sessions → client < length room → x ≡ get_or room client x → new ≡ after_sent miu x
    → record s { sessions = padded (set room client new) } ≡ asked serving s client miu
asked_there s room client miu x new same there is went =
    session_put s room client new same there
    ∙ ap (with_session s client) (went ∙ ap (after_sent miu) (sym (session_there s room client x same there is)))
    ∙ asked_session s client (sent miu (session_of s client)).session (sent miu (session_of s client)).unit
