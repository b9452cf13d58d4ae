-- A SNEP server as the service of an end (NFC Forum SNEP 1.0; its limit and its table for get are this project's own).
use Rattle.std.specs.Prelude.{◌≡◌, ◌≤◌, ℕ, ◌-◌, List, [], ◌∷◌, ◌++◌, length, map, replicate, set, get_or, nat_eq}
use Rattle.std.specs.Prelude.{Option, Some, None, option_map, suc, if◌then◌else◌}
use Rattle.std.specs.Cmp.Lexicographic.{pointwise}
use Rattle.llcp_pdu.specs.Wire.{sap_count}
use Rattle.llcp_link.specs.Serving.{Serving}
use Rattle.snep_core.specs.Session.{Session, fresh_session, Offer, Did, did, sent}

-- a message that was accepted, and the client's SAP
pub record Received : Type 0 where
  pub source : ℕ
  pub message : List ℕ

-- A server: the longest message that it takes, its table for get, what it accepted, and a session for each client's
-- SAP.
pub record ServerState : Type 0 where
  pub limit : ℕ
  pub table : List Offer
  pub accepted : List Received
  pub sessions : List Session

-- the limits that a server may have
abbrev pub IsLimit : ℕ → Type 0
IsLimit n = (1024 ≤ n) × (n ≤ 65536)

abbrev pub no_sessions : List Session
no_sessions = replicate sap_count fresh_session

-- the sessions of all SAPs, where those from some SAP on are as at first
abbrev pub padded : List Session → List Session
padded xs = xs ++ replicate (sap_count - length xs) fresh_session

-- messages with the SAPs that they came from
abbrev pub from_sources : List ℕ → List (List ℕ) → List Received
from_sources [] messages = []
from_sources (source ∷ sources) [] = []
from_sources (source ∷ sources) (message ∷ messages) =
    record { source = source; message = message } ∷ from_sources sources messages

abbrev pub fresh_server : ℕ → ServerState
fresh_server limit = record { limit = limit; table = []; accepted = []; sessions = no_sessions }

abbrev pub session_of : ServerState → ℕ → Session
session_of s client = get_or s.sessions client fresh_session

abbrev pub with_session : ServerState → ℕ → Session → ServerState
with_session s client x = record s { sessions = set s.sessions client x }

-- the table once a key has this value
abbrev pub offered : List Offer → List ℕ → List ℕ → List Offer
offered [] key value = record { key = key; value = value } ∷ []
offered (o ∷ os) key value =
    if pointwise nat_eq o.key key then record { key = o.key; value = value } ∷ os else o ∷ offered os key value

-- the place of a key in the table
abbrev pub place_of : List ℕ → List Offer → Option ℕ
place_of key [] = None
place_of key (o ∷ os) = if pointwise nat_eq o.key key then Some 0 else option_map suc (place_of key os)

-- what is accepted of a client's SAP
abbrev pub received : ℕ → Option (List ℕ) → List Received
received client None = []
received client (Some m) = record { source = client; message = m } ∷ []

abbrev pub brought_by : ServerState → ℕ → Did → ServerState
brought_by s client d = record (with_session s client d.session) { accepted = s.accepted ++ received client d.accepts }

-- What want of memory leaves: what was accepted, the table and the limit.
pub record KeepsAccepted (old new : ServerState) : Type 0 where
  pub limit : new.limit ≡ old.limit
  pub table : new.table ≡ old.table
  pub accepted : new.accepted ≡ old.accepted

-- The server as a service. On a new link all sessions are as at first; what was accepted, the table and the limit stay.
abbrev pub serving : Serving ServerState
serving = record {
  begun = λ s client. with_session s client fresh_session;
  brought = λ s client unit. brought_by s client (did s.limit s.table (session_of s client) unit);
  due = λ s client miu. (sent miu (session_of s client)).unit;
  sent = λ s client miu. with_session s client (sent miu (session_of s client)).session;
  renewed = λ s. record s { sessions = no_sessions };
  keeps = KeepsAccepted;
}

abbrev pub sources_of : List Received → List ℕ
sources_of rs = map (λ (r : Received). r.source) rs

abbrev pub messages_of : List Received → List (List ℕ)
messages_of rs = map (λ (r : Received). r.message) rs
