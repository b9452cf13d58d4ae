-- The far end of a link of LLCP with a SNEP server, as C asks for it: by its sizes, what it offers for get, the other
-- end's general bytes, and the payloads that came (NFC Forum LLCP 1.3 and SNEP 1.0; how C keeps them is this project's
-- own).
use Rattle.std.specs.Prelude.{◌≡◌, ◌<◌, ◌≤◌, ◌⊎◌, ℕ, List, [], ◌∷◌, ◌++◌, length, get_or, nat_lt, if◌then◌else◌, Bool}
use Rattle.std.specs.Prelude.{true, false, ◌&&◌}
use Rattle.llcp_pdu.specs.General.{IsMiu}
use Rattle.llcp_conn.specs.Conn.{IsWindow}
use Rattle.llcp_link.specs.Kept.{most_payload}
use Rattle.llcp_link.specs.State.{LlcState, fresh_end, restarted}
use Rattle.llcp_link.specs.Taking.{taken_from}
use Rattle.llcp_link.specs.Giving.{given, after_giving}
use Rattle.snep_core.specs.Naming.{snep_bound}
use Rattle.snep_core.specs.Session.{Offer}
use Rattle.snep_core.specs.Server.{Received, ServerState, IsLimit, fresh_server, offered, messages_of, sources_of}
use Rattle.snep_core.specs.Server.{serving}
use Rattle.zevlodek_c.specs.declared.peer.Peer.{Peer}
use Rattle.zevlodek_c.specs.declared.showing.Told.{Told}
use Rattle.zevlodek_c.specs.Codes.{done, bad_log, bad_argument, no_memory}
use Rattle.zevlodek_c.specs.Log.{counted}
use Rattle.zevlodek_c.specs.Showing.{Seen, shows, answers, of_bool}
use Rattle.zevlodek_c.specs.Spelled.{Spelled}

-- a payload that begins a log: it stands behind its length, and is no longer than NFC-DEP carries
pub record SpellsPayload (payload log rest : List ℕ) : Type 0 where
  pub bytes : log ≡ counted payload ++ rest
  pub fits : length payload ≤ most_payload

abbrev pub SpellsPayloads : List (List ℕ) → List ℕ → Type 0
SpellsPayloads payloads log = Spelled SpellsPayload payloads log

abbrev pub IsPayloadLog : List ℕ → Type 0
IsPayloadLog log = (payloads : List (List ℕ)) × SpellsPayloads payloads log

-- a key and its value, each behind its length
pub record SpellsOffer (o : Offer) (bytes rest : List ℕ) : Type 0 where
  pub spelled : bytes ≡ counted o.key ++ (counted o.value ++ rest)
  pub key_fits : length o.key < 65536
  pub value_fits : length o.value < 65536

abbrev pub SpellsOffers : List Offer → List ℕ → Type 0
SpellsOffers os bytes = Spelled SpellsOffer os bytes

abbrev pub AreOffers : List ℕ → Type 0
AreOffers bytes = (os : List Offer) × SpellsOffers os bytes

-- a table for get with more offers: a later value of a key takes the place of an earlier one
abbrev pub table_with : List Offer → List Offer → List Offer
table_with table [] = table
table_with table (o ∷ os) = table_with (offered table o.key o.value) os

-- the sizes that an end and a server may have
pub record IsPeer (p : Peer) : Type 0 where
  pub miu : IsMiu p.miu
  pub window : IsWindow p.window
  pub limit : IsLimit p.limit

-- there is a far end of these sizes, with these offers
pub record IsPeerAsked (p : Peer) (offers : List ℕ) : Type 0 where
  pub sizes : IsPeer p
  pub table : AreOffers offers

-- the far end with these sizes and offers, as a link begins with the other end's general bytes
abbrev pub server_with : ℕ → List Offer → ServerState
server_with limit os = record (fresh_server limit) { table = table_with [] os }

abbrev pub bound_end : Peer → List Offer → LlcState ServerState
bound_end p os = record (fresh_end p.miu p.window (server_with p.limit os)) { bound = snep_bound ∷ [] }

abbrev pub begun_end : Peer → List Offer → List ℕ → LlcState ServerState
begun_end p os general = restarted serving (bound_end p os) general

-- an end, and its reply to the payload that came last: none has come as a link begins
pub record Answered : Type 0 where
  pub end : LlcState ServerState
  pub reply : List ℕ

abbrev pub unasked : LlcState ServerState → Answered
unasked end = record { end = end; reply = [] }

-- a payload is taken, and the reply has as many PDUs as fit
abbrev pub answered_one : Answered → List ℕ → Answered
answered_one a payload = record {
  end = after_giving serving 0 (taken_from serving a.end payload);
  reply = given serving 0 (taken_from serving a.end payload);
}

abbrev pub answered_all : Answered → List (List ℕ) → Answered
answered_all a [] = a
answered_all a (payload ∷ payloads) = answered_all (answered_one a payload) payloads

-- what the end has accepted
abbrev pub accepted_of : Answered → List Received
accepted_of a = a.end.service.accepted

-- What C sees of an end behind these payloads, or that memory was wanting; `shown` is what the call is about.
abbrev pub IsShown : (Answered → List ℕ → Told → Seen) → Answered → List ℕ → Told → Seen → Type 0
IsShown shown a out told seen = (seen ≡ shown a out told) ⊎ (seen ≡ answers no_memory out told)

-- What C sees of a far end behind the payloads of a log. Numbers and offers are looked at before the log, and the log
-- before memory is asked for.
pub record PeerTells (shown : Answered → List ℕ → Told → Seen) (p : Peer) (offers general log out : List ℕ)
    (told : Told) (seen : Seen) : Type 0 where
  pub taken : (os : List Offer) (payloads : List (List ℕ)) → IsPeer p → SpellsOffers os offers
      → SpellsPayloads payloads log
      → IsShown shown (answered_all (unasked (begun_end p os general)) payloads) out told seen
  pub no_log : IsPeerAsked p offers → (IsPayloadLog log → ⊥) → seen ≡ answers bad_log out told
  pub refused : (IsPeerAsked p offers → ⊥) → seen ≡ answers bad_argument out told

abbrev pub is_empty : {A : Type 0} → List A → Bool
is_empty [] = true
is_empty (x ∷ xs) = false

-- no connection is open, and nothing waits to be given: a new log may take the place of this end's
abbrev pub is_idle : LlcState ServerState → Bool
is_idle l = is_empty l.served && is_empty l.queue

-- the reply to the last payload, and whether a new log may begin behind it
abbrev pub reply_shown : Answered → List ℕ → Told → Seen
reply_shown a out told = shows done a.reply out (record told { anew = of_bool (is_idle a.end) })

-- how many messages were accepted
abbrev pub count_shown : Answered → List ℕ → Told → Seen
count_shown a out told = answers done out (record told { length = length (accepted_of a) })

-- one of them, counted from 0
abbrev pub message_at : ℕ → Answered → List ℕ
message_at index a = get_or (messages_of (accepted_of a)) index []

abbrev pub message_shown : ℕ → Answered → List ℕ → Told → Seen
message_shown index a out told =
    if nat_lt index (length (accepted_of a)) then shows done (message_at index a) out told
    else answers bad_argument out told

-- and the client's SAP that it came from
abbrev pub source_at : ℕ → Answered → ℕ
source_at index a = get_or (sources_of (accepted_of a)) index 0

abbrev pub source_shown : ℕ → Answered → List ℕ → Told → Seen
source_shown index a out told =
    if nat_lt index (length (accepted_of a)) then answers done out (record told { code = source_at index a })
    else answers bad_argument out told
