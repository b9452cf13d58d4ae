-- What a server accepts on a link, by the payloads alone.
use Rattle.std.specs.Prelude.{◌≡◌, ◌<◌, ℕ, ◌==◌, List, [], ◌∷◌, ◌++◌, None, if◌then◌else◌}
use Rattle.nfc_base.specs.Prefix.{IsPrefix}
use Rattle.llcp_link.specs.State.{LlcState, restarted}
use Rattle.llcp_link.specs.Taking.{Item, brought, steps, taken_from}
use Rattle.llcp_link.specs.Units.{Mark, marks, units}
use Rattle.llcp_link.specs.Running.{Acted, AreBytes, IsRun, end_after_acts, marks_of}
use Rattle.llcp_link.specs.Answering.{Answers, Stops}
use Rattle.snep_core.specs.Puts.{Puts}
use Rattle.snep_core.specs.Server.{Received, ServerState, serving}
use Rattle.llcp_pdu.specs.Wire.{sap_count}
use Rattle.snep_core.specs.Session.{Offer}

-- the units of connections, one after the other, put these messages
abbrev pub AllPut : ℕ → List (List (List ℕ)) → List (List ℕ) → Type 0
AllPut limit [] all = all ≡ []
AllPut limit (us ∷ more) all =
    (ms : List (List ℕ)) × (rest : List (List ℕ)) × (all ≡ ms ++ rest) × Puts limit us ms × AllPut limit more rest

-- what was accepted from a client's SAP
abbrev pub accepted_from : ℕ → List Received → List (List ℕ)
accepted_from c [] = []
accepted_from c (r ∷ rs) = if r.source == c then r.message ∷ accepted_from c rs else accepted_from c rs

-- the server's table for get may be another
abbrev pub OffersElse : ServerState → ServerState → Type 0
OffersElse old new = (table : List Offer) × (new ≡ record old { table = table })

-- an end with a server did this, its table for get being another at any time
abbrev pub IsServerRun : LlcState ServerState → List (Acted ServerState) → Type 0
IsServerRun l run = IsRun serving OffersElse l run

-- What a server accepts from a client's SAP is what the units of its connections put, joined in order.
pub record AcceptsPuts (c limit miu : ℕ) (ms : List Mark) (old new : List Received) : Type 0 where
  pub all : List (List ℕ)
  pub accepted : accepted_from c new ≡ accepted_from c old ++ all
  pub put : AllPut limit (units c miu None ms) all

-- Whatever payloads come after a restart, with any table for get at each and any number of PDUs in each reply: of each
-- client's SAP, what is accepted is what the payloads put.
abbrev pub PayloadsAccepted : Type 0
PayloadsAccepted =
    (old : LlcState ServerState) (general : List ℕ) (run : List (Acted ServerState))
    → IsServerRun (restarted serving old general) run → (c : ℕ) → c < sap_count
    → AcceptsPuts c old.service.limit old.miu (marks_of serving c (restarted serving old general) run)
    old.service.accepted
    (end_after_acts (restarted serving old general) run).service.accepted

-- A place in what an end does: some acts, and some first of the PDUs of a payload behind them.
pub record PlaceInActs (begin : LlcState ServerState) : Type 0 where
  pub before : List (Acted ServerState)
  pub run : IsServerRun begin before
  pub payload : List ℕ
  pub bytes : AreBytes payload
  pub came : List Item
  pub behind : List Item
  pub split : brought (end_after_acts begin before) payload ≡ came ++ behind

-- the end there, and the PDUs that came until there
abbrev pub end_there : (begin : LlcState ServerState) → PlaceInActs begin → LlcState ServerState
end_there begin p = steps serving (end_after_acts begin p.before) p.came

abbrev pub marks_there : ℕ → (begin : LlcState ServerState) → PlaceInActs begin → List Mark
marks_there c begin p = marks_of serving c begin p.before ++ marks serving c (end_after_acts begin p.before) p.came

-- At each PDU of the payloads, what is accepted until there is what the PDUs until there put, and the first of what is
-- accepted until the payload's end and whatever is done then. So messages are accepted in the order in which the units
-- stand that complete them.
pub record AcceptsThere (old : LlcState ServerState) (begin : LlcState ServerState) (p : PlaceInActs begin)
    : Type 0 where
  pub puts : (c : ℕ) → c < sap_count → AcceptsPuts c old.service.limit old.miu (marks_there c begin p)
      old.service.accepted (end_there begin p).service.accepted
  pub front : (more : List (Acted ServerState)) → IsServerRun (steps serving (end_there begin p) p.behind) more
      → IsPrefix (end_there begin p).service.accepted (end_after_acts (steps serving (end_there begin p) p.behind)
      more).service.accepted

abbrev pub AcceptedInOrder : Type 0
AcceptedInOrder =
    (old : LlcState ServerState) (general : List ℕ) (p : PlaceInActs (restarted serving old general))
    → AcceptsThere old (restarted serving old general) p

-- A step that want of memory left unfinished: what was accepted before it stays, and what it added is the first of what
-- the payload adds. A whole step adds just that, whatever it replies and with however many PDUs.
pub record AcceptsSome (old new : LlcState ServerState) (payload : List ℕ) : Type 0 where
  pub before : IsPrefix old.service.accepted new.service.accepted
  pub front : IsPrefix new.service.accepted (taken_from serving old payload).service.accepted
  pub whole : (count : ℕ) (reply : List ℕ) (done : LlcState ServerState) → Answers serving count old payload reply done
      → done.service.accepted ≡ (taken_from serving old payload).service.accepted

abbrev pub CutOffAccepts : Type 0
CutOffAccepts = (old new : LlcState ServerState) (payload : List ℕ) → Stops serving old payload new
    → AcceptsSome old new payload
