-- What a peer's server accepts on a link, by what arrived there while the link was open (NFCIP-1, ISO/IEC 18092; NFC
-- Forum LLCP 1.3 and SNEP 1.0).
use Rattle.std.specs.Prelude.{◌≡◌, ℕ, ◌<◌, List, [], ◌∷◌, ◌++◌, None}
use Rattle.dep_link.specs.DepLinks.{brought}
use Rattle.llcp_link.specs.State.{restarted}
use Rattle.llcp_link.specs.Taking.{Item, steps}
use Rattle.llcp_link.specs.Taking as taking
use Rattle.llcp_link.specs.Units.{Mark, marks, units}
use Rattle.snep_core.specs.Payloads.{AcceptsPuts, AllPut, accepted_from}
use Rattle.nfc_base.specs.Prefix.{IsPrefix}
use Rattle.snep_core.specs.Server.{serving}
use Rattle.llcp_pdu.specs.Wire.{sap_count}
use Rattle.bench_world.specs.Arrivals.{Arrival, arrival_marks, end_at, end_behind, payloads_of}
use Rattle.bench_world.specs.World.{FarEnd}
use Rattle.bench_world.specs.Stories.{Opener, ByLink, ByForge, ByRaw, Story}

-- What holds of a story by its payloads. Where frames were sent as they are, any may have been left out or sent again
-- by hand, so of such a link the steps alone are said.
abbrev pub IfOpenedBy : Opener → Type 0 → Type 0
IfOpenedBy ByLink P = P
IfOpenedBy ByForge P = P
IfOpenedBy ByRaw P = Unit {0}

abbrev pub IfPayloads : (Story → Type 0) → Story → Type 0
IfPayloads P y = IfOpenedBy y.opener (P y)

-- A place in what came to an end: some first of its payloads, and some first of the PDUs of the payload that came next.
pub record PlaceInArrivals (begun : FarEnd) (arrivals : List Arrival) : Type 0 where
  pub before : List Arrival
  pub next : Arrival
  pub more : List Arrival
  pub split : arrivals ≡ before ++ next ∷ more
  pub came : List Item
  pub behind : List Item
  pub parts : taking.brought (end_at (end_behind begun before) next) next.payload ≡ came ++ behind

module _ {begun : FarEnd} {arrivals : List Arrival} (p : PlaceInArrivals begun arrivals) where
  -- the end as the payload found it, and at the place
  abbrev pub found : FarEnd
  found = end_at (end_behind begun p.before) p.next

  abbrev pub end_there : FarEnd
  end_there = steps serving found p.came

  -- the PDUs that came until there
  abbrev pub marks_there : ℕ → List Mark
  marks_there c = arrival_marks c begun p.before ++ marks serving c found p.came

-- What was accepted until there is what the PDUs until there put, and the first of all that was accepted.
pub record AcceptsUntil (y : Story) (p : PlaceInArrivals y.begun y.arrivals) : Type 0 where
  pub puts : (c : ℕ) → c < sap_count
      → AcceptsPuts c y.begun.service.limit y.begun.miu (marks_there p c) y.begun.service.accepted
      (end_there p).service.accepted
  pub front : IsPrefix (end_there p).service.accepted (y.begun.service.accepted ++ y.gained)

-- The peer's end began the link, and then answered just the payloads that arrived, counted from PNI 0, each by its
-- number and with the values that its server gave then. What the server accepted then is what it had, and what its list
-- gained. So of each client's SAP what it gained is what the units of its connections in these payloads put, joined in
-- order; and so it is at each place on the way: messages stand in the order in which the units stand that complete
-- them.
pub record IsByPayloads (y : Story) : Type 0 where
  pub old : FarEnd
  pub begins : y.begun ≡ restarted serving old y.general
  pub payloads : payloads_of y.arrivals ≡ brought 0 y.events
  pub accepted : (end_behind y.begun y.arrivals).service.accepted ≡ y.begun.service.accepted ++ y.gained
  pub puts : (c : ℕ) → c < sap_count
      → AllPut y.begun.service.limit (units c y.begun.miu None (arrival_marks c y.begun y.arrivals))
      (accepted_from c y.gained)
  pub order : (p : PlaceInArrivals y.begun y.arrivals) → AcceptsUntil y p

-- What the units put begins with these messages.
pub record PutsAtLeast (limit : ℕ) (us : List (List (List ℕ))) (messages : List (List ℕ)) : Type 0 where
  pub all : List (List ℕ)
  pub put : AllPut limit us all
  pub rest : List (List ℕ)
  pub split : all ≡ messages ++ rest

-- Where want of memory cut a command off the peer's end may have stopped at the last payload that arrived. What its
-- list gained is the first of what the payloads put, and has at least what all payloads but the last put.
pub record IsFrontOfPayloads (y : Story) : Type 0 where
  pub old : FarEnd
  pub begins : y.begun ≡ restarted serving old y.general
  pub payloads : payloads_of y.arrivals ≡ brought 0 y.events
  pub front : IsPrefix (y.begun.service.accepted ++ y.gained) (end_behind y.begun y.arrivals).service.accepted
  pub least : (before : List Arrival) (last : Arrival) → y.arrivals ≡ before ++ last ∷ []
      → IsPrefix (end_behind y.begun before).service.accepted (y.begun.service.accepted ++ y.gained)
  pub puts : (c : ℕ) → c < sap_count
      → PutsAtLeast y.begun.service.limit (units c y.begun.miu None (arrival_marks c y.begun y.arrivals))
      (accepted_from c y.gained)
