-- What came to a peer's end on a link, payload by payload, and what the end did by that (NFC Forum LLCP 1.3 and SNEP
-- 1.0; that a reply's number of PDUs is chosen by a number is this project's own).
use Rattle.std.specs.Prelude.{ℕ, List, [], ◌∷◌, ◌++◌, map}
use Rattle.nfc_base.specs.Choosing.{first_number, later_numbers}
use Rattle.llcp_link.specs.Taking.{brought}
use Rattle.llcp_link.specs.Units.{Mark, marks}
use Rattle.snep_core.specs.Server.{serving}
use Rattle.snep_core.specs.Session.{Offer}
use Rattle.link_calls.specs.Arriving.{answered}
use Rattle.bench_world.specs.World.{FarEnd}

-- A payload that came; how many PDUs the end put into its reply, or as many as can be joined; and the values that its
-- server gave then, for which keys.
pub record Arrival : Type 0 where
  pub payload : List ℕ
  pub count : ℕ
  pub table : List Offer

-- Payloads that came while the server gave these values, to an end that replied by these numbers.
abbrev pub arrivals_of : List Offer → List ℕ → List (List ℕ) → List Arrival
arrivals_of table ns [] = []
arrivals_of table ns (p ∷ ps) = record { payload = p; count = first_number ns; table = table }
    ∷ arrivals_of table (later_numbers ns) ps

abbrev pub payloads_of : List Arrival → List (List ℕ)
payloads_of arrivals = map (λ (a : Arrival). a.payload) arrivals

-- an end whose server gives these values
abbrev pub giving_values : List Offer → FarEnd → FarEnd
giving_values table l = record l { service = record l.service { table = table } }

-- the end as an arrival finds it, and behind it
abbrev pub end_at : FarEnd → Arrival → FarEnd
end_at l a = giving_values a.table l

abbrev pub end_after : FarEnd → Arrival → FarEnd
end_after l a = answered a.payload a.count (end_at l a)

-- behind some, one after the other
abbrev pub end_behind : FarEnd → List Arrival → FarEnd
end_behind l [] = l
end_behind l (a ∷ more) = end_behind (end_after l a) more

-- the PDUs that came, marked for the connections of one client's SAP
abbrev pub arrival_marks : ℕ → FarEnd → List Arrival → List Mark
arrival_marks c l [] = []
arrival_marks c l (a ∷ more) = marks serving c (end_at l a) (brought (end_at l a) a.payload)
    ++ arrival_marks c (end_after l a) more
