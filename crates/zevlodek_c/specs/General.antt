-- What C is told of the general bytes with which a link of LLCP begins (NFC Forum LLCP 1.3; the numbers of faults are
-- this project's own).
use Rattle.std.specs.Prelude.{◌≡◌, ◌+◌, ℕ, ℤ, negsuc, List, Result, Ok, Err}
use Rattle.llcp_pdu.specs.declared.general.GeneralFault.{GeneralFault}
use Rattle.llcp_pdu.specs.declared.general.LinkParams.{LinkParams}
use Rattle.llcp_pdu.specs.General.{IsLinkParams, general, general_bytes}
use Rattle.llcp_pdu.specs.Numbers.{general_fault_number}
use Rattle.zevlodek_c.specs.declared.general.General.{General}
use Rattle.zevlodek_c.specs.declared.showing.Told.{Told}
use Rattle.zevlodek_c.specs.Codes.{done, bad_argument}
use Rattle.zevlodek_c.specs.Showing.{Seen, shows, answers}

-- what C says an end says of itself
abbrev pub params_of : General → LinkParams
params_of g = record { version = g.version; miu = g.miu; wks = g.services }

abbrev pub general_of : LinkParams → General
general_of p = record { miu = p.miu; services = p.wks; version = p.version }

-- The general bytes of an end are told, where there is such an end.
pub record GeneralWritten (g : General) (out : List ℕ) (told : Told) (seen : Seen) : Type 0 where
  pub taken : IsLinkParams (params_of g) → seen ≡ shows done (general_bytes (params_of g)) out told
  pub refused : (IsLinkParams (params_of g) → ⊥) → seen ≡ answers bad_argument out told

-- a fault of general bytes, by its number: minus 200 and that number less
abbrev pub general_fault : GeneralFault → ℤ
general_fault e = negsuc (199 + general_fault_number e)

-- an answer, and what C's numbers say behind the call
pub record GeneralSeen : Type 0 where
  pub answer : ℤ
  pub said : General

-- what general bytes say; where they begin no link the numbers stay
abbrev pub general_seen : General → Result LinkParams GeneralFault → GeneralSeen
general_seen g (Ok p) = record { answer = done; said = general_of p }
general_seen g (Err e) = record { answer = general_fault e; said = g }

abbrev pub general_told : List ℕ → General → GeneralSeen
general_told bytes g = general_seen g (general bytes)
