-- A client's messages, cut into units, and what they put once some first of the units came (NFC Forum SNEP 1.0).
use Rattle.std.specs.Prelude.{◌≡◌, ◌≤◌, ◌<◌, ◌^◌, ℕ, nat_lt, List, [], ◌∷◌, ◌++◌, length, ◌⊎◌, if◌then◌else◌}
use Rattle.std.specs.List.{concat}
use Rattle.snep_core.specs.Message.{header_size, put_code, message_of_code}
use Rattle.snep_core.specs.Puts.{Puts}

-- the bytes of a put of a message
abbrev pub put_bytes : List ℕ → List ℕ
put_bytes m = message_of_code put_code m

abbrev pub NoneEmpty : List (List ℕ) → Type 0
NoneEmpty [] = Unit {0}
NoneEmpty (u ∷ us) = (0 < length u) × NoneEmpty us

-- bytes cut into units, the first as long as a header at least
abbrev pub IsCut : List ℕ → List (List ℕ) → Type 0
IsCut xs [] = ⊥
IsCut xs (u ∷ us) = (header_size ≤ length u) × NoneEmpty us × (xs ≡ u ++ concat us)

-- a put: its message, and the units that the client submitted for it
pub record PutInUnits : Type 0 where
  pub message : List ℕ
  pub units : List (List ℕ)

-- A message within the limit goes out whole. Of a longer one the first unit alone goes out, since it is rejected.
abbrev pub IsJob : ℕ → PutInUnits → Type 0
IsJob limit j =
    (length j.message < 2 ^ 32) × (((length j.message ≤ limit) × IsCut (put_bytes j.message) j.units)
    ⊎ ((limit < length j.message) × ((u : List ℕ) × (later : List (List ℕ)) × (j.units ≡ u ∷ [])
    × IsCut (put_bytes j.message) (u ∷ later))))

abbrev pub AreJobs : ℕ → List PutInUnits → Type 0
AreJobs limit [] = Unit {0}
AreJobs limit (j ∷ js) = IsJob limit j × AreJobs limit js

abbrev pub units_of_puts : List PutInUnits → List (List ℕ)
units_of_puts [] = []
units_of_puts (j ∷ js) = j.units ++ units_of_puts js

-- the messages within the limit
abbrev pub fit : ℕ → List PutInUnits → List (List ℕ)
fit limit [] = []
fit limit (j ∷ js) = if nat_lt limit (length j.message) then fit limit js else j.message ∷ fit limit js

-- What some first units put is a front of the messages that fit.
pub record PutsFront (limit : ℕ) (js : List PutInUnits) (came : List (List ℕ)) : Type 0 where
  pub put : List (List ℕ)
  pub rest : List (List ℕ)
  pub front : fit limit js ≡ put ++ rest
  pub puts : Puts limit came put

abbrev pub FrontsPut : Type 0
FrontsPut =
    (limit : ℕ) (js : List PutInUnits) (came more : List (List ℕ)) → AreJobs limit js → units_of_puts js ≡ came ++ more
    → PutsFront limit js came

-- Where all units of the jobs before came, and some first of the last one's: the messages before that fit were put, and
-- the last one's exactly where it came whole and fits.
abbrev pub PutsLast : ℕ → List PutInUnits → PutInUnits → List (List ℕ) → List (List ℕ) → Type 0
PutsLast limit done last part [] = Puts limit (units_of_puts done ++ part) (fit limit done ++ fit limit (last ∷ []))
PutsLast limit done last part (v ∷ more) = Puts limit (units_of_puts done ++ part) (fit limit done)

abbrev pub LastPut : Type 0
LastPut =
    (limit : ℕ) (done : List PutInUnits) (last : PutInUnits) (part more : List (List ℕ)) → AreJobs limit done
    → IsJob limit last → last.units ≡ part ++ more
    → PutsLast limit done last part more
