-- What C sees behind a call: its answer, the slice that it lent for bytes, and the numbers told (this project's own).
use Rattle.std.specs.Prelude.{ℕ, ◌++◌, List, length, drop, ℤ, nat_le, if◌then◌else◌, Bool, true, false}
use Rattle.zevlodek_c.specs.declared.showing.Told.{Told}
use Rattle.zevlodek_c.specs.Codes.{short}

pub record Seen : Type 0 where
  pub answer : ℤ
  pub out : List ℕ
  pub told : Told

-- Bytes at the front of `out`, whose other bytes stay. Where they have no room it stays whole, and `length` tells what
-- they take.
abbrev pub shows : ℤ → List ℕ → List ℕ → Told → Seen
shows answer bytes out told = record {
  answer = if nat_le (length bytes) (length out) then answer else short;
  out = if nat_le (length bytes) (length out) then bytes ++ drop (length bytes) out else out;
  told = record told { length = length bytes };
}

-- an answer alone
abbrev pub answers : ℤ → List ℕ → Told → Seen
answers answer out told = record { answer = answer; out = out; told = told }

-- whether something is so, as a number
abbrev pub of_bool : Bool → ℕ
of_bool true = 1
of_bool false = 0
