-- Values that are read from bytes, or the place and kind of the first fault.
use Rattle.std.specs.Prelude.{ℕ, ◌+◌, List, [], ◌∷◌, Result, Ok, Err}
use Rattle.llcp_pdu.specs.declared.fault.PduKind.{PduKind}
use Rattle.llcp_pdu.specs.declared.fault.PduKind.TheVariants.{Short, Trailing}
use Rattle.llcp_pdu.specs.declared.fault.Refusal.{Refusal}

abbrev pub refused : {A : Type 0} → PduKind → ℕ → Result A Refusal
refused kind place = Err (record { place = place; kind = kind })

-- what is made of a value that was read
abbrev pub gives : {A B : Type 0} → Result A Refusal → (A → B) → Result B Refusal
gives (Ok x) f = Ok (f x)
gives (Err r) f = Err r

-- what is read further, where the first was read
abbrev pub follows : {A B : Type 0} → Result A Refusal → (A → Result B Refusal) → Result B Refusal
follows (Ok x) f = f x
follows (Err r) f = Err r

-- one more item in front of those that are read behind it
abbrev pub onto : {A : Type 0} → A → Result (List A) Refusal → Result (List A) Refusal
onto x (Ok xs) = Ok (x ∷ xs)
onto x (Err r) = Err r

-- nothing may follow
abbrev pub ended : {A : Type 0} → List ℕ → ℕ → A → Result A Refusal
ended [] at v = Ok v
ended (x ∷ rest) at v = refused Trailing at

-- one byte, and nothing behind it
abbrev pub byte : List ℕ → ℕ → Result ℕ Refusal
byte [] at = refused Short at
byte (x ∷ rest) at = ended rest (at + 1) x
