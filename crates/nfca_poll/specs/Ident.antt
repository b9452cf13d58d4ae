-- NFC-A identifiers, NFCID1 (ISO/IEC 14443-3). Cascade level 1 sends four bytes of it, or the cascade tag CT and three;
-- so do levels 2 and 3. An identifier of one or two levels may not begin its last level with CT, which would read as
-- the sign that it goes on; after level 3 it can't go on.
use Rattle.std.specs.Prelude.{◌≡◌, ℕ, ◌<◌, ◌⊎◌, List, length, slice_index}
use Rattle.nfca_poll.specs.declared.ident.IdentFault.{IdentFault}
use Rattle.nfca_poll.specs.declared.ident.IdentFault.TheVariants.{BadLength, BadCascade}

-- the cascade tag CT
abbrev pub cascade_tag : ℕ
cascade_tag = 0x88

-- the lengths of an identifier, of one, two and three cascade levels
abbrev pub IsIdentLength : ℕ → Type 0
IsIdentLength n = (n ≡ 4) ⊎ ((n ≡ 7) ⊎ (n ≡ 10))

-- the last level, of one or two, begins with CT
abbrev pub IsBadCascade : List ℕ → Type 0
IsBadCascade bytes = ((length bytes ≡ 4) × (slice_index bytes 0 ≡ cascade_tag))
    ⊎ ((length bytes ≡ 7) × (slice_index bytes 3 ≡ cascade_tag))

-- these bytes are an identifier
pub record IsIdent (id : List ℕ) : Type 0 where
  pub size : IsIdentLength (length id)
  pub bytes : (i : ℕ) → slice_index id i < 256
  pub cascade : IsBadCascade id → ⊥

-- the numbers of the errors
abbrev pub ident_fault_number : IdentFault → ℕ
ident_fault_number BadLength = 1
ident_fault_number BadCascade = 2
