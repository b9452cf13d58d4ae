-- What one PDU that is no AGF is read as (NFC Forum LLCP 1.3), or its first fault: a header that is short, its PTYPE,
-- its SAPs, and then what follows.
use Rattle.std.specs.Prelude.{ℕ, ◌+◌, ◌-◌, ◌*◌, ◌/◌, ◌%◌, ◌==◌, ◌&&◌, if◌then◌else◌, List, [], ◌∷◌, length, drop}
use Rattle.std.specs.Prelude.{Option, Some, None, Result, Ok}
use Rattle.llcp_pdu.specs.declared.fault.PduKind.TheVariants.{Short, Ptype as WrongPtype, Sap, Nested}
use Rattle.llcp_pdu.specs.declared.fault.Refusal.{Refusal}
use Rattle.llcp_pdu.specs.declared.header.Header.{Header}
use Rattle.llcp_pdu.specs.declared.header.Ptype.{Ptype}
use Rattle.llcp_pdu.specs.declared.header.Ptype.TheVariants.{Symm as SymmType, Agf as AgfType, Ui as UiType}
use Rattle.llcp_pdu.specs.declared.header.Ptype.TheVariants.{Connect as ConnectType, Disc as DiscType, Cc as CcType}
use Rattle.llcp_pdu.specs.declared.header.Ptype.TheVariants.{Dm as DmType, Frmr as FrmrType, Snl as SnlType}
use Rattle.llcp_pdu.specs.declared.header.Ptype.TheVariants.{Info as InfoType, Rr as RrType, Rnr as RnrType}
use Rattle.llcp_pdu.specs.declared.part.FrmrReport.{FrmrReport}
use Rattle.llcp_pdu.specs.declared.part.Part.{Part}
use Rattle.llcp_pdu.specs.declared.part.Part.TheVariants.{Symm, Ui, Connect, Disc, Cc, Dm, Frmr, Snl, Info, Rr, Rnr}
use Rattle.llcp_pdu.specs.Wire.{symm_type, agf_type, ui_type, connect_type, disc_type, cc_type, dm_type, frmr_type}
use Rattle.llcp_pdu.specs.Wire.{snl_type, info_type, rr_type, rnr_type, discovery_sap}
use Rattle.llcp_pdu.specs.Reading.{refused, gives, follows, ended, byte}
use Rattle.llcp_pdu.specs.Params.{params}

-- the type of a number, where there is one
abbrev pub pick : ℕ → ℕ → Ptype → Option Ptype → Option Ptype
pick p n t other = if p == n then Some t else other

abbrev pub ptype_of : ℕ → Option Ptype
ptype_of p =
    pick p symm_type SymmType
    (pick p agf_type AgfType (pick p ui_type UiType (pick p connect_type ConnectType (pick p disc_type DiscType
    (pick p cc_type CcType
    (pick p dm_type DmType (pick p frmr_type FrmrType (pick p snl_type SnlType (pick p info_type InfoType
    (pick p rr_type RrType (pick p rnr_type RnrType None)))))))))))

-- A header is six bits of DSAP, four of PTYPE and six of SSAP, high bits first.
abbrev pub ptype_bits : ℕ → ℕ → ℕ
ptype_bits x y = 4 * (x % 4) + y / 64

abbrev pub headed : ℕ → Option Ptype → ℕ → ℕ → Result Header Refusal
headed at None d s = refused WrongPtype at
headed at (Some t) d s = Ok (record { dsap = d; ptype = t; ssap = s })

abbrev pub header : ℕ → List ℕ → Result Header Refusal
header at [] = refused Short at
header at (x ∷ []) = refused Short (at + 1)
header at (x ∷ y ∷ rest) = headed at (ptype_of (ptype_bits x y)) (x / 4) (y % 64)

-- only between these SAPs
abbrev pub between : ℕ → ℕ → ℕ → ℕ → {A : Type 0} → Result A Refusal → Result A Refusal
between sap d s at r = if (d == sap) && (s == sap) then r else refused Sap at

-- a FRMR's flags and PTYPE, sequence byte, V(S) and V(R), V(SA) and V(RA)
abbrev pub report : List ℕ → ℕ → Result FrmrReport Refusal
report (a ∷ b ∷ c ∷ d ∷ rest) at =
    ended rest (at + 4) (record {
      flags = 16 * (a / 16);
      ptype = a % 16;
      sequence = b;
      vs = c / 16;
      vr = c % 16;
      vsa = d / 16;
      vra = d % 16;
    })
report xs at = refused Short (at + length xs)

-- N(S) and N(R), and then information
abbrev pub numbered : ℕ → ℕ → List ℕ → ℕ → Result Part Refusal
numbered d s [] at = refused Short at
numbered d s (q ∷ info) at = Ok (Info d s (q / 16) (q % 16) info)

-- What follows the header of a PDU that begins at that place. An AGF stands in another here: it is told at its length,
-- two bytes before it.
abbrev pub body : Ptype → ℕ → ℕ → List ℕ → ℕ → Result Part Refusal
body SymmType d s rest at = between 0 d s at (ended rest (at + 2) Symm)
body AgfType d s rest at = refused Nested (at - 2)
body UiType d s rest at = Ok (Ui d s rest)
body ConnectType d s rest at = gives (params rest 0 (at + 2)) (Connect d s)
body DiscType d s rest at = ended rest (at + 2) (Disc d s)
body CcType d s rest at = gives (params rest 0 (at + 2)) (Cc d s)
body DmType d s rest at = gives (byte rest (at + 2)) (Dm d s)
body FrmrType d s rest at = gives (report rest (at + 2)) (Frmr d s)
body SnlType d s rest at = between discovery_sap d s at (gives (params rest 0 (at + 2)) Snl)
body InfoType d s rest at = numbered d s rest (at + 2)
body RrType d s rest at = gives (byte rest (at + 2)) (λ q. Rr d s (q % 16))
body RnrType d s rest at = gives (byte rest (at + 2)) (λ q. Rnr d s (q % 16))

-- one PDU that is no AGF, which begins at that place
abbrev pub part : List ℕ → ℕ → Result Part Refusal
part b at = follows (header at b) (λ h. body h.ptype h.dsap h.ssap (drop 2 b) at)
