-- The bytes that are written of a PDU: of those that spell it, the ones without parameters of unknown types and with 0
-- in all bits that are ignored.
use Rattle.std.specs.Prelude.{ℕ, ◌+◌, ◌*◌, ◌/◌, ◌%◌, List, [], ◌∷◌, ◌++◌, length}
use Rattle.llcp_pdu.specs.declared.param.Param.{Param}
use Rattle.llcp_pdu.specs.declared.param.Param.TheVariants.{Version, Miux, Wks, Lto, Rw, Sn, Opt, SdReq, SdRes}
use Rattle.llcp_pdu.specs.declared.part.Part.{Part}
use Rattle.llcp_pdu.specs.declared.part.Part.TheVariants.{Symm, Ui, Connect, Disc, Cc, Dm, Frmr, Snl, Info, Rr, Rnr}
use Rattle.llcp_pdu.specs.declared.pdu.Pdu.{Pdu}
use Rattle.llcp_pdu.specs.declared.pdu.Pdu.TheVariants.{Agf, One}
use Rattle.llcp_pdu.specs.Wire.{symm_type, agf_type, ui_type, connect_type, disc_type, cc_type, dm_type, frmr_type}
use Rattle.llcp_pdu.specs.Wire.{snl_type, info_type, rr_type, rnr_type, discovery_sap, version_type, miux_type}
use Rattle.llcp_pdu.specs.Wire.{wks_type, lto_type, rw_type, sn_type, opt_type, sdreq_type, sdres_type}
use Rattle.llcp_pdu.specs.Params.{Tlv, tlv, printed}
use Rattle.llcp_pdu.specs.Spelling.{head, report_bytes}

-- a number as two bytes, high byte first
abbrev pub two_bytes : ℕ → List ℕ
two_bytes n = (n / 256) ∷ (n % 256) ∷ []

abbrev pub tlv_of : Param → Tlv
tlv_of (Version x) = tlv version_type (x ∷ [])
tlv_of (Miux n) = tlv miux_type (two_bytes n)
tlv_of (Wks n) = tlv wks_type (two_bytes n)
tlv_of (Lto x) = tlv lto_type (x ∷ [])
tlv_of (Rw x) = tlv rw_type (x ∷ [])
tlv_of (Sn name) = tlv sn_type name
tlv_of (Opt x) = tlv opt_type (x ∷ [])
tlv_of (SdReq tid name) = tlv sdreq_type (tid ∷ name)
tlv_of (SdRes tid sap) = tlv sdres_type (tid ∷ sap ∷ [])

abbrev pub tlvs_of : List Param → List Tlv
tlvs_of [] = []
tlvs_of (p ∷ ps) = tlv_of p ∷ tlvs_of ps

abbrev pub params_bytes : List Param → List ℕ
params_bytes ps = printed (tlvs_of ps)

abbrev pub part_bytes : Part → List ℕ
part_bytes Symm = head 0 symm_type 0
part_bytes (Ui d s info) = head d ui_type s ++ info
part_bytes (Connect d s ps) = head d connect_type s ++ params_bytes ps
part_bytes (Disc d s) = head d disc_type s
part_bytes (Cc d s ps) = head d cc_type s ++ params_bytes ps
part_bytes (Dm d s reason) = head d dm_type s ++ reason ∷ []
part_bytes (Frmr d s r) = head d frmr_type s ++ report_bytes r
part_bytes (Snl ps) = head discovery_sap snl_type discovery_sap ++ params_bytes ps
part_bytes (Info d s ns nr info) = head d info_type s ++ (16 * ns + nr) ∷ info
part_bytes (Rr d s nr) = head d rr_type s ++ nr ∷ []
part_bytes (Rnr d s nr) = head d rnr_type s ++ nr ∷ []

-- a PDU in an AGF, behind its length
abbrev pub inner_bytes : Part → List ℕ
inner_bytes p = two_bytes (length (part_bytes p)) ++ part_bytes p

abbrev pub parts_bytes : List Part → List ℕ
parts_bytes [] = []
parts_bytes (p ∷ ps) = inner_bytes p ++ parts_bytes ps

abbrev pub pdu_bytes : Pdu → List ℕ
pdu_bytes (One p) = part_bytes p
pdu_bytes (Agf ps) = head 0 agf_type 0 ++ parts_bytes ps
