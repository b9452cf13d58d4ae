-- Which bytes spell which PDU (NFC Forum LLCP 1.3), by cases of the PDU.
use Rattle.std.specs.Prelude.{◌≡◌, ◌<◌, ℕ, ◌+◌, ◌*◌, ◌/◌, ◌%◌, List, [], ◌∷◌, ◌++◌, length}
use Rattle.llcp_pdu.specs.declared.part.FrmrReport.{FrmrReport}
use Rattle.llcp_pdu.specs.declared.part.Part.{Part}
use Rattle.llcp_pdu.specs.declared.part.Part.TheVariants.{Symm, Ui, Connect, Disc, Cc, Dm, Frmr, Snl, Info, Rr, Rnr}
use Rattle.llcp_pdu.specs.declared.pdu.Pdu.{Pdu}
use Rattle.llcp_pdu.specs.declared.pdu.Pdu.TheVariants.{Agf, One}
use Rattle.llcp_pdu.specs.Wire.{symm_type, agf_type, ui_type, connect_type, disc_type, cc_type, dm_type, frmr_type}
use Rattle.llcp_pdu.specs.Wire.{snl_type, info_type, rr_type, rnr_type, discovery_sap}
use Rattle.llcp_pdu.specs.Params.{ParamsSpelling}

-- the two bytes of a header: DSAP, PTYPE, SSAP
abbrev pub head : ℕ → ℕ → ℕ → List ℕ
head d p s = (4 * d + p / 4) ∷ (64 * (p % 4) + s) ∷ []

-- a header of these, and then bytes of which that holds
abbrev pub Headed : ℕ → ℕ → ℕ → List ℕ → (List ℕ → Type 0) → Type 0
Headed d p s b Rest = (rest : List ℕ) × (d < 64) × (s < 64) × (b ≡ head d p s ++ rest) × Rest rest

-- the ranges of what a FRMR reports
pub record IsReport (r : FrmrReport) : Type 0 where
  pub flags : r.flags % 16 ≡ 0
  pub ptype : r.ptype < 16
  pub vs : r.vs < 16
  pub vr : r.vr < 16
  pub vsa : r.vsa < 16
  pub vra : r.vra < 16

abbrev pub report_bytes : FrmrReport → List ℕ
report_bytes r = (r.flags + r.ptype) ∷ r.sequence ∷ (16 * r.vs + r.vr) ∷ (16 * r.vsa + r.vra) ∷ []

-- N(R) in the low four bits; what stands above it is ignored
abbrev pub Receives : ℕ → List ℕ → Type 0
Receives nr rest = (q : ℕ) × (q % 16 ≡ nr) × (rest ≡ q ∷ [])

abbrev pub PartSpelling : Part → List ℕ → Type 0
PartSpelling Symm b = Headed 0 symm_type 0 b (λ rest. rest ≡ [])
PartSpelling (Ui d s info) b = Headed d ui_type s b (λ rest. rest ≡ info)
PartSpelling (Connect d s ps) b = Headed d connect_type s b (ParamsSpelling ps)
PartSpelling (Disc d s) b = Headed d disc_type s b (λ rest. rest ≡ [])
PartSpelling (Cc d s ps) b = Headed d cc_type s b (ParamsSpelling ps)
PartSpelling (Dm d s reason) b = Headed d dm_type s b (λ rest. rest ≡ reason ∷ [])
PartSpelling (Frmr d s r) b = Headed d frmr_type s b (λ rest. IsReport r × (rest ≡ report_bytes r))
PartSpelling (Snl ps) b = Headed discovery_sap snl_type discovery_sap b (ParamsSpelling ps)
PartSpelling (Info d s ns nr info) b = Headed d info_type s b
    (λ rest. (ns < 16) × (nr < 16) × (rest ≡ (16 * ns + nr) ∷ info))
PartSpelling (Rr d s nr) b = Headed d rr_type s b (Receives nr)
PartSpelling (Rnr d s nr) b = Headed d rnr_type s b (Receives nr)

-- PDUs, each behind two bytes with its length
abbrev pub PartsSpelling : List Part → List ℕ → Type 0
PartsSpelling [] b = b ≡ []
PartsSpelling (p ∷ ps) b =
    (h : ℕ) × (l : ℕ) × (one : List ℕ) × (rest : List ℕ) × (b ≡ h ∷ l ∷ (one ++ rest)) × (length one ≡ 256 * h + l)
    × PartSpelling p one × PartsSpelling ps rest

-- the bytes spell the PDU
abbrev pub LlcpSpelling : Pdu → List ℕ → Type 0
LlcpSpelling (One p) b = PartSpelling p b
LlcpSpelling (Agf ps) b = Headed 0 agf_type 0 b (PartsSpelling ps)
