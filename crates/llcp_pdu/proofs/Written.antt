-- What is written spells its value.
use Rattle.std.proofs.Common.{◌≡◌, ◌<◌, ℕ, ◌+◌, ◌*◌, ◌/◌, ◌%◌, ◌||◌, not, Bool, true, List, [], ◌∷◌, length, Option, Some, is_some, Ok, refl, ◌∙◌, ap, arith}
use Rattle.llcp_pdu.specs.declared.param.Param.{Param}
use Rattle.llcp_pdu.specs.declared.param.Param.TheVariants.{Version, Miux, Wks, Lto, Rw, Sn, Opt, SdReq, SdRes}
use Rattle.llcp_pdu.specs.declared.part.Part.{Part}
use Rattle.llcp_pdu.specs.declared.part.Part.TheVariants.{Symm, Ui, Connect, Disc, Cc, Dm, Frmr, Snl, Info, Rr, Rnr}
use Rattle.llcp_pdu.specs.declared.pdu.Pdu.{Pdu}
use Rattle.llcp_pdu.specs.declared.pdu.Pdu.TheVariants.{Agf, One}
use Rattle.llcp_pdu.specs.Params.{param, is_known, AllSized, known_first, known, ParamsSpelling}
use Rattle.llcp_pdu.specs.Pdus.{pdu}
use Rattle.llcp_pdu.specs.Ranges.{IsParam, AreParams, IsPart, AreParts, IsPdu}
use Rattle.llcp_pdu.specs.Spelling.{PartSpelling, PartsSpelling, LlcpSpelling}
use Rattle.llcp_pdu.specs.Writing.{tlv_of, tlvs_of, params_bytes, part_bytes, parts_bytes, pdu_bytes}
use Rattle.llcp_pdu.proofs.PduSpellings.{pdu_reads}

pub param_back : (p : Param) → IsParam p → param (tlv_of p).kind (tlv_of p).value ≡ Some p
param_back (Version x) h = refl
param_back (Miux n) h = let e : (256 * (n / 256) + n % 256) % 2048 ≡ n = omega arith in ap (λ m. Some (Miux m)) e
param_back (Wks n) h = let e : 256 * (n / 256) + n % 256 ≡ n = omega arith in ap (λ m. Some (Wks m)) e
param_back (Lto x) h = refl
param_back (Rw x) h = let e : x % 16 ≡ x = omega arith in ap (λ y. Some (Rw y)) e
param_back (Sn name) h = refl
param_back (Opt x) h = refl
param_back (SdReq tid name) h = refl
param_back (SdRes tid sap) h = refl

sized_back : (o : Option Param) (b : Bool) (p : Param) → o ≡ Some p → (is_some o || b) ≡ true
sized_back o b p e = ap (λ z. is_some z || b) e

tlvs_sized : (ps : List Param) → AreParams ps → AllSized (tlvs_of ps)
tlvs_sized [] h = tt
tlvs_sized (p ∷ ps) h =
    (sized_back (param (tlv_of p).kind (tlv_of p).value) (not (is_known (tlv_of p).kind)) p (param_back p h.0), tlvs_sized ps h.1)

tlvs_known : (ps : List Param) → AreParams ps → known (tlvs_of ps) ≡ ps
tlvs_known [] h = refl
tlvs_known (p ∷ ps) h = ap (λ o. known_first o (known (tlvs_of ps))) (param_back p h.0) ∙ ap (λ z. p ∷ z) (tlvs_known ps h.1)

pub params_written : (ps : List Param) → AreParams ps → ParamsSpelling ps (params_bytes ps)
params_written ps h = (tlvs_of ps, tlvs_sized ps h, tlvs_known ps h, refl)

low_of : (n : ℕ) → n < 16 → n % 16 ≡ n
low_of n h = omega arith

pub part_written : (p : Part) → IsPart p → PartSpelling p (part_bytes p)
part_written Symm h = ([], omega arith, omega arith, refl, refl)
part_written (Ui d s info) h = (info, h.0, h.1, refl, refl)
part_written (Connect d s ps) h = (params_bytes ps, h.0, h.1, refl, params_written ps h.2)
part_written (Disc d s) h = ([], h.0, h.1, refl, refl)
part_written (Cc d s ps) h = (params_bytes ps, h.0, h.1, refl, params_written ps h.2)
part_written (Dm d s x) h = (x ∷ [], h.0, h.1, refl, refl)
part_written (Frmr d s w) h = (_, h.0, h.1, refl, (h.2, refl))
part_written (Snl ps) h = (params_bytes ps, omega arith, omega arith, refl, params_written ps h)
part_written (Info d s ns nr info) h = ((16 * ns + nr) ∷ info, h.0, h.1, refl, (h.2, h.3, refl))
part_written (Rr d s nr) h = (nr ∷ [], h.0, h.1, refl, (nr, low_of nr h.2, refl))
part_written (Rnr d s nr) h = (nr ∷ [], h.0, h.1, refl, (nr, low_of nr h.2, refl))

parts_written : (ps : List Part) → AreParts ps → PartsSpelling ps (parts_bytes ps)
parts_written [] h = refl
parts_written (p ∷ ps) h =
    let n : ℕ = length (part_bytes p) in
    let e : length (part_bytes p) ≡ 256 * (length (part_bytes p) / 256) + length (part_bytes p) % 256 = omega arith in
    (n / 256, n % 256, part_bytes p, parts_bytes ps, refl, e, part_written p h.0, parts_written ps h.2)

-- what is written of a PDU spells it
pub pdu_written : (v : Pdu) → IsPdu v → LlcpSpelling v (pdu_bytes v)
pdu_written (One p) h = part_written p h
pdu_written (Agf ps) h = (parts_bytes ps, omega arith, omega arith, refl, parts_written ps h)

-- and is read as it
pub pdu_back : (v : Pdu) → IsPdu v → pdu (pdu_bytes v) ≡ Ok v
pdu_back v h = pdu_reads v (pdu_bytes v) (pdu_written v h)
