-- The ranges that the fields of a PDU have on the wire.
use Rattle.std.specs.Prelude.{◌<◌, ◌+◌, List, [], ◌∷◌, length}
use Rattle.llcp_pdu.specs.declared.param.Param.{Param}
use Rattle.llcp_pdu.specs.declared.param.Param.TheVariants.{Version, Miux, Wks, Lto, Rw, Sn, Opt, SdReq, SdRes}
use Rattle.llcp_pdu.specs.declared.part.Part.{Part}
use Rattle.llcp_pdu.specs.declared.part.Part.TheVariants.{Symm, Ui, Connect, Disc, Cc, Dm, Frmr, Snl, Info, Rr, Rnr}
use Rattle.llcp_pdu.specs.declared.pdu.Pdu.{Pdu}
use Rattle.llcp_pdu.specs.declared.pdu.Pdu.TheVariants.{Agf, One}
use Rattle.llcp_pdu.specs.Wire.{miux_end, rw_end, sap_count}
use Rattle.llcp_pdu.specs.Spelling.{IsReport}
use Rattle.llcp_pdu.specs.Writing.{part_bytes}

-- a value has at most 255 bytes
abbrev pub IsParam : Param → Type 0
IsParam (Version x) = Unit {0}
IsParam (Miux n) = n < miux_end
IsParam (Wks n) = Unit {0}
IsParam (Lto x) = Unit {0}
IsParam (Rw x) = x < rw_end
IsParam (Sn name) = length name < 256
IsParam (Opt x) = Unit {0}
IsParam (SdReq tid name) = length name + 1 < 256
IsParam (SdRes tid sap) = Unit {0}

abbrev pub AreParams : List Param → Type 0
AreParams [] = Unit {0}
AreParams (p ∷ ps) = IsParam p × AreParams ps

-- SAPs of six bits, sequence numbers of four
abbrev pub IsPart : Part → Type 0
IsPart Symm = Unit {0}
IsPart (Ui d s info) = (d < sap_count) × (s < sap_count)
IsPart (Connect d s ps) = (d < sap_count) × (s < sap_count) × AreParams ps
IsPart (Disc d s) = (d < sap_count) × (s < sap_count)
IsPart (Cc d s ps) = (d < sap_count) × (s < sap_count) × AreParams ps
IsPart (Dm d s reason) = (d < sap_count) × (s < sap_count)
IsPart (Frmr d s r) = (d < sap_count) × (s < sap_count) × IsReport r
IsPart (Snl ps) = AreParams ps
IsPart (Info d s ns nr info) = (d < sap_count) × (s < sap_count) × (ns < 16) × (nr < 16)
IsPart (Rr d s nr) = (d < sap_count) × (s < sap_count) × (nr < 16)
IsPart (Rnr d s nr) = (d < sap_count) × (s < sap_count) × (nr < 16)

-- the length of a PDU in an AGF has two bytes
abbrev pub AreParts : List Part → Type 0
AreParts [] = Unit {0}
AreParts (p ∷ ps) = IsPart p × (length (part_bytes p) < 65536) × AreParts ps

abbrev pub IsPdu : Pdu → Type 0
IsPdu (One p) = IsPart p
IsPdu (Agf ps) = AreParts ps
