-- The numbers of the wire (NFC Forum LLCP 1.3).
use Rattle.std.specs.Prelude.{ℕ, List, [], ◌∷◌}
use Rattle.llcp_pdu.specs.declared.header.Ptype.{Ptype}
use Rattle.llcp_pdu.specs.declared.header.Ptype.TheVariants.{Symm, Agf, Ui, Connect, Disc, Cc, Dm, Frmr, Snl, Info, Rr}
use Rattle.llcp_pdu.specs.declared.header.Ptype.TheVariants.{Rnr}

-- the types of PDU
abbrev pub symm_type : ℕ
symm_type = 0

abbrev pub agf_type : ℕ
agf_type = 2

abbrev pub ui_type : ℕ
ui_type = 3

abbrev pub connect_type : ℕ
connect_type = 4

abbrev pub disc_type : ℕ
disc_type = 5

abbrev pub cc_type : ℕ
cc_type = 6

abbrev pub dm_type : ℕ
dm_type = 7

abbrev pub frmr_type : ℕ
frmr_type = 8

abbrev pub snl_type : ℕ
snl_type = 9

abbrev pub info_type : ℕ
info_type = 12

abbrev pub rr_type : ℕ
rr_type = 13

abbrev pub rnr_type : ℕ
rnr_type = 14

abbrev pub ptype_number : Ptype → ℕ
ptype_number Symm = symm_type
ptype_number Agf = agf_type
ptype_number Ui = ui_type
ptype_number Connect = connect_type
ptype_number Disc = disc_type
ptype_number Cc = cc_type
ptype_number Dm = dm_type
ptype_number Frmr = frmr_type
ptype_number Snl = snl_type
ptype_number Info = info_type
ptype_number Rr = rr_type
ptype_number Rnr = rnr_type

-- how many SAPs there are
abbrev pub sap_count : ℕ
sap_count = 64

-- the SAP of service discovery, from and to which an SNL goes
abbrev pub discovery_sap : ℕ
discovery_sap = 1

-- the types of parameter
abbrev pub version_type : ℕ
version_type = 1

abbrev pub miux_type : ℕ
miux_type = 2

abbrev pub wks_type : ℕ
wks_type = 3

abbrev pub lto_type : ℕ
lto_type = 4

abbrev pub rw_type : ℕ
rw_type = 5

abbrev pub sn_type : ℕ
sn_type = 6

abbrev pub opt_type : ℕ
opt_type = 7

abbrev pub sdreq_type : ℕ
sdreq_type = 8

abbrev pub sdres_type : ℕ
sdres_type = 9

-- a MIUX has eleven bits, a RW has four
abbrev pub miux_end : ℕ
miux_end = 2048

abbrev pub rw_end : ℕ
rw_end = 16

-- the MIU of an end that sends no MIUX
abbrev pub least_miu : ℕ
least_miu = 128

-- the first three bytes of general bytes, the text Ffm
abbrev pub magic_first : ℕ
magic_first = 0x46

abbrev pub magic_second : ℕ
magic_second = 0x66

abbrev pub magic_third : ℕ
magic_third = 0x6D

abbrev pub magic_length : ℕ
magic_length = 3

abbrev pub magic : List ℕ
magic = magic_first ∷ magic_second ∷ magic_third ∷ []

-- the major number of the version that is spoken here
abbrev pub major : ℕ
major = 1

-- the last place of a fault that is told as it is
abbrev pub last_place : ℕ
last_place = 65535
