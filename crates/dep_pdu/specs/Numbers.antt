-- The numbers of NFC-DEP frames (NFCIP-1, which is ISO/IEC 18092; NFC Forum Digital Protocol), and those of the
-- refusals.
use Rattle.std.specs.Prelude.{ℕ, Bool, if◌then◌else◌}
use Rattle.dep_pdu.specs.declared.refusal.DepKind.{DepKind}
use Rattle.dep_pdu.specs.declared.refusal.DepKind.TheVariants.{Start, Length, Short, Direction, Command, Field}
use Rattle.dep_pdu.specs.declared.refusal.DepKind.TheVariants.{Trailing}

-- the byte that begins each frame
abbrev pub start_byte : ℕ
start_byte = 0xF0

-- the direction byte of a request, and that of an answer
abbrev pub request : ℕ
request = 0xD4

abbrev pub answer : ℕ
answer = 0xD5

-- the command bytes; that of an answer is one more than that of its request
abbrev pub atr_req : ℕ
atr_req = 0x00

abbrev pub atr_res : ℕ
atr_res = 0x01

abbrev pub dep_req : ℕ
dep_req = 0x06

abbrev pub dep_res : ℕ
dep_res = 0x07

abbrev pub dsl_req : ℕ
dsl_req = 0x08

abbrev pub dsl_res : ℕ
dsl_res = 0x09

abbrev pub rls_req : ℕ
rls_req = 0x0A

abbrev pub rls_res : ℕ
rls_res = 0x0B

-- the PFB bytes, without their PNI
abbrev pub information : ℕ
information = 0x00

abbrev pub more_information : ℕ
more_information = 0x10

abbrev pub ack : ℕ
ack = 0x40

abbrev pub nack : ℕ
nack = 0x50

abbrev pub attention : ℕ
attention = 0x80

abbrev pub extension : ℕ
extension = 0x90

-- DID where no device identifier is given, which is always so here
abbrev pub no_did : ℕ
no_did = 0x00

-- the bit of PP that announces general bytes
abbrev pub general_follow : ℕ
general_follow = 0x02

-- how many bytes NFCID3 has
abbrev pub id_size : ℕ
id_size = 10

-- how many general bytes fit a request of 64 bytes, and an answer
abbrev pub most_general_req : ℕ
most_general_req = 48

abbrev pub most_general_res : ℕ
most_general_res = 47

-- how many bytes of content LEN can count
abbrev pub most_content : ℕ
most_content = 251

-- the most times that an extension may ask for the waiting time
abbrev pub most_times : ℕ
most_times = 59

-- Places in a frame, counted from F0h: of LEN, the direction and command bytes and the end of these two; of NFCID3 and
-- DID; of TO in ATR_RES; of PP, up in ATR_RES; of the PFB, and of the byte of an extension.
abbrev pub len_place : ℕ
len_place = 1

abbrev pub direction_place : ℕ
direction_place = 2

abbrev pub command_place : ℕ
command_place = 3

abbrev pub head_end : ℕ
head_end = 4

abbrev pub id_place : ℕ
id_place = 4

abbrev pub did_place : ℕ
did_place = 14

abbrev pub timeout_place : ℕ
timeout_place = 17

abbrev pub pp_place : Bool → ℕ
pp_place up = if up then 18 else 17

abbrev pub pfb_place : ℕ
pfb_place = 4

abbrev pub times_place : ℕ
times_place = 5

abbrev pub dep_kind_number : DepKind → ℕ
dep_kind_number Start = 1
dep_kind_number Length = 2
dep_kind_number Short = 3
dep_kind_number Direction = 4
dep_kind_number Command = 5
dep_kind_number Field = 6
dep_kind_number Trailing = 7
