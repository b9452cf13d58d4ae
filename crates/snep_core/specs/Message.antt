-- How messages are written (NFC Forum SNEP 1.0).
use Rattle.std.specs.Prelude.{ℕ, ◌+◌, ◌*◌, ◌/◌, ◌%◌, List, ◌∷◌, [], ◌++◌, length}
use Rattle.snep_core.specs.declared.message.Answer.{Answer}
use Rattle.snep_core.specs.declared.message.Answer.TheVariants.{Continue, Success, NotFound, Excess, BadRequest}
use Rattle.snep_core.specs.declared.message.Answer.TheVariants.{NotImplemented, UnsupportedVersion, Reject}

-- the first byte: version 1.0
abbrev pub version : ℕ
version = 0x10

-- how many bytes stand before the information
abbrev pub header_size : ℕ
header_size = 6

-- the codes of requests
abbrev pub continue_code : ℕ
continue_code = 0x00

abbrev pub get_code : ℕ
get_code = 0x01

abbrev pub put_code : ℕ
put_code = 0x02

abbrev pub reject_code : ℕ
reject_code = 0x7F

-- and of answers
abbrev pub answer_code : Answer → ℕ
answer_code Continue = 0x80
answer_code Success = 0x81
answer_code NotFound = 0xC0
answer_code Excess = 0xC1
answer_code BadRequest = 0xC2
answer_code NotImplemented = 0xE0
answer_code UnsupportedVersion = 0xE1
answer_code Reject = 0xFF

-- four bytes as a number, high byte first, and a number as four bytes
abbrev pub number : ℕ → ℕ → ℕ → ℕ → ℕ
number a b c d = a * 16777216 + b * 65536 + c * 256 + d

abbrev pub four_bytes : ℕ → List ℕ
four_bytes n = n / 16777216 ∷ n / 65536 % 256 ∷ n / 256 % 256 ∷ n % 256 ∷ []

-- a message of a code: the version, the code, how long the information is, and the information
abbrev pub message_of_code : ℕ → List ℕ → List ℕ
message_of_code code info = version ∷ code ∷ (four_bytes (length info) ++ info)

abbrev pub message : Answer → List ℕ → List ℕ
message answer info = message_of_code (answer_code answer) info
