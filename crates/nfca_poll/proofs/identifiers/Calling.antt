-- How an NFC-A device of one level answers a reader that polls.
use Rattle.std.proofs.Common.{◌≡◌, [], ◌∷◌, refl}
use Rattle.nfc_base.specs.Signal.{whole_a}
use Rattle.nfc_base.specs.Bits.{bits_of, packed}
use Rattle.nfca_poll.specs.Calls.{Calls, Sdd, call_frame, call_of}

-- SDD_REQ of level 1 with no known bits
pub sdd_frame : call_frame (Sdd 1 []) ≡ whole_a (0x93 ∷ 0x20 ∷ [])
unfolding packed bits_of
sdd_frame = refl

sdd_read : call_of (whole_a (0x93 ∷ 0x20 ∷ [])) ≡ Calls (Sdd 1 [])
unfolding bits_of
sdd_read = refl
