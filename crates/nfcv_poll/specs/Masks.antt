-- The lowest bits of identifiers, for which a round of sixteen slots asks (ISO/IEC 15693-3).
use Rattle.std.specs.Prelude.{ℕ, ◌+◌, ◌*◌, ◌%◌, ◌^◌, nat_lt, ◌&&◌, if◌then◌else◌, Option, Some, None}
use Rattle.std.specs.Int.{w64, to_le_bytes}
use Rattle.nfc_base.specs.Signal.{Signal}
use Rattle.t5t_tag.specs.Slots.{slot_count, most_slot_bits}
use Rattle.t5t_tag.specs.Spelling.{command_frame}
use Rattle.nfcv_poll.specs.declared.mask.Mask.{Mask}
use Rattle.t5t_tag.specs.declared.command.T5Command.TheVariants.{Slots}

abbrev pub no_bits : Mask
no_bits = record { bits = 0; value = 0 }

-- the mask with a slot above its highest bit
abbrev pub with_slot : Mask → ℕ → Mask
with_slot m slot = record { bits = m.bits + 4; value = m.value + slot * 2 ^ m.bits % 2 ^ 64 }

-- An identifier has no slot behind sixty bits, and no number past 64 bits.
abbrev pub extended : Mask → ℕ → Option Mask
extended m slot =
    if nat_lt m.bits most_slot_bits && nat_lt slot slot_count && nat_lt (m.value + slot * 2 ^ m.bits % 2 ^ 64) (2 ^ 64)
    then Some (with_slot m slot)
    else None

-- the request that begins the round of a mask
abbrev pub slots_frame : Mask → Signal
slots_frame m = command_frame (Slots m.bits (to_le_bytes w64 m.value))
