-- The bytes of a device's identifier, and the technology of frames that are sent to it.
use Rattle.std.specs.Prelude.{ℕ, List}
use Rattle.nfc_base.specs.declared.frame.Tech.{Tech}
use Rattle.nfc_base.specs.declared.frame.Tech.TheVariants as techs
use Rattle.bench_script.specs.declared.command.DeviceId.{DeviceId}
use Rattle.bench_script.specs.declared.command.DeviceId.TheVariants.{A, V}

-- an identifier's bytes
abbrev pub bytes_of : DeviceId → List ℕ
bytes_of (A id) = id
bytes_of (V id) = id

-- NFC-V for one of eight bytes, else NFC-A
abbrev pub tech_for : DeviceId → Tech
tech_for (A id) = techs.A
tech_for (V id) = techs.V
