-- What the reader hears of a transmission back, by its fate.
use Rattle.std.specs.Prelude.{Option, Some, None, Result, Ok, Err}
use Rattle.nfc_base.specs.Trace.{heard_at}
use Rattle.nfc_base.specs.declared.event.Fate.{Fate}
use Rattle.nfc_base.specs.declared.event.Heard.{Heard}
use Rattle.air_core.specs.declared.fault.AirFault.{AirFault}
use Rattle.air_core.specs.declared.fault.AirFault.TheVariants.{FieldLost}

-- what was heard, as an answer of `transmit`
abbrev pub answer_of : Option Heard → Result Heard AirFault
answer_of (Some h) = Ok h
answer_of None = Err FieldLost

abbrev pub settled : Heard → Fate → Result Heard AirFault
settled h x = answer_of (heard_at x h)
