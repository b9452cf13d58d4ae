-- What becomes of one frame that arrives at a target, by the PNI that is next (NFCIP-1, ISO/IEC 18092).
use Rattle.std.specs.Prelude.{ℕ, ◌==◌, false, Option, Some, None, if◌then◌else◌}
use Rattle.nfc_base.specs.Trace.{by_fate}
use Rattle.nfc_base.specs.declared.event.Event.{Event}
use Rattle.nfc_base.specs.declared.event.Event.TheVariants.{Reset, Request, Answer, Clash}
use Rattle.dep_pdu.specs.declared.frame.DepFrame.{DepFrame}
use Rattle.dep_pdu.specs.declared.frame.DepFrame.TheVariants.{Info, Ack}
use Rattle.dep_link.specs.Frames.{spelled}
use Rattle.dep_link.specs.declared.brought.Taking.{Taking}
use Rattle.dep_link.specs.declared.brought.Taking.TheVariants.{Passed, Taken, Whole}

abbrev pub taking_frame : ℕ → DepFrame → Taking
taking_frame next (Info false more pni content) = if pni == next then (if more then Taken else Whole) else Passed
taking_frame next (Ack false pni) = if pni == next then Taken else Passed
taking_frame next _ = Passed

-- a frame on the air may be none of NFC-DEP
abbrev pub taken_as : ℕ → Option DepFrame → Taking
taken_as next None = Passed
taken_as next (Some v) = taking_frame next v

-- a request that arrived
abbrev pub taken_in : ℕ → Event → Taking
taken_in next Reset = Passed
taken_in next (Request f x) = by_fate x (taken_as next (spelled f)) Passed Passed
taken_in next (Answer f x) = Passed
taken_in next (Clash f x) = Passed
