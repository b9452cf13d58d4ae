-- A call by its kind, with the bits or bytes that stand in its frame.
use Rattle.std.specs.Prelude.{◌≡◌, true, Option, Some, None}
use Rattle.nfc_base.specs.Signal.{Signal}
use Rattle.nfca_poll.specs.Calls as calls
use Rattle.nfca_poll.specs.Calls.{Reading, Calls, Other, is_sdd, is_sel, known_bits, named_level}
use Rattle.nfca_poll.specs.declared.call.CallKind.{CallKind}
use Rattle.nfca_poll.specs.declared.call.CallKind.TheVariants.{Sens, All, Slp, Sdd, Sel}

-- what a frame is to a listener, by the kind of call that it is
abbrev pub reading_by : Option CallKind → Signal → Reading
reading_by None f = Other
reading_by (Some Sens) f = Calls calls.Sens
reading_by (Some All) f = Calls calls.All
reading_by (Some Slp) f = Calls calls.Slp
reading_by (Some (Sdd k)) f = Calls (calls.Sdd k (known_bits f))
reading_by (Some (Sel k)) f = Calls (calls.Sel k (named_level f))

-- the frame of SDD_REQ and that of SEL_REQ have its form
abbrev pub HasForm : Option CallKind → Signal → Type 0
HasForm None f = Unit {0}
HasForm (Some Sens) f = Unit {0}
HasForm (Some All) f = Unit {0}
HasForm (Some Slp) f = Unit {0}
HasForm (Some (Sdd k)) f = is_sdd f ≡ true
HasForm (Some (Sel k)) f = is_sel f ≡ true
