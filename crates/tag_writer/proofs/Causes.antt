-- The faults of a survey, and of planning, as those of a write.
use Rattle.std.proofs.Common.{◌≡◌, inl, inr, ℕ, List, None, refl}
use Rattle.nfc_base.specs.TagLinks.{LinkView}
use Rattle.tag_reader.specs.declared.how.How.{How}
use Rattle.tag_reader.specs.Calls.{HasSurveyed}
use Rattle.tag_reader.specs.declared.fault.ReadFault.{ReadFault}
use Rattle.tag_reader.specs.declared.fault.ReadFault.TheVariants as read
use Rattle.tag_reader.specs.Reading as reading
use Rattle.tag_writer.specs.declared.fault.WriteFault.{WriteFault}
use Rattle.tag_writer.specs.declared.fault.WriteFault.TheVariants as fault
use Rattle.tag_writer.specs.Faults.{IsWriteFault, IsToldOrMemory}
use Rattle.tag_writer.specs.Planning.{of_read, IsDeclined}

pub read_cause : (how : How) (size : ℕ) (message : List ℕ) (a b : LinkView) (e : ReadFault) → HasSurveyed how size a.state.store a b → reading.IsReadFault how size a.state.store a b e
    → IsWriteFault how size message a b (of_read e)
read_cause how size message a b read.NotNdef asked is = is
read_cause how size message a b read.Version asked is = is
read_cause how size message a b read.NoRead asked is = is
read_cause how size message a b read.Sectors asked is = is
read_cause how size message a b read.BadSize asked is = is
read_cause how size message a b read.NoMessageTlv asked is = is
read_cause how size message a b read.BadTlv asked is = is
read_cause how size message a b (read.Refused code) asked is = absurd is
read_cause how size message a b read.FieldLost asked is = is
read_cause how size message a b read.SixBad asked is = is
read_cause how size message a b read.Memory asked (inl over) = inl (over, asked)
read_cause how size message a b read.Memory asked (inr by) = inr by
read_cause how size message a b read.Protocol asked is = is

pub declined_cause : (how : How) (size : ℕ) (message : List ℕ) (a b : LinkView) (e : WriteFault) → b.over ≡ None → HasSurveyed how size a.state.store a b → IsDeclined how size a.state.store message e
    → IsWriteFault how size message a b e
declined_cause how size message a b fault.ReadOnly over asked is = is
declined_cause how size message a b (fault.TooLong n) over asked is = is
declined_cause how size message a b fault.ShortMlc over asked is = is
declined_cause how size message a b fault.Memory over asked is = inl (over, asked)
declined_cause how size message a b fault.NotNdef over asked is = absurd is
declined_cause how size message a b fault.Version over asked is = absurd is
declined_cause how size message a b fault.NoRead over asked is = absurd is
declined_cause how size message a b fault.Sectors over asked is = absurd is
declined_cause how size message a b fault.BadSize over asked is = absurd is
declined_cause how size message a b fault.NoMessageTlv over asked is = absurd is
declined_cause how size message a b fault.BadTlv over asked is = absurd is
declined_cause how size message a b (fault.Refused code) over asked is = absurd is
declined_cause how size message a b fault.FieldLost over asked is = absurd is
declined_cause how size message a b fault.SixBad over asked is = absurd is
declined_cause how size message a b fault.Protocol over asked is = absurd is

pub declined_calm : (how : How) (size : ℕ) (store message : List ℕ) (e : WriteFault) → IsDeclined how size store message e → IsToldOrMemory e
declined_calm how size store message fault.ReadOnly is = inl refl
declined_calm how size store message (fault.TooLong n) is = inl refl
declined_calm how size store message fault.ShortMlc is = inl refl
declined_calm how size store message fault.Memory is = inr refl
declined_calm how size store message fault.NotNdef is = absurd is
declined_calm how size store message fault.Version is = absurd is
declined_calm how size store message fault.NoRead is = absurd is
declined_calm how size store message fault.Sectors is = absurd is
declined_calm how size store message fault.BadSize is = absurd is
declined_calm how size store message fault.NoMessageTlv is = absurd is
declined_calm how size store message fault.BadTlv is = absurd is
declined_calm how size store message (fault.Refused code) is = absurd is
declined_calm how size store message fault.FieldLost is = absurd is
declined_calm how size store message fault.SixBad is = absurd is
declined_calm how size store message fault.Protocol is = absurd is
