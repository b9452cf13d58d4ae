-- What planning a write gives.
use Rattle.std.specs.Prelude.{◌≡◌, ℕ, ◌≤◌, List, length}
use Rattle.tag_reader.specs.declared.how.How.{How}
use Rattle.tag_reader.specs.declared.how.How.TheVariants.{T2, T4, T5}
use Rattle.tag_reader.specs.declared.fault.ReadFault.{ReadFault}
use Rattle.tag_reader.specs.declared.fault.ReadFault.TheVariants as read
use Rattle.tag_writer.specs.declared.fault.WriteFault.{WriteFault}
use Rattle.tag_writer.specs.declared.fault.WriteFault.TheVariants as fault
use Rattle.tag_writer.specs.declared.work.Work.{Work}
use Rattle.tag_writer.specs.Outcome.{IsReadOnly, IsTooLong, IsShort}
use Rattle.tag_writer.specs.Phases.{WriteJob, Serves, IsWork}

-- The work serves a message for a store.
pub record IsPlannedFor (how : How) (size : ℕ) (store message : List ℕ) (work : Work) : Type 0 where
  pub job : WriteJob
  pub serves : Serves job
  pub work' : IsWork job work
  pub kind : job.how ≡ how
  pub sized : job.size ≡ size
  pub stored : job.store ≡ store
  pub new : job.message ≡ message

-- A store that holds a message doesn't take another, or there is no memory.
abbrev pub IsDeclined : How → ℕ → List ℕ → List ℕ → WriteFault → Type 0
IsDeclined how size store message fault.ReadOnly = IsReadOnly how size store message
IsDeclined how size store message (fault.TooLong n) = IsTooLong how size store message n
IsDeclined how size store message fault.ShortMlc = IsShort how size store message
IsDeclined how size store message fault.Memory = Unit {0}
IsDeclined how size store message e = ⊥

-- The blocks of a Type 2 tag have four bytes and numbers of one.
abbrev pub IsLow : How → List ℕ → ℕ → Type 0
IsLow T2 known block = (block ≡ 4) × (length known ≤ 1024)
IsLow T4 known block = ⊥
IsLow (T5 id) known block = Unit {0}

-- the fault of a survey as one of a write
abbrev pub of_read : ReadFault → WriteFault
of_read read.NotNdef = fault.NotNdef
of_read read.Version = fault.Version
of_read read.NoRead = fault.NoRead
of_read read.Sectors = fault.Sectors
of_read read.BadSize = fault.BadSize
of_read read.NoMessageTlv = fault.NoMessageTlv
of_read read.BadTlv = fault.BadTlv
of_read (read.Refused code) = fault.Refused code
of_read read.FieldLost = fault.FieldLost
of_read read.SixBad = fault.SixBad
of_read read.Memory = fault.Memory
of_read read.Protocol = fault.Protocol
