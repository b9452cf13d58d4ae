-- What preparing a write gives, and what a whole write did.
use Rattle.std.specs.Prelude.{◌≡◌, ◌⊎◌, ℕ, List, [], ◌++◌, true, None, Result, IfErr, OnOk}
use Rattle.nfc_base.specs.Signal.{Signal}
use Rattle.nfc_base.specs.TagLinks.{LinkView, Leads, images, Rises}
use Rattle.tag_reader.specs.declared.how.How.{How}
use Rattle.tag_reader.specs.Kinds.{OfTag}
use Rattle.tag_reader.specs.Calls.{GoesOn, HasSurveyed}
use Rattle.tag_reader.specs.Reading.{IsCalm}
use Rattle.tag_writer.specs.declared.fault.WriteFault.{WriteFault}
use Rattle.tag_writer.specs.declared.phase.Phase.TheVariants.{Prepared}
use Rattle.tag_writer.specs.declared.work.Work.{Work}
use Rattle.tag_writer.specs.Place.{Place, Takes, TakesNot}
use Rattle.tag_writer.specs.Law.{Ending, IsWritten, WriteLaw}
use Rattle.tag_writer.specs.Faults.{IsWriteFault, IsToldOrMemory, OnTold, is_told, ending_of}
use Rattle.tag_writer.specs.WriteAsked.{Parts, all_puts, ArePuts, IsWriteAsked, Writes, HasAskedOf}
use Rattle.tag_writer.specs.Counts.{AreFew}
use Rattle.tag_writer.specs.Phases.{WriteJob, Since, IsAt}

-- All is planned for a message and the store as it stands, and nothing is written.
pub record IsPrepared (how : How) (size : ℕ) (message : List ℕ) (work : Work) (a b : LinkView) : Type 0 where
  pub job : WriteJob
  pub at : IsAt Prepared job work b
  pub since : Since job a b []
  pub kind : job.how ≡ how
  pub sized : job.size ≡ size
  pub new : job.message ≡ message

-- All that a write asks was answered between two views.
pub record HasWrittenAll (how : How) (size : ℕ) (message : List ℕ) (a b : LinkView) : Type 0 where
  pub commands : List Signal
  pub asked : IsWriteAsked how size a.step a.state message commands
  pub answered : b.answered ≡ a.answered ++ commands

-- What was answered is the first of what is asked, and the last that was asked is the last of these or the next: of
-- what is read first, or of all.
pub record HasBegun (how : How) (size : ℕ) (message : List ℕ) (a b : LinkView) : Type 0 where
  pub commands : List Signal
  pub asked : IsWriteAsked how size a.step a.state message commands
  pub has : HasAskedOf a b commands

abbrev pub HasWritten : How → ℕ → List ℕ → LinkView → LinkView → Type 0
HasWritten how size message a b = HasSurveyed how size a.state.store a b ⊎ HasBegun how size message a b

-- The store takes the message, and the writes of it are few.
pub record TakesFew (how : How) (size : ℕ) (store message : List ℕ) : Type 0 where
  pub place : Place
  pub takes : Takes how size store message place
  pub parts : Parts
  pub are : ArePuts how size store message parts
  pub few : AreFew how size store place (all_puts parts)

-- Nothing is asked but what is read first, or few writes.
abbrev pub HasFew : How → ℕ → List ℕ → LinkView → LinkView → Type 0
HasFew how size message a b = HasSurveyed how size a.state.store a b ⊎ TakesFew how size a.state.store message

-- the stores that a tag passed
pub record Keeps (how : How) (size : ℕ) (message : List ℕ) (ending : Ending) (a b : LinkView) : Type 0 where
  pub more : List Signal
  pub leads : Leads a b more
  pub law : WriteLaw how size a.state.store message ending (images a more)
  pub rises : Rises a b

-- Success: the store takes the message, no write of it was refused, and the tag holds it now, with all else as it was.
pub record HasSucceeded (how : How) (size : ℕ) (message : List ℕ) (a b : LinkView) : Type 0 where
  pub writes : Writes how size a.step a.state message None
  pub holds : IsWritten how size message writes.place a.state.store b.state.store

-- A write of a message, from one view of a link to another.
abbrev pub KeepsLaw : {A : Type 0} → How → List ℕ → LinkView → LinkView → Result A WriteFault → Type 0
KeepsLaw how message a b result = OfTag how a (λ size. Keeps how size message (ending_of result) a b)

abbrev pub WritesInOrder : How → List ℕ → LinkView → LinkView → Type 0
WritesInOrder how message a b = OfTag how a (λ size. HasWritten how size message a b)

abbrev pub WritesFew : How → List ℕ → LinkView → LinkView → Type 0
WritesFew how message a b = OfTag how a (λ size. HasFew how size message a b)

abbrev pub WritesAll : {A : Type 0} → How → List ℕ → LinkView → LinkView → Result A WriteFault → Type 0
WritesAll how message a b result = OfTag how a (λ size. OnTold result (HasWrittenAll how size message a b))

abbrev pub LeavesLink : {A : Type 0} → How → LinkView → LinkView → Result A WriteFault → Type 0
LeavesLink how a b result = OfTag how a (λ size. OnTold result (GoesOn a b))

abbrev pub TellsSuccess : {A : Type 0} → How → List ℕ → LinkView → LinkView → Result A WriteFault → Type 0
TellsSuccess how message a b result = OfTag how a (λ size. OnOk result (HasSucceeded how size message a b))

abbrev pub TellsCause : {A : Type 0} → How → List ℕ → LinkView → LinkView → Result A WriteFault → Type 0
TellsCause how message a b result = OfTag how a (λ size. IfErr result (IsWriteFault how size message a b))

abbrev pub TellsInCalm : {A : Type 0} → How → LinkView → LinkView → Result A WriteFault → Type 0
TellsInCalm how a b result = OfTag how a (λ size. IsCalm a b → IfErr result IsToldOrMemory)

-- By what it tells the store doesn't take the message.
abbrev pub LeavesUntaken : {A : Type 0} → How → List ℕ → LinkView → Result A WriteFault → Type 0
LeavesUntaken how message a result =
    OfTag how a (λ size. IfErr result (λ e. is_told e ≡ true → TakesNot how size a.state.store message))
