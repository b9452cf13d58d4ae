-- The phases of a write: what each one needs and leaves, from the call that prepared it on.
use Rattle.std.specs.Prelude.{◌≡◌, ◌⊎◌, ℕ, ◌≤◌, List, [], ◌++◌, length, take, Bool, true, not, ◌==◌, None}
use Rattle.std.specs.List.{AllByRecursion}
use Rattle.nfc_base.specs.Signal.{Signal}
use Rattle.nfc_base.specs.TagLinks.{LinkView, TagState, NdefFile, after_all, Leads, images, Rises}
use Rattle.tlv_area.specs.declared.step.Plan.{Plan}
use Rattle.tlv_area.specs.Writing.{made}
use Rattle.tag_reader.specs.declared.how.How.{How}
use Rattle.tag_reader.specs.declared.how.How.TheVariants.{T2, T4, T5}
use Rattle.tag_reader.specs.Kinds.{IsTag, IsStore}
use Rattle.tag_reader.specs.Asked.{ToWrite, IsAskedFor}
use Rattle.tag_reader.specs.Survey.{surveyed}
use Rattle.tag_reader.specs.Files.{file_in, message_length}
use Rattle.tag_reader.specs.Calls.{GoesOn}
use Rattle.tag_writer.specs.declared.work.Work.{Work}
use Rattle.tag_writer.specs.declared.work.Work.TheVariants.{Blocks, File}
use Rattle.tag_writer.specs.declared.phase.Phase.{Phase}
use Rattle.tag_writer.specs.declared.phase.Phase.TheVariants.{Prepared, Emptied, Filled}
use Rattle.tag_writer.specs.Puts.{Put, after_puts, commands_of, block_puts, most_brought, file_puts}
use Rattle.tag_writer.specs.Place.{Place, Takes}
use Rattle.tag_writer.specs.Puttings.{IsPutOf}
use Rattle.tag_writer.specs.Counts.{IsHomePut, AreFew}
use Rattle.tag_writer.specs.WriteAsked.{Parts, all_puts, ArePuts, refused_by, last_command}
use Rattle.tag_writer.specs.Law.{IsEmptied, IsWritten}

-- What is to be done: the writes of a message for a store that takes it at this place.
pub record WriteJob : Type 0 where
  pub how : How
  pub size : ℕ
  pub store : List ℕ
  pub message : List ℕ
  pub place : Place
  pub parts : Parts

-- the writes that stand behind a phase, and those that the next one makes
abbrev pub made_at : Phase → WriteJob → List Put
made_at Prepared j = []
made_at Emptied j = j.parts.close
made_at Filled j = j.parts.close ++ j.parts.fill

abbrev pub next_at : Phase → WriteJob → List Put
next_at Prepared j = j.parts.close
next_at Emptied j = j.parts.fill
next_at Filled j = j.parts.last

-- the store that holds the message
abbrev pub new_store : WriteJob → List ℕ
new_store j = after_puts j.store (all_puts j.parts)

-- The writes serve the message: behind the first part and each front of the second the store holds the empty message,
-- behind the third it is the new one. The first and the third part are one write at most, the third one of the length;
-- all of them are few.
pub record Serves (j : WriteJob) : Type 0 where
  pub store' : IsStore j.how j.size j.store
  pub takes : Takes j.how j.size j.store j.message j.place
  pub are : ArePuts j.how j.size j.store j.message j.parts
  pub puts : AllByRecursion (IsPutOf j.how j.size j.store) (all_puts j.parts)
  pub empty : (n : ℕ) → IsEmptied j.how j.size j.place j.store
      (after_puts j.store (j.parts.close ++ take n j.parts.fill))
  pub new : IsWritten j.how j.size j.message j.place j.store (new_store j)
  pub first : length j.parts.close ≤ 1
  pub last : length j.parts.last ≤ 1
  pub home : AllByRecursion (IsHomePut j.how j.size j.place) j.parts.last
  pub few : AreFew j.how j.size j.store j.place (all_puts j.parts)

-- The work as the code keeps it: the plan of the blocks; or of a file the message, the most bytes of it that one update
-- brings, and whether the length has to become 0 first.
abbrev pub plan_parts : How → ℕ → Plan → Parts
plan_parts how size plan = record {
  close = block_puts how size (made plan.close);
  fill = block_puts how size plan.fill;
  last = block_puts how size (made plan.last);
}

abbrev pub file_parts : List ℕ → List ℕ → Parts
file_parts store message = record {
  close = file_puts Prepared store message;
  fill = file_puts Emptied store message;
  last = file_puts Filled store message;
}

pub record IsFileWork (j : WriteJob) (message : List ℕ) (most : ℕ) (close : Bool) : Type 0 where
  pub message' : j.message ≡ message
  pub parts : j.parts ≡ file_parts j.store message
  pub most' : most ≡ most_brought j.store
  pub some : 1 ≤ most
  pub close' : close ≡ not (message_length (file_in j.store) == 0)

abbrev pub how_of : Work → How
how_of (Blocks how plan) = how
how_of (File message most close) = T4

abbrev pub DoesParts : WriteJob → Work → Type 0
DoesParts j (Blocks how plan) = j.parts ≡ plan_parts how j.size plan
DoesParts j (File message most close) = IsFileWork j message most close

pub record IsWork (j : WriteJob) (work : Work) : Type 0 where
  pub how' : j.how ≡ how_of work
  pub parts : DoesParts j work

-- A Type 4 tag has its NDEF file for the current one.
abbrev pub IsNear : How → TagState → Type 0
IsNear T2 s = Unit {0}
IsNear T4 s = (s.selected ≡ true) × (s.file ≡ NdefFile)
IsNear (T5 id) s = Unit {0}

-- A tag is as a phase left it, the work being that of the job.
pub record IsAt (phase : Phase) (j : WriteJob) (work : Work) (v : LinkView) : Type 0 where
  pub serves : Serves j
  pub work' : IsWork j work
  pub tag : IsTag j.how j.size v
  pub near : IsNear j.how v.state
  pub store : v.state.store ≡ after_puts j.store (made_at phase j)

-- Since the writing began at a view a link went on so: all that is read first was answered, and then these writes, of
-- which none was refused; and the stores were first the old one, and then such that hold the empty message.
pub record Since (j : WriteJob) (a b : LinkView) (puts : List Put) : Type 0 where
  pub store : a.state.store ≡ j.store
  pub more : List Signal
  pub leads : Leads a b more
  pub before : List (List ℕ)
  pub during : List (List ℕ)
  pub joined : images a more ≡ before ++ during
  pub olds : AllByRecursion (λ s. s ≡ j.store) before
  pub empties : AllByRecursion (IsEmptied j.how j.size j.place j.store) during
  pub now : ((b.state.store ≡ j.store) × (during ≡ [])) ⊎ IsEmptied j.how j.size j.place j.store b.state.store
  pub rises : Rises a b
  pub begun : a.over ≡ None
  pub goes_on : GoesOn a b
  pub read : List Signal
  pub all : IsAskedFor ToWrite j.how j.size j.store read
  pub answered : b.answered ≡ a.answered ++ (read ++ commands_of puts)
  pub last : b.last ≡ last_command a.last (read ++ commands_of puts)
  pub state : b.state ≡ after_all a.step (surveyed j.how a.state) (commands_of puts)
  pub accepted : refused_by j.how a.step (surveyed j.how a.state) (commands_of puts) ≡ None
