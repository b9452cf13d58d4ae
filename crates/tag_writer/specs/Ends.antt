-- How the phases of a write end.
use Rattle.std.specs.Prelude.{◌≡◌, ◌⊎◌, ℕ, List, [], ◌∷◌, ◌++◌, true, Some, None, Result, Ok, Err}
use Rattle.nfc_base.specs.Signal.{Signal}
use Rattle.nfc_base.specs.TagLinks.{LinkView, after_all, Leads, images, Rises}
use Rattle.nfc_base.specs.declared.tag_link.AskFault.{AskFault}
use Rattle.tag_reader.specs.Asked.{ToWrite, IsAskedFor}
use Rattle.tag_reader.specs.Calls.{GoesOn, ByLink}
use Rattle.tag_reader.specs.Reading.{IsCalm}
use Rattle.tag_reader.specs.Survey.{surveyed}
use Rattle.tag_writer.specs.declared.fault.WriteFault.{WriteFault}
use Rattle.tag_writer.specs.declared.fault.WriteFault.TheVariants as fault
use Rattle.tag_writer.specs.declared.phase.Phase.{Phase}
use Rattle.tag_writer.specs.declared.phase.Phase.TheVariants.{Prepared, Emptied, Filled}
use Rattle.tag_writer.specs.declared.phase.Stopped.{Stopped}
use Rattle.tag_writer.specs.declared.work.Work.{Work}
use Rattle.tag_writer.specs.Commands.{commands_at, all_commands}
use Rattle.tag_writer.specs.Counts.{SameElsewhere}
use Rattle.tag_writer.specs.Puts.{Put, after_puts, commands_of}
use Rattle.tag_writer.specs.Puttings.{of_link}
use Rattle.tag_writer.specs.WriteAsked.{all_puts, up_to_refused, refusal_in, refused_by, HasAskedOf}
use Rattle.tag_writer.specs.Law.{Written, Passes, IsEmptied, IsWritten}
use Rattle.tag_writer.specs.Faults.{IsWriteFault, IsToldOrMemory, ending_by, is_told, IsRefusal}
use Rattle.tag_writer.specs.Phases.{WriteJob, IsAt, Since, how_of, made_at, next_at, new_store}
use Rattle.tag_writer.specs.WriteHeard.{AreAcknowledged, StopsAmong}

-- All that a writer asks for a job, by what was read first.
abbrev pub asked_for : WriteJob → LinkView → List Signal → List Signal
asked_for j a read = read ++ up_to_refused j.how a.step (surveyed j.how a.state) (commands_of (all_puts j.parts))

-- What was answered since a view is the first of it.
pub record AsksJob (j : WriteJob) (a b : LinkView) : Type 0 where
  pub read : List Signal
  pub all : IsAskedFor ToWrite j.how j.size j.store read
  pub has : HasAskedOf a b (asked_for j a read)

-- all of it
pub record AsksAllOf (j : WriteJob) (a b : LinkView) : Type 0 where
  pub read : List Signal
  pub all : IsAskedFor ToWrite j.how j.size j.store read
  pub answered : b.answered ≡ a.answered ++ asked_for j a read

-- Since the writing began at a view the stores keep the law, what was asked is what is asked for the job, and the cause
-- of the fault is known.
pub record StopsSince (j : WriteJob) (a b : LinkView) (e : WriteFault) : Type 0 where
  pub more : List Signal
  pub leads : Leads a b more
  pub passes : Passes j.how j.size j.store j.message j.place (ending_by e) (images a more)
  pub rises : Rises a b
  pub asked : AsksJob j a b
  pub told : is_told e ≡ true → AsksAllOf j a b × GoesOn a b
  pub cause : IsWriteFault j.how j.size j.message a b e

-- What stands of the store at a phase: the old message, and then the empty one.
abbrev pub Stands : Phase → WriteJob → List ℕ → Type 0
Stands Prepared j store = store ≡ j.store
Stands Emptied j store = IsEmptied j.how j.size j.place j.store store
Stands Filled j store = IsEmptied j.how j.size j.place j.store store

-- Why a phase stops at a write, behind those of a front: the tag as they leave it refuses the write by this code, or
-- the link is over by this fault, which it was before the phase, or whose cause is known of the phase.
abbrev pub StopsBy : WriteJob → LinkView → LinkView → List Put → Put → WriteFault → Type 0
StopsBy j a b front next e =
    ((code : ℕ) × (e ≡ fault.Refused code)
    × (refusal_in j.how (a.step (after_all a.step a.state (commands_of front)) next.command).answer ≡ Some code))
    ⊎ ((f : AskFault) × (e ≡ of_link f) × ByLink a b f)

-- What a call leaves that stopped behind a phase, from the view at which it began: no write before the one that failed
-- was refused. A refused write changed nothing, and what stood at the phase stands. After any other fault the store is
-- as before the write that failed or as behind it.
pub record StopsAt (phase : Phase) (j : WriteJob) (a b : LinkView) (e : WriteFault) : Type 0 where
  pub front : List Put
  pub next : Put
  pub rest : List Put
  pub split : next_at phase j ≡ front ++ next ∷ rest
  pub accepted : refused_by j.how a.step a.state (commands_of front) ≡ None
  pub cause : StopsBy j a b front next e
  pub refused : IsRefusal e → (b.state.store ≡ after_puts j.store (made_at phase j ++ front))
      × Stands phase j b.state.store
  pub lost : (b.state.store ≡ after_puts j.store (made_at phase j ++ front))
      ⊎ (b.state.store ≡ after_puts j.store (made_at phase j ++ front ++ next ∷ []))

-- The message is written.
pub record IsOpened (j : WriteJob) (a b : LinkView) : Type 0 where
  pub more : List Signal
  pub leads : Leads a b more
  pub passes : Passes j.how j.size j.store j.message j.place Written (images a more)
  pub rises : Rises a b
  pub goes_on : GoesOn a b
  pub asked : AsksJob j a b
  pub whole : AsksAllOf j a b
  pub accepted : refused_by j.how a.step (surveyed j.how a.state) (commands_of (all_puts j.parts)) ≡ None

-- What the writes behind a phase lead to where they are done: the tag is as the next phase needs it, behind `Emptied`
-- with all but the length's block or field as the new store has it, and behind `Filled` its store is new.
abbrev pub Reaches : Phase → WriteJob → Work → LinkView → Type 0
Reaches Prepared j work b = IsAt Emptied j work b
Reaches Emptied j work b = IsAt Filled j work b × SameElsewhere j.how j.size j.place b.state.store (new_store j)
Reaches Filled j work b = IsWritten j.how j.size j.message j.place j.store b.state.store

-- the same since the view at which the writing began
abbrev pub ReachesSince : Phase → WriteJob → LinkView → LinkView → Type 0
ReachesSince Prepared j a b = Since j a b (made_at Emptied j)
ReachesSince Emptied j a b = Since j a b (made_at Filled j)
ReachesSince Filled j a b = IsOpened j a b

-- The writes behind a phase are done. Whatever the tag, each was acknowledged; the rest is of one that keeps to its
-- table, as the call before left it, and that since the view at which the writing began.
pub record HasReached (phase : Phase) (work : Work) (a b : LinkView) : Type 0 where
  pub told : AreAcknowledged (how_of work) a b (commands_at phase work)
  pub rises : Rises a b
  pub ok : (j : WriteJob) → IsAt phase j work a → Reaches phase j work b
  pub since : (j : WriteJob) (v : LinkView) → IsAt phase j work a → Since j v a (made_at phase j)
      → ReachesSince phase j v b

-- One of them isn't: which one and why; and of a tag that keeps to its table what it left.
pub record HasStopped (phase : Phase) (work : Work) (a b : LinkView) (s : Stopped) : Type 0 where
  pub stopped : s.phase ≡ phase
  pub told : StopsAmong (how_of work) a b (commands_at phase work) s.cause
  pub rises : Rises a b
  pub err : (j : WriteJob) → IsAt phase j work a → StopsAt phase j a b s.cause
  pub law : (j : WriteJob) (v : LinkView) → IsAt phase j work a → Since j v a (made_at phase j)
      → StopsSince j v b s.cause
  pub calm : (j : WriteJob) → IsAt phase j work a → IsCalm a b → IsToldOrMemory s.cause

-- how a phase ends
abbrev pub EndsPhase : {A : Type 0} → Phase → Work → LinkView → LinkView → Result A Stopped → Type 0
EndsPhase phase work a b (Ok x) = HasReached phase work a b
EndsPhase phase work a b (Err s) = HasStopped phase work a b s

-- All phases, one after another, since the view at which the writing began: the message is written, or one of its
-- writes isn't done.
pub record HasOpened (work : Work) (a b : LinkView) : Type 0 where
  pub told : AreAcknowledged (how_of work) a b (all_commands work)
  pub ok : (j : WriteJob) (v : LinkView) → IsAt Prepared j work a → Since j v a [] → IsOpened j v b
  pub new : (j : WriteJob) → IsAt Prepared j work a → Reaches Filled j work b

pub record HasFailed (work : Work) (a b : LinkView) (e : WriteFault) : Type 0 where
  pub told : StopsAmong (how_of work) a b (all_commands work) e
  pub err : (j : WriteJob) (v : LinkView) → IsAt Prepared j work a → Since j v a [] → StopsSince j v b e
  pub calm : (j : WriteJob) (v : LinkView) → IsAt Prepared j work a → Since j v a [] → IsCalm v b → IsToldOrMemory e

abbrev pub EndsWork : {A : Type 0} → Work → LinkView → LinkView → Result A Stopped → Type 0
EndsWork work a b (Ok x) = HasOpened work a b
EndsWork work a b (Err s) = HasFailed work a b s.cause
