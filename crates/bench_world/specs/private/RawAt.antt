-- What sending frames of a script's own does to a field and a far end, and to machines.
use Rattle.std.specs.Prelude.{◌≡◌, ◌⊎◌, ℕ, List, [], Bool, true, false, Result, Ok, Err, length}
use Rattle.nfc_base.specs.Choosing.{Choosing}
use Rattle.nfc_base.specs.Signal.{Signal}
use Rattle.nfc_base.specs.declared.carrier.EndCause.{EndCause}
use Rattle.nfc_base.specs.declared.carrier.EndCause.TheVariants as cause
use Rattle.nfc_base.specs.declared.event.Event.{Event}
use Rattle.nfc_base.specs.declared.far.Mute.{Mute}
use Rattle.air_core.specs.Conversation.{Note, Next}
use Rattle.air_core.specs.Speaking.{LeavesOff, Speaks}
use Rattle.air_core.specs.Turn.{Air}
use Rattle.arrayvec.specs.ArrayVec.{ArrayVec}
use Rattle.dep_link.specs.Initiator.{InitState}
use Rattle.llcp_link.specs.Counting.{AnswersCounted, RestartsCounted, StopsCounted}
use Rattle.snep_core.specs.Server.{serving}
use Rattle.bench_script.specs.declared.command.Command.{Command}
use Rattle.bench_devices.specs.declared.device.Device.{Device}
use Rattle.bench_devices.specs.Device.{devices}
use Rattle.bench_devices.specs.Opening.{OpensAny}
use Rattle.bench_world.specs.declared.bench.ObeyFault.{ObeyFault}
use Rattle.bench_world.specs.declared.bench.ObeyFault.TheVariants as faults
use Rattle.bench_world.specs.declared.entry.Answer.{Answer}
use Rattle.bench_world.specs.declared.entry.Answer.TheVariants as answers
use Rattle.bench_world.specs.declared.entry.RawHeard.{RawHeard}
use Rattle.bench_world.specs.private.ForgedAt.{left_by, told_cause}
use Rattle.bench_world.specs.Forging.{forged_general}
use Rattle.bench_world.specs.Legal.{State, Joins, CutFront}
use Rattle.bench_world.specs.Halting.{RawHalts}
use Rattle.bench_world.specs.private.LinkedAt.{moved_at}
use Rattle.bench_world.specs.Obeying.{Machines, under}
use Rattle.bench_world.specs.Rawing.{Sends, Dark, are_sent, raw_due, raw_stand}
use Rattle.bench_world.specs.World.{FarEnd}

-- what is due while frames are sent, once a device is selected and, if it is a peer, activated
abbrev pub frames_due : List Signal → List Note → Next
frames_due frames ns = raw_due (raw_stand frames (Sends [] frames) ns)

-- what came of frames: what was heard of each; or the field was lost at one, or memory was wanting
abbrev pub HeardEach : Type 0
HeardEach = Result (List RawHeard) EndCause

module _ {A : Type 0} (restarts : A → List ℕ → A → Type 0) (steps : A → List ℕ → List ℕ → A → Type 0)
    (stops : A → List ℕ → A → Type 0) (is_stuck : A → Bool) where
  -- how it ended, by where it stood then
  abbrev pub FramesEnd : List Signal → List Note → Air Device → A → Air Device → A → HeardEach → Type 0
  FramesEnd frames ns mid half new after (Ok heard) = (new ≡ mid) × (after ≡ half)
      × (raw_stand frames (Sends [] frames) ns ≡ Sends heard [])
  FramesEnd frames ns mid half new after (Err cause.FieldLost) =
      (new ≡ mid) × (after ≡ half) × (raw_stand frames (Sends [] frames) ns ≡ Dark)
  FramesEnd frames ns mid half new after (Err cause.Memory) =
      (are_sent (raw_stand frames (Sends [] frames) ns) ≡ true)
      × LeavesOff devices restarts steps (frames_due frames) stops is_stuck ns mid half new after
  FramesEnd frames ns mid half new after (Err why) = ⊥

  -- Each frame was sent once, as far as it came, to listeners and a far end of this kind.
  pub record SendsEach (old : Air Device) (far : A) (frames : List Signal) (new : Air Device) (after : A)
      (result : HeardEach) : Type 0 where
    pub notes : List Note
    pub mid : Air Device
    pub half : A
    pub speaks : Speaks devices restarts steps (frames_due frames) old far mid half notes
    pub ends : FramesEnd frames notes mid half new after result

-- so it is over the far end of the peer that is placed
abbrev pub is_end_stuck : Choosing FarEnd → Bool
is_end_stuck c = c.end.stuck

abbrev pub SendsCounted : Air Device → Choosing FarEnd → List Signal → Air Device → Choosing FarEnd → HeardEach → Type 0
SendsCounted = SendsEach (RestartsCounted serving) (AnswersCounted serving) (StopsCounted serving) is_end_stuck

-- and over none
abbrev pub SendsMuted : Air Device → Mute → List Signal → Air Device → Mute → HeardEach → Type 0
SendsMuted = SendsEach (λ old general new. new ≡ old) (λ old payload reply new. (new ≡ old) × (reply ≡ []))
    (λ old payload new. ⊥) (λ far. false)

-- What came of all: no link was opened, by this cause; or the frames were sent.
abbrev pub SentRaw : Type 0
SentRaw = Result HeardEach EndCause

-- what is told of it, or that memory was wanting
abbrev pub told_each : HeardEach → Result Answer ObeyFault
told_each (Ok heard) = Ok (answers.Heard heard)
told_each (Err cause.FieldLost) = Ok answers.FieldLost
told_each (Err why) = Err faults.Memory

abbrev pub told_raw : SentRaw → Result Answer ObeyFault
told_raw (Ok came) = told_each came
told_raw (Err why) = told_cause why

-- what was done behind ATR_REQ, by what came of that
abbrev pub RawBehind : List Signal → Air Device → Choosing FarEnd → Result (InitState × ArrayVec ℕ) EndCause
    → Air Device → Choosing FarEnd → SentRaw → Type 0
RawBehind frames mid half (Ok p) new after (Ok came) = SendsCounted mid half frames new after came
RawBehind frames mid half (Ok p) new after (Err why) = ⊥
RawBehind frames mid half (Err why) new after sent = (sent ≡ Err why) × (new ≡ mid) × (after ≡ half)

-- ATR_REQ was asked of a peer, and then the frames were sent.
pub record RawSendsAll (old : Air Device) (far : Choosing FarEnd) (frames : List Signal) (new : Air Device)
    (after : Choosing FarEnd) (sent : SentRaw) : Type 0 where
  pub mid : Air Device
  pub half : Choosing FarEnd
  pub came : Result (InitState × ArrayVec ℕ) EndCause
  pub asks : OpensAny (RestartsCounted serving) (AnswersCounted serving) old far mid half forged_general came
  pub behind : RawBehind frames mid half came new after sent

-- Frames were sent to the peer with this number and far end: one link more began and ended, where one was opened.
pub record RawSendsOver (old new : Machines) (place : ℕ) (counts : List ℕ) (frames : List Signal) (peer : ℕ)
    (far : FarEnd) (result : Result Answer ObeyFault) : Type 0 where
  pub air : Air Device
  pub after : Choosing FarEnd
  pub sent : SentRaw
  pub sends : RawSendsAll old.air (record { end = far; numbers = counts }) frames air after sent
  pub told : result ≡ told_raw sent
  pub left : new ≡ left_by sent old air place after.end peer (length far.service.accepted)

-- So it was, or nothing was done, since room for one link more was wanting.
abbrev pub RawSendsTo : Machines → Machines → ℕ → List ℕ → List Signal → ℕ → FarEnd → Result Answer ObeyFault → Type 0
RawSendsTo old new place counts frames peer far result =
    ((result ≡ Err faults.Memory) × (new ≡ old)) ⊎ RawSendsOver old new place counts frames peer far result

-- Frames were sent to a tag, beside the peer at a place, whose far end was this one.
pub record RawBeside (old new : Machines) (place : ℕ) (counts : List ℕ) (frames : List Signal) (far : FarEnd)
    (result : Result Answer ObeyFault) : Type 0 where
  pub air : Air Device
  pub after : Choosing FarEnd
  pub came : HeardEach
  pub sends : SendsCounted old.air (record { end = far; numbers = counts }) frames air after came
  pub told : result ≡ told_each came
  pub left : new ≡ moved_at old air place after.end

-- They were sent to a tag where no peer is placed.
pub record RawAlone (old new : Machines) (frames : List Signal) (result : Result Answer ObeyFault) : Type 0 where
  pub air : Air Device
  pub first : Mute
  pub after : Mute
  pub came : HeardEach
  pub sends : SendsMuted old.air first frames air after came
  pub told : result ≡ told_each came
  pub left : new ≡ under old.ends old.peers old.link air

-- It was cut off: there is a front of its step, or the peer's end stopped behind one.
abbrev pub RawStops : Joins → State → Command → List Event → State → Type 0
RawStops joins s c cut t = CutFront joins s c cut t ⊎ RawHalts joins s c cut t
