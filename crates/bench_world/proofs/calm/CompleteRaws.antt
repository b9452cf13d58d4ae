-- What a sending of frames of a script's own comes to: what was heard of each is told, where little noise is.
use Rattle.std.proofs.Common.{◌≡◌, inl, inr, ℕ, suc, ◌+◌, ◌<◌, List, [], ◌∷◌, ◌++◌, length, Bool, true, false, if◌then◌else◌, Some, None, Option, Result, Ok, Err, refl, sym, ◌∙◌, ap, subst, arith}
use Rattle.std.specs.Prelude.{nat_lt}
use Rattle.std.proofs.lemmas.List.{length-append}
use Rattle.nfc_base.specs.Signal.{Signal}
use Rattle.nfc_base.specs.Trace.{noise, breaks}
use Rattle.nfc_base.specs.declared.carrier.EndCause.TheVariants as cause
use Rattle.nfc_base.specs.declared.event.Heard as hearing
use Rattle.nfc_base.specs.declared.event.Heard.TheVariants.{Whole, Collided, Damaged, Silent}
use Rattle.air_core.specs.Conversation.{Note, Lit, Got, Lost, EachDue, AreTurns, receptions}
use Rattle.arrayvec.specs.ArrayVec.{ArrayVec}
use Rattle.nfca_poll.specs.declared.fault.PollFault.{PollFault}
use Rattle.nfca_poll.specs.declared.fault.PollFault.TheVariants as faults
use Rattle.nfca_poll.specs.Inventory.{inventory_of}
use Rattle.dep_link.specs.Activating.{told_atr}
use Rattle.dep_link.specs.Frames.{spelled}
use Rattle.bench_script.specs.declared.command.Command.{Command}
use Rattle.bench_script.specs.declared.command.Command.TheVariants.{Raw}
use Rattle.bench_script.specs.declared.command.DeviceId.{DeviceId}
use Rattle.bench_script.specs.declared.command.DeviceId.TheVariants.{A, V}
use Rattle.bench_devices.specs.declared.device.Device.{Device}
use Rattle.bench_devices.specs.declared.polling.SeenKind.{SeenKind}
use Rattle.bench_devices.specs.declared.polling.SeenKind.TheVariants as seen
use Rattle.bench_devices.specs.Answering.{HasPollCause}
use Rattle.bench_devices.specs.Noise.{noisy_tries}
use Rattle.bench_devices.specs.Polling.{Told, selecting}
use Rattle.bench_world.specs.declared.entry.Answer.{Answer}
use Rattle.bench_world.specs.declared.entry.Answer.TheVariants as answers
use Rattle.bench_world.specs.declared.entry.Entry.{Entry}
use Rattle.bench_world.specs.declared.entry.Loss.TheVariants as losses
use Rattle.bench_world.specs.Completing.{IsQuietOnce}
use Rattle.bench_world.specs.CompletingRaws.{IsHeardOf, IsUndisturbedRaw, QuietRaws, RawsComplete, RawsQuietly, RawsPlaced}
use Rattle.bench_world.specs.Legal.{State, Given, LegalStep, AnswerLaw, RawLaw, world_at_start, due}
use Rattle.bench_world.specs.Linking.{IsFieldLost}
use Rattle.bench_world.specs.Quiet.{AllPass}
use Rattle.bench_world.specs.Rawing.{Rawing, Activates, Dark, RawEnds, Sends, Strays, Unlinked, raw_behind, raw_first, raw_heard, raw_heard_atr, raw_linked_by, raw_noted, raw_stand, told_rawing}
use Rattle.bench_world.specs.World.{bench_air}
use Rattle.bench_world.proofs.calm.Complete.{told_once, no_lost, missed, given_up}
use Rattle.bench_world.proofs.lines.OneAnswer.{one_end}
use Rattle.bench_world.proofs.calm.Quiet.{few_noisy, no_breaks, no_noisy, quiet_of, first_round}

-- Of each frame that was sent something was heard.
abbrev AllHeard : ℕ → Rawing → Type 0
AllHeard n (Sends heard left) = length heard + length left ≡ n
AllHeard n (Activates bad) = Unit {0}
AllHeard n (Unlinked why) = Unit {0}
AllHeard n Dark = Unit {0}
AllHeard n Strays = Unit {0}

module _ (frames : List Signal) where
  abbrev n : ℕ
  n = length frames

  linked_heard : (o : Option (ℕ × ArrayVec ℕ)) → AllHeard n (raw_linked_by frames o)
  linked_heard None = tt
  linked_heard (Some p) = omega arith

  bad_heard : (v : Bool) (bad : ℕ) → AllHeard n (if v then Activates bad else Unlinked cause.SixBad)
  bad_heard true bad = tt
  bad_heard false bad = tt

  atr_heard : (bad : ℕ) (h : hearing.Heard) → AllHeard n (raw_heard_atr frames bad h)
  atr_heard bad (Whole f) = linked_heard (told_atr (spelled f))
  atr_heard bad (Collided f) = bad_heard (nat_lt bad 5) (suc bad)
  atr_heard bad Damaged = bad_heard (nat_lt bad 5) (suc bad)
  atr_heard bad Silent = bad_heard (nat_lt bad 5) (suc bad)

  noted_heard : (s : Rawing) (k : Note) → AllHeard n s → AllHeard n (raw_noted frames s k)
  noted_heard (Activates bad) Lit is = tt
  noted_heard (Activates bad) (Got h) is = atr_heard bad h
  noted_heard (Activates bad) Lost is = tt
  noted_heard (Sends heard []) k is = tt
  noted_heard (Sends heard (f ∷ left)) Lit is = tt
  noted_heard (Sends heard (f ∷ left)) (Got h) is =
      let more : length (heard ++ raw_heard h ∷ []) ≡ length heard + 1 = length-append heard (raw_heard h ∷ []) in omega (arith, is, more)
  noted_heard (Sends heard (f ∷ left)) Lost is = tt
  noted_heard (Unlinked why) k is = tt
  noted_heard Dark k is = tt
  noted_heard Strays k is = tt

  stand_heard : (ns : List Note) (s : Rawing) → AllHeard n s → AllHeard n (raw_stand frames s ns)
  stand_heard [] s is = is
  stand_heard (k ∷ ns) s is = stand_heard ns (raw_noted frames s k) (noted_heard s k is)

  first_heard : (kind : SeenKind) → AllHeard n (raw_first kind frames)
  first_heard seen.T2 = omega arith
  first_heard seen.T4 = omega arith
  first_heard seen.T5 = omega arith
  first_heard seen.Peer = tt

  -- what is told where it stands so
  told_heard : (answer : Answer) (s : Rawing) → AllHeard n s → told_rawing s ≡ Some answer → (IsFieldLost answer → ⊥) → (s ≡ Unlinked cause.SixBad → ⊥) → IsHeardOf n answer
  told_heard answer (Sends heard []) is told lit six = (heard, told_once (answers.Heard heard) answer told, omega (arith, is))
  told_heard answer (Sends heard (f ∷ left)) is told lit six = absurd cc
  told_heard answer (Activates bad) is told lit six = absurd cc
  told_heard answer (Unlinked cause.FieldLost) is told lit six = absurd (lit (inr (told_once (answers.LinkEnded losses.FieldLost) answer told)))
  told_heard answer (Unlinked cause.SixBad) is told lit six = absurd (six refl)
  told_heard answer (Unlinked cause.Protocol) is told lit six = absurd cc
  told_heard answer (Unlinked cause.Memory) is told lit six = absurd cc
  told_heard answer Dark is told lit six = absurd (lit (inl (told_once answers.FieldLost answer told)))
  told_heard answer Strays is told lit six = absurd cc

-- six bad receptions of ATR_REQ are told
six_told : (s : Rawing) (answer : Answer) → s ≡ Unlinked cause.SixBad → told_rawing s ≡ Some answer → answer ≡ answers.LinkEnded losses.SixBad
six_told s answer six told = told_once (answers.LinkEnded losses.SixBad) answer (sym (ap told_rawing six) ∙ told)

module _ (s t : State) (g : Given) (e : Entry) (id : DeviceId) (frames : List Signal) (d : Device) (step : LegalStep s g e t) (o : RawsPlaced s e id frames d) where
  abbrev ds : List Device
  ds = s.world.field.listeners

  law : RawLaw s id frames e.events e.answer
  law = let L : Command → Type 0 = λ c. AnswerLaw s g c e.events e.answer in subst L o.command step.answered

  raw_ends : (lit : IsFieldLost e.answer → ⊥) (r : Result SeenKind PollFault) (behind : List Note) → IsQuietOnce id e.events
      → ((kind : SeenKind) → r ≡ Ok kind → raw_behind frames kind behind ≡ Unlinked cause.SixBad → ⊥) → HasPollCause id ds r e.events → RawEnds frames r behind e.answer
      → IsHeardOf (length frames) e.answer
  raw_ends lit (Ok kind) behind q none c told =
      told_heard frames e.answer (raw_behind frames kind behind) (stand_heard frames behind (raw_first kind frames) (first_heard frames kind)) told lit (none kind refl)
  raw_ends lit (Err faults.Nobody) behind q none c told = absurd c
  raw_ends lit (Err faults.Disturbed) behind q none c told = absurd (given_up id ds d o.placed o.named id e.events q c)
  raw_ends lit (Err faults.FieldLost) behind q none c told = absurd (lit (inl (told_once answers.FieldLost e.answer told)))
  raw_ends lit (Err faults.Memory) behind q none c told = absurd c
  raw_ends lit (Err faults.NotFound) behind q none c told = absurd (missed id ds d o.placed o.named id e.events o.placed o.named q c)
  raw_ends lit (Err faults.BadAnswer) behind q none c told = absurd c

  told_so : (kind : SeenKind) → law.tells.polled ≡ Ok kind → selecting id (receptions e.events) ≡ Told (Ok kind) law.tells.behind
  told_so kind is = law.tells.selected ∙ ap (λ r. Told r law.tells.behind) is

  raw_complete : IsUndisturbedRaw id frames e.events → IsHeardOf (length frames) e.answer
  raw_complete calm =
      raw_ends (λ lost. no_lost (breaks e.events) calm.lit (law.tells.lost.0 lost)) law.tells.polled law.tells.behind calm.round
      (λ kind is six. calm.waits kind law.tells.behind (told_so kind is) six) law.tells.cause law.tells.ends

  -- without noise nothing keeps it from its answer
  none_six : noise e.events ≡ 0 → (kind : SeenKind) (behind : List Note) → selecting id (receptions e.events) ≡ Told (Ok kind) behind → raw_behind frames kind behind ≡ Unlinked cause.SixBad → ⊥
  none_six none kind behind told six =
      let same = one_end law.tells.polled (Ok kind) law.tells.behind behind (sym law.tells.selected ∙ told) in
      let ends : RawEnds frames (Ok kind) behind e.answer =
      subst (λ ns. RawEnds frames (Ok kind) ns e.answer) same.1 (subst (λ r. RawEnds frames r law.tells.behind e.answer) same.0 law.tells.ends) in
      let some : 0 < noise e.events = law.tells.noisy (six_told (raw_behind frames kind behind) e.answer six ends) in
      omega (arith, none, some)

  quiet_once : noise e.events ≡ 0 → (i : DeviceId) → id ≡ i → IsQuietOnce i e.events
  quiet_once none (A x) is =
      first_round bench_air (world_at_start s g.joins (Raw id frames)) (due s g (Raw id frames)) e.events
      (subst (λ c. AreTurns bench_air (world_at_start s g.joins c) e.events) o.command step.front.turns)
      (subst (λ c. EachDue (due s g c) [] e.events) o.command step.front.each) (ap (λ k. due s g (Raw k frames) []) is)
      (ap (λ c. due s g c (receptions e.events)) (sym o.command) ∙ step.over) none
  quiet_once none (V x) is = few_noisy (noisy_tries (inventory_of x) e.events) (no_noisy _ e.events none)

  undisturbed : AllPass s.queue → IsUndisturbedRaw id frames e.events
  undisturbed pass =
      let none : noise e.events ≡ 0 = quiet_of s t g e (Raw id frames) step o.command refl pass in
      record { lit = no_breaks e.events none; round = quiet_once none id refl; waits = none_six none }

-- So it is wherever the lines of a script lead.
pub raws_complete : RawsComplete
raws_complete lines numbers journal s t g e id frames d leads step o calm = raw_complete s t g e id frames d step o calm

pub raws_quietly : (s t : State) (g : Given) (e : Entry) → LegalStep s g e t → AllPass s.queue → RawsQuietly s e
raws_quietly s t g e step pass id frames d o = raw_complete s t g e id frames d step o (undisturbed s t g e id frames d step o pass)

pub quiet_raws : QuietRaws
quiet_raws lines numbers journal s t g e leads step pass = raws_quietly s t g e step pass
