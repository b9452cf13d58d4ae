-- A search for Type 3 tags that keeps the field, and has a try without noise, tells of all that are placed.
use Rattle.std.proofs.Common.{◌≡◌, inl, inr, ◌<◌, ◌≤◌, List, Option, Some, Result, Ok, Err, refl, sym, ◌∙◌, ap, subst, arith}
use Rattle.nfc_base.specs.declared.event.Event.{Event}
use Rattle.nfc_base.specs.Trace.{breaks}
use Rattle.nfca_poll.specs.declared.fault.PollFault.{PollFault}
use Rattle.nfca_poll.specs.declared.fault.PollFault.TheVariants as faults
use Rattle.nfca_poll.specs.Inventory.{tries}
use Rattle.t3t_access.specs.declared.polling.Fcrowd.{Fcrowd}
use Rattle.t3t_access.specs.Polling.{sensf_req}
use Rattle.bench_devices.specs.declared.device.Device.{Device}
use Rattle.bench_devices.specs.Noise.{noisy_tries}
use Rattle.bench_devices.specs.Sensing.{sensed_of, HasSensed, AreNoisy}
use Rattle.bench_world.specs.declared.entry.Answer.{Answer}
use Rattle.bench_world.specs.Answering.{three_told, sensed_answer}
use Rattle.bench_world.specs.Completing.{ThreesComplete}
use Rattle.bench_world.specs.Legal.{AnswerLaw, SenseLaw}

some_answer : (a b : Answer) → ◌≡◌ {A = Option Answer} (Some a) (Some b) → a ≡ b
some_answer a b e = cc

module _ (ds : List Device) (events : List Event) (answer : Answer) (unbroken : breaks events ≡ 0) (calm : noisy_tries sensf_req events < tries) where
  not_noisy : AreNoisy events → ⊥
  not_noisy n = let all : tries ≤ noisy_tries sensf_req events = n in omega (arith, all, calm)

  tells_of : (found : Result Fcrowd PollFault) → HasSensed ds found events → (found ≡ Err faults.FieldLost → 0 < breaks events) → sensed_answer found ≡ Some answer → answer ≡ three_told (sensed_of ds)
  tells_of (Ok x) (inl is) lost told = sym (some_answer (three_told x) answer told) ∙ ap three_told is
  tells_of (Ok x) (inr none) lost told = absurd (not_noisy none.1)
  tells_of (Err faults.Nobody) cause lost told = absurd cause
  tells_of (Err faults.Disturbed) cause lost told = absurd (not_noisy cause)
  tells_of (Err faults.FieldLost) cause lost told = absurd (let some : 0 < breaks events = lost refl in omega (arith, some, unbroken))
  tells_of (Err faults.Memory) cause lost told = absurd cause
  tells_of (Err faults.NotFound) cause lost told = absurd cause
  tells_of (Err faults.BadAnswer) cause lost told = absurd cause

pub threes_complete : ThreesComplete
threes_complete s t g e step is unbroken calm =
    let law : SenseLaw s g.joins e.events e.answer = subst (λ c. AnswerLaw s g c e.events e.answer) is step.answered in
    tells_of s.world.field.listeners e.events e.answer unbroken calm law.tells.found law.tells.cause law.tells.lost.0 law.tells.answered
