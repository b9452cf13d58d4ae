-- What becomes of the open link's closing, by what the call on the field says.
use Rattle.std.proofs.Common.{◌≡◌, ℕ, Some, ◌∙◌, ap, subst, List}
use Rattle.nfc_base.specs.Choosing.{Choosing}
use Rattle.nfc_base.specs.Far.{Untouched}
use Rattle.nfc_base.specs.declared.carrier.EndCause.{EndCause}
use Rattle.nfc_base.specs.declared.carrier.EndCause.TheVariants as cause
use Rattle.air_core.specs.Turn.{Air}
use Rattle.dep_link.specs.Initiator.{InitState}
use Rattle.dep_link.specs.Releasing.{rls_frame}
use Rattle.snep_core.specs.declared.fault.SnepFault.{SnepFault}
use Rattle.snep_core.specs.declared.fault.SnepFault.TheVariants.{LinkEnded, Memory}
use Rattle.snep_core.specs.Accord.{Accords, AsideFails, IsClosed}
use Rattle.snep_core.specs.declared.slot.Slot.{Slot}
use Rattle.snep_core.specs.Talk.{EndState, Step, closes}
use Rattle.link_calls.specs.Closing.{ClosingFails, IsReleased}
use Rattle.bench_script.specs.declared.command.Command.TheVariants.{Unlink}
use Rattle.bench_devices.specs.declared.device.Device.{Device}
use Rattle.bench_devices.specs.Device.{devices, device_end}
use Rattle.bench_devices.specs.Keeping.{ghosts}
use Rattle.bench_devices.proofs.kinds.PeerHere.{none_at_rls}
use Rattle.bench_world.specs.declared.entry.Answer.{Answer}
use Rattle.bench_world.specs.declared.entry.Answer.TheVariants as answers
use Rattle.bench_world.specs.World.{FarEnd}
use Rattle.bench_world.specs.Calls.{told_loss}
use Rattle.bench_world.specs.Legal.{Joins}
use Rattle.bench_world.specs.Links.{OpenLink}
use Rattle.bench_world.specs.private.LinkTaken.{TakesLink, put_down}
use Rattle.bench_world.specs.Obeying.{Machines, IsCutOffBy, IsSettled, ObeyedBy}
use Rattle.bench_world.proofs.open_link.OnClosing.{released, lost, short}
use Rattle.bench_world.proofs.open_link.LinkOver.{Before, GoneAt, accords, called, counted, far_is, gone_so, its, short_so, so, spot}

module _ (old mid : Machines) (settled : IsSettled old) (q : ℕ) (l : OpenLink) (far : Choosing FarEnd) (t : TakesLink old q l far.end mid) (joins : Joins) (counts : far.numbers ≡ joins.far)
    (b : Air Device) (j : InitState) (after : Choosing FarEnd)
    (client : EndState) (slots : List Slot) where
  abbrev Of : FarEnd → Choosing FarEnd
  Of f = counted old mid settled q l far.end t joins b j after client slots f

  abbrev Own : FarEnd
  Own = its old mid settled q l far.end t

  -- what holds of the end that was taken, and of the field it was taken from, holds of the end of the link's peer
  of_own : (P : Choosing FarEnd → Air Device → Type 0) → P far mid.air → P (Of Own) old.air
  of_own P p =
      let whole : far ≡ Of far.end = ap (λ ns. record { end = far.end; numbers = ns }) counts in
      subst (P (Of Own)) (ap (λ (m : Machines). m.air) t.left) (subst (λ f. P f mid.air) (whole ∙ ap Of (far_is old mid settled q l far.end t)) p)

  accord : Accords l.client far.end
  accord = accords old mid settled q l far.end t

  abbrev pub Down : Machines
  Down = put_down (called old mid settled q l far.end t joins b j after client slots) q after.end

  abbrev Gone : Machines
  Gone = GoneAt old mid settled q l far.end t joins b j after client slots (spot old mid settled q l far.end t)

  abbrev Was : Machines
  Was = Before old mid settled q l far.end t joins b j after client slots

  abbrev Quiet : Type 0
  Quiet = (d : Device) → devices.handed d rls_frame ≡ Untouched

  abbrev Closed : Step → Choosing FarEnd → Air Device → Type 0
  Closed to f a = IsReleased ghosts device_end joins.own (closes l.client) a l.initiator f b after to

  abbrev Fails : SnepFault → Choosing FarEnd → Air Device → Type 0
  Fails e f a = ClosingFails ghosts device_end joins.own (closes l.client) a l.initiator f b after client j e

  pub told_closed : (new : Machines) → new ≡ Down → (to : Step) → Closed to far mid.air → (Accords l.client far.end → Quiet → IsClosed far.end client after.end)
      → ObeyedBy joins old new Unlink answers.Unlinked
  told_closed new down to r closed =
      gone_so old mid settled q l far.end t joins b j after client slots Unlink new answers.Unlinked down
      (released old.air old.ends old.peers l (so old mid settled q l far.end t) joins b after none_at_rls j client to (of_own (Closed to) r)
      (of_own (λ f a. IsClosed f.end client after.end) (closed accord none_at_rls)))

  pub told_lost : (new : Machines) → new ≡ Down → (x : SnepFault) (c : EndCause) → x ≡ LinkEnded c → Fails x far mid.air → (Accords l.client far.end → Quiet → AsideFails far.end x after.end)
      → (answer : Answer) → told_loss c ≡ Some answer → ObeyedBy joins old new Unlink answer
  told_lost new down x c r fails left answer told =
      gone_so old mid settled q l far.end t joins b j after client slots Unlink new answer down
      (by c told (of_own (Fails (LinkEnded c)) (subst (λ y. Fails y far mid.air) r fails)) (of_own (λ f a. AsideFails f.end (LinkEnded c) after.end)
      (subst (λ y. AsideFails far.end y after.end) r (left accord none_at_rls))))
    where
      by : (c : EndCause) → told_loss c ≡ Some answer → Fails (LinkEnded c) (Of Own) old.air → AsideFails Own (LinkEnded c) after.end → ObeyedBy joins Was Gone Unlink answer
      by cause.FieldLost z x a = lost old.air old.ends old.peers l (so old mid settled q l far.end t) joins b after none_at_rls j client cause.FieldLost answer x z a
      by cause.SixBad z x a = lost old.air old.ends old.peers l (so old mid settled q l far.end t) joins b after none_at_rls j client cause.SixBad answer x z a
      by cause.Protocol z x a = absurd x
      by cause.Memory z x a = absurd x

  pub told_short : (new : Machines) → new ≡ Down → (x : SnepFault) → x ≡ Memory → Fails x far mid.air → (Accords l.client far.end → Quiet → AsideFails far.end x after.end)
      → IsCutOffBy joins old new Unlink
  told_short new down x r fails left =
      short_so old mid settled q l far.end t joins b j after client slots Unlink new down
      (short old.air old.ends old.peers l (so old mid settled q l far.end t) joins b after none_at_rls j client
      (of_own (Fails Memory) (subst (λ y. Fails y far mid.air) r fails)) (of_own (λ f a. AsideFails f.end Memory after.end) (subst (λ y. AsideFails far.end y after.end) r (left accord none_at_rls))))
