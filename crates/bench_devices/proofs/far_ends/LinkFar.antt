-- The selection of a peer and the opening of a link to it, in the world with far ends.
use Rattle.std.proofs.Common.{◌≡◌, ℕ, zero, suc, List, [], ◌∷◌, Option, refl, sym, ◌∙◌, ap}
use Rattle.nfc_base.specs.declared.event.Event.{Event}
use Rattle.nfc_base.specs.declared.event.Event.TheVariants.{Reset, Request, Answer, Clash}
use Rattle.nfc_base.specs.Trace.{back_of}
use Rattle.nfc_base.specs.Trace as backs
use Rattle.air_core.specs.World.{World}
use Rattle.air_core.specs.Turn.{moment}
use Rattle.air_core.specs.Conversation.{Moment, Note, Next, LightUp, Asks, EachDue, Going}
use Rattle.air_core.specs.laws.Turning.{due_weaker}
use Rattle.dep_link.specs.Activating.{RestartedTimes}
use Rattle.dep_link.specs.AnyTarget.{atr_next}
use Rattle.nfc_base.specs.Choosing.{Choosing}
use Rattle.far_air.specs.FarEnds.{FarTable}
use Rattle.far_air.specs.FarLaws.{IsFarTable, IsOfTable, with_far}
use Rattle.far_air.specs.FarTurns.{FarGoing}
use Rattle.far_air.specs.Quietly.{NoneHands}
use Rattle.far_air.proofs.FarTurns.{far_goes_then}
use Rattle.far_air.proofs.Quietly.{quiet_goings, unlinked_stay}
use Rattle.peer_air.proofs.Aside.{speaks_aside}
use Rattle.bench_script.specs.declared.command.DeviceId.{DeviceId}
use Rattle.bench_script.specs.declared.command.DeviceId.TheVariants as ids
use Rattle.bench_devices.specs.declared.device.Device.{Device}
use Rattle.bench_devices.specs.declared.polling.SeenKind.TheVariants as seen
use Rattle.bench_devices.specs.Device.{air, devices, device_id, device_linked}
use Rattle.bench_devices.specs.Keeping.{ghosts}
use Rattle.bench_devices.specs.LinkLaws.{OpensFar, SelectsFar}
use Rattle.bench_devices.specs.Opening.{linking}
use Rattle.bench_devices.specs.Polling.{asks, selecting}
use Rattle.bench_devices.proofs.far_ends.BesideLink.{at_aside}
use Rattle.bench_devices.proofs.turns.CalmDues.{calm_selecting}
use Rattle.bench_devices.proofs.far_ends.LinkingNotes.{link_asks}
use Rattle.bench_devices.proofs.far_ends.OpensPeer.{at_peer, atr_whole}
use Rattle.bench_devices.proofs.kinds.PeerLinks.{devices_link}
use Rattle.bench_devices.proofs.turns.QuietRats.{laws}

-- while a device is selected none hands anything over
abbrev selects : DeviceId → List Note → Next
selects id ns = asks (selecting id ns)

begins_lit : (id : DeviceId) → selects id [] ≡ LightUp
begins_lit (ids.A i) = refl
begins_lit (ids.V i) = refl

none_hand : (id : DeviceId) (es : List Event) → EachDue (selects id) [] es → back_of es ≡ backs.Nothing → (w : World Device) → NoneHands devices w es
none_hand id [] each fresh w = tt
none_hand id (Reset ∷ es) each fresh w = ((unlinked_stay devices device_linked devices_link).1 w es (calm_selecting id (Reset ∷ es) each)).none
none_hand id (Request f x ∷ es) each fresh w = absurd (let clash : LightUp ≡ Asks f = sym (begins_lit id) ∙ each.0 in cc)
none_hand id (Answer f x ∷ es) each fresh w = absurd cc
none_hand id (Clash f x ∷ es) each fresh w = absurd cc

module _ {F : Type 0} (t : FarTable F) (fars : IsFarTable t) where
  selected_far : (id : DeviceId) (old new : Moment (World Device)) (notes : List Note) → Going air (selects id) old new notes
      → (place : ℕ) (os : List (Option F)) (far : Choosing F) → FarGoing devices device_linked t (selects id) old new notes place os far far
  selected_far id old new notes g place os far =
      quiet_goings devices device_linked t devices_link fars (selects id) old new notes g (none_hand id g.events g.each g.fresh old.world) (with_far os place far.end) far.numbers

pub selects_far : {F : Type 0} (t : FarTable F) → SelectsFar t
selects_far t fars id general old new notes g place os far =
    let q = selected_far t fars id old new notes g place os far in
    record {
      events = q.events;
      moment = q.moment;
      turns = q.turns;
      each = due_weaker (linking id general) (selects id) (λ ms n h d. link_asks.first id general ms n h d) [] q.events q.each;
      fates = q.fates;
      fresh = q.fresh;
      known = q.known;
    }

module _ {A F : Type 0} (restarts : A → List ℕ → A → Type 0) (steps : A → List ℕ → List ℕ → A → Type 0) (t : FarTable F) (view : A → Choosing F) where
  -- new links take no number
  takes_none : IsOfTable restarts steps t view → (general : List ℕ) (times : ℕ) (far after : A) → RestartedTimes restarts general times far after → (view after).numbers ≡ (view far).numbers
  takes_none kind general zero far after e = ap (λ a. (view a).numbers) e
  takes_none kind general (suc n) far after (mid, before, last) =
      ap (λ (z : Choosing F). z.numbers) (kind.restart mid general after last) ∙ takes_none kind general n far mid before

  pub opens_far : OpensFar restarts steps t view
  opens_far fars kind id general place d result old mid new far after notes g told s tag o os = (
    far_goes_then devices device_linked t (linking id general) (selects id) (atr_next general) (moment old) (moment mid) (moment new) notes o.notes place os (view far) (view far) (view after)
        (λ ms n h e. link_asks.first id general ms n h e) (λ ms. link_asks.behind id general seen.Peer notes ms told)
        (selected_far t fars id (moment old) (moment mid) notes g place os (view far))
        (speaks_aside ghosts laws restarts steps device_linked t view devices_link fars kind (atr_next general) (device_id d) place mid new far after o.notes (atr_whole general)
        (at_aside (device_id d) place mid.listeners (at_peer mid place d s tag)) o.speaks os),
    takes_none kind general o.times far after o.restarted,
  )
