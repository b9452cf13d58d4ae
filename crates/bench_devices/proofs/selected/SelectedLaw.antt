-- The law of a write from before its tag was selected on.
use Rattle.std.proofs.Common.{◌≡◌, ℕ, List, [], ◌++◌, sym, ◌∙◌, ap, subst}
use Rattle.nfc_base.specs.declared.event.Event.{Event}
use Rattle.nfc_base.specs.Signal.{Signal}
use Rattle.air_core.specs.Conversation.{Note, Asks, Moment, Going, replay}
use Rattle.nfca_poll.specs.Rounds.{device_of, picking}
use Rattle.tag_writer.specs.Law.{Ending}
use Rattle.bench_script.specs.declared.command.DeviceId.{DeviceId}
use Rattle.bench_script.specs.declared.command.DeviceId.TheVariants.{A, V}
use Rattle.bench_devices.specs.declared.device.Device.{Device}
use Rattle.bench_devices.specs.Device.{BenchWorld, air, device_id, device_store}
use Rattle.bench_devices.specs.Placed.{device_with}
use Rattle.bench_devices.specs.Keeping.{EachAsked, held_by}
use Rattle.bench_devices.specs.Polling.{asks, follows, seen_kind, selecting}
use Rattle.bench_devices.specs.Writing.{KeepsWriteLaw}
use Rattle.bench_devices.proofs.finding.Following.{kind_asks, asks_same}
use Rattle.bench_devices.proofs.finding.SelectingKept.{IsHarmless, due_asked}
use Rattle.bench_devices.proofs.finding.Searching.{asks_harmless, search_closes}
use Rattle.bench_devices.proofs.finding.SelectingV.{next_asked}
use Rattle.bench_devices.proofs.kinds.ImagesJoin.{law_behind}

-- whatever is due while a device is selected changes no device but in its state
pub selecting_harmless : (id : DeviceId) (ns : List Note) (f : Signal) → asks (selecting id ns) ≡ Asks f → IsHarmless f
selecting_harmless (A id) ns f e = asks_harmless (device_of id) ns f (sym (kind_asks seen_kind (follows (picking id) ns) ∙ asks_same (picking id) (search_closes (device_of id)) ns) ∙ e)
selecting_harmless (V id) ns f e = next_asked id ns f e

-- The device holds at first what it holds once it is selected, and so the law holds from there on.
pub law_selected : (id : DeviceId) (old new : Moment BenchWorld) (ns : List Note) (g : Going air (λ ks. asks (selecting id ks)) old new ns) (message : List ℕ) (d : Device) (ending : Ending)
    (es : List Event)
    → held_by (device_with (device_id d) new.world.listeners) ≡ device_store d → KeepsWriteLaw message d ending new.world es → KeepsWriteLaw message d ending old.world (g.events ++ es)
law_selected id old new ns g message d ending es holds law =
    let replayed : new.world ≡ replay air old.world g.events = ap (λ (t : Moment BenchWorld). t.world) g.moment in
    let harmless : EachAsked IsHarmless g.events = due_asked IsHarmless (λ ks. asks (selecting id ks)) (λ ks f due. selecting_harmless id ks f due) [] g.events g.each in
    law_behind message d ending old.world g.events es harmless
    (subst (λ (w : BenchWorld). held_by (device_with (device_id d) w.listeners) ≡ device_store d) replayed holds)
    (subst (λ (w : BenchWorld). KeepsWriteLaw message d ending w es) replayed law)
