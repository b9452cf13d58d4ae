-- The tag that a line names is of the technology that its identifier tells: one of eight bytes is no identifier of NFC-A. What isn't
-- read by an identifier, a peer and a Type 3 tag, doesn't count.
use Rattle.std.proofs.Common.{◌≡◌, ℕ, List, [], ◌∷◌, map, length, nat_eq, Bool, true, false, if◌then◌else◌, Some, refl, sym, ◌∙◌, ap, subst}
use Rattle.std.specs.Cmp.Lexicographic.{pointwise}
use Rattle.t5t_tag.proofs.Bytes.{equal_bytes}
use Rattle.bench_script.specs.declared.command.Command.{Command}
use Rattle.bench_script.specs.declared.command.Command.TheVariants.{Read, Write}
use Rattle.bench_script.specs.declared.command.DeviceId.{DeviceId}
use Rattle.bench_script.specs.declared.command.DeviceId.TheVariants as ids
use Rattle.bench_script.specs.DeviceIds.{bytes_of}
use Rattle.bench_script.specs.Script.{Spells, SpellsId}
use Rattle.bench_devices.specs.declared.device.Device.{Device}
use Rattle.bench_devices.specs.declared.device.Device.TheVariants.{T2, T4, Peer, T5, T3}
use Rattle.bench_devices.specs.Device.{device_id}
use Rattle.bench_devices.specs.Keeping.{AreSound, IsSound, kept}
use Rattle.bench_devices.specs.Placed.{device_with, IfPlaced}
use Rattle.bench_devices.proofs.finding.SelectingPlaces.{not_eight}
use Rattle.bench_world.specs.Journal.{asking_lines}
use Rattle.bench_world.specs.Legal.{State, first_state}
use Rattle.bench_world.specs.Obeying.{state_at}
use Rattle.bench_world.proofs.devices.Reached.{IsReady, first_ready, ready_behind}
use Rattle.trace_audit.specs.Technologies.{IsReadAs, NamesBehind, NamesBetween, NamesWell}

named_as : (id : DeviceId) (word : List ℕ) (d : Device) → SpellsId word id → IsSound (kept d) → device_id d ≡ bytes_of id → IsReadAs id d
named_as (ids.A i) word (T2 d) spells sound named = refl
named_as (ids.A i) word (T4 d) spells sound named = refl
named_as (ids.A i) word (Peer d) spells sound named = tt
named_as (ids.A i) word (T5 p) spells sound named = absurd (not_eight (length i) spells.1.size (ap length (sym named) ∙ sound.1))
named_as (ids.A i) word (T3 p) spells sound named = tt
named_as (ids.V i) word (T2 d) spells sound named = absurd (not_eight (length d.id) sound.0.size (ap length named ∙ spells.1))
named_as (ids.V i) word (T4 d) spells sound named = absurd (not_eight (length d.id) sound.0.size (ap length named ∙ spells.1))
named_as (ids.V i) word (Peer d) spells sound named = tt
named_as (ids.V i) word (T5 p) spells sound named = refl
named_as (ids.V i) word (T3 p) spells sound named = tt

placed_as : (id : DeviceId) (word : List ℕ) → SpellsId word id → (ds : List Device) → AreSound (map kept ds) → IfPlaced (IsReadAs id) (Unit {0}) (device_with (bytes_of id) ds)
placed_as id word spells [] sound = tt
placed_as id word spells (d ∷ ds) sound = by_name (pointwise nat_eq (device_id d) (bytes_of id)) refl (placed_as id word spells ds sound.2)
  where
    by_name : (v : Bool) → pointwise nat_eq (device_id d) (bytes_of id) ≡ v → IfPlaced (IsReadAs id) (Unit {0}) (device_with (bytes_of id) ds)
        → IfPlaced (IsReadAs id) (Unit {0}) (if v then Some d else device_with (bytes_of id) ds)
    by_name true e rest = named_as id word d spells sound.0 (equal_bytes (device_id d) (bytes_of id) e)
    by_name false e rest = rest

pub names_well : (s : State) (line : List ℕ) (c : Command) → AreSound (map kept s.world.field.listeners) → Spells line c → NamesWell s c
names_well s line (Read id) sound spells = placed_as id spells.0 spells.2 s.world.field.listeners sound
names_well s line (Write id message) sound spells = placed_as id spells.0 spells.3 s.world.field.listeners sound
names_well s line c sound spells = tt

pub names_between : NamesBetween
names_between s line c between spells =
    subst (λ x. NamesWell x c) (sym between.is) (names_well (state_at between.machines) line c between.settled.idle.tame.sound spells)

pub names_behind : NamesBehind
names_behind lines numbers journal s line c leads spells =
    let ready : IsReady s.world.field.listeners = ready_behind (asking_lines 1 lines) first_state s leads.given journal first_ready leads.numbered leads.steps in
    names_well s line c ready.tame.sound spells
