-- What a read of the selected tag comes to, by what its link did.
use Rattle.std.proofs.Common.{◌≡◌, ℕ, true, refl, sym, ap, subst}
use Rattle.std.specs.Prelude.{map, Result, Err}
use Rattle.std.specs.List.{AllByRecursion}
use Rattle.nfc_base.specs.TagLinks.{LinkView}
use Rattle.air_core.specs.World.{World}
use Rattle.air_core.specs.Turn.{Air, moment}
use Rattle.air_core.specs.Waits.{waits_next}
use Rattle.air_core.specs.PlainLinks.{PlainSeen, PlainMoves, plain_view}
use Rattle.tag_reader.specs.declared.fault.ReadFault.{ReadFault}
use Rattle.tag_reader.specs.declared.fault.ReadFault.TheVariants as faults
use Rattle.tag_reader.specs.declared.found.Found.{Found}
use Rattle.tag_reader.specs.declared.how.How.{How}
use Rattle.tag_reader.specs.Kinds.{first}
use Rattle.tag_reader.specs.Asked.{ToRead}
use Rattle.tag_reader.specs.Calls.{HasAsked}
use Rattle.bench_devices.specs.declared.device.Device.{Device}
use Rattle.bench_devices.specs.Device.{device_store, how_of, size_of, may_be_read}
use Rattle.bench_devices.specs.Reading.{AsksOf, ShowsOf}
use Rattle.bench_devices.specs.private.Linking.{IsPlain, IsPlainHow, IsNew}
use Rattle.bench_devices.specs.Keeping.{kept, ghosts, NoStore}
use Rattle.bench_devices.specs.Phases.{Stands, FailsRead, Reads, ReadsAt, ReadsSome, CutAt}
use Rattle.bench_devices.proofs.finding.SelectingKept.{going_keeps}
use Rattle.bench_devices.proofs.reads.ReadingTags.{begun, shows_store, stands_one, some_asked}
use Rattle.bench_devices.proofs.reads.ReadingAir.{IsRead, all_reads, reads_harmless}
use Rattle.bench_devices.proofs.selected.LinkAsked.{AskedSome}
use Rattle.bench_devices.proofs.selected.LinkEnds.{LinkEnds}
use Rattle.bench_devices.proofs.selected.NewLinks.{new_is, plain_one, from_new}
use Rattle.bench_devices.proofs.selected.PlainEnds.{AsksPlain, AsksPlainSome, as_told, as_cut, plain_ends, none_before, asked_told}
use Rattle.bench_devices.proofs.reads.ReadTold as reading
use Rattle.bench_devices.proofs.reads.ReadTold.{read_some, read_does, read_does_some}

-- The link as it is made, to the tag that stands there.
module _ (a : Air Device) (place : ℕ) (d : Device) (s : Stands (moment a) place d) (plain : IsPlain d) (q : PlainSeen Device) (m : PlainMoves ghosts (begun a place) q) where
  abbrev from : LinkView
  from = plain_view ghosts (begun a place)

  abbrev to : LinkView
  to = plain_view ghosts q

  abbrev HasAskedOf : Type 0
  HasAskedOf = HasAsked (how_of d) (size_of d) from.state.store from to

  asked_some : HasAskedOf → AskedSome ToRead (how_of d) (size_of d) (device_store d) m.asked.commands
  asked_some h =
      read_some d (some_asked d s.sound plain) from to (shows_store a place d s) m.asked.commands (none_before a place q m) refl (asked_told a place q m) h

  all_reads_of : (n : ℕ) → m.asked.commands ≡ first (how_of d) (size_of d) (device_store d) n → AllByRecursion (IsRead d) m.asked.commands
  all_reads_of n list = subst (AllByRecursion (IsRead d)) (sym list) (all_reads d (size_of d) (device_store d) n)

  same_devices : HasAskedOf → map kept q.air.listeners ≡ map kept a.listeners
  same_devices h =
      let some = asked_some h in
      going_keeps (waits_next m.asked.commands) (moment a) (moment q.air) m.asked.notes (reads_harmless d plain m.asked.commands (all_reads_of some.count some.list)) m.asked.going

  -- what a read comes to, and one that was cut off
  ends : HasAskedOf → LinkEnds (AsksOf d) (ShowsOf d) FailsRead from to m.asked.commands (AsksPlain NoStore (AsksOf d) (ShowsOf d) FailsRead (moment a) (moment q.air))
      (AsksPlainSome NoStore (AsksOf d) (ShowsOf d) FailsRead (moment a) (moment q.air))
  ends h = plain_ends NoStore (AsksOf d) (ShowsOf d) FailsRead a place (ap (λ (w : World Device). w.lit) s.world) q m (same_devices h)

  pub reads : (r : Result Found ReadFault) → (r ≡ Err faults.Memory → ⊥) → reading.IsRead (how_of d) (size_of d) from to r → Reads (moment a) (moment q.air) d r
  reads r fed t =
      as_told NoStore (AsksOf d) (ShowsOf d) FailsRead (moment a) (moment q.air) d r plain
      (read_does d (some_asked d s.sound plain) from to (shows_store a place d s) m.asked.commands (none_before a place q m) refl (asked_told a place q m) (ends t.order) r fed t)

  pub reads_some : (r : Result Found ReadFault) → r ≡ Err faults.Memory → reading.IsRead (how_of d) (size_of d) from to r → ReadsSome (moment a) (moment q.air) d
  reads_some r starved t =
      as_cut NoStore (AsksOf d) (ShowsOf d) FailsRead (moment a) (moment q.air) d plain
      (read_does_some d (some_asked d s.sound plain) from to (shows_store a place d s) m.asked.commands (none_before a place q m) refl (asked_told a place q m) (ends t.order) r starved t)

module _ (p : PlainSeen Device) (is : IsNew p) (how : How) (one : (e : Device) × Stands (moment p.air) p.place e × (how ≡ how_of e) × IsPlainHow how × (may_be_read e ≡ true)) (q : PlainSeen Device)
    (moves : PlainMoves ghosts p q) where
  -- what was told on the link that is new
  here : (r : Result Found ReadFault) → reading.IsRead how (size_of one.0) (plain_view ghosts p) (plain_view ghosts q) r
      → reading.IsRead (how_of one.0) (size_of one.0) (plain_view ghosts (begun p.air p.place)) (plain_view ghosts q) r
  here r t =
      subst (λ x. reading.IsRead (how_of one.0) (size_of one.0) (plain_view ghosts x) (plain_view ghosts q) r) (sym (new_is p is))
      (subst (λ h. reading.IsRead h (size_of one.0) (plain_view ghosts p) (plain_view ghosts q) r) one.2 t)

  -- whatever the reading came to
  pub ends_read : (r : Result Found ReadFault) → reading.IsRead how (size_of one.0) (plain_view ghosts p) (plain_view ghosts q) r → ReadsAt (moment p.air) (moment q.air) p.place r
  ends_read r t fed d stands =
      subst (λ e. Reads (moment p.air) (moment q.air) e r) (sym (stands_one p.air p.place one.0 one.1 d stands))
      (reads p.air p.place one.0 one.1 (plain_one p is how one) q (from_new p is q moves) r fed (here r t))

  -- Reading was cut off.
  pub ends_cut : (r : Result Found ReadFault) → reading.IsRead how (size_of one.0) (plain_view ghosts p) (plain_view ghosts q) r → CutAt (moment p.air) (moment q.air) p.place r
  ends_cut r t starved d stands =
      subst (λ e. ReadsSome (moment p.air) (moment q.air) e) (sym (stands_one p.air p.place one.0 one.1 d stands))
      (reads_some p.air p.place one.0 one.1 (plain_one p is how one) q (from_new p is q moves) r starved (here r t))
