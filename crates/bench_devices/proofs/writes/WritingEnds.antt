-- What a write of the selected tag comes to that takes commands as they are sent, by what its link did.
use Rattle.std.proofs.Common.{◌≡◌, ℕ, true, List, ◌∷◌, ◌++◌, length, drop, refl, sym, ◌∙◌, ap, subst}
use Rattle.std.specs.Prelude.{Err}
use Rattle.std.specs.List.{AllByRecursion}
use Rattle.nfc_base.specs.Signal.{Signal}
use Rattle.nfc_base.specs.TagLinks.{LinkView, MayAsk, plain_state}
use Rattle.air_core.specs.World.{World}
use Rattle.air_core.specs.Turn.{Air, world, moment}
use Rattle.air_core.specs.Waits.{waits_next}
use Rattle.air_core.specs.PlainTags.{plain_kind}
use Rattle.air_core.specs.PlainLinks.{PlainSeen, PlainMoves, Follows, stores_after, plain_view}
use Rattle.nfc_base.specs.TagLinks.{passed}
use Rattle.tag_reader.specs.declared.how.How.{How}
use Rattle.tag_writer.specs.declared.fault.WriteFault.TheVariants as faults
use Rattle.tag_writer.specs.Faults.{ending_of}
use Rattle.tag_writer.specs.Law.{Stopped, WriteLaw}
use Rattle.tag_writer.specs.Writing.{Keeps, HasWritten}
use Rattle.bench_devices.specs.declared.device.Device.{Device}
use Rattle.bench_devices.specs.Device.{air, device_tech, device_id, device_store, device_commands, how_of, size_of, may_be_read}
use Rattle.bench_devices.specs.Writing.{AsksWriteOf, ShowsWrite, KeepsWriteLaw}
use Rattle.bench_devices.specs.private.Linking.{IsPlain, IsPlainHow, IsNew}
use Rattle.bench_devices.specs.Keeping.{ghosts, StoreOf, LeavesDevices}
use Rattle.bench_devices.specs.Phases.{Stands, WriteEnd, FailsWrite, Writes, WritesSome, WritesAt, CutAtWrite}
use Rattle.air_core.proofs.DueWaits.{due_all}
use Rattle.bench_devices.proofs.finding.SelectingAir.{events_are}
use Rattle.bench_devices.proofs.kinds.EveryFrame.{going_leaves}
use Rattle.bench_devices.proofs.kinds.ImagesJoin.{images_at, same_going}
use Rattle.bench_devices.proofs.reads.ReadingTags.{begun, seen, shows_store, stands_one}
use Rattle.bench_devices.proofs.selected.Alone.{first_there, sound_there, beside_there, named_there}
use Rattle.bench_devices.proofs.selected.LinkEnds.{LinkEnds}
use Rattle.bench_devices.proofs.selected.NewLinks.{new_is, plain_one, from_new}
use Rattle.bench_devices.proofs.selected.PlainEnds.{AsksPlain, AsksPlainSome, as_told, as_cut, plain_ends, none_before, asked_told}
use Rattle.bench_devices.proofs.writes.WriteTold.{IsWritten, write_left, write_does, write_does_some, write_law}
use Rattle.bench_devices.proofs.writes.WriteLists.{some_write, may_all, front_all}

-- The link as it is made, to the tag that stands there.
module _ (a : Air Device) (place : ℕ) (d : Device) (s : Stands (moment a) place d) (plain : IsPlain d) (message : List ℕ) (q : PlainSeen Device) (m : PlainMoves ghosts (begun a place) q) where
  abbrev from : LinkView
  from = plain_view ghosts (begun a place)

  abbrev to : LinkView
  to = plain_view ghosts q

  abbrev HasWrittenOf : Type 0
  HasWrittenOf = HasWritten (how_of d) (size_of d) message from to

  shows_step : from.step ≡ device_commands d
  shows_step = seen a place d s device_commands _

  shows_state : from.state ≡ plain_state (device_store d)
  shows_state = ap plain_state (shows_store a place d s)

  all_write : (xs : List Signal) × AsksWriteOf message d xs
  all_write = some_write message d plain.1 s.sound

  left : HasWrittenOf → (rest : List Signal) × AsksWriteOf message d (m.asked.commands ++ rest)
  left h = write_left message d all_write from to shows_step shows_state m.asked.commands (none_before a place q m) refl (asked_told a place q m) h

  -- each command that was asked is one that the tag may be asked
  abbrev MayAskIt : Signal → Type 0
  MayAskIt f = MayAsk (plain_kind (device_tech d)) (device_id d) f

  may_asked : HasWrittenOf → AllByRecursion MayAskIt m.asked.commands
  may_asked h = let rest = left h in front_all MayAskIt m.asked.commands rest.0 (may_all message d plain (m.asked.commands ++ rest.0) rest.1)

  leaves : HasWrittenOf → LeavesDevices (StoreOf (device_id d)) (world a) m.asked.going.events (world q.air)
  leaves h =
      going_leaves (device_id d) (device_tech d) (waits_next m.asked.commands) (moment a) (moment q.air) m.asked.notes (named_there a place d s) (sound_there a place d s) (beside_there a place d s)
      (λ ks f due. due_all MayAskIt m.asked.commands (may_asked h) ks f due) m.asked.going

  -- what a write comes to, and one that was cut off
  ends : HasWrittenOf → LinkEnds (AsksWriteOf message d) (ShowsWrite message d) FailsWrite from to m.asked.commands
      (AsksPlain (StoreOf (device_id d)) (AsksWriteOf message d) (ShowsWrite message d) FailsWrite (moment a) (moment q.air))
      (AsksPlainSome (StoreOf (device_id d)) (AsksWriteOf message d) (ShowsWrite message d) FailsWrite (moment a) (moment q.air))
  ends h = plain_ends (StoreOf (device_id d)) (AsksWriteOf message d) (ShowsWrite message d) FailsWrite a place (ap (λ (w : World Device). w.lit) s.world) q m (leaves h)

  -- the images of the store are the stores that the tag passed
  law_here : (r : WriteEnd) → Keeps (how_of d) (size_of d) message (ending_of r) from to → KeepsWriteLaw message d (ending_of r) (world a) m.asked.going.events
  law_here r k =
      let same : drop (length a.trace) q.air.trace ≡ m.asked.going.events = events_are air (moment a) (moment q.air) m.asked.going.events m.asked.going.moment in
      let follow : Follows from.state.store (stores_after ghosts place (world a) m.asked.going.events) (passed from.step from.state m.obeyed.commands) =
      subst (λ es. Follows from.state.store (stores_after ghosts place (world a) es) (passed from.step from.state m.obeyed.commands)) same m.obeyed.images in
      let law : WriteLaw (how_of d) (size_of d) (device_store d) message (ending_of r) (device_store d ∷ stores_after ghosts place (world a) m.asked.going.events) =
      write_law message d all_write from to shows_step shows_state m.asked.commands (none_before a place q m) refl (asked_told a place q m) r k m.obeyed.commands m.obeyed.leads
      (stores_after ghosts place (world a) m.asked.going.events) follow in
      subst (WriteLaw (how_of d) (size_of d) (device_store d) message (ending_of r))
      (ap (λ st. st ∷ stores_after ghosts place (world a) m.asked.going.events) (sym (shows_store a place d s))
      ∙ sym (images_at (device_id d) place (world a) m.asked.going.events (first_there a place d s))) law

  pub writes : (r : WriteEnd) → (r ≡ Err faults.Memory → ⊥) → IsWritten (how_of d) (size_of d) message from to r → Writes (moment a) (moment q.air) d message r
  writes r fed t =
      let does = write_does message d all_write from to shows_step shows_state m.asked.commands (none_before a place q m) refl (asked_told a place q m) (ends t.order) r fed t in
      let told = as_told (StoreOf (device_id d)) (AsksWriteOf message d) (ShowsWrite message d) FailsWrite (moment a) (moment q.air) d r plain does in
      record { told = told; law = subst (KeepsWriteLaw message d (ending_of r) (world a)) (same_going (moment a) (moment q.air) m.asked.going told.asked.going) (law_here r t.keeps) }

  pub writes_some : (r : WriteEnd) → r ≡ Err faults.Memory → IsWritten (how_of d) (size_of d) message from to r → WritesSome (moment a) (moment q.air) d message
  writes_some r starved t =
      let k : Keeps (how_of d) (size_of d) message Stopped from to = subst (λ x. Keeps (how_of d) (size_of d) message (ending_of x) from to) starved t.keeps in
      let does = write_does_some message d all_write from to shows_step shows_state m.asked.commands (none_before a place q m) refl (asked_told a place q m) (ends t.order) r starved t in
      let told = as_cut (StoreOf (device_id d)) (AsksWriteOf message d) (ShowsWrite message d) FailsWrite (moment a) (moment q.air) d plain does in
      record { told = told; law = subst (KeepsWriteLaw message d Stopped (world a)) (same_going (moment a) (moment q.air) m.asked.going told.asked.going) (law_here (Err faults.Memory) k) }

module _ (p : PlainSeen Device) (is : IsNew p) (how : How) (one : (e : Device) × Stands (moment p.air) p.place e × (how ≡ how_of e) × IsPlainHow how × (may_be_read e ≡ true)) (message : List ℕ)
    (q : PlainSeen Device)
    (moves : PlainMoves ghosts p q) where
  abbrev IsTold : WriteEnd → How → PlainSeen Device → Type 0
  IsTold r h x = IsWritten h (size_of one.0) message (plain_view ghosts x) (plain_view ghosts q) r

  -- what was told on the link that is new
  here : (r : WriteEnd) → IsTold r how p → IsTold r (how_of one.0) (begun p.air p.place)
  here r t = subst (IsTold r (how_of one.0)) (sym (new_is p is)) (subst (λ h. IsTold r h p) one.2 t)

  -- whatever the writing came to
  pub ends_written : (r : WriteEnd) → IsTold r how p → WritesAt (moment p.air) (moment q.air) p.place message r
  ends_written r t fed d stands =
      subst (λ e. Writes (moment p.air) (moment q.air) e message r) (sym (stands_one p.air p.place one.0 one.1 d stands))
      (writes p.air p.place one.0 one.1 (plain_one p is how one) message q (from_new p is q moves) r fed (here r t))

  pub ends_cut : (r : WriteEnd) → IsTold r how p → CutAtWrite (moment p.air) (moment q.air) p.place message r
  ends_cut r t starved d stands =
      subst (λ e. WritesSome (moment p.air) (moment q.air) e message) (sym (stands_one p.air p.place one.0 one.1 d stands))
      (writes_some p.air p.place one.0 one.1 (plain_one p is how one) message q (from_new p is q moves) r starved (here r t))
