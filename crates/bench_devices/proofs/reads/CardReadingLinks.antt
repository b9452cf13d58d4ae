-- What a read of a Type 4 tag comes to over its link, by what the link did.
use Rattle.std.proofs.Common.{◌≡◌, List, [], sym, ◌∙◌, ap, subst}
use Rattle.std.specs.Prelude.{map, Result, Err}
use Rattle.nfc_base.specs.Signal.{Signal}
use Rattle.nfc_base.specs.TagLinks.{LinkView}
use Rattle.air_core.specs.Turn.{moment}
use Rattle.air_core.specs.PlainLinks.{at_place}
use Rattle.isodep_link.specs.Asking.{asks, stand, iso_next}
use Rattle.isodep_link.specs.IsoLinks.{IsoSeen, bytes_of, iso_view, IsoMoves}
use Rattle.tag_reader.specs.declared.fault.ReadFault.{ReadFault}
use Rattle.tag_reader.specs.declared.fault.ReadFault.TheVariants as faults
use Rattle.tag_reader.specs.declared.found.Found.{Found}
use Rattle.tag_reader.specs.declared.how.How.TheVariants as hows
use Rattle.tag_reader.specs.Asked.{IsAsked}
use Rattle.tag_reader.proofs.FileAsked.{file_asked}
use Rattle.bench_devices.specs.declared.device.Device.{Device}
use Rattle.bench_devices.specs.Device.{device_store, device_card, device_tag, size_of}
use Rattle.bench_devices.specs.Reading.{AsksOf, ShowsOf}
use Rattle.bench_devices.specs.private.Linking.{Linked, ReadsOn, IsNewLink, ReadsSomeOn}
use Rattle.bench_devices.specs.Keeping.{kept, ghosts, NoStore}
use Rattle.bench_devices.proofs.selected.LinkEnds.{LinkEnds}
use Rattle.bench_devices.proofs.reads.ReadTold.{IsRead, read_does, read_does_some}
use Rattle.bench_devices.proofs.selected.CardLinks.{held_there, due_whole, stand_whole, asks_whole, from_store, store_here, none_before, asked_told}
use Rattle.bench_devices.proofs.selected.CardEnds.{card_ends}
use Rattle.bench_devices.specs.Phases.{FailsRead}
use Rattle.bench_devices.proofs.selected.CardKept.{exchange_keeps}

module _ (p : IsoSeen Device) (is : IsNewLink p) (d : Device) (l : Linked d p.air p.place p.reader) (q : IsoSeen Device) (m : IsoMoves ghosts device_card device_tag p q) where
  abbrev from : LinkView
  from = iso_view ghosts device_card device_tag p

  abbrev to : LinkView
  to = iso_view ghosts device_card device_tag q

  abbrev tag_at : Device
  tag_at = l.activated.has.listener

  -- no device changed but in its state
  same_devices : to.state.store ≡ from.state.store → map kept q.air.listeners ≡ map kept p.air.listeners
  same_devices stays =
      let alone = l.activated.has.alone in
      let holds : at_place device_store [] q.air.listeners p.place ≡ device_store tag_at =
      ap (at_place device_store [] q.air.listeners) (sym m.asks.same.0) ∙ held_there q.air.listeners q.place ∙ stays ∙ from_store p is d l in
      exchange_keeps (iso_next p.reader (bytes_of m.asks.asked)) (moment p.air) (moment q.air) m.asks.notes p.place alone.before tag_at alone.behind m.asks.going
      (λ ks f due. due_whole (stand (asks p.reader (bytes_of m.asks.asked)) ks) f (stand_whole (asks p.reader (bytes_of m.asks.asked)) ks (asks_whole p.reader (bytes_of m.asks.asked))) due)
      alone.split alone.stands alone.first alone.later holds

  -- what is asked of it
  some_read : (xs : List Signal) × AsksOf d xs
  some_read =
      let whole = file_asked (size_of d) (device_store d) in
      (whole.0, subst (λ h. IsAsked h (size_of d) (device_store d) whole.0) (sym l.card) whole.1)

  ends : to.state.store ≡ from.state.store → LinkEnds (AsksOf d) (ShowsOf d) FailsRead from to m.asks.asked (ReadsOn (moment p.air) (moment q.air) d p.reader)
      (ReadsSomeOn (moment p.air) (moment q.air) d p.reader)
  ends stays = card_ends NoStore (AsksOf d) (ShowsOf d) FailsRead p is l.lit q m (same_devices stays)

  -- whatever the reading came to
  pub ends_read : (r : Result Found ReadFault) → (r ≡ Err faults.Memory → ⊥) → to.state.store ≡ from.state.store → IsRead hows.T4 (size_of d) from to r
      → ReadsOn (moment p.air) (moment q.air) d p.reader r
  ends_read r fed stays t =
      read_does d some_read from to (store_here p is d l) m.asks.asked (none_before p is d l) is.over (asked_told p is d l q m) (ends stays) r fed
      (subst (λ h. IsRead h (size_of d) from to r) (sym l.card) t)

  -- Reading was cut off.
  pub cut_read : (r : Result Found ReadFault) → r ≡ Err faults.Memory → to.state.store ≡ from.state.store → IsRead hows.T4 (size_of d) from to r → ReadsSomeOn (moment p.air) (moment q.air) d p.reader
  cut_read r starved stays t =
      read_does_some d some_read from to (store_here p is d l) m.asks.asked (none_before p is d l) is.over (asked_told p is d l q m) (ends stays) r starved
      (subst (λ h. IsRead h (size_of d) from to r) (sym l.card) t)
