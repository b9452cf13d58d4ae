-- What a write asks of a device, the device heeds: a survey as a read is, and commands of blocks that have their size and of bytes
-- that one update brings.
use Rattle.std.proofs.Common.{◌≡◌, ℕ, ◌-◌, ◌*◌, ◌/◌, ◌%◌, ◌<◌, ◌≤◌, ◌==◌, nat_lt, Bool, true, false, if◌then◌else◌, List, [], ◌∷◌, ◌++◌, length, take, drop, take-append-drop, Some, refl, sym, ap}
use Rattle.std.proofs.Common.{subst, arith}
use Rattle.std.specs.Int.{div_ceil}
use Rattle.std.specs.List.{AllByRecursion}
use Rattle.nfc_base.specs.Signal.{Signal}
use Rattle.nfc_base.specs.Words.{word}
use Rattle.nfc_base.specs.TagLinks.{plain_state}
use Rattle.t2t_tag.specs.declared.command.T2Command.TheVariants as t2_command
use Rattle.t2t_tag.specs.Spelling as t2
use Rattle.t2t_tag.specs.Spelling.{spelled_command}
use Rattle.t4t_tag.specs.declared.command.T4Command.TheVariants.{UpdateBinary}
use Rattle.t4t_tag.specs.Spelling.{class_byte, update_code, high_first}
use Rattle.t4t_tag.specs.Store.{IsT4State, store_of}
use Rattle.t5t_tag.specs.declared.command.T5Command.TheVariants as t5_command
use Rattle.t5t_tag.specs.Spelling as t5
use Rattle.tlv_area.specs.declared.container.FileMap.{FileMap}
use Rattle.tlv_area.specs.declared.step.Step.{Step}
use Rattle.tlv_area.specs.Writing.{steps_of}
use Rattle.isodep_link.proofs.Heeding.{AreBytes, no_bytes}
use Rattle.tag_reader.specs.Asked.{ToWrite}
use Rattle.tag_reader.specs.declared.how.How.{How}
use Rattle.tag_reader.specs.declared.how.How.TheVariants as hows
use Rattle.tag_reader.specs.Files.{file_frame, file_in, message_length, container_in, IsFileStore}
use Rattle.tag_reader.specs.Survey.{surveyed}
use Rattle.tag_reader.proofs.Cards.{store_is}
use Rattle.tag_reader.proofs.Files.{Named, named}
use Rattle.tag_writer.specs.Place.{Place, Takes}
use Rattle.tag_writer.specs.declared.phase.Phase.TheVariants.{Prepared, Emptied, Filled}
use Rattle.tag_writer.specs.Puts.{Put, commands_of, block_command, update_put, piece_of, most_brought, file_puts}
use Rattle.tag_writer.specs.Puttings.{IsBlockPut, IsUpdatePut}
use Rattle.tag_writer.specs.Phases.{file_parts}
use Rattle.tag_writer.specs.WriteAsked.{Parts, all_puts, AreFilePuts, ArePuts, up_to_refused}
use Rattle.tag_writer.proofs.Addresses.{all_run}
use Rattle.tag_writer.proofs.DoablePuts.{doable_puts, room_for, file_parts_are}
use Rattle.tag_writer.proofs.FileJobs.{file_serves}
use Rattle.bench_devices.specs.declared.device.Device.{Device}
use Rattle.bench_devices.specs.declared.device.Device.TheVariants.{T2, T4, Peer, T5, T3}
use Rattle.bench_devices.specs.Device.{device_store, device_commands, how_of, size_of, may_be_read}
use Rattle.bench_devices.specs.Keeping.{kept, container_of, IsSound}
use Rattle.bench_devices.specs.Writing.{AsksWriteOf}
use Rattle.bench_devices.proofs.turns.CardBytes.{cons_bytes, front_bytes, behind_bytes}
use Rattle.bench_devices.proofs.selected.PlainHeard.{IsHeeded}
use Rattle.bench_devices.proofs.reads.ReadHeeded.{small_bytes, two_bytes, asked_heeded}
use Rattle.bench_devices.proofs.kinds.TagFour.{sound_tag}
use Rattle.bench_devices.proofs.writes.WriteLists.{both_all, up_to_all, area_all, writes_all, always}

-- A Type 2 tag heeds the write of a block of four bytes.
block_heeded : (block : ℕ) (content : List ℕ) → length content ≡ 4 → IsHeeded hows.T2 (t2.command_frame (t2_command.Write block content))
block_heeded block content four = (refl, t2_command.Write block content, spelled content four)
  where
    spelled : (xs : List ℕ) → length xs ≡ 4 → spelled_command (t2.command_frame (t2_command.Write block xs)) ≡ Some (t2_command.Write block xs)
    spelled [] e = absurd (omega (arith, e))
    spelled (a ∷ []) e = absurd (omega (arith, e))
    spelled (a ∷ b ∷ []) e = absurd (omega (arith, e))
    spelled (a ∷ b ∷ c ∷ []) e = absurd (omega (arith, e))
    spelled (a ∷ b ∷ c ∷ d ∷ []) e = refl
    spelled (a ∷ b ∷ c ∷ d ∷ x ∷ xs) e = absurd (omega (arith, e))

-- So it heeds writes that a tag of its store can do.
two_heeded : (size least : ℕ) (store : List ℕ) (ps : List Put) → AllByRecursion (IsBlockPut hows.T2 size least store) ps → AllByRecursion (IsHeeded hows.T2) (commands_of ps)
two_heeded size least store [] all = tt
two_heeded size least store (p ∷ ps) all =
    let is = all.0 in (
      subst (IsHeeded hows.T2) (sym (ap (λ (q : Put). q.command) is.put)) (block_heeded is.step.block is.step.content.items is.content),
      two_heeded size least store ps all.1,
    )

-- A Type 5 tag heeds the write of any block.
five_heeded : (id : List ℕ) (s : Step) → IsHeeded (hows.T5 id) (block_command (hows.T5 id) s)
five_heeded id s = by_number (nat_lt s.block 256)
  where
    by_number : (v : Bool) → IsHeeded (hows.T5 id) (if v then t5.command_frame (t5_command.Write (Some id) s.block s.content) else t5.command_frame (t5_command.WriteWide (Some id) s.block s.content))
    by_number true = (_, _, refl, refl)
    by_number false = (_, _, refl, refl)

-- A Type 4 tag heeds an update of bytes.
update_heeded : (offset : ℕ) (content : List ℕ) → offset < 65536 → length content ≤ 255 → AreBytes content → IsHeeded hows.T4 (file_frame (UpdateBinary offset (record { items = content })))
update_heeded offset content low few bytes =
    let count : length content < 256 = omega (arith, few) in (
      omega (arith, few),
      small_bytes (class_byte ∷ update_code ∷ []) (offset / 256 ∷ offset % 256 ∷ length content ∷ content) refl
          (two_bytes offset (length content ∷ content) low (cons_bytes (length content) content count bytes)),
    )

cut_bytes : (n : ℕ) (xs : List ℕ) → AreBytes xs → AreBytes (take n xs) × AreBytes (drop n xs)
cut_bytes n xs q = (let both : AreBytes (take n xs ++ drop n xs) = subst AreBytes (sym (take-append-drop n xs)) q in
    (front_bytes (take n xs) (drop n xs) both, behind_bytes (take n xs) (drop n xs) both))

module _ (size : ℕ) (store message : List ℕ) (is : IsFileStore store) (place : Place) (takes : Takes hows.T4 size store message place) where
  abbrev map' : FileMap
  map' = takes.holds.map'

  facts : Named (container_in store) map'
  facts = named (container_in store) map' takes.holds.names

  sized : map'.size ≡ word (container_in store) 11
  sized = ap (λ (m : FileMap). m.size) facts.file

  fits : length message ≤ map'.size - 2
  fits = (let at = ap (λ (x : Place). x.room) takes.holds.place' in let all = takes.fits in omega (arith, all, at, sized))

  abbrev OfBytes : Put → Type 0
  OfBytes p = AreBytes p.bytes

  contents : AreBytes message → AllByRecursion OfBytes (all_puts (file_parts store message))
  contents bytes =
      both_all OfBytes (file_puts Prepared store message ++ file_puts Emptied store message) (file_puts Filled store message)
      (both_all OfBytes (file_puts Prepared store message) (file_puts Emptied store message) (closes (message_length (file_in store) == 0))
      (all_run OfBytes (piece_of (update_put store) message (most_brought store)) 0 (div_ceil (length message) (most_brought store))
      (λ k low high. (cut_bytes (most_brought store) _ (cut_bytes (most_brought store * k) message bytes).1).0)))
      (lasts (length message == 0))
    where
      closes : (v : Bool) → AllByRecursion OfBytes (if v then [] else update_put store 0 (0 ∷ 0 ∷ []) ∷ [])
      closes true = tt
      closes false = (small_bytes (0 ∷ 0 ∷ []) [] refl no_bytes, tt)

      lasts : (v : Bool) → AllByRecursion OfBytes (if v then [] else update_put store 0 (high_first (length message)) ∷ [])
      lasts true = tt
      lasts false = (let high = facts.high in two_bytes (length message) [] (omega (arith, fits, sized, high)) no_bytes, tt)

  each_heeded : (ps : List Put) → AllByRecursion (IsUpdatePut store) ps → AllByRecursion OfBytes ps → AllByRecursion (IsHeeded hows.T4) (commands_of ps)
  each_heeded [] all bytes = tt
  each_heeded (p ∷ ps) all bytes =
      let put = all.0 in
      let most = put.most in
      let low = put.low in (
        subst (IsHeeded hows.T4) (sym (ap (λ (q : Put). q.command) put.put)) (update_heeded put.offset p.bytes (omega (arith, low)) (omega (arith, most)) bytes.0),
        each_heeded ps all.1 bytes.1,
      )

  four_heeded : AreBytes message → (p : Parts) → AreFilePuts store message p → AllByRecursion (IsHeeded hows.T4) (commands_of (all_puts p))
  four_heeded bytes p are =
      subst (λ ps. AllByRecursion (IsHeeded hows.T4) (commands_of ps)) (sym (file_parts_are store message p are))
      (each_heeded (all_puts (file_parts store message)) (file_serves size store message (room_for size store message is place takes)).puts (contents bytes))

-- So each tag heeds the writes of a message of bytes that it takes.
puts_heeded : (message : List ℕ) (d : Device) → may_be_read d ≡ true → IsSound (kept d) → AreBytes message → (p : Parts) (place : Place) → Takes (how_of d) (size_of d) (device_store d) message place
    → ArePuts (how_of d) (size_of d) (device_store d) message p → AllByRecursion (IsHeeded (how_of d)) (commands_of (all_puts p))
puts_heeded message (T2 d) tagged sound bytes p place takes are =
    two_heeded (size_of (T2 d)) 4 d.upper.store (all_puts p) (doable_puts hows.T2 (size_of (T2 d)) d.upper.store message place p (refl, sound.2) takes are)
puts_heeded message (T4 d) tagged sound bytes p place takes are =
    let tag : IsT4State d.upper.tag = sound_tag d.upper.tag sound.1 sound.2 sound.3 in
    four_heeded (size_of (T4 d)) (store_of d.upper.tag) message (store_is d.upper.tag tag) place takes bytes p are
puts_heeded message (Peer d) tagged sound bytes p place takes are = absurd cc
puts_heeded message (T3 q) tagged sound bytes p place takes are = absurd cc
puts_heeded message (T5 q) tagged sound bytes p place takes are =
    let how : How = hows.T5 q.tag.id in
    area_all (IsHeeded how) how q.tag.size are.0 q.tag.store message p are.2 (always (λ s. IsHeeded how (block_command how s)) (five_heeded q.tag.id) (steps_of are.2.plan))

-- And so all that a write asks, of a tag whose container has bytes.
pub write_heeded : (message : List ℕ) (d : Device) (asked : List Signal) → may_be_read d ≡ true → IsSound (kept d) → AreBytes (container_of d) → AreBytes message → AsksWriteOf message d asked
    → AllByRecursion (IsHeeded (how_of d)) asked
write_heeded message d asked tagged sound container bytes is =
    let P : Signal → Type 0 = IsHeeded (how_of d) in
    let store : List ℕ = device_store d in
    let behind : List Signal = up_to_refused (how_of d) (device_commands d) (surveyed (how_of d) (plain_state store)) (commands_of (all_puts is.parts)) in
    subst (AllByRecursion P) (sym is.list)
    (both_all P is.read behind (asked_heeded ToWrite d is.read sound container is.all)
    (up_to_all P (how_of d) (device_commands d) (surveyed (how_of d) (plain_state store)) (commands_of (all_puts is.parts))
    (writes_all P (how_of d) (size_of d) store message is.parts is.writes (λ place takes are. puts_heeded message d tagged sound bytes is.parts place takes are))))
