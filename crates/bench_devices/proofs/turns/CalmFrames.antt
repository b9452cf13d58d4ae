-- What a reader asks is no ATR_REQ: calls, inventories, blocks of ISO-DEP, and the commands of reads and writes.
use Rattle.std.proofs.Common.{◌≡◌, ℕ, ◌+◌, ◌*◌, ◌%◌, ◌≤◌, ◌==◌, ◌&&◌, nat_lt, List, [], ◌∷◌, ◌++◌, map, length, take, drop, slice_index, Bool, true, false, if◌then◌else◌, Some, None, refl, sym, ap}
use Rattle.std.proofs.Common.{subst, arith}
use Rattle.std.specs.List.{AllByRecursion}
use Rattle.nfc_base.specs.declared.frame.Tech.TheVariants.{V, F}
use Rattle.nfc_base.specs.Signal.{Signal, whole_a, is_nfc_a}
use Rattle.nfc_base.specs.TagLinks.{plain_state}
use Rattle.t5t_tag.specs.Spelling as t5
use Rattle.t5t_tag.specs.declared.command.T5Command.TheVariants as t5_command
use Rattle.t4t_tag.specs.Spelling.{command_bytes, high_first}
use Rattle.t4t_tag.specs.declared.command.T4Command.{T4Command}
use Rattle.t4t_tag.specs.declared.command.T4Command.TheVariants.{SelectApplication, SelectFile, ReadBinary, UpdateBinary}
use Rattle.dep_pdu.specs.Numbers.{start_byte}
use Rattle.dep_pdu.specs.Reading.{spelled_frame}
use Rattle.dep_link.specs.Frames.{names_atr, is_atr_req}
use Rattle.isodep_link.specs.declared.block.Block.{Block}
use Rattle.isodep_link.specs.declared.block.Block.TheVariants.{Info, Ack, Nak, Deselect, Extend}
use Rattle.isodep_link.specs.Blocks.{block_frame, block_bytes}
use Rattle.tlv_area.specs.declared.step.Step.{Step}
use Rattle.tlv_area.specs.Writing.{steps_of}
use Rattle.tag_reader.specs.declared.how.How.{How}
use Rattle.tag_reader.specs.declared.how.How.TheVariants as hows
use Rattle.tag_reader.specs.Asked.{Aim, IsAskedFor}
use Rattle.tag_reader.specs.Blocks.{ask_frame, ask_at, progress_at}
use Rattle.tag_reader.specs.declared.ask.Ask.{Ask}
use Rattle.tag_reader.specs.declared.ask.Ask.TheVariants.{One, Many}
use Rattle.tag_reader.specs.Files.{file_command, file_frame, file_in, message_length}
use Rattle.tag_reader.specs.Kinds.{command}
use Rattle.tag_reader.specs.Survey.{surveyed}
use Rattle.tag_writer.specs.Puts.{Put, commands_of, block_command, update_put, piece_of, most_brought}
use Rattle.tag_writer.specs.WriteAsked.{Parts, all_puts, AreFilePuts, ArePuts, up_to_refused}
use Rattle.bench_devices.specs.declared.device.Device.{Device}
use Rattle.bench_devices.specs.Device.{device_store, device_commands, how_of, size_of}
use Rattle.bench_devices.specs.laws.PeerUpper.{refused}
use Rattle.bench_devices.specs.Reading.{AsksOf}
use Rattle.bench_devices.specs.Writing.{AsksWriteOf}
use Rattle.bench_devices.proofs.writes.WriteLists.{both_all, puts_both, first_all, up_to_all, area_all, writes_all, always}

abbrev pub IsOther : Signal → Type 0
IsOther f = is_atr_req f ≡ false

-- a frame of NFC-V, one of NFC-F, and one that begins with another byte
pub other_tech : (f : Signal) → f.tech ≡ V → IsOther f
other_tech f h = ap (λ t. names_atr (if is_nfc_a t && (f.tail == 0) then spelled_frame f.bytes else None)) h

pub other_f : (f : Signal) → f.tech ≡ F → IsOther f
other_f f h = ap (λ t. names_atr (if is_nfc_a t && (f.tail == 0) then spelled_frame f.bytes else None)) h

pub other_head : (bytes : List ℕ) → (slice_index bytes 0 == start_byte) ≡ false → IsOther (whole_a bytes)
other_head bytes h = ap names_atr (refused bytes h)

-- blocks
numbered : (sort n : ℕ) → sort ≤ 0xB2 → (sort + n % 2 == start_byte) ≡ false
numbered sort n h = grind arith

info_other : (more : Bool) (n : ℕ) → ((if more then 0x12 else 0x02) + n % 2 == start_byte) ≡ false
info_other true n = numbered 0x12 n (omega arith)
info_other false n = numbered 0x02 n (omega arith)

pub block_other : (b : Block) → IsOther (block_frame b)
block_other (Info more n content) = other_head (block_bytes (Info more n content)) (info_other more n)
block_other (Ack n) = other_head (block_bytes (Ack n)) (numbered 0xA2 n (omega arith))
block_other (Nak n) = other_head (block_bytes (Nak n)) (numbered 0xB2 n (omega arith))
block_other Deselect = other_head (block_bytes Deselect) refl
block_other (Extend times) = other_head (block_bytes (Extend times)) refl

-- commands of a Type 4 tag
file_other : (c : T4Command) → IsOther (file_frame c)
file_other SelectApplication = other_head (command_bytes SelectApplication) refl
file_other (SelectFile id) = other_head (command_bytes (SelectFile id)) refl
file_other (ReadBinary offset count) = other_head (command_bytes (ReadBinary offset count)) refl
file_other (UpdateBinary offset content) = other_head (command_bytes (UpdateBinary offset content)) refl

-- of a Type 5 tag
ask_other : (id : List ℕ) (a : Ask) → IsOther (ask_frame id a)
ask_other id (One block) = by_number (nat_lt block 256)
  where
    by_number : (v : Bool) → IsOther (t5.command_frame (if v then t5_command.Read (Some id) block else t5_command.ReadWide (Some id) block))
    by_number true = refl
    by_number false = refl
ask_other id (Many block more) = refl

-- the commands of reads
pub command_other : (how : How) (size : ℕ) (store : List ℕ) (k : ℕ) → IsOther (command how size store k)
command_other hows.T2 size store k = refl
command_other hows.T4 size store k = file_other (file_command store k)
command_other (hows.T5 id) size store k = ask_other id (ask_at size store (progress_at size store k))

asked_other : (aim : Aim) (how : How) (size : ℕ) (store : List ℕ) (xs : List Signal) → IsAskedFor aim how size store xs → AllByRecursion IsOther xs
asked_other aim how size store xs is = subst (AllByRecursion IsOther) (sym is.list) (first_all IsOther how size store (λ k. command_other how size store k) is.count)

-- and of writes
block_put_other : (how : How) (s : Step) → IsOther (block_command how s)
block_put_other hows.T2 s = refl
block_put_other hows.T4 s = refl
block_put_other (hows.T5 id) s = by_number (nat_lt s.block 256)
  where
    by_number : (v : Bool)
        → IsOther (if v then t5.command_frame (t5_command.Write (Some id) s.block s.content) else t5.command_frame (t5_command.WriteWide (Some id) s.block s.content))
    by_number true = refl
    by_number false = refl

either_puts : (v : Bool) (ps qs : List Put) → AllByRecursion IsOther (commands_of ps) → AllByRecursion IsOther (commands_of qs) → AllByRecursion IsOther (commands_of (if v then ps else qs))
either_puts true ps qs p q = p
either_puts false ps qs p q = q

pieces_other : (store message : List ℕ) (ks : List ℕ) → AllByRecursion IsOther (commands_of (map (piece_of (update_put store) message (most_brought store)) ks))
pieces_other store message [] = tt
pieces_other store message (k ∷ ks) = (
  file_other (UpdateBinary (2 + most_brought store * k) (record { items = take (most_brought store) (drop (most_brought store * k) message) })),
  pieces_other store message ks,
)

file_puts_other : (store message : List ℕ) (p : Parts) → AreFilePuts store message p → AllByRecursion IsOther (commands_of (all_puts p))
file_puts_other store message p are =
    let P : List Put → Type 0 = λ ps. AllByRecursion IsOther (commands_of ps) in
    puts_both IsOther hows.T4 0 (p.close ++ p.fill) p.last
    (puts_both IsOther hows.T4 0 p.close p.fill (subst P (sym are.close) (either_puts (message_length (file_in store) == 0) [] _ tt (file_other (UpdateBinary 0 (record { items = 0 ∷ 0 ∷ [] })), tt)))
    (subst P (sym are.fill) (pieces_other store message _)))
    (subst P (sym are.last) (either_puts (length message == 0) [] _ tt (file_other (UpdateBinary 0 (record { items = high_first (length message) })), tt)))

puts_other : (how : How) (size : ℕ) (store message : List ℕ) (p : Parts) → ArePuts how size store message p → AllByRecursion IsOther (commands_of (all_puts p))
puts_other hows.T2 size store message p are =
    area_all IsOther hows.T2 size are.0 store message p are.2 (always (λ s. IsOther (block_command hows.T2 s)) (block_put_other hows.T2) (steps_of are.2.plan))
puts_other hows.T4 size store message p are = file_puts_other store message p are
puts_other (hows.T5 id) size store message p are =
    area_all IsOther (hows.T5 id) size are.0 store message p are.2 (always (λ s. IsOther (block_command (hows.T5 id) s)) (block_put_other (hows.T5 id)) (steps_of are.2.plan))

pub read_other : (d : Device) (xs : List Signal) → AsksOf d xs → AllByRecursion IsOther xs
read_other d xs is = asked_other _ (how_of d) (size_of d) (device_store d) xs is

pub write_other : (message : List ℕ) (d : Device) (xs : List Signal) → AsksWriteOf message d xs → AllByRecursion IsOther xs
write_other message d xs is =
    let behind : List Signal = up_to_refused (how_of d) (device_commands d) (surveyed (how_of d) (plain_state (device_store d))) (commands_of (all_puts is.parts)) in
    subst (AllByRecursion IsOther) (sym is.list)
    (both_all IsOther is.read behind (asked_other _ (how_of d) (size_of d) (device_store d) is.read is.all)
    (up_to_all IsOther (how_of d) (device_commands d) (surveyed (how_of d) (plain_state (device_store d))) (commands_of (all_puts is.parts))
    (writes_all IsOther (how_of d) (size_of d) (device_store d) message is.parts is.writes (λ place takes are. puts_other (how_of d) (size_of d) (device_store d) message is.parts are))))
