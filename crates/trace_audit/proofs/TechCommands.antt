-- The commands of reads and writes are of their tag's technology: NFC-V for a Type 5 tag, else NFC-A.
use Rattle.std.proofs.Common.{◌≡◌, ℕ, ◌==◌, nat_lt, List, [], ◌∷◌, ◌++◌, map, length, Bool, true, false, if◌then◌else◌, Option, Some, None, refl, sym, subst}
use Rattle.std.specs.List.{AllByRecursion}
use Rattle.nfc_base.specs.Signal.{Signal}
use Rattle.nfc_base.specs.TagLinks.{plain_state}
use Rattle.nfc_base.specs.declared.frame.Tech.{Tech}
use Rattle.nfc_base.specs.declared.frame.Tech.TheVariants as techs
use Rattle.t5t_tag.specs.Spelling as t5
use Rattle.t5t_tag.specs.declared.command.T5Command.TheVariants as t5_command
use Rattle.tlv_area.specs.declared.step.Step.{Step}
use Rattle.tlv_area.specs.Writing.{steps_of}
use Rattle.tag_reader.specs.declared.ask.Ask.{Ask}
use Rattle.tag_reader.specs.declared.ask.Ask.TheVariants.{One, Many}
use Rattle.tag_reader.specs.declared.how.How.{How}
use Rattle.tag_reader.specs.declared.how.How.TheVariants as hows
use Rattle.tag_reader.specs.Asked.{Aim, IsAskedFor}
use Rattle.tag_reader.specs.Blocks.{ask_at, ask_frame, progress_at}
use Rattle.tag_reader.specs.Files.{file_in, message_length}
use Rattle.tag_reader.specs.Kinds.{command}
use Rattle.tag_reader.specs.Survey.{surveyed}
use Rattle.tag_writer.specs.Puts.{Put, block_command, commands_of, update_put, piece_of, most_brought}
use Rattle.tag_writer.specs.WriteAsked.{Parts, all_puts, AreFilePuts, ArePuts, up_to_refused}
use Rattle.bench_script.specs.declared.command.DeviceId.{DeviceId}
use Rattle.bench_script.specs.DeviceIds.{tech_for}
use Rattle.bench_devices.specs.declared.device.Device.{Device}
use Rattle.bench_devices.specs.declared.device.Device.TheVariants.{T2, T4, Peer, T5, T3}
use Rattle.bench_devices.specs.Device.{device_commands, device_store, how_of, size_of}
use Rattle.bench_devices.specs.Placed.{IfPlaced}
use Rattle.bench_devices.specs.Reading.{AsksOf}
use Rattle.bench_devices.specs.Writing.{AsksWriteOf}
use Rattle.bench_devices.proofs.writes.WriteLists.{always, area_all, both_all, first_all, puts_both, up_to_all, writes_all}
use Rattle.bench_world.specs.Reading.{ReadAsks}
use Rattle.bench_world.specs.Writing.{WriteAsks}
use Rattle.trace_audit.specs.Technologies.{IsReadAs}
use Rattle.trace_audit.proofs.TechTurns.{IsOf}

abbrev how_tech : How → Tech
how_tech hows.T2 = techs.A
how_tech hows.T4 = techs.A
how_tech (hows.T5 id) = techs.V

-- such as a tag is asked that is read so
abbrev IsFor : How → Signal → Type 0
IsFor how f = IsOf (how_tech how) f

abbrev AreFor : How → List Signal → Type 0
AreFor how xs = AllByRecursion (IsFor how) xs

-- the commands of reads
ask_tech : (id : List ℕ) (a : Ask) → IsOf techs.V (ask_frame id a)
ask_tech id (One block) = by_number (nat_lt block 256)
  where
    by_number : (v : Bool) → IsOf techs.V (t5.command_frame (if v then t5_command.Read (Some id) block else t5_command.ReadWide (Some id) block))
    by_number true = refl
    by_number false = refl
ask_tech id (Many block more) = refl

command_tech : (how : How) (size : ℕ) (store : List ℕ) (k : ℕ) → IsFor how (command how size store k)
command_tech hows.T2 size store k = refl
command_tech hows.T4 size store k = refl
command_tech (hows.T5 id) size store k = ask_tech id (ask_at size store (progress_at size store k))

asked_tech : (aim : Aim) (how : How) (size : ℕ) (store : List ℕ) (xs : List Signal) → IsAskedFor aim how size store xs → AreFor how xs
asked_tech aim how size store xs is = subst (AreFor how) (sym is.list) (first_all (IsFor how) how size store (λ k. command_tech how size store k) is.count)

-- and of writes
block_tech : (how : How) (s : Step) → IsFor how (block_command how s)
block_tech hows.T2 s = refl
block_tech hows.T4 s = refl
block_tech (hows.T5 id) s = by_number (nat_lt s.block 256)
  where
    by_number : (v : Bool)
        → IsOf techs.V (if v then t5.command_frame (t5_command.Write (Some id) s.block s.content) else t5.command_frame (t5_command.WriteWide (Some id) s.block s.content))
    by_number true = refl
    by_number false = refl

abbrev AreFilePieces : List Put → Type 0
AreFilePieces ps = AreFor hows.T4 (commands_of ps)

either_puts : (v : Bool) (ps qs : List Put) → AreFilePieces ps → AreFilePieces qs → AreFilePieces (if v then ps else qs)
either_puts true ps qs p q = p
either_puts false ps qs p q = q

pieces_tech : (store message : List ℕ) (ks : List ℕ) → AreFilePieces (map (piece_of (update_put store) message (most_brought store)) ks)
pieces_tech store message [] = tt
pieces_tech store message (k ∷ ks) = (refl, pieces_tech store message ks)

file_puts_tech : (store message : List ℕ) (p : Parts) → AreFilePuts store message p → AreFilePieces (all_puts p)
file_puts_tech store message p are =
    puts_both (IsFor hows.T4) hows.T4 0 (p.close ++ p.fill) p.last
    (puts_both (IsFor hows.T4) hows.T4 0 p.close p.fill (subst AreFilePieces (sym are.close) (either_puts (message_length (file_in store) == 0) [] _ tt (refl, tt)))
    (subst AreFilePieces (sym are.fill) (pieces_tech store message _)))
    (subst AreFilePieces (sym are.last) (either_puts (length message == 0) [] _ tt (refl, tt)))

puts_tech : (how : How) (size : ℕ) (store message : List ℕ) (p : Parts) → ArePuts how size store message p → AreFor how (commands_of (all_puts p))
puts_tech hows.T2 size store message p are =
    area_all (IsFor hows.T2) hows.T2 size are.0 store message p are.2 (always (λ s. IsFor hows.T2 (block_command hows.T2 s)) (block_tech hows.T2) (steps_of are.2.plan))
puts_tech hows.T4 size store message p are = file_puts_tech store message p are
puts_tech (hows.T5 id) size store message p are =
    area_all (IsFor (hows.T5 id)) (hows.T5 id) size are.0 store message p are.2
    (always (λ s. IsFor (hows.T5 id) (block_command (hows.T5 id) s)) (block_tech (hows.T5 id)) (steps_of are.2.plan))

read_tech : (d : Device) (xs : List Signal) → AsksOf d xs → AreFor (how_of d) xs
read_tech d xs is = asked_tech _ (how_of d) (size_of d) (device_store d) xs is

write_tech : (message : List ℕ) (d : Device) (xs : List Signal) → AsksWriteOf message d xs → AreFor (how_of d) xs
write_tech message d xs is =
    let behind : List Signal = up_to_refused (how_of d) (device_commands d) (surveyed (how_of d) (plain_state (device_store d))) (commands_of (all_puts is.parts)) in
    subst (AreFor (how_of d)) (sym is.list)
    (both_all (IsFor (how_of d)) is.read behind (asked_tech _ (how_of d) (size_of d) (device_store d) is.read is.all)
    (up_to_all (IsFor (how_of d)) (how_of d) (device_commands d) (surveyed (how_of d) (plain_state (device_store d))) (commands_of (all_puts is.parts))
    (writes_all (IsFor (how_of d)) (how_of d) (size_of d) (device_store d) message is.parts is.writes (λ place takes are. puts_tech (how_of d) (size_of d) (device_store d) message is.parts are))))

-- So is all that is asked of a tag which is of the technology that its identifier tells.
abbrev pub AreTold : DeviceId → List Signal → Type 0
AreTold id xs = AllByRecursion (IsOf (tech_for id)) xs

none_told : (id : DeviceId) (xs : List Signal) → xs ≡ [] → AreTold id xs
none_told id xs none = subst (AreTold id) (sym none) tt

told_by : (id : DeviceId) (t : Tech) (xs : List Signal) → t ≡ tech_for id → AllByRecursion (IsOf t) xs → AreTold id xs
told_by id t xs same all = subst (λ u. AllByRecursion (IsOf u) xs) same all

reads_told : (id : DeviceId) (d : Device) (xs : List Signal) → IsReadAs id d → ReadAsks d xs → AreTold id xs
reads_told id (T2 d) xs named is = told_by id techs.A xs named (read_tech (T2 d) xs is)
reads_told id (T4 d) xs named is = told_by id techs.A xs named (read_tech (T4 d) xs is)
reads_told id (Peer d) xs named is = none_told id xs is
reads_told id (T5 p) xs named is = told_by id techs.V xs named (read_tech (T5 p) xs is)
reads_told id (T3 p) xs named is = none_told id xs is

writes_told : (id : DeviceId) (message : List ℕ) (d : Device) (xs : List Signal) → IsReadAs id d → WriteAsks message d xs → AreTold id xs
writes_told id message (T2 d) xs named is = told_by id techs.A xs named (write_tech message (T2 d) xs is)
writes_told id message (T4 d) xs named is = told_by id techs.A xs named (write_tech message (T4 d) xs is)
writes_told id message (Peer d) xs named is = none_told id xs is
writes_told id message (T5 p) xs named is = told_by id techs.V xs named (write_tech message (T5 p) xs is)
writes_told id message (T3 p) xs named is = none_told id xs is

pub read_told : (id : DeviceId) (xs : List Signal) (o : Option Device) → IfPlaced (IsReadAs id) (Unit {0}) o → IfPlaced (λ d. ReadAsks d xs) (xs ≡ []) o → AreTold id xs
read_told id xs None named is = none_told id xs is
read_told id xs (Some d) named is = reads_told id d xs named is

pub write_told : (id : DeviceId) (message : List ℕ) (xs : List Signal) (o : Option Device) → IfPlaced (IsReadAs id) (Unit {0}) o → IfPlaced (λ d. WriteAsks message d xs) (xs ≡ []) o → AreTold id xs
write_told id message xs None named is = none_told id xs is
write_told id message xs (Some d) named is = writes_told id message d xs named is
