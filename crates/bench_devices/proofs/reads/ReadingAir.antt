-- What the frames of a read change of the devices: nothing that stays.
use Rattle.std.proofs.Common.{◌≡◌, ℕ, zero, suc, ◌+◌, ◌*◌, List, [], ◌∷◌, ◌++◌, length, drop, Bool, true, false, ◌==◌, ◌&&◌, nat_le, nat_lt, not, if◌then◌else◌, Some, None, refl, ◌∙◌, ap}
use Rattle.std.specs.List.{AllByRecursion}
use Rattle.nfc_base.specs.Signal.{Signal}
use Rattle.air_core.specs.World.{stepped_by}
use Rattle.air_core.specs.Conversation.{Note, Asks}
use Rattle.air_core.specs.Waits.{waits_next}
use Rattle.nfca_poll.specs.Front.{Front, Off, Idle, Sleep, Ready, Active}
use Rattle.t2t_tag.specs.Store.{T2Memory}
use Rattle.nfc_base.specs.Blocks.{block_of}
use Rattle.t5t_tag.specs.Store.{T5State, id_size, block_count}
use Rattle.t5t_tag.specs.Spelling as t5
use Rattle.t5t_tag.specs.Spelling.{quiet_code, read_code, read_many_code, read_wide_code}
use Rattle.t5t_tag.specs.Mask as t5_mask
use Rattle.t5t_tag.specs.declared.command.T5Command.TheVariants as t5_command
use Rattle.t5t_tag.specs.declared.answer.T5Answer.TheVariants.{Content}
use Rattle.t5t_tag.specs.Step.{silent, tells, refuses, not_supported, no_block, blocks_of, read_turn, read_many_turn, wide_number, Asked, Reads, ReadsMany, Unknown, asked_turn, obeyed, names}
use Rattle.t5t_tag.specs.Step.{addressed, out_of_round, t5_after}
use Rattle.tag_reader.specs.declared.ask.Ask.{Ask}
use Rattle.tag_reader.specs.declared.ask.Ask.TheVariants.{One, Many}
use Rattle.tag_reader.specs.Blocks.{ask_frame, ask_at, progress_at}
use Rattle.tag_reader.specs.declared.how.How.TheVariants as hows
use Rattle.tag_reader.specs.Kinds.{command, first}
use Rattle.bench_devices.specs.Powered.{Powered}
use Rattle.bench_devices.specs.declared.device.Device.{Device}
use Rattle.bench_devices.specs.declared.device.Device.TheVariants.{T2, T4, Peer, T5, T3}
use Rattle.nfc_base.specs.declared.frame.Tech.TheVariants.{A}
use Rattle.bench_devices.specs.Device.{devices, device_tech, device_after, how_of}
use Rattle.bench_devices.specs.private.Linking.{IsPlain}
use Rattle.bench_devices.specs.Keeping.{kept}
use Rattle.bench_devices.proofs.kinds.PeerMade.{peer_kept}
use Rattle.bench_devices.proofs.reads.ReadingTags.{no_tag}
use Rattle.bench_devices.proofs.selected.CardKept.{four_keeps, spells_none}
use Rattle.air_core.proofs.DueWaits.{due_all}
use Rattle.bench_devices.proofs.finding.SelectingKept.{IsHarmless}
use Rattle.t3t_tag.specs.Store.{T3State}
use Rattle.bench_devices.proofs.type3.ThreeLists.{all_more}

-- what is read leaves a Type 5 tag as it is, but for a round that it was in
read_leaves_it : (t : T5State) (block : ℕ) → (read_turn t block).after ≡ t
read_leaves_it t block = by_end (nat_le (block_count t) block)
  where
    by_end : (v : Bool) → (if v then refuses t no_block else tells t (Content (record { items = block_of t.size t.store block }))).after ≡ t
    by_end true = refl
    by_end false = refl

many_leaves_it : (t : T5State) (block more : ℕ) → (read_many_turn t block more).after ≡ t
many_leaves_it t block more = by_end (nat_le (block_count t) (block + more)) (not (nat_le (t.size * (more + 1)) 256))
  where
    by_end : (v w : Bool) → (if v then refuses t no_block else if w then refuses t not_supported else tells t (Content (record { items = blocks_of t.size t.store block (more + 1) }))).after ≡ t
    by_end true w = refl
    by_end false true = refl
    by_end false false = refl

leaves_pair : (t : T5State) (b : Bool) (what : Asked) → (asked_turn t what).after ≡ t → (asked_turn t (if b then what else Unknown)).after ≡ t
leaves_pair t true what leaves = leaves
leaves_pair t false what leaves = refl

-- the codes of a reader
single_leaves : (t : T5State) (rest : List ℕ) → (obeyed t read_code rest).after ≡ t
single_leaves t [] = refl
single_leaves t (block ∷ []) = read_leaves_it t block
single_leaves t (a ∷ b ∷ rest) = leaves_pair t (length rest == 0) Unknown refl

many_leaves : (t : T5State) (rest : List ℕ) → (obeyed t read_many_code rest).after ≡ t
many_leaves t [] = refl
many_leaves t (block ∷ []) = refl
many_leaves t (a ∷ b ∷ rest) = leaves_pair t (length rest == 0) (ReadsMany a b) (many_leaves_it t a b)

wide_leaves : (t : T5State) (rest : List ℕ) → (obeyed t read_wide_code rest).after ≡ t
wide_leaves t [] = refl
wide_leaves t (block ∷ []) = refl
wide_leaves t (a ∷ b ∷ rest) = leaves_pair t (length rest == 0) (Reads (wide_number a b)) (read_leaves_it t (wide_number a b))

read_addressed : (t : T5State) (code : ℕ) (rest : List ℕ) → (code == quiet_code) ≡ false → ((xs : List ℕ) → (obeyed t code xs).after ≡ t) → (addressed t (code ∷ rest)).after ≡ t
read_addressed t code rest other leaves = by_names (names t rest)
  where
    by_names : (v : Bool) → (if not v then silent t else if (code == quiet_code) && (length rest == id_size) then record { answer = None; after = record t { quiet = true } }
        else obeyed t code (drop id_size rest)).after ≡ t
    by_names true = rw other (leaves (drop id_size rest))
    by_names false = refl

number_leaves : (t : T5State) (id : List ℕ) (block : ℕ) (v : Bool) → t5_after t (t5.command_frame (if v then t5_command.Read (Some id) block else t5_command.ReadWide (Some id) block)) ≡ out_of_round t
number_leaves t id block true = read_addressed (out_of_round t) read_code (t5_mask.low_first id ++ block ∷ []) refl (single_leaves (out_of_round t))
number_leaves t id block false = read_addressed (out_of_round t) read_wide_code (t5_mask.low_first id ++ t5.wide block) refl (wide_leaves (out_of_round t))

several_leave : (t : T5State) (id : List ℕ) (block more : ℕ) → t5_after t (t5.command_frame (t5_command.ReadMany (Some id) block more)) ≡ out_of_round t
several_leave t id block more = read_addressed (out_of_round t) read_many_code (t5_mask.low_first id ++ block ∷ more ∷ []) refl (many_leaves (out_of_round t))

-- so does one of each kind of device, whichever it hears
read_two : (id : List ℕ) (front : Front) (u : T2Memory) (size : ℕ) (store : List ℕ) (k : ℕ)
    → kept (device_after (T2 (record { id = id; front = front; upper = u })) (command hows.T2 size store k) None) ≡ kept (T2 (record { id = id; front = front; upper = u }))
read_two id Off u size store k = refl
read_two id Idle u size store k = refl
read_two id Sleep u size store k = refl
read_two id (Ready level starred) u size store k = refl
read_two id (Active starred) u size store k = refl

five_keeps : (p : Powered T5State) (f : Signal) → t5_after p.tag f ≡ out_of_round p.tag → kept (device_after (T5 p) f None) ≡ kept (T5 p)
five_keeps p f leaves = by_light p.lit
  where
    by_light : (v : Bool) → kept (T5 (if v then record { tag = t5_after p.tag f; lit = true } else p)) ≡ kept (T5 p)
    by_light true = ap (λ t. kept (T5 (record { tag = t; lit = true }))) leaves
    by_light false = refl

read_five : (p : Powered T5State) (id : List ℕ) (a : Ask) → kept (stepped_by devices (T5 p) (ask_frame id a) None) ≡ kept (T5 p)
read_five p id (One block) = by_number (nat_lt block 256)
  where
    by_number : (v : Bool) → kept (stepped_by devices (T5 p) (t5.command_frame (if v then t5_command.Read (Some id) block else t5_command.ReadWide (Some id) block)) None) ≡ kept (T5 p)
    by_number true = five_keeps p (t5.command_frame (t5_command.Read (Some id) block)) (number_leaves p.tag id block true)
    by_number false = five_keeps p (t5.command_frame (t5_command.ReadWide (Some id) block)) (number_leaves p.tag id block false)
read_five p id (Many block more) = five_keeps p (t5.command_frame (t5_command.ReadMany (Some id) block more)) (several_leave p.tag id block more)

-- a device of NFC-A doesn't hear what is asked of a Type 5 tag
unheard : (d : Device) (a : Ask) (id : List ℕ) → device_tech d ≡ A → kept (stepped_by devices d (ask_frame id a) None) ≡ kept d
unheard d (One block) id is = by_number (nat_lt block 256)
  where
    by_number : (v : Bool) → kept (stepped_by devices d (t5.command_frame (if v then t5_command.Read (Some id) block else t5_command.ReadWide (Some id) block)) None) ≡ kept d
    by_number true = rw is refl
    by_number false = rw is refl
unheard d (Many block more) id is = rw is refl

-- nor does one of NFC-F
unheard_three : (p : Powered T3State) (a : Ask) (id : List ℕ) → kept (stepped_by devices (T3 p) (ask_frame id a) None) ≡ kept (T3 p)
unheard_three p (One block) id = by_number (nat_lt block 256)
  where
    by_number : (v : Bool) → kept (stepped_by devices (T3 p) (t5.command_frame (if v then t5_command.Read (Some id) block else t5_command.ReadWide (Some id) block)) None) ≡ kept (T3 p)
    by_number true = refl
    by_number false = refl
unheard_three p (Many block more) id = refl

read_keeps : (e : Device) → IsPlain e → (size : ℕ) (store : List ℕ) (k : ℕ) (d : Device) → kept (stepped_by devices d (command (how_of e) size store k) None) ≡ kept d
read_keeps (T2 e) is size store k (T2 d) = read_two d.id d.front d.upper size store k
read_keeps (T2 e) is size store k (T4 d) = four_keeps d (command hows.T2 size store k) (spells_none (command hows.T2 size store k) refl refl)
read_keeps (T2 e) is size store k (T5 p) = refl
read_keeps (T2 e) is size store k (T3 p) = refl
read_keeps (T2 e) is size store k (Peer d) = peer_kept d (command hows.T2 size store k) None
read_keeps (T4 e) is size store k d = absurd is.0
read_keeps (Peer e) is size store k d = absurd (no_tag is.1)
read_keeps (T3 e) is size store k d = absurd (no_tag is.1)
read_keeps (T5 e) is size store k (T2 d) = unheard (T2 d) (ask_at size store (progress_at size store k)) e.tag.id refl
read_keeps (T5 e) is size store k (T4 d) = unheard (T4 d) (ask_at size store (progress_at size store k)) e.tag.id refl
read_keeps (T5 e) is size store k (Peer d) = peer_kept d (command (hows.T5 e.tag.id) size store k) None
read_keeps (T5 e) is size store k (T3 p) = unheard_three p (ask_at size store (progress_at size store k)) e.tag.id
read_keeps (T5 e) is size store k (T5 p) = read_five p e.tag.id (ask_at size store (progress_at size store k))

-- a frame that asks a device for bytes
abbrev pub IsRead : Device → Signal → Type 0
IsRead e f = (size : ℕ) × (store : List ℕ) × (k : ℕ) × (f ≡ command (how_of e) size store k)

pub all_reads : (e : Device) (size : ℕ) (store : List ℕ) (n : ℕ) → AllByRecursion (IsRead e) (first (how_of e) size store n)
all_reads e size store zero = tt
all_reads e size store (suc n) = all_more (IsRead e) (first (how_of e) size store n) (command (how_of e) size store n) (all_reads e size store n) (size, store, n, refl)

-- what is due while READs are asked changes no device but in its state
pub reads_harmless : (e : Device) → IsPlain e → (cs : List Signal) → AllByRecursion (IsRead e) cs → (ns : List Note) (f : Signal) → waits_next cs ns ≡ Asks f → IsHarmless f
reads_harmless e plain cs all ns f due d =
    let is : IsRead e f = due_all (IsRead e) cs all ns f due in
    ap (λ g. kept (stepped_by devices d g None)) is.3 ∙ read_keeps e plain is.0 is.1 is.2 d
