-- What a read asks of a device, the device heeds: each command has an answer, whatever the device holds.
use Rattle.std.proofs.Common.{◌≡◌, ℕ, zero, suc, ◌+◌, ◌*◌, ◌/◌, ◌%◌, ◌<◌, ◌≤◌, inl, inr, List, [], ◌∷◌, ◌++◌, length, nat_lt, Bool, true, false, ◌&&◌, if◌then◌else◌, Some, refl, sym, subst, arith}
use Rattle.std.specs.List.{AllByRecursion}
use Rattle.nfc_base.specs.Signal.{Signal}
use Rattle.nfc_base.specs.Words.{word}
use Rattle.t2t_tag.specs.declared.command.T2Command.TheVariants as t2_command
use Rattle.t4t_tag.specs.declared.command.T4Command.TheVariants.{SelectApplication, SelectFile, ReadBinary}
use Rattle.t4t_tag.specs.Spelling.{class_byte, select_code, read_code, command_bytes}
use Rattle.t4t_tag.specs.Store.{T4State, IsT4State, file_id, container_id, store_of}
use Rattle.t5t_tag.specs.declared.command.T5Command.TheVariants as t5_command
use Rattle.t5t_tag.specs.Spelling as t5
use Rattle.isodep_link.specs.Sizes.{limit}
use Rattle.isodep_link.proofs.Heeding.{AreBytes, no_bytes}
use Rattle.tag_reader.specs.Asked.{Aim, ToRead, ToWrite, IsNextFor, IsDueFor, IsAskedFor}
use Rattle.tag_reader.specs.Blocks.{ask_frame, ask_at, progress_at}
use Rattle.tag_reader.specs.declared.ask.Ask.{Ask}
use Rattle.tag_reader.specs.declared.ask.Ask.TheVariants.{One, Many}
use Rattle.tag_reader.specs.declared.how.How.{How}
use Rattle.tag_reader.specs.declared.how.How.TheVariants as hows
use Rattle.tag_reader.specs.Files.{container_in, most_asked, piece_size, IsFileDue, file_command, IsFileStore}
use Rattle.tag_reader.specs.Kinds.{command, first}
use Rattle.tag_reader.proofs.Cards.{container_is, store_is}
use Rattle.tag_reader.proofs.Files.{InFile, in_file}
use Rattle.bench_devices.specs.declared.device.Device.{Device}
use Rattle.bench_devices.specs.declared.device.Device.TheVariants.{T2, T4, Peer, T5, T3}
use Rattle.bench_devices.specs.Device.{device_store, how_of, size_of}
use Rattle.bench_devices.specs.Keeping.{kept, container_of, IsSound}
use Rattle.bench_devices.proofs.turns.CardBytes.{cons_bytes}
use Rattle.bench_devices.proofs.selected.PlainHeard.{IsHeeded}
use Rattle.bench_devices.proofs.kinds.TagFour.{sound_tag}

-- the commands of a list, each of which is due
all_first : (P : Signal → Type 0) (how : How) (size : ℕ) (store : List ℕ) (n : ℕ) → ((k : ℕ) → k < n → P (command how size store k)) → AllByRecursion P (first how size store n)
all_first P how size store zero each = tt
all_first P how size store (suc n) each =
    snoc (first how size store n) (command how size store n) (all_first P how size store n (λ k low. each k (omega (arith, low)))) (each n (omega arith))
  where
    snoc : (xs : List Signal) (y : Signal) → AllByRecursion P xs → P y → AllByRecursion P (xs ++ y ∷ [])
    snoc [] y all here = (here, tt)
    snoc (x ∷ xs) y all here = (all.0, snoc xs y all.1 here)

all_asked : (P : Signal → Type 0) (aim : Aim) (how : How) (size : ℕ) (store : List ℕ) (asked : List Signal) → IsAskedFor aim how size store asked
    → ((k : ℕ) → IsDueFor aim how size store k → P (command how size store k)) → AllByRecursion P asked
all_asked P aim how size store asked is each = subst (AllByRecursion P) (sym is.list) (all_first P how size store is.count (λ k low. each k (is.each k low)))

-- of a Type 5 tag
five_heeded : (id : List ℕ) (a : Ask) → IsHeeded (hows.T5 id) (ask_frame id a)
five_heeded id (One block) = by_number (nat_lt block 256)
  where
    by_number : (v : Bool) → IsHeeded (hows.T5 id) (t5.command_frame (if v then t5_command.Read (Some id) block else t5_command.ReadWide (Some id) block))
    by_number true = (_, _, refl, refl)
    by_number false = (_, _, refl, refl)
five_heeded id (Many block more) = (_, _, refl, refl)

-- of a Type 4 tag
abbrev are_small : List ℕ → Bool
are_small [] = true
are_small (x ∷ xs) = nat_lt x 256 && are_small xs

pub small_bytes : (xs ys : List ℕ) → are_small xs ≡ true → AreBytes ys → AreBytes (xs ++ ys)
small_bytes [] ys e q = q
small_bytes (x ∷ xs) ys e q = by_first (nat_lt x 256) refl e (λ rest. small_bytes xs ys rest q)
  where
    by_first : (v : Bool) → nat_lt x 256 ≡ v → (v && are_small xs) ≡ true → (are_small xs ≡ true → AreBytes (xs ++ ys)) → AreBytes (x ∷ (xs ++ ys))
    by_first true low rest more = cons_bytes x (xs ++ ys) (grind (arith, low)) (more rest)
    by_first false low rest more = absurd cc

pub two_bytes : (n : ℕ) (ys : List ℕ) → n < 65536 → AreBytes ys → AreBytes (n / 256 ∷ n % 256 ∷ ys)
two_bytes n ys low q =
    let high : n / 256 < 256 = omega (arith, low) in
    let rest : n % 256 < 256 = omega arith in
    cons_bytes (n / 256) (n % 256 ∷ ys) high (cons_bytes (n % 256) ys rest q)

select_bytes : (n : ℕ) → n < 65536 → AreBytes (command_bytes (SelectFile n))
select_bytes n low = small_bytes (class_byte ∷ select_code ∷ 0x00 ∷ 0x0C ∷ 2 ∷ []) (n / 256 ∷ n % 256 ∷ []) refl (two_bytes n [] low no_bytes)

read_bytes : (n count : ℕ) → n < 65536 → count < 256 → AreBytes (command_bytes (ReadBinary n count))
read_bytes n count low few = small_bytes (class_byte ∷ read_code ∷ []) (n / 256 ∷ n % 256 ∷ count ∷ []) refl (two_bytes n (count ∷ []) low (cons_bytes count [] few no_bytes))

word_low : (xs : List ℕ) (at : ℕ) → AreBytes xs → word xs at < 65536
word_low xs at q = let a = q at in let b = q (at + 1) in omega (arith, a, b)

module _ (tag : T4State) (sound : IsT4State tag) (bytes : AreBytes tag.container) where
  abbrev store : List ℕ
  store = store_of tag

  names : AreBytes (container_in store)
  names = subst AreBytes (sym (container_is tag sound)) bytes

  file_bytes : (k : ℕ) → IsFileDue store k → AreBytes (command_bytes (file_command store k))
  file_bytes zero due = small_bytes (command_bytes SelectApplication) [] refl no_bytes
  file_bytes (suc zero) due = select_bytes container_id (omega arith)
  file_bytes (suc (suc zero)) due = read_bytes 0 15 (omega arith) (omega arith)
  file_bytes (suc (suc (suc zero))) due = select_bytes (file_id (container_in store)) (word_low (container_in store) 9 names)
  file_bytes (suc (suc (suc (suc zero)))) due = read_bytes 0 2 (omega arith) (omega arith)
  file_bytes (suc (suc (suc (suc (suc k))))) due =
      let is : IsFileStore store = store_is tag sound in
      let f : InFile is.0 store due.map' k = in_file is.0 store k is.1 due in
      read_bytes (2 + most_asked store * k) (piece_size store k) (omega (arith, f.within, f.low)) (omega (arith, f.small))

  short : (k : ℕ) → length (command_bytes (file_command store k)) ≤ limit
  short zero = omega arith
  short (suc zero) = omega arith
  short (suc (suc zero)) = omega arith
  short (suc (suc (suc zero))) = omega arith
  short (suc (suc (suc (suc zero)))) = omega arith
  short (suc (suc (suc (suc (suc k))))) = omega arith

  -- a reader asks for a file as a writer does
  file_due : (aim : Aim) (size k : ℕ) → IsNextFor aim hows.T4 size store k → IsFileDue store k
  file_due ToRead size k due = due
  file_due ToWrite size k due = due.0

  four_heeded : (aim : Aim) (size k : ℕ) → IsDueFor aim hows.T4 size store k → IsHeeded hows.T4 (command hows.T4 size store k)
  four_heeded aim size zero due = (short zero, file_bytes zero tt)
  four_heeded aim size (suc k) (inl e) = absurd (omega (arith, e))
  four_heeded aim size (suc k) (inr due) = (short (suc k), file_bytes (suc k) (file_due aim size (suc k) due))

-- So a device whose container has bytes heeds all that is asked of it, by a reader and by a writer that surveys it.
pub asked_heeded : (aim : Aim) (d : Device) (asked : List Signal) → IsSound (kept d) → AreBytes (container_of d) → IsAskedFor aim (how_of d) (size_of d) (device_store d) asked
    → AllByRecursion (IsHeeded (how_of d)) asked
asked_heeded aim (T2 d) asked sound bytes is =
    all_asked (IsHeeded hows.T2) aim hows.T2 (size_of (T2 d)) (device_store (T2 d)) asked is (λ k due. (refl, t2_command.Read (4 * k), refl))
asked_heeded aim (T4 d) asked sound bytes is =
    let tag : IsT4State d.upper.tag = sound_tag d.upper.tag sound.1 sound.2 sound.3 in
    all_asked (IsHeeded hows.T4) aim hows.T4 (size_of (T4 d)) (device_store (T4 d)) asked is (λ k due. four_heeded d.upper.tag tag bytes aim (size_of (T4 d)) k due)
asked_heeded aim (Peer d) asked sound bytes is =
    all_asked (IsHeeded hows.T2) aim hows.T2 (size_of (Peer d)) (device_store (Peer d)) asked is (λ k due. (refl, t2_command.Read (4 * k), refl))
asked_heeded aim (T3 p) asked sound bytes is =
    all_asked (IsHeeded hows.T2) aim hows.T2 (size_of (T3 p)) (device_store (T3 p)) asked is (λ k due. (refl, t2_command.Read (4 * k), refl))
asked_heeded aim (T5 p) asked sound bytes is =
    all_asked (IsHeeded (hows.T5 p.tag.id)) aim (hows.T5 p.tag.id) (size_of (T5 p)) (device_store (T5 p)) asked is
    (λ k due. five_heeded p.tag.id (ask_at (size_of (T5 p)) (device_store (T5 p)) (progress_at (size_of (T5 p)) (device_store (T5 p)) k)))
