-- What a Type 4 tag behind a link does at the commands of a reading, and what their answers say of its store.
use Rattle.std.proofs.Common.{◌≡◌, ℕ, zero, suc, ◌+◌, ◌*◌, ◌<◌, ◌≤◌, Bool, true, false, not, ◌==◌, ◌||◌, nat_lt, List, [], ◌∷◌, ◌++◌, length, take, drop, slice_index, Some, refl, ◌∙◌, ap, arith}
use Rattle.std.specs.Prelude.{Ok}
use Rattle.std.proofs.lemmas.List.{take-append-drop, length-take}
use Rattle.nfc_base.specs.Words.{word}
use Rattle.nfc_base.specs.Signal.{whole_a}
use Rattle.nfc_base.specs.TagLinks.{TagState, TagStep, TagFile, NoFile, ContainerFile, NdefFile}
use Rattle.t4t_tag.specs.declared.command.T4Command.{T4Command}
use Rattle.t4t_tag.specs.declared.command.T4Command.TheVariants.{SelectApplication, SelectFile, ReadBinary}
use Rattle.t4t_tag.specs.declared.current.CurrentFile.TheVariants as current
use Rattle.t4t_tag.specs.Store.{T4State, IsT4Store, most_read, file_id, container_id}
use Rattle.t4t_tag.specs.Spelling.{command_bytes}
use Rattle.t4t_tag.specs.Step.{T4Turn, done, opens, picks, tells, t4_step}
use Rattle.t4t_tag.proofs.Turns.{content_of}
use Rattle.t4t_tag.proofs.Commands.{select_opens, select_container, select_ndef, read_container, read_ndef}
use Rattle.tlv_area.specs.declared.container.FileMap.{FileMap}
use Rattle.tlv_area.specs.declared.container.ContainerFault.TheVariants as container
use Rattle.tlv_area.specs.Containers.{first_fault, unless, t4_file, t4_container}
use Rattle.tag_reader.specs.Files.{container_end, container_in, file_in, most_asked, piece_size, file_command, file_frame, HasPiece, IsFileDue, t4_memory, t4_link_step, shown}
use Rattle.tag_reader.specs.private.FileSteps.{state_at, content_at}

-- the first fifteen bytes of a container say all of it
pub t4_front : (c : List ℕ) → t4_container (take 15 c) ≡ t4_container c
t4_front [] = refl
t4_front (a ∷ []) = refl
t4_front (a ∷ b ∷ []) = refl
t4_front (a ∷ b ∷ d ∷ []) = refl
t4_front (a ∷ b ∷ d ∷ e ∷ []) = refl
t4_front (a ∷ b ∷ d ∷ e ∷ f ∷ []) = refl
t4_front (a ∷ b ∷ d ∷ e ∷ f ∷ g ∷ []) = refl
t4_front (a ∷ b ∷ d ∷ e ∷ f ∷ g ∷ h ∷ []) = refl
t4_front (a ∷ b ∷ d ∷ e ∷ f ∷ g ∷ h ∷ i ∷ []) = refl
t4_front (a ∷ b ∷ d ∷ e ∷ f ∷ g ∷ h ∷ i ∷ j ∷ []) = refl
t4_front (a ∷ b ∷ d ∷ e ∷ f ∷ g ∷ h ∷ i ∷ j ∷ k ∷ []) = refl
t4_front (a ∷ b ∷ d ∷ e ∷ f ∷ g ∷ h ∷ i ∷ j ∷ k ∷ l ∷ []) = refl
t4_front (a ∷ b ∷ d ∷ e ∷ f ∷ g ∷ h ∷ i ∷ j ∷ k ∷ l ∷ m ∷ []) = refl
t4_front (a ∷ b ∷ d ∷ e ∷ f ∷ g ∷ h ∷ i ∷ j ∷ k ∷ l ∷ m ∷ n ∷ []) = refl
t4_front (a ∷ b ∷ d ∷ e ∷ f ∷ g ∷ h ∷ i ∷ j ∷ k ∷ l ∷ m ∷ n ∷ o ∷ []) = refl
t4_front (a ∷ b ∷ d ∷ e ∷ f ∷ g ∷ h ∷ i ∷ j ∷ k ∷ l ∷ m ∷ n ∷ o ∷ p ∷ rest) = refl

-- what is known of a file that a container names
pub record Named (c : List ℕ) (map' : FileMap) : Type 0 where
  pub file : map' ≡ t4_file c
  pub free : slice_index c 13 ≡ 0
  pub most : 15 ≤ word c 3
  pub least : 2 ≤ word c 11
  pub high : word c 11 ≤ 0x7FFF

no_row : (free size : Bool) (map' : FileMap) (c : List ℕ) → (magic version : Bool) →
    unless (first_fault ((magic, container.NotNdef) ∷ (version, container.Version) ∷ (free, container.NoRead) ∷ (size, container.BadSize) ∷ [])) (t4_file c) ≡ Ok map' →
    (free ≡ false) × (size ≡ false) × (map' ≡ t4_file c)
no_row free size map' c true version h = absurd (cc)
no_row free size map' c false true h = absurd (cc)
no_row true size map' c false false h = absurd (cc)
no_row false true map' c false false h = absurd (cc)
no_row false false map' c false false h = (refl, refl, cc)

is_zero : (n : ℕ) → not (n == 0) ≡ false → n ≡ 0
is_zero n h = grind (arith, h)

sized : (a b c : ℕ) → (nat_lt a 15 || nat_lt b 15 || nat_lt c 2 || nat_lt 0x7FFF c) ≡ false → (15 ≤ b) × (2 ≤ c) × (c ≤ 0x7FFF)
sized a b c h = (grind (arith, h), grind (arith, h), grind (arith, h))

pub named : (c : List ℕ) (map' : FileMap) → t4_container c ≡ Ok map' → Named c map'
named c map' has =
    let rows = no_row (not (slice_index c 13 == 0)) (nat_lt (word c 0) 15 || nat_lt (word c 3) 15 || nat_lt (word c 11) 2 || nat_lt 0x7FFF (word c 11)) map' c _ _ has in
    let fits = sized (word c 0) (word c 3) (word c 11) rows.1 in
    record { file = rows.2; free = is_zero (slice_index c 13) rows.0; most = fits.0; least = fits.1; high = fits.2 }

-- the two files are the store
pub whole_store : (store : List ℕ) → container_in store ++ file_in store ≡ store
whole_store store = take-append-drop (container_end store) store

-- the commands are in their ranges
pub record InFile (code : ℕ) (store : List ℕ) (map' : FileMap) (k : ℕ) : Type 0 where
  pub some : 1 ≤ piece_size store k
  pub most : piece_size store k ≤ most_read (container_in store)
  pub small : piece_size store k ≤ 255
  pub within : 2 + most_asked store * k < length (file_in store)
  pub low : length (file_in store) ≤ 0x7FFF

pub in_file : (code : ℕ) (store : List ℕ) (k : ℕ) → IsT4Store code (container_in store) (file_in store) → (p : HasPiece store k) → InFile code store p.map' k
in_file code store k is p =
    let facts = named (container_in store) p.map' p.names in
    let size : p.map'.size ≡ word (container_in store) 11 = ap (λ m. m.size) facts.file in
    record {
      some = omega (arith, facts.most, p.left);
      most = omega arith;
      small = omega arith;
      within = omega (arith, p.left, p.fits, size, is.whole, facts.least);
      low = omega (arith, is.whole, is.size);
    }

-- no answer brings more than 255 bytes
pub content_small : (code : ℕ) (store : List ℕ) (n : ℕ) → IsT4Store code (container_in store) (file_in store) → IsFileDue store n → length (content_at store n) ≤ 255
content_small code store zero is due = omega arith
content_small code store (suc zero) is due = omega arith
content_small code store (suc (suc zero)) is due = omega (arith, length-take 15 (container_in store))
content_small code store (suc (suc (suc zero))) is due = omega arith
content_small code store (suc (suc (suc (suc zero)))) is due = omega (arith, length-take 2 (file_in store))
content_small code store (suc (suc (suc (suc (suc k))))) is due =
    let f = in_file code store k is due in
    let long : length (take (piece_size store k) (drop (2 + most_asked store * k) (file_in store))) ≡ _ = length-take (piece_size store k) (drop (2 + most_asked store * k) (file_in store)) in
    omega (arith, f.small, long)

-- no command changes the store
pub state_store : (s : TagState) (n : ℕ) → (state_at s n).store ≡ s.store
state_store s zero = refl
state_store s (suc zero) = refl
state_store s (suc (suc zero)) = refl
state_store s (suc (suc (suc zero))) = refl
state_store s (suc (suc (suc (suc n)))) = refl

-- a link's step is the tag's
linked : (code : ℕ) (s : TagState) (c : T4Command) (u : T4Turn) → t4_step (t4_memory code s) (command_bytes c) ≡ u →
    t4_link_step code s (file_frame c) ≡ record { answer = Some (whole_a u.answer); after = shown u.after }
linked code s c u e = ap {B = TagStep} (λ (t : T4Turn). record { answer = Some (whole_a t.answer); after = shown t.after }) e

abbrev answers : List ℕ → List ℕ → TagFile → TagStep
answers content store file = record { answer = Some (whole_a (content ++ done)); after = record { store = store; selected = true; file = file } }

-- what the tag does at each command
pub turn_at : (code : ℕ) (s : TagState) (n : ℕ) → IsT4Store code (container_in s.store) (file_in s.store) → IsFileDue s.store n →
    t4_link_step code (state_at s n) (file_frame (file_command s.store n)) ≡ record { answer = Some (whole_a (content_at s.store n ++ done)); after = state_at s (suc n) }
turn_at code s zero is due =
    let t : T4State = t4_memory code s in
    linked code s SelectApplication (opens t) (select_opens t) ∙ ap (λ st. answers [] st NoFile) (whole_store s.store)
turn_at code s (suc zero) is due =
    let t : T4State = t4_memory code (state_at s 1) in
    linked code (state_at s 1) (SelectFile container_id) (picks t current.Container) (select_container t refl) ∙ ap (λ st. answers [] st ContainerFile) (whole_store s.store)
turn_at code s (suc (suc zero)) is due =
    let t : T4State = t4_memory code (state_at s 2) in
    linked code (state_at s 2) (ReadBinary 0 15) (tells t (content_of t.container 0 15)) (read_container t is refl 0 15 (omega arith) (omega (arith, is.least)))
    ∙ ap (λ st. answers (take 15 (container_in s.store)) st ContainerFile) (whole_store s.store)
turn_at code s (suc (suc (suc zero))) is due =
    let t : T4State = t4_memory code (state_at s 3) in
    linked code (state_at s 3) (SelectFile (file_id t.container)) (picks t current.Ndef) (select_ndef t is refl) ∙ ap (λ st. answers [] st NdefFile) (whole_store s.store)
turn_at code s (suc (suc (suc (suc zero)))) is due =
    let t : T4State = t4_memory code (state_at s 4) in
    let facts = named (container_in s.store) due.0 due.1 in
    linked code (state_at s 4) (ReadBinary 0 2) (tells t (content_of t.file 0 2))
    (read_ndef t is refl facts.free 0 2 (omega arith) (omega (arith, facts.most)) (omega (arith, facts.least, is.whole)))
    ∙ ap (λ st. answers (take 2 (file_in s.store)) st NdefFile) (whole_store s.store)
turn_at code s (suc (suc (suc (suc (suc k))))) is due =
    let t : T4State = t4_memory code (state_at s 5) in
    let facts = named (container_in s.store) due.map' due.names in
    let f = in_file code s.store k is due in
    let offset : ℕ = 2 + most_asked s.store * k in
    linked code (state_at s 5) (ReadBinary offset (piece_size s.store k)) (tells t (content_of t.file offset (piece_size s.store k)))
    (read_ndef t is refl facts.free offset (piece_size s.store k) f.some f.most f.within)
    ∙ ap (λ st. answers (take (piece_size s.store k) (drop offset (file_in s.store))) st NdefFile) (whole_store s.store)
