-- What a Type 4 tag does at an update of its file that its container allows, and what the update leaves of its store.
use Rattle.std.proofs.Common.{◌≡◌, ℕ, ◌+◌, ◌≤◌, List, ◌++◌, length, true, Some, refl, sym, ◌∙◌, ap, subst, arith}
use Rattle.std.proofs.lemmas.List.{take-append-drop}
use Rattle.nfc_base.specs.Signal.{whole_a}
use Rattle.nfc_base.specs.TagLinks.{TagState, TagFile, NdefFile, MayAsk, Type4}
use Rattle.t4t_tag.specs.declared.command.T4Command.TheVariants.{UpdateBinary}
use Rattle.t4t_tag.specs.declared.current.CurrentFile.TheVariants.{Ndef}
use Rattle.t4t_tag.specs.Store.{IsT4Store, T4State, most_written, write_access, everyone, store_of}
use Rattle.t4t_tag.specs.Spelling.{command_bytes}
use Rattle.t4t_tag.specs.Step.{T4Turn, overwritten, writes, t4_step}
use Rattle.t4t_tag.proofs.Commands.{update_ndef}
use Rattle.t4t_tag.proofs.Steps.{length_overwritten}
use Rattle.t4t_tag.proofs.Stores.{writes_store}
use Rattle.tag_reader.specs.declared.how.How.TheVariants.{T4}
use Rattle.tag_reader.specs.Files.{container_end, container_in, file_in, IsFileStore, current_file, shown_file, t4_memory, t4_link_step, shown}
use Rattle.tag_reader.proofs.Cards as cards
use Rattle.tag_writer.specs.Puts.{Put, put_into, update_put}
use Rattle.tag_writer.specs.Puttings.{IsUpdatePut}
use Rattle.tag_writer.proofs.Doing.{Does}
use Rattle.tag_writer.proofs.Updates.{end_is, put_file}

-- a store whose container is that of another, and whose file is as long
pub record HasFiles (base store : List ℕ) : Type 0 where
  pub end' : container_end store ≡ container_end base
  pub container : container_in store ≡ container_in base
  pub file : length (file_in store) ≡ length (file_in base)

pub own_files : (store : List ℕ) → HasFiles store store
own_files store = record { end' = refl; container = refl; file = refl }

-- a store of a container and a file
pub record IsJoinedBy (container file store : List ℕ) : Type 0 where
  pub store' : IsFileStore store
  pub end' : container_end store ≡ length container
  pub container' : container_in store ≡ container
  pub file' : file_in store ≡ file

pub joined_by : (code : ℕ) (container file : List ℕ) → IsT4Store code container file → IsJoinedBy container file (container ++ file)
joined_by code container file is =
    let t : T4State = record { code = code; container = container; file = file; selected = true; current = Ndef } in
    record { store' = cards.store_is t is; end' = cards.end_is t is; container' = cards.container_is t is; file' = cards.file_is t is }

-- a file of another content
pub other_file : (code : ℕ) (store file : List ℕ) → IsT4Store code (container_in store) (file_in store) → length file ≡ length (file_in store) →
    IsJoinedBy (container_in store) file (container_in store ++ file)
other_file code store file is long =
    joined_by code (container_in store) file (record { coded = is.coded; least = is.least; most = is.most; other = is.other; size = is.size; whole = long ∙ is.whole })

pub files_of : (store file : List ℕ) → IsJoinedBy (container_in store) file (container_in store ++ file) → length file ≡ length (file_in store) → HasFiles store (container_in store ++ file)
files_of store file is long = record { end' = is.end' ∙ end_is store; container = is.container'; file = ap length is.file' ∙ long }

files_on : (a b c : List ℕ) → HasFiles a b → HasFiles b c → HasFiles a c
files_on a b c f g = record { end' = g.end' ∙ f.end'; container = g.container ∙ f.container; file = g.file ∙ f.file }

-- the store behind an update
pub record IsUpdated (base store : List ℕ) : Type 0 where
  pub store' : IsFileStore store
  pub files : HasFiles base store

pub updated : (base s : List ℕ) (p : Put) → IsFileStore s → HasFiles base s → IsUpdatePut base p → IsUpdated base (put_into s p)
updated base s p is like u =
    let container : List ℕ = container_in s in
    let file : List ℕ = file_in s in
    let file' : List ℕ = overwritten file u.offset p.bytes in
    let long : length file' ≡ length file = length_overwritten file u.offset p.bytes (omega (arith, u.within, like.file)) in
    let there : container_end base ≡ length container = sym (end_is s ∙ like.end') in
    let whole : container ++ file ≡ s = take-append-drop (container_end s) s in
    let put : put_into s p ≡ container ++ file' =
    ap (put_into s) u.put ∙ ap (λ t. put_into t (update_put base u.offset p.bytes)) (sym whole)
    ∙ put_file container file (container_end base) u.offset p.bytes (update_put base u.offset p.bytes).command there in
    let j : IsJoinedBy container file' (container ++ file') = other_file is.0 s file' is.1 long in
    subst (IsUpdated base) (sym put) (record { store' = j.store'; files = files_on base s (container ++ file') like (files_of s file' j long) })

pub t4_does : (code : ℕ) (base : List ℕ) (s : TagState) (offset : ℕ) (bytes : List ℕ) → IsT4Store code (container_in s.store) (file_in s.store) → HasFiles base s.store → s.file ≡ NdefFile →
    IsUpdatePut base (update_put base offset bytes) → offset + length bytes ≤ length (file_in base) →
    Does T4 s (update_put base offset bytes) (t4_link_step code s (update_put base offset bytes).command)
t4_does code base s offset bytes is like here u within =
    let t : T4State = t4_memory code s in
    let free : write_access t.container ≡ everyone = ap write_access like.container ∙ u.free in
    let allowed : most_written t.container ≡ most_written (container_in base) = ap most_written like.container in
    let turn : t4_step t (command_bytes (UpdateBinary offset (record { items = bytes }))) ≡ writes t offset bytes =
    update_ndef t is (ap current_file here) free offset bytes u.some (omega (arith, u.most, allowed)) (omega (arith, within, like.file)) in
    let whole : store_of t ≡ s.store = take-append-drop (container_end s.store) s.store in
    let at : length t.container ≡ container_end base = end_is s.store ∙ like.end' in
    let store : store_of (writes t offset bytes).after ≡ put_into s.store (update_put base offset bytes) =
    writes_store t offset bytes ∙ ap (λ st. overwritten st (length t.container + offset) bytes) whole ∙ ap (λ n. overwritten s.store (n + offset) bytes) at in
    let after : shown (writes t offset bytes).after ≡ record s { store = put_into s.store (update_put base offset bytes) } =
    ap {B = TagState} (λ (f : TagFile). record { store = store_of (writes t offset bytes).after; selected = s.selected; file = shown_file (current_file f) }) here
    ∙ ap {B = TagState} (λ (f : TagFile). record { store = store_of (writes t offset bytes).after; selected = s.selected; file = f }) (sym here)
    ∙ ap {B = TagState} (λ (st : List ℕ). record s { store = st }) store in
    subst (λ (r : T4Turn). Does T4 s (update_put base offset bytes) (record { answer = Some (whole_a r.answer); after = shown r.after })) (sym turn)
    (record { answers = refl; done = λ e. after; refused = λ code e. absurd cc })

-- what the tag may be asked
pub t4_may : (base id : List ℕ) (p : Put) (offset : ℕ) → length p.bytes ≤ 255 → MayAsk Type4 id (update_put base offset p.bytes).command
t4_may base id p offset short = (refl, omega (arith, short))
