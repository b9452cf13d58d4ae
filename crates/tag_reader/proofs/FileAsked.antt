-- Each store of a Type 4 tag has a list of what is asked.
use Rattle.std.proofs.Common.{◌≡◌, ℕ, zero, suc, ◌+◌, ◌-◌, ◌/◌, ◌%◌, ◌<◌, ◌≤◌, min, inl, inr, List, refl, sym, ◌∙◌, ap, arith}
use Rattle.std.specs.Prelude.{Result, Ok, Err}
use Rattle.std.proofs.lemmas.Bool.{cases_lt}
use Rattle.std.proofs.lemmas.Grind.{div_ceil_times}
use Rattle.nfc_base.specs.Signal.{Signal}
use Rattle.tlv_area.specs.declared.container.ContainerFault.{ContainerFault}
use Rattle.tlv_area.specs.declared.container.FileMap.{FileMap}
use Rattle.tlv_area.specs.Containers.{t4_container}
use Rattle.tag_reader.specs.declared.how.How.TheVariants.{T4}
use Rattle.tag_reader.specs.Files.{container_in, file_in, message_length, most_asked, NamesFile, IsFileDue}
use Rattle.tag_reader.specs.Asked.{IsDue, IsAsked}
use Rattle.tag_reader.specs.private.FileSteps.{piece_at}
use Rattle.tag_reader.proofs.Lists.{asked_all}
use Rattle.tag_reader.proofs.Files.{named}
use Rattle.tag_reader.proofs.FileReading.{low_piece}

due_first : (store : List ℕ) (k : ℕ) → k < 3 → IsFileDue store k
due_first store zero low = tt
due_first store (suc zero) low = tt
due_first store (suc (suc zero)) low = tt
due_first store (suc (suc (suc k))) low = absurd (omega arith)

due_named : (store : List ℕ) (map' : FileMap) → NamesFile store map' → (k : ℕ) → k < 5 → IsFileDue store k
due_named store map' names zero low = tt
due_named store map' names (suc zero) low = tt
due_named store map' names (suc (suc zero)) low = tt
due_named store map' names (suc (suc (suc zero))) low = (map', names)
due_named store map' names (suc (suc (suc (suc zero)))) low = (map', names)
due_named store map' names (suc (suc (suc (suc (suc k))))) low = absurd (omega arith)

-- how many reads the message takes
abbrev count_of : List ℕ → ℕ
count_of store = message_length (file_in store) / most_asked store + min 1 (message_length (file_in store) % most_asked store)

due_pieces : (store : List ℕ) (map' : FileMap) → NamesFile store map' → message_length (file_in store) ≤ map'.size - 2 → 0 < most_asked store → (k : ℕ) → k < piece_at (count_of store) →
    IsFileDue store k
due_pieces store map' names fits some zero low = tt
due_pieces store map' names fits some (suc zero) low = tt
due_pieces store map' names fits some (suc (suc zero)) low = tt
due_pieces store map' names fits some (suc (suc (suc zero))) low = (map', names)
due_pieces store map' names fits some (suc (suc (suc (suc zero)))) low = (map', names)
due_pieces store map' names fits some (suc (suc (suc (suc (suc k))))) low =
    record { map' = map'; names = names; fits = fits; left = low_piece (message_length (file_in store)) (most_asked store) k some (omega arith) }

same_map : (store : List ℕ) (m n : FileMap) → NamesFile store m → NamesFile store n → m ≡ n
same_map store m n one other = (let both : Ok m ≡ Ok n = sym one ∙ other in cc)

by_length : (size : ℕ) (store : List ℕ) (map' : FileMap) → NamesFile store map' → (xs : List Signal) × IsAsked T4 size store xs
by_length size store map' names = elim (cases_lt (map'.size - 2) (message_length (file_in store))) [
  | inl long ↦ asked_all T4 size store 5 (λ k low. inr (due_named store map' names k low)) (none_long long)
  | inr fits ↦ asked_all T4 size store (piece_at (count_of store)) (λ k low. inr (due_pieces store map' names fits some k low)) (none_left fits)
]
  where
    some : 0 < most_asked store
    some = (let facts = named (container_in store) map' names in omega (arith, facts.most))

    none_long : map'.size - 2 < message_length (file_in store) → IsDue T4 size store 5 → ⊥
    none_long long (inl e) = omega arith
    none_long long (inr next) = (let same : next.map'.size ≡ map'.size = ap (λ m. m.size) (same_map store next.map' map' next.names names) in omega (arith, next.fits, same, long))

    none_left : message_length (file_in store) ≤ map'.size - 2 → IsDue T4 size store (piece_at (count_of store)) → ⊥
    none_left fits (inl e) = omega arith
    none_left fits (inr next) = (let left = next.left in omega (arith, left, (div_ceil_times (message_length (file_in store)) (most_asked store) some).0))

by_container : (size : ℕ) (store : List ℕ) (r : Result FileMap ContainerFault) → t4_container (container_in store) ≡ r → (xs : List Signal) × IsAsked T4 size store xs
by_container size store (Ok map') has = by_length size store map' has
by_container size store (Err f) has = asked_all T4 size store 3 (λ k low. inr (due_first store k low)) none
  where
    none : IsDue T4 size store 3 → ⊥
    none (inl e) = omega arith
    none (inr next) = (let clash : Ok next.0 ≡ Err f = sym next.1 ∙ has in cc)

pub file_asked : (size : ℕ) (store : List ℕ) → (xs : List Signal) × IsAsked T4 size store xs
file_asked size store = by_container size store (t4_container (container_in store)) refl
