-- What a tag's stores are while a message is written, whatever stops the write.
use Rattle.std.specs.Prelude.{◌≡◌, ◌⊎◌, List, [], ◌∷◌, ℕ}
use Rattle.std.specs.List.{AllByRecursion}
use Rattle.nfc_base.specs.TagLinks.{PassInThree}
use Rattle.tlv_area.specs.Form.{Message}
use Rattle.tlv_area.specs.Writing.{SameOutside}
use Rattle.tag_reader.specs.declared.how.How.{How}
use Rattle.tag_reader.specs.Kinds.{IsStoreForm}
use Rattle.tag_writer.specs.Place.{Place, IsNewStore, Takes, TakesNot}

-- how a write ended, as far as its stores tell: by success, by a refusal of the tag, or else
pub data Ending : Type 0 where
  Written : Ending
  Refused : Ending
  Stopped : Ending

-- the last of some stores that follow one
abbrev pub last_store : List ℕ → List (List ℕ) → List ℕ
last_store store [] = store
last_store store (s ∷ ss) = last_store s ss

-- an empty message stands where the old one stood, and elsewhere all is as it was
pub record IsEmptied (how : How) (size : ℕ) (place : Place) (old s : List ℕ) : Type 0 where
  pub empty : IsStoreForm how size s (Message [])
  pub outside : SameOutside place.span old s

-- the new message stands there
pub record IsWritten (how : How) (size : ℕ) (message : List ℕ) (place : Place) (old s : List ℕ) : Type 0 where
  pub new : IsNewStore place old s
  pub holds : IsStoreForm how size s (Message message)

-- what is left then
abbrev pub LeavesStore : How → ℕ → List ℕ → Place → List ℕ → Ending → List ℕ → Type 0
LeavesStore how size message place old Written s = IsWritten how size message place old s
LeavesStore how size message place old Refused s = (s ≡ old) ⊎ IsEmptied how size place old s
LeavesStore how size message place old Stopped s = Unit {0}

-- The stores are first the old one itself, then such that hold the empty message, then the new one.
pub record Passes (how : How) (size : ℕ) (store message : List ℕ) (place : Place) (ending : Ending)
    (images : List (List ℕ)) : Type 0 where
  pub three : PassInThree (λ s. s ≡ store) (IsEmptied how size place store) (IsWritten how size message place store)
      images
  pub leaves : LeavesStore how size message place store ending (last_store store images)

-- The law of a write over the tag's stores, from the one before it on. A store that doesn't take the message stays.
pub record WriteLaw (how : How) (size : ℕ) (store message : List ℕ) (ending : Ending) (images : List (List ℕ))
    : Type 0 where
  pub takes : (place : Place) → Takes how size store message place → Passes how size store message place ending images
  pub stays : TakesNot how size store message → AllByRecursion (λ s. s ≡ store) images
