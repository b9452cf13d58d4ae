-- What is asked of a tag, by the tag's store alone (NFC Forum Type 2, Type 4 and Type 5 Tag): of one that is read for
-- its message, and of one that is surveyed before a message is written.
use Rattle.std.specs.Prelude.{◌≡◌, ℕ, ◌*◌, ◌<◌, ◌≤◌, ◌⊎◌, List, ◌++◌, length, take, Ok}
use Rattle.nfc_base.specs.Signal.{Signal}
use Rattle.tlv_area.specs.declared.space.Space.{Space}
use Rattle.tlv_area.specs.Form as form
use Rattle.tag_reader.specs.declared.how.How.{How}
use Rattle.tag_reader.specs.declared.how.How.TheVariants.{T2, T4, T5}
use Rattle.tag_reader.specs.Blocks.{IsBlockDue, IsBlockLeft}
use Rattle.tag_reader.specs.Files.{IsFileDue}
use Rattle.tag_reader.specs.Kinds.{area_of, first}
use Rattle.nfc_base.specs.Prefix.{IsPrefix}

-- With the answers to the first n READs of a Type 2 tag the walk over the area needs a byte past them.
pub record NeedsMore (size : ℕ) (store : List ℕ) (n : ℕ) : Type 0 where
  pub space : Space
  pub area : area_of T2 size store ≡ Ok space
  pub within : size * n ≤ length store
  pub more : form.NeedsMore space (take (size * n) store)

-- The area goes on behind the answers to the first n READs of a Type 2 tag.
pub record HasMore (size : ℕ) (store : List ℕ) (n : ℕ) : Type 0 where
  pub space : Space
  pub area : area_of T2 size store ≡ Ok space
  pub more : size * n < space.end

-- A tag is read for its message, or for all that a writer needs to know.
pub data Aim : Type 0 where
  ToRead : Aim
  ToWrite : Aim

-- A command is asked behind those before it, where a message is read: what they bring doesn't tell it yet.
abbrev pub IsNext : How → ℕ → List ℕ → ℕ → Type 0
IsNext T2 size store n = NeedsMore size store n
IsNext T4 size store n = IsFileDue store n
IsNext (T5 id) size store n = IsBlockDue size store n

-- The same where a writer asks. An area is read to its end or the tag's, whatever its TLVs are; of a file the container
-- and the length of the message, and no byte of it.
abbrev pub IsLeft : How → ℕ → List ℕ → ℕ → Type 0
IsLeft T2 size store n = HasMore size store n
IsLeft T4 size store n = IsFileDue store n × (n < 5)
IsLeft (T5 id) size store n = IsBlockLeft size store n

abbrev pub IsNextFor : Aim → How → ℕ → List ℕ → ℕ → Type 0
IsNextFor ToRead how size store n = IsNext how size store n
IsNextFor ToWrite how size store n = IsLeft how size store n

-- The n-th command, counted from 0, is asked.
abbrev pub IsDueFor : Aim → How → ℕ → List ℕ → ℕ → Type 0
IsDueFor aim how size store n = (n ≡ 0) ⊎ IsNextFor aim how size store n

-- each of the first n commands is asked
abbrev pub AreDueFor : Aim → How → ℕ → List ℕ → ℕ → Type 0
AreDueFor aim how size store n = (k : ℕ) → k < n → IsDueFor aim how size store k

-- The whole list of what is asked: each command of it is, and no further one.
pub record IsAskedFor (aim : Aim) (how : How) (size : ℕ) (store : List ℕ) (commands : List Signal) : Type 0 where
  pub count : ℕ
  pub list : commands ≡ first how size store count
  pub each : AreDueFor aim how size store count
  pub no_more : IsDueFor aim how size store count → ⊥

-- of a reader
abbrev pub IsDue : How → ℕ → List ℕ → ℕ → Type 0
IsDue how size store n = IsDueFor ToRead how size store n

abbrev pub AreDue : How → ℕ → List ℕ → ℕ → Type 0
AreDue how size store n = AreDueFor ToRead how size store n

abbrev pub IsAsked : How → ℕ → List ℕ → List Signal → Type 0
IsAsked how size store commands = IsAskedFor ToRead how size store commands

-- of a writer
abbrev pub IsSurveyed : How → ℕ → List ℕ → ℕ → Type 0
IsSurveyed how size store n = IsDueFor ToWrite how size store n

abbrev pub AreSurveyed : How → ℕ → List ℕ → ℕ → Type 0
AreSurveyed how size store n = AreDueFor ToWrite how size store n
