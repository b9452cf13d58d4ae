-- What the parts of a reading of a Type 4 tag say. No public contract speaks of these.
use Rattle.std.specs.Prelude.{◌≡◌, ℕ, zero, suc, ◌+◌, ◌-◌, ◌*◌, ◌≤◌, List, [], take, drop, true, Result, Ok, Err}
use Rattle.nfc_base.specs.TagLinks.{TagState, NoFile, ContainerFile, NdefFile, LinkView}
use Rattle.tlv_area.specs.declared.container.FileMap.{FileMap}
use Rattle.tag_reader.specs.declared.how.How.TheVariants.{T4}
use Rattle.tag_reader.specs.declared.fault.ReadFault.{ReadFault}
use Rattle.tag_reader.specs.Files.{NamesFile, container_in, file_in, message_length, message_in, most_asked, piece_size}
use Rattle.tag_reader.specs.Kinds.{IsTag}
use Rattle.tag_reader.specs.Asked.{Aim, ToRead, IsDueFor}
use Rattle.tag_reader.specs.Steps.{Asks, Reads}

-- what the tag is behind the first n commands
abbrev pub state_at : TagState → ℕ → TagState
state_at s zero = s
state_at s (suc zero) = record s { selected = true; file = NoFile }
state_at s (suc (suc zero)) = record s { selected = true; file = ContainerFile }
state_at s (suc (suc (suc zero))) = record s { selected = true; file = ContainerFile }
state_at s (suc (suc (suc (suc n)))) = record s { selected = true; file = NdefFile }

-- the bytes that the n-th command brings
abbrev pub content_at : List ℕ → ℕ → List ℕ
content_at store zero = []
content_at store (suc zero) = []
content_at store (suc (suc zero)) = take 15 (container_in store)
content_at store (suc (suc (suc zero))) = []
content_at store (suc (suc (suc (suc zero)))) = take 2 (file_in store)
content_at store (suc (suc (suc (suc (suc k))))) = take (piece_size store k)
    (drop (2 + most_asked store * k) (file_in store))

-- the first n commands of a reading are answered
abbrev pub Reached : Aim → ℕ → LinkView → LinkView → ℕ → Type 0
Reached aim size a b zero = b ≡ a
Reached aim size a b (suc n) = Asks aim T4 size a b (suc n)

-- A reading or a survey of a Type 4 tag under way: its first n commands are answered, and the tag is what they leave.
pub record IsUnder (aim : Aim) (size : ℕ) (a b : LinkView) (n : ℕ) : Type 0 where
  pub tag : IsTag T4 size a
  pub reached : Reached aim size a b n
  pub state : b.state ≡ state_at a.state n

-- the n-th command brought these bytes
abbrev pub BringsNext : Aim → ℕ → LinkView → LinkView → ℕ → List ℕ → Type 0
BringsNext aim size a b n bytes = IsUnder aim size a b (suc n) × (bytes ≡ content_at a.state.store n)

-- the end of a reading by a fault
abbrev pub EndsBy : Aim → ℕ → LinkView → LinkView → ReadFault → Type 0
EndsBy aim size a b e = Reads aim T4 size a b [] (Err e)

-- it goes on so, or it has ended by a fault
abbrev pub OrEnds : {A : Type 0} → Aim → (A → Type 0) → ℕ → LinkView → LinkView → Result A ReadFault → Type 0
OrEnds aim P size a b (Ok x) = P x
OrEnds aim P size a b (Err e) = EndsBy aim size a b e

-- the container is read, and names a file
pub record IsOpen (aim : Aim) (size : ℕ) (a b : LinkView) (map' : FileMap) : Type 0 where
  pub under : IsUnder aim size a b 3
  pub names : NamesFile a.state.store map'

-- The length of the message is read, and doesn't pass the end of the file.
pub record IsMeasured (aim : Aim) (size : ℕ) (a b : LinkView) (map' : FileMap) (n : ℕ) : Type 0 where
  pub under : IsUnder aim size a b 5
  pub names : NamesFile a.state.store map'
  pub length' : n ≡ message_length (file_in a.state.store)
  pub fits : n ≤ map'.size - 2

-- The message is read, and no command is left.
pub record IsWhole (size : ℕ) (a b : LinkView) (message : List ℕ) : Type 0 where
  pub count : ℕ
  pub under : IsUnder ToRead size a b (suc count)
  pub no_more : IsDueFor ToRead T4 size a.state.store (suc count) → ⊥
  pub bytes : message ≡ message_in (file_in a.state.store)

-- which command the k-th read of the message is
abbrev pub piece_at : ℕ → ℕ
piece_at k = suc (suc (suc (suc (suc k))))

-- the first k reads of the message are answered
pub record HasPieces (size : ℕ) (a b : LinkView) (message : List ℕ) (k : ℕ) : Type 0 where
  pub under : IsUnder ToRead size a b (piece_at k)
  pub bytes : message ≡ take (most_asked a.state.store * k) (message_in (file_in a.state.store))
