-- What a survey of a tag tells a writer (NFC Forum Type 2, Type 4 and Type 5 Tag).
use Rattle.std.specs.Prelude.{◌≡◌, ℕ, ◌-◌, ◌*◌, ◌<◌, ◌≤◌, List, length, take, true, Result, Ok, IfOk}
use Rattle.nfc_base.specs.TagLinks.{TagState, LinkView, NdefFile}
use Rattle.tlv_area.specs.declared.space.Space.{Space}
use Rattle.tlv_area.specs.declared.space.AreaMap.{AreaMap}
use Rattle.tlv_area.specs.declared.container.ContainerFault.{ContainerFault}
use Rattle.tlv_area.specs.declared.container.FileMap.{FileMap}
use Rattle.tlv_area.specs.declared.walk.Walk.TheVariants as walk
use Rattle.tlv_area.specs.Layout.{IsArea, bytes_at}
use Rattle.tlv_area.specs.Form.{Message}
use Rattle.tlv_area.specs.Map.{IsWalk, IsPlaced, IsPlacedIn, message_cells}
use Rattle.tlv_area.specs.Stores.{cut_by}
use Rattle.tlv_area.specs.Writing.{HasBlocks}
use Rattle.tag_reader.specs.declared.how.How.{How}
use Rattle.tag_reader.specs.declared.how.How.TheVariants.{T2, T4, T5}
use Rattle.tag_reader.specs.declared.fault.ReadFault.{ReadFault}
use Rattle.tag_reader.specs.declared.ground.Ground.{Ground}
use Rattle.tag_reader.specs.declared.ground.Ground.TheVariants.{Area, File}
use Rattle.tag_reader.specs.Files.{file_in, message_length}
use Rattle.tag_reader.specs.Kinds.{area_of, IsStoreForm, OfTag}
use Rattle.tag_reader.specs.Reading.{IsFileOf}

-- how many bytes one write changes of a tag of blocks; a Type 4 tag has none
abbrev pub block_size : How → ℕ → ℕ
block_size T2 size = 4
block_size T4 size = 0
block_size (T5 id) size = size

-- The area that a message may be written to. That of a Type 5 tag ends where the tag does at the latest; a Type 4 tag
-- has none.
abbrev pub written_area : How → ℕ → List ℕ → Result Space ContainerFault
written_area T2 size store = area_of T2 size store
written_area T4 size store = area_of T4 size store
written_area (T5 id) size store = cut_by (area_of (T5 id) size store) (length store)

-- An area that holds a message is known to its end, or to the tag's: the map is of the area that ends there. What is
-- known is a front of the store with each block of the area whole.
pub record IsKnownArea (how : How) (size : ℕ) (store known : List ℕ) (block : ℕ) (map' : AreaMap) : Type 0 where
  pub area : written_area how size store ≡ Ok map'.space
  pub front : known ≡ take (length known) store
  pub size' : block ≡ block_size how size
  pub blocks : HasBlocks block map'.space known
  pub whole : map'.space.end ≤ length known
  pub seen : IsWalk map'.space known (walk.Held map')
  pub found : IsWalk map'.space store (walk.Held map')
  pub placed : IsPlaced map'
  pub held : IsStoreForm how size store (Message (bytes_at known (message_cells map')))

-- A file holds a message: this is its length, which doesn't pass the file's end.
pub record IsKnownFile (how : How) (store : List ℕ) (map' : FileMap) (length' : ℕ) : Type 0 where
  pub names : IsFileOf how store map'
  pub counts : length' ≡ message_length (file_in store)
  pub fits : length' ≤ map'.size - 2

-- the area or the file in which a message lies
abbrev pub IsGround : How → ℕ → List ℕ → Ground → Type 0
IsGround how size store (Area known block map') = IsKnownArea how size store known block map'
IsGround how size store (File map' length') = IsKnownFile how store map' length'

-- The message of an area lies in it, and all of the area is known, in whole blocks that numbers of two bytes name.
pub record IsPlacedArea (known : List ℕ) (block : ℕ) (map' : AreaMap) : Type 0 where
  pub area : IsArea map'.space
  pub placed : IsPlacedIn known map'
  pub whole : map'.space.end ≤ length known
  pub some : 0 < block
  pub end : map'.space.end ≤ 65536 * block
  pub blocks : HasBlocks block map'.space known

abbrev pub IsPlacedGround : Ground → Type 0
IsPlacedGround (Area known block map') = IsPlacedArea known block map'
IsPlacedGround (File map' length') = Unit {0}

-- The tag as a survey leaves it: of a Type 4 tag the application is selected, and the NDEF file is the current one.
abbrev pub surveyed : How → TagState → TagState
surveyed T2 s = s
surveyed T4 s = record s { selected = true; file = NdefFile }
surveyed (T5 id) s = s

pub record IsSurvey (how : How) (size : ℕ) (a b : LinkView) (ground : Ground) : Type 0 where
  pub ground' : IsGround how size a.state.store ground
  pub state : b.state ≡ surveyed how a.state

abbrev pub TellsGround : How → LinkView → LinkView → Result Ground ReadFault → Type 0
TellsGround how a b result = OfTag how a (λ size. IfOk result (IsSurvey how size a b))
