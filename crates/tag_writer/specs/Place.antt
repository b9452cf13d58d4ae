-- Where a message goes in a store: how long it may be, which addresses it takes, and the store that has it.
use Rattle.std.specs.Prelude.{◌≡◌, ℕ, ◌+◌, ◌-◌, ◌≤◌, List, ◌++◌, length, true, Result, Ok, Err}
use Rattle.std.specs.List.{range_with_len}
use Rattle.t4t_tag.specs.Store.{most_written, file_size}
use Rattle.t4t_tag.specs.Spelling.{high_first}
use Rattle.tlv_area.specs.declared.space.Space.{Space}
use Rattle.tlv_area.specs.declared.container.FileMap.{FileMap}
use Rattle.tlv_area.specs.declared.container.ContainerFault.{ContainerFault}
use Rattle.tlv_area.specs.Layout.{Tlv, Layout, LiesIn, ndef_message}
use Rattle.tlv_area.specs.Tail.{message_tail, capacity_of, written, span}
use Rattle.tlv_area.specs.Writing.{IsPut}
use Rattle.tag_reader.specs.declared.how.How.{How}
use Rattle.tag_reader.specs.declared.how.How.TheVariants.{T2, T4, T5}
use Rattle.tag_reader.specs.Files.{container_in, container_end, file_in, message_length, NamesFile}
use Rattle.tag_reader.specs.Access.{IsAccess}
use Rattle.tag_reader.specs.Survey.{written_area}

-- the place of a message: how long one may be there, the addresses that this one takes, and its bytes there
pub record Place : Type 0 where
  pub room : ℕ
  pub span : List ℕ
  pub bytes : List ℕ

-- in the tail of the old message's TLV, behind its type byte
abbrev pub tail_place : List ℕ → List ℕ → Place
tail_place tail message = record {
  room = capacity_of (1 + length tail);
  span = span tail message;
  bytes = written (length tail) message;
}

-- An area that holds a message has a place for another one.
pub record IsAreaPlace (space : Space) (store message : List ℕ) (place : Place) : Type 0 where
  pub ts : List Tlv
  pub t : Tlv
  pub after : List ℕ
  pub layout : Layout space store ts (t.at ++ after)
  pub lies : LiesIn store t
  pub kind : t.kind ≡ ndef_message
  pub place' : place ≡ tail_place (message_tail t.at after) message

abbrev pub IsPlaceBy : Result Space ContainerFault → List ℕ → List ℕ → Place → Type 0
IsPlaceBy (Err fault) store message place = ⊥
IsPlaceBy (Ok space) store message place = IsAreaPlace space store message place

-- of a file: its length in two bytes, and the bytes behind these
abbrev pub file_place : List ℕ → List ℕ → Place
file_place store message = record {
  room = file_size (container_in store) - 2;
  span = range_with_len (container_end store) (2 + length message);
  bytes = high_first (length message) ++ message;
}

-- The container names a file, whose length doesn't pass its end.
pub record IsFilePlace (store message : List ℕ) (place : Place) : Type 0 where
  pub map' : FileMap
  pub names : NamesFile store map'
  pub held : message_length (file_in store) ≤ map'.size - 2
  pub place' : place ≡ file_place store message

-- A store that holds a message has exactly one place for another.
abbrev pub IsPlaceIn : How → ℕ → List ℕ → List ℕ → Place → Type 0
IsPlaceIn T2 size store message place = IsPlaceBy (written_area T2 size store) store message place
IsPlaceIn T4 size store message place = IsFilePlace store message place
IsPlaceIn (T5 id) size store message place = IsPlaceBy (written_area (T5 id) size store) store message place

-- The store with the message: what is written stands at the place, and elsewhere it is the old store.
abbrev pub IsNewStore : Place → List ℕ → List ℕ → Type 0
IsNewStore place old new = IsPut place.span old new place.bytes

-- whether one update may bring the two bytes of a length (MLc)
abbrev pub HasPieces : How → List ℕ → Type 0
HasPieces T2 store = Unit {0}
HasPieces T4 store = 2 ≤ most_written (container_in store)
HasPieces (T5 id) store = Unit {0}

-- A store takes a message at a place: it holds one there, is free to write, has room, and takes updates of two bytes.
pub record Takes (how : How) (size : ℕ) (store message : List ℕ) (place : Place) : Type 0 where
  pub holds : IsPlaceIn how size store message place
  pub free : IsAccess how size store true
  pub fits : length message ≤ place.room
  pub pieces : HasPieces how store

-- it takes it at none
abbrev pub TakesNot : How → ℕ → List ℕ → List ℕ → Type 0
TakesNot how size store message = (place : Place) → Takes how size store message place → ⊥
