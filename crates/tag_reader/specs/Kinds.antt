-- The kinds of tags that a reader knows (NFC Forum Type 2, Type 4 and Type 5 Tag): which stores they have, which area a
-- store names and what it holds, and which commands ask for its bytes in their order. Files.antt says it of a Type 4
-- tag.
use Rattle.std.specs.Prelude.{◌≡◌, ℕ, zero, suc, ◌*◌, List, [], ◌∷◌, ◌++◌, length, Bool, None, Result, Err, ◌<◌, ◌≤◌}
use Rattle.std.specs.Prelude.{slice_index}
use Rattle.nfc_base.specs.Signal.{Signal}
use Rattle.nfc_base.specs.TagLinks.{TagKind, Type2, Type4, Type5, TagState, TagStep, LinkView, MayAsk}
use Rattle.t2t_tag.specs.Store.{IsT2Store, T2Memory}
use Rattle.t2t_tag.specs.Step.{four_blocks, t2_answer, t2_after}
use Rattle.t2t_tag.specs.Spelling as t2
use Rattle.t2t_tag.specs.declared.command.T2Command.TheVariants as t2_command
use Rattle.t2t_tag.specs.declared.answer.T2Answer.TheVariants as t2_says
use Rattle.t5t_tag.specs.Store.{IsT5Store, T5State, id_size}
use Rattle.t5t_tag.specs.Step.{t5_answer, t5_after}
use Rattle.tlv_area.specs.declared.space.Space.{Space}
use Rattle.tlv_area.specs.declared.container.ContainerFault.{ContainerFault}
use Rattle.tlv_area.specs.declared.container.ContainerFault.TheVariants.{NotNdef}
use Rattle.tlv_area.specs.Containers.{t2_container}
use Rattle.tlv_area.specs.Form.{Form}
use Rattle.tlv_area.specs.Stores.{four_bytes, t5_area, IsT2Form, IsT5Form}
use Rattle.tag_reader.specs.declared.how.How.{How}
use Rattle.tag_reader.specs.declared.how.How.TheVariants.{T2, T4, T5}
use Rattle.tag_reader.specs.Blocks.{ask_frame, ask_at, progress_at}
use Rattle.tag_reader.specs.Files.{IsFileStore, t4_form, file_command, file_frame, t4_link_step}

-- A store that a tag has, and how many bytes are read at once: 16 of a Type 2 tag, a block of a Type 5 tag. The number
-- says nothing of a Type 4 tag, whose container says how many bytes a read may ask for.
abbrev pub IsStore : How → ℕ → List ℕ → Type 0
IsStore T2 size store = (size ≡ 16) × IsT2Store store
IsStore T4 size store = IsFileStore store
IsStore (T5 id) size store = IsT5Store size store

-- The area that a store's container names. That of a Type 5 tag ends where block numbers do at the latest. A Type 4 tag
-- has a file in the place of an area, and none is named.
abbrev pub area_of : How → ℕ → List ℕ → Result Space ContainerFault
area_of T2 size store = t2_container (four_bytes store 12)
area_of T4 size store = Err NotNdef
area_of (T5 id) size store = t5_area size store

-- the form of a store
abbrev pub IsStoreForm : How → ℕ → List ℕ → Form → Type 0
IsStoreForm T2 size store f = IsT2Form store f
IsStoreForm T4 size store f = f ≡ t4_form store
IsStoreForm (T5 id) size store f = IsT5Form size store f

-- The command that is the k-th, counted from 0, of those that ask for what a store holds: a READ of four blocks of a
-- Type 2 tag, of one block or of several of a Type 5 tag, or a command of a Type 4 tag.
abbrev pub command : How → ℕ → List ℕ → ℕ → Signal
command T2 size store k = t2.command_frame (t2_command.Read (4 * k))
command T4 size store k = file_frame (file_command store k)
command (T5 id) size store k = ask_frame id (ask_at size store (progress_at size store k))

-- the first so many of them
abbrev pub first : How → ℕ → List ℕ → ℕ → List Signal
first how size store zero = []
first how size store (suc n) = first how size store n ++ command how size store n ∷ []

-- what a Type 2 tag answers to the k-th READ
abbrev pub reply : List ℕ → ℕ → Signal
reply store k = t2.answer_frame (t2_says.Content (four_blocks store (4 * k)))

-- The tag behind a link, of which the link's state shows the store.
abbrev pub t2_memory : List Bool → TagState → T2Memory
t2_memory locked s = record { store = s.store; locked = locked }

abbrev pub t2_step : List Bool → TagState → Signal → TagStep
t2_step locked s c = record {
  answer = t2_answer (t2_memory locked s) c;
  after = record s { store = (t2_after (t2_memory locked s) c).store };
}

abbrev pub t5_memory : List ℕ → ℕ → List Bool → Bool → TagState → T5State
t5_memory id size locked quiet s = record {
  id = id;
  size = size;
  store = s.store;
  locked = locked;
  quiet = quiet;
  round = None;
}

abbrev pub t5_step : List ℕ → ℕ → List Bool → Bool → TagState → Signal → TagStep
t5_step id size locked quiet s c = record {
  answer = t5_answer (t5_memory id size locked quiet s) c;
  after = record s { store = (t5_after (t5_memory id size locked quiet s) c).store };
}

-- A tag's step on what it may be asked is the one of its kind. What a Type 5 tag answers to a command with its
-- identifier depends neither on whether it was told to stay quiet nor on a round of slots.
abbrev pub Steps : How → ℕ → LinkView → Type 0
Steps T2 size v = (locked : List Bool)
    × ((s : TagState) (c : Signal) → IsT2Store s.store → MayAsk Type2 v.identifier c → v.step s c ≡ t2_step locked s c)
Steps T4 size v = (code : ℕ) × (code ≤ 8)
    × ((s : TagState) (c : Signal) → IsFileStore s.store → MayAsk Type4 v.identifier c
    → v.step s c ≡ t4_link_step code s c)
Steps (T5 id) size v = (locked : List Bool) × (quiet : Bool)
    × ((s : TagState) (c : Signal) → IsT5Store size s.store → MayAsk Type5 id c
    → v.step s c ≡ t5_step id size locked quiet s c)

abbrev pub kind_of : How → TagKind
kind_of T2 = Type2
kind_of T4 = Type4
kind_of (T5 id) = Type5

-- a Type 5 tag has this identifier, eight bytes
abbrev pub IsNamed : How → List ℕ → Type 0
IsNamed T2 identifier = Unit {0}
IsNamed T4 identifier = Unit {0}
IsNamed (T5 id) identifier = (identifier ≡ id) × (length id ≡ id_size) × ((i : ℕ) → slice_index id i < 256)

-- a link to a tag of this kind
pub record IsTag (how : How) (size : ℕ) (v : LinkView) : Type 0 where
  pub kind : v.kind ≡ kind_of how
  pub named : IsNamed how v.identifier
  pub store : IsStore how size v.state.store
  pub steps : Steps how size v

-- where the link led to a tag of this kind: what holds for the number of bytes that are read at once
abbrev pub OfTag : How → LinkView → (ℕ → Type 0) → Type 0
OfTag how a P = (size : ℕ) → IsTag how size a → P size
