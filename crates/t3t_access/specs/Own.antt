-- Reading a Type 3 tag that keeps to its table.
use Rattle.std.specs.Prelude.{◌≡◌, ℕ, ◌<◌, ◌⊎◌, List, ◌++◌, length, Bool, Some, Result, Ok, Err, IfOk, IfErr}
use Rattle.std.specs.List.{AllByRecursion}
use Rattle.nfc_base.specs.Signal.{Signal}
use Rattle.nfc_base.specs.TagLinks.{LinkView, TagState, Type3, MayAsk, Leads, passed}
use Rattle.nfc_base.specs.declared.tag_link.AskFault.TheVariants as ask
use Rattle.t3t_tag.specs.Store.{IsT3Store, attributes, id_size}
use Rattle.t3t_tag.specs.Form.{NotNdef, Version, BadSize, Unfinished, Message, IsT3Form, is_writable}
use Rattle.t3t_tag.specs.Linked.{t3_step}
use Rattle.t3t_access.specs.declared.fault.T3Fault.{T3Fault}
use Rattle.t3t_access.specs.declared.fault.T3Fault.TheVariants as fault
use Rattle.t3t_access.specs.declared.found.Found3.{Found3}
use Rattle.t3t_access.specs.Talk.{IsOf, ByLink, IsCalm, last_of}
use Rattle.t3t_access.specs.Reading.{check_at, first_checks, IsDue}

-- A link to a Type 3 tag of this identifier and these locked blocks, with a store that a new tag may have.
pub record IsTag3 (id : List ℕ) (locked : List Bool) (v : LinkView) : Type 0 where
  pub of : IsOf id v
  pub size : length id ≡ id_size
  pub store : IsT3Store v.state.store
  pub steps : (s : TagState) (c : Signal) → MayAsk Type3 id c → v.step s c ≡ t3_step id locked s c

-- Calls led from one view of a link to another, and each of the tag's stores in them is the one before.
pub record Stays (a b : LinkView) : Type 0 where
  pub more : List Signal
  pub leads : Leads a b more
  pub images : AllByRecursion (λ s. s ≡ a.state.store) (passed a.step a.state more)

-- Why a reading gives no message: by the form of the store, or by the link. Such a tag refuses no Check that is asked,
-- and answers nothing odd. Want of memory may be the reader's own.
abbrev pub IsReadFault3 : LinkView → LinkView → T3Fault → Type 0
IsReadFault3 a b fault.NotNdef = IsT3Form a.state.store NotNdef
IsReadFault3 a b fault.Version = IsT3Form a.state.store Version
IsReadFault3 a b fault.BadSize = IsT3Form a.state.store BadSize
IsReadFault3 a b fault.Unfinished = IsT3Form a.state.store Unfinished
IsReadFault3 a b fault.FieldLost = ByLink a b ask.FieldLost
IsReadFault3 a b fault.SixBad = ByLink a b ask.SixBad
IsReadFault3 a b fault.Protocol = ByLink a b ask.Protocol
IsReadFault3 a b fault.Memory = (b.over ≡ a.over) ⊎ ByLink a b ask.Memory
IsReadFault3 a b e = ⊥

-- it ended by what the store holds, or for want of memory, and not by the link
abbrev pub IsToldOrMemory : T3Fault → Type 0
IsToldOrMemory fault.FieldLost = ⊥
IsToldOrMemory fault.SixBad = ⊥
IsToldOrMemory fault.Protocol = ⊥
IsToldOrMemory e = Unit {0}

pub record IsRead3 (a b : LinkView) (result : Result Found3 T3Fault) : Type 0 where
  pub stays : Stays a b
  pub ok : IfOk result (λ found. IsT3Form a.state.store (Message found.message.items)
      × (found.writable ≡ is_writable a.state.store))
  pub err : IfErr result (IsReadFault3 a b)
  pub calm : IsCalm a b → IfErr result IsToldOrMemory

-- What was answered is the first of what is asked of such a store: the Check of block 0, and the others while they are
-- due. The last one that was asked is the last of these, and ended no link, or the next.
pub record AsksInOrder (id : List ℕ) (a b : LinkView) (count : ℕ) : Type 0 where
  pub due : (k : ℕ) → k < count → IsDue (attributes a.state.store) k
  pub answered : b.answered ≡ a.answered ++ first_checks id (attributes a.state.store) count
  pub last : ((b.last ≡ last_of a.last (first_checks id (attributes a.state.store) count)) × (b.over ≡ a.over))
      ⊎ ((b.last ≡ Some (check_at id (attributes a.state.store) count)) × IsDue (attributes a.state.store) count)

-- a message, or a fault of the store, is told once no other one is due
abbrev pub IsWhole : LinkView → ℕ → Result Found3 T3Fault → Type 0
IsWhole a count (Ok found) = IsDue (attributes a.state.store) count → ⊥
IsWhole a count (Err fault.NotNdef) = IsDue (attributes a.state.store) count → ⊥
IsWhole a count (Err fault.Version) = IsDue (attributes a.state.store) count → ⊥
IsWhole a count (Err fault.BadSize) = IsDue (attributes a.state.store) count → ⊥
IsWhole a count (Err fault.Unfinished) = IsDue (attributes a.state.store) count → ⊥
IsWhole a count (Err e) = Unit {0}

pub record Asks3 (id : List ℕ) (a b : LinkView) (result : Result Found3 T3Fault) : Type 0 where
  pub count : ℕ
  pub asks : AsksInOrder id a b count
  pub whole : IsWhole a count result

-- where the link leads to such a tag
abbrev pub AsksOf3 : List ℕ → LinkView → LinkView → Result Found3 T3Fault → Type 0
AsksOf3 id a b result = (locked : List Bool) → IsTag3 id locked a → Asks3 id a b result

abbrev pub Reads3 : List ℕ → LinkView → LinkView → Result Found3 T3Fault → Type 0
Reads3 id a b result = (locked : List Bool) → IsTag3 id locked a → IsRead3 a b result
