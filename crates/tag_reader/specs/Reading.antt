-- What a reading answers.
use Rattle.std.specs.Prelude.{◌≡◌, ℕ, ◌⊎◌, List, Bool, true, false, None, Result, Ok, Err, IfOk, IfErr}
use Rattle.nfc_base.specs.TagLinks.{LinkView}
use Rattle.nfc_base.specs.declared.tag_link.AskFault.TheVariants as ask
use Rattle.tlv_area.specs.declared.container.ContainerFault.TheVariants as container
use Rattle.tlv_area.specs.declared.container.FileMap.{FileMap}
use Rattle.tlv_area.specs.declared.walk.Walk.TheVariants as walk
use Rattle.tlv_area.specs.Form.{Faulty, Message, NoMessageTlv, BadTlv}
use Rattle.tlv_area.specs.Map.{IsWalk}
use Rattle.tag_reader.specs.declared.how.How.{How}
use Rattle.tag_reader.specs.declared.how.How.TheVariants.{T2, T4, T5}
use Rattle.tag_reader.specs.declared.fault.ReadFault.{ReadFault}
use Rattle.tag_reader.specs.declared.fault.ReadFault.TheVariants as fault
use Rattle.tag_reader.specs.declared.found.Site.{Site}
use Rattle.tag_reader.specs.declared.found.Site.TheVariants.{Area, File}
use Rattle.tag_reader.specs.declared.found.Found.{Found}
use Rattle.tag_reader.specs.Files.{NamesFile}
use Rattle.tag_reader.specs.Kinds.{area_of, IsStoreForm, OfTag}
use Rattle.tag_reader.specs.Asked.{Aim}
use Rattle.tag_reader.specs.Calls.{Stays, HasAskedFor, HasAskedAllFor, GoesOn, ByLink}

-- a Type 4 tag's container names this file
abbrev pub IsFileOf : How → List ℕ → FileMap → Type 0
IsFileOf T2 store map' = ⊥
IsFileOf T4 store map' = NamesFile store map'
IsFileOf (T5 id) store map' = ⊥

-- Where the message lies: the map of the area that the container names, found over the store, or the file that it
-- names. A tag that ends before its area doesn't cut it.
abbrev pub IsSite : How → ℕ → List ℕ → Site → Bool → Type 0
IsSite how size store (Area map') writable =
    (area_of how size store ≡ Ok map'.space) × IsWalk map'.space store (walk.Held map')
    × (writable ≡ map'.space.writable)
IsSite how size store (File map') writable = IsFileOf how store map' × (writable ≡ map'.writable)

-- The message that a store holds, where it lies, and whether writing is free.
pub record IsFound (how : How) (size : ℕ) (store : List ℕ) (found : Found) : Type 0 where
  pub held : IsStoreForm how size store (Message found.message)
  pub site : IsSite how size store found.site found.writable

-- Each fault: of the store's form, or of the link. A tag of these kinds refuses no command that is asked. Want of
-- memory is the reader's own, and then the link isn't over, or it is that by which the link is over.
abbrev pub IsReadFault : How → ℕ → List ℕ → LinkView → LinkView → ReadFault → Type 0
IsReadFault how size store a b fault.NotNdef = IsStoreForm how size store (Faulty container.NotNdef)
IsReadFault how size store a b fault.Version = IsStoreForm how size store (Faulty container.Version)
IsReadFault how size store a b fault.NoRead = IsStoreForm how size store (Faulty container.NoRead)
IsReadFault how size store a b fault.Sectors = IsStoreForm how size store (Faulty container.Sectors)
IsReadFault how size store a b fault.BadSize = IsStoreForm how size store (Faulty container.BadSize)
IsReadFault how size store a b fault.NoMessageTlv = IsStoreForm how size store NoMessageTlv
IsReadFault how size store a b fault.BadTlv = IsStoreForm how size store BadTlv
IsReadFault how size store a b (fault.Refused code) = ⊥
IsReadFault how size store a b fault.FieldLost = ByLink a b ask.FieldLost
IsReadFault how size store a b fault.SixBad = ByLink a b ask.SixBad
IsReadFault how size store a b fault.Protocol = ByLink a b ask.Protocol
IsReadFault how size store a b fault.Memory = (b.over ≡ None) ⊎ ByLink a b ask.Memory

-- whether a reading ended by what the store holds, and not by the link or for want of memory
abbrev pub is_told : ReadFault → Bool
is_told fault.FieldLost = false
is_told fault.SixBad = false
is_told fault.Memory = false
is_told fault.Protocol = false
is_told _ = true

abbrev pub IsToldOrMemory : ReadFault → Type 0
IsToldOrMemory e = (is_told e ≡ true) ⊎ (e ≡ fault.Memory)

-- The link was lit and not over, and since then all transmissions passed or no count of what may end a link rose.
pub record IsCalm (a b : LinkView) : Type 0 where
  pub begun : a.over ≡ None
  pub lit : a.dark ≡ false
  pub calm : (b.noise ≡ a.noise) ⊎ (b.counts ≡ a.counts)

abbrev pub OnTold : {A : Type 0} → Result A ReadFault → Type 0 → Type 0
OnTold (Ok a) P = P
OnTold (Err e) P = is_told e ≡ true → P

-- A reading of a tag of this kind, from one view of the link to another. The store stays, in each image.
abbrev pub KeepsStore : How → LinkView → LinkView → Type 0
KeepsStore how a b = OfTag how a (λ size. Stays a b)

-- What was answered is the first of what is asked, and all of it where it tells what the store holds; then the link
-- goes on.
abbrev pub AsksInOrder : Aim → How → LinkView → LinkView → Type 0
AsksInOrder aim how a b = OfTag how a (λ size. HasAskedFor aim how size a.state.store a b)

abbrev pub AsksAll : {A : Type 0} → Aim → How → LinkView → LinkView → Result A ReadFault → Type 0
AsksAll aim how a b result = OfTag how a (λ size. OnTold result (HasAskedAllFor aim how size a.state.store a b))

abbrev pub LeavesLink : {A : Type 0} → How → LinkView → LinkView → Result A ReadFault → Type 0
LeavesLink how a b result = OfTag how a (λ size. OnTold result (GoesOn a b))

-- It tells the message that the store holds, or a fault with its cause; in calm the link is no cause.
abbrev pub TellsMessage : How → LinkView → Result Found ReadFault → Type 0
TellsMessage how a result = OfTag how a (λ size. IfOk result (IsFound how size a.state.store))

abbrev pub TellsCause : {A : Type 0} → How → LinkView → LinkView → Result A ReadFault → Type 0
TellsCause how a b result = OfTag how a (λ size. IfErr result (IsReadFault how size a.state.store a b))

abbrev pub TellsInCalm : {A : Type 0} → How → LinkView → LinkView → Result A ReadFault → Type 0
TellsInCalm how a b result = OfTag how a (λ size. IsCalm a b → IfErr result IsToldOrMemory)
