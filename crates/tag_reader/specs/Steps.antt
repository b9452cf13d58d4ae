-- What the parts of a reading say. No public contract speaks of these.
use Rattle.std.specs.Prelude.{◌≡◌, ℕ, ◌+◌, ◌*◌, ◌<◌, ◌≤◌, ◌⊎◌, List, [], ◌∷◌, ◌++◌, length, take, drop, false, Some}
use Rattle.std.specs.Prelude.{None, Result, Ok, Err, IfOk, IfErr}
use Rattle.nfc_base.specs.Signal.{Signal}
use Rattle.nfc_base.specs.TagLinks.{LinkView, after_all}
use Rattle.nfc_base.specs.declared.tag_link.AskFault.{AskFault}
use Rattle.nfc_base.specs.declared.tag_link.AskFault.TheVariants as ask
use Rattle.tlv_area.specs.declared.space.Space.{Space}
use Rattle.tlv_area.specs.declared.space.AreaMap.{AreaMap}
use Rattle.tlv_area.specs.declared.container.ContainerFault.{ContainerFault}
use Rattle.tlv_area.specs.declared.container.ContainerFault.TheVariants as container
use Rattle.tlv_area.specs.declared.walk.Walk.TheVariants as walk
use Rattle.tlv_area.specs.Layout.{bytes_at}
use Rattle.tlv_area.specs.Form.{Comes, End, Fault, Message}
use Rattle.tlv_area.specs.Map.{IsWalk, IsPlacedIn, message_cells}
use Rattle.tag_reader.specs.declared.how.How.{How}
use Rattle.tag_reader.specs.declared.how.How.TheVariants.{T2}
use Rattle.tag_reader.specs.declared.fault.ReadFault.{ReadFault}
use Rattle.tag_reader.specs.declared.fault.ReadFault.TheVariants as fault
use Rattle.tag_reader.specs.declared.found.Found.{Found}
use Rattle.tag_reader.specs.Kinds.{area_of, command, first, IsStoreForm, IsTag, OfTag}
use Rattle.tag_reader.specs.Asked.{Aim, ToRead, AreDueFor}
use Rattle.tag_reader.specs.Calls.{Stays, last_of, HasAskedFor, HasAskedAllFor, GoesOn, ByLink}
use Rattle.tag_reader.specs.Reading.{IsFound, IsReadFault, IsCalm, IsToldOrMemory, OnTold}

-- the fault of a reading for a fault of the link, and for one of the container
abbrev pub of_link : AskFault → ReadFault
of_link ask.FieldLost = fault.FieldLost
of_link ask.SixBad = fault.SixBad
of_link ask.Memory = fault.Memory
of_link ask.Protocol = fault.Protocol

abbrev pub of_container : ContainerFault → ReadFault
of_container container.NotNdef = fault.NotNdef
of_container container.Version = fault.Version
of_container container.NoRead = fault.NoRead
of_container container.Sectors = fault.Sectors
of_container container.BadSize = fault.BadSize

-- the k-th READ asks for blocks of the store first
abbrev pub IsInReach : List ℕ → ℕ → Type 0
IsInReach store k = 16 * k < length store

-- What READs give goes on with the store's first bytes behind its last, as a Type 2 tag's does.
abbrev pub rolling : List ℕ → List ℕ
rolling store = store ++ store

-- want of memory of a reader whose link goes on, or a fault of the link with its cause
abbrev pub IsLinkFault : LinkView → LinkView → ReadFault → Type 0
IsLinkFault a b e = ((e ≡ fault.Memory) × (b.over ≡ None)) ⊎ ((f : AskFault) × (e ≡ of_link f) × ByLink a b f)

-- A command was answered.
pub record Answers (c : Signal) (a b : LinkView) : Type 0 where
  pub stays : Stays a b
  pub before : a.over ≡ None
  pub goes_on : GoesOn a b
  pub answered : b.answered ≡ a.answered ++ c ∷ []
  pub last : b.last ≡ Some c
  pub after : b.state ≡ (a.step a.state c).after

-- The k-th READ of a Type 2 tag was, and more is known then.
pub record Learns (size k : ℕ) (a b : LinkView) (known known' : List ℕ) : Type 0 where
  pub answers : Answers (command T2 size a.state.store k) a b
  pub grown : known' ≡ known ++ take size (drop (size * k) (rolling a.state.store))
  pub state : b.state ≡ a.state

-- It wasn't, or its answer found no memory.
pub record Fails (c : Signal) (a b : LinkView) (e : ReadFault) : Type 0 where
  pub stays : Stays a b
  pub fault' : IsLinkFault a b e
  pub asked : ((b.answered ≡ a.answered) × (((b.last ≡ a.last) × (b.over ≡ a.over)) ⊎ (b.last ≡ Some c)))
      ⊎ ((b.answered ≡ a.answered ++ c ∷ []) × (b.last ≡ Some c) × (b.over ≡ a.over))
  pub calm : a.over ≡ None → a.dark ≡ false → b.noise ≡ a.noise → e ≡ fault.Memory

abbrev pub AsksNext : {A : Type 0} → ℕ → ℕ → LinkView → LinkView → List ℕ → List ℕ → Result A ReadFault → Type 0
AsksNext size k a b known known' (Ok done) = Learns size k a b known known'
AsksNext size k a b known known' (Err e) = Fails (command T2 size a.state.store k) a b e

abbrev pub AsksNextOf : {A : Type 0} → ℕ → LinkView → LinkView → List ℕ → List ℕ → Result A ReadFault → Type 0
AsksNextOf k a b known known' result = OfTag T2 a (λ size. IsInReach a.state.store k
    → AsksNext size k a b known known' result)

-- A reading or a survey under way, of a tag of whatever kind: the first n commands are answered, n not 0.
pub record Asks (aim : Aim) (how : How) (size : ℕ) (a b : LinkView) (n : ℕ) : Type 0 where
  pub stays : Stays a b
  pub before : a.over ≡ None
  pub goes_on : GoesOn a b
  pub each : AreDueFor aim how size a.state.store n
  pub answered : b.answered ≡ a.answered ++ first how size a.state.store n
  pub last : b.last ≡ last_of how size a.state.store a n
  pub after : b.state ≡ after_all a.step a.state (first how size a.state.store n)

-- READs of a Type 2 tag under way: the first n + 1 are answered, and gave these bytes.
pub record Knows (aim : Aim) (size : ℕ) (a b : LinkView) (known : List ℕ) (n : ℕ) : Type 0 where
  pub stays : Stays a b
  pub before : a.over ≡ None
  pub goes_on : GoesOn a b
  pub each : AreDueFor aim T2 size a.state.store (n + 1)
  pub answered : b.answered ≡ a.answered ++ first T2 size a.state.store (n + 1)
  pub last : b.last ≡ Some (command T2 size a.state.store n)
  pub after : b.state ≡ after_all a.step a.state (first T2 size a.state.store (n + 1))
  pub state : b.state ≡ a.state
  pub bytes : known ≡ take (size * (n + 1)) (rolling a.state.store)
  pub tag : IsTag T2 size b

-- The area that the container names is known to be there. It ends in the store.
pub record Walks (aim : Aim) (size : ℕ) (a b : LinkView) (known : List ℕ) (space : Space) (n : ℕ) : Type 0 where
  pub knows : Knows aim size a b known n
  pub area : area_of T2 size a.state.store ≡ Ok space
  pub order : space.start ≤ space.end
  pub within : space.end ≤ length a.state.store

-- A message is found: where it lies, and that the bytes that are known have it.
pub record IsMapFound (how : How) (size : ℕ) (store known : List ℕ) (map' : AreaMap) : Type 0 where
  pub area : area_of how size store ≡ Ok map'.space
  pub found : IsWalk map'.space store (walk.Held map')
  pub placed : IsPlacedIn known map'
  pub held : IsStoreForm how size store (Message (bytes_at known (message_cells map')))

abbrev pub Tells : How → ℕ → List ℕ → LinkView → LinkView → List ℕ → Result AreaMap ReadFault → Type 0
Tells how size store a b known (Ok map') = IsMapFound how size store known map'
Tells how size store a b known (Err e) = IsReadFault how size store a b e

-- Where all transmissions pass, a reading tells what the store holds, or finds no memory.
abbrev pub Calms : LinkView → LinkView → Result AreaMap ReadFault → Type 0
Calms a b (Ok map') = Unit {0}
Calms a b (Err e) = a.over ≡ None → a.dark ≡ false → b.noise ≡ a.noise → IsToldOrMemory e

-- The end of a reading, but for its message.
pub record Reads (aim : Aim) (how : How) (size : ℕ) (a b : LinkView) (known : List ℕ)
    (result : Result AreaMap ReadFault) : Type 0 where
  pub stays : Stays a b
  pub asked : HasAskedFor aim how size a.state.store a b
  pub whole : OnTold result (HasAskedAllFor aim how size a.state.store a b)
  pub goes_on : OnTold result (GoesOn a b)
  pub tells : Tells how size a.state.store a b known result
  pub calm : Calms a b result

-- A reading or a survey, of a tag of whatever kind, from its first view of the link to its last: what it gives is this.
pub record Concludes {A : Type 0} (aim : Aim) (gives : A → Type 0) (how : How) (size : ℕ) (a b : LinkView)
    (result : Result A ReadFault) : Type 0 where
  pub stays : Stays a b
  pub asked : HasAskedFor aim how size a.state.store a b
  pub whole : OnTold result (HasAskedAllFor aim how size a.state.store a b)
  pub goes_on : OnTold result (GoesOn a b)
  pub ok : IfOk result gives
  pub err : IfErr result (IsReadFault how size a.state.store a b)
  pub calm : IsCalm a b → IfErr result IsToldOrMemory

abbrev pub IsRead : How → ℕ → LinkView → LinkView → Result Found ReadFault → Type 0
IsRead how size a b result = Concludes ToRead (IsFound how size a.state.store) how size a b result

abbrev pub ReadsTag : How → LinkView → LinkView → Result Found ReadFault → Type 0
ReadsTag how a b result = OfTag how a (λ size. IsRead how size a b result)

-- the first READ of a Type 2 tag has the container
abbrev pub OpensArea : Aim → LinkView → LinkView → List ℕ → Result Space ReadFault → Type 0
OpensArea aim a b known (Ok space) = OfTag T2 a (λ size. Walks aim size a b known space 0)
OpensArea aim a b known (Err e) = OfTag T2 a (λ size. Reads aim T2 size a b known (Err e))

abbrev pub ReadsMap : LinkView → LinkView → List ℕ → Result AreaMap ReadFault → Type 0
ReadsMap a b known result = OfTag T2 a (λ size. Reads ToRead T2 size a b known result)

-- the fault of an area that ends where the memory does
abbrev pub IsCutFault : Space → List ℕ → ReadFault → Type 0
IsCutFault space memory e =
    ((e ≡ fault.NoMessageTlv) × Comes (record space { end = length memory }) memory End)
    ⊎ ((e ≡ fault.BadTlv) × Comes (record space { end = length memory }) memory Fault)
