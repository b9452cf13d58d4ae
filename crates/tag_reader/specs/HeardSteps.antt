-- What the parts of a reading say, whatever the tag does. No public contract speaks of these.
use Rattle.std.specs.Prelude.{◌≡◌, ℕ, ◌+◌, ◌-◌, ◌*◌, ◌<◌, ◌≤◌, ◌⊎◌, min, List, [], ◌∷◌, ◌++◌, length, false, None}
use Rattle.std.specs.Prelude.{Result, Ok, Err}
use Rattle.nfc_base.specs.Signal.{Signal}
use Rattle.nfc_base.specs.TagLinks.{LinkView, Rises}
use Rattle.tlv_area.specs.declared.container.FileMap.{FileMap}
use Rattle.tlv_area.specs.declared.space.Space.{Space}
use Rattle.tlv_area.specs.declared.space.AreaMap.{AreaMap}
use Rattle.tlv_area.specs.Containers.{t4_container}
use Rattle.tlv_area.specs.Layout.{bytes_at}
use Rattle.tlv_area.specs.Form.{IsForm, Message}
use Rattle.tlv_area.specs.declared.walk.Walk.TheVariants as walk
use Rattle.tlv_area.specs.Map.{IsWalk, IsPlacedIn, message_cells}
use Rattle.tag_reader.specs.declared.how.How.{How}
use Rattle.tag_reader.specs.declared.how.How.TheVariants.{T2, T4}
use Rattle.tag_reader.specs.declared.fault.ReadFault.{ReadFault}
use Rattle.tag_reader.specs.declared.fault.ReadFault.TheVariants as fault
use Rattle.tag_reader.specs.Kinds.{area_of}
use Rattle.tag_reader.specs.Heard.{HasContent, Refuses, IsBrought, IsFaultBy, IsMessage, HasContainer, HasHead, HasFile}
use Rattle.tag_reader.specs.Heard.{tag_after, joined, first_size}

-- an answer of no form that a command is answered by
pub record HasNoForm (how : How) (r : Signal) : Type 0 where
  pub no_content : (p : List ℕ) → ¬ HasContent how r p
  pub no_refusal : (code : ℕ) → ¬ Refuses how r code

-- what one answer tells of a Type 2 or a Type 4 tag
abbrev pub TellsFault : How → Signal → ReadFault → Type 0
TellsFault how r (fault.Refused code) = Refuses how r code
TellsFault how r fault.Protocol = HasNoForm how r
TellsFault how r _ = ⊥

-- Since one view of a link it went on to another.
pub record Went (a b : LinkView) : Type 0 where
  pub over : b.over ≡ None
  pub lit : b.dark ≡ false
  pub rises : Rises a b

-- Where the link is over behind a command, nothing more was answered.
abbrev pub IsCut : LinkView → LinkView → Type 0
IsCut a b = (b.over ≡ None) ⊎ (b.answered ≡ a.answered)

-- A reading under way: it brought these pieces.
pub record Under (how : How) (a b : LinkView) (ps : List (List ℕ)) : Type 0 where
  pub kind : b.kind ≡ a.kind
  pub identifier : b.identifier ≡ a.identifier
  pub step : b.step ≡ a.step
  pub state : b.state ≡ tag_after how a ps
  pub brought : IsBrought how a b ps
  pub link : ((ps ≡ []) × (b ≡ a)) ⊎ Went a b

-- it goes on so, or it has ended by a fault
abbrev pub OrFault : {A : Type 0} → (A → Type 0) → How → LinkView → LinkView → Result A ReadFault → Type 0
OrFault P how a b (Ok x) = P x
OrFault P how a b (Err e) = IsFaultBy how a b e

-- one READ more of a Type 2 tag: it brings four blocks
pub record Gains (a b : LinkView) (ps : List (List ℕ)) (known known' : List ℕ) : Type 0 where
  pub piece : List ℕ
  pub size : length piece ≡ 16
  pub under : Under T2 a b (ps ++ piece ∷ [])
  pub grown : known' ≡ known ++ piece

-- The walk over what READs brought is due.
pub record Looks (a b : LinkView) (known : List ℕ) (space : Space) (index : ℕ) : Type 0 where
  pub ps : List (List ℕ)
  pub under : Under T2 a b ps
  pub known' : known ≡ joined ps
  pub count : length ps ≡ index + 1
  pub whole : length known ≡ 16 * (index + 1)
  pub area : area_of T2 (first_size ps) known ≡ Ok space

-- a map is found
pub record Sees (how : How) (a b : LinkView) (known : List ℕ) (map' : AreaMap) : Type 0 where
  pub ps : List (List ℕ)
  pub brought : IsBrought how a b ps
  pub over : b.over ≡ None
  pub known' : known ≡ joined ps
  pub some : 0 < length ps
  pub area : area_of how (first_size ps) known ≡ Ok map'.space
  pub whole : HasContainer how known
  pub walk : IsWalk map'.space known (walk.Held map')
  pub placed : IsPlacedIn known map'
  pub held : IsForm map'.space known (Message (bytes_at known (message_cells map')))

abbrev pub SeesMap : How → LinkView → LinkView → List ℕ → Result AreaMap ReadFault → Type 0
SeesMap how a b known result = OrFault (Sees how a b known) how a b result

-- the application and the container of a Type 4 tag are selected
pub record HasSelected (a b : LinkView) : Type 0 where
  pub application : List ℕ
  pub container : List ℕ
  pub under : Under T4 a b (application ∷ container ∷ [])

-- the container of a Type 4 tag is read, and names a file
pub record Opened (a b : LinkView) (map' : FileMap) : Type 0 where
  pub head : List ℕ
  pub ps : List (List ℕ)
  pub under : Under T4 a b ps
  pub pieces : HasHead ps head
  pub names : t4_container head ≡ Ok map'

-- the length of its message is read, and some of its parts
pub record HasParts (a b : LinkView) (map' : FileMap) (n : ℕ) (parts : List (List ℕ)) : Type 0 where
  pub ps : List (List ℕ)
  pub under : Under T4 a b ps
  pub file : HasFile ps map' n parts
  pub fits : n ≤ map'.size - 2

abbrev pub Measured : LinkView → LinkView → FileMap → ℕ → Type 0
Measured a b map' n = HasParts a b map' n []

-- the first k parts are read
pub record HasRead (a b : LinkView) (map' : FileMap) (n most : ℕ) (message : List ℕ) (k : ℕ) : Type 0 where
  pub parts : List (List ℕ)
  pub has : HasParts a b map' n parts
  pub count : length parts ≡ k
  pub bytes : message ≡ joined parts
  pub size : length message ≡ min n (most * k)

-- all of them
pub record ReadAll (a b : LinkView) (map' : FileMap) (n : ℕ) (message : List ℕ) : Type 0 where
  pub parts : List (List ℕ)
  pub has : HasParts a b map' n parts
  pub whole : IsMessage n parts message
