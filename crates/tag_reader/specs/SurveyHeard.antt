-- What the answers of a tag tell a writer that surveys it, whatever the tag does (NFC Forum Type 2, Type 4 and Type 5
-- Tag): the same pieces as they bring a reader, and the ground that they say.
use Rattle.std.specs.Prelude.{◌≡◌, ℕ, ◌-◌, ◌<◌, ◌≤◌, List, [], ◌∷◌, ◌++◌, length, take, Bool, true, false, None, Result}
use Rattle.std.specs.Prelude.{Ok, Err}
use Rattle.nfc_base.specs.Signal.{Signal}
use Rattle.nfc_base.specs.TagLinks.{LinkView, after_all}
use Rattle.tlv_area.specs.declared.space.Space.{Space}
use Rattle.tlv_area.specs.declared.space.AreaMap.{AreaMap}
use Rattle.tlv_area.specs.declared.container.ContainerFault.{ContainerFault}
use Rattle.tlv_area.specs.declared.container.FileMap.{FileMap}
use Rattle.tlv_area.specs.declared.walk.Walk.TheVariants as walk
use Rattle.tlv_area.specs.Stores.{cut_by}
use Rattle.tlv_area.specs.Map.{IsWalk}
use Rattle.tag_reader.specs.declared.how.How.{How}
use Rattle.tag_reader.specs.declared.how.How.TheVariants.{T2, T4, T5}
use Rattle.tag_reader.specs.declared.fault.ReadFault.{ReadFault}
use Rattle.tag_reader.specs.declared.ground.Ground.{Ground}
use Rattle.tag_reader.specs.declared.ground.Ground.TheVariants.{Area, File}
use Rattle.tag_reader.specs.Kinds.{area_of}
use Rattle.tag_reader.specs.Survey.{block_size}
use Rattle.tag_reader.specs.Heard.{joined, first_size, next_command, asked_for, EndsTag, IsBrought, IsStopped}
use Rattle.tag_reader.specs.Heard.{HasContainer, HasFile, IsFaultBy}

-- What was asked: the commands that these pieces answer and, where the tag has ended, the one whose answer told so.
abbrev pub surveyed_by : How → List (List ℕ) → Bool → List Signal
surveyed_by how ps false = asked_for how [] ps
surveyed_by how ps true = asked_for how [] ps ++ next_command how ps ∷ []

-- All that was answered between two views brought these pieces, or all but the last, which told that the tag has ended.
abbrev pub IsHeard : How → LinkView → LinkView → List (List ℕ) → Bool → Type 0
IsHeard how a b ps false = IsBrought how a b ps × (b.over ≡ None)
IsHeard how a b ps true = (r : Signal) × IsStopped how a b ps r × EndsTag how ps r

-- the area that the pieces name, as far as the tag goes
abbrev pub area_heard : How → List (List ℕ) → Bool → Result Space ContainerFault
area_heard how ps false = area_of how (first_size ps) (joined ps)
area_heard how ps true = cut_by (area_of how (first_size ps) (joined ps)) (length (joined ps))

-- What is known: the bytes of the pieces, of a Type 2 tag those up to the area's end.
abbrev pub known_heard : How → ℕ → List ℕ → List ℕ
known_heard T2 end bytes = take end bytes
known_heard T4 end bytes = bytes
known_heard (T5 id) end bytes = bytes

-- The pieces have all of that area, and it holds a message.
pub record IsAreaHeard (how : How) (ps : List (List ℕ)) (ended : Bool) (known : List ℕ) (block : ℕ) (map' : AreaMap)
    : Type 0 where
  pub some : 0 < length ps
  pub container : HasContainer how (joined ps)
  pub area : area_heard how ps ended ≡ Ok map'.space
  pub size' : block ≡ block_size how (first_size ps)
  pub bytes : known ≡ known_heard how map'.space.end (joined ps)
  pub whole : map'.space.end ≤ length known
  pub seen : IsWalk map'.space known (walk.Held map')

-- The pieces have the container of a Type 4 tag, and the length of a message that doesn't pass the end of its file.
pub record IsFileHeard (how : How) (ps : List (List ℕ)) (ended : Bool) (map' : FileMap) (length' : ℕ) : Type 0 where
  pub kind : how ≡ T4
  pub goes_on : ended ≡ false
  pub file : HasFile ps map' length' []
  pub fits : length' ≤ map'.size - 2

abbrev pub IsGroundHeard : How → List (List ℕ) → Bool → Ground → Type 0
IsGroundHeard how ps ended (Area known block map') = IsAreaHeard how ps ended known block map'
IsGroundHeard how ps ended (File map' length') = IsFileHeard how ps ended map' length'

-- The link leads to the same tag, which is as these commands leave it.
pub record IsLeftBy (a b : LinkView) (commands : List Signal) : Type 0 where
  pub kind : b.kind ≡ a.kind
  pub identifier : b.identifier ≡ a.identifier
  pub step : b.step ≡ a.step
  pub state : b.state ≡ after_all a.step a.state commands

-- A survey found this ground: all that was answered says it.
pub record IsSurveyedBy (how : How) (a b : LinkView) (ground : Ground) : Type 0 where
  pub ps : List (List ℕ)
  pub ended : Bool
  pub heard : IsHeard how a b ps ended
  pub left : IsLeftBy a b (surveyed_by how ps ended)
  pub ground' : IsGroundHeard how ps ended ground

-- the pieces say all that a writer needs to know of the tag
abbrev pub SaysGround : How → List (List ℕ) → Type 0
SaysGround how ps = (ground : Ground) × IsGroundHeard how ps false ground

-- Where the link is over, what was answered says no ground: nothing was asked that a survey doesn't need.
abbrev pub AsksWhatItNeeds : How → LinkView → LinkView → Type 0
AsksWhatItNeeds how a b = (ps : List (List ℕ)) → IsBrought how a b ps → SaysGround how ps → b.over ≡ None

-- Why a survey found no ground: a fault as of a reading and, where the link ended it, no ground was said yet.
pub record IsUnsurveyedBy (how : How) (a b : LinkView) (e : ReadFault) : Type 0 where
  pub by : IsFaultBy how a b e
  pub needs : AsksWhatItNeeds how a b

-- what a survey tells, whatever the tag
abbrev pub IsGroundToldBy : How → LinkView → LinkView → Result Ground ReadFault → Type 0
IsGroundToldBy how a b (Ok ground) = IsSurveyedBy how a b ground
IsGroundToldBy how a b (Err e) = IsUnsurveyedBy how a b e
