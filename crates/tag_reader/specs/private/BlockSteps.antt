-- What the parts of a reading of a Type 5 tag say. No public contract speaks of these.
use Rattle.std.specs.Prelude.{◌≡◌, ℕ, zero, suc, ◌*◌, ◌<◌, ◌≤◌, ◌⊎◌, List, [], ◌∷◌, ◌++◌, length, Bool, true, false}
use Rattle.std.specs.Prelude.{Result, Ok, Err}
use Rattle.nfc_base.specs.Signal.{Signal}
use Rattle.nfc_base.specs.TagLinks.{LinkView}
use Rattle.t5t_tag.specs.Step.{no_block}
use Rattle.t5t_tag.specs.Spelling as t5
use Rattle.t5t_tag.specs.declared.answer.T5Answer.TheVariants as t5_says
use Rattle.tlv_area.specs.declared.space.Space.{Space}
use Rattle.tlv_area.specs.declared.space.AreaMap.{AreaMap}
use Rattle.tlv_area.specs.declared.container.T5Container.TheVariants.{Ready}
use Rattle.tlv_area.specs.Containers.{T5Area, t5_front}
use Rattle.tlv_area.specs.Stores.{t5_reach}
use Rattle.tag_reader.specs.declared.how.How.{How}
use Rattle.tag_reader.specs.declared.how.How.TheVariants.{T5}
use Rattle.tag_reader.specs.declared.ask.Ask.{Ask}
use Rattle.tag_reader.specs.declared.known.Known.{Known}
use Rattle.tag_reader.specs.declared.fault.ReadFault.{ReadFault}
use Rattle.tag_reader.specs.declared.fault.ReadFault.TheVariants as fault
use Rattle.tag_reader.specs.declared.told.BlocksTold.{BlocksTold}
use Rattle.tag_reader.specs.declared.told.BlocksTold.TheVariants.{Bytes, Single, Ended}
use Rattle.tag_reader.specs.Blocks.{IsOne, IsMany, known_at, progress_at}
use Rattle.tag_reader.specs.Kinds.{IsTag}
use Rattle.tag_reader.specs.Asked.{Aim, ToRead, IsDueFor}
use Rattle.tag_reader.specs.Heard.{HasContent, IsBlocks, EndsTag, IsStopped, IsFaultBy, joined, first_size, is_single}
use Rattle.tag_reader.specs.HeardSteps.{Under}
use Rattle.tag_reader.specs.SurveyHeard.{surveyed_by, IsLeftBy}
use Rattle.tag_reader.specs.Steps.{Asks, Reads}

-- what is known can be asked on from: the next block has a number of two bytes
pub record CanAsk (known : Known) : Type 0 where
  pub small : known.size ≤ 256
  pub begun : known.size ≡ 0 → known.bytes.items ≡ []
  pub low : (known.size ≡ 0) ⊎ (length known.bytes.items < 65536 * known.size)

-- what an answer tells: bytes as long as they were asked for, a refusal of several blocks at once, or the tag's end
abbrev pub TellsBlocks : List ℕ → Ask → ℕ → Signal → Result BlocksTold ReadFault → Type 0
TellsBlocks id ask size r (Ok (Bytes bytes)) = HasContent (T5 id) r bytes.items × IsBlocks size ask bytes.items
TellsBlocks id ask size r (Ok Single) = IsMany ask × (code : ℕ) × (r ≡ t5.answer_frame (t5_says.Error code))
TellsBlocks id ask size r (Ok Ended) = IsOne ask × (0 < size) × (r ≡ t5.answer_frame (t5_says.Error no_block))
TellsBlocks id ask size r (Err (fault.Refused code)) =
    IsOne ask × (r ≡ t5.answer_frame (t5_says.Error code)) × (0 < size → code ≡ no_block → ⊥)
TellsBlocks id ask size r (Err fault.Protocol) =
    ((p : List ℕ) → HasContent (T5 id) r p → IsBlocks size ask p → ⊥)
    × ((code : ℕ) → r ≡ t5.answer_frame (t5_says.Error code) → ⊥)
TellsBlocks id ask size r (Err _) = ⊥

-- more is known, or that the tag gives no several blocks at once
abbrev pub Grows : Known → Known → Type 0
Grows old new =
    ((length old.bytes.items < length new.bytes.items) × (new.single ≡ old.single))
    ⊎ ((new.bytes.items ≡ old.bytes.items) × (old.single ≡ false) × (new.single ≡ true))

-- the pieces brought what is known
pub record IsKnown (ps : List (List ℕ)) (known : Known) : Type 0 where
  pub size : known.size ≡ first_size ps
  pub single : known.single ≡ is_single ps
  pub bytes : known.bytes.items ≡ joined ps

-- one command more, whatever the tag does
pub record GainsBlocks (id : List ℕ) (a b : LinkView) (ps : List (List ℕ)) (known : Known) : Type 0 where
  pub piece : List ℕ
  pub under : Under (T5 id) a b (ps ++ piece ∷ [])
  pub known' : IsKnown (ps ++ piece ∷ []) known

pub record EndsBlocks (id : List ℕ) (a b : LinkView) (ps : List (List ℕ)) (known known' : Known) : Type 0 where
  pub r : Signal
  pub stopped : IsStopped (T5 id) a b ps r
  pub ends : EndsTag (T5 id) ps r
  pub left : IsLeftBy a b (surveyed_by (T5 id) ps true)
  pub same : known' ≡ known

abbrev pub SeesBlocks : List ℕ → LinkView → LinkView → List (List ℕ) → Known → Known → Result Bool ReadFault → Type 0
SeesBlocks id a b ps known known' (Ok true) = GainsBlocks id a b ps known'
SeesBlocks id a b ps known known' (Ok false) = EndsBlocks id a b ps known known'
SeesBlocks id a b ps known known' (Err e) = IsFaultBy (T5 id) a b e

-- the container is known, and names this area; so does each memory that begins with these bytes
pub record Names (known : Known) (space : Space) : Type 0 where
  pub area : T5Area
  pub front : (more : List ℕ) → t5_front (known.bytes.items ++ more) ≡ Ok (Ready area.space area.wide area.many)
  pub reach : space ≡ t5_reach known.size area
  pub least : 4 ≤ known.size
  pub most : known.size ≤ 256

-- what is known was brought
pub record LooksBlocks (id : List ℕ) (a b : LinkView) (known : Known) : Type 0 where
  pub ps : List (List ℕ)
  pub under : Under (T5 id) a b ps
  pub known' : IsKnown ps known

-- the first n commands are answered
abbrev pub Reached : Aim → How → ℕ → LinkView → LinkView → ℕ → Type 0
Reached aim how size a b zero = b ≡ a
Reached aim how size a b (suc n) = Asks aim how size a b (suc n)

-- how long blocks are known to be behind n commands
abbrev pub size_at : ℕ → ℕ → ℕ
size_at size zero = 0
size_at size (suc n) = size

-- A reading or a survey of a Type 5 tag under way: its first n commands are answered, and this is known.
pub record IsReading (aim : Aim) (id : List ℕ) (size : ℕ) (a b : LinkView) (known : Known) (n : ℕ) : Type 0 where
  pub tag : IsTag (T5 id) size a
  pub reached : Reached aim (T5 id) size a b n
  pub state : b.state ≡ a.state
  pub size' : known.size ≡ size_at size n
  pub single : known.single ≡ (progress_at size a.state.store n).single
  pub bytes : known.bytes.items ≡ known_at size a.state.store (progress_at size a.state.store n)
  pub within : size * (progress_at size a.state.store n).blocks ≤ length a.state.store

-- the tag has ended
pub record HasRunOut (aim : Aim) (id : List ℕ) (size : ℕ) (a b : LinkView) (known known' : Known) (n : ℕ) : Type 0 where
  pub asks : Asks aim (T5 id) size a b (suc n)
  pub end : length a.state.store ≡ size * (progress_at size a.state.store n).blocks
  pub no_more : IsDueFor aim (T5 id) size a.state.store (suc n) → ⊥
  pub state : b.state ≡ a.state
  pub same : known' ≡ known

abbrev pub NextBlocks : Aim → List ℕ → ℕ → LinkView → LinkView → Known → Known → ℕ → Result Bool ReadFault → Type 0
NextBlocks aim id size a b known known' n (Ok true) = IsReading aim id size a b known' (suc n)
NextBlocks aim id size a b known known' n (Ok false) = HasRunOut aim id size a b known known' n
NextBlocks aim id size a b known known' n (Err e) = Reads aim (T5 id) size a b [] (Err e)

-- the container is read
abbrev pub Opens : Aim → List ℕ → LinkView → LinkView → Known → Result Space ReadFault → Type 0
Opens aim id a b known (Ok space) = (size : ℕ) → IsTag (T5 id) size a
    → (n : ℕ) × IsReading aim id size a b known (suc n)
Opens aim id a b known (Err e) = (size : ℕ) → IsTag (T5 id) size a → Reads aim (T5 id) size a b [] (Err e)

-- the message is found, or the reading has ended
abbrev pub FindsMap : List ℕ → LinkView → LinkView → List ℕ → Result AreaMap ReadFault → Type 0
FindsMap id a b known result = (size : ℕ) → IsTag (T5 id) size a → Reads ToRead (T5 id) size a b known result
