-- What the parts of a survey say. No public contract speaks of these.
use Rattle.std.specs.Prelude.{◌≡◌, ℕ, ◌*◌, ◌<◌, ◌≤◌, Bool, List, [], ◌++◌, length, take, Result, Ok, Err}
use Rattle.nfc_base.specs.TagLinks.{LinkView}
use Rattle.tlv_area.specs.declared.space.Space.{Space}
use Rattle.tlv_area.specs.declared.walk.Walk.{Walk}
use Rattle.tlv_area.specs.declared.walk.Walk.TheVariants as walk
use Rattle.tlv_area.specs.Stores.{cut, t5_area}
use Rattle.tlv_area.specs.Map.{IsWalk, TellsForm, HasPlaces}
use Rattle.tag_reader.specs.declared.how.How.{How}
use Rattle.tag_reader.specs.declared.how.How.TheVariants.{T2, T5}
use Rattle.tag_reader.specs.declared.fault.ReadFault.{ReadFault}
use Rattle.tag_reader.specs.declared.fault.ReadFault.TheVariants as fault
use Rattle.tag_reader.specs.declared.ground.Ground.{Ground}
use Rattle.tag_reader.specs.declared.ground.Ground.TheVariants.{Area, File}
use Rattle.tag_reader.specs.declared.known.Known.{Known}
use Rattle.tag_reader.specs.Kinds.{OfTag}
use Rattle.tag_reader.specs.Asked.{ToWrite, IsSurveyed}
use Rattle.tag_reader.specs.Survey.{IsSurvey}
use Rattle.tag_reader.specs.Heard.{joined, first_size, HasContainer}
use Rattle.tag_reader.specs.SurveyHeard.{surveyed_by, IsHeard, IsLeftBy, area_heard}
use Rattle.tag_reader.specs.Steps.{Asks, Walks, Reads, Concludes}

-- what a walk tells over an area that is known to its end, whatever stands behind it
pub record IsSettledOver (space : Space) (known : List ℕ) (result : Walk) : Type 0 where
  pub front : (more : List ℕ) → IsWalk space (known ++ more) result
  pub form : (more : List ℕ) → TellsForm space (known ++ more) result
  pub places : HasPlaces known result

abbrev pub GroundIn : Space → ℕ → List ℕ → Result Ground ReadFault → Type 0
GroundIn space block known (Ok (Area known' block' map')) =
    (known' ≡ known) × (block' ≡ block) × IsSettledOver space known (walk.Held map')
GroundIn space block known (Ok (File map' length')) = ⊥
GroundIn space block known (Err fault.NoMessageTlv) = IsSettledOver space known walk.NoMessageTlv
GroundIn space block known (Err fault.BadTlv) = IsSettledOver space known walk.BadTlv
GroundIn space block known (Err _) = ⊥

-- READs of a Type 2 tag brought all of an area
pub record IsAllRead (size : ℕ) (a b : LinkView) (known : List ℕ) (space : Space) : Type 0 where
  pub n : ℕ
  pub walks : Walks ToWrite size a b known space n
  pub whole : space.end ≤ length known

abbrev pub ReadsAll : LinkView → LinkView → List ℕ → Result Space ReadFault → Type 0
ReadsAll a b known (Ok space) = OfTag T2 a (λ size. IsAllRead size a b known space)
ReadsAll a b known (Err e) = OfTag T2 a (λ size. Reads ToWrite T2 size a b known (Err e))

-- blocks are known to the end of an area, or to the tag's: this is the area as far as the tag goes
pub record IsAllKnown (id : List ℕ) (size : ℕ) (a b : LinkView) (known : Known) (end : Space) : Type 0 where
  pub n : ℕ
  pub asks : Asks ToWrite (T5 id) size a b n
  pub no_more : IsSurveyed (T5 id) size a.state.store n → ⊥
  pub state : b.state ≡ a.state
  pub size' : known.size ≡ size
  pub count : ℕ
  pub bytes : known.bytes.items ≡ take (size * count) a.state.store
  pub within : size * count ≤ length a.state.store
  pub space : Space
  pub area : t5_area size a.state.store ≡ Ok space
  pub end' : end ≡ cut space (length a.state.store)

abbrev pub KnowsAll : List ℕ → ℕ → LinkView → LinkView → Known → Result Space ReadFault → Type 0
KnowsAll id size a b known (Ok end) = IsAllKnown id size a b known end
KnowsAll id size a b known (Err e) = Reads ToWrite (T5 id) size a b [] (Err e)

-- Pieces of this size, whatever the tag does, which have the area that they name as far as the tag goes.
pub record HearsAll (how : How) (a b : LinkView) (size : ℕ) (known : List ℕ) (end : Space) : Type 0 where
  pub ps : List (List ℕ)
  pub ended : Bool
  pub heard : IsHeard how a b ps ended
  pub left : IsLeftBy a b (surveyed_by how ps ended)
  pub some : 0 < length ps
  pub first : size ≡ first_size ps
  pub known' : known ≡ joined ps
  pub container : HasContainer how known
  pub area : area_heard how ps ended ≡ Ok end

-- A survey, of a tag of whatever kind, from its first view of the link to its last.
abbrev pub IsSurveyMade : How → ℕ → LinkView → LinkView → Result Ground ReadFault → Type 0
IsSurveyMade how size a b result = Concludes ToWrite (IsSurvey how size a b) how size a b result

abbrev pub SurveysTag : How → LinkView → LinkView → Result Ground ReadFault → Type 0
SurveysTag how a b result = OfTag how a (λ size. IsSurveyMade how size a b result)
