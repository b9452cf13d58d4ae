-- What is planned on the ground that a survey told, whatever the tag.
use Rattle.std.proofs.Common.{◌≡◌, ℕ, ◌≤◌, inr, Bool, true, false, List, [], ◌∷◌, length, Result, Ok, Err, sym, subst, arith}
use Rattle.std.specs.Prelude.{IfOk, IfErr}
use Rattle.std.specs.List.{AllByRecursion}
use Rattle.nfc_base.specs.TagLinks.{LinkView}
use Rattle.tlv_area.specs.declared.space.AreaMap.{AreaMap}
use Rattle.tlv_area.specs.declared.step.Step.{Step}
use Rattle.tlv_area.specs.declared.step.Plan.{Plan}
use Rattle.tlv_area.specs.declared.walk.Walk.TheVariants as walk
use Rattle.tlv_area.specs.Map.{IsWalk}
use Rattle.tlv_area.specs.Writing.{IsWhole, KeepsPlan, steps_of}
use Rattle.tag_reader.specs.declared.how.How.{How}
use Rattle.tag_reader.specs.declared.how.How.TheVariants.{T2, T4, T5}
use Rattle.tag_reader.specs.declared.ground.Ground.{Ground}
use Rattle.tag_reader.specs.declared.ground.Ground.TheVariants.{Area, File}
use Rattle.tag_reader.specs.Heard.{IsOf}
use Rattle.tag_reader.specs.Survey.{IsPlacedArea}
use Rattle.tag_reader.specs.SurveyHeard.{IsHeard, IsAreaHeard, IsSurveyedBy}
use Rattle.tag_reader.proofs.Surveys.{two_low}
use Rattle.tag_writer.specs.declared.fault.WriteFault.{WriteFault}
use Rattle.tag_writer.specs.declared.phase.Prepared.{Prepared}
use Rattle.tag_writer.specs.declared.work.Work.{Work}
use Rattle.tag_writer.specs.declared.work.Work.TheVariants as work
use Rattle.tag_writer.specs.Planning.{IsLow}
use Rattle.tag_writer.specs.Works.{IsStepFor}
use Rattle.tag_writer.specs.Phases.{how_of}
use Rattle.tag_writer.specs.WriteTold.{IsWorkOn, IsPlannedBy, IsDeclinedOn, TellsPlan}
use Rattle.tag_writer.proofs.Acknowledging.{of_left}

-- the steps can be asked for
steps_low : (known : List ℕ) (steps : List Step) → length known ≤ 1024 → AllByRecursion (IsWhole 4 known) steps → AllByRecursion (IsStepFor T2) steps
steps_low known [] low all = tt
steps_low known (s ∷ steps) low all = (let room' = all.0.room in (omega (arith, low, room'), all.0.content), steps_low known steps low all.1)

steps_any : (id : List ℕ) (steps : List Step) → AllByRecursion (IsStepFor (T5 id)) steps
steps_any id [] = tt
steps_any id (s ∷ steps) = (tt, steps_any id steps)

pub blocks_fit : (how : How) (known message : List ℕ) (block : ℕ) (m : AreaMap) (plan : Plan) → IsWalk m.space known (walk.Held m) → IsLow how known block → KeepsPlan block m known message plan →
    AllByRecursion (IsStepFor how) (steps_of plan)
blocks_fit T2 known message block m plan seen low keeps =
    steps_low known (steps_of plan) low.1 (subst (λ n. AllByRecursion (IsWhole n known) (steps_of plan)) low.0 (keeps seen.1 seen.2 seen.3 seen.4).whole)
blocks_fit T4 known message block m plan seen low keeps = absurd low
blocks_fit (T5 id) known message block m plan seen low keeps = steps_any id (steps_of plan)

-- what is heard of an area, or of a file, can be planned on
pub area_low : (how : How) (a b : LinkView) (known : List ℕ) (block : ℕ) (m : AreaMap) (ps : List (List ℕ)) (ended : Bool) → IsHeard how a b ps ended → IsAreaHeard how ps ended known block m
    → IsPlacedArea known block m → IsLow how known block
area_low T2 a b known block m ps ended heard is placed = (is.size', two_low a b ps ended known block m heard placed.area is)
area_low T4 a b known block m ps false heard is placed = absurd (let no_area = is.area in cc)
area_low T4 a b known block m ps true heard is placed = absurd heard.2
area_low (T5 id) a b known block m ps ended heard is placed = tt

-- the work is of the tag's kind
pub work_kind : (how : How) (ground : Ground) (message : List ℕ) (w : Work) → IsWorkOn how ground message w → how_of w ≡ how
work_kind how (Area known block m) message (work.Blocks how' plan) on = on.0
work_kind how (Area known block m) message (work.File message' most close) on = absurd on
work_kind how (File m n) message (work.Blocks how' plan) on = absurd on
work_kind how (File m n) message (work.File message' most close) on = sym on.0

pub of_planned : (how : How) (message : List ℕ) (w : Work) (a b : LinkView) → IsOf how a → IsPlannedBy how message w a b → IsOf (how_of w) b
of_planned how message w a b is p = subst (λ h. IsOf h b) (sym (work_kind how p.ground message w p.on)) (of_left how a b _ is p.surveyed.left)

-- what planning on a ground tells
pub planned_told : (how : How) (message : List ℕ) (a b : LinkView) (ground : Ground) (result : Result Prepared WriteFault) → IsSurveyedBy how a b ground
    → IfOk result (λ p. IsWorkOn how ground message p.work) →
    IfErr result (IsDeclinedOn ground message) → TellsPlan how message a b result
planned_told how message a b ground (Ok p) surveyed on declined = record { ground = ground; surveyed = surveyed; on = on }
planned_told how message a b ground (Err e) surveyed on declined = inr (record { ground = ground; surveyed = surveyed; declined = declined })
