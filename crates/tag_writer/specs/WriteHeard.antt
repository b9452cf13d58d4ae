-- What the answers of a tag tell a writer, whatever the tag does (NFC Forum Type 2, Type 4 and Type 5 Tag).
use Rattle.std.specs.Prelude.{◌≡◌, ℕ, ◌⊎◌, List, [], ◌∷◌, ◌++◌, false, Some, None, Result, Ok, Err}
use Rattle.nfc_base.specs.Signal.{Signal, whole_a}
use Rattle.nfc_base.specs.TagLinks.{TagState, TagStep, LinkView, after_all}
use Rattle.nfc_base.specs.declared.tag_link.AskFault.{AskFault}
use Rattle.nfc_base.specs.declared.tag_link.AskFault.TheVariants as ask
use Rattle.t2t_tag.specs.Spelling as t2
use Rattle.t2t_tag.specs.declared.answer.T2Answer.TheVariants as t2_says
use Rattle.t4t_tag.specs.Step.{done}
use Rattle.t5t_tag.specs.Spelling as t5
use Rattle.t5t_tag.specs.declared.answer.T5Answer.TheVariants as t5_says
use Rattle.tag_reader.specs.declared.how.How.{How}
use Rattle.tag_reader.specs.declared.how.How.TheVariants.{T2, T4, T5}
use Rattle.tag_reader.specs.Calls.{ByLink}
use Rattle.tag_reader.specs.Heard.{Refuses}
use Rattle.tag_reader.specs.SurveyHeard.{IsLeftBy}
use Rattle.tag_writer.specs.declared.fault.WriteFault.{WriteFault}
use Rattle.tag_writer.specs.declared.fault.WriteFault.TheVariants as fault
use Rattle.tag_writer.specs.declared.phase.Stopped.{Stopped}

-- An answer acknowledges a write: the four bits Ah of a Type 2 tag, the answer of a Type 5 tag that brings no bytes,
-- the status bytes 9000h of a Type 4 tag.
abbrev pub Acknowledges : How → Signal → Type 0
Acknowledges T2 r = r ≡ t2.answer_frame t2_says.Done
Acknowledges T4 r = r ≡ whole_a done
Acknowledges (T5 id) r = r ≡ t5.answer_frame (t5_says.Content (record { items = [] }))

-- an answer that neither acknowledges a write nor refuses it
pub record IsOddAnswer (how : How) (r : Signal) : Type 0 where
  pub no_acknowledgement : ¬ Acknowledges how r
  pub no_refusal : (code : ℕ) → ¬ Refuses how r code

-- A tag with this step, in this state, acknowledges writes one after another.
abbrev pub AreAcknowledgedBy : How → (TagState → Signal → TagStep) → TagState → List Signal → Type 0
AreAcknowledgedBy how step s [] = Unit {0}
AreAcknowledgedBy how step s (c ∷ cs) =
    (r : Signal) × ((step s c).answer ≡ Some r) × Acknowledges how r × AreAcknowledgedBy how step (step s c).after cs

-- Between two views of a link these writes were answered, each by an acknowledgement.
pub record AreAcknowledged (how : How) (a b : LinkView) (commands : List Signal) : Type 0 where
  pub by : AreAcknowledgedBy how a.step a.state commands
  pub answered : b.answered ≡ a.answered ++ commands
  pub left : IsLeftBy a b commands
  pub link : ((commands ≡ []) × (b ≡ a)) ⊎ ((b.over ≡ None) × (b.dark ≡ false))

-- The write behind these was answered so; the link isn't over. Or it wasn't answered, and the link is over by this
-- fault: where it wasn't before, this write was asked, and was the last.
pub record IsAnsweredBy (a b : LinkView) (front : List Signal) (next r : Signal) : Type 0 where
  pub answer : (a.step (after_all a.step a.state front) next).answer ≡ Some r
  pub answered : b.answered ≡ a.answered ++ (front ++ next ∷ [])
  pub over : b.over ≡ None

pub record IsUnanswered (a b : LinkView) (front : List Signal) (next : Signal) (e : AskFault) : Type 0 where
  pub answered : b.answered ≡ a.answered ++ front
  pub by : ByLink a b e
  pub asked : a.over ≡ None → b.last ≡ Some next

-- Why the write behind these isn't acknowledged.
abbrev pub IsWhy : How → LinkView → LinkView → List Signal → Signal → WriteFault → Type 0
IsWhy how a b front next (fault.Refused code) = (r : Signal) × IsAnsweredBy a b front next r × Refuses how r code
IsWhy how a b front next fault.Protocol = ((r : Signal) × IsAnsweredBy a b front next r × IsOddAnswer how r)
    ⊎ IsUnanswered a b front next ask.Protocol
IsWhy how a b front next fault.FieldLost = IsUnanswered a b front next ask.FieldLost
IsWhy how a b front next fault.SixBad = IsUnanswered a b front next ask.SixBad
IsWhy how a b front next fault.Memory = IsUnanswered a b front next ask.Memory
IsWhy how a b front next e = ⊥

-- Of these writes some were acknowledged, and the next one wasn't.
pub record StopsAmong (how : How) (a b : LinkView) (commands : List Signal) (e : WriteFault) : Type 0 where
  pub front : List Signal
  pub next : Signal
  pub rest : List Signal
  pub split : commands ≡ front ++ next ∷ rest
  pub by : AreAcknowledgedBy how a.step a.state front
  pub why : IsWhy how a b front next e

-- what a phase tells, whatever the tag: success only where each of its writes was acknowledged
abbrev pub TellsWrites : {A : Type 0} → How → LinkView → LinkView → List Signal → Result A Stopped → Type 0
TellsWrites how a b commands (Ok x) = AreAcknowledged how a b commands
TellsWrites how a b commands (Err s) = StopsAmong how a b commands s.cause
