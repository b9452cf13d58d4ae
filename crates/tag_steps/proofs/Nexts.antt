-- What a reading, a survey and a writing over a list of turns tell, from what they tell over the link.
use Rattle.std.proofs.Common.{◌≡◌, ◌⊎◌, inl, inr, ap, take, ◌≤◌, ℕ, List, length, Option, Some, None, refl, sym, ◌∙◌, subst}
use Rattle.std.proofs.Math.Seq.{take-length}
use Rattle.nfc_base.specs.Signal.{Signal}
use Rattle.nfc_base.specs.TagLinks.{LinkView}
use Rattle.nfc_base.specs.declared.tag_link.AskFault.{AskFault}
use Rattle.nfc_base.specs.declared.tag_link.AskFault.TheVariants.{FieldLost, SixBad, Memory, Protocol}
use Rattle.tag_reader.specs.declared.how.How.{How}
use Rattle.std.specs.Prelude.{IfOk}
use Rattle.tag_reader.specs.Asked.{ToRead, ToWrite}
use Rattle.tag_reader.specs.Heard.{IsToldBy}
use Rattle.tag_reader.specs.Reading.{KeepsStore, AsksInOrder, TellsMessage, TellsCause}
use Rattle.tag_reader.specs.Survey.{IsPlacedGround, TellsGround}
use Rattle.tag_reader.specs.SurveyHeard.{IsGroundToldBy}
use Rattle.tag_writer.specs.WriteTold.{IsWriteToldBy}
use Rattle.tag_writer.specs.Writing.{KeepsLaw, WritesInOrder, TellsSuccess}
use Rattle.tag_writer.specs.Writing as writing
use Rattle.tag_steps.specs.declared.turn.Turn.{Turn}
use Rattle.tag_steps.specs.declared.reading.NextRead.{NextRead}
use Rattle.tag_steps.specs.declared.surveying.NextSurvey.{NextSurvey}
use Rattle.tag_steps.specs.declared.writing.NextWrite.{NextWrite}
use Rattle.tag_steps.specs.Replay.{Tag, due_of, first_link, link_behind}
use Rattle.tag_reader.specs.Heard.{next_command}
use Rattle.tag_steps.specs.declared.reading.NextRead.TheVariants.{Send}
use Rattle.tag_steps.specs.Replay.{commands_of}
use Rattle.tag_steps.specs.Reading.{IsNextBehind, reading_of, ReadStops, TellsRead}
use Rattle.tag_steps.specs.Surveying.{survey_of, SurveyStops, TellsSurvey}
use Rattle.tag_steps.specs.Writing.{writing_of, WriteStops, TellsWrite}

-- a command is due exactly where the turns ran out at it
pub is_due : (over : Option AskFault) (last : Option Signal) (c : Signal) → due_of over last ≡ Some c → (over ≡ Some FieldLost) × (last ≡ Some c)
is_due (Some FieldLost) last c e = (refl, e)
is_due (Some SixBad) last c e = absurd cc
is_due (Some Memory) last c e = absurd cc
is_due (Some Protocol) last c e = absurd cc
is_due None last c e = absurd cc

pub none_due : (over : Option AskFault) (last : Option Signal) → due_of over last ≡ None → (over ≡ Some FieldLost → last ≡ None → ⊥) → over ≡ Some FieldLost → ⊥
none_due (Some FieldLost) last e some q = some q e
none_due (Some SixBad) last e some q = cc
none_due (Some Memory) last e some q = cc
none_due (Some Protocol) last e some q = cc
none_due None last e some q = cc

module _ {T : Type 0} (real : T → Tag) (t : T) (turns : List Turn) (used : ℕ) (over : Option AskFault) (last : Option Signal) (how : How) where
  abbrev first : LinkView
  first = first_link (real t)

  -- of the link's own tag and turns
  pub record ReadsOver (next : NextRead) (u : T) (us : List Turn) : Type 0 where
    pub few : used ≤ length us
    pub stops : ReadStops us used over last next
    pub told : IsToldBy how first (link_behind (real u) us used over last) (reading_of next)
    pub stays : KeepsStore how first (link_behind (real u) us used over last)
    pub asked : AsksInOrder ToRead how first (link_behind (real u) us used over last)
    pub ok : TellsMessage how first (reading_of next)
    pub err : TellsCause how first (link_behind (real u) us used over last) (reading_of next)

  pub tells_read : (next : NextRead) (u : T) (us : List Turn) → u ≡ t → us ≡ turns → ReadsOver next u us → TellsRead how (real t) turns next
  tells_read next u us same all r =
      let k : ReadsOver next t turns = subst (λ x. ReadsOver next x turns) same (subst (ReadsOver next u) all r) in
      record { used = used; few = k.few; over = over; last = last; stops = k.stops; told = k.told; stays = k.stays; asked = k.asked; ok = k.ok; err = k.err }

  pub record SurveysOver (next : NextSurvey) (u : T) (us : List Turn) : Type 0 where
    pub few : used ≤ length us
    pub stops : SurveyStops us used over last next
    pub told : IsGroundToldBy how first (link_behind (real u) us used over last) (survey_of next)
    pub places : IfOk (survey_of next) IsPlacedGround
    pub stays : KeepsStore how first (link_behind (real u) us used over last)
    pub asked : AsksInOrder ToWrite how first (link_behind (real u) us used over last)
    pub ok : TellsGround how first (link_behind (real u) us used over last) (survey_of next)
    pub err : TellsCause how first (link_behind (real u) us used over last) (survey_of next)

  pub tells_survey : (next : NextSurvey) (u : T) (us : List Turn) → u ≡ t → us ≡ turns → SurveysOver next u us → TellsSurvey how (real t) turns next
  tells_survey next u us same all r =
      let k : SurveysOver next t turns = subst (λ x. SurveysOver next x turns) same (subst (SurveysOver next u) all r) in
      record { used = used; few = k.few; over = over; last = last; stops = k.stops; told = k.told; places = k.places; stays = k.stays; asked = k.asked; ok = k.ok; err = k.err }

  pub record WritesOver (message : List ℕ) (next : NextWrite) (u : T) (us : List Turn) : Type 0 where
    pub few : used ≤ length us
    pub stops : WriteStops us used over last next
    pub told : IsWriteToldBy how message first (link_behind (real u) us used over last) (writing_of next)
    pub law : KeepsLaw how message first (link_behind (real u) us used over last) (writing_of next)
    pub asked : WritesInOrder how message first (link_behind (real u) us used over last)
    pub ok : TellsSuccess how message first (link_behind (real u) us used over last) (writing_of next)
    pub err : writing.TellsCause how message first (link_behind (real u) us used over last) (writing_of next)

  pub tells_write : (message : List ℕ) (next : NextWrite) (u : T) (us : List Turn) → u ≡ t → us ≡ turns → WritesOver message next u us → TellsWrite how message (real t) turns next
  tells_write message next u us same all r =
      let k : WritesOver message next t turns = subst (λ x. WritesOver message next x turns) same (subst (WritesOver message next u) all r) in
      record { used = used; few = k.few; over = over; last = last; stops = k.stops; told = k.told; law = k.law; asked = k.asked; ok = k.ok; err = k.err }

-- The command to send is the one that follows what the turns brought.
pub next_behind : (how : How) (t : Tag) (turns : List Turn) (c : Signal) → TellsRead how t turns (Send c) → IsNextBehind how t turns c
next_behind how t turns c r =
    let over : r.over ≡ Some FieldLost = r.stops.1 in
    let all : take r.used turns ≡ turns = ap (λ n. take n turns) r.stops.0 ∙ take-length turns in
    record {
      ps = r.told.ps;
      pieces = r.told.brought.pieces;
      commands = ap commands_of (sym all) ∙ r.told.brought.answered;
      next = some_in c (next_command how r.told.ps) (sym r.stops.2 ∙ last_of r.over over (r.told.asked refl));
    }
  where
    some_in : (x y : Signal) → Some x ≡ Some y → x ≡ y
    some_in x y e = cc

    last_of : {P : Type 0} (o : Option AskFault) → o ≡ Some FieldLost → (o ≡ None) ⊎ P → P
    last_of o e (inl none) = absurd (let clash : None ≡ Some FieldLost = sym none ∙ e in cc)
    last_of o e (inr p) = p
