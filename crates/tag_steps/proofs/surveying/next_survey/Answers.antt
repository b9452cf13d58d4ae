-- What a survey over the turns told.
use Rattle.std.proofs.Common.{◌≡◌, Result, Err, sym, ◌∙◌, subst}
use Rattle.std.specs.Prelude.{IfOk}
use Rattle.nfc_base.specs.TagLinks.{LinkView}
use Rattle.nfc_base.specs.declared.tag_link.AskFault.TheVariants as ask
use Rattle.tag_reader.specs.declared.ground.Ground.{Ground}
use Rattle.tag_reader.specs.declared.fault.ReadFault.{ReadFault}
use Rattle.tag_reader.specs.declared.fault.ReadFault.TheVariants as faults
use Rattle.tag_reader.specs.Reading.{TellsCause}
use Rattle.tag_reader.specs.Survey.{IsPlacedGround, TellsGround}
use Rattle.tag_reader.specs.SurveyHeard.{IsGroundToldBy}
use Rattle.tag_reader.proofs.Exact.{exactly_over}
use Rattle.tag_steps.specs.Replay.{first_link, link_behind}
use Rattle.tag_steps.proofs.Losing.{err_in}
use Rattle.tag_steps.proofs.Nexts.{tells_survey, is_due, none_due}
use Rattle.tag_steps.proofs.surveying.next_survey.Goals as goal

pub returns-in-Ok-clause-told : goal.returns-in-Ok-clause-told
returns-in-Ok-clause-told g c =
    let m = c.survey.new.link in
    tells_survey g.G.RealTag.real c.args.tag.now c.args.turns.now m.used m.over m.last c.args.how _ m.tag.now m.turns.now c.in-Ok.ensures.moves.0 c.in-Ok.ensures.moves.1
    (record {
      few = c.in-Ok.ensures.ready.1;
      stops = tt;
      told = c.in-Ok.ensures.told;
      places = c.in-Ok.ensures.places;
      stays = c.in-Ok.ensures.stays;
      asked = c.in-Ok.ensures.asked;
      ok = c.in-Ok.ensures.ok;
      err = c.in-Ok.ensures.err;
    })

pub returns-in-Some-clause-told : goal.returns-in-Some-clause-told
returns-in-Some-clause-told g c =
    let m = c.survey.new.link in
    let due = is_due m.over m.last c.in-Some.command (sym c.due.ensures ∙ c.in-Some.is) in
    let first : LinkView = first_link (g.G.RealTag.real c.args.tag.now) in
    let behind : LinkView = link_behind (g.G.RealTag.real m.tag.now) m.turns.now m.used m.over m.last in
    let lost : c.in-Err.fault ≡ faults.FieldLost = err_in c.in-Err.fault faults.FieldLost (exactly_over c.args.how first behind ask.FieldLost (Err c.in-Err.fault) c.in-Err.ensures.told.by due.0) in
    let ending : Result Ground ReadFault → Type 0 = λ r. IsGroundToldBy c.args.how first behind r × IfOk r IsPlacedGround × TellsGround c.args.how first behind r
    × TellsCause c.args.how first behind r in
    let ends : ending (Err faults.FieldLost) = subst (λ e. ending (Err e)) lost (c.in-Err.ensures.told, c.in-Err.ensures.places, c.in-Err.ensures.ok, c.in-Err.ensures.err) in
    tells_survey g.G.RealTag.real c.args.tag.now c.args.turns.now m.used m.over m.last c.args.how _ m.tag.now m.turns.now c.in-Err.ensures.moves.0 c.in-Err.ensures.moves.1
    (record {
      few = c.in-Err.ensures.ready.1;
      stops = ((c.in-Err.ensures.ready.2 due.0).0, due.0, due.1);
      told = ends.0;
      places = ends.1;
      stays = c.in-Err.ensures.stays;
      asked = c.in-Err.ensures.asked;
      ok = ends.2;
      err = ends.3;
    })

pub returns-in-None-clause-told : goal.returns-in-None-clause-told
returns-in-None-clause-told g c =
    let m = c.survey.new.link in
    tells_survey g.G.RealTag.real c.args.tag.now c.args.turns.now m.used m.over m.last c.args.how _ m.tag.now m.turns.now c.in-Err.ensures.moves.0 c.in-Err.ensures.moves.1
    (record {
      few = c.in-Err.ensures.ready.1;
      stops = none_due m.over m.last (sym c.due.ensures ∙ c.in-None.is) (λ q. (c.in-Err.ensures.ready.2 q).1);
      told = c.in-Err.ensures.told;
      places = c.in-Err.ensures.places;
      stays = c.in-Err.ensures.stays;
      asked = c.in-Err.ensures.asked;
      ok = c.in-Err.ensures.ok;
      err = c.in-Err.ensures.err;
    })
