use Rattle.std.proofs.Common.{rules, ◌≡◌, Err, sym, subst}
use Rattle.nfc_base.specs.TagLinks.{LinkView}
use Rattle.tag_reader.specs.declared.how.How.TheVariants.{T4}
use Rattle.tag_reader.specs.Asked.{ToWrite}
use Rattle.tag_reader.specs.private.SurveySteps.{IsSurveyMade}
use Rattle.tag_reader.proofs.FileReading.{is_ended}
use Rattle.tag_reader.proofs.Grounds.{file_made}
use Rattle.tag_reader.specs.SurveyHeard.{IsUnsurveyedBy}
use Rattle.tag_reader.proofs.Surveys.{file_told}
use Rattle.tag_reader.proofs.surveying.survey_file.Goals as goal

pub returns-in_err-map-clause-surveys : goal.returns-in_err-map-clause-surveys
returns-in_err-map-clause-surveys g c size is =
    let a : LinkView = g.T.TagLink.seen c.args.link.now in
    let new : LinkView = g.T.TagLink.seen c.read_container.new.link in
    let is_err : c.from_residual.result ≡ Err c.in_err-map.field-0.0 = search rules in
    subst (λ x. IsSurveyMade T4 size a new x) (sym is_err) (is_ended size a new c.in_err-map.field-0.0 (c.in_err-map.ensures.opens ToWrite size is))

pub returns-in_err-length-clause-surveys : goal.returns-in_err-length-clause-surveys
returns-in_err-length-clause-surveys g c size is =
    let a : LinkView = g.T.TagLink.seen c.args.link.now in
    let new : LinkView = g.T.TagLink.seen c.read_length.new.link in
    let is_err : c.from_residual-in_err-length.result ≡ Err c.in_err-length.field-0.0 = search rules in
    subst (λ x. IsSurveyMade T4 size a new x) (sym is_err) (is_ended size a new c.in_err-length.field-0.0 (c.in_err-length.ensures.measures ToWrite size a (c.in_ok-map.ensures.opens ToWrite size is)))

pub returns-clause-surveys : goal.returns-clause-surveys
returns-clause-surveys g c size is =
    let a : LinkView = g.T.TagLink.seen c.args.link.now in
    file_made size a (g.T.TagLink.seen c.read_length.new.link) c.in_ok-map.map c.in_ok-length.length (c.in_ok-length.ensures.measures ToWrite size a (c.in_ok-map.ensures.opens ToWrite size is))

-- whatever the tag does
pub returns-in_err-map-clause-told : goal.returns-in_err-map-clause-told
returns-in_err-map-clause-told g c =
    let h : IsUnsurveyedBy T4 (g.T.TagLink.seen c.args.link.now) (g.T.TagLink.seen c.read_container.new.link) c.in_err-map.field-0.0 =
    record { by = c.in_err-map.ensures.brings; needs = c.in_err-map.ensures.needs } in
    search rules

pub returns-in_err-length-clause-told : goal.returns-in_err-length-clause-told
returns-in_err-length-clause-told g c =
    let a : LinkView = g.T.TagLink.seen c.args.link.now in
    let h : IsUnsurveyedBy T4 a (g.T.TagLink.seen c.read_length.new.link) c.in_err-length.field-0.0 =
    record { by = c.in_err-length.ensures.brings a c.in_ok-map.ensures.brings; needs = c.in_err-length.ensures.needs a c.in_ok-map.ensures.brings } in
    search rules

pub returns-clause-told : goal.returns-clause-told
returns-clause-told g c =
    let a : LinkView = g.T.TagLink.seen c.args.link.now in
    file_told a (g.T.TagLink.seen c.read_length.new.link) c.in_ok-map.map c.in_ok-length.length (c.in_ok-length.ensures.brings a c.in_ok-map.ensures.brings)
