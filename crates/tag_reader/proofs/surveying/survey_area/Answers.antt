use Rattle.std.proofs.Common.{rules, ◌≡◌, length, arith, refl, sym, ◌∙◌, ap, subst, Err}
use Rattle.std.proofs.lemmas.List.{length-take-le}
use Rattle.nfc_base.specs.TagLinks.{LinkView}
use Rattle.tag_reader.specs.declared.how.How.TheVariants.{T2}
use Rattle.tag_reader.specs.SurveyHeard.{IsUnsurveyedBy}
use Rattle.tag_reader.specs.private.SurveySteps.{IsSurveyMade}
use Rattle.tag_reader.proofs.Endings.{read_ended}
use Rattle.tag_reader.proofs.Grounds.{made, area_grounded}
use Rattle.tag_reader.proofs.Surveys.{four_blocks, t2_blocks, ground_told}
use Rattle.tag_reader.proofs.surveying.survey_area.Goals as goal

pub returns-clause-surveys : goal.returns-clause-surveys
returns-clause-surveys g c size is =
    let a : LinkView = g.T.TagLink.seen c.args.link.now in
    let new : LinkView = g.T.TagLink.seen c.read_all.new.link in
    made T2 size a new c.in_ok-space.space 4 c.truncate.new.self.items
    (area_grounded size a new c.read_all.new.known.items c.truncate.new.self.items c.in_ok-space.space is (c.in_ok-space.ensures.reads size is) c.truncate.ensures.items)
    c.ground_in.result c.ground_in.ensures.ground

pub returns-in_err-space-clause-surveys : goal.returns-in_err-space-clause-surveys
returns-in_err-space-clause-surveys g c size is =
    let a : LinkView = g.T.TagLink.seen c.args.link.now in
    let new : LinkView = g.T.TagLink.seen c.read_all.new.link in
    let is_err : c.from_residual.result ≡ Err c.in_err-space.field-0.0 = search rules in
    subst (λ x. IsSurveyMade T2 size a new x) (sym is_err) (read_ended T2 size a new _ c.in_err-space.field-0.0 (c.in_err-space.ensures.reads size is))

-- whatever the tag does
pub ground_in-requires-clause-end : goal.ground_in-requires-clause-end
ground_in-requires-clause-end g c =
    let h = c.in_ok-space.ensures.hears in
    let f = four_blocks (g.T.TagLink.seen c.args.link.now) (g.T.TagLink.seen c.read_all.new.link) h.0 c.read_all.new.known.items c.in_ok-space.space c.in_ok-space.ensures.area h.1 in
    omega (arith, f.low)

pub ground_in-requires-clause-blocks : goal.ground_in-requires-clause-blocks
ground_in-requires-clause-blocks g c =
    let h = c.in_ok-space.ensures.hears in
    let f = four_blocks (g.T.TagLink.seen c.args.link.now) (g.T.TagLink.seen c.read_all.new.link) h.0 c.read_all.new.known.items c.in_ok-space.space c.in_ok-space.ensures.area h.1 in
    let long : length c.truncate.new.self.items ≡ c.in_ok-space.space.end = ap length c.truncate.ensures.items
    ∙ length-take-le c.in_ok-space.space.end c.read_all.new.known.items c.in_ok-space.ensures.whole in
    t2_blocks c.in_ok-space.space c.truncate.new.self.items f (omega (arith, long))

pub returns-in_err-space-clause-told : goal.returns-in_err-space-clause-told
returns-in_err-space-clause-told g c =
    let h : IsUnsurveyedBy T2 (g.T.TagLink.seen c.args.link.now) (g.T.TagLink.seen c.read_all.new.link) c.in_err-space.field-0.0 =
    record { by = c.in_err-space.ensures.hears; needs = c.in_err-space.ensures.needs } in
    search rules

pub returns-clause-told : goal.returns-clause-told
returns-clause-told g c =
    let h = c.in_ok-space.ensures.hears in
    let long : length c.truncate.new.self.items ≡ c.in_ok-space.space.end = ap length c.truncate.ensures.items
    ∙ length-take-le c.in_ok-space.space.end c.read_all.new.known.items c.in_ok-space.ensures.whole in
    ground_told T2 (g.T.TagLink.seen c.args.link.now) (g.T.TagLink.seen c.read_all.new.link) h.0 c.read_all.new.known.items c.truncate.new.self.items c.in_ok-space.space 4 h.1
    c.truncate.ensures.items refl (omega (arith, long)) c.ground_in.result c.ground_in.ensures.ground
