use Rattle.std.proofs.Common.{rules, ◌≡◌, Err, refl, sym, subst}
use Rattle.nfc_base.specs.TagLinks.{LinkView}
use Rattle.tag_reader.specs.declared.how.How.TheVariants.{T5}
use Rattle.tag_reader.specs.Asked.{ToWrite}
use Rattle.tag_reader.specs.private.SurveySteps.{IsSurveyMade}
use Rattle.tag_reader.proofs.Endings.{read_ended}
use Rattle.tag_reader.proofs.Grounds.{made, blocks_grounded}
use Rattle.tag_reader.specs.SurveyHeard.{IsUnsurveyedBy}
use Rattle.tag_reader.proofs.Surveys.{t5_blocks, ground_told}
use Rattle.tag_reader.proofs.surveying.survey_blocks.Goals as goal

pub returns-in_err-named-clause-surveys : goal.returns-in_err-named-clause-surveys
returns-in_err-named-clause-surveys g c size is =
    let a : LinkView = g.T.TagLink.seen c.args.link.now in
    let new : LinkView = g.T.TagLink.seen c.open_area.new.link in
    let is_err : c.from_residual.result ≡ Err c.in_err-named.field-0.0 = search rules in
    subst (λ x. IsSurveyMade (T5 c.args.id) size a new x) (sym is_err) (read_ended (T5 c.args.id) size a new _ c.in_err-named.field-0.0 (c.in_err-named.ensures.opens ToWrite size is))

pub returns-in_err-space-clause-surveys : goal.returns-in_err-space-clause-surveys
returns-in_err-space-clause-surveys g c size is =
    let a : LinkView = g.T.TagLink.seen c.args.link.now in
    let new : LinkView = g.T.TagLink.seen c.read_to_end.new.link in
    let is_err : c.from_residual-in_err-space.result ≡ Err c.in_err-space.field-0.0 = search rules in
    let begun = c.in_ok-named.ensures.opens ToWrite size is in
    subst (λ x. IsSurveyMade (T5 c.args.id) size a new x) (sym is_err) (read_ended (T5 c.args.id) size a new _ c.in_err-space.field-0.0 (c.in_err-space.ensures.reads size begun.0 a begun.1))

pub returns-clause-surveys : goal.returns-clause-surveys
returns-clause-surveys g c size is =
    let a : LinkView = g.T.TagLink.seen c.args.link.now in
    let new : LinkView = g.T.TagLink.seen c.read_to_end.new.link in
    let begun = c.in_ok-named.ensures.opens ToWrite size is in
    made (T5 c.args.id) size a new c.in_ok-space.space c.read_to_end.new.known.size c.read_to_end.new.known.bytes.items
    (blocks_grounded c.args.id size c.read_to_end.new.known.size a new c.read_to_end.new.known c.in_ok-space.space (c.in_ok-space.ensures.reads size begun.0 a begun.1) c.in_ok-space.ensures.whole
    refl)
    c.ground_in.result c.ground_in.ensures.ground

-- whatever the tag does
pub ground_in-requires-clause-some : goal.ground_in-requires-clause-some
ground_in-requires-clause-some g c =
    let a : LinkView = g.T.TagLink.seen c.args.link.now in
    let h = c.in_ok-space.ensures.hears a c.in_ok-named.ensures.sees in
    (t5_blocks c.args.id a (g.T.TagLink.seen c.read_to_end.new.link) c.read_to_end.new.known.size c.read_to_end.new.known.bytes.items c.in_ok-space.space h).some

pub ground_in-requires-clause-end : goal.ground_in-requires-clause-end
ground_in-requires-clause-end g c =
    let a : LinkView = g.T.TagLink.seen c.args.link.now in
    let h = c.in_ok-space.ensures.hears a c.in_ok-named.ensures.sees in
    (t5_blocks c.args.id a (g.T.TagLink.seen c.read_to_end.new.link) c.read_to_end.new.known.size c.read_to_end.new.known.bytes.items c.in_ok-space.space h).end

pub ground_in-requires-clause-blocks : goal.ground_in-requires-clause-blocks
ground_in-requires-clause-blocks g c =
    let a : LinkView = g.T.TagLink.seen c.args.link.now in
    let h = c.in_ok-space.ensures.hears a c.in_ok-named.ensures.sees in
    (t5_blocks c.args.id a (g.T.TagLink.seen c.read_to_end.new.link) c.read_to_end.new.known.size c.read_to_end.new.known.bytes.items c.in_ok-space.space h).blocks c.in_ok-space.ensures.whole

pub returns-in_err-named-clause-told : goal.returns-in_err-named-clause-told
returns-in_err-named-clause-told g c =
    let h : IsUnsurveyedBy (T5 c.args.id) (g.T.TagLink.seen c.args.link.now) (g.T.TagLink.seen c.open_area.new.link) c.in_err-named.field-0.0 =
    record { by = c.in_err-named.ensures.sees; needs = c.in_err-named.ensures.needs } in
    search rules

pub returns-in_err-space-clause-told : goal.returns-in_err-space-clause-told
returns-in_err-space-clause-told g c =
    let a : LinkView = g.T.TagLink.seen c.args.link.now in
    let h : IsUnsurveyedBy (T5 c.args.id) a (g.T.TagLink.seen c.read_to_end.new.link) c.in_err-space.field-0.0 =
    record { by = c.in_err-space.ensures.hears a c.in_ok-named.ensures.sees; needs = c.in_err-space.ensures.needs a c.in_ok-named.ensures.sees } in
    search rules

pub returns-clause-told : goal.returns-clause-told
returns-clause-told g c =
    let a : LinkView = g.T.TagLink.seen c.args.link.now in
    let h = c.in_ok-space.ensures.hears a c.in_ok-named.ensures.sees in
    ground_told (T5 c.args.id) a (g.T.TagLink.seen c.read_to_end.new.link) c.read_to_end.new.known.size c.read_to_end.new.known.bytes.items c.read_to_end.new.known.bytes.items c.in_ok-space.space
    c.read_to_end.new.known.size h refl refl c.in_ok-space.ensures.whole c.ground_in.result c.ground_in.ensures.ground
