use Rattle.std.proofs.Common.{◌≡◌, refl, sym, ◌∙◌, ap, subst}
use Rattle.nfc_base.specs.TagLinks.{LinkView}
use Rattle.tag_reader.specs.declared.how.How.{How}
use Rattle.tag_reader.specs.declared.how.How.TheVariants.{T2}
use Rattle.tag_reader.specs.Heard.{IsOf}
use Rattle.tag_writer.specs.Phases.{how_of}
use Rattle.tag_writer.specs.declared.work.Work.{Work}
use Rattle.tag_writer.proofs.Grounded.{work_kind}
use Rattle.tag_tests.proofs.phase_tests.write_up_to.Goals as goal

of_work : (v : LinkView) (w : Work) → how_of w ≡ T2 → IsOf T2 v → IsOf (how_of w) v
of_work v w e is = subst (λ h. IsOf h v) (sym e) is

pub empty-requires-clause-of : goal.empty-requires-clause-of
empty-requires-clause-of c =
    let p = c.in-Ok.ensures.told in
    of_work _ c.in-Ok.prepared.work (work_kind T2 p.ground _ c.in-Ok.prepared.work p.on) (record { kind = refl; named = tt })

pub fill-requires-clause-of : goal.fill-requires-clause-of
fill-requires-clause-of c =
    let p = c.in-Ok.ensures.told in
    of_work _ c.in_ok-emptied.emptied.work (ap how_of c.in_ok-emptied.ensures.kept ∙ work_kind T2 p.ground _ c.in-Ok.prepared.work p.on) (record { kind = refl; named = tt })

pub finish-requires-clause-of : goal.finish-requires-clause-of
finish-requires-clause-of c =
    let p = c.in-Ok.ensures.told in
    of_work _ c.in_ok-filled.filled.work (ap how_of (c.in_ok-filled.ensures.kept ∙ c.in_ok-emptied.ensures.kept) ∙ work_kind T2 p.ground _ c.in-Ok.prepared.work p.on)
    (record { kind = refl; named = tt })
