use Rattle.std.proofs.Common.{◌≡◌, ◌<◌, List, ℕ, [], Bool, true, length, get_or, ◌∙◌, subst, arith}
use Rattle.nfc_bench.specs.Reading.{Scripted}
use Rattle.nfc_bench.specs.SweepStops.{Stands, MayStand}
use Rattle.nfc_bench.proofs.Sweeping.{Standing, standing_more}
use Rattle.nfc_bench.proofs.top.sweeping.standing_count.Goals as goal

pub lines-preserved : goal.lines-preserved
lines-preserved c =
    let s : Scripted = c.args.script.now in
    let same : c.deref.result.now ≡ get_or s.lines c.lines.place [] = c.deref.ensures.0 ∙ c.line_at.ensures in
    let stands : c.in_ok-may_stand.field-0 ≡ true = cc in
    let may : MayStand c.ends_at.result c.deref.result.now = subst (Stands c.ends_at.result c.deref.result.now) stands c.in_ok-may_stand.ensures in
    record {
      standing = standing_more s c.lines.place c.ends_at.result (omega (arith, c.lines-test.true, c.line_count-count.ensures.value)) c.lines.invariant.standing.none
          (subst (MayStand c.ends_at.result) same may) c.ends_at.ensures.all;
    }

pub returns-clause-ok : goal.returns-clause-ok
returns-clause-ok c =
    let s : Scripted = c.args.script.now in
    let size : c.line_count-count.result ≡ length s.lines = c.line_count-count.ensures.value in
    let at : c.lines.place ≡ c.line_count-count.result = omega (arith, c.lines-test.false, c.lines.auto.place-end) in
    let st : Standing s c.line_count-count.result = subst (Standing s) at c.lines.invariant.standing in
    record { within = omega (arith, size); none = st.none; stop = λ less. absurd (omega (arith, less, size)); write = st.write }
