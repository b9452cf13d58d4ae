use Rattle.std.proofs.Common.{◌≡◌, ℕ, ◌+◌, ◌++◌, ◌∷◌, [], List, Option, sym, subst, arith, ap, ◌∙◌}
use Rattle.nfc_io.specs.Reading.{Lined}
use Rattle.nfc_bench.specs.private.AuditReading.{GoesTo, HasGathered}
use Rattle.nfc_bench.specs.declared.top.audit_input.Next.TheVariants.{Line, Mark, Nothing}
use Rattle.nfc_bench.proofs.AuditBounds.{ahead_bound}
use Rattle.nfc_bench.proofs.AuditReading.{gathered_more, comes_to_mark, comes_nowhere, none_too_many}
use Rattle.nfc_bench.proofs.top.audit_input.read_ahead.Goals as goal

pub lines-preserved : goal.lines-preserved
lines-preserved g c =
    let left : Option (List ℕ) = g.S.Source.left c.args.source.now in
    let mid : Option (List ℕ) = g.S.Source.left c.lines.source in
    let left' : Option (List ℕ) = g.S.Source.left c.next_line.new.source in
    let a : Lined = c.lines.reader in
    let b : Lined = c.next_line.new.reader in
    let goes : GoesTo a b mid left' Line = subst (λ n. GoesTo a b mid left' n) c.in-Ok-Line.field-0-is c.in-Ok-Line.ensures.ok in
    let script : List ℕ = c.lines.script.items in
    let pushed : c.push_line.new.script.items ≡ script ++ (b.line ++ 10 ∷ []) = c.in-Ok.ensures ∙ ap (λ x. script ++ (x ++ 10 ∷ [])) c.line.ensures in
    record {
      gathered = subst (λ x. HasGathered left left' b x (c.lines.count + 1)) (sym pushed)
          (gathered_more left mid left' a b script c.lines.count c.lines.invariant.gathered c.lines-test.true goes.0 goes.1);
      few = omega (arith, c.lines-test.true);
      still = c.in-Ok-Line.ensures.still ∙ c.lines.invariant.still;
    }

pub returns-in-Ok-Mark-clause-ok : goal.returns-in-Ok-Mark-clause-ok
returns-in-Ok-Mark-clause-ok g c =
    let mid : Option (List ℕ) = g.S.Source.left c.lines.source in
    let left' : Option (List ℕ) = g.S.Source.left c.next_line.new.source in
    let goes : GoesTo c.lines.reader c.next_line.new.reader mid left' Mark =
    subst (λ n. GoesTo c.lines.reader c.next_line.new.reader mid left' n) c.in-Ok-Mark.field-0-is c.in-Ok-Mark.ensures.ok in (
      comes_to_mark (g.S.Source.left c.args.source.now) mid left' c.lines.reader c.next_line.new.reader c.lines.script.items c.lines.count c.lines.invariant.gathered goes.0 goes.1,
      c.lines.invariant.few,
    )

pub returns-in-Ok-Nothing-clause-ok : goal.returns-in-Ok-Nothing-clause-ok
returns-in-Ok-Nothing-clause-ok g c =
    let mid : Option (List ℕ) = g.S.Source.left c.lines.source in
    let left' : Option (List ℕ) = g.S.Source.left c.next_line.new.source in (
      comes_nowhere (g.S.Source.left c.args.source.now) mid left' c.lines.reader c.next_line.new.reader c.lines.script.items c.lines.count c.lines.invariant.gathered
          (subst (λ n. GoesTo c.lines.reader c.next_line.new.reader mid left' n) c.in-Ok-Nothing.field-0-is c.in-Ok-Nothing.ensures.ok),
      c.lines.invariant.few,
    )

pub returns-in-Ok-Line-next_line-clause-ok : goal.returns-in-Ok-Line-next_line-clause-ok
returns-in-Ok-Line-next_line-clause-ok g c =
    let left : Option (List ℕ) = g.S.Source.left c.args.source.now in
    let mid : Option (List ℕ) = g.S.Source.left c.lines.source in
    let left' : Option (List ℕ) = g.S.Source.left c.next_line-2.new.source in
    let goes : GoesTo c.lines.reader c.next_line-2.new.reader mid left' Line =
    subst (λ n. GoesTo c.lines.reader c.next_line-2.new.reader mid left' n) c.in-Ok-Line-next_line.field-0-is c.in-Ok-Line-next_line.ensures.ok in (
      none_too_many left mid left' c.lines.reader c.next_line-2.new.reader c.lines.script.items c.lines.count c.lines.invariant.gathered (omega (arith, c.lines-test.false)) goes.0 goes.1,
      c.lines.invariant.few,
    )

pub returns-in-Ok-Mark-next_line-clause-ok : goal.returns-in-Ok-Mark-next_line-clause-ok
returns-in-Ok-Mark-next_line-clause-ok g c =
    let left : Option (List ℕ) = g.S.Source.left c.args.source.now in
    let mid : Option (List ℕ) = g.S.Source.left c.lines.source in
    let left' : Option (List ℕ) = g.S.Source.left c.next_line-2.new.source in
    let goes : GoesTo c.lines.reader c.next_line-2.new.reader mid left' Mark =
    subst (λ n. GoesTo c.lines.reader c.next_line-2.new.reader mid left' n) c.in-Ok-Mark-next_line.field-0-is c.in-Ok-Mark-next_line.ensures.ok in
    (comes_to_mark left mid left' c.lines.reader c.next_line-2.new.reader c.lines.script.items c.lines.count c.lines.invariant.gathered goes.0 goes.1, c.lines.invariant.few)

pub returns-in-Ok-Nothing-next_line-clause-ok : goal.returns-in-Ok-Nothing-next_line-clause-ok
returns-in-Ok-Nothing-next_line-clause-ok g c =
    let left : Option (List ℕ) = g.S.Source.left c.args.source.now in
    let mid : Option (List ℕ) = g.S.Source.left c.lines.source in
    let left' : Option (List ℕ) = g.S.Source.left c.next_line-2.new.source in
    let goes : GoesTo c.lines.reader c.next_line-2.new.reader mid left' Nothing =
    subst (λ n. GoesTo c.lines.reader c.next_line-2.new.reader mid left' n) c.in-Ok-Nothing-next_line.field-0-is c.in-Ok-Nothing-next_line.ensures.ok in
    (comes_nowhere left mid left' c.lines.reader c.next_line-2.new.reader c.lines.script.items c.lines.count c.lines.invariant.gathered goes, c.lines.invariant.few)

pub returns-in-Ok-Mark-clause-bound : goal.returns-in-Ok-Mark-clause-bound
returns-in-Ok-Mark-clause-bound g c =
    ahead_bound (g.S.Source.left c.args.source.now) (g.S.Source.left c.lines.source) (g.S.Source.left c.next_line.new.source) c.lines.reader c.next_line.new.reader c.lines.script.items c.lines.count
    c.lines.invariant.gathered c.in-Ok-Mark.ensures.went

pub returns-in-Ok-Nothing-clause-bound : goal.returns-in-Ok-Nothing-clause-bound
returns-in-Ok-Nothing-clause-bound g c =
    ahead_bound (g.S.Source.left c.args.source.now) (g.S.Source.left c.lines.source) (g.S.Source.left c.next_line.new.source) c.lines.reader c.next_line.new.reader c.lines.script.items c.lines.count
    c.lines.invariant.gathered c.in-Ok-Nothing.ensures.went

pub returns-in-Err-clause-bound : goal.returns-in-Err-clause-bound
returns-in-Err-clause-bound g c =
    ahead_bound (g.S.Source.left c.args.source.now) (g.S.Source.left c.lines.source) (g.S.Source.left c.next_line.new.source) c.lines.reader c.next_line.new.reader c.lines.script.items c.lines.count
    c.lines.invariant.gathered c.in-Err.ensures.went

pub returns-in_default-clause-bound : goal.returns-in_default-clause-bound
returns-in_default-clause-bound g c =
    ahead_bound (g.S.Source.left c.args.source.now) (g.S.Source.left c.lines.source) (g.S.Source.left c.next_line.new.source) c.lines.reader c.next_line.new.reader c.lines.script.items c.lines.count
    c.lines.invariant.gathered c.in-Ok-Line.ensures.went

pub returns-in-Ok-Line-next_line-clause-bound : goal.returns-in-Ok-Line-next_line-clause-bound
returns-in-Ok-Line-next_line-clause-bound g c =
    ahead_bound (g.S.Source.left c.args.source.now) (g.S.Source.left c.lines.source) (g.S.Source.left c.next_line-2.new.source) c.lines.reader c.next_line-2.new.reader c.lines.script.items
    c.lines.count
    c.lines.invariant.gathered c.in-Ok-Line-next_line.ensures.went

pub returns-in-Ok-Mark-next_line-clause-bound : goal.returns-in-Ok-Mark-next_line-clause-bound
returns-in-Ok-Mark-next_line-clause-bound g c =
    ahead_bound (g.S.Source.left c.args.source.now) (g.S.Source.left c.lines.source) (g.S.Source.left c.next_line-2.new.source) c.lines.reader c.next_line-2.new.reader c.lines.script.items
    c.lines.count
    c.lines.invariant.gathered c.in-Ok-Mark-next_line.ensures.went

pub returns-in-Ok-Nothing-next_line-clause-bound : goal.returns-in-Ok-Nothing-next_line-clause-bound
returns-in-Ok-Nothing-next_line-clause-bound g c =
    ahead_bound (g.S.Source.left c.args.source.now) (g.S.Source.left c.lines.source) (g.S.Source.left c.next_line-2.new.source) c.lines.reader c.next_line-2.new.reader c.lines.script.items
    c.lines.count
    c.lines.invariant.gathered c.in-Ok-Nothing-next_line.ensures.went

pub returns-in-Err-next_line-clause-bound : goal.returns-in-Err-next_line-clause-bound
returns-in-Err-next_line-clause-bound g c =
    ahead_bound (g.S.Source.left c.args.source.now) (g.S.Source.left c.lines.source) (g.S.Source.left c.next_line-2.new.source) c.lines.reader c.next_line-2.new.reader c.lines.script.items
    c.lines.count
    c.lines.invariant.gathered c.in-Err-next_line.ensures.went
