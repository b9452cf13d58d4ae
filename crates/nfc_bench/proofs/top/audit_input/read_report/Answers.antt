use Rattle.std.proofs.Common.{◌≡◌, ◌+◌, take, ◌∙◌, ap, subst}
use Rattle.nfc_io.specs.Behind.{HandsOver}
use Rattle.nfc_io.specs.declared.rest.Rest.{Rest}
use Rattle.nfc_io.specs.declared.rest.Rest.TheVariants.{TooLong}
use Rattle.nfc_bench.specs.AuditInput.{most_report, ends_in}
use Rattle.nfc_bench.proofs.top.audit_input.read_report.Goals as goal

pub returns-in-Ok-TooLong-clause-ok : goal.returns-in-Ok-TooLong-clause-ok
returns-in-Ok-TooLong-clause-ok g c =
    let P : Rest → Type 0 = λ r. HandsOver most_report c.args.reader (g.S.Source.left c.args.source.now) (g.S.Source.left c.into_rest.new.source) r in
    let over : P (TooLong c.in-Ok-TooLong.bytes) = subst P c.in-Ok-TooLong.field-0-is (c.in-Ok-TooLong.ensures.rest c.requires.going) in
    let counted : c.ends_in.result ≡ ends_in (take most_report c.in-Ok-TooLong.bytes.items) = c.ends_in.ensures.value ∙ ap ends_in (c.deref.ensures.value ∙ c.truncate.ensures.items) in
    (TooLong c.in-Ok-TooLong.bytes, over, over.all, ap (λ k. c.args.count + 2 + k) counted)
