use Rattle.std.proofs.Common.{ℕ, List, length, sym, ap, subst, arith}
use Rattle.std.proofs.lemmas.List.{take_all}
use Rattle.nfc_io.specs.Lines.{NoLf}
use Rattle.nfc_io.proofs.held.Held.reach.Goals as goal

pub returns-then-clean-gt-LONGEST_LINE-clause-err : goal.returns-then-clean-gt-LONGEST_LINE-clause-err
returns-then-clean-gt-LONGEST_LINE-clause-err g c =
    let held : List ℕ = c.reading.self in
    let none : NoLf held = subst NoLf c.view-held.ensures.value c.in_default.ensures in
    (omega (arith, c.if-clean-gt-LONGEST_LINE.true, ap length c.view-held.ensures.value), subst NoLf (sym (take_all 4097 held c.view-held.ensures.size)) none)
