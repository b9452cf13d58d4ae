use Rattle.std.proofs.Common.{◌≡◌, Bool, List, ℕ, true, false, inl, sym, ◌∙◌, ap, subst}
use Rattle.std.specs.Prelude.{not}
use Rattle.bench_script.specs.declared.command.Command.{Command}
use Rattle.bench_script.specs.Script.{Spells}
use Rattle.nfc_bench.specs.SweepStops.{is_fates, is_write, Stands}
use Rattle.nfc_bench.proofs.Sweeping.{may_not_fates, stands_by, stands_last}
use Rattle.nfc_bench.proofs.top.sweeping.may_stand.Goals.{then-not-is_last, else-not-is_last}
use Rattle.nfc_bench.proofs.top.sweeping.may_stand.Goals as goal

pub returns : goal.returns
returns c =
    let line : List ℕ = c.args.text.now in
    let command : Command = c.in-Ok.command in
    let spelled : Spells line command = c.in-Ok.ensures.ok in
    let none : is_fates command ≡ false = sym c.if-is_fates.ensures in
    elim c.if-not-is_last.branch [
      | then-not-is_last w ↦ (
          let inner : c.args.is_last ≡ true → ⊥ = λ is. let clash : false ≡ true = sym w.if-not-is_last.true ∙ is in absurd cc in
          subst (Stands c.args.is_last line) (sym (w.result-is ∙ ap not w.if-not-is_last.true)) (stands_by c.args.is_last line command spelled none (inl inner)))
      | else-not-is_last w ↦ stands_last c.args.is_last line command spelled none w.if-not-is_last.false c.if-not-is_last.result (w.result-is ∙ w.is_write.ensures)
    ]

pub returns-then-is_fates : goal.returns-then-is_fates
returns-then-is_fates c = may_not_fates c.args.is_last c.args.text.now c.in-Ok.command c.in-Ok.ensures.ok (sym c.if-is_fates.ensures)
