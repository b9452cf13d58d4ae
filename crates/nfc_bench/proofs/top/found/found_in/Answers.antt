use Rattle.std.proofs.Common.{◌≡◌, ◌∷◌, ℕ, List, take, refl, sym, ◌∙◌, ap, subst, arith}
use Rattle.std.specs.Option.{option_copied}
use Rattle.std.proofs.lemmas.List.{take_all}
use Rattle.bench_world.specs.declared.entry.Entry.{Entry}
use Rattle.nfc_bench.specs.Sweep.{written_in, first_told, found_among, found_in}
use Rattle.nfc_bench.proofs.top.found.found_in.Goals as goal

-- what was counted is what is found in these runs
found_so : (first : List Entry) (broken : List (List Entry)) → found_in (first ∷ broken) ≡ found_among (first_told broken) (written_in first) broken
unfolding found_in
found_so first broken = refl

pub returns : goal.returns
returns c =
    let first : List Entry = c.in-Some.first.now in
    let broken : List (List Entry) = c.in-Some.broken.now in
    let parts : c.args.runs.now ≡ first ∷ broken = c.in-Some.ensures.cases.0 in
    let all : take c.runs.run-index broken ≡ broken = take_all c.runs.run-index broken (omega (arith, c.runs-test.false)) in
    let counted = subst (λ xs. c.runs.found ≡ found_among (option_copied c.first_told-before.result) c.in_ok-written.written.items xs) all c.runs.invariant.counted in
    counted ∙ ap (λ o. found_among o c.in_ok-written.written.items broken) c.first_told-before.ensures ∙ ap (λ w. found_among (first_told broken) w broken) c.in_ok-written.ensures
    ∙ sym (found_so first broken) ∙ ap found_in (sym parts)
