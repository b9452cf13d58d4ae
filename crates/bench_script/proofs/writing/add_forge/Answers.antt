use Rattle.std.proofs.lemmas.Result.{on_ok_weaker}
use Rattle.std.proofs.Common.{rules, ◌≡◌, ◌++◌, ◌∷◌, ◌∙◌, ℕ, List, map, ap}
use Rattle.std.specs.Prelude.{codes}
use Rattle.hex.specs.Hex.{encode_upper}
use Rattle.bench_script.proofs.Canonical.{row_behind}
use Rattle.bench_script.proofs.writing.add_forge.Goals as goal

pub returns : goal.returns
returns c =
    let x : List ℕ = c.extend_from_slice.new.self.items in
    let same : c.view.result.now ≡ c.args.id.now = search rules in
    on_ok_weaker c.add_payloads.result (λ e. e ∙ row_behind c.args.line.now.items x c.add_digits.new.line.items (codes "forge") (encode_upper c.args.id.now) (map encode_upper c.args.payloads.now)
    c.in_ok-extend_from_slice.ensures.items (c.in_ok-add_digits.ensures ∙ ap (λ i. x ++ 32 ∷ encode_upper i) same)) c.add_payloads.ensures
