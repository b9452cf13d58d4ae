use Rattle.std.proofs.Common.{◌≡◌, ℕ, ◌-◌, ◌*◌, List, [], ◌∷◌, length, take, drop, get_or, ◌==◌, true, false, if◌then◌else◌, sym, ◌∙◌, ap, arith}
use Rattle.std.proofs.lemmas.Grind.{common_steps}
use Rattle.nfca_poll.specs.Ident.{cascade_tag}
use Rattle.nfca_poll.specs.Levels.{level}
use Rattle.nfca_poll.proofs.identifiers.LevelParts.{LevelPart, level_part, first_three}
use Rattle.nfca_poll.proofs.level.Level.of.Goals as goal

pub returns-then-rest-eq4 : goal.returns-then-rest-eq4
returns-then-rest-eq4 c =
    let id : List ℕ = c.args.id.now in
    let p : LevelPart id c.args.level = level_part c.args.level c.requires.low id c.view.ensures.valid.size c.requires.high in
    let rest : List ℕ = drop (3 * (c.args.level - 1)) id in
    let four : (length rest == 4) ≡ true = grind (arith, common_steps) in
    let bytes : c.unwrap-last.result ≡ rest = grind (arith, common_steps) in
    c.new.ensures ∙ ap level bytes ∙ ap (λ v. if v then level rest else level (cascade_tag ∷ take 3 rest)) (sym four) ∙ sym p.is

pub returns : goal.returns
returns c =
    let id : List ℕ = c.args.id.now in
    let p : LevelPart id c.args.level = level_part c.args.level c.requires.low id c.view.ensures.valid.size c.requires.high in
    let rest : List ℕ = drop (3 * (c.args.level - 1)) id in
    let other : (length rest == 4) ≡ false = grind (arith, common_steps) in
    let bytes : c.split_at.result.1.now ≡ rest = grind (arith, common_steps) in
    c.new-2.ensures
    ∙ ap (λ b. level (cascade_tag ∷ get_or b 0 0 ∷ get_or b 1 0 ∷ get_or b 2 0 ∷ [])) bytes
    ∙ ap (λ b. level (cascade_tag ∷ b)) (first_three rest p.some)
    ∙ ap (λ v. if v then level rest else level (cascade_tag ∷ take 3 rest)) (sym other) ∙ sym p.is
