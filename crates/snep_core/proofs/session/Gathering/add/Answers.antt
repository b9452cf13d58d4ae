use Rattle.std.proofs.Common.{rules, ◌≡◌, ℕ, ◌-◌, List, [], ◌∷◌, ◌++◌, length, ◌∙◌, ap}
use Rattle.std.specs.List.{concat}
use Rattle.std.proofs.lemmas.List.{append-nil}
use Rattle.std.proofs.lemmas.List.Folds.{concat-append}
use Rattle.snep_core.specs.Session.{Gathering}
use Rattle.snep_core.proofs.session.Gathering.add.Goals as goal

pub returns : goal.returns
returns c =
    let before : List (List ℕ) = c.self.inside.pieces.items in
    let piece : List ℕ = c.args.piece.now in
    let items : c.push.new.self.items ≡ before ++ piece ∷ [] = search rules in
    let all : concat c.push.new.self.items ≡ concat before ++ piece = ap concat items ∙ concat-append before (piece ∷ []) ∙ ap (λ t. concat before ++ t) (append-nil piece) in
    let seen : record { request = c.self.inside.request; left = c.self.inside.left; info = concat before } ≡ c.args.self.now = search rules in
    ap (λ t. record { request = c.self.inside.request; left = c.self.inside.left - length piece; info = t }) all
    ∙ ap (λ (g : Gathering). record { request = g.request; left = g.left - length piece; info = g.info ++ piece }) seen
