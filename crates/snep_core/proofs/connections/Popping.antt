-- The oldest of what is due that says something.
use Rattle.std.proofs.Common.{◌≡◌, ◌<◌, List, [], ◌∷◌, length, refl, sym, ◌∙◌, ap, arith}
use Rattle.std.specs.Prelude.{drop, slice_index_or}
use Rattle.snep_core.specs.declared.session.Due.{Due}
use Rattle.snep_core.specs.declared.session.Due.TheVariants.{Tells, Forgets}
use Rattle.snep_core.specs.Session.{Session, popped}

-- what is due stands in the list that is walked alone
popped_any : (x : Session) (d due : List Due) → popped (record x { due = d }) due ≡ popped x due
popped_any x d [] = refl
popped_any x d (Tells word ∷ more) = refl
popped_any x d (Forgets ∷ more) = popped_any (record x { waiting = [] }) d more

-- one that says nothing
pub popped_more : (x : Session) (due rest : List Due) (first : Due) → 0 < length due → rest ≡ drop 1 due → first ≡ slice_index_or due 0 first → first ≡ Forgets
    → popped (record x { due = rest; waiting = [] }) rest ≡ popped x due
popped_more x [] rest first some left is e = absurd (omega (arith, some))
popped_more x (d ∷ due) rest first some left is e =
    ap (λ t. popped (record x { due = t; waiting = [] }) t) left
    ∙ popped_any (record x { waiting = [] }) due due ∙ ap (λ t. popped x (t ∷ due)) (sym e ∙ is)

-- what is being sent stays
pub popped_going : (x : Session) (due : List Due) → (popped x due).session.going ≡ x.going
popped_going x [] = refl
popped_going x (Tells word ∷ more) = refl
popped_going x (Forgets ∷ more) = popped_going (record x { waiting = [] }) more
