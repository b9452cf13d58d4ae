-- A log's tag gives its answers.
use Rattle.std.proofs.Common.{◌≡◌, List, [], ◌∷◌, ◌++◌, length, Some, refl, ◌∙◌, ap, subst, append_assoc, length-append, arith}
use Rattle.nfc_base.specs.TagLinks.{TagState, plain_state}
use Rattle.tag_steps.specs.declared.turn.Turn.{Turn}
use Rattle.tag_steps.specs.Logged.{answer_in, log_step}
use Rattle.tag_steps.specs.Replay.{AgreesFrom}

at : (before : List Turn) (t : Turn) (ts : List Turn) → answer_in (before ++ t ∷ ts) (length before) ≡ Some t.answer
at [] t ts = refl
at (b ∷ before) t ts = at before t ts

agrees_from : (before ts : List Turn) (s : TagState) → length s.store ≡ length before → AgreesFrom (log_step (before ++ ts)) s ts
agrees_from before [] s e = tt
agrees_from before (t ∷ ts) s e = (
  ap (answer_in (before ++ t ∷ ts)) e ∙ at before t ts,
  subst (λ (all : List Turn). AgreesFrom (log_step all) (record s { store = 0 ∷ s.store }) ts) (append_assoc before (t ∷ []) ts)
      (agrees_from (before ++ t ∷ []) ts (record s { store = 0 ∷ s.store }) (omega (arith, e, length-append before (t ∷ [])))),
)

pub agrees : (ts : List Turn) → AgreesFrom (log_step ts) (plain_state []) ts
agrees ts = agrees_from [] ts (plain_state []) refl
