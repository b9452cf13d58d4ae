use Rattle.std.proofs.Common.{◌≡◌, ◌≢◌, List, ℕ, ◌∷◌, length, take, drop, ◌-◌, get_or, ap, sym, ◌∙◌, arith, Some}
use Rattle.std.specs.Prelude.{codes}
use Rattle.std.proofs.lemmas.Grind.{common_steps}
use Rattle.std.specs.Cmp.Lexicographic.{other_text}
use Rattle.nfc_base.specs.declared.event.Event.{Event}
use Rattle.trace_audit.proofs.Finding.{asked_told, answered_told, clashed_told, nothing_told, two_first}
use Rattle.trace_audit.proofs.event_texts.event_of.Goals as goal

pub returns-in_err-frame-clause-finds : goal.returns-in_err-frame-clause-finds
returns-in_err-frame-clause-finds c = λ e is.
    let begins : c.args.text.now ≡ get_or c.args.text.now 0 0 ∷ 32 ∷ take (length c.args.text.now - 2) (drop 2 c.args.text.now) =
    two_first c.args.text.now c.in-32.len_at_least ∙ ap (λ b. get_or c.args.text.now 0 0 ∷ b ∷ take (length c.args.text.now - 2) (drop 2 c.args.text.now)) (grind (arith, common_steps)) in
    let other : c.args.text.now ≢ codes "! reset" = λ same. other_text c.args.text.now c.as_slice.result.now (sym c.if-eq.false ∙ c.eq.ensures) (same ∙ sym c.as_slice.ensures) in
    absurd (nothing_told c.args.tech c.args.text.now (take (length c.args.text.now - 2) (drop 2 c.args.text.now)) (get_or c.args.text.now 0 0) e begins other c.in_err-frame.ensures.finds is)

pub returns-in-62-clause-finds : goal.returns-in-62-clause-finds
returns-in-62-clause-finds c = λ e is.
    let sent : List ℕ = take (length c.args.text.now - 2) (drop 2 c.args.text.now) in
    let begins : c.args.text.now ≡ 62 ∷ 32 ∷ sent =
    two_first c.args.text.now c.in-32.len_at_least ∙ ap (λ b. b ∷ get_or c.args.text.now 1 0 ∷ sent) c.in-62.is ∙ ap (λ b. 62 ∷ b ∷ sent) (grind (arith, common_steps)) in
    ap (λ (x : Event). Some x) (sym (asked_told c.args.tech c.args.text.now sent c.in_ok-frame.frame c.in_ok-frame.fate e begins c.in_ok-frame.ensures.finds is))

pub returns-in-60-clause-finds : goal.returns-in-60-clause-finds
returns-in-60-clause-finds c = λ e is.
    let sent : List ℕ = take (length c.args.text.now - 2) (drop 2 c.args.text.now) in
    let begins : c.args.text.now ≡ 60 ∷ 32 ∷ sent =
    two_first c.args.text.now c.in-32.len_at_least ∙ ap (λ b. b ∷ get_or c.args.text.now 1 0 ∷ sent) c.in-60.is ∙ ap (λ b. 60 ∷ b ∷ sent) (grind (arith, common_steps)) in
    ap (λ (x : Event). Some x) (sym (answered_told c.args.tech c.args.text.now sent c.in_ok-frame.frame c.in_ok-frame.fate e begins c.in_ok-frame.ensures.finds is))

pub returns-in-42-clause-finds : goal.returns-in-42-clause-finds
returns-in-42-clause-finds c = λ e is.
    let sent : List ℕ = take (length c.args.text.now - 2) (drop 2 c.args.text.now) in
    let begins : c.args.text.now ≡ 42 ∷ 32 ∷ sent =
    two_first c.args.text.now c.in-32.len_at_least ∙ ap (λ b. b ∷ get_or c.args.text.now 1 0 ∷ sent) c.in-42.is ∙ ap (λ b. 42 ∷ b ∷ sent) (grind (arith, common_steps)) in
    ap (λ (x : Event). Some x) (sym (clashed_told c.args.tech c.args.text.now sent c.in_ok-frame.frame c.in_ok-frame.fate e begins c.in_ok-frame.ensures.finds is))
