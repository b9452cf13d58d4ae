use Rattle.std.proofs.Common.{◌≡◌, ◌∙◌, List, length, ◌≤◌, ℕ, drop, true, false, ap, sym, arith}
use Rattle.std.proofs.lemmas.List.{drop_all}
use Rattle.nfc_base.specs.declared.event.Event.{Event}
use Rattle.link_numbers.specs.Shown.{answers_of, far_shown, own_shown, requests_of}
use Rattle.link_numbers.specs.Walking.{Sent, ended, nothing, sent_all}
use Rattle.link_numbers.proofs.far.Kept.{far_told, own_told}
use Rattle.link_numbers.proofs.shown.numbers_shown.Goals as goal

-- nothing is left of the events
own_ends : (s : Sent) (first i : ℕ) (es : List Event) → length es ≤ i
    → sent_all false s (requests_of (drop i es)) ≡ sent_all false (nothing first) (requests_of es) → ended s ≡ own_shown first es
own_ends s first i es h e =
    ap (λ xs. ended (sent_all false s (requests_of xs))) (sym (drop_all i es h)) ∙ ap ended e ∙ own_told first (requests_of es)

far_ends : (s : Sent) (first i : ℕ) (es : List Event) → length es ≤ i
    → sent_all true s (answers_of (drop i es)) ≡ sent_all true (nothing first) (answers_of es) → ended s ≡ far_shown first es
far_ends s first i es h e =
    ap (λ xs. ended (sent_all true s (answers_of xs))) (sym (drop_all i es h)) ∙ ap ended e ∙ far_told first (answers_of es)

pub returns-clause-own : goal.returns-clause-own
returns-clause-own c =
    c.in_ok-into_numbers.ensures
    ∙ own_ends c.loop-event.own c.args.first c.loop-event.event-index c.args.events.now (omega arith) c.loop-event.invariant.own

pub returns-clause-far : goal.returns-clause-far
returns-clause-far c =
    c.in_ok-into_numbers-2.ensures
    ∙ far_ends c.loop-event.far c.args.first c.loop-event.event-index c.args.events.now (omega arith) c.loop-event.invariant.far
