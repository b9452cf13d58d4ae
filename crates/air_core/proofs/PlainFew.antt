-- How few transmissions an `ask` of a plain link takes.
use Rattle.std.proofs.Common.{◌≡◌, ◌+◌, ◌≤◌, [], ◌∷◌, length, Option, Some, None, Result, Ok, Err, refl, sym, ◌∙◌, ap, arith}
use Rattle.std.proofs.lemmas.List.{length-append}
use Rattle.nfc_base.specs.declared.tag_link.AskFault.{AskFault}
use Rattle.nfc_base.specs.Signal.{Signal}
use Rattle.nfc_base.specs.TagLinks.{IsAnswer, IsFault}
use Rattle.air_core.specs.PlainLinks.{PlainSeen, PlainMoves, FewSent, unanswered, answered_by_link, asked_on, plain_view}
use Rattle.air_core.specs.declared.listener.Listener.{Ghosts}

most_unanswered : (o : Option AskFault) (last : Option Signal) → length (unanswered o last) ≤ 1
most_unanswered None last = omega arith
most_unanswered (Some e) None = omega arith
most_unanswered (Some e) (Some c) = omega arith

none_unanswered : (o : Option AskFault) (last : Option Signal) → o ≡ None → length (unanswered o last) ≡ 0
none_unanswered None last e = refl
none_unanswered (Some f) last e = absurd cc

module _ {L : Type 0} (k : Ghosts L) (a b : PlainSeen L) (m : PlainMoves k a b) where
  -- how many commands were asked, by how many are known on the link
  asked_count : length (answered_by_link k b) + length (unanswered b.over b.last)
      ≡ (length (answered_by_link k a) + length (unanswered a.over a.last)) + length m.asked.commands
  asked_count =
      sym (length-append (answered_by_link k b) (unanswered b.over b.last)) ∙ ap length m.asked.told
      ∙ length-append (asked_on k a) m.asked.commands
      ∙ ap (λ n. n + length m.asked.commands) (length-append (answered_by_link k a) (unanswered a.over a.last))

  few_by : length m.asked.commands ≤ 1 → length b.air.trace ≤ length a.air.trace + 12
  few_by one = omega (arith, one, m.asked.most)

pub few_sent : {L : Type 0} (k : Ghosts L) (a b : PlainSeen L) (c : Signal) (result : Result Signal AskFault) → FewSent k a b c result
few_sent k a b c (Ok reply) m ok err =
    let is : IsAnswer (plain_view k a) (plain_view k b) c reply = ok in
    let none : length (unanswered b.over b.last) ≡ 0 = none_unanswered b.over b.last is.stays in
    let more : length (answered_by_link k b) ≡ length (answered_by_link k a) + 1 = ap length is.answered ∙ length-append (answered_by_link k a) (c ∷ []) in
    let count = asked_count k a b m in
    few_by k a b m (omega (arith, none, more, count))
few_sent k a b c (Err e) m ok err =
    let is : IsFault (plain_view k a) (plain_view k b) c e = err in
    let one : length (unanswered b.over b.last) ≤ 1 = most_unanswered b.over b.last in
    let same : length (answered_by_link k b) ≡ length (answered_by_link k a) = ap length is.answered in
    let count = asked_count k a b m in
    few_by k a b m (omega (arith, one, same, count))
