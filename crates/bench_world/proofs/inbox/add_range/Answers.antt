use Rattle.std.proofs.Common.{◌+◌, ◌++◌, ℕ, List, Bool, Vec, Global, sym, ◌∙◌, ap, drop}
use Rattle.snep_core.specs.Server.{Received as Accepted}
use Rattle.bench_world.specs.declared.entry.Received.{Received}
use Rattle.bench_world.specs.Inbox.{is_in, chosen, received_on}
use Rattle.bench_world.proofs.link_law.Ranges.{told_chosen, told_later}
use Rattle.bench_world.proofs.inbox.add_range.Goals.{then-has+in_ok-received+in_ok-push, else-has}
use Rattle.bench_world.proofs.inbox.add_range.Goals as goal

pub places-preserved : goal.places-preserved
places-preserved c =
    let choose : ℕ → Bool = is_in c.args.link.now in
    let i : ℕ = c.places.place in
    let number : ℕ = c.args.number in
    let ms : List Accepted = c.args.server.now.accepted in
    let all : List Received = c.args.told.now.items ++ received_on number (chosen choose 0 ms) in
    let rest : List Received = received_on number (chosen choose (i + 1) (drop (i + 1) ms)) in
    elim c.if-has.branch [
      | then-has+in_ok-received+in_ok-push w ↦
          ap (λ (t : Vec Received Global). t.items ++ rest) w.told-is ∙ ap (λ xs. xs ++ rest) w.in_ok-push.ensures.items
          ∙ told_chosen choose number i ms c.places.told.items all w.in_ok-received.field-0 (sym c.has.ensures ∙ w.if-has.true) w.in_ok-received.ensures
          c.places.invariant
      | else-has w ↦
          ap (λ (t : Vec Received Global). t.items ++ rest) w.told-is
          ∙ told_later choose number i ms c.places.told.items all (sym c.has.ensures ∙ w.if-has.false) c.places.invariant
    ]
