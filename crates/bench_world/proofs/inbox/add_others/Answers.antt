use Rattle.std.proofs.Common.{◌+◌, ◌++◌, ℕ, List, not, Bool, Vec, Global, sym, ◌∙◌, ap, drop}
use Rattle.snep_core.specs.Server.{Received as Accepted}
use Rattle.bench_world.specs.declared.entry.Received.{Received}
use Rattle.bench_world.specs.Inbox.{came_on_link, chosen, received_on}
use Rattle.bench_world.proofs.link_law.Ranges.{told_chosen, told_later}
use Rattle.bench_world.proofs.inbox.add_others.Goals.{then-not-came_on_link+in_ok-received+in_ok-push, else-not-came_on_link}
use Rattle.bench_world.proofs.inbox.add_others.Goals as goal

pub places-preserved : goal.places-preserved
places-preserved c =
    let choose : ℕ → Bool = λ n. not (came_on_link c.args.links.now c.args.peer n) in
    let i : ℕ = c.places.place in
    let ms : List Accepted = c.args.server.now.accepted in
    let all : List Received = c.args.told.now.items ++ received_on 0 (chosen choose 0 ms) in
    let rest : List Received = received_on 0 (chosen choose (i + 1) (drop (i + 1) ms)) in
    elim c.if-not-came_on_link.branch [
      | then-not-came_on_link+in_ok-received+in_ok-push w ↦
          ap (λ (t : Vec Received Global). t.items ++ rest) w.told-is ∙ ap (λ xs. xs ++ rest) w.in_ok-push.ensures.items
          ∙ told_chosen choose 0 i ms c.places.told.items all w.in_ok-received.field-0 (ap not (sym c.came_on_link.ensures ∙ w.if-not-came_on_link.true))
          w.in_ok-received.ensures c.places.invariant
      | else-not-came_on_link w ↦
          ap (λ (t : Vec Received Global). t.items ++ rest) w.told-is
          ∙ told_later choose 0 i ms c.places.told.items all (ap not (sym c.came_on_link.ensures ∙ w.if-not-came_on_link.false)) c.places.invariant
    ]
