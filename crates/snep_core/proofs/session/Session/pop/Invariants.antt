use Rattle.std.proofs.Common.{◌≡◌, length}
use Rattle.snep_core.specs.Session.{Session, popped}
use Rattle.snep_core.proofs.session.Session.pop.Given as goal

abbrev pub invariant-loop-self : goal.invariant-loop-self
invariant-loop-self l =
    let x : Session = record { gathered = l.self-inside.gathered; due = l.self-inside.due.items; waiting = l.self-inside.waiting; going = l.self-inside.going } in
    let old : Session = record { gathered = l.initial.self-inside.gathered; due = l.initial.self-inside.due.items; waiting = l.initial.self-inside.waiting; going = l.initial.self-inside.going } in
    popped x x.due ≡ popped old old.due

abbrev pub decreases-loop-self : goal.decreases-loop-self
decreases-loop-self l = length l.self-inside.due.items
