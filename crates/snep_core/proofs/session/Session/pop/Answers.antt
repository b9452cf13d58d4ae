use Rattle.std.proofs.Common.{rules, ◌<◌, List, length, ◌∙◌, ap}
use Rattle.snep_core.specs.declared.session.Due.{Due}
use Rattle.snep_core.specs.Session.{Session, popped}
use Rattle.snep_core.proofs.connections.Popping.{popped_more}
use Rattle.snep_core.proofs.session.Session.pop.Goals as goal

pub loop-self-preserved-in-Forgets : goal.loop-self-preserved-in-Forgets
loop-self-preserved-in-Forgets c =
    let due : List Due = c.loop-self.self-inside.due.items in
    let rest : List Due = c.remove.new.self.items in
    let x : Session = record { gathered = c.loop-self.self-inside.gathered; due = due; waiting = c.loop-self.self-inside.waiting; going = c.loop-self.self-inside.going } in
    let some : 0 < length due = search rules in
    ap (λ w. popped (record x { due = rest; waiting = w }) rest) c.new.ensures
    ∙ popped_more x due rest c.remove.result some (search rules) (search rules) c.in-Forgets.is
    ∙ c.loop-self.invariant

pub loop-self-preserved : goal.loop-self-preserved
loop-self-preserved c =
    let due : List Due = c.loop-self.self-inside.due.items in
    let rest : List Due = c.remove.new.self.items in
    let x : Session = record { gathered = c.loop-self.self-inside.gathered; due = due; waiting = c.loop-self.self-inside.waiting; going = c.loop-self.self-inside.going } in
    let some : 0 < length due = search rules in
    ap (λ w. popped (record x { due = rest; waiting = w }) rest) c.new.ensures
    ∙ popped_more x due rest c.remove.result some (search rules) (search rules) c.in-Forgets.is
    ∙ c.loop-self.invariant
