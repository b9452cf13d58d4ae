use Rattle.std.proofs.Common.{rules, ◌≡◌, ◌==◌, length, true, ◌∙◌, ap}
use Rattle.snep_core.specs.Session.{Session}
use Rattle.snep_core.proofs.sessions.Lengths.{none_here}
use Rattle.snep_core.proofs.connections.Popping.{popped_going}
use Rattle.snep_core.proofs.session.Session.next.Goals as goal

pub send-requires : goal.send-requires
send-requires c =
    let x : Session = c.args.self.now in
    let none : (length x.going == 0) ≡ true = search rules in
    ap (λ (y : Session). y.going) c.pop.ensures.rest ∙ popped_going x x.due ∙ none_here x.going none
