use Rattle.std.proofs.Common.{rules, ◌≡◌, ◌==◌, min, length, true, Some, None, option_map, sym, ◌∙◌, ap}
use Rattle.snep_core.specs.Session.{Session, due_len}
use Rattle.snep_core.proofs.sessions.Lengths.{none_going}
use Rattle.snep_core.proofs.session.Session.next_len.Goals as goal

pub returns-in-Some : goal.returns-in-Some
returns-in-Some c =
    let x : Session = c.args.self.now in
    let none : (length x.going == 0) ≡ true = search rules in
    let told : due_len (length x.waiting) x.due ≡ Some c.in-Some.size = search rules in
    ap Some c.min-in-Some.ensures ∙ sym (none_going c.args.miu x none ∙ ap (option_map (λ n. min n c.args.miu)) told)

pub returns-in-None : goal.returns-in-None
returns-in-None c =
    let x : Session = c.args.self.now in
    let none : (length x.going == 0) ≡ true = search rules in
    let told : due_len (length x.waiting) x.due ≡ None = search rules in
    sym (none_going c.args.miu x none ∙ ap (option_map (λ n. min n c.args.miu)) told)
