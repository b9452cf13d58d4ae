-- What the tag did with a command that is answered by the next turn, or by none.
use Rattle.std.proofs.Common.{◌≡◌, suc, ◌+◌, List, ◌++◌, ◌∷◌, [], take, sym, ◌∙◌, ap, subst, arith, Option, Some}
use Rattle.nfc_base.specs.Signal.{Signal}
use Rattle.nfc_base.specs.TagLinks.{Obeys, IsFault, IsAnswer, after_all}
use Rattle.nfc_base.specs.declared.tag_link.AskFault.{AskFault}
use Rattle.nfc_base.specs.declared.tag_link.AskFault.TheVariants.{FieldLost}
use Rattle.tag_steps.specs.declared.turn.Turn.{Turn}
use Rattle.tag_steps.specs.Replay.{Tag, commands_of, link_at}
use Rattle.tag_steps.proofs.Replays.{one_more, answered_so, ran_out, lost_so, obeyed_so, answer_so}
use Rattle.tag_steps.proofs.replay.ReplayTagLink.ask.Goals as goal

pub returns-in_default-get-clause-obeys : goal.returns-in_default-get-clause-obeys
returns-in_default-get-clause-obeys g c =
    let l = c.args.self.now in
    let t : Tag = g.G.RealTag.real l.tag.now in
    let asked : List Signal = commands_of (take l.used l.turns.now) in
    let O : Option AskFault → Signal → Type 0 = λ o f. Obeys (link_at t o l.last asked) (link_at t (Some FieldLost) (Some f) asked) c.args.command.now in
    subst (O l.over) (sym c.copy.ensures) (subst (λ o. O o c.args.command.now) (sym c.in_default.is) (ran_out t l.last asked c.args.command.now))

pub returns-in_default-get-clause-err : goal.returns-in_default-get-clause-err
returns-in_default-get-clause-err g c =
    let l = c.args.self.now in
    let t : Tag = g.G.RealTag.real l.tag.now in
    let asked : List Signal = commands_of (take l.used l.turns.now) in
    let O : Option AskFault → Signal → Type 0 = λ o f. IsFault (link_at t o l.last asked) (link_at t (Some FieldLost) (Some f) asked) c.args.command.now FieldLost in
    subst (O l.over) (sym c.copy.ensures) (subst (λ o. O o c.args.command.now) (sym c.in_default.is) (lost_so t l.last asked c.args.command.now))

pub returns-clause-obeys : goal.returns-clause-obeys
returns-clause-obeys g c =
    let l = c.args.self.now in
    let t : Tag = g.G.RealTag.real l.tag.now in
    let command : Signal = c.args.command.now in
    let asked : List Signal = commands_of (take l.used l.turns.now) in
    let turn : Turn = c.in-Some-get.turn.now in
    let asks : turn.command ≡ command = c.is_same.ensures.frame.0 c.if-not-is_same.false in
    let next : l.used + 1 ≡ suc l.used = omega arith in
    let more : commands_of (take (l.used + 1) l.turns.now) ≡ asked ++ command ∷ [] =
    ap (λ n. commands_of (take n l.turns.now)) next ∙ one_more l.turns.now l.used turn c.in-Some-get.ensures.lookup.3.0 (c.in-Some-get.ensures.lookup.3.1 turn) ∙ ap (λ x. asked ++ x ∷ []) asks in
    let O : Option AskFault → Signal → List Signal → Type 0 = λ o f cs. Obeys (link_at t o l.last asked) (link_at t o (Some f) cs) command in
    subst (λ f. O l.over f (commands_of (take (l.used + 1) l.turns.now))) (sym c.copy.ensures)
    (subst (O l.over command) (sym more) (subst (λ o. O o command (asked ++ command ∷ [])) (sym c.in_default.is) (obeyed_so t l.last asked command)))

pub returns-clause-ok : goal.returns-clause-ok
returns-clause-ok g c =
    let l = c.args.self.now in
    let t : Tag = g.G.RealTag.real l.tag.now in
    let command : Signal = c.args.command.now in
    let asked : List Signal = commands_of (take l.used l.turns.now) in
    let turn : Turn = c.in-Some-get.turn.now in
    let asks : turn.command ≡ command = c.is_same.ensures.frame.0 c.if-not-is_same.false in
    let next : l.used + 1 ≡ suc l.used = omega arith in
    let more : commands_of (take (l.used + 1) l.turns.now) ≡ asked ++ command ∷ [] =
    ap (λ n. commands_of (take n l.turns.now)) next ∙ one_more l.turns.now l.used turn c.in-Some-get.ensures.lookup.3.0 (c.in-Some-get.ensures.lookup.3.1 turn) ∙ ap (λ x. asked ++ x ∷ []) asks in
    let told : (t.step (after_all t.step t.start asked) command).answer ≡ Some c.copy-2.result =
    ap (λ x. (t.step (after_all t.step t.start asked) x).answer) (sym asks)
    ∙ answered_so t.step t.start l.turns.now l.used turn c.in-Some-get.ensures.lookup.3.0 (c.in-Some-get.ensures.lookup.3.1 turn) c.requires.ready.0 ∙ ap Some (sym c.copy-2.ensures) in
    let O : Option AskFault → Signal → List Signal → Type 0 = λ o f cs. IsAnswer (link_at t o l.last asked) (link_at t o (Some f) cs) command c.copy-2.result in
    subst (λ f. O l.over f (commands_of (take (l.used + 1) l.turns.now))) (sym c.copy.ensures)
    (subst (O l.over command) (sym more) (subst (λ o. O o command (asked ++ command ∷ [])) (sym c.in_default.is) (answer_so t l.last asked command c.copy-2.result told)))
