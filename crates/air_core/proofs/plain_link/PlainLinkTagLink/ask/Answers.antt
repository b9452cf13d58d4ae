use Rattle.air_core.specs.laws.PlainMoving.{moves_again}
use Rattle.air_core.proofs.ListenerLaws.{laws_of}
use Rattle.air_core.proofs.PlainAside.{Laws}
use Rattle.air_core.proofs.PlainAnswers.{none_here, ok_obeys, ok_rises, ok_answer, ok_ready, ok_moves, err_obeys, err_rises, err_fault, err_calm, err_moves}
use Rattle.air_core.proofs.plain_link.PlainLinkTagLink.ask.Given as given
use Rattle.air_core.proofs.plain_link.PlainLinkTagLink.ask.Goals as goal

laws : (g : given.Over) → Laws g.L.Listener
laws g = laws_of g.met.L.Listener

pub returns-in-Some-clause-moves : goal.returns-in-Some-clause-moves
returns-in-Some-clause-moves g c = moves_again _ _

pub returns-in-Ok-clause-obeys : goal.returns-in-Ok-clause-obeys
returns-in-Ok-clause-obeys g c =
    ok_obeys g.L.Listener (laws g) c.args.self.now.field.now c.wait.new.field c.args.self.now.place c.args.self.now.start c.args.self.now.last c.args.self.now.over c.args.command.now c.copy.result
    (none_here c.args.self.now.over c.in_default.not-Some) c.requires.ready c.requires.fits c.copy.ensures c.in-Ok.answer c.in-Ok.ensures

pub returns-in-Ok-clause-rises : goal.returns-in-Ok-clause-rises
returns-in-Ok-clause-rises g c =
    ok_rises g.L.Listener (laws g) c.args.self.now.field.now c.wait.new.field c.args.self.now.place c.args.self.now.start c.args.self.now.last c.args.self.now.over c.args.command.now c.copy.result
    (none_here c.args.self.now.over c.in_default.not-Some) c.requires.ready c.requires.fits c.copy.ensures c.in-Ok.answer c.in-Ok.ensures

pub returns-in-Ok-clause-ok : goal.returns-in-Ok-clause-ok
returns-in-Ok-clause-ok g c =
    ok_answer g.L.Listener (laws g) c.args.self.now.field.now c.wait.new.field c.args.self.now.place c.args.self.now.start c.args.self.now.last c.args.self.now.over c.args.command.now c.copy.result
    (none_here c.args.self.now.over c.in_default.not-Some) c.requires.ready c.requires.fits c.copy.ensures c.in-Ok.answer c.in-Ok.ensures

pub returns-in-Ok-clause-ready : goal.returns-in-Ok-clause-ready
returns-in-Ok-clause-ready g c =
    ok_ready g.L.Listener (laws g) c.args.self.now.field.now c.wait.new.field c.args.self.now.place c.args.self.now.start c.args.self.now.last c.args.self.now.over c.args.command.now c.copy.result
    (none_here c.args.self.now.over c.in_default.not-Some) c.requires.ready c.requires.fits c.copy.ensures c.in-Ok.answer c.in-Ok.ensures

pub returns-in-Ok-clause-moves : goal.returns-in-Ok-clause-moves
returns-in-Ok-clause-moves g c =
    ok_moves g.L.Listener (laws g) c.args.self.now.field.now c.wait.new.field c.args.self.now.place c.args.self.now.start c.args.self.now.last c.args.self.now.over c.args.command.now c.copy.result
    (none_here c.args.self.now.over c.in_default.not-Some) c.requires.ready c.requires.fits c.copy.ensures c.in-Ok.answer c.in-Ok.ensures

pub returns-in-Err-clause-obeys : goal.returns-in-Err-clause-obeys
returns-in-Err-clause-obeys g c =
    err_obeys g.L.Listener (laws g) c.args.self.now.field.now c.wait.new.field c.args.self.now.place c.args.self.now.start c.args.self.now.last c.args.self.now.over c.args.command.now c.copy.result
    (none_here c.args.self.now.over c.in_default.not-Some) c.requires.ready c.requires.fits c.copy.ensures c.in-Err.fault c.in-Err.ensures

pub returns-in-Err-clause-rises : goal.returns-in-Err-clause-rises
returns-in-Err-clause-rises g c =
    err_rises g.L.Listener (laws g) c.args.self.now.field.now c.wait.new.field c.args.self.now.place c.args.self.now.start c.args.self.now.last c.args.self.now.over c.args.command.now c.copy.result
    (none_here c.args.self.now.over c.in_default.not-Some) c.requires.ready c.requires.fits c.copy.ensures c.in-Err.fault c.in-Err.ensures

pub returns-in-Err-clause-err : goal.returns-in-Err-clause-err
returns-in-Err-clause-err g c =
    err_fault g.L.Listener (laws g) c.args.self.now.field.now c.wait.new.field c.args.self.now.place c.args.self.now.start c.args.self.now.last c.args.self.now.over c.args.command.now c.copy.result
    (none_here c.args.self.now.over c.in_default.not-Some) c.requires.ready c.requires.fits c.copy.ensures c.in-Err.fault c.in-Err.ensures

pub returns-in-Err-clause-calm : goal.returns-in-Err-clause-calm
returns-in-Err-clause-calm g c =
    λ none. err_calm g.L.Listener (laws g) c.args.self.now.field.now c.wait.new.field c.args.self.now.place c.args.self.now.start c.args.self.now.last c.args.self.now.over c.args.command.now
    c.copy.result
    (none_here c.args.self.now.over c.in_default.not-Some) c.requires.ready c.requires.fits c.copy.ensures c.in-Err.fault c.in-Err.ensures

pub returns-in-Err-clause-moves : goal.returns-in-Err-clause-moves
returns-in-Err-clause-moves g c =
    err_moves g.L.Listener (laws g) c.args.self.now.field.now c.wait.new.field c.args.self.now.place c.args.self.now.start c.args.self.now.last c.args.self.now.over c.args.command.now c.copy.result
    (none_here c.args.self.now.over c.in_default.not-Some) c.requires.ready c.requires.fits c.copy.ensures c.in-Err.fault c.in-Err.ensures
