use Rattle.air_core.proofs.ListenerLaws.{laws_of}
use Rattle.air_core.proofs.PlainEnds.{has_waited}
use Rattle.air_core.proofs.plain_link.wait.Goals as goal

pub returns : goal.returns
returns g c =
    has_waited g.L.Listener (laws_of g.met.L.Listener) _ _ _ _ c.args.field.now c.args.place c.args.command.now c.requires.fits c.requires.tag _ c.ask_first.new.field _ c.ask_first.result
    c.ask_first.ensures.turns
