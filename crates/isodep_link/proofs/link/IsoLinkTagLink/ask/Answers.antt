use Rattle.std.proofs.Common.{◌≡◌, Some, None, Result, Err}
use Rattle.nfc_base.specs.Signal.{Signal, whole_a}
use Rattle.nfc_base.specs.declared.tag_link.AskFault.{AskFault}
use Rattle.air_core.proofs.ListenerLaws.{laws_of}
use Rattle.air_core.proofs.PlainAside.{Laws}
use Rattle.isodep_link.specs.declared.link.IsoLink.{IsoLink}
use Rattle.isodep_link.specs.Asking.{Exchanges}
use Rattle.isodep_link.specs.IsoLinks.{seen_link, IsIsoReady, CommandExchanged}
use Rattle.isodep_link.proofs.IsoAnswers.{Answers, all_answers}
use Rattle.isodep_link.proofs.link.IsoLinkTagLink.ask.Given as given
use Rattle.isodep_link.proofs.link.IsoLinkTagLink.ask.Goals as goal

laws : (g : given.Over) → Laws g.L.Listener
laws g = laws_of g.met.L.Listener

-- what an exchange answers, as the link shows it
answers : (g : given.Over) (a b : IsoLink g.row.L.Denot) (command : Signal) (r : Result Signal AskFault)
    → (a.over ≡ None → IsIsoReady g.L.Listener g.L.CardListener.card g.L.CardListener.tag (seen_link a)) → command ≡ whole_a command.bytes
    → (a.over ≡ None → CommandExchanged g.L.Listener.machine (seen_link a) (seen_link b) command r)
    → (a.over ≡ None → Exchanges g.L.Listener g.L.CardListener.card g.L.CardListener.tag a.field.now b.field.now a.place a.reader b.reader command.bytes r)
    → ((e : AskFault) → a.over ≡ Some e → (r ≡ Err e) × (seen_link b ≡ seen_link a))
    → Answers g.L.Listener g.L.CardListener.card g.L.CardListener.tag (seen_link a) (seen_link b) command r
answers g a b command r ready may turns tag ended =
    all_answers g.L.Listener (laws g) g.L.CardListener.card g.L.CardListener.tag g.met.L.CardListener.holds a.field.now a.place a.start a.told a.reader a.last a.over command ready may (seen_link b) r
    turns tag ended

pub returns-clause-obeys : goal.returns-clause-obeys
returns-clause-obeys g c =
    (answers g c.args.self.now c.exchange.new.self c.args.command.now c.exchange.result c.requires.ready c.requires.fits.0 c.exchange.ensures.turns c.exchange.ensures.tag
    c.exchange.ensures.ended).obeys

pub returns-clause-rises : goal.returns-clause-rises
returns-clause-rises g c =
    (answers g c.args.self.now c.exchange.new.self c.args.command.now c.exchange.result c.requires.ready c.requires.fits.0 c.exchange.ensures.turns c.exchange.ensures.tag
    c.exchange.ensures.ended).rises

pub returns-clause-ok : goal.returns-clause-ok
returns-clause-ok g c =
    (answers g c.args.self.now c.exchange.new.self c.args.command.now c.exchange.result c.requires.ready c.requires.fits.0 c.exchange.ensures.turns c.exchange.ensures.tag c.exchange.ensures.ended).ok

pub returns-clause-err : goal.returns-clause-err
returns-clause-err g c =
    (answers g c.args.self.now c.exchange.new.self c.args.command.now c.exchange.result c.requires.ready c.requires.fits.0 c.exchange.ensures.turns c.exchange.ensures.tag c.exchange.ensures.ended).err

pub returns-clause-calm : goal.returns-clause-calm
returns-clause-calm g c =
    λ none lit quiet says. (answers g c.args.self.now c.exchange.new.self c.args.command.now c.exchange.result c.requires.ready c.requires.fits.0 c.exchange.ensures.turns c.exchange.ensures.tag
    c.exchange.ensures.ended).calm none lit quiet

pub returns-clause-ready : goal.returns-clause-ready
returns-clause-ready g c =
    (answers g c.args.self.now c.exchange.new.self c.args.command.now c.exchange.result c.requires.ready c.requires.fits.0 c.exchange.ensures.turns c.exchange.ensures.tag
    c.exchange.ensures.ended).ready

pub returns-clause-moves : goal.returns-clause-moves
returns-clause-moves g c =
    (answers g c.args.self.now c.exchange.new.self c.args.command.now c.exchange.result c.requires.ready c.requires.fits.0 c.exchange.ensures.turns c.exchange.ensures.tag
    c.exchange.ensures.ended).moves
