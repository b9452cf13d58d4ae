-- All events of a journal that a script may have are of the technologies of their commands.
use Rattle.std.proofs.Common.{List, [], ◌∷◌}
use Rattle.std.specs.List.{AllByRecursion}
use Rattle.nfc_base.specs.declared.frame.Tech.TheVariants.{A}
use Rattle.bench_world.specs.declared.entry.Entry.{Entry}
use Rattle.bench_world.specs.Journal.{NumberedLine, AreEntriesOf, asking_lines}
use Rattle.bench_world.specs.Legal.{State, Given, EachLegal, first_state}
use Rattle.bench_world.proofs.devices.Reached.{IsReady, first_ready, ready_step}
use Rattle.trace_audit.specs.Reading.{HaveTech}
use Rattle.trace_audit.specs.Technologies.{JournalsTech}
use Rattle.trace_audit.proofs.TechNames.{names_well}
use Rattle.trace_audit.proofs.TechSteps.{legal_tech}

-- from a state whose devices may stand in a field, with identifiers of their own
pub entries_tech : (ls : List NumberedLine) (s t : State) (gs : List Given) (js : List Entry) → IsReady s.world.field.listeners → AreEntriesOf ls js → EachLegal s gs js t
    → AllByRecursion (λ (e : Entry). HaveTech e.command A e.events) js
entries_tech ls s t [] [] ready of steps = tt
entries_tech ls s t (g ∷ gs) [] ready of steps = absurd steps
entries_tech ls s t [] (e ∷ js) ready of steps = absurd steps
entries_tech [] s t (g ∷ gs) (e ∷ js) ready of steps = absurd of
entries_tech (l ∷ ls) s t (g ∷ gs) (e ∷ js) ready of steps = (
  legal_tech s steps.0 g e (names_well s l.text e.command ready.tame.sound of.1) steps.1,
  entries_tech ls steps.0 t gs js (ready_step s steps.0 g l.text e of.1 steps.1 ready) of.2 steps.2,
)

pub journals_tech : JournalsTech
journals_tech lines numbers journal s leads = entries_tech (asking_lines 1 lines) first_state s leads.given journal first_ready leads.numbered leads.steps
