-- Which lines are audited is decided by the lines alone: one more line is where it is in the state that those before it lead to.
use Rattle.std.proofs.Common.{◌≡◌, ℕ, ◌+◌, List, [], ◌∷◌, ◌++◌, length, refl, sym, ◌∙◌}
use Rattle.bench_script.specs.declared.command.Command.{Command}
use Rattle.bench_script.specs.declared.command.Command.TheVariants.{Raw}
use Rattle.bench_script.specs.Script.{Spells}
use Rattle.bench_devices.specs.AnyFrame.{peers_in}
use Rattle.bench_world.specs.declared.entry.Entry.{Entry}
use Rattle.bench_world.specs.Journal.{LeadsTo}
use Rattle.bench_world.specs.Legal.{Accepts, Joins, State, changed, first_state}
use Rattle.bench_world.specs.Showing.{MayShow}
use Rattle.bench_world.specs.Taking.{AreAccepted, AreSpelled, standing_from, standing_of}
use Rattle.trace_audit.specs.Auditing.{AllShow, AreAudited, IsAudited, IsUnauditedAt}
use Rattle.trace_audit.proofs.Standing.{StandsAlike, stands_alike}

-- one more command
spelled_more : (ls : List (List ℕ)) (l : List ℕ) (cs : List Command) (c : Command) → AreSpelled ls cs → Spells l c → AreSpelled (ls ++ l ∷ []) (cs ++ c ∷ [])
spelled_more [] l [] c p q = (q, tt)
spelled_more [] l (d ∷ cs) c p q = absurd p
spelled_more (k ∷ ls) l [] c p q = absurd p
spelled_more (k ∷ ls) l (d ∷ cs) c p q = (p.0, spelled_more ls l cs c p.1 q)

accepted_more : (s : State) (cs : List Command) (c : Command) → AreAccepted s cs → Accepts (standing_from s cs) c → AreAccepted s (cs ++ c ∷ [])
accepted_more s [] c p q = (q, tt)
accepted_more s (d ∷ cs) c p q = (p.0, accepted_more (changed s d) cs c p.1 q)

shows_more : (s : State) (cs : List Command) (c : Command) → AllShow s cs → MayShow (standing_from s cs) c → AllShow s (cs ++ c ∷ [])
shows_more s [] c p q = (q, tt)
shows_more s (d ∷ cs) c p q = (p.0, shows_more (changed s d) cs c p.1 q)

-- numbers show where as many peers are placed
show_too : (s t : State) (c : Command) → peers_in s.world.field.listeners ≡ peers_in t.world.field.listeners → MayShow s c → MayShow t c
show_too s t (Raw id frames) same p = sym same ∙ p
show_too s t c same p = tt

pub none_audited : AreAudited [] []
none_audited = record { taken = record { spelled = tt; accepted = tt }; shown = tt }

module _ (ls : List (List ℕ)) (numbers : List Joins) (journal : List Entry) (s : State) (commands : List Command) (leads : LeadsTo ls numbers journal s) (audited : AreAudited ls commands) where
  standing : StandsAlike (standing_of commands) s
  standing = stands_alike ls numbers journal s commands leads audited.taken.spelled

  pub audited_more : (l : List ℕ) (c : Command) → Spells l c → Accepts s c → MayShow s c → AreAudited (ls ++ l ∷ []) (commands ++ c ∷ [])
  audited_more l c spelled accepted shows = record {
    taken = record {
      spelled = spelled_more ls l commands c audited.taken.spelled spelled;
      accepted = accepted_more first_state commands c audited.taken.accepted (standing.back c accepted);
    };
    shown = shows_more first_state commands c audited.shown (show_too s (standing_of commands) c (sym standing.peers) shows);
  }

  pub unaudited : (l : List ℕ) (after : List (List ℕ)) → (IsAudited s l → ⊥) → IsUnauditedAt (ls ++ l ∷ after) (length ls + 1)
  unaudited l after none = record {
    before = ls;
    line = l;
    after = after;
    parts = refl;
    number = refl;
    commands = commands;
    audited = audited;
    refused = λ is. none (is.0, is.1, (standing.accepts is.0 is.2.0, show_too (standing_of commands) s is.0 standing.peers is.2.1));
  }
