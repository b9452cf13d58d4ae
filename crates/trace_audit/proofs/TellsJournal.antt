-- What a report's text tells of a journal: where a journal of the same lines has a text that begins with ours, it begins with our
-- entries, and they lead it to a state alike to ours.
use Rattle.std.proofs.Common.{◌≡◌, ℕ, ◌<◌, ◌^◌, List, [], ◌∷◌, ◌++◌, append_assoc, false, refl, sym, ◌∙◌, ap, subst}
use Rattle.std.specs.List.{AllByRecursion}
use Rattle.nfc_base.specs.declared.frame.Tech.TheVariants.{A}
use Rattle.bench_script.proofs.Spelling.{spells_one}
use Rattle.bench_world.specs.declared.entry.Entry.{Entry}
use Rattle.bench_world.specs.Alike.{Alike}
use Rattle.bench_world.specs.Journal.{AreEntriesOf, NumberedLine}
use Rattle.bench_world.specs.Legal.{EachLegal, Given, State}
use Rattle.bench_world.specs.Report.{entry_text, report_text}
use Rattle.trace_audit.specs.Auditing.{IsOnAir}
use Rattle.trace_audit.specs.Reading.{HaveTech}
use Rattle.trace_audit.proofs.Entries.{EachShown}
use Rattle.trace_audit.proofs.TellsEntry.{TellsEntry, tells_entry}

-- the events of a journal have the technologies of their commands
abbrev pub HasTech : List Entry → Type 0
HasTech js = AllByRecursion (λ (e : Entry). HaveTech e.command A e.events) js

-- What the other journal has behind our entries, from a state that is alike to ours.
pub record Rest (ls : List NumberedLine) (t u : State) (js ks : List Entry) (zs : List ℕ) : Type 0 where
  pub mid : State
  pub given : List Given
  pub entries : List Entry
  pub is : ks ≡ js ++ entries
  pub alike : Alike t mid
  pub numbered : AreEntriesOf ls entries
  pub steps : EachLegal mid given entries u
  pub on_air : IsOnAir entries
  pub tech : HasTech entries
  pub text : report_text false entries ≡ zs

rest_at : (ls : List NumberedLine) (s t r u : State) (hs : List Given) (ks : List Entry) (zs : List ℕ) → t ≡ s → AreEntriesOf ls ks → EachLegal r hs ks u → Alike s r → IsOnAir ks → HasTech ks
    → report_text false ks ≡ zs → Rest ls t u [] ks zs
rest_at ls s t r u hs ks zs same of steps alike air tech text =
    record { mid = r; given = hs; entries = ks; is = refl; alike = subst (λ x. Alike x r) (sym same) alike; numbered = of; steps = steps; on_air = air; tech = tech; text = text }

rest_on : (ls : List NumberedLine) (t u : State) (j k : Entry) (js ks : List Entry) (zs : List ℕ) → k ≡ j → Rest ls t u js ks zs → Rest ls t u (j ∷ js) (k ∷ ks) zs
rest_on ls t u j k js ks zs same r = record {
  mid = r.mid;
  given = r.given;
  entries = r.entries;
  is = ap (λ x. x ∷ ks) same ∙ ap (λ x. j ∷ x) r.is;
  alike = r.alike;
  numbered = r.numbered;
  steps = r.steps;
  on_air = r.on_air;
  tech = r.tech;
  text = r.text;
}

pub tells_journal : (ls more : List NumberedLine) (s t r u : State) (gs hs : List Given) (js ks : List Entry) (zs : List ℕ) → AllByRecursion (λ (l : NumberedLine). l.number < 2 ^ 32) ls
    → AreEntriesOf ls js → AreEntriesOf (ls ++ more) ks → EachShown s gs js t → EachLegal r hs ks u → Alike s r → IsOnAir js → HasTech js → IsOnAir ks → HasTech ks
    → report_text false ks ≡ report_text false js ++ zs → Rest more t u js ks zs
tells_journal [] more s t r u [] hs [] ks zs small p q steps other alike air tech air_by tech_by text = rest_at more s t r u hs ks zs steps q other alike air_by tech_by text
tells_journal [] more s t r u (g ∷ gs) hs [] ks zs small p q steps other alike air tech air_by tech_by text = absurd steps
tells_journal [] more s t r u gs hs (j ∷ js) ks zs small p q steps other alike air tech air_by tech_by text = absurd p
tells_journal (l ∷ ls) more s t r u gs hs [] ks zs small p q steps other alike air tech air_by tech_by text = absurd p
tells_journal (l ∷ ls) more s t r u gs hs (j ∷ js) [] zs small p q steps other alike air tech air_by tech_by text = absurd q
tells_journal (l ∷ ls) more s t r u [] hs (j ∷ js) (k ∷ ks) zs small p q steps other alike air tech air_by tech_by text = absurd steps
tells_journal (l ∷ ls) more s t r u (g ∷ gs) [] (j ∷ js) (k ∷ ks) zs small p q steps other alike air tech air_by tech_by text = absurd other
tells_journal (l ∷ ls) more s t r u (g ∷ gs) (h ∷ hs) (j ∷ js) (k ∷ ks) zs small p q steps other alike air tech air_by tech_by text =
    let is : TellsEntry steps.0 other.0 j k (report_text false js ++ zs) (report_text false ks) =
    tells_entry l.number s steps.0 r other.0 g h j k (report_text false js ++ zs) (report_text false ks) small.0 alike steps.1 steps.2 steps.3 other.1 p.0 q.0
    (spells_one l.text k.command j.command q.1 p.1) tech.0 tech_by.0 air.0 air_by.0 (text ∙ append_assoc (entry_text false j) (report_text false js) zs) in
    rest_on more t u j k js ks zs is.same
    (tells_journal ls more steps.0 t other.0 u gs hs js ks zs small.1 p.2 q.2 steps.4 other.2 is.alike air.1 tech.1 air_by.1 tech_by.1 is.rest)
