use Rattle.std.proofs.Common.{◌≡◌, ℕ, List, Bool, true, false, Err, refl, sym, ◌∙◌, ap, subst}
use Rattle.bench_script.specs.declared.command.Command.{Command}
use Rattle.bench_script.specs.Script.{Spells}
use Rattle.bench_world.specs.Obeying.{Benched, Adds, LacksMemory, Obeys, Spoils}
use Rattle.bench_world.specs.declared.bench.ObeyFault.TheVariants.{Memory}
use Rattle.nfc_bench.specs.Stops.{Lost}
use Rattle.nfc_bench.proofs.Journals.{follows_skipped, follows_entry, asks_something}
use Rattle.nfc_bench.proofs.top.obeying.obey_text.Goals as goal
use Rattle.trace_audit.proofs.LineSteps.{adds_of}

-- where memory is wanting
lost_by : (old new : Benched) (l : List ℕ) (c : Command) → Spells l c → LacksMemory old new c → (v : Bool) → old.spoiled ≡ v → Lost old new l
lost_by old new l c spelled lacks true is =
    let same : new ≡ old = lacks.1 is in
    record {
      journal = ap (λ (b : Benched). b.journal) same;
      runs = ap (λ (b : Benched). b.finished) same;
      machines = λ sound. same;
      spoiled = λ sound. absurd (let clash : true ≡ false = sym is ∙ sound in cc);
    }
lost_by old new l c spelled lacks false is =
    let spoils : Spoils old new c = lacks.0 is in
    record {
      journal = ap (λ (b : Benched). b.journal) spoils.is;
      runs = ap (λ (b : Benched). b.finished) spoils.is;
      machines = λ sound. absurd (let clash : true ≡ false = sym (ap (λ (b : Benched). b.spoiled) spoils.is) ∙ sound in cc);
      spoiled = λ sound now. (c, spelled, spoils);
    }

-- ... before a command was read
lost_none : (b : Benched) (l : List ℕ) → Lost b b l
lost_none b l = record {
  journal = refl;
  runs = refl;
  machines = λ _. refl;
  spoiled = λ sound now. absurd (let clash : false ≡ true = sym sound ∙ now in cc);
}

pub returns-in-Err-Memory-clause-memory : goal.returns-in-Err-Memory-clause-memory
returns-in-Err-Memory-clause-memory c = λ is. lost_none c.args.bench.now c.args.text.now

pub returns-in-Skip-clause-ok : goal.returns-in-Skip-clause-ok
returns-in-Skip-clause-ok c =
    let old : Benched = c.args.bench.now in
    let new : Benched = c.obey.new.self in
    let O : Command → Type 0 = λ x. Obeys old new c.args.line x in
    let S : Command → Type 0 = λ x. Spells c.args.text.now x in
    let same : (old.spoiled ≡ false) × (new ≡ old) = subst O c.in-Skip.is c.in-Ok-obey.ensures.ok in
    let it = follows_skipped old new c.args.line c.args.text.now (subst S c.in-Skip.is c.in-Ok.ensures.ok) same.0 same.1 in
    record { follows = it.0; asked = it.1 }

pub returns-clause-ok : goal.returns-clause-ok
returns-clause-ok c =
    let old : Benched = c.args.bench.now in
    let new : Benched = c.obey.new.self in
    let adds : Adds old new c.args.line c.in-Ok.command = adds_of old new c.args.line c.in-Ok.command c.in-Ok-obey.ensures.ok c.in_default.not-Skip in
    let it = follows_entry old new c.args.line c.args.text.now c.in-Ok.command (asks_something c.args.text.now c.in-Ok.command c.in-Ok.ensures.ok c.in_default.not-Skip) c.in-Ok.ensures.ok adds in
    record { follows = it.0; asked = (adds.entry, it.1) }

pub returns-in-Err-clause-memory : goal.returns-in-Err-clause-memory
returns-in-Err-clause-memory c = λ is.
    let old : Benched = c.args.bench.now in
    let new : Benched = c.obey.new.self in
    let fault : c.in-Err.fault ≡ Memory = cc in
    lost_by old new c.args.text.now c.in-Ok.command c.in-Ok.ensures.ok (c.in-Err.ensures.memory (ap Err fault)) old.spoiled refl
