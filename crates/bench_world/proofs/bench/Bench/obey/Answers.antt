use Rattle.std.proofs.Common.{◌≡◌, ◌++◌, ◌∷◌, [], List, false, rules, refl, sym, ◌∙◌, ap, subst, Err}
use Rattle.bench_world.specs.declared.entry.Entry.{Entry}
use Rattle.bench_world.specs.Legal.{joins_for}
use Rattle.bench_world.specs.Obeying.{Machines, Obeys}
use Rattle.bench_world.proofs.tags.Legality.{untouched}
use Rattle.bench_world.proofs.tags.Benches.{cut_most, seen, both_ways, spoils, adds_entry, settled_made}
use Rattle.bench_world.proofs.bench.Bench.obey.Goals as goal

pub returns-then-is_err : goal.returns-then-is_err
returns-then-is_err c =
    let rs : List (List Entry) = c.self.inside.finished.items in
    let js : List Entry = c.self.inside.journal.items in
    let m : Machines = c.self.inside.machines in
    let is : c.args.self.now ≡ seen rs js m c.self.inside.spoiled = search rules in
    record {
      ok = tt;
      refused = λ e. absurd cc;
      cause = λ e. absurd cc;
      memory = λ e. spoils c.args.self.now rs m m js c.reserve.new.self.items c.args.command.now (is ∙ ap (seen rs js m) c.if-self.false) c.reserve.ensures.items
          (untouched m m c.args.command.now (c.self.invariant c.if-self.false).0 refl);
      spoiled = λ e. refl;
    }

pub returns-in-Ok : goal.returns-in-Ok
returns-in-Ok c =
    let rs : List (List Entry) = c.self.inside.finished.items in
    let js : List Entry = c.self.inside.journal.items in
    let m : Machines = c.self.inside.machines in
    let is : c.args.self.now ≡ seen rs js m c.self.inside.spoiled = search rules in
    let sound : c.args.self.now ≡ seen rs js m false = is ∙ ap (seen rs js m) c.if-self.false in
    let items : c.record_entry.new.journal.items ≡ js ++ c.in-Ok.entry ∷ [] = c.record_entry.ensures ∙ ap (λ xs. xs ++ c.in-Ok.entry ∷ []) c.reserve.ensures.items in
    record {
      ok = subst (λ v. Obeys c.args.self.now (seen rs c.record_entry.new.journal.items c.make_entry.new.machines v) c.args.line c.args.command.now) (sym c.if-self.false)
          (adds_entry c.args.self.now rs m c.make_entry.new.machines js c.record_entry.new.journal.items c.args.line c.args.command.now c.in-Ok.entry c.most-joins.result c.most-joins.ensures
          c.in_default.not-Skip sound (c.self.invariant c.if-self.false).0 c.in-Ok.ensures.ok items);
      refused = λ e. absurd cc;
      cause = λ e. absurd cc;
      memory = λ e. absurd cc;
      spoiled = λ bad. absurd (both_ways c.args.self.now (ap (λ b. b.spoiled) sound) bad);
    }

pub returns-in-Err-Memory : goal.returns-in-Err-Memory
returns-in-Err-Memory c =
    let rs : List (List Entry) = c.self.inside.finished.items in
    let js : List Entry = c.self.inside.journal.items in
    let m : Machines = c.self.inside.machines in
    let is : c.args.self.now ≡ seen rs js m c.self.inside.spoiled = search rules in
    record {
      ok = tt;
      refused = λ e. absurd cc;
      cause = λ e. absurd cc;
      memory = λ e. spoils c.args.self.now rs m c.make_entry.new.machines js c.reserve.new.self.items c.args.command.now (is ∙ ap (seen rs js m) c.if-self.false) c.reserve.ensures.items
          (cut_most m c.make_entry.new.machines c.args.command.now c.most-joins.result c.most-joins.ensures (c.in-Err-Memory.ensures.cut (ap Err c.in-Err-Memory.field-0-is)));
      spoiled = λ e. refl;
    }

pub invariant_of-self-in-Ok : goal.invariant_of-self-in-Ok
invariant_of-self-in-Ok c = λ sound.
    let before = c.self.invariant c.if-self.false in
    settled_made (joins_for c.args.command.now c.most-joins.result) c.self.inside.machines c.make_entry.new.machines c.args.line c.args.command.now c.in-Ok.entry before.0 before.1 c.in-Ok.ensures.ok
