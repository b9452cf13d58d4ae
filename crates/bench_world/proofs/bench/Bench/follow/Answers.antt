use Rattle.std.proofs.Common.{◌≡◌, List, false, rules, refl, sym, ◌∙◌, ap, subst, Err}
use Rattle.bench_world.specs.declared.entry.Entry.{Entry}
use Rattle.bench_world.specs.declared.following.Followed.{Followed}
use Rattle.bench_world.specs.Following.{Compares, Follows, Records}
use Rattle.bench_world.specs.Legal.{no_joins}
use Rattle.bench_world.specs.Obeying.{Machines, state_at}
use Rattle.bench_world.specs.ReadBack.{AreOnAir}
use Rattle.bench_world.specs.Showing.{shown_of}
use Rattle.bench_world.proofs.tags.Legality.{untouched}
use Rattle.bench_world.proofs.tags.Benches.{seen, both_ways, settled_made}
use Rattle.bench_world.proofs.tags.Followings.{follows, is_untraced, loses}
use Rattle.bench_world.proofs.bench.Bench.follow.Goals as goal

pub returns-then-is_err : goal.returns-then-is_err
returns-then-is_err c =
    let rs : List (List Entry) = c.self.inside.finished.items in
    let js : List Entry = c.self.inside.journal.items in
    let m : Machines = c.self.inside.machines in
    let is : c.args.self.now ≡ seen rs js m c.self.inside.spoiled = search rules in
    record {
      ok = tt;
      refused = λ e. absurd cc;
      cause = λ e. absurd cc;
      memory = λ e. loses c.args.self.now rs m m m js c.reserve.new.self.items c.args.command.now no_joins (is ∙ ap (seen rs js m) c.if-self.false) c.reserve.ensures.items
          (untouched m m c.args.command.now (c.self.invariant c.if-self.false).0 refl) (is_untraced m (c.self.invariant c.if-self.false).0.idle.quiet);
      spoiled = λ e. refl;
    }

pub returns-in-Ok : goal.returns-in-Ok
returns-in-Ok c =
    let rs : List (List Entry) = c.self.inside.finished.items in
    let js : List Entry = c.self.inside.journal.items in
    let m : Machines = c.self.inside.machines in
    let is : c.args.self.now ≡ seen rs js m c.self.inside.spoiled = search rules in
    let sound : c.args.self.now ≡ seen rs js m false = is ∙ ap (seen rs js m) c.if-self.false in
    let k : Machines = c.make_shown.new.machines in
    let ks : List Entry = c.record_followed.new.journal.items in
    let e : Entry = c.in-Ok.entry in
    let f : Followed = c.compared-followed.result in
    let before = c.self.invariant c.if-self.false in
    record {
      ok = subst (λ v. Follows f c.args.self.now (seen rs ks k v) c.args.line c.args.command.now c.args.events.now) (sym c.if-self.false)
          (follows rs m k js ks c.args.line c.args.command.now e c.args.events.now before.0 before.1 c.in-Ok.ensures.shows c.in-Ok.ensures.ok
          (subst AreOnAir c.as_slice-made.ensures c.see_on_air.ensures) f c.args.self.now sound c.in_default.not-Skip
          (subst (λ es. Compares es c.args.events.now f) c.as_slice-made.ensures c.compared-followed.ensures) (subst (λ xs. Records f xs ks e) c.reserve.ensures.items c.record_followed.ensures));
      refused = λ e. absurd cc;
      cause = λ e. absurd cc;
      memory = λ e. absurd cc;
      spoiled = λ bad. absurd (both_ways c.args.self.now (ap (λ b. b.spoiled) sound) bad);
    }

pub returns-in-Err-Memory : goal.returns-in-Err-Memory
returns-in-Err-Memory c =
    let rs : List (List Entry) = c.self.inside.finished.items in
    let js : List Entry = c.self.inside.journal.items in
    let m : Machines = c.self.inside.machines in
    let is : c.args.self.now ≡ seen rs js m c.self.inside.spoiled = search rules in
    let cut = c.in-Err-Memory.ensures.cut (ap Err c.in-Err-Memory.field-0-is) in
    record {
      ok = tt;
      refused = λ e. absurd cc;
      cause = λ e. absurd cc;
      memory = λ e. loses c.args.self.now rs m c.make_shown.new.machines c.take_trace.new.self js c.reserve.new.self.items c.args.command.now cut.0 (is ∙ ap (seen rs js m) c.if-self.false)
          c.reserve.ensures.items
          cut.1 c.take_trace.ensures.left;
      spoiled = λ e. refl;
    }

pub invariant_of-self-in-Ok : goal.invariant_of-self-in-Ok
invariant_of-self-in-Ok c = λ sound.
    let m : Machines = c.self.inside.machines in
    let before = c.self.invariant c.if-self.false in
    settled_made (shown_of (state_at m) c.args.command.now c.args.events.now) m c.make_shown.new.machines c.args.line c.args.command.now c.in-Ok.entry before.0 before.1 c.in-Ok.ensures.ok
