use Rattle.std.proofs.Common.{ℕ, refl, sym, subst, string_bytes, map, arith}
use Rattle.nfc_bench.specs.declared.top.words.Form.{Form}
use Rattle.nfc_bench.specs.declared.top.words.Form.TheVariants.{Make}
use Rattle.nfc_bench.specs.Run.{FormOf, RanAs, RanAudit, RanScript, RanSweep, RanWorkload, RefusesWords, sees}
use Rattle.nfc_bench.proofs.Forms.{by_form, not_six, not_six_audit, not_six_made}
use Rattle.nfc_bench.proofs.top.run_bench.Goals as goal

pub returns-in-Some-Run : goal.returns-in-Some-Run
returns-in-Some-Run g c =
    let words = map string_bytes c.args.words.now in
    let old = sees g.S.Source g.K.Sink c.args.source.now c.args.sink.now c.args.bench.now in
    let new = sees g.S.Source g.K.Sink c.run_and_tell.new.source c.run_and_tell.new.sink c.run_and_tell.new.bench in
    let n : ℕ = c.run_and_tell.result in
    let e = c.run_and_tell.ensures in
    let form : Form = c.in-Some-Run.field-0 in
    let of : FormOf words form = c.in-Some-Run.ensures.some in
    let script : RanScript c.in-Some-Run.quiet old new n = record {
      status = e.status;
      done = e.done;
      still = e.still;
      refused = e.refused;
      unread = e.unread;
      unwritten = e.unwritten;
      memory = e.memory;
      complete = e.complete;
      sound = e.sound;
      runs = e.runs;
      stop = e.stop;
      bound = e.bound;
    } in
    record {
      ran = record {
        known = by_form words form of (λ f. RanAs f old new n) (subst (λ f. RanAs f old new n) (sym c.in-Some-Run.field-0-is) script);
        unknown = (λ six. absurd (not_six n e.status six), λ none. absurd (none form of));
        same = λ six. absurd {A = RefusesWords old new} (not_six n e.status six);
        counts = (e.reads, e.writes);
      };
    }

pub returns-in-Some-Sweep : goal.returns-in-Some-Sweep
returns-in-Some-Sweep g c =
    let words = map string_bytes c.args.words.now in
    let old = sees g.S.Source g.K.Sink c.args.source.now c.args.sink.now c.args.bench.now in
    let new = sees g.S.Source g.K.Sink c.sweep_and_tell.new.source c.sweep_and_tell.new.sink c.sweep_and_tell.new.bench in
    let n : ℕ = c.sweep_and_tell.result in
    let e = c.sweep_and_tell.ensures in
    let form : Form = c.in-Some-Sweep.field-0 in
    let of : FormOf words form = c.in-Some-Sweep.ensures.some in
    let swept : RanSweep old new n = record {
      status = e.status;
      done = e.done;
      still = e.still;
      refused = e.refused;
      unread = e.unread;
      unwritten = e.unwritten;
      memory = e.memory;
      complete = e.complete;
      sound = e.sound;
      stop = e.stop;
      bound = e.bound;
    } in
    record {
      ran = record {
        known = by_form words form of (λ f. RanAs f old new n) (subst (λ f. RanAs f old new n) (sym c.in-Some-Sweep.field-0-is) swept);
        unknown = (λ six. absurd (not_six n e.status six), λ none. absurd (none form of));
        same = λ six. absurd {A = RefusesWords old new} (not_six n e.status six);
        counts = (e.reads, e.writes);
      };
    }

pub returns-in-Some-Audit : goal.returns-in-Some-Audit
returns-in-Some-Audit g c =
    let words = map string_bytes c.args.words.now in
    let old = sees g.S.Source g.K.Sink c.args.source.now c.args.sink.now c.args.bench.now in
    let new = sees g.S.Source g.K.Sink c.audit_and_tell.new.source c.audit_and_tell.new.sink c.audit_and_tell.new.bench in
    let n : ℕ = c.audit_and_tell.result in
    let e = c.audit_and_tell.ensures in
    let form : Form = c.in-Some-Audit.field-0 in
    let of : FormOf words form = c.in-Some-Audit.ensures.some in
    let audited : RanAudit old new n = record {
      status = e.status;
      legal = e.legal;
      faulty = e.faulty;
      still = e.still;
      refused = e.refused;
      unread = e.unread;
      unwritten = e.unwritten;
      memory = e.memory;
      complete = e.complete;
      bound = e.bound;
    } in
    record {
      ran = record {
        known = by_form words form of (λ f. RanAs f old new n) (subst (λ f. RanAs f old new n) (sym c.in-Some-Audit.field-0-is) audited);
        unknown = (λ six. absurd (not_six_audit n e.status six), λ none. absurd (none form of));
        same = λ six. absurd {A = RefusesWords old new} (not_six_audit n e.status six);
        counts = (e.reads, e.writes);
      };
    }

pub returns-in-Some-Make : goal.returns-in-Some-Make
returns-in-Some-Make g c =
    let words = map string_bytes c.args.words.now in
    let old = sees g.S.Source g.K.Sink c.args.source.now c.args.sink.now c.args.bench.now in
    let new = sees g.S.Source g.K.Sink c.args.source.now c.make_and_tell.new.sink c.make_and_tell.new.bench in
    let n : ℕ = c.make_and_tell.result in
    let e = c.make_and_tell.ensures in
    let form : Form = c.in-Some-Make.field-0 in
    let of : FormOf words form = c.in-Some-Make.ensures.some in
    let made : RanWorkload c.in-Some-Make.seed c.in-Some-Make.count old new n = record {
      status = e.status;
      lines = e.lines;
      limits = e.limits;
      source = refl;
      done = e.done;
      still = e.still;
      unwritten = e.unwritten;
      memory = e.memory;
      complete = e.complete;
      sound = e.sound;
      runs = e.runs;
    } in
    record {
      ran = record {
        known = by_form words form of (λ f. RanAs f old new n) (subst (λ f. RanAs f old new n) (sym c.in-Some-Make.field-0-is) made);
        unknown = (λ six. absurd (not_six_made n e.status six), λ none. absurd (none form of));
        same = λ six. absurd {A = RefusesWords old new} (not_six_made n e.status six);
        counts = (omega arith, e.writes);
      };
    }

pub make_and_tell-requires-clause-valid : goal.make_and_tell-requires-clause-valid
make_and_tell-requires-clause-valid g c =
    let of : FormOf (map string_bytes c.args.words.now) (Make c.in-Some-Make.seed c.in-Some-Make.count) =
    subst (FormOf (map string_bytes c.args.words.now)) c.in-Some-Make.field-0-is c.in-Some-Make.ensures.some in
    of.2

pub returns-in-None : goal.returns-in-None
returns-in-None g c = record {
  ran = record {
    known = λ f w. absurd (c.in-None.ensures.none refl f w);
    unknown = (λ _. c.in-None.ensures.none refl, λ _. refl);
    same = λ _. record { source = refl; bench = refl; told = c.write_fault.ensures.told };
    counts = (omega arith, c.write_fault.ensures.count);
  };
}
