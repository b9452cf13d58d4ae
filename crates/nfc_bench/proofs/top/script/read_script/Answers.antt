use Rattle.std.proofs.Common.{◌≡◌, ◌+◌, ◌<◌, ◌++◌, ◌∷◌, [], ℕ, List, length, Option, true, Ok, Err, refl, sym, ◌∙◌, ap, subst, arith}
use Rattle.std.specs.Result.{is_ok}
use Rattle.std.proofs.lemmas.List.{length-append}
use Rattle.bench_script.specs.Limits.{most_lines}
use Rattle.nfc_io.specs.Reading.{Lined, Advances, Looks}
use Rattle.nfc_io.specs.declared.line_reader.LineStop.{LineStop}
use Rattle.nfc_io.specs.declared.line_reader.LineStop.TheVariants.{ReadFault, TooLong}
use Rattle.nfc_bench.proofs.ScriptText.{stops_at_once}
use Rattle.nfc_bench.proofs.Progress.{GaveNext, HasRead, gave_next, in_time, read_more}
use Rattle.nfc_bench.proofs.Reading.{beyond_length, looks_in_time, script_cut, script_looked}
use Rattle.nfc_bench.proofs.top.script.read_script.Goals as goal

pub returns-in_default-clause-stop : goal.returns-in_default-clause-stop
returns-in_default-clause-stop g c = stops_at_once (g.S.Source.left c.args.source.now)

pub returns-in-Err-ReadFault-clause-stop : goal.returns-in-Err-ReadFault-clause-stop
returns-in-Err-ReadFault-clause-stop g c =
    let adv = c.in-Err-ReadFault.ensures.next c.lines.invariant.going in
    in_time (g.S.Source.left c.args.source.now) (g.S.Source.left c.lines.source) (g.S.Source.left c.advance.new.source) c.lines.reader c.lines.lines.items adv.text
    c.lines.invariant.read (omega (arith, c.lines-test.true, c.lines.invariant.count)) adv.fetched

pub returns-in-Err-TooLong-clause-ok : goal.returns-in-Err-TooLong-clause-ok
returns-in-Err-TooLong-clause-ok g c =
    let left : Option (List ℕ) = g.S.Source.left c.args.source.now in
    let mid : Option (List ℕ) = g.S.Source.left c.lines.source in
    let left' : Option (List ℕ) = g.S.Source.left c.advance.new.source in
    let P : LineStop → Type 0 = λ s. Advances c.lines.reader c.advance.new.self mid left' (Err s) in
    let adv : P TooLong = subst P c.in-Err-TooLong.field-0-is (c.in-Err-TooLong.ensures.next c.lines.invariant.going) in
    script_cut left left' c.lines.lines.items (beyond_length left mid left' c.lines.reader c.advance.new.self c.lines.lines.items c.lines.invariant.read adv)

pub returns-in-Err-TooLong-clause-stop : goal.returns-in-Err-TooLong-clause-stop
returns-in-Err-TooLong-clause-stop g c =
    let adv = c.in-Err-TooLong.ensures.next c.lines.invariant.going in
    in_time (g.S.Source.left c.args.source.now) (g.S.Source.left c.lines.source) (g.S.Source.left c.advance.new.source) c.lines.reader c.lines.lines.items adv.text
    c.lines.invariant.read (omega (arith, c.lines-test.true, c.lines.invariant.count)) adv.fetched

pub returns-in_default-from_bytes-clause-stop : goal.returns-in_default-from_bytes-clause-stop
returns-in_default-from_bytes-clause-stop g c =
    let adv = c.in-Ok-true.ensures.next c.lines.invariant.going in
    in_time (g.S.Source.left c.args.source.now) (g.S.Source.left c.lines.source) (g.S.Source.left c.advance.new.source) c.lines.reader c.lines.lines.items adv.text
    c.lines.invariant.read (omega (arith, c.lines-test.true, c.lines.invariant.count)) adv.fetched

pub returns-then-is_err-clause-stop : goal.returns-then-is_err-clause-stop
returns-then-is_err-clause-stop g c =
    let adv = c.in-Ok-true.ensures.next c.lines.invariant.going in
    in_time (g.S.Source.left c.args.source.now) (g.S.Source.left c.lines.source) (g.S.Source.left c.advance.new.source) c.lines.reader c.lines.lines.items adv.text
    c.lines.invariant.read (omega (arith, c.lines-test.true, c.lines.invariant.count)) adv.fetched

pub returns-in-Ok-follows-clause-stop : goal.returns-in-Ok-follows-clause-stop
returns-in-Ok-follows-clause-stop g c =
    looks_in_time (g.S.Source.left c.args.source.now) (g.S.Source.left c.lines.source) (g.S.Source.left c.follows.new.source) c.lines.reader c.follows.new.self c.lines.lines.items
    (Ok c.in-Ok-follows.is_cut) c.lines.invariant.read (c.in-Ok-follows.ensures.look c.lines.invariant.going)

pub returns-in-Ok-follows-clause-ok : goal.returns-in-Ok-follows-clause-ok
returns-in-Ok-follows-clause-ok g c =
    script_looked (g.S.Source.left c.args.source.now) (g.S.Source.left c.lines.source) (g.S.Source.left c.follows.new.source) c.lines.reader c.follows.new.self c.lines.lines.items
    c.in-Ok-follows.is_cut c.lines.invariant.read (omega (arith, c.lines-test.false, c.lines.invariant.count)) (c.in-Ok-follows.ensures.look c.lines.invariant.going)

pub lines-preserved : goal.lines-preserved
lines-preserved g c =
    let left : Option (List ℕ) = g.S.Source.left c.args.source.now in
    let mid : Option (List ℕ) = g.S.Source.left c.lines.source in
    let left' : Option (List ℕ) = g.S.Source.left c.advance.new.source in
    let m : Lined = c.advance.new.self in
    let done : List (List ℕ) = c.lines.lines.items in
    let few : length done < most_lines = omega (arith, c.lines-test.true, c.lines.invariant.count) in
    let is : c.in-Ok-true.field-0 ≡ true = cc in
    let adv : Advances c.lines.reader m mid left' (Ok true) = subst (λ b. Advances c.lines.reader m mid left' (Ok b)) is (c.in-Ok-true.ensures.next c.lines.invariant.going) in
    let next : GaveNext left left' done m = gave_next left mid left' c.lines.reader m done c.lines.invariant.read few adv in
    let text : c.in-Ok-from_bytes.line ≡ m.line = c.in-Ok-from_bytes.ensures ∙ c.line.ensures in
    let ok : is_ok c.push.result ≡ true = c.if-is_err.ensures.negation in
    let pushed : c.push.new.self.items ≡ done ++ c.in-Ok-from_bytes.line ∷ [] = c.push.ensures.items ∙ rw ok refl in
    let all : c.push.new.self.items ≡ done ++ m.line ∷ [] = pushed ∙ ap (λ l. done ++ l ∷ []) text in
    record {
      read = subst (HasRead left left' m) (sym all) (read_more left left' m done c.lines.invariant.read.limits next few);
      count = omega (arith, ap length all, length-append done (m.line ∷ []), c.lines.invariant.count);
      going = adv.came.going;
      faults = c.in-Ok-true.ensures.still (λ e. absurd cc) ∙ c.lines.invariant.faults;
    }
