use Rattle.std.proofs.Common.{◌≡◌, ◌+◌, ◌-◌, ◌<◌, ◌≤◌, ◌++◌, ◌∷◌, [], ℕ, List, length, get_or, take, Err, sym, ◌∙◌, ap, subst, arith}
use Rattle.bench_script.specs.declared.command.Command.{Command}
use Rattle.bench_script.specs.declared.command.Command.TheVariants.{Write}
use Rattle.bench_script.specs.Script.{Spells}
use Rattle.nfc_bench.specs.Reading.{Scripted}
use Rattle.nfc_bench.specs.Run.{IsWrite}
use Rattle.nfc_bench.specs.SweepStops.{AreSweptLines}
use Rattle.nfc_bench.proofs.SweptLines.{read_short}
use Rattle.nfc_bench.proofs.Sweeping.{parted_last}
use Rattle.nfc_bench.proofs.top.sweeping.swept_lines.Goals as goal

pub unreachable-requires-in-Err-Refused : goal.unreachable-requires-in-Err-Refused
unreachable-requires-in-Err-Refused c =
    let lines : List (List ℕ) = c.args.script.lines in
    let w : IsWrite (get_or lines (length lines - 1) []) = c.requires.write in
    let text : c.as_slice.result.now ≡ get_or lines (length lines - 1) [] =
    c.as_slice.ensures.value ∙ c.line_at-last.ensures ∙ ap (λ n. get_or lines (n - 1) []) c.line_count-count.ensures.value in
    c.in-Err-Refused.ensures.refused (ap Err c.in-Err-Refused.field-0-is) (Write w.0 w.1) (subst (λ l. Spells l (Write w.0 w.1)) (sym text) w.2)

pub read_text-requires : goal.read_text-requires
read_text-requires c =
    let lines : List (List ℕ) = c.args.script.lines in
    let S : Command → Type 0 = λ x. Spells c.as_slice.result.now x in
    let spelled : S (Write c.in-Ok-Write.id c.in-Ok-Write._message) = subst S c.in-Ok-Write.field-0-is c.in-Ok-Write.ensures.ok in
    let short : length (get_or lines (c.line_count-count.result - 1) []) ≤ 4096 =
    c.line_count-count.ensures.limits.short (c.line_count-count.result - 1) [] (omega (arith, c.line_count-count.ensures.value, c.requires.some)) in
    let size : length c.as_slice.result.now ≡ length (get_or lines (c.line_count-count.result - 1) []) = ap length (c.as_slice.ensures.value ∙ c.line_at-last.ensures) in
    omega (arith, read_short c.as_slice.result.now c.in-Ok-Write.id c.in-Ok-Write._message spelled, short, size)

pub returns : goal.returns
returns c =
    let lines : List (List ℕ) = c.args.script.lines in
    let n : ℕ = c.line_count-count.result - 1 in
    let last : List ℕ = c.line_at-last.result.items in
    let size : length lines ≡ n + 1 = omega (arith, c.line_count-count.ensures.value, c.requires.some) in
    let kept : c.keep.new.self.lines ≡ take n lines = ap (λ (x : Scripted). x.lines) c.keep.ensures in
    let parts : lines ≡ c.keep.new.self.lines ++ last ∷ [] =
    parted_last lines n size ∙ ap (λ x. x ++ get_or lines n [] ∷ []) (sym kept) ∙ ap (λ l. c.keep.new.self.lines ++ l ∷ []) (sym c.line_at-last.ensures) in
    let S : Command → Type 0 = λ x. Spells c.as_slice.result.now x in
    let spelled : Spells last (Write c.in-Ok-Write.id c.in-Ok-Write._message) =
    subst (λ l. Spells l (Write c.in-Ok-Write.id c.in-Ok-Write._message)) c.as_slice.ensures.value (subst S c.in-Ok-Write.field-0-is c.in-Ok-Write.ensures.ok) in
    let it : AreSweptLines lines (record { before = c.keep.new.self.lines; last = last; read = c.in_ok-read.read.items; passes = 0 }) = record {
      parts = parts;
      id = c.in-Ok-Write.id;
      message = c.in-Ok-Write._message;
      spelled = spelled;
      read = c.in_ok-read.ensures;
    } in
    record { ok = subst (AreSweptLines lines) (sym c.new.ensures) it }
