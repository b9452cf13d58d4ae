-- How much of an input to be audited is read.
use Rattle.std.proofs.Common.{◌≡◌, ℕ, ◌+◌, ◌≤◌, List, [], ◌∷◌, ◌++◌, length, Bool, true, false, Option, Result, Ok, Err, inl, inr, sym, ◌∙◌, ap, subst, arith}
use Rattle.std.proofs.lemmas.List.{length-append}
use Rattle.nfc_io.specs.Lines.{lines_of, joined}
use Rattle.nfc_io.specs.Reading.{Lined, Advances, ComesTo, GivesLine, HasGiven, AreSpelled}
use Rattle.nfc_io.specs.Behind.{HandsOver, TakesSome}
use Rattle.nfc_io.specs.declared.line_reader.LineStop.{LineStop}
use Rattle.nfc_io.specs.declared.line_reader.LineStop.TheVariants.{TooLong, ReadFault}
use Rattle.nfc_io.specs.declared.rest.Rest.{Rest}
use Rattle.nfc_io.proofs.Lines.{joined_more}
use Rattle.nfc_io.proofs.Moves.{read_on}
use Rattle.nfc_io.proofs.InOrder.{in_order}
use Rattle.bench_script.specs.Limits.{AreWithinLimits}
use Rattle.nfc_bench.specs.AuditInput.{most_report}
use Rattle.nfc_bench.specs.private.AuditReading.{AreLines, HasGathered, WentOn, most_ahead}
use Rattle.nfc_bench.specs.Limits.{chunk_size, longest_script}
use Rattle.nfc_bench.specs.Run.{ReadsAtMost}
use Rattle.nfc_bench.proofs.AuditReading.{lines_again}
use Rattle.nfc_bench.proofs.Limits.{within_short}

pub reads_less : (n most : ℕ) (a b : Option (List ℕ)) → n ≤ most → ReadsAtMost n a b → ReadsAtMost most a b
reads_less n most a b less r = let size : length r.bytes ≤ n = r.size in record { bytes = r.bytes; read = r.read; size = omega (arith, size, less) }

pub reads_both : (n m most : ℕ) (a b c : Option (List ℕ)) → n + m ≤ most → ReadsAtMost n a b → ReadsAtMost m b c → ReadsAtMost most a c
reads_both n m most a b c less r q =
    let first : length r.bytes ≤ n = r.size in
    let then : length q.bytes ≤ m = q.size in
    record { bytes = r.bytes ++ q.bytes; read = read_on a b c r.bytes q.bytes r.read q.read; size = omega (arith, less, first, then, length-append r.bytes q.bytes) }

-- the bytes of a script
script_short : (lines : List (List ℕ)) (script : List ℕ) (count : ℕ) → AreLines lines script count → length (joined lines) ≤ longest_script
script_short lines script count are =
    let limits : AreWithinLimits (lines_of script) = subst (λ ls. AreWithinLimits ls) (sym (lines_again lines script count are)) are.limits in
    let short : length script ≤ longest_script = within_short script limits in
    omega (arith, short, ap length are.bytes)

-- what was read is the script and what is held
spelled_short : (bytes : List ℕ) (lines : List (List ℕ)) (held : List ℕ) → AreSpelled bytes lines held → length bytes ≤ length (joined lines) + length held
spelled_short bytes lines held (inl is) = omega (arith, ap length is, length-append (joined lines) held)
spelled_short bytes lines held (inr (none, before, last, cut, is)) =
    let whole : length (joined lines) ≡ length (joined before ++ (last ++ 10 ∷ [])) = ap length (ap joined cut ∙ joined_more before last) in
    omega (arith, whole, ap length is, length-append (joined before) last, length-append (joined before) (last ++ 10 ∷ []), length-append last (10 ∷ []))

-- of a text that a call read no more than two lines
text_short : (a : Lined) (text : List ℕ) (r : Result Bool LineStop) (b : Lined) → ComesTo a text r b → length b.held ≤ 4097 → length text ≤ 8194
text_short a text (Ok true) b came few =
    let given : GivesLine text b = came in
    let short : length b.line ≤ 4096 = given.short in
    elim given.parts [
      | inl lf ↦ omega (arith, ap length lf, length-append b.line (10 ∷ b.held), short, few)
      | inr last ↦ omega (arith, ap length last.0, short)
    ]
text_short a text (Ok false) b came few = omega (arith, ap length came.0)
text_short a text (Err TooLong) b came few = omega (arith, ap (λ (v : Lined). length v.held) came.2, few)
text_short a text (Err ReadFault) b came few = let short : length text ≤ 4096 = came.1 in omega (arith, short)

-- up to the line that ends a script, or where none does
pub ahead_bound : (left mid left' : Option (List ℕ)) (a b : Lined) (script : List ℕ) (count : ℕ) → HasGathered left mid a script count → WentOn a b mid left' → ReadsAtMost most_ahead left left'
ahead_bound left mid left' a b script count has went =
    let given : HasGiven has.lines left a mid = in_order has.lines left mid a has.gave in
    let adv : Advances a b mid left' went.result = went.advanced in
    let got : List ℕ = adv.fetched.got in
    let before : length given.bytes ≤ length (joined has.lines) + length a.held = spelled_short given.bytes has.lines a.held given.spelled in
    let lines : length (joined has.lines) ≤ 4097000 = script_short has.lines script count has.are in
    let text : length adv.text ≤ 8194 = text_short a adv.text went.result b adv.came went.few in
    record {
      bytes = given.bytes ++ got;
      read = read_on left mid left' given.bytes got given.read adv.fetched.read;
      size = omega (arith, before, lines, text, ap length adv.fetched.parts, length-append a.held got, length-append given.bytes got);
    }

-- behind it
pub rest_bound : (a : Lined) (left left' : Option (List ℕ)) (rest : Rest) → HandsOver most_report a left left' rest → ReadsAtMost (most_report + chunk_size) left left'
rest_bound a left left' rest over = record {
  bytes = over.on.got;
  read = over.on.read;
  size = elim over.on.wanted [
    | inl none ↦ omega (arith, ap length none)
    | inr going ↦ omega (arith, going.1, ap length over.on.parts, length-append a.held over.on.got)
  ];
}

pub fault_bound : (left left' : Option (List ℕ)) → TakesSome most_report left left' → ReadsAtMost (most_report + chunk_size) left left'
fault_bound left left' some = record { bytes = some.got; read = some.read; size = some.few }
