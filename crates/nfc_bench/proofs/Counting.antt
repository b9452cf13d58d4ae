-- What came through of a journal is counted entry by entry.
use Rattle.std.proofs.Common.{◌≡◌, ℕ, ◌+◌, ◌*◌, ◌<◌, ◌≤◌, List, [], ◌∷◌, length, get_or, take, Bool, true, false, arith}
use Rattle.std.specs.Prelude.{if◌then◌else◌}
use Rattle.std.specs.List.{All, sum_by}
use Rattle.std.proofs.lemmas.List.{length-take-le}
use Rattle.std.proofs.lemmas.List.Elements.{All-cons, All-nil, All-take}
use Rattle.std.proofs.lemmas.List.Sums.{sum_by-le}
use Rattle.bench_script.specs.declared.command.Command.{Command}
use Rattle.bench_script.specs.declared.command.Command.TheVariants.{Put}
use Rattle.bench_script.specs.Limits.{most_lines, AreWithinLimits}
use Rattle.bench_script.specs.Script.{is_skipped, longest_message}
use Rattle.bench_world.specs.declared.entry.Answer.{Answer}
use Rattle.bench_world.specs.declared.entry.Answer.TheVariants.{Success}
use Rattle.bench_world.specs.declared.entry.Entry.{Entry}
use Rattle.bench_world.specs.Journal.{NumberedLine, asking_lines, AreEntriesOf, Numbered}
use Rattle.bench_world.specs.Legal.{State, Given, Accepts, EachLegal, first_state}
use Rattle.bench_world.specs.Obeying.{Benched}
use Rattle.nfc_bench.specs.Made.{put_size, size_told}
use Rattle.nfc_bench.specs.Run.{AreObeyed}

-- no entry puts more than a message may have
abbrev pub PutsShort : Entry → Type 0
PutsShort e = put_size e.command ≤ longest_message

size_short : (c : Command) (a : Answer) → put_size c ≤ longest_message → size_told c a ≤ longest_message
size_short c Success short = short
size_short c a short = omega arith

-- there is room for one more
pub size_room : (journal : List Entry) (i : ℕ) → i < length journal → length journal ≤ most_lines → All PutsShort journal
    → sum_by (λ (e : Entry). size_told e.command e.answer) (take i journal) + longest_message ≤ most_lines * longest_message
size_room journal i within few short =
    let front : length (take i journal) ≡ i = length-take-le i journal (omega arith) in
    let puts : All PutsShort (take i journal) = All-take PutsShort i journal short in
    let most = sum_by-le (λ (e : Entry). size_told e.command e.answer) longest_message (take i journal)
    (λ k d small. size_short (get_or (take i journal) k d).command (get_or (take i journal) k d).answer (puts k d small)) in
    omega (arith, front, most)

-- A journal of lines has at most an entry a line.
asking_few : (n : ℕ) (ls : List (List ℕ)) → length (asking_lines n ls) ≤ length ls
asking_few n [] = omega arith
asking_few n (l ∷ ls) = by_skip (is_skipped l) (asking_few (n + 1) ls)
  where
    by_skip : (v : Bool) → length (asking_lines (n + 1) ls) ≤ length ls
        → length (if v then asking_lines (n + 1) ls else record { number = n; text = l } ∷ asking_lines (n + 1) ls) ≤ length (l ∷ ls)
    by_skip true few = omega (arith, few)
    by_skip false few = omega (arith, few)

entries_few : (ls : List NumberedLine) (es : List Entry) → AreEntriesOf ls es → length es ≤ length ls
entries_few [] [] of = omega arith
entries_few [] (e ∷ es) of = absurd of
entries_few (l ∷ ls) [] of = omega arith
entries_few (l ∷ ls) (e ∷ es) of = omega (arith, entries_few ls es of.2)

pub numbered_few : (n : ℕ) (lines : List (List ℕ)) (journal : List Entry) → Numbered n lines journal → length journal ≤ length lines
numbered_few n lines journal numbered = omega (arith, asking_few n lines, entries_few (asking_lines n lines) journal numbered)

pub journal_few : (lines : List (List ℕ)) (b : Benched) → AreWithinLimits lines → AreObeyed lines b → length b.journal ≤ most_lines
journal_few lines b limits obeyed =
    let few : length lines ≤ most_lines = limits.few in
    omega (arith, few, numbered_few 1 lines b.journal obeyed.run.legal.leads.numbered)

-- No put of a legal journal is too long.
accepted_short : (s : State) (c : Command) → Accepts s c → put_size c ≤ longest_message
accepted_short s (Put message) accepted = accepted
accepted_short s c accepted = omega arith

each_short : (s t : State) (gs : List Given) (es : List Entry) → EachLegal s gs es t → All PutsShort es
each_short s t gs [] steps = All-nil PutsShort
each_short s t [] (e ∷ es) steps = absurd steps
each_short s t (g ∷ gs) (e ∷ es) steps = All-cons PutsShort e es (accepted_short s e.command steps.1.front.accepted) (each_short steps.0 t gs es steps.2)

pub puts_short : (lines : List (List ℕ)) (b : Benched) → AreObeyed lines b → All PutsShort b.journal
puts_short lines b obeyed = each_short first_state obeyed.run.legal.last obeyed.run.legal.leads.given b.journal obeyed.run.legal.leads.steps
