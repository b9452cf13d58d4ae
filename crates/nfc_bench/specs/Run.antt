-- What a run does, by its words and by the status that it ends with.
use Rattle.std.specs.Prelude.{◌≡◌, ◌↔◌, ℕ, ◌+◌, ◌<◌, ◌≤◌, ◌⊎◌, List, [], ◌∷◌, ◌++◌, length, get_or, codes, Bool, true}
use Rattle.std.specs.Prelude.{false, Option, Some, IfSome}
use Rattle.std.specs.Fmt.{decimal}
use Rattle.std.specs.List.{All, AllByRecursion}
use Rattle.nfc_io.specs.declared.source.Source as sources
use Rattle.nfc_io.specs.declared.sink.Sink as sinks
use Rattle.nfc_io.specs.Counts.{HasRisen}
use Rattle.nfc_io.specs.Moves.{with_front, with_end, GainsFront}
use Rattle.nfc_base.specs.declared.event.Fate.{Fate}
use Rattle.bench_script.specs.declared.command.Command.{Command}
use Rattle.bench_script.specs.declared.command.Command.TheVariants.{Fates, Write}
use Rattle.bench_script.specs.declared.command.DeviceId.{DeviceId}
use Rattle.bench_script.specs.declared.message.Msg.{Msg}
use Rattle.bench_script.specs.Script.{Spells}
use Rattle.bench_world.specs.declared.entry.Answer.TheVariants.{Written}
use Rattle.bench_world.specs.declared.entry.Entry.{Entry}
use Rattle.nfc_io.specs.Lines.{lines_of, whole_lines}
use Rattle.bench_script.specs.Limits.{most_lines, longest_line, AreWithinLimits}
use Rattle.nfc_bench.specs.Limits.{chunk_size, most_read}
use Rattle.nfc_bench.specs.declared.top.words.Form.{Form}
use Rattle.nfc_bench.specs.declared.top.words.Form.TheVariants.{Run, Sweep, Audit, Make}
use Rattle.nfc_bench.specs.declared.top.program.WordsFault.{WordsFault}
use Rattle.nfc_bench.specs.declared.top.program.WordsFault.TheVariants.{Memory, NoText}
use Rattle.bench_world.specs.Legal.{State, no_joins}
use Rattle.bench_world.specs.Halting.{CutOff}
use Rattle.bench_world.specs.Unfinished.{Unfinished}
use Rattle.bench_world.specs.Obeying.{Benched}
use Rattle.bench_world.specs.Journal.{LeadsTo, Legal}
use Rattle.bench_world.specs.LinkLaw.{LinksAccept}
use Rattle.bench_world.specs.Taking.{IsTaken, AreTaken, standing_of}
use Rattle.bench_world.specs.Report.{entry_text, report_text}
use Rattle.workload.specs.Workload.{IsCount, workload_lines, workload_commands}
use Rattle.nfc_bench.specs.Audit.{IsAudited, IsUnaudited, EndsLegal, EndsFaulty, EndsUnfound}
use Rattle.nfc_bench.specs.AuditInput.{most_audited}
use Rattle.nfc_bench.specs.Made.{made_line}
use Rattle.nfc_bench.specs.Sweep.{sweep_lines, read_line, last_entry, all_transmissions, found_in, found_line}

-- the greatest seed of a workload
abbrev pub most_seed : ℕ
most_seed = 65535

-- these words are of this form; no words are of two
abbrev pub FormOf : List (List ℕ) → Form → Type 0
FormOf words (Run false) = words ≡ codes "run" ∷ []
FormOf words (Run true) = words ≡ codes "run" ∷ codes "quiet" ∷ []
FormOf words Sweep = words ≡ codes "sweep" ∷ []
FormOf words Audit = words ≡ codes "audit" ∷ []
FormOf words (Make seed count) = (words ≡ codes "make" ∷ decimal seed ∷ decimal count ∷ []) × (seed ≤ most_seed)
    × IsCount count

-- What a run sees: its source, what that has left and the sink has taken, where they tell it, how often each failed,
-- and the bench.
pub record Seen (S : Type 0) : Type 0 where
  pub source : S
  pub left : Option (List ℕ)
  pub taken : Option (List ℕ)
  pub reads : ℕ
  pub writes : ℕ
  pub bench : Benched

abbrev pub sees : {S K : Type 0} → sources.Ghosts S → sinks.Ghosts K → S → K → Benched → Seen S
sees s k source sink bench =
    record {
      source = source;
      left = s.left source;
      taken = k.taken sink;
      reads = s.faults source;
      writes = k.faults sink;
      bench = bench;
    }

-- the fault lines
abbrev pub words_fault : List ℕ
words_fault = codes "fault 6 words\n"

abbrev pub memory_fault : List ℕ
memory_fault = codes "fault 5 memory\n"

abbrev pub read_fault : List ℕ
read_fault = codes "fault 3 read\n"

abbrev pub line_fault : ℕ → List ℕ
line_fault n = codes "fault 2 line " ++ decimal n ++ codes "\n"

-- These entries are a run of these lines: a journal that is legal for them where both ends of a link join as many PDUs
-- as fit in each payload, no other one is by the same numbers of PDUs, and it keeps the law of links.
pub record IsRunOf (lines : List (List ℕ)) (run : List Entry) : Type 0 where
  pub legal : Legal lines run
  pub most : AllByRecursion (λ j. j ≡ no_joins) legal.numbers
  pub only : (other : List Entry) (last : State) → LeadsTo lines legal.numbers other last → other ≡ run
  pub links : LinksAccept legal.numbers run

-- A bench obeyed these lines: its journal is a run of them. Unless want of memory spoiled the bench, its machines are
-- in the state that the journal leads to.
pub record AreObeyed (lines : List (List ℕ)) (b : Benched) : Type 0 where
  pub run : IsRunOf lines b.journal
  pub machines : b.spoiled ≡ false → run.legal.last ≡ b.state

-- Want of memory cut off the command of the next line, in this state: nothing of it was done, or a front of its step,
-- or the peer's end stopped behind one; what tags hold is left as an unfinished command leaves it.
pub record IsCutAt (rest : List (List ℕ)) (last : State) (b : Benched) : Type 0 where
  pub line : List ℕ
  pub after : List (List ℕ)
  pub parts : rest ≡ line ∷ after
  pub command : Command
  pub spelled : Spells line command
  pub front : CutOff no_joins last command b.cut b.state
  pub stores : Unfinished last command b.cut b.state

-- Where a bench stands before these lines: unless it is spoiled, nothing is cut off.
pub record StopsAt (rest : List (List ℕ)) (last : State) (b : Benched) : Type 0 where
  pub sound : b.spoiled ≡ false → b.cut ≡ []
  pub spoiled : b.spoiled ≡ true → IsCutAt rest last b

-- It obeyed the first of these lines, and of the next at most a part.
pub record FirstAreObeyed (lines : List (List ℕ)) (b : Benched) : Type 0 where
  pub front : List (List ℕ)
  pub rest : List (List ℕ)
  pub parts : lines ≡ front ++ rest
  pub obeyed : AreObeyed front b
  pub stops : StopsAt rest obeyed.run.legal.last b

-- Line n is refused behind what stands there: for its number, for its length, or as it stands.
abbrev pub IsRefused : State → ℕ → List ℕ → Type 0
IsRefused s n line = (most_lines < n) ⊎ ((longest_line < length line) ⊎ (IsTaken s line → ⊥))

-- Line n is the first of these lines that is refused: those before it are taken, and it isn't behind what they spell.
-- They were obeyed, and are within the limits.
pub record FirstRefused (lines : List (List ℕ)) (b : Benched) (n : ℕ) : Type 0 where
  pub before : List (List ℕ)
  pub line : List ℕ
  pub after : List (List ℕ)
  pub parts : lines ≡ before ++ line ∷ after
  pub commands : List Command
  pub taken : AreTaken before commands
  pub limits : AreWithinLimits before
  pub obeyed : AreObeyed before b
  pub number : n ≡ 1 + length before
  pub refused : IsRefused (standing_of commands) n line

-- All lines are within the limits and taken.
pub record AllTaken (lines : List (List ℕ)) : Type 0 where
  pub limits : AreWithinLimits lines
  pub commands : List Command
  pub taken : AreTaken lines commands

-- Which lines count. There is an input; it is the source's, where the source tells its bytes.

-- the input was read to its end, and all its lines are within the limits, and were obeyed
pub record ObeysAll (left left' : Option (List ℕ)) (b : Benched) : Type 0 where
  pub input : List ℕ
  pub told : IfSome left (λ bytes. (input ≡ bytes) × (left' ≡ Some []))
  pub limits : AreWithinLimits (lines_of input)
  pub obeyed : AreObeyed (lines_of input) b

-- line n of the input is the first that is refused
pub record RefusesLine (left : Option (List ℕ)) (b : Benched) (n : ℕ) : Type 0 where
  pub input : List ℕ
  pub told : IfSome left (λ bytes. input ≡ bytes)
  pub first : FirstRefused (lines_of input) b n

-- some bytes were read, and their whole lines are within the limits, and were obeyed
pub record ObeysWhole (left left' : Option (List ℕ)) (b : Benched) : Type 0 where
  pub read : List ℕ
  pub told : left ≡ with_front read left'
  pub limits : AreWithinLimits (whole_lines read)
  pub obeyed : AreObeyed (whole_lines read) b

-- the first lines of the input were obeyed, which are within the limits
pub record ObeysFront (left : Option (List ℕ)) (b : Benched) : Type 0 where
  pub input : List ℕ
  pub told : IfSome left (λ bytes. input ≡ bytes)
  pub obeyed : FirstAreObeyed (lines_of input) b
  pub limits : AreWithinLimits obeyed.front

-- The sink gained the report and the fault line, or, where its count rose, the report and a front of that line.
abbrev pub AddsFault : List ℕ → List ℕ → Option (List ℕ) → Option (List ℕ) → ℕ → ℕ → Type 0
AddsFault report fault taken taken' writes writes' =
    (taken' ≡ with_end taken (report ++ fault)) ⊎ (HasRisen writes writes'
    × GainsFront (with_end taken report) taken' fault)

-- Status 0: every line was obeyed, and its entry written.
pub record EndsDone (quiet : Bool) (left left' taken taken' : Option (List ℕ)) (b : Benched) : Type 0 where
  pub lines : ObeysAll left left' b
  pub written : taken' ≡ with_end taken (report_text quiet b.journal)

-- Status 2: a line was the first that is refused.
pub record EndsRefused (quiet : Bool) (left taken taken' : Option (List ℕ)) (writes writes' : ℕ) (b : Benched)
    : Type 0 where
  pub number : ℕ
  pub lines : RefusesLine left b number
  pub written : AddsFault (report_text quiet b.journal) (line_fault number) taken taken' writes writes'

-- Status 3: the source failed, behind some bytes.
pub record EndsUnread (quiet : Bool) (left left' taken taken' : Option (List ℕ)) (reads reads' writes writes' : ℕ)
    (b : Benched) : Type 0 where
  pub risen : HasRisen reads reads'
  pub lines : ObeysWhole left left' b
  pub written : AddsFault (report_text quiet b.journal) read_fault taken taken' writes writes'

-- Status 4: the sink failed, within the text of the last entry.
pub record EndsUnwritten (quiet : Bool) (left taken taken' : Option (List ℕ)) (writes writes' : ℕ) (b : Benched)
    : Type 0 where
  pub risen : HasRisen writes writes'
  pub lines : ObeysFront left b
  pub before : List Entry
  pub last : Entry
  pub entries : b.journal ≡ before ++ last ∷ []
  pub written : GainsFront (with_end taken (report_text quiet before)) taken' (entry_text quiet last)

-- Status 5: memory was wanting. All entries were written.
pub record EndsMemory (quiet : Bool) (left taken taken' : Option (List ℕ)) (writes writes' : ℕ) (b : Benched)
    : Type 0 where
  pub lines : ObeysFront left b
  pub written : AddsFault (report_text quiet b.journal) memory_fault taken taken' writes writes'

-- So much was read: some bytes in which no line is refused for its number or its length, and behind them at most those
-- of one call.
pub record ReadsInTime (left left' : Option (List ℕ)) : Type 0 where
  pub front : List ℕ
  pub chunk : List ℕ
  pub read : left ≡ with_front (front ++ chunk) left'
  pub short : AreWithinLimits (lines_of front)
  pub size : length chunk ≤ chunk_size

-- at most so many bytes were read
pub record ReadsAtMost (most : ℕ) (left left' : Option (List ℕ)) : Type 0 where
  pub bytes : List ℕ
  pub read : left ≡ with_front bytes left'
  pub size : length bytes ≤ most

-- Where every line is taken and neither count rose, memory alone may be wanting.
abbrev pub Completes : {S : Type 0} → Seen S → Seen S → ℕ → Type 0
Completes old new n =
    (bytes : List ℕ) → old.left ≡ Some bytes → AllTaken (lines_of bytes) → (HasRisen old.reads new.reads → ⊥)
    → (HasRisen old.writes new.writes → ⊥) → (n ≡ 0) ⊎ (n ≡ 5)

-- What a run over a script did, which reports answers alone or events too: from what it saw at first to what it saw at
-- last, by its status.
pub record RanScript {S : Type 0} (quiet : Bool) (old new : Seen S) (n : ℕ) : Type 0 where
  pub status : (n ≡ 0) ⊎ ((2 ≤ n) × (n ≤ 5))
  pub done : n ≡ 0 → EndsDone quiet old.left new.left old.taken new.taken new.bench
  pub still : n ≡ 0 → (new.reads ≡ old.reads) × (new.writes ≡ old.writes)
  pub refused : n ≡ 2 → EndsRefused quiet old.left old.taken new.taken old.writes new.writes new.bench
  pub unread : n ≡ 3 → EndsUnread quiet old.left new.left old.taken new.taken old.reads new.reads old.writes new.writes
      new.bench
  pub unwritten : n ≡ 4 → EndsUnwritten quiet old.left old.taken new.taken old.writes new.writes new.bench
  pub memory : n ≡ 5 → EndsMemory quiet old.left old.taken new.taken old.writes new.writes new.bench
  pub complete : Completes old new n
  -- nothing but want of memory spoils the bench
  pub sound : (n ≡ 5 → ⊥) → new.bench.spoiled ≡ false
  pub runs : new.bench.finished ≡ old.bench.finished
  pub stop : ReadsInTime old.left new.left
  pub bound : ReadsAtMost most_read old.left new.left

-- A run over a workload. Status 0: every line was obeyed, and the line about them written.
pub record EndsMade (seed count : ℕ) (taken taken' : Option (List ℕ)) (b : Benched) : Type 0 where
  pub obeyed : AreObeyed (workload_lines seed count) b
  pub written : taken' ≡ with_end taken (made_line seed count b.journal)

-- Status 4: every line was obeyed, and the sink failed within the line about them.
pub record EndsUntold (seed count : ℕ) (taken taken' : Option (List ℕ)) (writes writes' : ℕ) (b : Benched)
    : Type 0 where
  pub risen : HasRisen writes writes'
  pub obeyed : AreObeyed (workload_lines seed count) b
  pub written : GainsFront taken taken' (made_line seed count b.journal)

-- Status 5: memory was wanting, and nothing was told of the lines that were obeyed.
pub record EndsUnmade (seed count : ℕ) (taken taken' : Option (List ℕ)) (writes writes' : ℕ) (b : Benched)
    : Type 0 where
  pub obeyed : FirstAreObeyed (workload_lines seed count) b
  pub written : AddsFault [] memory_fault taken taken' writes writes'

-- What a run over a workload did: no line is refused, whatever happens to the frames, and the source is left as it was.
pub record RanWorkload {S : Type 0} (seed count : ℕ) (old new : Seen S) (n : ℕ) : Type 0 where
  pub status : (n ≡ 0) ⊎ ((n ≡ 4) ⊎ (n ≡ 5))
  pub lines : AreTaken (workload_lines seed count) (workload_commands seed count)
  pub limits : AreWithinLimits (workload_lines seed count)
  pub source : new.source ≡ old.source
  pub done : n ≡ 0 → EndsMade seed count old.taken new.taken new.bench
  pub still : n ≡ 0 → new.writes ≡ old.writes
  pub unwritten : n ≡ 4 → EndsUntold seed count old.taken new.taken old.writes new.writes new.bench
  pub memory : n ≡ 5 → EndsUnmade seed count old.taken new.taken old.writes new.writes new.bench
  pub complete : (HasRisen old.writes new.writes → ⊥) → (n ≡ 0) ⊎ (n ≡ 5)
  -- nothing but want of memory spoils the bench
  pub sound : (n ≡ 5 → ⊥) → new.bench.spoiled ≡ false
  pub runs : new.bench.finished ≡ old.bench.finished

-- A sweep over a script: a write that is broken off at each of its transmissions.

-- a line of fates, and one of a write
abbrev pub IsFates : List ℕ → Type 0
IsFates line = (fates : List Fate) × Spells line (Fates fates)

abbrev pub IsWrite : List ℕ → Type 0
IsWrite line = (id : DeviceId) × (message : Msg) × Spells line (Write id message)

-- none of these lines is one of fates
abbrev pub HaveNoFates : List (List ℕ) → Type 0
HaveNoFates lines = All (λ l. IsFates l → ⊥) lines

-- A script that may be swept: no line is one of fates, and the last is a write.
pub record IsSwept (lines : List (List ℕ)) : Type 0 where
  pub before : List (List ℕ)
  pub last : List ℕ
  pub parts : lines ≡ before ++ last ∷ []
  pub none : HaveNoFates before
  pub id : DeviceId
  pub message : Msg
  pub spelled : Spells last (Write id message)

-- These runs are the first of its sweep: one of the script itself, whose last answer is `written`; and in order those
-- with a Break at one transmission of the write, of which there are no more than it has.
pub record AreRuns (lines : List (List ℕ)) (runs : List (List Entry)) : Type 0 where
  pub script : IsSwept lines
  pub first : List Entry
  pub broken : List (List Entry)
  pub parts : runs ≡ first ∷ broken
  pub run : IsRunOf lines first
  pub write : Entry
  pub last : last_entry first ≡ Some write
  pub written : write.answer ≡ Written
  pub few : length broken ≤ all_transmissions write.events
  pub each : (i : ℕ) → i < length broken → IsRunOf (sweep_lines script.before script.last (read_line script.id) i)
      (get_or broken i [])

-- All of them are finished, one for each transmission.
pub record HasSwept (lines : List (List ℕ)) (b : Benched) : Type 0 where
  pub runs : AreRuns lines b.finished
  pub all : length runs.broken ≡ all_transmissions runs.write.events
  pub journal : b.journal ≡ []

-- The first of them are finished, and of the next the first lines were obeyed; where none is left none was.
pub record HasSweptSome (lines : List (List ℕ)) (b : Benched) : Type 0 where
  pub runs : AreRuns lines b.finished
  pub next : length runs.broken < all_transmissions runs.write.events
      → FirstAreObeyed (sweep_lines runs.script.before runs.script.last (read_line runs.script.id) (length runs.broken))
      b
  pub over : length runs.broken ≡ all_transmissions runs.write.events → b.journal ≡ []

-- Line n is the first for which these aren't swept: it is refused, as in a run; it is one of fates; or it is the last,
-- and no write. Those before it were obeyed.
pub record FirstUnswept (lines : List (List ℕ)) (b : Benched) (n : ℕ) : Type 0 where
  pub before : List (List ℕ)
  pub line : List ℕ
  pub after : List (List ℕ)
  pub parts : lines ≡ before ++ line ∷ after
  pub commands : List Command
  pub taken : AreTaken before commands
  pub limits : AreWithinLimits before
  pub none : HaveNoFates before
  pub obeyed : AreObeyed before b
  pub number : n ≡ 1 + length before
  pub unswept : IsRefused (standing_of commands) n line ⊎ (IsFates line ⊎ ((after ≡ []) × (IsWrite line → ⊥)))

-- the last answer isn't `written`
abbrev pub IsUnwritten : List Entry → Type 0
IsUnwritten journal = (e : Entry) → last_entry journal ≡ Some e → e.answer ≡ Written → ⊥

-- They were all obeyed, but the answer to the last isn't `written`.
pub record LastUnwritten (lines : List (List ℕ)) (b : Benched) (n : ℕ) : Type 0 where
  pub script : IsSwept lines
  pub limits : AreWithinLimits lines
  pub obeyed : AreObeyed lines b
  pub number : n ≡ length lines
  pub unwritten : IsUnwritten b.journal

-- So line n isn't swept. A script without a line has none that is a write: that counts as line 1.
abbrev pub Unsweeps : List (List ℕ) → Benched → ℕ → Type 0
Unsweeps lines b n = FirstUnswept lines b n ⊎ (LastUnwritten lines b n ⊎ ((lines ≡ []) × (n ≡ 1) × AreObeyed [] b))

-- Status 0: every run is finished, and the line about them written.
pub record EndsSwept (left left' taken taken' : Option (List ℕ)) (b : Benched) : Type 0 where
  pub input : List ℕ
  pub told : IfSome left (λ bytes. (input ≡ bytes) × (left' ≡ Some []))
  pub limits : AreWithinLimits (lines_of input)
  pub swept : HasSwept (lines_of input) b
  pub written : taken' ≡ with_end taken (found_line (found_in b.finished))

-- Status 2: a line isn't swept. No run is finished.
pub record EndsUnswept (left taken taken' : Option (List ℕ)) (writes writes' : ℕ) (b : Benched) : Type 0 where
  pub input : List ℕ
  pub told : IfSome left (λ bytes. input ≡ bytes)
  pub number : ℕ
  pub line : Unsweeps (lines_of input) b number
  pub runs : b.finished ≡ []
  pub written : AddsFault [] (line_fault number) taken taken' writes writes'

-- Status 3: the source failed, and no line was obeyed.
pub record EndsUnknown (taken taken' : Option (List ℕ)) (reads reads' writes writes' : ℕ) (b : Benched) : Type 0 where
  pub risen : HasRisen reads reads'
  pub runs : b.finished ≡ []
  pub journal : b.journal ≡ []
  pub written : AddsFault [] read_fault taken taken' writes writes'

-- Status 4: every run is finished, and the sink failed within the line about them.
pub record EndsUntellable (left left' taken taken' : Option (List ℕ)) (writes writes' : ℕ) (b : Benched) : Type 0 where
  pub risen : HasRisen writes writes'
  pub input : List ℕ
  pub told : IfSome left (λ bytes. (input ≡ bytes) × (left' ≡ Some []))
  pub limits : AreWithinLimits (lines_of input)
  pub swept : HasSwept (lines_of input) b
  pub written : GainsFront taken taken' (found_line (found_in b.finished))

-- some of its runs are finished
pub record SweepsSome (left : Option (List ℕ)) (b : Benched) : Type 0 where
  pub input : List ℕ
  pub told : IfSome left (λ bytes. input ≡ bytes)
  pub limits : AreWithinLimits (lines_of input)
  pub swept : HasSweptSome (lines_of input) b

-- Status 5: memory was wanting, in the first run or behind it.
pub record EndsHalfSwept (left taken taken' : Option (List ℕ)) (writes writes' : ℕ) (b : Benched) : Type 0 where
  pub runs : ((b.finished ≡ []) × ObeysFront left b) ⊎ SweepsSome left b
  pub written : AddsFault [] memory_fault taken taken' writes writes'

-- A script that may be swept, whose lines are all taken, and whose every run is told `written` at its end.
pub record MaySweep (lines : List (List ℕ)) : Type 0 where
  pub all : AllTaken lines
  pub script : IsSwept lines
  pub written : (run : List Entry) → IsRunOf lines run → (e : Entry) × (last_entry run ≡ Some e) × (e.answer ≡ Written)

-- Where there is such a script and neither count rose, memory alone may be wanting.
abbrev pub Sweeps : {S : Type 0} → Seen S → Seen S → ℕ → Type 0
Sweeps old new n =
    (bytes : List ℕ) → old.left ≡ Some bytes → MaySweep (lines_of bytes) → (HasRisen old.reads new.reads → ⊥)
    → (HasRisen old.writes new.writes → ⊥) → (n ≡ 0) ⊎ (n ≡ 5)

-- What a sweep did.
pub record RanSweep {S : Type 0} (old new : Seen S) (n : ℕ) : Type 0 where
  pub status : (n ≡ 0) ⊎ ((2 ≤ n) × (n ≤ 5))
  pub done : n ≡ 0 → EndsSwept old.left new.left old.taken new.taken new.bench
  pub still : n ≡ 0 → (new.reads ≡ old.reads) × (new.writes ≡ old.writes)
  pub refused : n ≡ 2 → EndsUnswept old.left old.taken new.taken old.writes new.writes new.bench
  pub unread : n ≡ 3 → EndsUnknown old.taken new.taken old.reads new.reads old.writes new.writes new.bench
  pub unwritten : n ≡ 4 → EndsUntellable old.left new.left old.taken new.taken old.writes new.writes new.bench
  pub memory : n ≡ 5 → EndsHalfSwept old.left old.taken new.taken old.writes new.writes new.bench
  pub complete : Sweeps old new n
  -- nothing but want of memory spoils the bench
  pub sound : (n ≡ 5 → ⊥) → new.bench.spoiled ≡ false
  pub stop : ReadsInTime old.left new.left
  pub bound : ReadsAtMost most_read old.left new.left

-- An audit of a report by its script (Audit.antt).

-- Status 2: this line of the input isn't audited.
pub record EndsUnaudited (left taken taken' : Option (List ℕ)) (writes writes' : ℕ) : Type 0 where
  pub input : List ℕ
  pub told : IfSome left (λ bytes. input ≡ bytes)
  pub number : ℕ
  pub line : IsUnaudited input number
  pub written : AddsFault [] (line_fault number) taken taken' writes writes'

-- Status 3: the source failed, and no line was followed.
pub record EndsUnheard (taken taken' : Option (List ℕ)) (reads reads' writes writes' : ℕ) (b b' : Benched)
    : Type 0 where
  pub risen : HasRisen reads reads'
  pub bench : b' ≡ b
  pub written : AddsFault [] read_fault taken taken' writes writes'

-- Where an input is audited and neither count rose, there is a verdict, or memory is wanting.
abbrev pub Verdicts : {S : Type 0} → Seen S → Seen S → ℕ → Type 0
Verdicts old new n =
    (bytes : List ℕ) → old.left ≡ Some bytes → IsAudited bytes → (HasRisen old.reads new.reads → ⊥)
    → (HasRisen old.writes new.writes → ⊥) → (n ≡ 0) ⊎ ((n ≡ 1) ⊎ (n ≡ 5))

-- What an audit did. At status 5 memory was wanting; of the bench nothing is said but at 0 and 3.
pub record RanAudit {S : Type 0} (old new : Seen S) (n : ℕ) : Type 0 where
  pub status : n ≤ 5
  pub legal : n ≡ 0 → EndsLegal old.left new.left old.taken new.taken new.bench
  pub faulty : n ≡ 1 → EndsFaulty old.left new.left old.taken new.taken
  pub still : n ≤ 1 → (new.reads ≡ old.reads) × (new.writes ≡ old.writes)
  pub refused : n ≡ 2 → EndsUnaudited old.left old.taken new.taken old.writes new.writes
  pub unread : n ≡ 3 → EndsUnheard old.taken new.taken old.reads new.reads old.writes new.writes old.bench new.bench
  pub unwritten : n ≡ 4 → EndsUnfound old.left new.left old.taken new.taken old.writes new.writes new.bench
  pub memory : n ≡ 5 → AddsFault [] memory_fault old.taken new.taken old.writes new.writes
  pub complete : Verdicts old new n
  pub bound : ReadsAtMost most_audited old.left new.left

-- What a run of a form did: which statuses there are and what each means is the form's own.
abbrev pub RanAs : {S : Type 0} → Form → Seen S → Seen S → ℕ → Type 0
RanAs (Run quiet) old new n = RanScript quiet old new n
RanAs (Make seed count) old new n = RanWorkload seed count old new n
RanAs Sweep old new n = RanSweep old new n
RanAs Audit old new n = RanAudit old new n

-- What is left as it was, and the fault line, where the words are of no form: nothing was read, and no line obeyed.
pub record RefusesWords {S : Type 0} (old new : Seen S) : Type 0 where
  pub source : new.source ≡ old.source
  pub bench : new.bench ≡ old.bench
  pub told : AddsFault [] words_fault old.taken new.taken old.writes new.writes

-- What was done by these words: from what was seen at first to what was seen at last, with this status.
pub record Ran {S : Type 0} (words : List (List ℕ)) (old new : Seen S) (n : ℕ) : Type 0 where
  pub known : (f : Form) → FormOf words f → RanAs f old new n
  pub unknown : (n ≡ 6) ↔ ((f : Form) → FormOf words f → ⊥)
  pub same : n ≡ 6 → RefusesWords old new
  pub counts : (old.reads ≤ new.reads) × (old.writes ≤ new.writes)

-- Where there are no words, nothing is read. For want of memory nothing is written either; a word that is no text is in
-- no form.
abbrev pub EndsWordless : WordsFault → Option (List ℕ) → Option (List ℕ) → ℕ → ℕ → ℕ → Type 0
EndsWordless Memory taken taken' writes writes' n = (n ≡ 5) × (taken' ≡ taken) × (writes' ≡ writes)
EndsWordless NoText taken taken' writes writes' n = (n ≡ 6) × AddsFault [] words_fault taken taken' writes writes'
