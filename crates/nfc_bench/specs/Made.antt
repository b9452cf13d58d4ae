-- What a run over a workload tells of its journal: what came through, in one line. (This project's own.)
use Rattle.std.specs.Prelude.{ℕ, List, ◌++◌, codes, length, Bool, true, false}
use Rattle.std.specs.List.{count_by, sum_by}
use Rattle.std.specs.Fmt.{decimal}
use Rattle.bench_script.specs.declared.command.Command.{Command}
use Rattle.bench_script.specs.declared.command.Command.TheVariants.{Put}
use Rattle.bench_script.specs.Messages.{message_of}
use Rattle.bench_world.specs.declared.entry.Answer.{Answer}
use Rattle.bench_world.specs.declared.entry.Answer.TheVariants.{Written, Message, Success}
use Rattle.bench_world.specs.declared.entry.Entry.{Entry}
use Rattle.nfc_bench.specs.declared.top.counting.Tally.{Tally}

-- the answers of a write, a read and a put that came through
abbrev pub is_written : Answer → Bool
is_written Written = true
is_written answer = false

abbrev pub is_message : Answer → Bool
is_message (Message message writable) = true
is_message answer = false

abbrev pub is_success : Answer → Bool
is_success Success = true
is_success answer = false

-- how many bytes a command puts, none where it is no put
abbrev pub put_size : Command → ℕ
put_size (Put message) = length (message_of message)
put_size command = 0

-- how many bytes were put with success
abbrev pub size_told : Command → Answer → ℕ
size_told command Success = put_size command
size_told command answer = 0

-- How many of these answers a journal has, and the sum of the lengths of the messages that were put with success.
abbrev pub tally_of : List Entry → Tally
tally_of journal = record {
  writes = count_by (λ (e : Entry). is_written e.answer) journal;
  reads = count_by (λ (e : Entry). is_message e.answer) journal;
  puts = count_by (λ (e : Entry). is_success e.answer) journal;
  bytes = sum_by (λ (e : Entry). size_told e.command e.answer) journal;
}

-- the line that tells it
abbrev pub tally_line : ℕ → ℕ → Tally → List ℕ
tally_line seed count t =
    codes "made " ++ decimal seed ++ codes " " ++ decimal count ++ codes " writes " ++ decimal t.writes
    ++ codes " reads " ++ decimal t.reads
    ++ codes " puts " ++ decimal t.puts ++ codes " bytes " ++ decimal t.bytes ++ codes "\n"

abbrev pub made_line : ℕ → ℕ → List Entry → List ℕ
made_line seed count journal = tally_line seed count (tally_of journal)
