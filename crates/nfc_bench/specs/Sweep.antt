-- What a sweep runs, and what it tells of its runs. (This project's own.)
use Rattle.std.specs.Prelude.{ℕ, ◌-◌, ◌/◌, ◌%◌, List, [], ◌∷◌, ◌++◌, codes, length, replicate, slice_get}
use Rattle.std.specs.Prelude.{slice_index_or, Option, Some, None, Bool, true, false, if◌then◌else◌, nat_eq, not, ◌&&◌}
use Rattle.std.specs.Fmt.{decimal}
use Rattle.std.specs.List.{count_by}
use Rattle.std.specs.Cmp.Lexicographic.{pointwise}
use Rattle.nfc_base.specs.Trace.{transmissions}
use Rattle.nfc_base.specs.declared.event.Event.{Event}
use Rattle.bench_script.specs.declared.command.Command.{Command}
use Rattle.bench_script.specs.declared.command.Command.TheVariants.{Read, Write}
use Rattle.bench_script.specs.declared.command.DeviceId.{DeviceId}
use Rattle.bench_script.specs.Canonical.{canonical}
use Rattle.bench_script.specs.Messages.{message_of}
use Rattle.bench_script.specs.Script.{most_fates}
use Rattle.bench_world.specs.declared.entry.Answer.{Answer}
use Rattle.bench_world.specs.declared.entry.Answer.TheVariants.{Message}
use Rattle.bench_world.specs.declared.entry.Entry.{Entry}
use Rattle.nfc_bench.specs.declared.top.found.Found.{Found}

-- a line of fates: so many that pass, and then these letters
unfoldable pub fates_line : ℕ → List ℕ → List ℕ
fates_line passes letters = codes "fates " ++ (replicate passes 80 ++ letters)

-- The lines of fates by which so many transmissions pass and the next one is a Break. Each but the last has as many
-- letters as a line of them may have.
unfoldable pub break_lines : ℕ → List (List ℕ)
break_lines passes = replicate (passes / most_fates) (fates_line most_fates [])
    ++ fates_line (passes % most_fates) (codes "B") ∷ []

-- The lines of a run in which so many transmissions of the last line pass and the next is a Break: those before the
-- last line, these fates, the last line, and one that reads its device.
unfoldable pub sweep_lines : List (List ℕ) → List ℕ → List ℕ → ℕ → List (List ℕ)
sweep_lines before last read passes = before ++ (break_lines passes ++ last ∷ read ∷ [])

unfoldable pub read_line : DeviceId → List ℕ
read_line id = canonical (Read id)

-- such lines but for their number of transmissions that pass
pub record Swept : Type 0 where
  pub before : List (List ℕ)
  pub last : List ℕ
  pub read : List ℕ
  pub passes : ℕ

-- a run's last entry, and how many transmissions some events have
abbrev pub last_entry : List Entry → Option Entry
last_entry run = slice_get run (length run - 1)

abbrev pub all_transmissions : List Event → ℕ
all_transmissions events = transmissions (λ _. 1) events

-- the message that a read told, if it told one
abbrev pub message_told : Answer → Option (List ℕ)
message_told (Message message writable) = Some message
message_told answer = None

abbrev pub told_if : Option Entry → Option (List ℕ)
told_if None = None
told_if (Some e) = message_told e.answer

-- ... in a run's last entry
abbrev pub told_in : List Entry → Option (List ℕ)
told_in run = told_if (last_entry run)

-- the message that a run's last entry writes, if it writes one
abbrev pub message_written : Command → List ℕ
message_written (Write id message) = message_of message
message_written c = []

abbrev pub written_if : Option Entry → List ℕ
written_if None = []
written_if (Some e) = message_written e.command

abbrev pub written_in : List Entry → List ℕ
written_in run = written_if (last_entry run)

-- the message that the first of some runs told
abbrev pub told_by_run : Option (List Entry) → Option (List ℕ)
told_by_run None = None
told_by_run (Some run) = told_in run

abbrev pub first_told : List (List Entry) → Option (List ℕ)
first_told runs = told_by_run (slice_get runs 0)

-- whether this was told, and it is that message
abbrev pub tells : Option (List ℕ) → List ℕ → Bool
tells None message = false
tells (Some told) message = pointwise nat_eq told message

-- whether it is the old message, if there is one; the new one and not the old one; neither
abbrev pub is_old : Option (List ℕ) → Option (List ℕ) → Bool
is_old None told = false
is_old (Some old) told = tells told old

abbrev pub is_new : Option (List ℕ) → List ℕ → Option (List ℕ) → Bool
is_new old new told = not (is_old old told) && tells told new

abbrev pub is_neither : Option (List ℕ) → List ℕ → Option (List ℕ) → Bool
is_neither old new told = not (is_old old told) && not (tells told new)

-- How often the old message, none, and the new one were told, each counted over some runs.
abbrev pub found_among : Option (List ℕ) → List ℕ → List (List Entry) → Found
found_among old new runs = record {
  runs = length runs;
  with_old = count_by (λ run. is_old old (told_in run)) runs;
  with_none = count_by (λ run. is_neither old new (told_in run)) runs;
  with_new = count_by (λ run. is_new old new (told_in run)) runs;
}

-- ... over the finished runs of a sweep behind the first: the old message is the one that the first of these told, and
-- the new one the one that the first run of all wrote
unfoldable pub found_in : List (List Entry) → Found
found_in [] = found_among None [] []
found_in (first ∷ broken) = found_among (first_told broken) (written_in first) broken

-- the line that tells it
unfoldable pub found_line : Found → List ℕ
found_line f =
    codes "sweep " ++ decimal f.runs ++ codes " old " ++ decimal f.with_old ++ codes " empty " ++ decimal f.with_none
    ++ codes " new " ++ decimal f.with_new ++ codes "\n"
