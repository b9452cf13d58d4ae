-- Why the parts of a sweep stop.
use Rattle.std.specs.Prelude.{◌≡◌, ◌⊎◌, ℕ, ◌+◌, ◌-◌, ◌<◌, ◌≤◌, List, [], ◌∷◌, ◌++◌, length, take, get_or, Bool, true}
use Rattle.std.specs.Prelude.{false, Option, Some, IfSome, Result, Err}
use Rattle.nfc_io.specs.Counts.{HasRisen}
use Rattle.nfc_io.specs.Lines.{lines_of}
use Rattle.bench_script.specs.declared.command.Command.{Command}
use Rattle.bench_script.specs.declared.command.Command.TheVariants.{Fates, Write}
use Rattle.bench_script.specs.declared.command.DeviceId.{DeviceId}
use Rattle.bench_script.specs.declared.message.Msg.{Msg}
use Rattle.bench_script.specs.Limits.{AreWithinLimits}
use Rattle.bench_script.specs.Script.{Spells}
use Rattle.bench_world.specs.declared.entry.Answer.TheVariants.{Written}
use Rattle.bench_world.specs.declared.entry.Entry.{Entry}
use Rattle.bench_world.specs.Obeying.{Benched, begun_anew}
use Rattle.bench_world.specs.Taking.{AreTaken}
use Rattle.nfc_bench.specs.declared.top.found.Found.{Found}
use Rattle.nfc_bench.specs.declared.top.sweeping.Cut.{Cut}
use Rattle.nfc_bench.specs.declared.top.sweeping.Cut.TheVariants.{Refused, ReadFault, Memory}
use Rattle.nfc_bench.specs.Reading.{Scripted}
use Rattle.nfc_bench.specs.Run.{IsFates, IsWrite, HaveNoFates, IsRunOf, AreObeyed, FirstAreObeyed, HasSwept}
use Rattle.nfc_bench.specs.Run.{HasSweptSome, FirstUnswept, IsUnwritten, Unsweeps, ObeysFront, SweepsSome}
use Rattle.nfc_bench.specs.Stops.{ObeyedBy}
use Rattle.nfc_bench.specs.Sweep.{Swept, sweep_lines, read_line, last_entry, all_transmissions, found_in}

-- A line may stand in a script that is swept: it isn't one of fates, and at the end it is a write.
abbrev pub MayStand : Bool → List ℕ → Type 0
MayStand is_last line = (IsFates line → ⊥) × (is_last ≡ true → IsWrite line)

-- It may not: it spells nothing, or is one of fates, or the last and no write.
abbrev pub MayNotStand : Bool → List ℕ → Type 0
MayNotStand is_last line = ((c : Command) → Spells line c → ⊥)
    ⊎ (IsFates line ⊎ ((is_last ≡ true) × (IsWrite line → ⊥)))

-- a command of fates, and a write
abbrev pub is_fates : Command → Bool
is_fates (Fates fates) = true
is_fates c = false

abbrev pub is_write : Command → Bool
is_write (Write id message) = true
is_write c = false

abbrev pub Stands : Bool → List ℕ → Bool → Type 0
Stands is_last line true = MayStand is_last line
Stands is_last line false = MayNotStand is_last line

-- So many of the first lines of a script may stand in it, and where that isn't all of them the next may not.
pub record StandsTo (s : Scripted) (n : ℕ) : Type 0 where
  pub within : n ≤ length s.lines
  pub none : HaveNoFates (take n s.lines)
  pub stop : n < length s.lines → (is_last : Bool) × (is_last ≡ true → (n + 1 ≡ length s.lines) × (s.is_cut ≡ false))
      × MayNotStand is_last (get_or s.lines n [])
  pub write : n ≡ length s.lines → 0 < n → s.is_cut ≡ false → IsWrite (get_or s.lines (n - 1) [])

-- A script was read to its end, its last line is a write, none is one of fates, and they were obeyed.
pub record ObeysSwept (s : Scripted) (b : Benched) : Type 0 where
  pub whole : s.is_cut ≡ false
  pub some : 0 < length s.lines
  pub none : HaveNoFates s.lines
  pub write : IsWrite (get_or s.lines (length s.lines - 1) [])
  pub obeyed : ObeyedBy s.lines b

-- The first of these lines were obeyed, which are within the limits.
pub record FirstWithin (lines : List (List ℕ)) (b : Benched) : Type 0 where
  pub obeyed : FirstAreObeyed lines b
  pub limits : AreWithinLimits obeyed.front

-- why the lines of a script weren't all obeyed
abbrev pub ScriptStops : List (List ℕ) → Benched → Cut → Type 0
ScriptStops lines b (Refused n) = FirstUnswept lines b n ⊎ ((lines ≡ []) × (n ≡ 1) × AreObeyed [] b)
ScriptStops lines b ReadFault = ⊥
ScriptStops lines b Memory = FirstWithin lines b

-- the last answer is `written`, to a write of so many transmissions
pub record IsWrittenBy (n : ℕ) (journal : List Entry) : Type 0 where
  pub write : Entry
  pub last : last_entry journal ≡ Some write
  pub written : write.answer ≡ Written
  pub count : n ≡ all_transmissions write.events

-- A bench obeyed a script that is swept, as its first run, and its last answer is `written`, to a write of so many
-- transmissions.
pub record BeginsSweep (s : Scripted) (count : ℕ) (b : Benched) : Type 0 where
  pub obeys : ObeysSwept s b
  pub written : IsWrittenBy count b.journal
  pub runs : b.finished ≡ []

-- These are the lines of a script whose last line is a write, parted.
pub record AreSweptLines (lines : List (List ℕ)) (s : Swept) : Type 0 where
  pub parts : lines ≡ s.before ++ s.last ∷ []
  pub id : DeviceId
  pub message : Msg
  pub spelled : Spells s.last (Write id message)
  pub read : s.read ≡ read_line id

-- each of these lines is taken, whatever their number of transmissions that pass
abbrev pub AreAllTaken : Swept → Type 0
AreAllTaken s = (passes : ℕ) → (cs : List Command) × AreTaken (sweep_lines s.before s.last s.read passes) cs

-- Some more runs are finished, each with a Break at its place.
pub record HasBroken (s : Swept) (old new : Benched) : Type 0 where
  pub broken : List (List Entry)
  pub runs : new.finished ≡ old.finished ++ broken
  pub each : (i : ℕ) → i < length broken → IsRunOf (sweep_lines s.before s.last s.read i) (get_or broken i [])

-- so many, and the bench begins anew
pub record HasBrokenAll (s : Swept) (count : ℕ) (old new : Benched) : Type 0 where
  pub by : HasBroken s old new
  pub all : length by.broken ≡ count
  pub anew : new ≡ begun_anew (old.finished ++ by.broken)

-- not so many, and of the next run the first lines were obeyed
pub record HasBrokenSome (s : Swept) (count : ℕ) (old new : Benched) : Type 0 where
  pub by : HasBroken s old new
  pub few : length by.broken < count
  pub next : FirstAreObeyed (sweep_lines s.before s.last s.read (length by.broken)) new

-- every run of a sweep is finished, and this was found
pub record SweepsAll (left left' : Option (List ℕ)) (b : Benched) (f : Found) : Type 0 where
  pub input : List ℕ
  pub told : IfSome left (λ bytes. (input ≡ bytes) × (left' ≡ Some []))
  pub limits : AreWithinLimits (lines_of input)
  pub swept : HasSwept (lines_of input) b
  pub found : f ≡ found_in b.finished

-- a line isn't swept
pub record SweepRefused (left : Option (List ℕ)) (b : Benched) (n : ℕ) : Type 0 where
  pub input : List ℕ
  pub told : IfSome left (λ bytes. input ≡ bytes)
  pub line : Unsweeps (lines_of input) b n
  pub runs : b.finished ≡ []

-- why a sweep stopped
abbrev pub SweepStops : Option (List ℕ) → ℕ → ℕ → Benched → Cut → Type 0
SweepStops left r r' b (Refused n) = SweepRefused left b n
SweepStops left r r' b ReadFault = HasRisen r r' × (b.finished ≡ []) × (b.journal ≡ [])
SweepStops left r r' b Memory = ((b.finished ≡ []) × ObeysFront left b) ⊎ SweepsSome left b

-- a sweep that isn't short of memory spoils nothing
abbrev pub IsKeptUnless : {X : Type 0} → Result X Cut → Benched → Type 0
IsKeptUnless r b = (r ≡ Err Memory → ⊥) → b.spoiled ≡ false
