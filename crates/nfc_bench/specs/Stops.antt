-- Why the parts of a run stop.
use Rattle.std.specs.Prelude.{◌≡◌, ℕ, ◌+◌, List, [], ◌∷◌, ◌++◌, length, Bool, true, false, Option, Result, Err}
use Rattle.std.specs.List.{AllByRecursion}
use Rattle.nfc_io.specs.Counts.{HasRisen}
use Rattle.nfc_io.specs.Moves.{with_end, GainsFront}
use Rattle.bench_world.specs.declared.entry.Entry.{Entry}
use Rattle.bench_script.specs.declared.command.Command.{Command}
use Rattle.bench_script.specs.Script.{Spells}
use Rattle.nfc_bench.specs.declared.top.obeying.Unobeyed.{Unobeyed}
use Rattle.nfc_bench.specs.declared.top.obeying.Unobeyed.TheVariants as unobeyed
use Rattle.nfc_bench.specs.declared.top.lines.Stop.{Stop}
use Rattle.nfc_bench.specs.declared.top.lines.Stop.TheVariants.{Refused, ReadFault, WriteFault, Memory}
use Rattle.bench_world.specs.Legal.{Given, EachLegal, no_joins}
use Rattle.bench_world.specs.Obeying.{Benched, Spoils}
use Rattle.bench_world.specs.Journal.{Numbered}
use Rattle.bench_world.specs.Taking.{IsTaken, AreTaken, standing_of}
use Rattle.bench_world.specs.Report.{entry_text, report_text}
use Rattle.nfc_bench.specs.Run.{AreObeyed, FirstAreObeyed, ObeysFront, RefusesLine, ObeysWhole, EndsUnwritten}

-- A line was obeyed: the journal gained its entry, if it asks for something, and the machines are in the state behind
-- that. As many PDUs as fit were joined in each payload. The finished runs stay.
pub record Follows (old new : Benched) (n : ℕ) (l : List ℕ) : Type 0 where
  pub entries : List Entry
  pub given : List Given
  pub most : AllByRecursion (λ (g : Given). g.joins ≡ no_joins) given
  pub added : new.journal ≡ old.journal ++ entries
  pub numbered : Numbered n (l ∷ []) entries
  pub steps : EachLegal old.state given entries new.state
  pub sound : new.spoiled ≡ false
  pub uncut : new.cut ≡ old.cut
  pub runs : new.finished ≡ old.finished

-- one entry where the line asks for something, and none where it doesn't
abbrev pub AreAsked : Bool → List Entry → Type 0
AreAsked true entries = (entry : Entry) × (entries ≡ entry ∷ [])
AreAsked false entries = entries ≡ []

-- A line was obeyed, which asks for something or not.
pub record LineObeyed (old new : Benched) (n : ℕ) (l : List ℕ) (asks : Bool) : Type 0 where
  pub follows : Follows old new n l
  pub asked : AreAsked asks follows.entries

-- A line was obeyed, and its entry written, if it has one.
pub record LineDone (quiet : Bool) (old new : Benched) (n : ℕ) (l : List ℕ) (taken taken' : Option (List ℕ))
    : Type 0 where
  pub follows : Follows old new n l
  pub written : taken' ≡ with_end taken (report_text quiet follows.entries)

-- It was refused, and nothing was done.
pub record LineRefused (old new : Benched) (n m : ℕ) (l : List ℕ) (taken taken' : Option (List ℕ)) : Type 0 where
  pub number : m ≡ n
  pub stays : new ≡ old
  pub same : taken' ≡ taken
  pub refused : IsTaken old.state l → ⊥

-- It was obeyed, and a front of its entry was written.
pub record LineCut (quiet : Bool) (old new : Benched) (n : ℕ) (l : List ℕ) (taken taken' : Option (List ℕ))
    (writes writes' : ℕ) : Type 0 where
  pub follows : Follows old new n l
  pub entry : Entry
  pub one : follows.entries ≡ entry ∷ []
  pub written : GainsFront taken taken' (entry_text quiet entry)
  pub risen : HasRisen writes writes'

-- Memory was wanting for a line: the journal and the finished runs stay. A bench that isn't spoiled is as before; what
-- was spoiled by it is so by the command that the line spells.
pub record Lost (old new : Benched) (l : List ℕ) : Type 0 where
  pub journal : new.journal ≡ old.journal
  pub runs : new.finished ≡ old.finished
  pub machines : new.spoiled ≡ false → new ≡ old
  pub spoiled : old.spoiled ≡ false → new.spoiled ≡ true → (c : Command) × Spells l c × Spoils old new c

-- ... and nothing was written
pub record LineLost (old new : Benched) (l : List ℕ) (taken taken' : Option (List ℕ)) : Type 0 where
  pub lost : Lost old new l
  pub same : taken' ≡ taken

-- why a line ended the run
abbrev pub LineStops : Bool → Benched → Benched → ℕ → List ℕ → Option (List ℕ) → Option (List ℕ) → ℕ → ℕ → Stop → Type 0
LineStops quiet old new n l t t' w w' (Refused m) = LineRefused old new n m l t t'
LineStops quiet old new n l t t' w w' ReadFault = ⊥
LineStops quiet old new n l t t' w w' WriteFault = LineCut quiet old new n l t t' w w'
LineStops quiet old new n l t t' w w' Memory = LineLost old new l t t'

-- A bench that isn't spoiled obeyed these lines, and nothing is cut off.
pub record ObeyedBy (lines : List (List ℕ)) (b : Benched) : Type 0 where
  pub obeyed : AreObeyed lines b
  pub sound : b.spoiled ≡ false
  pub uncut : b.cut ≡ []

-- Line n of these lines is the first that isn't taken: those before it are, and it isn't behind what they spell. They
-- were obeyed.
pub record FirstUntaken (lines : List (List ℕ)) (b : Benched) (n : ℕ) : Type 0 where
  pub before : List (List ℕ)
  pub line : List ℕ
  pub after : List (List ℕ)
  pub parts : lines ≡ before ++ line ∷ after
  pub commands : List Command
  pub taken : AreTaken before commands
  pub obeyed : ObeyedBy before b
  pub number : n ≡ 1 + length before
  pub refused : IsTaken (standing_of commands) line → ⊥

-- why lines weren't all obeyed
abbrev pub Unobeys : List (List ℕ) → Benched → Unobeyed → Type 0
Unobeys lines b (unobeyed.Refused n) = FirstUntaken lines b n
Unobeys lines b unobeyed.Memory = FirstAreObeyed lines b

-- a run that isn't short of memory spoils nothing
abbrev pub IsSoundUnless : Result (Unit {0}) Stop → Benched → Type 0
IsSoundUnless r b = (r ≡ Err Memory → ⊥) → b.spoiled ≡ false

-- the last entry
abbrev pub IsLast : List Entry → Entry → Type 0
IsLast journal entry = (js : List Entry) (e : Entry) → journal ≡ js ++ e ∷ [] → entry ≡ e

-- What a run did before it writes a fault line.
pub record RunRefused (quiet : Bool) (left taken taken' : Option (List ℕ)) (b : Benched) (n : ℕ) : Type 0 where
  pub lines : RefusesLine left b n
  pub written : taken' ≡ with_end taken (report_text quiet b.journal)

pub record RunUnread (quiet : Bool) (left left' taken taken' : Option (List ℕ)) (reads reads' : ℕ) (b : Benched)
    : Type 0 where
  pub risen : HasRisen reads reads'
  pub lines : ObeysWhole left left' b
  pub written : taken' ≡ with_end taken (report_text quiet b.journal)

pub record RunLost (quiet : Bool) (left taken taken' : Option (List ℕ)) (b : Benched) : Type 0 where
  pub lines : ObeysFront left b
  pub written : taken' ≡ with_end taken (report_text quiet b.journal)

-- why a run stopped
abbrev pub RunStops : Bool → Option (List ℕ) → Option (List ℕ) → Option (List ℕ) → Option (List ℕ) → ℕ → ℕ → ℕ → ℕ
    → Benched → Stop → Type 0
RunStops quiet left left' t t' r r' w w' b (Refused n) = RunRefused quiet left t t' b n
RunStops quiet left left' t t' r r' w w' b ReadFault = RunUnread quiet left left' t t' r r' b
RunStops quiet left left' t t' r r' w w' b WriteFault = EndsUnwritten quiet left t t' w w' b
RunStops quiet left left' t t' r r' w w' b Memory = RunLost quiet left t t' b
