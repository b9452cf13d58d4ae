-- One line of a script takes an audit on: from where it stands to where it stands behind the line.
use Rattle.std.proofs.Common.{◌≡◌, ℕ, ◌+◌, ◌<◌, ◌^◌, ◌⊎◌, inl, inr, List, [], ◌∷◌, ◌++◌, length, Bool, true, false, refl, sym, subst}
use Rattle.bench_script.specs.declared.command.Command.{Command}
use Rattle.bench_script.specs.declared.command.Command.TheVariants.{Skip}
use Rattle.bench_script.specs.Script.{Spells}
use Rattle.bench_world.specs.Obeying.{Adds, Benched, Obeys, new_bench}
use Rattle.bench_world.specs.Showing.{MayShow}
use Rattle.trace_audit.specs.Auditing.{AreAudited, IsAudited, IsFaultyAt, IsReportOf, IsUnauditedAt}
use Rattle.trace_audit.specs.private.OnAir.{LastOnAir}
use Rattle.trace_audit.specs.private.Stepping.{AuditsLine, ObeysOn, StaysOn, StepsOn, StepsTo, StraysAtAnswer, StraysAtEvent, TakesBy, TakesLine}
use Rattle.trace_audit.specs.declared.stepping.Walk.{Walk}
use Rattle.trace_audit.proofs.LastEntry.{obeyed_on_air}
use Rattle.trace_audit.proofs.Strayed.{Strayed, answer_strays, stray_ends, stray_goes_on, stray_refuses, stray_skips, walk_strays, walk_surplus}
use Rattle.trace_audit.proofs.Walked.{Walked, walk_begins, walk_ends, walk_goes_on, walk_refuses, walk_skips}

-- where an audit stands behind some lines, with so many good lines of the report
abbrev pub StandsBy : Bool → List (List ℕ) → List (List ℕ) → Benched → List ℕ → ℕ → List ℕ → Type 0
StandsBy false lines done bench report good left = Walked done bench report good left
StandsBy true lines done bench report good left = Strayed lines done bench report (good + 1)

abbrev pub Stands : List (List ℕ) → List (List ℕ) → Benched → List ℕ → Walk → Type 0
Stands lines done bench report w = StandsBy w.strayed lines done bench report w.good w.left.now

-- what obeying adds, where it asks for something
pub adds_of : (old new : Benched) (n : ℕ) (c : Command) → Obeys old new n c → (c ≡ Skip → ⊥) → Adds old new n c
adds_of old new n Skip p other = absurd (other refl)
adds_of old new n c p other = p

module _ (done : List (List ℕ)) (text : List ℕ) (after : List (List ℕ)) (old new : Benched) (report : List ℕ) (line : ℕ) (number : line ≡ length done + 1)
    (few : length (done ++ text ∷ after) < 2 ^ 32) where
  abbrev all_lines : List (List ℕ)
  all_lines = done ++ text ∷ after

  module _ (good : ℕ) (left : List ℕ) (c : Command) (spells : Spells text c) (asks : c ≡ Skip → ⊥) where
    stays : (rest : List ℕ) (count : ℕ) → Walked done old report good left → StaysOn old new line c left rest count → Walked (done ++ text ∷ []) new report (good + count) rest
    stays rest count w s =
        subst (λ k. Walked (done ++ text ∷ []) new report (good + k) rest) (sym s.count)
        (walk_goes_on done text old new report good left line c s.events s.behind number w s.follows.between spells asks s.read s.follows rest s.answered)

    at_answer : (count : ℕ) → Walked done old report good left → StraysAtAnswer old new line c left count → Strayed all_lines (done ++ text ∷ []) new report (good + count + 1)
    at_answer count w s =
        subst (λ k. Strayed all_lines (done ++ text ∷ []) new report (good + k + 1)) (sym s.count)
        (answer_strays done text after old new report good left line c s.events s.behind number w few spells asks s.read s.follows s.follows.between s.other)

    at_event : (count : ℕ) → Walked done old report good left → StraysAtEvent old new line c left count → Strayed all_lines (done ++ text ∷ []) new report (good + count + 1)
    at_event count w s =
        walk_strays done text after old new report good left line c s.events s.behind number w few spells asks s.read count s.follows s.follows.on_air

    steps : (v : Bool) (rest : List ℕ) (count : ℕ) → Walked done old report good left → StepsTo v old new line c left rest count
        → StandsBy v all_lines (done ++ text ∷ []) new report (good + count) rest
    steps false rest count w s = stays rest count w s
    steps true rest count w (inl s) = at_answer count w s
    steps true rest count w (inr s) = at_event count w s

    obeys : (fault : ℕ) → Strayed all_lines done old report fault → Obeys old new line c → MayShow old.state c → LastOnAir new.journal → Strayed all_lines (done ++ text ∷ []) new report fault
    obeys fault s does shows air =
        let adds : Adds old new line c = adds_of old new line c does asks in
        stray_goes_on all_lines done text old new report fault line c number s spells asks shows adds (obeyed_on_air old new line air c adds)

  -- the walk goes on as the line is taken
  step_on : (w w' : Walk) (c : Command) → Spells text c → (c ≡ Skip → ⊥) → Walked done old report w.good w.left.now → StepsOn old new line c w w' → Stands all_lines (done ++ text ∷ []) new report w'
  step_on w w' c spells asks stands s =
      subst (λ k. StandsBy w'.strayed all_lines (done ++ text ∷ []) new report k w'.left.now) (sym s.good) (steps w.good w.left.now c spells asks w'.strayed w'.left.now s.lines stands s.step)

  obey_on : (w w' : Walk) (c : Command) → Spells text c → (c ≡ Skip → ⊥) → w.strayed ≡ true → Strayed all_lines done old report (w.good + 1) → ObeysOn old new line c w w'
      → Stands all_lines (done ++ text ∷ []) new report w'
  obey_on w w' c spells asks strayed stands s =
      let S : Bool → Type 0 = λ v. StandsBy v all_lines (done ++ text ∷ []) new report w.good w.left.now in
      subst (Stands all_lines (done ++ text ∷ []) new report) (sym s.same)
      (subst S (sym strayed) (obeys w.good w.left.now c spells asks (w.good + 1) stands s.obeys s.shows s.on_air))

  by_walk : (v : Bool) (w w' : Walk) (c : Command) → Spells text c → (c ≡ Skip → ⊥) → w.strayed ≡ v → StandsBy v all_lines done old report w.good w.left.now → TakesBy v old new line c w w'
      → Stands all_lines (done ++ text ∷ []) new report w'
  by_walk false w w' c spells asks is stands s = step_on w w' c spells asks stands s
  by_walk true w w' c spells asks is stands s = obey_on w w' c spells asks is stands s

  asking : (w w' : Walk) (c : Command) → Spells text c → (c ≡ Skip → ⊥) → Stands all_lines done old report w → TakesBy w.strayed old new line c w w'
      → Stands all_lines (done ++ text ∷ []) new report w'
  asking w w' c spells asks stands s = by_walk w.strayed w w' c spells asks refl stands s

-- A line that asks for nothing.
skip_by : (v : Bool) (lines done : List (List ℕ)) (text : List ℕ) (bench : Benched) (report : List ℕ) (good : ℕ) (left : List ℕ) → Spells text Skip → StandsBy v lines done bench report good left
    → StandsBy v lines (done ++ text ∷ []) bench report good left
skip_by false lines done text bench report good left spells w = walk_skips done bench report good left text w spells
skip_by true lines done text bench report good left spells s = stray_skips lines done text bench report (good + 1) s spells

pub skips_on : (lines done : List (List ℕ)) (text : List ℕ) (old new : Benched) (report : List ℕ) (w w' : Walk) → Spells text Skip → Stands lines done old report w → (new ≡ old) × (w' ≡ w)
    → Stands lines (done ++ text ∷ []) new report w'
skips_on lines done text old new report w w' spells stands same =
    subst (Stands lines (done ++ text ∷ []) new report) (sym same.1)
    (subst (λ b. Stands lines (done ++ text ∷ []) b report w) (sym same.0) (skip_by w.strayed lines done text old report w.good w.left.now spells stands))

-- Where an audit stands before the first line, ...
pub stands_first : (lines : List (List ℕ)) (report : List ℕ) (w : Walk) → w.strayed ≡ false → w.good ≡ 0 → w.left.now ≡ report → Stands lines [] new_bench report w
stands_first lines report w going none all =
    let S : Bool → ℕ → List ℕ → Type 0 = λ v k left. StandsBy v lines [] new_bench report k left in
    subst (λ v. S v w.good w.left.now) (sym going) (subst (λ k. S false k w.left.now) (sym none) (subst (S false 0) (sym all) (walk_begins report)))

-- ... and what a line that isn't audited tells.
refuses_by : (v : Bool) (lines done : List (List ℕ)) (text : List ℕ) (after : List (List ℕ)) (bench : Benched) (report : List ℕ) (good : ℕ) (left : List ℕ)
    → StandsBy v lines done bench report good left
    → (IsAudited bench.state text → ⊥) → IsUnauditedAt (done ++ text ∷ after) (length done + 1)
refuses_by false lines done text after bench report good left w none = walk_refuses done text after bench report good left w none
refuses_by true lines done text after bench report good left s none = stray_refuses lines done text after bench report (good + 1) s none

pub stands_refused : (lines done : List (List ℕ)) (text : List ℕ) (after : List (List ℕ)) (bench : Benched) (report : List ℕ) (w : Walk) → Stands lines done bench report w
    → (IsAudited bench.state text → ⊥) → IsUnauditedAt (done ++ text ∷ after) (length done + 1)
stands_refused lines done text after bench report w stands none = refuses_by w.strayed lines done text after bench report w.good w.left.now stands none

-- a command asks for something, or for nothing
skip_or : (c : Command) → (c ≡ Skip) ⊎ (c ≡ Skip → ⊥)
skip_or Skip = inl refl
skip_or c = inr (λ e. cc)

takes_asking : (old new : Benched) (line : ℕ) (c : Command) (w w' : Walk) → (c ≡ Skip → ⊥) → TakesLine old new line c w w' → TakesBy w.strayed old new line c w w'
takes_asking old new line Skip w w' asks p = absurd (asks refl)
takes_asking old new line c w w' asks p = p

-- So each line of the script takes the audit on.
pub line_on : (done : List (List ℕ)) (text : List ℕ) (after : List (List ℕ)) (old new : Benched) (report : List ℕ) (line : ℕ) (w w' : Walk) → line ≡ length done + 1
    → length (done ++ text ∷ after) < 2 ^ 32 → Stands (done ++ text ∷ after) done old report w → AuditsLine old new line text w w'
    → Stands (done ++ text ∷ after) (done ++ text ∷ []) new report w'
line_on done text after old new report line w w' number few stands a = by_command (skip_or a.command)
  where
    by_command : (a.command ≡ Skip) ⊎ (a.command ≡ Skip → ⊥) → Stands (done ++ text ∷ after) (done ++ text ∷ []) new report w'
    by_command (inl is) =
        skips_on (done ++ text ∷ after) done text old new report w w' (subst (Spells text) is a.spells) stands (subst (λ c. TakesLine old new line c w w') is a.takes)
    by_command (inr asks) =
        asking done text after old new report line number few w w' a.command a.spells asks stands (takes_asking old new line a.command w w' asks a.takes)

-- What an audit comes to behind the last line: a fault of the report, or what is left of it is one, or nothing is.
faulty_by : (v : Bool) (lines : List (List ℕ)) (bench : Benched) (report : List ℕ) (good : ℕ) (left : List ℕ) → length lines < 2 ^ 32 → StandsBy v lines lines bench report good left
    → (v ≡ true) ⊎ (0 < length left) → IsFaultyAt lines report (good + 1)
faulty_by true lines bench report good left few s why = stray_ends lines bench report (good + 1) s
faulty_by false lines bench report good left few w (inl is) = absurd cc
faulty_by false lines bench report good left few w (inr some) = walk_surplus lines bench report good left w few some

pub ends_faulty : (lines : List (List ℕ)) (bench : Benched) (report : List ℕ) (w : Walk) → length lines < 2 ^ 32 → Stands lines lines bench report w → (w.strayed ≡ true) ⊎ (0 < length w.left.now)
    → IsFaultyAt lines report (w.good + 1)
ends_faulty lines bench report w few stands why = faulty_by w.strayed lines bench report w.good w.left.now few stands why

pub ends_legal : (lines : List (List ℕ)) (bench : Benched) (report : List ℕ) (w : Walk) → Stands lines lines bench report w → w.strayed ≡ false → w.left.now ≡ [] → IsReportOf lines report bench
ends_legal lines bench report w stands going over =
    let S : Bool → List ℕ → Type 0 = λ v left. StandsBy v lines lines bench report w.good left in
    walk_ends lines bench report w.good (subst (S false) over (subst (λ v. S v w.left.now) going stands))

-- All its lines are audited.
audited_by : (v : Bool) (lines : List (List ℕ)) (bench : Benched) (report : List ℕ) (good : ℕ) (left : List ℕ) → StandsBy v lines lines bench report good left
    → (commands : List Command) × AreAudited lines commands
audited_by false lines bench report good left w = (w.commands, w.audited)
audited_by true lines bench report good left s = (s.commands, s.audited)

pub ends_audited : (lines : List (List ℕ)) (bench : Benched) (report : List ℕ) (w : Walk) → Stands lines lines bench report w → (commands : List Command) × AreAudited lines commands
ends_audited lines bench report w stands = audited_by w.strayed lines bench report w.good w.left.now stands
