-- Where an audit stands behind the first fault of a report: some journal of the lines that are done has a text that begins with the
-- report's good lines, and no good text goes on as the report does. Each line that is audited takes it on.
use Rattle.std.proofs.Common.{◌≡◌, ℕ, ◌+◌, ◌<◌, ◌≤◌, ◌^◌, List, [], ◌∷◌, ◌++◌, append_assoc, append-nil, ◌⊎◌, inl, inr, drop, length, take, take_all, take-append-drop, false, refl, sym, ◌∙◌, ap}
use Rattle.std.proofs.Common.{subst, arith}
use Rattle.std.specs.List.{AllByRecursion}
use Rattle.std.proofs.lemmas.Bool.{cases_lt}
use Rattle.std.proofs.lemmas.List.{drop_all, length-append, length-map, length-take-le}
use Rattle.std.proofs.lemmas.Grind.{flat_map-append}
use Rattle.nfc_base.proofs.Leading.{all_append}
use Rattle.nfc_base.specs.declared.event.Event.{Event}
use Rattle.nfc_io.specs.Lines.{NoLf, joined}
use Rattle.bench_script.specs.declared.command.Command.{Command}
use Rattle.bench_script.specs.declared.command.Command.TheVariants.{Skip}
use Rattle.bench_script.specs.Script.{Spells}
use Rattle.bench_world.specs.declared.entry.Entry.{Entry}
use Rattle.bench_world.specs.Following.{FollowsAll, FollowsFront}
use Rattle.bench_world.specs.Journal.{AreEntriesOf, asking_lines}
use Rattle.bench_world.specs.Legal.{Accepts, EachLegal, Given, LegalStep, first_state}
use Rattle.bench_world.specs.Obeying.{Adds, Benched}
use Rattle.bench_world.specs.Report.{answer_text, entry_text, event_text, events_text, line_text, report_text}
use Rattle.bench_world.specs.Showing.{IsBetweenCommands, MayShow}
use Rattle.trace_audit.specs.Auditing.{AreAudited, IsAudited, IsFaultyAt, IsOnAir, IsUnauditedAt, first_lines}
use Rattle.nfc_base.specs.Prefix.{IsPrefix}
use Rattle.trace_audit.specs.ReadEvents.{AreRead}
use Rattle.trace_audit.specs.Reading.{AreOnAir}
use Rattle.trace_audit.proofs.Audited.{audited_more, unaudited}
use Rattle.trace_audit.proofs.Entries.{asks_something, each_legal_more, numbered_more, numbered_skip, shown_legal}
use Rattle.trace_audit.proofs.FirstLines.{first_joined}
use Rattle.trace_audit.proofs.NoneGoOn.{none_answers, none_early, none_late, none_surplus, so_far, so_far_clean, so_far_joined}
use Rattle.trace_audit.proofs.ReportLines.{event_lines, report_clean, report_joined, report_lines}
use Rattle.trace_audit.proofs.Stopping.{NoneGoesOn, Stops, faulty_at, stops_at}
use Rattle.trace_audit.proofs.Walked.{Walked, leads_to, numbers_of, text_more, walked_leads}

pub record Strayed (lines done : List (List ℕ)) (bench : Benched) (report : List ℕ) (fault : ℕ) : Type 0 where
  pub sound : bench.spoiled ≡ false
  pub journal : List Entry
  pub given : List Given
  pub numbered : AreEntriesOf (asking_lines 1 done) journal
  pub steps : EachLegal first_state given journal bench.state
  pub on_air : IsOnAir journal
  pub commands : List Command
  pub audited : AreAudited done commands
  pub good : ℕ
  pub next : fault ≡ good + 1
  pub begins : IsPrefix (first_lines good report) (report_text false journal)
  pub stops : Stops lines report good

-- An entry of this line more, by which the journal goes on behind the good lines.
module _ (done : List (List ℕ)) (line : List ℕ) (after : List (List ℕ)) (bench new : Benched) (report : List ℕ) (at : ℕ) (left : List ℕ) (n : ℕ) (c : Command) (number : n ≡ length done + 1)
    (w : Walked done bench report at left) (spelled : Spells line c) (other : c ≡ Skip → ⊥) where
  stray_by : (e : Entry) (g : Given) → LegalStep bench.state g e new.state → e.line ≡ n → e.command ≡ c → MayShow bench.state c → AreOnAir e.events → new.spoiled ≡ false
      → (ls : List (List ℕ)) (behind rest : List ℕ) → AllByRecursion NoLf ls → report ≡ joined ls ++ behind → report_text false bench.journal ++ entry_text false e ≡ joined ls ++ rest
      → Stops (done ++ line ∷ after) report (length ls) → (fault : ℕ) → fault ≡ length ls + 1 → Strayed (done ++ line ∷ after) (done ++ line ∷ []) new report fault
  stray_by e g step numbered asked shows air sound ls behind rest clean is text stops fault next = record {
    sound = sound;
    journal = bench.journal ++ e ∷ [];
    given = w.given ++ g ∷ [];
    numbered = numbered_more done line bench.journal e w.numbered (asks_something line c spelled other) (numbered ∙ number) (subst (Spells line) (sym asked) spelled);
    steps = each_legal_more first_state bench.state new.state w.given bench.journal g e (shown_legal first_state bench.state w.given bench.journal w.steps) step;
    on_air = all_append (λ (e : Entry). AreOnAir e.events) bench.journal (e ∷ []) w.on_air (air, tt);
    commands = w.commands ++ c ∷ [];
    audited =
        audited_more done (numbers_of w.given) bench.journal bench.state w.commands (walked_leads done bench report at left w) w.audited line c spelled
        (subst (Accepts bench.state) asked step.front.accepted) shows;
    good = length ls;
    next = next;
    begins = (rest, text_more bench.journal e ∙ text ∙ ap (λ x. x ++ rest) (sym (ap (first_lines (length ls)) is ∙ first_joined ls behind clean)));
    stops = stops;
  }

-- the lines so far, counted
count_so_far : (js : List Entry) (n : ℕ) (es : List Event) → length (so_far js n es) ≡ length (report_lines js) + length es
count_so_far js n es = length-append (report_lines js) (event_lines n es) ∙ ap (λ k. length (report_lines js) + k) (length-map es _)

-- the report, by the lines so far
report_so_far : (js : List Entry) (n : ℕ) (es : List Event) (report left behind : List ℕ) → report ≡ report_text false js ++ left → left ≡ events_text n es ++ behind
    → report ≡ joined (so_far js n es) ++ behind
report_so_far js n es report left behind is parts =
    is ∙ ap (λ x. report_text false js ++ x) parts ∙ sym (append_assoc (report_text false js) (events_text n es) behind) ∙ ap (λ x. x ++ behind) (sym (so_far_joined js n es))

-- an entry's text behind them
entry_so_far : (js : List Entry) (n : ℕ) (es behind : List Event) (e : Entry) → e.line ≡ n → e.events ≡ es ++ behind
    → report_text false js ++ entry_text false e ≡ joined (so_far js n es) ++ (events_text n behind ++ line_text n (answer_text e.answer))
entry_so_far js n es behind e numbered is =
    let last : List ℕ = line_text n (answer_text e.answer) in
    let parts : entry_text false e ≡ events_text n es ++ (events_text n behind ++ last) =
    ap (λ k. events_text k e.events ++ line_text k (answer_text e.answer)) numbered ∙ ap (λ x. events_text n x ++ last) is
    ∙ ap (λ x. x ++ last) (flat_map-append (λ x. line_text n (event_text x)) es behind) ∙ append_assoc (events_text n es) (events_text n behind) last in
    ap (λ x. report_text false js ++ x) parts ∙ sym (append_assoc (report_text false js) (events_text n es) (events_text n behind ++ last))
    ∙ ap (λ x. x ++ (events_text n behind ++ last)) (sym (so_far_joined js n es))

module _ (done : List (List ℕ)) (line : List ℕ) (after : List (List ℕ)) (bench new : Benched) (report : List ℕ) (at : ℕ) (left : List ℕ) (n : ℕ) (c : Command) (events : List Event) (behind : List ℕ)
    (number : n ≡ length done + 1) (w : Walked done bench report at left) (few : length (done ++ line ∷ after) < 2 ^ 32) (spelled : Spells line c) (other : c ≡ Skip → ⊥)
    (reads : AreRead n c left events behind) where
  abbrev all_lines : List (List ℕ)
  all_lines = done ++ line ∷ after

  -- A line of which the first so many of the events that were read are good.
  pub walk_strays : (good : ℕ) (strays : FollowsFront bench new n c events good) → AreOnAir strays.made.events → Strayed all_lines (done ++ line ∷ []) new report (at + good + 1)
  walk_strays good strays air =
      let es : List Event = take good events in
      let here : List ℕ = events_text n (drop good events) ++ behind in
      let ls : List (List ℕ) = so_far bench.journal n es in
      let parts : events_text n events ≡ events_text n es ++ events_text n (drop good events) =
      ap (events_text n) (sym (take-append-drop good events)) ∙ flat_map-append (λ x. line_text n (event_text x)) es (drop good events) in
      let is : report ≡ joined ls ++ here =
      report_so_far bench.journal n es report left here w.read (reads.split ∙ ap (λ x. x ++ behind) parts ∙ append_assoc (events_text n es) (events_text n (drop good events)) behind) in
      let count : at + good ≡ length ls = omega (arith, w.count, count_so_far bench.journal n es, length-take-le good events strays.within) in
      stray_by done line after bench new report at left n c number w spelled other strays.made strays.given
      (subst (LegalStep bench.state strays.given strays.made) (ap (λ (b : Benched). b.state) (sym strays.is)) strays.legal) strays.numbered strays.asked strays.shows air
      (ap (λ (b : Benched). b.spoiled) strays.is ∙ w.sound) ls here (events_text n strays.behind ++ line_text n (answer_text strays.made.answer)) (so_far_clean bench.journal n es) is
      (entry_so_far bench.journal n es strays.behind strays.made strays.numbered strays.begins) (stops_at all_lines report ls here (so_far_clean bench.journal n es) is (none good strays))
      (at + good + 1) (omega (arith, count))
    where
      none : (good : ℕ) → FollowsFront bench new n c events good → NoneGoesOn all_lines (so_far bench.journal n (take good events)) (events_text n (drop good events) ++ behind)
      none good strays = by_count (cases_lt good (length events))
        where
          by_count : (good < length events) ⊎ (length events ≤ good) → NoneGoesOn all_lines (so_far bench.journal n (take good events)) (events_text n (drop good events) ++ behind)
          by_count (inl less) = none_early done line after bench report at left n c events behind number w few spelled other reads good less (strays.none_more less)
          by_count (inr all) =
              let whole : take good events ≡ events = take_all good events all in
              let nothing : drop good events ≡ [] = drop_all good events all in
              let P : List Event → List Event → Type 0 = λ es ds. NoneGoesOn all_lines (so_far bench.journal n es) (events_text n ds ++ behind) in
              let late : P events [] = none_late done line after bench report at left n c events behind number w few spelled other reads strays.none_so in
              subst (λ ds. P (take good events) ds) (sym nothing) (subst (λ es. P es []) (sym whole) late)

  -- A line whose entry is followed whole, but whose answer's line isn't the next of the report.
  pub answer_strays : (follows : FollowsAll bench new n c events) → IsBetweenCommands bench.state → ((rest : List ℕ) → behind ≡ line_text n (answer_text follows.entry.answer) ++ rest → ⊥)
      → Strayed all_lines (done ++ line ∷ []) new report (at + length events + 1)
  answer_strays follows between differs =
      let ls : List (List ℕ) = so_far bench.journal n events in
      let is : report ≡ joined ls ++ behind = report_so_far bench.journal n events report left behind w.read reads.split in
      let count : at + length events ≡ length ls = omega (arith, w.count, count_so_far bench.journal n events) in
      stray_by done line after bench new report at left n c number w spelled other follows.entry follows.given
      (subst (LegalStep bench.state follows.given follows.entry) (ap (λ (b : Benched). b.state) (sym follows.is)) follows.legal) follows.numbered follows.asked follows.shows
      (subst AreOnAir (sym follows.happened) reads.on_air) (ap (λ (b : Benched). b.spoiled) follows.is ∙ w.sound) ls behind (line_text n (answer_text follows.entry.answer))
      (so_far_clean bench.journal n events) is
      (entry_so_far bench.journal n events [] follows.entry follows.numbered (follows.happened ∙ sym (append-nil events)))
      (stops_at all_lines report ls behind (so_far_clean bench.journal n events) is (none_answers done line after bench report at left n c events behind number w few spelled other reads new follows
      between differs))
      (at + length events + 1) (omega (arith, count))

-- A line behind the fault, which is obeyed.
pub stray_goes_on : (lines done : List (List ℕ)) (line : List ℕ) (bench new : Benched) (report : List ℕ) (fault n : ℕ) (c : Command) → n ≡ length done + 1 → Strayed lines done bench report fault
    → Spells line c → (c ≡ Skip → ⊥) → MayShow bench.state c → (adds : Adds bench new n c) → AreOnAir adds.entry.events → Strayed lines (done ++ line ∷ []) new report fault
stray_goes_on lines done line bench new report fault n c number s spelled other shows adds air =
    let e : Entry = adds.entry in
    let step : LegalStep bench.state adds.given e new.state = subst (LegalStep bench.state adds.given e) (ap (λ (b : Benched). b.state) (sym adds.is)) adds.legal in
    record {
      sound = ap (λ (b : Benched). b.spoiled) adds.is ∙ s.sound;
      journal = s.journal ++ e ∷ [];
      given = s.given ++ adds.given ∷ [];
      numbered = numbered_more done line s.journal e s.numbered (asks_something line c spelled other) (adds.numbered ∙ number) (subst (Spells line) (sym adds.asked) spelled);
      steps = each_legal_more first_state bench.state new.state s.given s.journal adds.given e s.steps step;
      on_air = all_append (λ (e : Entry). AreOnAir e.events) s.journal (e ∷ []) s.on_air (air, tt);
      commands = s.commands ++ c ∷ [];
      audited =
          audited_more done (numbers_of s.given) s.journal bench.state s.commands (leads_to done s.given s.journal bench.state s.numbered s.steps) s.audited line c spelled
          (subst (Accepts bench.state) adds.asked adds.legal.front.accepted) shows;
      good = s.good;
      next = s.next;
      begins = (
        s.begins.0 ++ entry_text false e,
        text_more s.journal e ∙ ap (λ x. x ++ entry_text false e) s.begins.1 ∙ append_assoc (first_lines s.good report) s.begins.0 (entry_text false e),
      );
      stops = s.stops;
    }

-- ... or asks for nothing
pub stray_skips : (lines done : List (List ℕ)) (line : List ℕ) (bench : Benched) (report : List ℕ) (fault : ℕ) → Strayed lines done bench report fault → Spells line Skip
    → Strayed lines (done ++ line ∷ []) bench report fault
stray_skips lines done line bench report fault s skipped = record {
  sound = s.sound;
  journal = s.journal;
  given = s.given;
  numbered = numbered_skip done line s.journal s.numbered skipped;
  steps = s.steps;
  on_air = s.on_air;
  commands = s.commands ++ Skip ∷ [];
  audited = audited_more done (numbers_of s.given) s.journal bench.state s.commands (leads_to done s.given s.journal bench.state s.numbered s.steps) s.audited line Skip skipped tt tt;
  good = s.good;
  next = s.next;
  begins = s.begins;
  stops = s.stops;
}

-- ... or isn't audited
pub stray_refuses : (lines done : List (List ℕ)) (line : List ℕ) (after : List (List ℕ)) (bench : Benched) (report : List ℕ) (fault : ℕ) → Strayed lines done bench report fault
    → (IsAudited bench.state line → ⊥) → IsUnauditedAt (done ++ line ∷ after) (length done + 1)
stray_refuses lines done line after bench report fault s none =
    unaudited done (numbers_of s.given) s.journal bench.state s.commands (leads_to done s.given s.journal bench.state s.numbered s.steps) s.audited line after none

-- Behind the last line of the script: the fault is the first line that no run can have; ...
pub stray_ends : (lines : List (List ℕ)) (bench : Benched) (report : List ℕ) (fault : ℕ) → Strayed lines lines bench report fault → IsFaultyAt lines report fault
stray_ends lines bench report fault s =
    faulty_at lines report s.good fault s.next s.stops (record {
      text = report_text false s.journal;
      good = record {
        journal = s.journal;
        legal = record { numbers = numbers_of s.given; last = bench.state; leads = leads_to lines s.given s.journal bench.state s.numbered s.steps };
        on_air = s.on_air;
        is = refl;
      };
      begins = s.begins;
    })

-- ... and where all was good so far and something of the report is left, that is its next line.
pub walk_surplus : (lines : List (List ℕ)) (bench : Benched) (report : List ℕ) (at : ℕ) (left : List ℕ) → Walked lines bench report at left → length lines < 2 ^ 32 → 0 < length left
    → IsFaultyAt lines report (at + 1)
walk_surplus lines bench report at left w few some =
    let ls : List (List ℕ) = report_lines bench.journal in
    let is : report ≡ joined ls ++ left = w.read ∙ ap (λ x. x ++ left) (report_joined bench.journal) in
    let next : at + 1 ≡ length ls + 1 = omega (arith, w.count) in
    let front : first_lines (length ls) report ≡ joined ls = ap (first_lines (length ls)) is ∙ first_joined ls left (report_clean bench.journal) in
    faulty_at lines report (length ls) (at + 1) next (stops_at lines report ls left (report_clean bench.journal) is (none_surplus lines bench report at left w few some)) (record {
      text = report_text false bench.journal;
      good = record {
        journal = bench.journal;
        legal = record { numbers = numbers_of w.given; last = bench.state; leads = walked_leads lines bench report at left w };
        on_air = w.on_air;
        is = refl;
      };
      begins = ([], report_joined bench.journal ∙ sym front ∙ sym (append-nil (first_lines (length ls) report)));
    })
