-- Where an audit stands before the first fault of a report, and how one line more takes it on.
use Rattle.std.proofs.Common.{◌≡◌, ℕ, ◌+◌, ◌<◌, ◌^◌, List, [], ◌∷◌, ◌++◌, map, length, append_assoc, append-nil, false, refl, sym, ◌∙◌, ap, subst, arith}
use Rattle.std.proofs.lemmas.List.{length-append}
use Rattle.std.proofs.lemmas.Grind.{flat_map-append}
use Rattle.nfc_base.proofs.Leading.{all_append}
use Rattle.nfc_base.specs.declared.frame.Tech.TheVariants.{A}
use Rattle.nfc_base.specs.declared.event.Event.{Event}
use Rattle.bench_script.specs.declared.command.Command.{Command}
use Rattle.bench_script.specs.declared.command.Command.TheVariants.{Skip}
use Rattle.bench_script.specs.Script.{Spells}
use Rattle.bench_script.proofs.Spelling.{spells_one}
use Rattle.bench_world.specs.declared.entry.Entry.{Entry}
use Rattle.bench_world.specs.Alike.{Alike}
use Rattle.bench_world.specs.Following.{FollowsAll}
use Rattle.bench_world.specs.Journal.{AreEntriesOf, LeadsTo, NumberedLine, asking_lines}
use Rattle.bench_world.specs.Legal.{Accepts, EachLegal, Given, Joins, LegalStep, State, first_state}
use Rattle.bench_world.specs.Obeying.{Benched, new_bench}
use Rattle.bench_world.specs.Report.{answer_text, entry_text, events_text, line_text, report_text}
use Rattle.bench_world.specs.Showing.{IsBetweenCommands, MayShow}
use Rattle.trace_audit.specs.Auditing.{AreAudited, IsAudited, IsGoodText, IsOnAir, IsReportOf, IsUnauditedAt}
use Rattle.trace_audit.specs.ReadEvents.{AreRead}
use Rattle.trace_audit.specs.Reading.{AreOnAir, HaveTech}
use Rattle.trace_audit.proofs.Audited.{audited_more, none_audited, unaudited}
use Rattle.trace_audit.proofs.Entries.{EachShown, asking_first, asking_more, asks_something, numbered_more, numbered_skip, numbers_small, shown_legal, shown_more}
use Rattle.trace_audit.proofs.Laws.{alike_same, journals_tech}
use Rattle.trace_audit.proofs.ReportLines.{entry_count, entry_lines, report_lines}
use Rattle.trace_audit.proofs.TellsEntry.{entry_first}
use Rattle.trace_audit.proofs.TellsJournal.{HasTech, Rest, tells_journal}

-- So many lines of the report are the text of the bench's journal, which is legal for the lines of the script that are done; this is
-- left of the report.
pub record Walked (done : List (List ℕ)) (bench : Benched) (report : List ℕ) (at : ℕ) (left : List ℕ) : Type 0 where
  pub sound : bench.spoiled ≡ false
  pub given : List Given
  pub numbered : AreEntriesOf (asking_lines 1 done) bench.journal
  pub steps : EachShown first_state given bench.journal bench.state
  pub on_air : IsOnAir bench.journal
  pub commands : List Command
  pub audited : AreAudited done commands
  pub read : report ≡ report_text false bench.journal ++ left
  pub count : at ≡ length (report_lines bench.journal)

abbrev pub numbers_of : List Given → List Joins
numbers_of gs = map (λ (g : Given). g.joins) gs

pub leads_to : (done : List (List ℕ)) (gs : List Given) (js : List Entry) (t : State) → AreEntriesOf (asking_lines 1 done) js → EachLegal first_state gs js t → LeadsTo done (numbers_of gs) js t
leads_to done gs js t of steps = record { given = gs; joins = refl; numbered = of; steps = steps }

pub walked_leads : (done : List (List ℕ)) (bench : Benched) (report : List ℕ) (at : ℕ) (left : List ℕ) (w : Walked done bench report at left)
    → LeadsTo done (numbers_of w.given) bench.journal bench.state
walked_leads done bench report at left w = leads_to done w.given bench.journal bench.state w.numbered (shown_legal first_state bench.state w.given bench.journal w.steps)

-- before the first line
pub walk_begins : (report : List ℕ) → Walked [] new_bench report 0 report
walk_begins report = record { sound = refl; given = []; numbered = tt; steps = refl; on_air = tt; commands = []; audited = none_audited; read = refl; count = refl }

-- a line that asks for nothing
pub walk_skips : (done : List (List ℕ)) (bench : Benched) (report : List ℕ) (at : ℕ) (left : List ℕ) (line : List ℕ) → Walked done bench report at left → Spells line Skip
    → Walked (done ++ line ∷ []) bench report at left
walk_skips done bench report at left line w skipped = record {
  sound = w.sound;
  given = w.given;
  numbered = numbered_skip done line bench.journal w.numbered skipped;
  steps = w.steps;
  on_air = w.on_air;
  commands = w.commands ++ Skip ∷ [];
  audited =
      audited_more done (numbers_of w.given) bench.journal bench.state w.commands (walked_leads done bench report at left w) w.audited line Skip skipped tt tt;
  read = w.read;
  count = w.count;
}

-- A good text of the lines that begins with the text of the journal so far begins with its entries; what it has behind them is from a
-- state that is alike to the bench's.
module _ (done more : List (List ℕ)) (bench : Benched) (report : List ℕ) (at : ℕ) (left : List ℕ) (w : Walked done bench report at left) (few : length (done ++ more) < 2 ^ 32) where
  pub their_rest : (text zs : List ℕ) (good : IsGoodText (done ++ more) text) → text ≡ report_text false bench.journal ++ zs
      → Rest (asking_lines (1 + length done) more) bench.state good.legal.last bench.journal good.journal zs
  their_rest text zs good is =
      let leads : LeadsTo (done ++ more) good.legal.numbers good.journal good.legal.last = good.legal.leads in
      let of : AreEntriesOf (asking_lines 1 done ++ asking_lines (1 + length done) more) good.journal = subst (λ x. AreEntriesOf x good.journal) (asking_more 1 done more) leads.numbered in
      tells_journal (asking_lines 1 done) (asking_lines (1 + length done) more) first_state bench.state first_state good.legal.last w.given leads.given bench.journal good.journal zs
      (numbers_small (2 ^ 32) 1 done (omega (arith, few, length-append done more))) w.numbered of w.steps leads.steps (alike_same first_state first_state refl)
      w.on_air (journals_tech done (numbers_of w.given) bench.journal bench.state (walked_leads done bench report at left w))
      good.on_air (journals_tech (done ++ more) good.legal.numbers good.journal good.legal.last leads) (sym good.is ∙ is)

-- The entry of a line in another journal of the same lines, from a state that is alike to ours.
pub record TheirEntry (n : ℕ) (c : Command) (s : State) (text : List ℕ) : Type 0 where
  pub mid : State
  pub after : State
  pub given : Given
  pub entry : Entry
  pub alike : Alike s mid
  pub step : LegalStep mid given entry after
  pub numbered : entry.line ≡ n
  pub asked : entry.command ≡ c
  pub tech : HaveTech c A entry.events
  pub on_air : AreOnAir entry.events
  pub more : List ℕ
  pub is : text ≡ events_text n entry.events ++ (line_text n (answer_text entry.answer) ++ more)

entry_of : (n : ℕ) (c : Command) (line : List ℕ) (ls : List NumberedLine) (s t u : State) (js ks : List Entry) (zs : List ℕ) → Spells line c
    → Rest (record { number = n; text = line } ∷ ls) s u js ks zs
    → TheirEntry n c s zs
entry_of n c line ls s t u js ks zs spelled r = first_of r.given r.entries r.numbered r.steps r.on_air r.tech r.text
  where
    first_of : (gs : List Given) (es : List Entry) → AreEntriesOf (record { number = n; text = line } ∷ ls) es → EachLegal r.mid gs es u → IsOnAir es → HasTech es → report_text false es ≡ zs
        → TheirEntry n c s zs
    first_of gs [] of steps air tech text = absurd of
    first_of [] (e ∷ es) of steps air tech text = absurd steps
    first_of (g ∷ gs) (e ∷ es) of steps air tech text =
        let asked : e.command ≡ c = spells_one line e.command c of.1 spelled in
        record {
          mid = r.mid;
          after = steps.0;
          given = g;
          entry = e;
          alike = r.alike;
          step = steps.1;
          numbered = of.0;
          asked = asked;
          tech = subst (λ x. HaveTech x A e.events) asked tech.0;
          on_air = air.0;
          more = report_text false es;
          is = sym text ∙ entry_first n e (report_text false es) of.0;
        }

pub their_entry : (done : List (List ℕ)) (line : List ℕ) (after : List (List ℕ)) (bench : Benched) (report : List ℕ) (at : ℕ) (left : List ℕ) (n : ℕ) (c : Command) → n ≡ length done + 1
    → Walked done bench report at left → length (done ++ line ∷ after) < 2 ^ 32 → Spells line c → (c ≡ Skip → ⊥)
    → (text zs : List ℕ) → IsGoodText (done ++ line ∷ after) text → text ≡ report_text false bench.journal ++ zs → TheirEntry n c bench.state zs
their_entry done line after bench report at left n c number w few spelled other text zs good is =
    let m : ℕ = 1 + length done in
    let r : Rest (asking_lines m (line ∷ after)) bench.state good.legal.last bench.journal good.journal zs = their_rest done (line ∷ after) bench report at left w few text zs good is in
    let R : List NumberedLine → Type 0 = λ x. Rest x bench.state good.legal.last bench.journal good.journal zs in
    let same : m ≡ n = omega (arith, number) in
    subst (λ k. TheirEntry k c bench.state zs) same
    (entry_of m c line (asking_lines (m + 1) after) bench.state bench.state good.legal.last bench.journal good.journal zs spelled
    (subst R (asking_first m line after (asks_something line c spelled other)) r))

-- The number of a line is small.
pub number_small : (done : List (List ℕ)) (line : List ℕ) (after : List (List ℕ)) (n : ℕ) → n ≡ length done + 1 → length (done ++ line ∷ after) < 2 ^ 32 → n < 2 ^ 32
number_small done line after n number few = omega (arith, number, few, length-append done (line ∷ after))

-- texts and counts of a journal with an entry more
pub text_more : (js : List Entry) (e : Entry) → report_text false (js ++ e ∷ []) ≡ report_text false js ++ entry_text false e
text_more js e = flat_map-append (entry_text false) js (e ∷ []) ∙ ap (λ x. report_text false js ++ x) (append-nil (entry_text false e))

lines_more : (js : List Entry) (e : Entry) → length (report_lines (js ++ e ∷ [])) ≡ length (report_lines js) + (length e.events + 1)
lines_more js e =
    ap length (flat_map-append entry_lines js (e ∷ []) ∙ ap (λ x. report_lines js ++ x) (append-nil (entry_lines e)))
    ∙ length-append (report_lines js) (entry_lines e) ∙ ap (λ k. length (report_lines js) + k) (entry_count e)

-- A line whose entry is followed whole, and whose answer's line comes next in the report.
module _ (done : List (List ℕ)) (line : List ℕ) (bench new : Benched) (report : List ℕ) (at : ℕ) (left : List ℕ) (n : ℕ) (c : Command) (events : List Event) (behind : List ℕ)
    (number : n ≡ length done + 1) (w : Walked done bench report at left) (between : IsBetweenCommands bench.state) (spelled : Spells line c) (other : c ≡ Skip → ⊥)
    (reads : AreRead n c left events behind) (follows : FollowsAll bench new n c events) where
  with_entry : Benched
  with_entry = record { finished = bench.finished; journal = bench.journal ++ follows.entry ∷ []; state = follows.state; cut = bench.cut; spoiled = bench.spoiled }

  text_here : (rest : List ℕ) → behind ≡ line_text n (answer_text follows.entry.answer) ++ rest → report ≡ report_text false (bench.journal ++ follows.entry ∷ []) ++ rest
  text_here rest is =
      let e : Entry = follows.entry in
      let parts : left ≡ entry_text false e ++ rest =
      reads.split ∙ ap (λ x. events_text n events ++ x) is ∙ ap (λ es. events_text n es ++ (line_text n (answer_text e.answer) ++ rest)) (sym follows.happened)
      ∙ sym (entry_first n e rest follows.numbered) in
      w.read ∙ ap (λ x. report_text false bench.journal ++ x) parts ∙ sym (append_assoc (report_text false bench.journal) (entry_text false e) rest)
      ∙ ap (λ x. x ++ rest) (sym (text_more bench.journal e))

  accepted : Accepts bench.state c
  accepted = subst (Accepts bench.state) follows.asked follows.legal.front.accepted

  walked_here : (rest : List ℕ) → behind ≡ line_text n (answer_text follows.entry.answer) ++ rest → Walked (done ++ line ∷ []) with_entry report (at + (length events + 1)) rest
  unfolding with_entry
  walked_here rest is = record {
    sound = w.sound;
    given = w.given ++ follows.given ∷ [];
    numbered = numbered_more done line bench.journal follows.entry w.numbered (asks_something line c spelled other) (follows.numbered ∙ number) (subst (Spells line) (sym follows.asked) spelled);
    steps =
        shown_more first_state bench.state follows.state w.given bench.journal follows.given follows.entry w.steps between (subst (MayShow bench.state) (sym follows.asked) follows.shows)
        follows.legal;
    on_air = all_append (λ (e : Entry). AreOnAir e.events) bench.journal (follows.entry ∷ []) w.on_air (subst AreOnAir (sym follows.happened) reads.on_air, tt);
    commands = w.commands ++ c ∷ [];
    audited =
        audited_more done (numbers_of w.given) bench.journal bench.state w.commands (walked_leads done bench report at left w) w.audited line c spelled accepted follows.shows;
    read = text_here rest is;
    count =
        ap (λ k. k + (length events + 1)) w.count ∙ ap (λ es. length (report_lines bench.journal) + (length es + 1)) (sym follows.happened) ∙ sym (lines_more bench.journal follows.entry);
  }

  pub walk_goes_on : (rest : List ℕ) → behind ≡ line_text n (answer_text follows.entry.answer) ++ rest → Walked (done ++ line ∷ []) new report (at + (length events + 1)) rest
  unfolding with_entry
  walk_goes_on rest is = subst (λ b. Walked (done ++ line ∷ []) b report (at + (length events + 1)) rest) (sym follows.is) (walked_here rest is)

-- A line that isn't audited.
pub walk_refuses : (done : List (List ℕ)) (line : List ℕ) (after : List (List ℕ)) (bench : Benched) (report : List ℕ) (at : ℕ) (left : List ℕ) → Walked done bench report at left
    → (IsAudited bench.state line → ⊥) → IsUnauditedAt (done ++ line ∷ after) (length done + 1)
walk_refuses done line after bench report at left w none =
    unaudited done (numbers_of w.given) bench.journal bench.state w.commands (walked_leads done bench report at left w) w.audited line after none

-- Behind the last line: the report is over too, ...
pub walk_ends : (lines : List (List ℕ)) (bench : Benched) (report : List ℕ) (at : ℕ) → Walked lines bench report at [] → IsReportOf lines report bench
walk_ends lines bench report at w = record {
  sound = w.sound;
  numbers = numbers_of w.given;
  leads = walked_leads lines bench report at [] w;
  on_air = w.on_air;
  is = w.read ∙ append-nil (report_text false bench.journal);
}
