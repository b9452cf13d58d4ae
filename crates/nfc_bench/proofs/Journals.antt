-- A journal gains entries, and a report their text.
use Rattle.std.proofs.Common.{◌≡◌, ℕ, ◌+◌, List, [], ◌∷◌, ◌++◌, length, Bool, true, false, if◌then◌else◌, Option, refl, sym, ◌∙◌, ap, subst}
use Rattle.std.specs.Prelude.{map}
use Rattle.std.proofs.lemmas.List.{append-nil, map-append}
use Rattle.std.proofs.lemmas.Grind.{flat_map-append}
use Rattle.nfc_io.specs.Moves.{with_end}
use Rattle.nfc_io.proofs.Moves.{write_on, with_end-nil}
use Rattle.bench_script.specs.declared.command.Command.{Command}
use Rattle.bench_script.specs.declared.command.Command.TheVariants.{Skip}
use Rattle.bench_world.specs.declared.entry.Entry.{Entry}
use Rattle.bench_script.specs.Script.{words_of, is_skipped, SpelledBy, Spells}
use Rattle.bench_world.specs.Legal.{Given, Joins, first_state}
use Rattle.bench_world.specs.Journal.{NumberedLine, asking_lines, AreEntriesOf, Numbered, LeadsTo}
use Rattle.bench_world.specs.Obeying.{Benched, Adds}
use Rattle.bench_world.specs.Report.{entry_text, report_text}
use Rattle.nfc_bench.specs.Stops.{Follows}
use Rattle.bench_script.proofs.Spelling.{skipped_names_none}
use Rattle.trace_audit.proofs.Entries.{asking_more, each_more, entries_more}

pub numbered_more : (n : ℕ) (ls ks : List (List ℕ)) (es ds : List Entry) → Numbered n ls es → Numbered (n + length ls) ks ds → Numbered n (ls ++ ks) (es ++ ds)
numbered_more n ls ks es ds p q =
    let A : List NumberedLine → Type 0 = λ x. AreEntriesOf x (es ++ ds) in
    subst A (sym (asking_more n ls ks)) (entries_more (asking_lines n ls) (asking_lines (n + length ls) ks) es ds p q)

-- one more line is obeyed
pub legal_more : (ls : List (List ℕ)) (numbers : List Joins) (old new : Benched) (l : List ℕ) (n : ℕ) → LeadsTo ls numbers old.journal old.state → (more : Follows old new n l) → n ≡ 1 + length ls
    → LeadsTo (ls ++ l ∷ []) (numbers ++ map (λ (g : Given). g.joins) more.given) new.journal new.state
legal_more ls numbers old new l n legal more at =
    let joins : Given → Joins = λ g. g.joins in
    let P : List Entry → Type 0 = λ js. LeadsTo (ls ++ l ∷ []) (numbers ++ map joins more.given) js new.state in
    let N : ℕ → Type 0 = λ m. Numbered m (l ∷ []) more.entries in
    let it : P (old.journal ++ more.entries) = record {
      given = legal.given ++ more.given;
      joins = map-append joins legal.given more.given ∙ ap (λ ns. ns ++ map joins more.given) legal.joins;
      numbered = numbered_more 1 ls (l ∷ []) old.journal more.entries legal.numbered (subst N at more.numbered);
      steps = each_more first_state old.state new.state legal.given more.given old.journal more.entries legal.steps more.steps;
    } in
    subst P (sym more.added) it

-- the empty journal
pub legal_none : LeadsTo [] [] [] first_state
legal_none = record { given = []; joins = refl; numbered = tt; steps = refl }

-- a line that asks for nothing is obeyed by doing nothing
pub follows_skipped : (old new : Benched) (n : ℕ) (l : List ℕ) → is_skipped l ≡ true → old.spoiled ≡ false → new ≡ old → (follows : Follows old new n l) × (follows.entries ≡ [])
follows_skipped old new n l skipped sound same =
    let A : List NumberedLine → Type 0 = λ x. AreEntriesOf x [] in (
      record {
        entries = [];
        given = [];
        most = tt;
        added = ap (λ (b : Benched). b.journal) same ∙ sym (append-nil old.journal);
        numbered = subst A (sym (ap (λ v. if v then asking_lines (n + 1) [] else record { number = n; text = l } ∷ asking_lines (n + 1) []) skipped)) tt;
        steps = ap (λ (b : Benched). b.state) same;
        sound = ap (λ (b : Benched). b.spoiled) same ∙ sound;
        uncut = ap (λ (b : Benched). b.cut) same;
        runs = ap (λ (b : Benched). b.finished) same;
      },
      refl,
    )

-- any other by its entry
pub follows_entry : (old new : Benched) (n : ℕ) (l : List ℕ) (c : Command) → is_skipped l ≡ false → Spells l c → (adds : Adds old new n c)
    → (follows : Follows old new n l) × (follows.entries ≡ adds.entry ∷ [])
follows_entry old new n l c asks spelled adds =
    let S : Command → Type 0 = λ x. Spells l x in
    let A : List NumberedLine → Type 0 = λ x. AreEntriesOf x (adds.entry ∷ []) in (
      record {
        entries = adds.entry ∷ [];
        given = adds.given ∷ [];
        most = (adds.joined, tt);
        added = ap (λ (b : Benched). b.journal) adds.is;
        numbered = subst A (sym (ap (λ v. if v then asking_lines (n + 1) [] else record { number = n; text = l } ∷ asking_lines (n + 1) []) asks))
            (adds.numbered, subst S (sym adds.asked) spelled, tt);
        steps = (adds.state, adds.legal, ap (λ (b : Benched). b.state) adds.is);
        sound = ap (λ (b : Benched). b.spoiled) adds.is ∙ adds.sound;
        uncut = ap (λ (b : Benched). b.cut) adds.is;
        runs = ap (λ (b : Benched). b.finished) adds.is;
      },
      refl,
    )

not_skipped : (l : List ℕ) (c : Command) → SpelledBy (words_of l) c → (v : Bool) → is_skipped l ≡ v → is_skipped l ≡ false
not_skipped l c spelled true h = absurd (skipped_names_none l c h spelled)
not_skipped l c spelled false h = h

-- a line that spells something else isn't skipped
pub asks_something : (l : List ℕ) (c : Command) → Spells l c → (c ≡ Skip → ⊥) → is_skipped l ≡ false
asks_something l Skip spelled other = absurd (other refl)
asks_something l c spelled other = not_skipped l c spelled (is_skipped l) refl

pub report_more : (quiet : Bool) (js new es : List Entry) → new ≡ js ++ es → report_text quiet js ++ report_text quiet es ≡ report_text quiet new
report_more quiet js new es is = sym (flat_map-append (entry_text quiet) js es) ∙ ap (report_text quiet) (sym is)

-- a report and the text of some more entries
pub written_more : (quiet : Bool) (t t1 t2 : Option (List ℕ)) (js new es : List Entry) → t1 ≡ with_end t (report_text quiet js) → t2 ≡ with_end t1 (report_text quiet es) → new ≡ js ++ es
    → t2 ≡ with_end t (report_text quiet new)
written_more quiet t t1 t2 js new es first next is =
    write_on t t1 t2 (report_text quiet js) (report_text quiet es) first next ∙ ap (with_end t) (report_more quiet js new es is)

pub written_none : (quiet : Bool) (t : Option (List ℕ)) → t ≡ with_end t (report_text quiet [])
written_none quiet t = sym (with_end-nil t)

-- the report of one entry is its text
pub report_one : (quiet : Bool) (es : List Entry) (e : Entry) → es ≡ e ∷ [] → report_text quiet es ≡ entry_text quiet e
report_one quiet es e is = ap (report_text quiet) is ∙ append-nil (entry_text quiet e)
