-- A script is read, and its lines are obeyed one by one.
use Rattle.std.proofs.Common.{◌≡◌, ℕ, ◌+◌, ◌<◌, ◌≤◌, List, [], ◌∷◌, ◌++◌, length, Bool, true, false, Option, Ok, refl, sym, ◌∙◌, ap, subst, append_assoc, arith, inl, inr}
use Rattle.std.specs.Prelude.{map, Err, IfSome}
use Rattle.std.specs.List.{AllByRecursion}
use Rattle.std.proofs.lemmas.Bool.{cases_Bool}
use Rattle.std.proofs.lemmas.List.{append-nil, length-append}
use Rattle.nfc_base.proofs.Leading.{all_append}
use Rattle.nfc_io.specs.Moves.{with_front, with_end}
use Rattle.nfc_io.proofs.Moves.{with_front-nil, read_on}
use Rattle.nfc_io.specs.Lines.{lines_of, whole_lines}
use Rattle.nfc_io.specs.Reading.{Lined, new_lined, Fetches, Advances, GivesLine}
use Rattle.nfc_io.proofs.InOrder.{ended_behind}
use Rattle.nfc_io.proofs.Lines.{lines_front, whole_front, lines_last}
use Rattle.bench_world.specs.declared.entry.Entry.{Entry}
use Rattle.bench_world.specs.Journal.{LeadsTo}
use Rattle.bench_script.specs.declared.command.Command.{Command}
use Rattle.bench_script.specs.Script.{Spells}
use Rattle.bench_world.specs.Legal.{State, Joins, Given, no_joins}
use Rattle.bench_world.specs.Halting.{CutOff}
use Rattle.bench_world.specs.Unfinished.{Unfinished}
use Rattle.bench_world.specs.Obeying.{Benched, Spoils, begun_anew, new_bench}
use Rattle.bench_world.specs.Report.{report_text}
use Rattle.bench_world.proofs.link_law.LinksAccepted.{link_law}
use Rattle.bench_world.proofs.lines.OneJournal.{one_legal}
use Rattle.bench_script.specs.Limits.{most_lines, longest_line, AreWithinLimits}
use Rattle.nfc_bench.specs.Run.{AreObeyed, IsCutAt, IsRunOf, ReadsInTime, StopsAt}
use Rattle.nfc_bench.specs.declared.top.lines.Stop.{Stop}
use Rattle.nfc_bench.specs.declared.top.lines.Stop.TheVariants.{Refused, ReadFault, WriteFault, Memory}
use Rattle.nfc_bench.specs.Stops.{Follows, IsSoundUnless, LineDone, LineStops, Lost, ObeyedBy}
use Rattle.nfc_bench.proofs.Limits.{limits_more, limits_begun, no_limits}
use Rattle.nfc_bench.proofs.ScriptText.{stops_at_once}
use Rattle.nfc_bench.proofs.Journals.{legal_more, legal_none, written_more, written_none}

-- as many PDUs as fit, for each of these entries
abbrev AreMost : List Joins → Type 0
AreMost numbers = AllByRecursion (λ j. j ≡ no_joins) numbers

most_given : (gs : List Given) → AllByRecursion (λ (g : Given). g.joins ≡ no_joins) gs → AreMost (map (λ (g : Given). g.joins) gs)
most_given [] h = tt
most_given (g ∷ gs) h = (h.0, most_given gs h.1)

-- a legal journal of some lines is the only one of them
abbrev is_run : (lines : List (List ℕ)) (numbers : List Joins) (journal : List Entry) (last : State) → LeadsTo lines numbers journal last → AreMost numbers → IsRunOf lines journal
is_run lines numbers journal last leads most = record {
  legal = record { numbers = numbers; last = last; leads = leads };
  most = most;
  only = λ other t is. sym (one_legal lines numbers journal other last t leads is);
  links = link_law lines numbers journal last leads;
}

-- where lines lead a bench to its state, it obeyed them
obeyed_by : (lines : List (List ℕ)) (numbers : List Joins) (b : Benched) → LeadsTo lines numbers b.journal b.state → AreMost numbers → b.spoiled ≡ false → b.cut ≡ [] → ObeyedBy lines b
obeyed_by lines numbers b leads most sound uncut = record {
  obeyed = record { run = is_run lines numbers b.journal b.state leads most; machines = λ sound. refl };
  sound = sound;
  uncut = uncut;
}

-- a bench that begins anew obeyed none
pub obeyed_new : (runs : List (List Entry)) → ObeyedBy [] (begun_anew runs)
obeyed_new runs = obeyed_by [] [] (begun_anew runs) legal_none tt refl refl

-- and the other way
pub leads_to : (lines : List (List ℕ)) (b : Benched) (o : ObeyedBy lines b) → LeadsTo lines o.obeyed.run.legal.numbers b.journal b.state
leads_to lines b o = subst (LeadsTo lines o.obeyed.run.legal.numbers b.journal) (o.obeyed.machines o.sound) o.obeyed.run.legal.leads

-- a bench that wants memory behind some lines obeyed them
pub record LostBehind (lines : List (List ℕ)) (old new : Benched) : Type 0 where
  pub obeyed : AreObeyed lines new
  pub last : obeyed.run.legal.last ≡ old.state

pub obeyed_lost : (lines : List (List ℕ)) (old new : Benched) (l : List ℕ) → ObeyedBy lines old → Lost old new l → LostBehind lines old new
obeyed_lost lines old new l o lost =
    let P : List Entry → Type 0 = λ js. (run : IsRunOf lines js) × (run.legal.last ≡ old.state) in
    let it : P new.journal = subst P (sym lost.journal) (o.obeyed.run, o.obeyed.machines o.sound) in
    record { obeyed = record { run = it.0; machines = λ sound. it.1 ∙ ap (λ (b : Benched). b.state) (sym (lost.machines sound)) }; last = it.1 }

-- Where the bench stands then, before the line that memory was wanting for.
cut_at : (old new : Benched) (l : List ℕ) (after : List (List ℕ)) (last : State) (c : Command) → last ≡ old.state → Spells l c → Spoils old new c → IsCutAt (l ∷ after) last new
cut_at old new l after last c same spelled s =
    let front : CutOff no_joins old.state c new.cut new.state = subst (λ (b : Benched). CutOff no_joins old.state c b.cut b.state) (sym s.is) s.front in
    let stores : Unfinished old.state c new.cut new.state = subst (λ (b : Benched). Unfinished old.state c b.cut b.state) (sym s.is) s.stores in
    record {
      line = l;
      after = after;
      parts = refl;
      command = c;
      spelled = spelled;
      front = subst (λ x. CutOff no_joins x c new.cut new.state) (sym same) front;
      stores = subst (λ x. Unfinished x c new.cut new.state) (sym same) stores;
    }

pub stops_lost : (lines : List (List ℕ)) (old new : Benched) (l : List ℕ) (after : List (List ℕ)) (last : State) → ObeyedBy lines old → Lost old new l → last ≡ old.state → StopsAt (l ∷ after) last new
stops_lost lines old new l after last o lost same = record {
  sound = λ sound. ap (λ (b : Benched). b.cut) (lost.machines sound) ∙ o.uncut;
  spoiled = λ is. let (c, spelled, spoils) = lost.spoiled o.sound is in cut_at old new l after last c same spelled spoils;
}

-- nothing is cut off of a bench that obeyed lines
pub stops_none : (lines rest : List (List ℕ)) (b : Benched) (last : State) → ObeyedBy lines b → StopsAt rest last b
stops_none lines rest b last o = record { sound = λ _. o.uncut; spoiled = λ is. absurd (let clash : false ≡ true = sym o.sound ∙ is in cc) }

-- one more line is obeyed
pub obeyed_more : (ls : List (List ℕ)) (old new : Benched) (l : List ℕ) (n : ℕ) → ObeyedBy ls old → Follows old new n l → n ≡ 1 + length ls → ObeyedBy (ls ++ l ∷ []) new
obeyed_more ls old new l n obeyed follows at =
    obeyed_by (ls ++ l ∷ []) (obeyed.obeyed.run.legal.numbers ++ map (λ (g : Given). g.joins) follows.given) new
    (legal_more ls obeyed.obeyed.run.legal.numbers old new l n (leads_to ls old obeyed) follows at)
    (all_append (λ j. j ≡ no_joins) obeyed.obeyed.run.legal.numbers (map (λ (g : Given). g.joins) follows.given) obeyed.obeyed.run.most (most_given follows.given follows.most)) follows.sound
    (follows.uncut ∙ obeyed.uncut)

-- The lines that a reader gave. What was read is these lines and what the reader holds, and whatever follows belongs to what it
-- holds; at the source's end nothing follows.
pub record HasRead (left left' : Option (List ℕ)) (reader : Lined) (done : List (List ℕ)) : Type 0 where
  pub text : List ℕ
  pub read : left ≡ with_front text left'
  pub lines : (more : List ℕ) → (reader.is_ended ≡ true → more ≡ []) → lines_of (text ++ more) ≡ done ++ lines_of (reader.held ++ more)
  pub whole : (more : List ℕ) → reader.is_ended ≡ false → whole_lines (text ++ more) ≡ done ++ whole_lines (reader.held ++ more)
  pub ended : reader.is_ended ≡ true → IfSome left' (λ rest. rest ≡ [])
  pub limits : AreWithinLimits done
  pub time : ReadsInTime left left'

-- They are obeyed, and their entries written; the next line has this number.
pub record Progress (quiet : Bool) (left left' : Option (List ℕ)) (reader : Lined) (bench : Benched) (n : ℕ) (taken taken' : Option (List ℕ)) : Type 0 where
  pub done : List (List ℕ)
  pub reads : HasRead left left' reader done
  pub obeyed : ObeyedBy done bench
  pub number : n ≡ 1 + length done
  pub written : taken' ≡ with_end taken (report_text quiet bench.journal)

-- before the first line
pub read_start : (left : Option (List ℕ)) → HasRead left left new_lined []
read_start left = record {
  text = [];
  read = sym (with_front-nil left);
  lines = λ more follows. refl;
  whole = λ more going. refl;
  ended = λ over. absurd cc;
  limits = no_limits;
  time = stops_at_once left;
}

pub progress_start : (quiet : Bool) (left t : Option (List ℕ)) (a : Lined) (b : Benched) → a ≡ new_lined → b ≡ new_bench → Progress quiet left left a b 1 t t
progress_start quiet left t a b new none =
    let P : Lined → Benched → Type 0 = λ r x. Progress quiet left left r x 1 t t in
    let it : P new_lined new_bench = record {
      done = [];
      reads = read_start left;
      obeyed = obeyed_new [];
      number = refl;
      written = written_none quiet t;
    } in
    subst (λ r. P r b) (sym new) (subst (P new_lined) (sym none) it)

-- More was read behind what the reader holds, unless it knows that the source is at its end.
pub record Goes (a : Lined) (got : List ℕ) (mid left' : Option (List ℕ)) : Type 0 where
  pub read : mid ≡ with_front got left'
  pub nothing : a.is_ended ≡ true → got ≡ []

pub goes : (a : Lined) (text : List ℕ) (mid left' : Option (List ℕ)) (f : Fetches a.is_ended a.held text mid left') → Goes a f.got mid left'
goes a text mid left' f = record {
  read = f.read;
  nothing = λ over. elim f.wanted [ inl is ↦ is | inr some ↦ absurd (let no : true ≡ false = sym over ∙ some.0 in absurd cc) ];
}

-- the lines of what was read then, and of what follows
pub lines_on : (left mid left' : Option (List ℕ)) (a : Lined) (done : List (List ℕ)) (got : List ℕ)
    → (p : HasRead left mid a done) → Goes a got mid left' → (more : List ℕ) → (a.is_ended ≡ true → more ≡ [])
    → lines_of ((p.text ++ got) ++ more) ≡ done ++ lines_of ((a.held ++ got) ++ more)
lines_on left mid left' a done got p on more follows =
    ap lines_of (append_assoc p.text got more)
    ∙ p.lines (got ++ more) (λ over. ap (λ x. x ++ more) (on.nothing over) ∙ follows over)
    ∙ ap (λ x. done ++ lines_of x) (sym (append_assoc a.held got more))

pub whole_on : (left mid : Option (List ℕ)) (a : Lined) (done : List (List ℕ)) (got : List ℕ)
    → (p : HasRead left mid a done) → (more : List ℕ) → a.is_ended ≡ false
    → whole_lines ((p.text ++ got) ++ more) ≡ done ++ whole_lines ((a.held ++ got) ++ more)
whole_on left mid a done got p more going =
    ap whole_lines (append_assoc p.text got more)
    ∙ p.whole (got ++ more) going
    ∙ ap (λ x. done ++ whole_lines x) (sym (append_assoc a.held got more))

-- where the reader knows that the source is at its end, it still is
pub ended_on : (a : Lined) (got : List ℕ) (mid left' : Option (List ℕ)) → Goes a got mid left' → (a.is_ended ≡ true → IfSome mid (λ rest. rest ≡ []))
    → a.is_ended ≡ true → IfSome left' (λ rest. rest ≡ [])
ended_on a got mid left' on ended over =
    let same : mid ≡ left' = on.read ∙ ap (λ g. with_front g left') (on.nothing over) ∙ with_front-nil left' in
    subst (λ o. IfSome o (λ rest. rest ≡ [])) same (ended over)

-- What was read in vain isn't more than one call gives.
pub in_time : (left mid left' : Option (List ℕ)) (a : Lined) (done : List (List ℕ)) (text : List ℕ)
    → HasRead left mid a done → length done < most_lines → Fetches a.is_ended a.held text mid left' → ReadsInTime left left'
in_time left mid left' a done text p few f =
    elim f.wanted [
      | inl none ↦ (
          let same : mid ≡ left' = f.read ∙ ap (λ g. with_front g left') none ∙ with_front-nil left' in
          subst (λ o. ReadsInTime left o) same p.time)
      | inr (going, w) ↦ (
          let W : List (List ℕ) → Type 0 = λ ls. AreWithinLimits ls in
          let lines : lines_of (p.text ++ w.front) ≡ done ++ lines_of (a.held ++ w.front) = p.lines w.front (λ over. let no : true ≡ false = sym over ∙ going in absurd cc) in
          record {
            front = p.text ++ w.front;
            chunk = w.chunk;
            read = read_on left mid left' p.text f.got p.read f.read ∙ ap (λ x. with_front x left') (ap (λ x. p.text ++ x) w.parts ∙ sym (append_assoc p.text w.front w.chunk));
            short = subst W (sym lines) (limits_begun done (a.held ++ w.front) p.limits few w.none w.short);
            size = w.size;
          })
    ]

-- A reader gave one line more, which is not obeyed yet.
pub record GaveNext (left left' : Option (List ℕ)) (done : List (List ℕ)) (m : Lined) : Type 0 where
  pub text : List ℕ
  pub read : left ≡ with_front text left'
  pub lines : (more : List ℕ) → (m.is_ended ≡ true → more ≡ []) → lines_of (text ++ more) ≡ done ++ m.line ∷ lines_of (m.held ++ more)
  pub whole : (more : List ℕ) → m.is_ended ≡ false → whole_lines (text ++ more) ≡ done ++ m.line ∷ whole_lines (m.held ++ more)
  pub ended : m.is_ended ≡ true → IfSome left' (λ rest. rest ≡ [])
  pub short : length m.line ≤ longest_line
  pub time : ReadsInTime left left'

-- the first line of a text that goes on behind it
next_lines : (text more : List ℕ) (m : Lined) → GivesLine text m → (m.is_ended ≡ true → more ≡ []) → lines_of (text ++ more) ≡ m.line ∷ lines_of (m.held ++ more)
next_lines text more m given follows = elim given.parts [
  | inl lf ↦ ap (λ x. lines_of (x ++ more)) lf ∙ ap lines_of (append_assoc m.line (10 ∷ m.held) more) ∙ lines_front m.line (m.held ++ more) given.clean
  | inr (all, none, some, over) ↦ (
      let nothing : more ≡ [] = follows over in
      let rest : lines_of (m.held ++ more) ≡ [] = ap (λ x. lines_of (x ++ more)) none ∙ ap lines_of nothing in
      ap (λ x. lines_of (x ++ more)) all ∙ ap (λ x. lines_of (m.line ++ x)) nothing ∙ ap lines_of (append-nil m.line) ∙ lines_last m.line given.clean some ∙ ap (λ x. m.line ∷ x) (sym rest))
]

next_whole : (text more : List ℕ) (m : Lined) → GivesLine text m → m.is_ended ≡ false → whole_lines (text ++ more) ≡ m.line ∷ whole_lines (m.held ++ more)
next_whole text more m given going = elim given.parts [
  | inl lf ↦ ap (λ x. whole_lines (x ++ more)) lf ∙ ap whole_lines (append_assoc m.line (10 ∷ m.held) more) ∙ whole_front m.line (m.held ++ more) given.clean
  | inr last ↦ (let no : true ≡ false = sym last.3 ∙ going in absurd cc)
]

-- where a reader isn't at the end, it wasn't before
going_before : (a m : Lined) → (a.is_ended ≡ true → m.is_ended ≡ true) → m.is_ended ≡ false → a.is_ended ≡ false
going_before a m stays going = elim (cases_Bool a.is_ended) [
  | inl over ↦ (let no : true ≡ false = sym (stays over) ∙ going in absurd cc)
  | inr is ↦ is
]

pub gave_next : (left mid left' : Option (List ℕ)) (a m : Lined) (done : List (List ℕ)) → HasRead left mid a done → length done < most_lines → Advances a m mid left' (Ok true)
    → GaveNext left left' done m
gave_next left mid left' a m done p few adv =
    let given : GivesLine adv.text m = adv.came in
    let got : List ℕ = adv.fetched.got in
    let on : Goes a got mid left' = goes a adv.text mid left' adv.fetched in
    record {
      text = p.text ++ got;
      read = read_on left mid left' p.text got p.read on.read;
      lines = λ more follows.
          lines_on left mid left' a done got p on more (λ over. follows (adv.stays over))
          ∙ ap (λ x. done ++ lines_of (x ++ more)) (sym adv.fetched.parts)
          ∙ ap (λ x. done ++ x) (next_lines adv.text more m given follows);
      whole = λ more going.
          whole_on left mid a done got p more (going_before a m adv.stays going)
          ∙ ap (λ x. done ++ whole_lines (x ++ more)) (sym adv.fetched.parts)
          ∙ ap (λ x. done ++ x) (next_whole adv.text more m given going);
      ended = ended_behind a m mid left' adv p.ended;
      short = given.short;
      time = in_time left mid left' a done adv.text p few adv.fetched;
    }

-- it is one of the lines that were given
pub read_more : (left left' : Option (List ℕ)) (m : Lined) (done : List (List ℕ)) → AreWithinLimits done → GaveNext left left' done m → length done < most_lines
    → HasRead left left' m (done ++ m.line ∷ [])
read_more left left' m done limits next few = record {
  text = next.text;
  read = next.read;
  lines = λ more follows. next.lines more follows ∙ sym (append_assoc done (m.line ∷ []) (lines_of (m.held ++ more)));
  whole = λ more going. next.whole more going ∙ sym (append_assoc done (m.line ∷ []) (whole_lines (m.held ++ more)));
  ended = next.ended;
  limits = limits_more done m.line limits few next.short;
  time = next.time;
}

-- it is obeyed
pub progress_more : (quiet : Bool) (left left' : Option (List ℕ)) (m : Lined) (done : List (List ℕ)) (j new : Benched) (n : ℕ) (t t1 t2 : Option (List ℕ))
    → ObeyedBy done j → AreWithinLimits done → n ≡ 1 + length done → t1 ≡ with_end t (report_text quiet j.journal) → GaveNext left left' done m → n ≤ most_lines → LineDone quiet j new n m.line t1 t2
    → Progress quiet left left' m new (n + 1) t t2
progress_more quiet left left' m done j new n t t1 t2 obeyed limits number written next few line = record {
  done = done ++ m.line ∷ [];
  reads = read_more left left' m done limits next (omega (arith, number, few));
  obeyed = obeyed_more done j new m.line n obeyed line.follows number;
  number = omega (arith, number, length-append done (m.line ∷ []));
  written = written_more quiet t t1 t2 j.journal new.journal line.follows.entries written line.written line.follows.added;
}

-- A line was tried: unless memory was wanting, the bench isn't spoiled.
pub line_sound : (quiet : Bool) (old new : Benched) (n : ℕ) (l : List ℕ) (t t' : Option (List ℕ)) (w w' : ℕ) (s : Stop)
    → old.spoiled ≡ false → LineStops quiet old new n l t t' w w' s → IsSoundUnless (Err s) new
line_sound quiet old new n l t t' w w' (Refused m) sound s fed = ap (λ (b : Benched). b.spoiled) s.stays ∙ sound
line_sound quiet old new n l t t' w w' ReadFault sound s fed = absurd s
line_sound quiet old new n l t t' w w' WriteFault sound s fed = s.follows.sound
line_sound quiet old new n l t t' w w' Memory sound s fed = absurd (fed refl)

-- The finished runs stay.
pub line_runs : (quiet : Bool) (old new : Benched) (n : ℕ) (l : List ℕ) (t t' : Option (List ℕ)) (w w' : ℕ) (s : Stop)
    → LineStops quiet old new n l t t' w w' s → new.finished ≡ old.finished
line_runs quiet old new n l t t' w w' (Refused m) s = ap (λ (b : Benched). b.finished) s.stays
line_runs quiet old new n l t t' w w' ReadFault s = absurd s
line_runs quiet old new n l t t' w w' WriteFault s = s.follows.runs
line_runs quiet old new n l t t' w w' Memory s = s.lost.runs
