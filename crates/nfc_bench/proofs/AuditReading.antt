-- Reading an input to be audited.
use Rattle.std.proofs.Common.{◌≡◌, ◌≢◌, ℕ, suc, zero, ◌+◌, ◌<◌, ◌≤◌, List, [], ◌∷◌, ◌++◌, length, take, drop, Bool, true, false, Option, Some, None, Result, Ok, Err, refl, sym, ◌∙◌, ap, subst}
use Rattle.std.proofs.Common.{append_assoc, arith, inl, inr}
use Rattle.std.specs.Prelude.{IfSome}
use Rattle.std.specs.List.{All, AllByRecursion}
use Rattle.std.proofs.lemmas.Bool.{cases_Bool}
use Rattle.std.proofs.lemmas.List.{append-nil, length-append, length-take-le, take-append-drop, take-append-le}
use Rattle.std.proofs.lemmas.List.Elements.{All-append}
use Rattle.nfc_io.specs.Moves.{with_front}
use Rattle.nfc_io.specs.Lines.{lines_of, joined, NoLf}
use Rattle.nfc_io.specs.Reading.{Lined, new_lined, Advances, GivesLine, GaveLines, HasGiven, AreSpelled}
use Rattle.nfc_io.specs.Behind.{HasGivenAll, bytes_of}
use Rattle.nfc_io.specs.declared.line_reader.LineStop.{LineStop}
use Rattle.nfc_io.specs.declared.line_reader.LineStop.TheVariants as stops
use Rattle.nfc_io.specs.declared.rest.Rest.TheVariants.{Whole}
use Rattle.nfc_io.proofs.Moves.{with_front-nil, read_on}
use Rattle.nfc_io.proofs.Lines.{GoesOn, lines_front, lines_joined, lines_last, lines_longer, joined_more, clean_more}
use Rattle.nfc_io.proofs.InOrder.{in_order}
use Rattle.nfc_io.proofs.Behind.{gives_all}
use Rattle.bench_script.specs.Limits.{most_lines, longest_line}
use Rattle.nfc_bench.specs.AuditInput.{mark, most_report, HaveNoMark, HasReport, ends_in}
use Rattle.nfc_bench.specs.private.AuditReading.{AreLines, GoesTo, HasGathered, ComesToMark, ComesToNone, HandsReport, ReadsInput}
use Rattle.nfc_bench.specs.declared.top.audit_input.Behind.{Behind}
use Rattle.nfc_bench.specs.declared.top.audit_input.Behind.TheVariants.{Report, NoReport}
use Rattle.nfc_bench.specs.declared.top.audit_input.Next.TheVariants.{Nothing}
use Rattle.nfc_bench.proofs.Limits.{limits_more}
use Rattle.nfc_bench.proofs.Reading.{GoesOnBy, goes_on_by, told_all}

-- one line more was given
pub gave_more : (ls : List (List ℕ)) (a m b : Lined) (left mid left' : Option (List ℕ)) → GaveLines ls a left m mid → Advances m b mid left' (Ok true) → GaveLines (ls ++ b.line ∷ []) a left b left'
gave_more [] a m b left mid left' (is, same) adv =
    (b, left', subst (λ x. Advances x b left left' (Ok true)) is (subst (λ o. Advances m b o left' (Ok true)) same adv), refl, (refl, refl))
gave_more (l ∷ ls) a m b left mid left' (x, y, first, same, rest) adv = (x, y, first, same, gave_more ls x m b y mid left' rest adv)

-- one line more of a script
pub no_mark_more : (lines : List (List ℕ)) (l : List ℕ) → HaveNoMark lines → l ≢ mark → HaveNoMark (lines ++ l ∷ [])
no_mark_more lines l none other = All-append (λ x. x ≢ mark) lines (l ∷ []) none one
  where
    one : All (λ x. x ≢ mark) (l ∷ [])
    one zero d small = other
    one (suc k) d small = absurd (omega arith)

pub lines_more : (lines : List (List ℕ)) (l script : List ℕ) (count : ℕ) → AreLines lines script count → count < most_lines → l ≢ mark → NoLf l → length l ≤ longest_line
    → AreLines (lines ++ l ∷ []) (script ++ (l ++ 10 ∷ [])) (count + 1)
lines_more lines l script count are room other clean short = record {
  bytes = ap (λ x. x ++ (l ++ 10 ∷ [])) are.bytes ∙ sym (joined_more lines l);
  number = omega (arith, are.number, length-append lines (l ∷ []));
  clean = clean_more lines l are.clean clean;
  limits = limits_more lines l are.limits (omega (arith, are.number, room)) short;
  none = no_mark_more lines l are.none other;
}

-- a reader went on to a line of a script
pub gathered_more : (left mid left' : Option (List ℕ)) (a b : Lined) (script : List ℕ) (count : ℕ) → HasGathered left mid a script count → count < most_lines
    → Advances a b mid left' (Ok true) → b.line ≢ mark → HasGathered left left' b (script ++ (b.line ++ 10 ∷ [])) (count + 1)
gathered_more left mid left' a b script count has room adv other =
    let given : GivesLine adv.text b = adv.came in
    record {
      lines = has.lines ++ b.line ∷ [];
      are = lines_more has.lines b.line script count has.are room other given.clean given.short;
      gave = gave_more has.lines new_lined a b left mid left' has.gave adv;
      going = given.going;
    }

-- to the one that ends it
pub comes_to_mark : (left mid left' : Option (List ℕ)) (a b : Lined) (script : List ℕ) (count : ℕ) → HasGathered left mid a script count
    → Advances a b mid left' (Ok true) → b.line ≡ mark → ComesToMark left left' b script count
comes_to_mark left mid left' a b script count has adv is =
    let given : GivesLine adv.text b = adv.came in
    record {
      lines = has.lines;
      are = has.are;
      gave = subst (λ l. GaveLines (has.lines ++ l ∷ []) new_lined left b left') is (gave_more has.lines new_lined a b left mid left' has.gave adv);
      going = given.going;
    }

-- where a reader knew that its source is at the end, it read nothing
nothing_got : (a b : Lined) (left left' : Option (List ℕ)) (r : Result Bool LineStop) (adv : Advances a b left left' r) → a.is_ended ≡ true → adv.fetched.got ≡ []
nothing_got a b left left' r adv over = elim adv.fetched.wanted [ inl is ↦ is | inr some ↦ absurd (let no : true ≡ false = sym over ∙ some.0 in absurd cc) ]

ended_after : (a b : Lined) (left left' : Option (List ℕ)) (r : Result Bool LineStop) → Advances a b left left' r → (a.is_ended ≡ true → IfSome left (λ rest. rest ≡ []))
    → b.is_ended ≡ true → IfSome left' (λ rest. rest ≡ [])
ended_after a b left left' r adv first over = elim (cases_Bool a.is_ended) [
  | inl ended ↦ (
      let same : left ≡ left' = adv.fetched.read ∙ ap (λ g. with_front g left') (nothing_got a b left left' r adv ended) ∙ with_front-nil left' in
      subst (λ o. IfSome o (λ rest. rest ≡ [])) same (first ended))
  | inr going ↦ adv.ended going over
]

-- the lines of what was given, of what was read then, and of what follows
given_on : (lines : List (List ℕ)) (left mid left' : Option (List ℕ)) (a b : Lined) (r : Result Bool LineStop) (has : HasGiven lines left a mid) (adv : Advances a b mid left' r)
    (more : List ℕ) → (a.is_ended ≡ true → more ≡ []) → lines_of ((has.bytes ++ adv.fetched.got) ++ more) ≡ lines ++ lines_of (adv.text ++ more)
given_on lines left mid left' a b r has adv more follows =
    let got : List ℕ = adv.fetched.got in
    ap lines_of (append_assoc has.bytes got more)
    ∙ has.first (got ++ more) (λ over. ap (λ x. x ++ more) (nothing_got a b mid left' r adv over) ∙ follows over)
    ∙ ap (λ x. lines ++ lines_of x) (sym (append_assoc a.held got more))
    ∙ ap (λ x. lines ++ lines_of (x ++ more)) (sym adv.fetched.parts)

-- the input ends behind the lines
pub none_at_end : (left mid left' : Option (List ℕ)) (a b : Lined) (script : List ℕ) (count : ℕ) → HasGathered left mid a script count
    → Advances a b mid left' (Ok false) → ComesToNone left script count
none_at_end left mid left' a b script count has adv =
    let given : HasGiven has.lines left a mid = in_order has.lines left mid a has.gave in
    let text : List ℕ = given.bytes ++ adv.fetched.got in
    let over : b.is_ended ≡ true = ap (λ (v : Lined). v.is_ended) adv.came.1 in
    let ended : IfSome left' (λ rest. rest ≡ []) = ended_after a b mid left' (Ok false) adv given.ended over in
    let by : GoesOnBy left text true = goes_on_by left left' text true (read_on left mid left' given.bytes adv.fetched.got given.read adv.fetched.read) (λ _. ended) in
    let nothing : by.more ≡ [] = by.follows refl in
    record {
      lines = has.lines;
      are = has.are;
      input = text ++ by.more;
      told = by.told;
      lacks = inl (given_on has.lines left mid left' a b (Ok false) given adv by.more (λ _. nothing)
          ∙ ap (λ x. has.lines ++ lines_of (x ++ by.more)) adv.came.0 ∙ ap (λ x. has.lines ++ lines_of x) nothing ∙ append-nil has.lines);
    }

-- the next line is too long
pub none_too_long : (left mid left' : Option (List ℕ)) (a b : Lined) (script : List ℕ) (count : ℕ) → HasGathered left mid a script count
    → Advances a b mid left' (Err stops.TooLong) → ComesToNone left script count
none_too_long left mid left' a b script count has adv =
    let given : HasGiven has.lines left a mid = in_order has.lines left mid a has.gave in
    let text : List ℕ = given.bytes ++ adv.fetched.got in
    let by : GoesOnBy left text b.is_ended = goes_on_by left left' text b.is_ended (read_on left mid left' given.bytes adv.fetched.got given.read adv.fetched.read)
    (ended_after a b mid left' (Err stops.TooLong) adv given.ended) in
    let long : 4096 < length adv.text = adv.came.0 in
    let front : List ℕ = take 4097 adv.text in
    let size : length front ≡ 4097 = length-take-le 4097 adv.text (omega arith) in
    let next : GoesOn front (lines_of (front ++ (drop 4097 adv.text ++ by.more))) = lines_longer front (drop 4097 adv.text ++ by.more) adv.came.1 (omega (arith, size)) in
    let same : adv.text ++ by.more ≡ front ++ (drop 4097 adv.text ++ by.more) =
    ap (λ x. x ++ by.more) (sym (take-append-drop 4097 adv.text)) ∙ append_assoc front (drop 4097 adv.text) by.more in
    let longer : length front ≤ length next.line = next.longer in
    record {
      lines = has.lines;
      are = has.are;
      input = text ++ by.more;
      told = by.told;
      lacks = inr (record {
        line = next.line;
        after = next.rest;
        parts = given_on has.lines left mid left' a b (Err stops.TooLong) given adv by.more (λ over. by.follows (adv.stays over))
            ∙ ap (λ x. has.lines ++ lines_of x) same ∙ ap (λ x. has.lines ++ x) next.parts;
        other = λ is. omega (arith, ap length is, longer, size);
        beyond = inr (omega (arith, longer, size));
      });
    }

-- the next line is one too many
pub none_too_many : (left mid left' : Option (List ℕ)) (a b : Lined) (script : List ℕ) (count : ℕ) → HasGathered left mid a script count
    → most_lines < 1 + count → Advances a b mid left' (Ok true) → b.line ≢ mark → ComesToNone left script count
none_too_many left mid left' a b script count has many adv other =
    let given : HasGiven (has.lines ++ b.line ∷ []) left b left' =
    in_order (has.lines ++ b.line ∷ []) left left' b (gave_more has.lines new_lined a b left mid left' has.gave adv) in
    let by : GoesOnBy left given.bytes b.is_ended = goes_on_by left left' given.bytes b.is_ended given.read given.ended in
    record {
      lines = has.lines;
      are = has.are;
      input = given.bytes ++ by.more;
      told = by.told;
      lacks = inr (record {
        line = b.line;
        after = lines_of (b.held ++ by.more);
        parts = given.first by.more by.follows ∙ append_assoc has.lines (b.line ∷ []) (lines_of (b.held ++ by.more));
        other = other;
        beyond = inl (omega (arith, many, has.are.number));
      });
    }

-- What a reader went on to that is no line of a script.
pub comes_nowhere : (left mid left' : Option (List ℕ)) (a b : Lined) (script : List ℕ) (count : ℕ) → HasGathered left mid a script count
    → GoesTo a b mid left' Nothing → ComesToNone left script count
comes_nowhere left mid left' a b script count has (inl adv) = none_at_end left mid left' a b script count has adv
comes_nowhere left mid left' a b script count has (inr adv) = none_too_long left mid left' a b script count has adv

-- Two lists that end with one item each are the same where they have the same items.
pub same_ends : {X : Type 0} (xs ys : List X) (x y : X) → xs ++ x ∷ [] ≡ ys ++ y ∷ [] → (xs ≡ ys) × (x ≡ y)
same_ends [] [] x y is = (refl, cc)
same_ends [] (b ∷ ys) x y is = absurd (omega (arith, ap length is, length-append ys (y ∷ [])))
same_ends (a ∷ xs) [] x y is = absurd (omega (arith, ap length is, length-append xs (x ∷ [])))
same_ends (a ∷ xs) (b ∷ ys) x y is =
    let first : a ≡ b = cc in
    let rest : xs ++ x ∷ [] ≡ ys ++ y ∷ [] = cc in
    let (fronts, ends) = same_ends xs ys x y rest in
    (ap (λ l. a ∷ l) fronts ∙ ap (λ k. k ∷ ys) first, ends)

-- The line that ends a script has no LF in it.
mark_clean : NoLf mark
mark_clean zero small = λ is. absurd cc
mark_clean (suc zero) small = λ is. absurd cc
mark_clean (suc (suc k)) small = absurd (omega (arith, small))

-- a report behind it
pub reports : (input : List ℕ) (lines : List (List ℕ)) (report : List ℕ) → AllByRecursion NoLf lines → input ≡ joined lines ++ (mark ++ 10 ∷ report) → HasReport input lines report
reports input lines report clean is = record {
  cut = ap lines_of is ∙ lines_joined lines (mark ++ 10 ∷ report) clean ∙ ap (λ x. lines ++ x) (lines_front mark report mark_clean);
  bytes = inl is;
}

-- none where it lacks its LF
pub reports_nothing : (input : List ℕ) (lines : List (List ℕ)) (report : List ℕ) → AllByRecursion NoLf lines → input ≡ joined lines ++ mark → report ≡ [] → HasReport input lines report
reports_nothing input lines report clean is none =
    let P : List ℕ → Type 0 = λ x. HasReport input lines x in
    let it : P [] = record {
      cut = ap lines_of is ∙ lines_joined lines mark clean ∙ ap (λ x. lines ++ x) (lines_last mark mark_clean (omega arith));
      bytes = inr (is, refl);
    } in
    subst P (sym none) it

-- What was handed over behind it is the report, as far as it was read; and what follows.
pub reports_all : (bytes : List ℕ) (lines : List (List ℕ)) (rest more : List ℕ) → AllByRecursion NoLf lines → AreSpelled bytes (lines ++ mark ∷ []) rest → (rest ≡ [] → more ≡ [])
    → HasReport (bytes ++ more) lines (rest ++ more)
reports_all bytes lines rest more clean (inl is) none =
    reports (bytes ++ more) lines (rest ++ more) clean
    (ap (λ x. x ++ more) (is ∙ ap (λ x. x ++ rest) (joined_more lines mark) ∙ append_assoc (joined lines) (mark ++ 10 ∷ []) rest) ∙ append_assoc (joined lines) (mark ++ 10 ∷ rest) more)
reports_all bytes lines rest more clean (inr (empty, before, last, cut, is)) none =
    let (fronts, ends) = same_ends lines before mark last cut in
    let nothing : more ≡ [] = none empty in
    reports_nothing (bytes ++ more) lines (rest ++ more) clean
    (ap (λ x. bytes ++ x) nothing ∙ append-nil bytes ∙ is ∙ ap (λ x. joined x ++ last) (sym fronts) ∙ ap (λ x. joined lines ++ x) (sym ends))
    (ap (λ x. rest ++ x) nothing ∙ append-nil rest ∙ empty)

-- the lines of a script are those of its bytes
pub lines_again : (lines : List (List ℕ)) (script : List ℕ) (count : ℕ) → AreLines lines script count → lines_of script ≡ lines
lines_again lines script count are =
    ap lines_of (are.bytes ∙ sym (append-nil (joined lines))) ∙ lines_joined lines [] are.clean ∙ append-nil lines

-- what the source told
told_too : (o : Option (List ℕ)) (x : List ℕ) → IfSome o (λ bytes. x ≡ bytes) → IfSome o (λ bytes. (x ≡ bytes) × Unit {0})
told_too None x told = tt
told_too (Some bytes) x told = (told, tt)

-- an input without a report
pub input_ends : (left left' : Option (List ℕ)) (script : List ℕ) (count n : ℕ) → ComesToNone left script count → n ≡ count + 1 → ReadsInput left left' script (NoReport n)
input_ends left left' script count n none number = record {
  input = none.input;
  told = told_too left none.input none.told;
  lines = none.lines;
  cut = lines_again none.lines script count none.are;
  limits = none.are.limits;
  none = none.are.none;
  stands = inl (none.lacks, omega (arith, number, none.are.number));
}

-- an input with one
pub input_reports : (left mid left' : Option (List ℕ)) (reader : Lined) (script : List ℕ) (count : ℕ) (behind : Behind) → ComesToMark left mid reader script count
    → HandsReport reader mid left' count behind → ReadsInput left left' script behind
input_reports left mid left' reader script count (Report report) has over =
    let all : HasGivenAll (has.lines ++ mark ∷ []) left left' (Whole report) = gives_all (has.lines ++ mark ∷ []) left mid left' reader most_report (Whole report) has.gave over in
    let it : HasReport (all.bytes ++ []) has.lines (report.items ++ []) = reports_all all.bytes has.lines report.items [] has.are.clean all.spelled (λ _. refl) in
    record {
      input = all.bytes;
      told = told_all left left' all.bytes all.read (all.ended tt);
      lines = has.lines;
      cut = lines_again has.lines script count has.are;
      limits = has.are.limits;
      none = has.are.none;
      stands = (subst (λ x. HasReport x has.lines report.items) (append-nil all.bytes) (subst (HasReport (all.bytes ++ []) has.lines) (append-nil report.items) it), over.all.0);
    }
input_reports left mid left' reader script count (NoReport n) has (rest, over, long, number) =
    let all : HasGivenAll (has.lines ++ mark ∷ []) left left' rest = gives_all (has.lines ++ mark ∷ []) left mid left' reader most_report rest has.gave over in
    let by : GoesOnBy left all.bytes false = goes_on_by left left' all.bytes false all.read (λ no. absurd cc) in
    let report : List ℕ = bytes_of rest ++ by.more in
    let it : HasReport (all.bytes ++ by.more) has.lines report = reports_all all.bytes has.lines (bytes_of rest) by.more has.are.clean all.spelled
    (λ none. absurd (omega (arith, long, ap length none))) in
    let front : take most_report report ≡ take most_report (bytes_of rest) = take-append-le most_report (bytes_of rest) by.more (omega (arith, long)) in
    record {
      input = all.bytes ++ by.more;
      told = told_too left (all.bytes ++ by.more) by.told;
      lines = has.lines;
      cut = lines_again has.lines script count has.are;
      limits = has.are.limits;
      none = has.are.none;
      stands = inr (
        report,
        it,
        omega (arith, long, length-append (bytes_of rest) by.more),
        number ∙ ap (λ k. k + 2 + ends_in (take most_report (bytes_of rest))) has.are.number
            ∙ ap (λ x. length has.lines + 2 + ends_in x) (sym front),
      );
    }
