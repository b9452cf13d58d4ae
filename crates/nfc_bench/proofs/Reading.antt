-- How reading the lines of a script ends, whatever is done with them.
use Rattle.std.proofs.Common.{◌≡◌, ℕ, ◌+◌, ◌<◌, ◌≤◌, ◌⊎◌, List, [], ◌∷◌, ◌++◌, length, take, drop, Bool, true, false, Option, Some, None, Result, Ok, Err, refl, sym, ◌∙◌, ap, subst, append_assoc}
use Rattle.std.proofs.Common.{arith, inl, inr}
use Rattle.std.specs.Prelude.{IfSome}
use Rattle.std.proofs.lemmas.Bool.{cases_Bool}
use Rattle.std.proofs.lemmas.List.{append-nil, length-take-le, take-append-drop}
use Rattle.nfc_io.specs.Moves.{with_front}
use Rattle.nfc_io.specs.Lines.{lines_of, NoLf}
use Rattle.nfc_io.specs.Reading.{Lined, Advances, Looks}
use Rattle.nfc_io.specs.declared.line_reader.LineStop.{LineStop}
use Rattle.nfc_io.specs.declared.line_reader.LineStop.TheVariants as ends
use Rattle.nfc_io.proofs.Moves.{with_front-nil, read_on}
use Rattle.nfc_io.proofs.Lines.{GoesOn, some_line, lines_longer}
use Rattle.bench_script.specs.Limits.{most_lines, longest_line, AreWithinLimits}
use Rattle.nfc_bench.specs.Run.{ReadsInTime}
use Rattle.nfc_bench.specs.Reading.{ReadsAll, ReadsToLimit, ReadsScript}
use Rattle.nfc_bench.proofs.Progress.{HasRead, Goes, goes, lines_on, ended_on}

-- the input goes on behind the text, where the source tells it; at the source's end by nothing
pub record GoesOnBy (left : Option (List ℕ)) (text : List ℕ) (is_ended : Bool) : Type 0 where
  pub more : List ℕ
  pub follows : is_ended ≡ true → more ≡ []
  pub told : IfSome left (λ bytes. text ++ more ≡ bytes)

pub goes_on_by : (left left' : Option (List ℕ)) (text : List ℕ) (is_ended : Bool) → left ≡ with_front text left' → (is_ended ≡ true → IfSome left' (λ rest. rest ≡ [])) → GoesOnBy left text is_ended
goes_on_by left None text is_ended read ended = record {
  more = [];
  follows = λ _. refl;
  told = let P : Option (List ℕ) → Type 0 = λ o. IfSome o (λ bytes. text ++ [] ≡ bytes) in subst P (sym read) tt;
}
goes_on_by left (Some rest) text is_ended read ended = record {
  more = rest;
  follows = ended;
  told = let P : Option (List ℕ) → Type 0 = λ o. IfSome o (λ bytes. text ++ rest ≡ bytes) in subst P (sym read) refl;
}

-- the line that is next, whatever follows
next_line : (rest more : List ℕ) → 0 < length rest → (front behind : List ℕ) → rest ≡ front ++ behind → NoLf front → GoesOn front (lines_of (rest ++ more))
next_line rest more some [] behind parts none = some_line rest more some
next_line rest more some (b ∷ front) behind parts none =
    let P : List ℕ → Type 0 = λ x. GoesOn (b ∷ front) (lines_of x) in
    subst P (sym (ap (λ x. x ++ more) parts ∙ append_assoc (b ∷ front) behind more)) (lines_longer (b ∷ front) (behind ++ more) none (omega arith))

-- the next line, which begins so, is one too many or too long
pub beyond_limit : (left mid left' : Option (List ℕ)) (a : Lined) (done : List (List ℕ)) (got front behind : List ℕ)
    → HasRead left mid a done → Goes a got mid left' → 0 < length (a.held ++ got) → a.held ++ got ≡ front ++ behind → NoLf front
    → (most_lines < 1 + length done) ⊎ (longest_line < length front) → ReadsToLimit left done
beyond_limit left mid left' a done got front behind p on some parts none why =
    let text : List ℕ = p.text ++ got in
    let by = goes_on_by left left' text a.is_ended (read_on left mid left' p.text got p.read on.read) (ended_on a got mid left' on p.ended) in
    let next : GoesOn front (lines_of ((a.held ++ got) ++ by.more)) = next_line (a.held ++ got) by.more some front behind parts none in
    let longer : length front ≤ length next.line = next.longer in
    record {
      input = text ++ by.more;
      told = by.told;
      cut = record {
        line = next.line;
        after = next.rest;
        parts = lines_on left mid left' a done got p on by.more by.follows ∙ ap (λ x. done ++ x) next.parts;
        beyond = elim why [ inl many ↦ inl many | inr long ↦ inr (omega arith) ];
      };
      limits = p.limits;
    }

-- it is too long
pub beyond_length : (left mid left' : Option (List ℕ)) (a m : Lined) (done : List (List ℕ)) → HasRead left mid a done → Advances a m mid left' (Err ends.TooLong) → ReadsToLimit left done
beyond_length left mid left' a m done p adv =
    let got : List ℕ = adv.fetched.got in
    let parts : adv.text ≡ a.held ++ got = adv.fetched.parts in
    let long : 4096 < length adv.text = adv.came.0 in
    let front : length (take 4097 adv.text) ≡ 4097 = length-take-le 4097 adv.text (omega arith) in
    beyond_limit left mid left' a done got (take 4097 adv.text) (drop 4097 adv.text) p (goes a adv.text mid left' adv.fetched)
    (omega (arith, long, ap length parts)) (sym parts ∙ sym (take-append-drop 4097 adv.text)) adv.came.1 (inr (omega (arith, front)))

pub goes_looking : (a b : Lined) (mid left' : Option (List ℕ)) (r : Result Bool LineStop) (l : Looks a b mid left' r) → Goes a l.got mid left'
goes_looking a b mid left' r l = record {
  read = l.read;
  nothing = λ over. elim l.wanted [ inl is ↦ is | inr some ↦ absurd (let no : true ≡ false = sym over ∙ some.0 in absurd cc) ];
}

-- it is one too many
pub beyond_number : (left mid left' : Option (List ℕ)) (a m : Lined) (done : List (List ℕ)) → HasRead left mid a done → most_lines < 1 + length done → Looks a m mid left' (Ok true)
    → ReadsToLimit left done
beyond_number left mid left' a m done p many look =
    beyond_limit left mid left' a done look.got [] (a.held ++ look.got) p (goes_looking a m mid left' (Ok true) look)
    look.found.0 refl (λ k small. absurd (omega arith)) (inl many)

-- What was read behind the lines of a text isn't more than one call gives.
pub looks_in_time : (left mid left' : Option (List ℕ)) (a m : Lined) (done : List (List ℕ)) (r : Result Bool LineStop) → HasRead left mid a done → Looks a m mid left' r → ReadsInTime left left'
looks_in_time left mid left' a m done r p look = elim look.wanted [
  | inl none ↦ (
      let same : mid ≡ left' = look.read ∙ ap (λ g. with_front g left') none ∙ with_front-nil left' in
      subst (λ o. ReadsInTime left o) same p.time)
  | inr (going, none, size) ↦ (
      let lines : lines_of p.text ≡ done =
      ap lines_of (sym (append-nil p.text)) ∙ p.lines [] (λ _. refl) ∙ ap (λ x. done ++ lines_of (x ++ [])) none ∙ append-nil done in
      record {
        front = p.text;
        chunk = look.got;
        read = read_on left mid left' p.text look.got p.read look.read;
        short = subst (λ ls. AreWithinLimits ls) (sym lines) p.limits;
        size = size;
      })
]

-- nothing is held or left: every line was given
pub told_all : (left left' : Option (List ℕ)) (text : List ℕ) → left ≡ with_front text left' → IfSome left' (λ rest. rest ≡ []) → IfSome left (λ bytes. (text ≡ bytes) × (left' ≡ Some []))
told_all left None text read none =
    let nothing : Option (List ℕ) = None in
    let P : Option (List ℕ) → Type 0 = λ o. IfSome o (λ bytes. (text ≡ bytes) × (nothing ≡ Some [])) in
    subst P (sym read) tt
told_all left (Some rest) text read none =
    let P : Option (List ℕ) → Type 0 = λ o. IfSome o (λ bytes. (text ≡ bytes) × (Some rest ≡ Some [])) in
    subst P (sym read) (sym (ap (λ x. text ++ x) none ∙ append-nil text), ap Some none)

all_read : (left mid left' : Option (List ℕ)) (a : Lined) (done : List (List ℕ)) (got : List ℕ)
    → HasRead left mid a done → Goes a got mid left' → a.held ++ got ≡ [] → IfSome left' (λ rest. rest ≡ []) → ReadsAll left left' done
all_read left mid left' a done got p on nothing ended = record {
  input = p.text ++ got;
  told = told_all left left' (p.text ++ got) (read_on left mid left' p.text got p.read on.read) ended;
  parts =
      ap lines_of (sym (append-nil (p.text ++ got))) ∙ lines_on left mid left' a done got p on [] (λ _. refl) ∙ ap (λ x. done ++ lines_of (x ++ [])) nothing ∙ append-nil done;
  limits = p.limits;
}

-- at the end no byte is left, whether it is known from before or not
ended_now : (a : Lined) (got : List ℕ) (mid left' : Option (List ℕ)) → Goes a got mid left' → (a.is_ended ≡ true → IfSome mid (λ rest. rest ≡ []))
    → (a.is_ended ≡ false → IfSome left' (λ rest. rest ≡ [])) → IfSome left' (λ rest. rest ≡ [])
ended_now a got mid left' on before now = elim (cases_Bool a.is_ended) [
  | inl over ↦ ended_on a got mid left' on before over
  | inr going ↦ now going
]

pub read_at_limit : (left mid left' : Option (List ℕ)) (a m : Lined) (done : List (List ℕ)) → HasRead left mid a done → Looks a m mid left' (Ok false) → ReadsAll left left' done
read_at_limit left mid left' a m done p look =
    let on : Goes a look.got mid left' = goes_looking a m mid left' (Ok false) look in
    let over : m.is_ended ≡ true = ap (λ (v : Lined). v.is_ended) look.found.1 in
    all_read left mid left' a done look.got p on look.found.0 (ended_now a look.got mid left' on p.ended (λ going. look.ended going over))

-- a script that is read to its end
pub script_whole : (left left' : Option (List ℕ)) (lines : List (List ℕ)) → ReadsAll left left' lines → ReadsScript left left' (record { lines = lines; is_cut = false })
script_whole left left' lines r = record {
  input = r.input;
  told = by_left left r.told;
  lines = record { limits = r.limits; whole = λ _. r.parts; cut = λ is. absurd cc };
}
  where
    by_left : (o : Option (List ℕ)) → IfSome o (λ bytes. (r.input ≡ bytes) × (left' ≡ Some [])) → IfSome o (λ bytes. (r.input ≡ bytes) × (false ≡ false → left' ≡ Some []))
    by_left None told = tt
    by_left (Some bytes) told = (told.0, λ _. told.1)

-- and one that is cut
pub script_cut : (left left' : Option (List ℕ)) (lines : List (List ℕ)) → ReadsToLimit left lines → ReadsScript left left' (record { lines = lines; is_cut = true })
script_cut left left' lines r = record {
  input = r.input;
  told = by_left left r.told;
  lines = record { limits = r.limits; whole = λ is. absurd cc; cut = λ _. r.cut };
}
  where
    by_left : (o : Option (List ℕ)) → IfSome o (λ bytes. r.input ≡ bytes) → IfSome o (λ bytes. (r.input ≡ bytes) × (true ≡ false → left' ≡ Some []))
    by_left None told = tt
    by_left (Some bytes) told = (told, λ is. absurd cc)

-- by what follows the most lines that may be
pub script_looked : (left mid left' : Option (List ℕ)) (a m : Lined) (done : List (List ℕ)) (v : Bool) → HasRead left mid a done → most_lines < 1 + length done → Looks a m mid left' (Ok v)
    → ReadsScript left left' (record { lines = done; is_cut = v })
script_looked left mid left' a m done true p many look = script_cut left left' done (beyond_number left mid left' a m done p many look)
script_looked left mid left' a m done false p many look = script_whole left left' done (read_at_limit left mid left' a m done p look)
