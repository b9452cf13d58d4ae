-- The lines that a reader gives are those of what it read, in order.
use Rattle.std.proofs.Common.{◌≡◌, ℕ, ◌<◌, List, [], ◌∷◌, ◌++◌, length, true, false, Option, Ok, inl, inr, refl, sym, ◌∙◌, ap, subst, arith, append_assoc, append-nil}
use Rattle.std.specs.Prelude.{IfSome}
use Rattle.std.proofs.lemmas.Bool.{cases_Bool}
use Rattle.std.proofs.lemmas.List.{length-append}
use Rattle.nfc_io.specs.Lines.{lines_of, joined}
use Rattle.nfc_io.specs.Moves.{with_front}
use Rattle.nfc_io.proofs.Moves.{with_front-nil, read_on}
use Rattle.nfc_io.proofs.Lines.{lines_front, lines_last}
use Rattle.nfc_io.specs.Reading.{Lined, new_lined, Advances, GivesLine, GaveLines, AreSpelled, GivesInOrder}

-- what a reader has given since some moment, of what it held then and has read since
pub record HasGivenFrom (a : Lined) (lines : List (List ℕ)) (left : Option (List ℕ)) (b : Lined) (left' : Option (List ℕ)) : Type 0 where
  pub bytes : List ℕ
  pub read : left ≡ with_front bytes left'
  pub spelled : AreSpelled (a.held ++ bytes) lines b.held
  pub whole : b.is_ended ≡ false → a.held ++ bytes ≡ joined lines ++ b.held
  pub first : (more : List ℕ) → (b.is_ended ≡ true → more ≡ []) → lines_of ((a.held ++ bytes) ++ more) ≡ lines ++ lines_of (b.held ++ more)
  pub ended : (a.is_ended ≡ true → IfSome left (λ rest. rest ≡ [])) → b.is_ended ≡ true → IfSome left' (λ rest. rest ≡ [])

-- where nothing is held behind the source's end, no line is given
pub no_more : (m x : Lined) (left left' : Option (List ℕ)) → m.is_ended ≡ true → m.held ≡ [] → Advances m x left left' (Ok true) → ⊥
no_more m x left left' over none adv =
    let given : GivesLine adv.text x = adv.came in
    let nothing : adv.fetched.got ≡ [] = elim adv.fetched.wanted [ inl is ↦ is | inr some ↦ absurd (let no : true ≡ false = sym over ∙ some.0 in absurd cc) ] in
    let size : length adv.text ≡ 0 = ap length (adv.fetched.parts ∙ ap (λ h. h ++ adv.fetched.got) none ∙ nothing) in
    elim given.parts [
      | inl lf ↦ omega (arith, size, ap length lf, length-append x.line (10 ∷ x.held))
      | inr last ↦ (let some : 0 < length x.line = last.2 in omega (arith, size, some, ap length last.0))
    ]

-- behind the last line no other follows
pub last_of : (ls : List (List ℕ)) (m b : Lined) (left left' : Option (List ℕ)) → m.is_ended ≡ true → m.held ≡ [] → GaveLines ls m left b left' → (ls ≡ []) × (b ≡ m) × (left' ≡ left)
last_of [] m b left left' over none gave = (refl, gave.0, gave.1)
last_of (l ∷ ls) m b left left' over none gave = absurd (no_more m gave.0 left gave.1 over none gave.2)

-- what is read behind a line's LF stands behind what was held there
pub behind_lf : (held got bytes l rest : List ℕ) → held ++ got ≡ l ++ 10 ∷ rest → held ++ (got ++ bytes) ≡ l ++ 10 ∷ (rest ++ bytes)
behind_lf held got bytes l rest is = sym (append_assoc held got bytes) ∙ ap (λ x. x ++ bytes) is ∙ append_assoc l (10 ∷ rest) bytes

pub spelled_more : (l bytes held : List ℕ) (ls : List (List ℕ)) → AreSpelled bytes ls held → AreSpelled (l ++ 10 ∷ bytes) (l ∷ ls) held
spelled_more l bytes held ls (inl is) = inl (ap (λ x. l ++ 10 ∷ x) is ∙ sym (append_assoc l (10 ∷ joined ls) held))
spelled_more l bytes held ls (inr (none, before, last, parts, is)) =
    inr (none, l ∷ before, last, ap (λ x. l ∷ x) parts, ap (λ x. l ++ 10 ∷ x) is ∙ sym (append_assoc l (10 ∷ joined before) last))

pub from_none : (a b : Lined) (left left' : Option (List ℕ)) → b ≡ a → left' ≡ left → HasGivenFrom a [] left b left'
from_none a b left left' same stays =
    let P : Lined → Option (List ℕ) → Type 0 = λ v o. HasGivenFrom a [] left v o in
    let it : P a left = record {
      bytes = [];
      read = sym (with_front-nil left);
      spelled = inl (append-nil a.held);
      whole = λ _. append-nil a.held;
      first = λ more _. ap (λ x. lines_of (x ++ more)) (append-nil a.held);
      ended = λ first over. first over;
    } in
    subst (λ v. P v left') (sym same) (subst (P a) (sym stays) it)

-- where a reader knows that its source is at the end, it is
pub ended_behind : (a m : Lined) (left mid : Option (List ℕ)) → Advances a m left mid (Ok true) → (a.is_ended ≡ true → IfSome left (λ rest. rest ≡ []))
    → m.is_ended ≡ true → IfSome mid (λ rest. rest ≡ [])
ended_behind a m left mid adv first over =
    elim (cases_Bool a.is_ended) [
      | inl over' ↦ (
          let nothing : adv.fetched.got ≡ [] = elim adv.fetched.wanted [ inl is ↦ is | inr some ↦ absurd (let no : true ≡ false = sym over' ∙ some.0 in absurd cc) ] in
          let same : left ≡ mid = adv.fetched.read ∙ ap (λ g. with_front g mid) nothing ∙ with_front-nil mid in
          subst (λ o. IfSome o (λ rest. rest ≡ [])) same (first over'))
      | inr going ↦ adv.ended going over
    ]

pub from_lf : (a m b : Lined) (ls : List (List ℕ)) (left mid left' : Option (List ℕ)) (adv : Advances a m left mid (Ok true))
    → adv.text ≡ m.line ++ 10 ∷ m.held → HasGivenFrom m ls mid b left' → HasGivenFrom a (m.line ∷ ls) left b left'
from_lf a m b ls left mid left' adv lf tail =
    let given : GivesLine adv.text m = adv.came in
    let got : List ℕ = adv.fetched.got in
    let is : a.held ++ (got ++ tail.bytes) ≡ m.line ++ 10 ∷ (m.held ++ tail.bytes) = behind_lf a.held got tail.bytes m.line m.held (sym adv.fetched.parts ∙ lf) in
    record {
      bytes = got ++ tail.bytes;
      read = read_on left mid left' got tail.bytes adv.fetched.read tail.read;
      spelled = subst (λ x. AreSpelled x (m.line ∷ ls) b.held) (sym is) (spelled_more m.line (m.held ++ tail.bytes) b.held ls tail.spelled);
      whole = λ going. is ∙ ap (λ x. m.line ++ 10 ∷ x) (tail.whole going) ∙ sym (append_assoc m.line (10 ∷ joined ls) b.held);
      first = λ more follows.
          ap (λ x. lines_of (x ++ more)) is ∙ ap lines_of (append_assoc m.line (10 ∷ (m.held ++ tail.bytes)) more)
          ∙ lines_front m.line ((m.held ++ tail.bytes) ++ more) given.clean ∙ ap (λ x. m.line ∷ x) (tail.first more follows);
      ended = λ first over. tail.ended (ended_behind a m left mid adv first) over;
    }

pub from_last : (a m b : Lined) (ls : List (List ℕ)) (left mid left' : Option (List ℕ)) (adv : Advances a m left mid (Ok true))
    → (adv.text ≡ m.line) × (m.held ≡ []) × (0 < length m.line) × (m.is_ended ≡ true) → (ls ≡ []) × (b ≡ m) × (left' ≡ mid) → HasGivenFrom a (m.line ∷ ls) left b left'
from_last a m b ls left mid left' adv (all, none, some, over) (ends, same, stays) =
    let given : GivesLine adv.text m = adv.came in
    let got : List ℕ = adv.fetched.got in
    let is : a.held ++ got ≡ m.line = sym adv.fetched.parts ∙ all in
    let P : List (List ℕ) → Lined → Option (List ℕ) → Type 0 = λ xs v o. HasGivenFrom a (m.line ∷ xs) left v o in
    let it : P [] m mid = record {
      bytes = got;
      read = adv.fetched.read;
      spelled = inr (none, [], m.line, refl, is);
      whole = λ going. absurd (let no : true ≡ false = sym over ∙ going in absurd cc);
      first = λ more follows.
          let nothing : more ≡ [] = follows over in
          let text : (a.held ++ got) ++ more ≡ m.line = ap (λ x. (a.held ++ got) ++ x) nothing ∙ append-nil (a.held ++ got) ∙ is in
          let rest : lines_of (m.held ++ more) ≡ [] = ap (λ x. lines_of (x ++ more)) none ∙ ap lines_of nothing in
          ap lines_of text ∙ lines_last m.line given.clean some ∙ ap (λ x. m.line ∷ x) (sym rest);
      ended = λ first _. ended_behind a m left mid adv first over;
    } in
    subst (λ xs. P xs b left') (sym ends) (subst (λ v. P [] v left') (sym same) (subst (P [] m) (sym stays) it))

pub from : (lines : List (List ℕ)) (a b : Lined) (left left' : Option (List ℕ)) → GaveLines lines a left b left' → HasGivenFrom a lines left b left'
from [] a b left left' gave = from_none a b left left' gave.0 gave.1
from (l ∷ ls) a b left left' (m, mid, adv, same, gave) =
    let given : GivesLine adv.text m = adv.came in
    subst (λ x. HasGivenFrom a (x ∷ ls) left b left') same (
    elim given.parts [
      | inl lf ↦ from_lf a m b ls left mid left' adv lf (from ls m b mid left' gave)
      | inr last ↦ from_last a m b ls left mid left' adv last (last_of ls m b mid left' last.3 last.1 gave)
    ])

-- the law of a reader that was just made
pub in_order : GivesInOrder
in_order = λ lines left left' b gave.
    let it : HasGivenFrom new_lined lines left b left' = from lines new_lined b left left' gave in
    record { bytes = it.bytes; read = it.read; spelled = it.spelled; whole = it.whole; first = it.first; ended = it.ended (λ no. absurd cc) }
