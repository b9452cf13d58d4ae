-- What a call of a reader of lines comes to.
use Rattle.std.proofs.Common.{◌≡◌, ℕ, suc, ◌≤◌, List, [], ◌∷◌, ◌++◌, length, take, drop, get_or, true, false, Option, Some, None, Ok, Err, inl, inr, refl, sym, ◌∙◌, ap, subst, arith}
use Rattle.std.specs.Prelude.{IfSome}
use Rattle.std.proofs.Math.Seq.{drop-cons}
use Rattle.std.proofs.lemmas.List.{take-append-drop, length-take-le, take_all, drop_all}
use Rattle.nfc_io.specs.declared.line_reader.LineStop.{LineStop}
use Rattle.nfc_io.specs.declared.line_reader.LineStop.TheVariants.{ReadFault, TooLong}
use Rattle.nfc_io.specs.Lines.{NoLf}
use Rattle.nfc_io.specs.Reading.{Lined, Fetches, ComesTo, Advances, HoldsLf, Lacks, longest}

-- a text with an LF is the line before it, the LF, and what stands behind
pub parts_at_lf : (text : List ℕ) (n : ℕ) → HoldsLf text n → text ≡ take n text ++ 10 ∷ drop 1 (drop n text)
parts_at_lf text n h =
    let at : drop n text ≡ get_or text n 0 ∷ drop (suc n) text = drop-cons text n 0 h.within in
    let behind : drop n text ≡ 10 ∷ drop 1 (drop n text) = at ∙ ap (λ b. b ∷ drop (suc n) text) h.lf ∙ ap (λ x. 10 ∷ drop 1 x) (sym at) in
    sym (take-append-drop n text) ∙ ap (λ x. take n text ++ x) behind

-- the line before the LF was given
pub advances_by_lf : (a b : Lined) (left left' : Option (List ℕ)) (text : List ℕ) (n : ℕ) → a.stop ≡ None → Fetches a.is_ended a.held text left left'
    → HoldsLf text n → n ≤ 4096 → b ≡ record a { line = take n text; held = drop 1 (drop n text) } → Advances a b left left' (Ok true)
advances_by_lf a b left left' text n going fetched h short is =
    let P : Lined → Type 0 = λ v. Advances a v left left' (Ok true) in
    let it : P (record a { line = take n text; held = drop 1 (drop n text) }) = record {
      text = text;
      fetched = fetched;
      came = record { parts = inl (parts_at_lf text n h); clean = h.clean; short = omega (arith, short, length-take-le n text (omega (arith, h.within))); going = going };
      ended = λ no yes. absurd cc;
      stays = λ yes. yes;
    } in
    subst P (sym is) it

-- the last line was given, which is all that is held at the source's end
pub advances_by_end : (a b : Lined) (left left' : Option (List ℕ)) (text : List ℕ) (n : ℕ) → a.stop ≡ None → Fetches a.is_ended a.held text left left'
    → NoLf text × (length text ≤ longest) × (a.is_ended ≡ false → IfSome left' (λ rest. rest ≡ [])) → n ≡ length text → (n ≡ 0 → ⊥)
    → b ≡ record a { line = take n text; held = drop n text; is_ended = true } → Advances a b left left' (Ok true)
advances_by_end a b left left' text n going fetched end all some is =
    let P : Lined → Type 0 = λ v. Advances a v left left' (Ok true) in
    let whole : take n text ≡ text = take_all n text (omega (arith, all)) in
    let none : drop n text ≡ [] = drop_all n text (omega (arith, all)) in
    let it : P (record a { line = text; held = []; is_ended = true }) = record {
      text = text;
      fetched = fetched;
      came = record { parts = inr (refl, refl, omega (arith, all, some), refl); clean = end.0; short = end.1; going = going };
      ended = λ no _. end.2 no;
      stays = λ _. refl;
    } in
    subst P (sym (is ∙ ap (λ l. record a { line = l; held = drop n text; is_ended = true }) whole ∙ ap (λ h. record a { line = text; held = h; is_ended = true }) none)) it

-- it stopped
pub advances_err : (a b : Lined) (left left' : Option (List ℕ)) (text : List ℕ) (s : LineStop) → Fetches a.is_ended a.held text left left'
    → Lacks a.is_ended text s → b ≡ record a { held = text; stop = Some s } → Advances a b left left' (Err s)
advances_err a b left left' text s fetched lacks is =
    let P : Lined → Type 0 = λ v. Advances a v left left' (Err s) in
    let it : P (record a { held = text; stop = Some s }) = record {
      text = text;
      fetched = fetched;
      came = comes s lacks;
      ended = λ no yes. absurd cc;
      stays = λ yes. yes;
    } in
    subst P (sym is) it
  where
    comes : (s : LineStop) → Lacks a.is_ended text s → ComesTo a text (Err s) (record a { held = text; stop = Some s })
    comes TooLong lacks = (lacks.0, lacks.1, refl)
    comes ReadFault lacks = (lacks.0, lacks.1, lacks.2, refl)
