-- A reader gives all of its source's bytes: by lines, and then the rest.
use Rattle.std.proofs.Common.{◌≡◌, ℕ, ◌≤◌, List, [], ◌++◌, length, Bool, true, false, Option, inl, inr, refl, sym, ◌∙◌, ap, subst, arith, append_assoc, append-nil}
use Rattle.std.specs.Prelude.{IfSome}
use Rattle.std.proofs.lemmas.Bool.{cases_Bool}
use Rattle.std.proofs.lemmas.List.{length-append}
use Rattle.nfc_io.specs.Moves.{with_front}
use Rattle.nfc_io.specs.Lines.{lines_of, joined}
use Rattle.nfc_io.specs.Reading.{HasGiven, AreSpelled, Gets}
use Rattle.nfc_io.specs.Behind.{ReadsOn, TakesSome, HasGivenAll, IsWhole, IsAll, bytes_of, GivesAll}
use Rattle.nfc_io.specs.declared.rest.Rest.{Rest}
use Rattle.nfc_io.specs.declared.rest.Rest.TheVariants.{Whole, TooLong}
use Rattle.nfc_io.proofs.Moves.{with_front-nil, read_on}
use Rattle.nfc_io.proofs.InOrder.{in_order}

-- one more read
pub on_by_read : (most n : ℕ) (is_ended : Bool) (held bytes none text : List ℕ) (left mid left' : Option (List ℕ)) → is_ended ≡ false
    → ReadsOn most is_ended held bytes left mid → length bytes ≤ most → none ≡ [] → Gets n none text mid left'
    → ReadsOn most is_ended held (bytes ++ text) left left'
on_by_read most n is_ended held bytes none text left mid left' going on small empty gets =
    let parts : text ≡ gets.got = gets.parts ∙ ap (λ x. x ++ gets.got) empty in
    record {
      got = on.got ++ gets.got;
      parts = ap (λ x. bytes ++ x) parts ∙ ap (λ x. x ++ gets.got) on.parts ∙ append_assoc held on.got gets.got;
      read = read_on left mid left' on.got gets.got on.read gets.read;
      wanted = inr (going, omega (arith, small, gets.few, gets.size, ap length parts, length-append bytes text));
    }

-- what was read before a fault is no more than was wanted
pub taken : (most : ℕ) (is_ended : Bool) (held bytes : List ℕ) (left left' : Option (List ℕ)) → ReadsOn most is_ended held bytes left left' → TakesSome most left left'
taken most is_ended held bytes left left' on = record {
  got = on.got;
  read = on.read;
  few = elim on.wanted [
    | inl none ↦ omega (arith, ap length none)
    | inr going ↦ omega (arith, going.1, ap length on.parts, length-append held on.got)
  ];
}

-- where the source's end was known, nothing was read
pub nothing_more : (most : ℕ) (held bytes : List ℕ) (left left' : Option (List ℕ)) (on : ReadsOn most true held bytes left left') → on.got ≡ []
nothing_more most held bytes left left' on = elim on.wanted [ inl none ↦ none | inr going ↦ absurd (let no : true ≡ false = going.0 in absurd cc) ]

-- behind lines of which the last may lack its LF, at the source's end
all_at_end : (lines : List (List ℕ)) (left mid left' : Option (List ℕ)) (held : List ℕ) (most : ℕ) (rest : Rest) (bytes : List ℕ)
    → left ≡ with_front bytes mid → AreSpelled bytes lines held → lines_of bytes ≡ lines ++ lines_of held → IfSome mid (λ rest. rest ≡ [])
    → ReadsOn most true held (bytes_of rest) mid left' → HasGivenAll lines left left' rest
all_at_end lines left mid left' held most rest bytes read spelled first ended on =
    let none : on.got ≡ [] = nothing_more most held (bytes_of rest) mid left' on in
    let same : bytes_of rest ≡ held = on.parts ∙ ap (λ x. held ++ x) none ∙ append-nil held in
    let stays : mid ≡ left' = on.read ∙ ap (λ x. with_front x left') none ∙ with_front-nil left' in
    record {
      bytes = bytes;
      read = read ∙ ap (with_front bytes) stays;
      spelled = subst (AreSpelled bytes lines) (sym same) spelled;
      first = λ _. first ∙ ap (λ x. lines ++ lines_of x) (sym same);
      ended = λ _. subst (λ o. IfSome o (λ rest. rest ≡ [])) stays ended;
    }

-- at its end a source has no more
at_its_end : (most : ℕ) (left' : Option (List ℕ)) (rest : Rest) → IsAll most false left' rest → IsWhole rest → IfSome left' (λ rest. rest ≡ [])
at_its_end most left' (Whole bytes) all whole = all.1 refl
at_its_end most left' (TooLong bytes) all whole = absurd whole

-- behind lines that each have an LF
all_behind : (lines : List (List ℕ)) (left mid left' : Option (List ℕ)) (held : List ℕ) (most : ℕ) (rest : Rest) (bytes : List ℕ)
    → left ≡ with_front bytes mid → bytes ≡ joined lines ++ held
    → ((more : List ℕ) → lines_of (bytes ++ more) ≡ lines ++ lines_of (held ++ more)) → IsAll most false left' rest
    → ReadsOn most false held (bytes_of rest) mid left' → HasGivenAll lines left left' rest
all_behind lines left mid left' held most rest bytes read whole first all on =
    record {
      bytes = bytes ++ on.got;
      read = read_on left mid left' bytes on.got read on.read;
      spelled = inl (ap (λ x. x ++ on.got) whole ∙ append_assoc (joined lines) held on.got ∙ ap (λ x. joined lines ++ x) (sym on.parts));
      first = λ _. first on.got ∙ ap (λ x. lines ++ lines_of x) (sym on.parts);
      ended = at_its_end most left' rest all;
    }

-- the law of a reader that was just made
pub gives_all : GivesAll
gives_all = λ lines left mid left' b most rest gave over.
    let it : HasGiven lines left b mid = in_order lines left mid b gave in
    elim (cases_Bool b.is_ended) [
      | inl ended ↦
          (let first : lines_of it.bytes ≡ lines ++ lines_of b.held =
          ap lines_of (sym (append-nil it.bytes)) ∙ it.first [] (λ _. refl) ∙ ap (λ x. lines ++ lines_of x) (append-nil b.held) in
          all_at_end lines left mid left' b.held most rest it.bytes it.read it.spelled first (it.ended ended)
          (subst (λ v. ReadsOn most v b.held (bytes_of rest) mid left') ended over.on))
      | inr going ↦
          all_behind lines left mid left' b.held most rest it.bytes it.read (it.whole going)
          (λ more. it.first more (λ is. absurd (let no : true ≡ false = sym is ∙ going in absurd cc)))
          (subst (λ v. IsAll most v left' rest) going over.all)
          (subst (λ v. ReadsOn most v b.held (bytes_of rest) mid left') going over.on)
    ]
