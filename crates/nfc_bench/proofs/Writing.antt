-- An entry's text is gathered in pieces, and written.
use Rattle.std.proofs.Common.{◌≡◌, ℕ, suc, ◌+◌, ◌<◌, List, ◌∷◌, ◌++◌, length, get_or, drop, Option, sym, ◌∙◌, ap, subst, arith, append_assoc}
use Rattle.std.specs.Prelude.{Result, Ok, Err, OnErr, OnOk}
use Rattle.std.specs.List.{flat_map}
use Rattle.std.proofs.Math.Seq.{drop-cons}
use Rattle.nfc_io.specs.Moves.{with_end, GainsFront}
use Rattle.nfc_io.proofs.Moves.{write_on, GainsFront-more, GainsFront-after}
use Rattle.nfc_base.specs.declared.event.Event.{Event}
use Rattle.bench_world.specs.Report.{event_text, events_text, line_text}
use Rattle.nfc_bench.specs.Gathering.{IsWritten}

-- what is left is gathered, then a piece, then the rest
split_so : (given held piece rest : List ℕ) → given ++ (held ++ (piece ++ rest)) ≡ (given ++ (held ++ piece)) ++ rest
split_so given held piece rest = ap (λ x. given ++ x) (sym (append_assoc held piece rest)) ∙ sym (append_assoc given (held ++ piece) rest)

-- one piece more
pub piece_written : (text held piece rest held' : List ℕ) (t t1 t2 : Option (List ℕ)) → IsWritten text (held ++ (piece ++ rest)) t t1 → IsWritten (held ++ piece) held' t1 t2
    → IsWritten text (held' ++ rest) t t2
piece_written text held piece rest held' t t1 t2 w p = record {
  given = w.given ++ p.given;
  parts = w.parts ∙ split_so w.given held piece rest ∙ ap (λ x. (w.given ++ x) ++ rest) p.parts
      ∙ ap (λ x. x ++ rest) (sym (append_assoc w.given p.given held')) ∙ append_assoc (w.given ++ p.given) held' rest;
  taken = write_on t t1 t2 w.given p.given w.taken p.taken;
}

-- a front of one piece more
pub piece_cut : (text held piece rest : List ℕ) (t t1 t2 : Option (List ℕ)) → IsWritten text (held ++ (piece ++ rest)) t t1 → GainsFront t1 t2 (held ++ piece) → GainsFront t t2 text
piece_cut text held piece rest t t1 t2 w front =
    let G : List ℕ → Type 0 = λ x. GainsFront t t2 x in
    subst G (sym (w.parts ∙ split_so w.given held piece rest))
    (GainsFront-more t t2 (w.given ++ (held ++ piece)) rest (GainsFront-after t t1 t2 w.given (held ++ piece) w.taken front))

-- what is left is gathered, and some of it written: the rest stands behind what is held then
pub room_written : (text held rest held' : List ℕ) (t t1 t2 : Option (List ℕ)) → IsWritten text (held ++ rest) t t1 → IsWritten held held' t1 t2 → IsWritten text (held' ++ rest) t t2
room_written text held rest held' t t1 t2 w p = record {
  given = w.given ++ p.given;
  parts = w.parts ∙ ap (λ x. w.given ++ (x ++ rest)) p.parts ∙ ap (λ x. w.given ++ x) (append_assoc p.given held' rest)
      ∙ sym (append_assoc w.given p.given (held' ++ rest));
  taken = write_on t t1 t2 w.given p.given w.taken p.taken;
}

-- a front of what is held
pub held_cut : (text held rest : List ℕ) (t t1 t2 : Option (List ℕ)) → IsWritten text (held ++ rest) t t1 → GainsFront t1 t2 held → GainsFront t t2 text
held_cut text held rest t t1 t2 w front =
    let G : List ℕ → Type 0 = λ x. GainsFront t t2 x in
    subst G (sym w.parts) (GainsFront-after t t1 t2 w.given (held ++ rest) w.taken (GainsFront-more t1 t2 held rest front))

-- the first of what is left is held
pub line_held : (text held line rest held' : List ℕ) (t t1 : Option (List ℕ)) → IsWritten text (held ++ (line ++ rest)) t t1 → held' ≡ held ++ line → IsWritten text (held' ++ rest) t t1
line_held text held line rest held' t t1 w is =
    subst (λ x. IsWritten text x t t1) (sym (ap (λ x. x ++ rest) is ∙ append_assoc held line rest)) w

-- One text behind another.
pub both_written : (first then held held' : List ℕ) (t t1 t2 : Option (List ℕ)) → IsWritten first held t t1 → IsWritten (held ++ then) held' t1 t2 → IsWritten (first ++ then) held' t t2
both_written first then held held' t t1 t2 w p = record {
  given = w.given ++ p.given;
  parts = ap (λ x. x ++ then) w.parts ∙ append_assoc w.given held then ∙ ap (λ x. w.given ++ x) p.parts ∙ sym (append_assoc w.given p.given held');
  taken = write_on t t1 t2 w.given p.given w.taken p.taken;
}

pub then_cut : (first then held : List ℕ) (t t1 t2 : Option (List ℕ)) → IsWritten first held t t1 → GainsFront t1 t2 (held ++ then) → GainsFront t t2 (first ++ then)
then_cut first then held t t1 t2 w front =
    let G : List ℕ → Type 0 = λ x. GainsFront t t2 x in
    subst G (sym (ap (λ x. x ++ then) w.parts ∙ append_assoc w.given held then)) (GainsFront-after t t1 t2 w.given (held ++ then) w.taken front)

-- a front of what was left
pub rest_cut : (text held : List ℕ) (t t1 t2 : Option (List ℕ)) → IsWritten text held t t1 → GainsFront t1 t2 held → GainsFront t t2 text
rest_cut text held t t1 t2 w front =
    let G : List ℕ → Type 0 = λ x. GainsFront t t2 x in
    subst G (sym w.parts) (GainsFront-after t t1 t2 w.given held w.taken front)

-- the lines from an event on
pub event_next : (n i : ℕ) (es : List Event) (d : Event) → i < length es → events_text n (drop i es) ≡ line_text n (event_text (get_or es i d)) ++ events_text n (drop (i + 1) es)
event_next n i es d within =
    let one : suc i ≡ i + 1 = omega arith in
    ap (flat_map (λ e. line_text n (event_text e))) (drop-cons es i d within ∙ ap (λ k. get_or es i d ∷ drop k es) one)

-- a text of which the first part is written as a whole
pub behind_written : (held piece held' : List ℕ) (t t1 t2 : Option (List ℕ)) → t1 ≡ with_end t held → IsWritten piece held' t1 t2 → IsWritten (held ++ piece) held' t t2
behind_written held piece held' t t1 t2 first w = record {
  given = held ++ w.given;
  parts = ap (λ x. held ++ x) w.parts ∙ sym (append_assoc held w.given held');
  taken = write_on t t1 t2 held w.given first w.taken;
}

-- what a fault leaves is said of faults alone, and what comes of none of the others
pub on_ok_too : {T E : Type 0} (r : Result T E) (P Q : Type 0) → (P → Q) → OnOk r P → OnOk r Q
on_ok_too (Ok x) P Q f p = f p
on_ok_too (Err e) P Q f p = p

pub on_err : {T E : Type 0} (r : Result T E) (P : Type 0) → P → OnErr r P
on_err (Ok x) P p = tt
on_err (Err e) P p = p

pub on_err_too : {T E : Type 0} (r : Result T E) (P Q : Type 0) → (P → Q) → OnErr r P → OnErr r Q
on_err_too (Ok x) P Q f p = tt
on_err_too (Err e) P Q f p = f p
