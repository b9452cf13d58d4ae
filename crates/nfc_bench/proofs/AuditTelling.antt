-- Lines that tell what an audit found, gathered part by part.
use Rattle.std.proofs.Common.{◌≡◌, ℕ, suc, ◌+◌, ◌-◌, ◌<◌, ◌≤◌, ◌/◌, ◌%◌, List, [], ◌∷◌, ◌++◌, length, get_or, slice_index, take, drop, Option, sym, ◌∙◌, ap, subst, refl, arith, append_assoc}
use Rattle.std.proofs.Common.{append-nil}
use Rattle.std.specs.List.{flat_map}
use Rattle.std.proofs.Math.Seq.{drop-cons}
use Rattle.std.proofs.lemmas.List.{drop_all}
use Rattle.hex.specs.Hex.{encode_upper, upper_digits}
use Rattle.hex.proofs.Pairs.{encode_with-drop}
use Rattle.nfc_io.specs.Moves.{with_end, GainsFront}
use Rattle.nfc_io.proofs.Moves.{write_on, GainsFront-more}
use Rattle.snep_core.specs.Server.{Received as Accepted, messages_of, sources_of}
use Rattle.bench_world.specs.Legal.{State}
use Rattle.bench_world.proofs.lines.Joined.{upper_nil, upper_split}
use Rattle.nfc_bench.specs.AuditText.{accepted_line, link_text, links_text, messages_text}
use Rattle.nfc_bench.specs.Gathering.{IsWritten}
use Rattle.nfc_bench.proofs.Writing.{both_written, then_cut}

-- one part behind another
pub part_written : (h0 a h1 b h2 : List ℕ) (t t1 t2 : Option (List ℕ)) → IsWritten (h0 ++ a) h1 t t1 → IsWritten (h1 ++ b) h2 t1 t2 → IsWritten (h0 ++ (a ++ b)) h2 t t2
part_written h0 a h1 b h2 t t1 t2 first then = subst (λ x. IsWritten x h2 t t2) (append_assoc h0 a b) (both_written (h0 ++ a) b h1 h2 t t1 t2 first then)

-- a front of the second
pub part_cut : (h0 a h1 b : List ℕ) (t t1 t2 : Option (List ℕ)) → IsWritten (h0 ++ a) h1 t t1 → GainsFront t1 t2 (h1 ++ b) → GainsFront t t2 (h0 ++ (a ++ b))
part_cut h0 a h1 b t t1 t2 first front = subst (λ x. GainsFront t t2 x) (append_assoc h0 a b) (then_cut (h0 ++ a) b h1 t t1 t2 first front)

-- a front of the first
pub first_cut : (h0 a b : List ℕ) (t t1 : Option (List ℕ)) → GainsFront t t1 (h0 ++ a) → GainsFront t t1 (h0 ++ (a ++ b))
first_cut h0 a b t t1 front = subst (λ x. GainsFront t t1 x) (append_assoc h0 a b) (GainsFront-more t t1 (h0 ++ a) b front)

-- what is left is written too
pub rest_told : (text held : List ℕ) (t t1 t2 : Option (List ℕ)) → IsWritten text held t t1 → t2 ≡ with_end t1 held → t2 ≡ with_end t text
rest_told text held t t1 t2 w is = write_on t t1 t2 w.given held w.taken is ∙ ap (with_end t) (sym w.parts)

-- the two digits of one byte more
pub digits_more : (bytes piece piece1 piece2 all : List ℕ) (i x y : ℕ) → i < length bytes → x ≡ slice_index upper_digits (slice_index bytes i / 16)
    → y ≡ slice_index upper_digits (slice_index bytes i % 16) → piece ++ encode_upper (drop i bytes) ≡ all → piece1 ≡ piece ++ x ∷ [] → piece2 ≡ piece1 ++ y ∷ []
    → piece2 ++ encode_upper (drop (i + 1) bytes) ≡ all
digits_more bytes piece piece1 piece2 all i x y within first second before one two =
    let rest : List ℕ = encode_upper (drop (i + 1) bytes) in
    let high : ℕ = slice_index upper_digits (slice_index bytes i / 16) in
    let next : encode_upper (drop i bytes) ≡ x ∷ y ∷ rest =
    encode_with-drop upper_digits bytes i within ∙ ap (λ k. high ∷ k ∷ rest) (sym second) ∙ ap (λ k. k ∷ y ∷ rest) (sym first) in
    let put : piece2 ≡ piece ++ x ∷ y ∷ [] = two ∙ ap (λ p. p ++ y ∷ []) one ∙ append_assoc piece (x ∷ []) (y ∷ []) in
    ap (λ p. p ++ rest) put ∙ append_assoc piece (x ∷ y ∷ []) rest ∙ ap (λ e. piece ++ e) (sym next) ∙ before

pub digits_done : (bytes piece all : List ℕ) (i : ℕ) → length bytes ≤ i → piece ++ encode_upper (drop i bytes) ≡ all → piece ≡ all
digits_done bytes piece all i over is =
    let none : encode_upper (drop i bytes) ≡ [] = ap encode_upper (drop_all i bytes over) ∙ upper_nil in
    sym (append-nil piece) ∙ ap (λ x. piece ++ x) (sym none) ∙ is

-- the digits of a front of some bytes, and of the rest
pub digits_parted : (n : ℕ) (left front rest : List ℕ) → front ≡ take n left → rest ≡ drop n left → encode_upper left ≡ encode_upper front ++ encode_upper rest
digits_parted n left front rest first last =
    upper_split n left ∙ ap (λ x. encode_upper x ++ encode_upper (drop n left)) (sym first) ∙ ap (λ x. encode_upper front ++ encode_upper x) (sym last)

-- no digits are left
pub digits_over : (text held left : List ℕ) (t t1 : Option (List ℕ)) → IsWritten text (held ++ encode_upper left) t t1 → left ≡ [] → IsWritten text held t t1
digits_over text held left t t1 w none =
    subst (λ x. IsWritten text x t t1) (ap (λ x. held ++ encode_upper x) none ∙ ap (λ x. held ++ x) upper_nil ∙ append-nil held) w

-- the lines of a link's messages from one on
pub messages_next : (link i : ℕ) (ms : List (List ℕ)) (ss d : List ℕ) → i < length ms → length ss ≡ length ms
    → messages_text link (drop i ms) (drop i ss) ≡ accepted_line link (record { source = get_or ss i 0; message = get_or ms i d }) ++ messages_text link (drop (i + 1) ms) (drop (i + 1) ss)
messages_next link i ms ss d within same =
    let one : suc i ≡ i + 1 = omega arith in
    let heads : drop i ms ≡ get_or ms i d ∷ drop (i + 1) ms = drop-cons ms i d within ∙ ap (λ k. get_or ms i d ∷ drop k ms) one in
    let tails : drop i ss ≡ get_or ss i 0 ∷ drop (i + 1) ss = drop-cons ss i 0 (omega (arith, within, same)) ∙ ap (λ k. get_or ss i 0 ∷ drop k ss) one in
    ap (λ x. messages_text link x (drop i ss)) heads ∙ ap (λ x. messages_text link (get_or ms i d ∷ drop (i + 1) ms) x) tails

-- they are those of what was accepted
pub messages_are : (link : ℕ) (all : List Accepted) → messages_text link (messages_of all) (sources_of all) ≡ flat_map (accepted_line link) all
messages_are link [] = refl
messages_are link (r ∷ rs) = ap (λ x. accepted_line link r ++ x) (messages_are link rs)

-- the lines of one link more
pub links_next : (s : State) (i n : ℕ) → i < n → links_text s (i + 1) (n - i) ≡ link_text s (i + 1) ++ links_text s (i + 1 + 1) (n - (i + 1))
links_next s i n within =
    let count : n - i ≡ suc (n - (i + 1)) = omega arith in
    ap (links_text s (i + 1)) count
