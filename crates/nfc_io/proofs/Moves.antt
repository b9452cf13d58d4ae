-- Several moves of bytes make one.
use Rattle.std.proofs.Common.{◌≡◌, ℕ, ◌+◌, ◌≤◌, ◌++◌, List, length, take, drop, refl, arith, Option, Some, ap, None, [], append_assoc, append-nil, ◌∙◌, sym, length-append}
use Rattle.std.proofs.Math.Seq.{take-add, take-append-add}
use Rattle.std.proofs.lemmas.List.{take-append-le}
use Rattle.nfc_io.specs.Moves.{with_front, with_end, GainsFront}

pub with_end-append : (o : Option (List ℕ)) (xs ys : List ℕ) → with_end (with_end o xs) ys ≡ with_end o (xs ++ ys)
with_end-append None xs ys = refl
with_end-append (Some a) xs ys = ap Some (append_assoc a xs ys)

pub with_end-nil : (o : Option (List ℕ)) → with_end o [] ≡ o
with_end-nil None = refl
with_end-nil (Some a) = ap Some (append-nil a)

pub with_front-append : (xs ys : List ℕ) (o : Option (List ℕ)) → with_front xs (with_front ys o) ≡ with_front (xs ++ ys) o
with_front-append xs ys None = refl
with_front-append xs ys (Some a) = ap Some (sym (append_assoc xs ys a))

pub with_front-nil : (o : Option (List ℕ)) → with_front [] o ≡ o
with_front-nil None = refl
with_front-nil (Some a) = refl

-- two reads read the bytes of both
pub read_on : (a b c : Option (List ℕ)) (xs ys : List ℕ) → a ≡ with_front xs b → b ≡ with_front ys c → a ≡ with_front (xs ++ ys) c
read_on a b c xs ys first then = first ∙ ap (with_front xs) then ∙ with_front-append xs ys c

-- two writes write the bytes of both
pub write_on : (a b c : Option (List ℕ)) (xs ys : List ℕ) → b ≡ with_end a xs → c ≡ with_end b ys → c ≡ with_end a (xs ++ ys)
write_on a b c xs ys first then = then ∙ ap (λ o. with_end o ys) first ∙ with_end-append a xs ys

-- a source that tells its bytes keeps telling them
pub told_after : (bytes got : List ℕ) (o : Option (List ℕ)) → Some bytes ≡ with_front got o → (rest : List ℕ) × (o ≡ Some rest) × (bytes ≡ got ++ rest)
told_after bytes got None is = absurd cc
told_after bytes got (Some rest) is = (rest, refl, cc)

-- a front of some bytes is a front of more
pub GainsFront-more : (a b : Option (List ℕ)) (xs ys : List ℕ) → GainsFront a b xs → GainsFront a b (xs ++ ys)
GainsFront-more a b xs ys front =
    let same : take front.size (xs ++ ys) ≡ take front.size xs = take-append-le front.size xs ys (omega (arith, front.partial)) in
    record {
      size = front.size;
      partial = grind (arith, length-append, front.partial);
      gained = front.gained ∙ ap (with_end a) (sym same);
    }

-- all of some bytes and a front of those behind them are a front of both
pub GainsFront-after : (a b c : Option (List ℕ)) (xs ys : List ℕ) → b ≡ with_end a xs → GainsFront b c ys → GainsFront a c (xs ++ ys)
GainsFront-after a b c xs ys all front =
    let joined : take (length xs + front.size) (xs ++ ys) ≡ xs ++ take front.size ys = take-append-add xs ys front.size in
    record {
      size = length xs + front.size;
      partial = grind (arith, length-append, front.partial);
      gained = write_on a b c xs (take front.size ys) all front.gained ∙ ap (with_end a) (sym joined);
    }

-- one more piece of some bytes gained
pub gained : (o a b : Option (List ℕ)) (bytes : List ℕ) (i n : ℕ) → i + n ≤ length bytes → a ≡ with_end o (take i bytes) → b ≡ with_end a (take n (drop i bytes)) → b ≡ with_end o (take (i + n) bytes)
gained o a b bytes i n le first then = write_on o a b (take i bytes) (take n (drop i bytes)) first then ∙ ap (with_end o) (sym (take-add i n bytes))

pub ruleset moves = (with_end-append, with_end-nil, gained)

-- what callers of `write_all` chain their writes by
pub ruleset writes = (write_on, GainsFront-more, GainsFront-after)

-- what callers of `read` chain their reads by
pub ruleset reads = (with_front-nil, read_on, told_after)
