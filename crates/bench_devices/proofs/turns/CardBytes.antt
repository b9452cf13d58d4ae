-- The blocks of a reader that asks a command of bytes are bytes.
use Rattle.std.proofs.Common.{◌≡◌, ℕ, zero, suc, ◌<◌, List, [], ◌∷◌, ◌++◌, take, length, nat_lt, Bool, true, false, if◌then◌else◌, Option, None, refl, sym, subst, arith}
use Rattle.nfc_base.specs.Signal.{Signal}
use Rattle.isodep_link.specs.declared.block.Block.{Block}
use Rattle.isodep_link.specs.declared.block.Block.TheVariants.{Ack, Nak, Extend}
use Rattle.isodep_link.specs.Blocks.{piece, block_frame, block_bytes, pcb, info_sort, chained_sort}
use Rattle.isodep_link.specs.Card.{CardState}
use Rattle.nfc_base.specs.Pieces.{Core}
use Rattle.isodep_link.specs.Reader.{ReaderState, asked, request}
use Rattle.isodep_link.proofs.Heeding.{AreBytes, no_bytes}
use Rattle.isodep_link.proofs.Standing as law

pub cons_bytes : (x : ℕ) (xs : List ℕ) → x < 256 → AreBytes xs → AreBytes (x ∷ xs)
cons_bytes x xs h q zero = h
cons_bytes x xs h q (suc i) = q i

pub tail_bytes : (x : ℕ) (xs : List ℕ) → AreBytes (x ∷ xs) → AreBytes xs
tail_bytes x xs q i = q (suc i)

pub behind_bytes : (xs ys : List ℕ) → AreBytes (xs ++ ys) → AreBytes ys
behind_bytes [] ys q = q
behind_bytes (x ∷ xs) ys q = behind_bytes xs ys (tail_bytes x (xs ++ ys) q)

pub front_bytes : (xs ys : List ℕ) → AreBytes (xs ++ ys) → AreBytes xs
front_bytes [] ys q = no_bytes
front_bytes (x ∷ xs) ys q = cons_bytes x xs (q zero) (front_bytes xs ys (tail_bytes x (xs ++ ys) q))

take_bytes : (n : ℕ) (xs : List ℕ) → AreBytes xs → AreBytes (take n xs)
take_bytes zero xs q = no_bytes
take_bytes (suc n) [] q = no_bytes
take_bytes (suc n) (x ∷ xs) q = cons_bytes x (take n xs) (q zero) (take_bytes n xs (tail_bytes x xs q))

abbrev IsOfBytes : Block → Type 0
IsOfBytes b = AreBytes (block_bytes b)

ack_bytes : (n : ℕ) → IsOfBytes (Ack n)
ack_bytes n = cons_bytes _ [] (omega arith) no_bytes

nak_bytes : (n : ℕ) → IsOfBytes (Nak n)
nak_bytes n = cons_bytes _ [] (omega arith) no_bytes

extend_bytes : (n : ℕ) → n < 256 → IsOfBytes (Extend n)
extend_bytes n h = cons_bytes _ (n ∷ []) (omega arith) (cons_bytes n [] h no_bytes)

piece_bytes : (most n : ℕ) (xs : List ℕ) → AreBytes xs → IsOfBytes (piece most n xs)
piece_bytes most n xs q = cons_bytes _ (take most xs) (by_more (nat_lt most (length xs))) (take_bytes most xs q)
  where
    by_more : (v : Bool) → pcb (if v then chained_sort else info_sort) n < 256
    by_more true = omega arith
    by_more false = omega arith

-- the block of a wait without an extension
asked_bytes : (c : Core) → c.extension ≡ None → (drawing : Bool) → c.drawing ≡ drawing → (drawing ≡ false → AreBytes c.rest) → IsOfBytes (request c)
asked_bytes c plain true e q = subst (λ o. IsOfBytes (asked c o)) (sym plain) (subst (λ v. IsOfBytes (if v then Ack c.number else piece c.most c.number c.rest)) (sym e) (ack_bytes c.number))
asked_bytes c plain false e q =
    subst (λ o. IsOfBytes (asked c o)) (sym plain) (subst (λ v. IsOfBytes (if v then Ack c.number else piece c.most c.number c.rest)) (sym e) (piece_bytes c.most c.number c.rest (q refl)))

of_frame : (f : Signal) (b : Block) → f ≡ block_frame b → IsOfBytes b → AreBytes f.bytes
of_frame f b e q = subst (λ (g : Signal). AreBytes g.bytes) (sym e) q

-- whatever is sent in an exchange of a command of bytes
pub sent_bytes : (m k : ℕ) (out : List ℕ) (i : ReaderState) (t : CardState) (g : Option (List ℕ)) (f : Signal) (n : ℕ) → law.Ask m k out i t g f n → AreBytes out → AreBytes f.bytes
sent_bytes m k out i t g f n (law.asks p e z h b) q =
    of_frame f (request i.core) e (asked_bytes i.core h.plain false h.sending (λ d. behind_bytes t.chain i.core.rest (subst AreBytes (sym h.joins) q)))
sent_bytes m k out i t g f n (law.draws p e h b) q = of_frame f (request i.core) e (asked_bytes i.core h.plain true h.receiving (λ d. absurd (let clash : true ≡ false = d in cc)))
sent_bytes m k out i t g f n (law.draws_again p e d w h) q = of_frame f (request i.core) e (asked_bytes i.core w true d (λ x. absurd (let clash : true ≡ false = x in cc)))
sent_bytes m k out i t g f n (law.naks p e z h b) q = of_frame f (Nak i.core.number) e (nak_bytes i.core.number)
sent_bytes m k out i t g f n (law.naks_held p e d h) q = of_frame f (Nak i.core.number) e (nak_bytes i.core.number)
sent_bytes m k out i t g f n (law.grants p e w z h b) q =
    let small : t.times < 256 = omega (arith, h.bounds.longest) in
    of_frame f (request i.core) e (subst (λ o. IsOfBytes (asked i.core o)) (sym w) (extend_bytes t.times small))
