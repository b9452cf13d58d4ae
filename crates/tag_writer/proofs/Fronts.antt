-- What the first writes behind a phase leave.
use Rattle.std.proofs.Common.{◌≡◌, ℕ, suc, ◌+◌, ◌<◌, ◌≤◌, List, [], ◌∷◌, ◌++◌, length, take, refl, sym, ◌∙◌, ap, subst, append-nil, arith}
use Rattle.std.proofs.lemmas.List.{length-append, take-append-le}
use Rattle.tag_writer.specs.declared.phase.Phase.{Phase}
use Rattle.tag_writer.specs.declared.phase.Phase.TheVariants.{Prepared, Emptied, Filled}
use Rattle.tag_writer.specs.Puts.{Put, after_puts}
use Rattle.tag_writer.specs.Law.{IsEmptied, IsWritten}
use Rattle.tag_writer.specs.Ends.{Stands}
use Rattle.tag_writer.specs.Phases.{WriteJob, Serves, made_at, next_at}
use Rattle.tag_writer.proofs.Places.{after_append}
use Rattle.tag_writer.proofs.Going.{Kinds, Empty, New}

none_of : (ps : List Put) → length ps ≡ 0 → ps ≡ []
none_of [] e = refl
none_of (p ∷ ps) e = absurd (omega (arith, e))

-- a part of one write at most has nothing before that write, and nothing behind it
alone : (ps front rest : List Put) (p : Put) → length ps ≤ 1 → ps ≡ front ++ p ∷ rest → (front ≡ []) × (rest ≡ [])
alone ps front rest p few e =
    let long : length ps ≡ length front + suc (length rest) = ap length e ∙ length-append front (p ∷ rest) in
    (none_of front (omega (arith, few, long)), none_of rest (omega (arith, few, long)))

take_one : (ps front rest : List Put) (p : Put) → ps ≡ front ++ p ∷ rest → take (suc (length front)) ps ≡ front ++ p ∷ []
take_one ps [] rest p e = ap (λ xs. take 1 xs) e
take_one ps (q ∷ front) rest p e = ap (λ xs. take (suc (suc (length front))) xs) e ∙ ap (λ xs. q ∷ xs) (take_one (front ++ p ∷ rest) front rest p refl)

take_front : (ps front rest : List Put) → ps ≡ front ++ rest → take (length front) ps ≡ front
take_front ps [] rest e = refl
take_front ps (q ∷ front) rest e = ap (λ xs. take (suc (length front)) xs) e ∙ ap (λ xs. q ∷ xs) (take_front (front ++ rest) front rest refl)

take_some : (ps front rest : List Put) (n : ℕ) → ps ≡ front ++ rest → n ≤ length front → take n ps ≡ take n front
take_some ps front rest n e low = ap (λ xs. take n xs) e ∙ take-append-le n front rest low

-- behind the close and a front of fill
pub filled_empty : (j : WriteJob) → Serves j → (n : ℕ) → IsEmptied j.how j.size j.place j.store (after_puts (after_puts j.store j.parts.close) (take n j.parts.fill))
filled_empty j s n = subst (IsEmptied j.how j.size j.place j.store) (after_append j.store j.parts.close (take n j.parts.fill)) (s.empty n)

closed_empty : (j : WriteJob) → Serves j → IsEmptied j.how j.size j.place j.store (after_puts j.store j.parts.close)
closed_empty j s = subst (λ ps. IsEmptied j.how j.size j.place j.store (after_puts j.store ps)) (append-nil j.parts.close) (s.empty 0)

whole_take : (ps : List Put) → take (length ps) ps ≡ ps
whole_take ps = take_front ps ps [] (sym (append-nil ps))

-- each front of what follows a phase leaves the empty message, where another write follows
pub front_empty : (phase : Phase) (j : WriteJob) → Serves j → (front rest : List Put) (p : Put) → next_at phase j ≡ front ++ p ∷ rest → (n : ℕ) → n < length front →
    IsEmptied j.how j.size j.place j.store (after_puts (after_puts j.store (made_at phase j)) (take (suc n) front))
front_empty Prepared j s front rest p e n low = absurd (let none = (alone j.parts.close front rest p s.first e).0 in omega (arith, ap length none, low))
front_empty Emptied j s front rest p e n low =
    subst (λ ps. IsEmptied j.how j.size j.place j.store (after_puts (after_puts j.store j.parts.close) ps)) (take_some j.parts.fill front (p ∷ rest) (suc n) e (omega (arith, low)))
    (filled_empty j s (suc n))
front_empty Filled j s front rest p e n low = absurd (let none = (alone j.parts.last front rest p s.last e).0 in omega (arith, ap length none, low))

-- all of it, but behind the last phase
pub next_empty : (phase : Phase) (j : WriteJob) → Serves j → (phase ≡ Filled → ⊥) → (n : ℕ) → n < length (next_at phase j) →
    IsEmptied j.how j.size j.place j.store (after_puts (after_puts j.store (made_at phase j)) (take (suc n) (next_at phase j)))
next_empty Prepared j s not n low =
    let one : suc n ≡ length j.parts.close = omega (arith, s.first, low) in
    subst (λ ps. IsEmptied j.how j.size j.place j.store (after_puts j.store ps)) (sym (ap (λ k. take k j.parts.close) one ∙ whole_take j.parts.close)) (closed_empty j s)
next_empty Emptied j s not n low = filled_empty j s (suc n)
next_empty Filled j s not n low = absurd (not refl)

-- one write more leaves the empty message, or at the end the new one
pub kind_next : (phase : Phase) (j : WriteJob) (x : List ℕ) → Serves j → (front rest : List Put) (p : Put) → next_at phase j ≡ front ++ p ∷ rest →
    Kinds j x (after_puts (after_puts j.store (made_at phase j)) (front ++ p ∷ []))
kind_next Prepared j x s front rest p e =
    let none = alone j.parts.close front rest p s.first e in
    let same : j.parts.close ≡ front ++ p ∷ [] = e ∙ ap (λ ps. front ++ p ∷ ps) none.1 in
    Empty (subst (λ ps. IsEmptied j.how j.size j.place j.store (after_puts j.store ps)) same (closed_empty j s))
kind_next Emptied j x s front rest p e =
    Empty (subst (λ ps. IsEmptied j.how j.size j.place j.store (after_puts (after_puts j.store j.parts.close) ps)) (take_one j.parts.fill front rest p e) (filled_empty j s (suc (length front))))
kind_next Filled j x s front rest p e =
    let none = alone j.parts.last front rest p s.last e in
    let same : j.parts.last ≡ front ++ p ∷ [] = e ∙ ap (λ ps. front ++ p ∷ ps) none.1 in
    New (subst (λ t. IsWritten j.how j.size j.message j.place j.store t) (after_append j.store (j.parts.close ++ j.parts.fill) j.parts.last
    ∙ ap (after_puts (after_puts j.store (j.parts.close ++ j.parts.fill))) same) s.new)

-- what stands behind a front
pub front_stands : (phase : Phase) (j : WriteJob) → Serves j → (front rest : List Put) (p : Put) → next_at phase j ≡ front ++ p ∷ rest → Stands phase j (after_puts j.store (made_at phase j ++ front))
front_stands Prepared j s front rest p e = ap (after_puts j.store) (alone j.parts.close front rest p s.first e).0
front_stands Emptied j s front rest p e =
    subst (λ ps. IsEmptied j.how j.size j.place j.store (after_puts j.store (j.parts.close ++ ps))) (take_front j.parts.fill front (p ∷ rest) e) (s.empty (length front))
front_stands Filled j s front rest p e =
    let none = (alone j.parts.last front rest p s.last e).0 in
    subst (λ ps. IsEmptied j.how j.size j.place j.store (after_puts j.store ps))
    (ap (λ ps. j.parts.close ++ ps) (whole_take j.parts.fill) ∙ sym (append-nil (j.parts.close ++ j.parts.fill)) ∙ ap (λ ps. (j.parts.close ++ j.parts.fill) ++ ps) (sym none))
    (s.empty (length j.parts.fill))
