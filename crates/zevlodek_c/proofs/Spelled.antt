-- A log begins with one turn at most, and what stands behind it is shorter.
use Rattle.std.proofs.Common.{◌≡◌, ℕ, ◌<◌, ◌+◌, ◌-◌, List, [], ◌∷◌, ◌++◌, length, take, take_all, drop, subst, sym, ap, ◌∙◌, refl, arith, append_assoc, length-append, inl, inr}
use Rattle.nfc_base.specs.Signal.{Signal, IsSignal, IsBadTail}
use Rattle.nfc_base.specs.declared.frame.Tech.{Tech}
use Rattle.tag_steps.specs.declared.turn.Turn.{Turn}
use Rattle.zevlodek_c.specs.Log.{SpellsTurn, SpellsTurns, counted}
use Rattle.zevlodek_c.proofs.Counted.{same_bytes, same_rest}

pub shorter : (tech : Tech) (t : Turn) (log rest : List ℕ) → SpellsTurn tech t log rest → length rest < length log
shorter tech t log rest s =
    let inner : length (counted t.answer.bytes ++ rest) ≡ length (counted t.answer.bytes) + length rest = length-append (counted t.answer.bytes) rest in
    let outer : length (counted t.command.bytes ++ (counted t.answer.bytes ++ rest)) ≡ length (counted t.command.bytes) + length (counted t.answer.bytes ++ rest)
    = length-append (counted t.command.bytes) (counted t.answer.bytes ++ rest) in
    omega (arith, ap length s.bytes, inner, outer)

-- two turns that begin a log leave the same rest
pub one_rest : (tech : Tech) (t u : Turn) (log r s : List ℕ) → SpellsTurn tech t log r → SpellsTurn tech u log s → r ≡ s
one_rest tech t u log r s a b =
    let e : counted t.command.bytes ++ (counted t.answer.bytes ++ r) ≡ counted u.command.bytes ++ (counted u.answer.bytes ++ s) = ap (drop 1) (sym a.bytes ∙ b.bytes) in
    same_rest t.answer.bytes u.answer.bytes r s (same_rest t.command.bytes u.command.bytes (counted t.answer.bytes ++ r) (counted u.answer.bytes ++ s) e)

-- one turn more is behind those that were read
pub read_more : (tech : Tech) (before : List Turn) (t : Turn) (log rest left : List ℕ) → SpellsTurn tech t rest left
    → ((ts : List Turn) → SpellsTurns tech ts rest → SpellsTurns tech (before ++ ts) log)
    → (ts : List Turn) → SpellsTurns tech ts left → SpellsTurns tech ((before ++ t ∷ []) ++ ts) log
read_more tech before t log rest left s whole ts more =
    subst (λ (all : List Turn). SpellsTurns tech all log) (sym (append_assoc before (t ∷ []) ts)) (whole (t ∷ ts) (left, s, more))

-- what spells the rest spells what is left of it behind a turn
pub left_over : (tech : Tech) (t : Turn) (rest left : List ℕ) → SpellsTurn tech t rest left
    → (ts : List Turn) → SpellsTurns tech ts rest → (more : List Turn) × SpellsTurns tech more left
left_over tech t rest left s [] e = absurd (omega (arith, ap length e, shorter tech t rest left s))
left_over tech t rest left s (u ∷ ts) (other, b, more) =
    (ts, subst (λ (l : List ℕ). SpellsTurns tech ts l) (sym (one_rest tech t u rest left other s b)) more)

-- where no bytes stand, no turn does
pub none_in_rest : (tech : Tech) (rest : List ℕ) → ((t : Turn) (left : List ℕ) → SpellsTurn tech t rest left → ⊥)
    → (ts : List Turn) → (rest ≡ [] → ⊥) → SpellsTurns tech ts rest → ⊥
none_in_rest tech rest none [] some e = some e
none_in_rest tech rest none (t ∷ ts) some (left, s, more) = none t left s

tail_whole : (log : List ℕ) → take (length log - 1) (drop 1 log) ≡ drop 1 log
tail_whole [] = refl
tail_whole (x ∷ xs) = take_all (length (x ∷ xs) - 1) xs (omega arith)

tail_bytes : (tech : Tech) (t : Turn) (log rest : List ℕ) → SpellsTurn tech t log rest
    → take (length log - 1) (drop 1 log) ≡ counted t.command.bytes ++ (counted t.answer.bytes ++ rest)
tail_bytes tech t log rest s = tail_whole log ∙ ap (drop 1) s.bytes

-- what stands behind the command is the answer, and then the rest
pub behind_command : (tech : Tech) (t : Turn) (log rest asked left : List ℕ) → SpellsTurn tech t log rest
    → take (length log - 1) (drop 1 log) ≡ counted asked ++ left → left ≡ counted t.answer.bytes ++ rest
behind_command tech t log rest asked left s e =
    same_rest asked t.command.bytes left (counted t.answer.bytes ++ rest) (sym e ∙ tail_bytes tech t log rest s)

pub said_is : (tech : Tech) (t : Turn) (log rest asked left said more : List ℕ) → SpellsTurn tech t log rest
    → take (length log - 1) (drop 1 log) ≡ counted asked ++ left → left ≡ counted said ++ more → said ≡ t.answer.bytes
said_is tech t log rest asked left said more s e f =
    same_bytes said t.answer.bytes more rest (sym f ∙ behind_command tech t log rest asked left s e)

-- a frame isn't refused for its last byte
pub right_tail : (f : Signal) → IsSignal f → IsBadTail f.bytes f.tail → ⊥
right_tail f s (inl high) = absurd (omega (arith, high, s.small))
right_tail f s (inr (some, inl none)) = absurd (omega (arith, none, s.held some))
right_tail f s (inr (some, inr set)) = absurd (omega (arith, set, s.unused some))

pub no_bytes : (l : List ℕ) → length l ≡ 0 → l ≡ []
no_bytes [] e = refl
no_bytes (x ∷ xs) e = absurd (omega (arith, e))

pub some_bytes : (l : List ℕ) → (length l ≡ 0 → ⊥) → l ≡ [] → ⊥
some_bytes l some e = some (ap length e)
