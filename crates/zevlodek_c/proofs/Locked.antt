-- What a step of a Type 2 tag in C's memory comes to.
use Rattle.std.proofs.Common.{◌≡◌, ℕ, suc, ◌==◌, List, [], ◌∷◌, length, Bool, true, false, nat_le, if◌then◌else◌, Option, Some, None, refl, sym, ap, subst, ◌∙◌}
use Rattle.std.proofs.lemmas.Option.{none-some}
use Rattle.nfc_base.specs.Signal.{Signal}
use Rattle.t2t_tag.specs.declared.command.T2Command.{T2Command}
use Rattle.t2t_tag.specs.Store.{T2Memory, locked_too, unlocked}
use Rattle.t2t_tag.specs.Step.{reply_frame, held_after, t2_answer, t2_after, t2_reply}
use Rattle.t2t_tag.specs.Spelling.{spelled_command, answer_frame}
use Rattle.zevlodek_c.specs.declared.showing.Told.{Told}
use Rattle.zevlodek_c.specs.Codes.{done, silent}
use Rattle.zevlodek_c.specs.Showing.{shows, answers}
use Rattle.zevlodek_c.specs.Tags.{locked_from, t2_held, t2_stepped, answered}

one_lock : (m : T2Memory) (block : ℕ) (free : Bool) → (if free then m else locked_too m block).store ≡ m.store
one_lock m block true = refl
one_lock m block false = refl

pub same_store : (m : T2Memory) (block : ℕ) (bs : List ℕ) → (locked_from locked_too m block bs).store ≡ m.store
same_store m block [] = refl
same_store m block (b ∷ bs) = same_store (if b == 0 then m else locked_too m block) (suc block) bs ∙ one_lock m block (b == 0)

pub held_store : (memory locks : List ℕ) → (t2_held memory locks).store ≡ memory
held_store memory locks = same_store (unlocked memory) 0 locks

silent_by : (m : T2Memory) (o : Option T2Command) → reply_frame m o ≡ None → held_after m o ≡ m
silent_by m None e = refl
silent_by m (Some c) e = absurd (none-some (answer_frame (t2_reply m c)) (sym e))

-- a silent tag holds what it held
pub silent_step : (memory locks out : List ℕ) (told : Told) (f : Signal) → t2_answer (t2_held memory locks) f ≡ None
    → record { kept = memory; seen = answers silent out told } ≡ t2_stepped memory locks f out told
silent_step memory locks out told f e =
    let stays : memory ≡ (t2_after (t2_held memory locks) f).store =
    sym (ap (λ (m : T2Memory). m.store) (silent_by (t2_held memory locks) (spelled_command f) e) ∙ held_store memory locks) in
    ap (λ (m : List ℕ). answered None memory m out told) stays
    ∙ sym (ap (λ (o : Option Signal). answered o memory (t2_after (t2_held memory locks) f).store out told) e)

-- one that answers holds what its step leaves, where there was room for the answer
pub answered_step : (memory locks out : List ℕ) (told : Told) (f reply : Signal) (mem : List ℕ) → t2_answer (t2_held memory locks) f ≡ Some reply
    → mem ≡ (if nat_le (length reply.bytes) (length out) then (t2_after (t2_held memory locks) f).store else memory)
    → record { kept = mem; seen = shows done reply.bytes out (record told { bits = reply.tail }) } ≡ t2_stepped memory locks f out told
answered_step memory locks out told f reply mem e held =
    ap (λ (m : List ℕ). record { kept = m; seen = shows done reply.bytes out (record told { bits = reply.tail }) }) held
    ∙ sym (ap (λ (o : Option Signal). answered o memory (t2_after (t2_held memory locks) f).store out told) e)

pub with_room : (fits : Bool) (x y z : List ℕ) → fits ≡ true → x ≡ y → x ≡ (if fits then y else z)
with_room fits x y z e p = subst (λ (b : Bool). x ≡ (if b then y else z)) (sym e) p

pub without_room : (fits : Bool) (x y z : List ℕ) → fits ≡ false → x ≡ z → x ≡ (if fits then y else z)
without_room fits x y z e p = subst (λ (b : Bool). x ≡ (if b then y else z)) (sym e) p
