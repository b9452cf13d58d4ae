-- Who is in a round took the last request of slots that reached it, and has heard the same requests for the next slot
-- since: so tags that answer together have a common mask, and common next four bits.
use Rattle.std.proofs.Common.{◌≡◌, ◌⊎◌, inl, inr, ℕ, ◌+◌, List, take, Bool, true, false, not, ◌&&◌, nat_eq, nat_le, if◌then◌else◌, Option, Some, None, refl, sym, ◌∙◌, ap}
use Rattle.std.specs.Int.{w64, to_le_bytes}
use Rattle.std.specs.Cmp.Lexicographic.{pointwise}
use Rattle.t5t_tag.specs.declared.answer.T5Answer.TheVariants.{Present}
use Rattle.t5t_tag.specs.declared.command.T5Command.TheVariants.{NextSlot, Inventory}
use Rattle.t5t_tag.specs.declared.round.Round.{Round}
use Rattle.t5t_tag.specs.Mask.{mask_size, mask_of, asks_for, most_bits}
use Rattle.t5t_tag.specs.Slots.{slot_of, asks_in_slots, begun, is_own, last_slot, most_slot_bits}
use Rattle.t5t_tag.specs.Spelling.{command_frame}
use Rattle.t5t_tag.specs.Step.{T5Turn, silent, tells, in_slot, next_round, t5_turn, out_of_round}
use Rattle.t5t_tag.specs.Store.{T5State}
use Rattle.t5t_tag.proofs.Bytes.{equal_bytes}
use Rattle.nfcv_poll.specs.declared.mask.Mask.{Mask}
use Rattle.nfcv_poll.specs.Masks.{slots_frame}
use Rattle.nfcv_poll.proofs.Forks.{right_true, same_number}

-- the bytes of a mask as they are sent
abbrev pub mask_bytes : Mask → List ℕ
mask_bytes n = take (mask_size n.bits) (to_le_bytes w64 n.value)

-- A tag is in no round, or in that of this mask, in this slot, which asks for it.
pub record IsAt (n : Mask) (current : ℕ) (t : T5State) (r : Round) : Type 0 where
  pub asked : asks_in_slots t.id n.bits (mask_bytes n) ≡ true
  pub slot : r.slot ≡ slot_of t.id n.bits
  pub current' : r.current ≡ current

abbrev pub InRound : Mask → ℕ → T5State → Option Round → Type 0
InRound n current t None = Unit {0}
InRound n current t (Some r) = IsAt n current t r

-- it answers only where it is in the round, and this is its slot
pub record Answers (n : Mask) (current : ℕ) (t : T5State) : Type 0 where
  pub mask : mask_bytes n ≡ mask_of t.id n.bits
  pub slot : slot_of t.id n.bits ≡ current

-- a turn in a round: the tag is in it behind it, or in none, and answers only in its slot
pub record Turns (n : Mask) (current : ℕ) (t : T5State) (r : T5Turn) : Type 0 where
  pub after : InRound n current r.after r.after.round
  pub answers : (r.answer ≡ None) ⊎ Answers n current t

-- who is asked for by a mask has it as its lowest bits
asked_mask : (id : List ℕ) (n : Mask) → asks_in_slots id n.bits (mask_bytes n) ≡ true → mask_bytes n ≡ mask_of id n.bits
asked_mask id n h =
    let asks : asks_for id n.bits (mask_bytes n) ≡ true = right_true (nat_le n.bits most_slot_bits) (asks_for id n.bits (mask_bytes n)) h in
    equal_bytes (mask_bytes n) (mask_of id n.bits) (right_true (nat_le n.bits most_bits) (pointwise nat_eq (mask_bytes n) (mask_of id n.bits)) asks)

in_slot_turns : (n : Mask) (current : ℕ) (t : T5State) (r : Round) → IsAt n current t r → Turns n current t (in_slot t (Some r))
in_slot_turns n current t r at = record { after = record { asked = at.asked; slot = at.slot; current' = at.current' }; answers = by_own (is_own r) refl }
  where
    by_own : (v : Bool) → is_own r ≡ v → ((if v then Some (Present t.id) else None) ≡ None) ⊎ Answers n current t
    by_own true e = inr (record { mask = asked_mask t.id n at.asked; slot = sym at.slot ∙ sym (same_number r.current r.slot e) ∙ at.current' })
    by_own false e = inl refl

-- a request of slots begins its round, whatever a tag was in before
pub begins_together : (n : Mask) (t : T5State) → Turns n 0 t (t5_turn t (slots_frame n))
begins_together n t = same (by_asked (not u.quiet && asks_in_slots u.id n.bits (mask_bytes n)) refl)
  where
    u : T5State
    u = out_of_round t

    quiet_one : Turns n 0 u (silent u)
    quiet_one = record { after = tt; answers = inl refl }

    by_asked : (v : Bool) → (not u.quiet && asks_in_slots u.id n.bits (mask_bytes n)) ≡ v
        → Turns n 0 u (if v then in_slot u (Some (begun (slot_of u.id n.bits))) else silent u)
    by_asked true e =
        in_slot_turns n 0 u (begun (slot_of u.id n.bits))
        (record { asked = right_true (not u.quiet) (asks_in_slots u.id n.bits (mask_bytes n)) e; slot = refl; current' = refl })
    by_asked false e = quiet_one

    same : Turns n 0 u (t5_turn t (slots_frame n)) → Turns n 0 t (t5_turn t (slots_frame n))
    same k = record { after = k.after; answers = by_answer k.answers }
      where
        by_answer : ((t5_turn t (slots_frame n)).answer ≡ None) ⊎ Answers n 0 u → ((t5_turn t (slots_frame n)).answer ≡ None) ⊎ Answers n 0 t
        by_answer (inl none) = inl none
        by_answer (inr a) = inr (record { mask = a.mask; slot = a.slot })

-- a request for the next slot moves it on
pub moves_together : (n : Mask) (current : ℕ) (t : T5State) → InRound n current t t.round → Turns n (current + 1) t (t5_turn t (command_frame NextSlot))
moves_together n current t at = by_round t.round at
  where
    nowhere : Turns n (current + 1) t (in_slot t None)
    nowhere = record { after = tt; answers = inl refl }

    moved : (r : Round) → IsAt n current t r → (v : Bool) → Turns n (current + 1) t (in_slot t (if v then None else Some (record r { current = r.current + 1 })))
    moved r at true = nowhere
    moved r at false =
        in_slot_turns n (current + 1) t (record r { current = r.current + 1 })
        (record { asked = at.asked; slot = at.slot; current' = ap (λ c. c + 1) at.current' })

    by_round : (o : Option Round) → InRound n current t o → Turns n (current + 1) t (in_slot t (next_round o))
    by_round None at = nowhere
    by_round (Some r) at = moved r at (nat_le last_slot r.current)

-- a question who is left ends a tag's round
pub ends_together : (t : T5State) (mask : List ℕ) → (t5_turn t (command_frame (Inventory 0 mask))).after.round ≡ None
ends_together t mask = by_asked (not t.quiet && asks_for t.id 0 (take (mask_size 0) mask))
  where
    u : T5State
    u = out_of_round t

    by_asked : (v : Bool) → (if v then tells u (Present u.id) else silent u).after.round ≡ None
    by_asked true = refl
    by_asked false = refl
