-- One step of a tag whose memory C keeps, and of a Type 2 tag (this project's own; the table is that of the tag's
-- crate).
use Rattle.std.specs.Prelude.{◌≡◌, ℕ, ℤ, suc, ◌≤◌, ◌==◌, ◌⊎◌, List, [], ◌∷◌, length, Option, Some, None}
use Rattle.std.specs.Prelude.{nat_le, if◌then◌else◌, Bool, not}
use Rattle.nfc_base.specs.Signal.{Signal, IsBadTail, part_a}
use Rattle.t2t_tag.specs.Store.{T2Memory, IsT2Store, block_count, locked_too, unlocked}
use Rattle.t2t_tag.specs.Step.{t2_answer, t2_after}
use Rattle.zevlodek_c.specs.declared.showing.Told.{Told}
use Rattle.zevlodek_c.specs.Codes.{done, silent, bad_argument, no_memory}
use Rattle.zevlodek_c.specs.Showing.{Seen, shows, answers}

-- whether a number says that something is so
abbrev pub is_set : ℕ → Bool
is_set n = not (n == 0)

-- a tag with each block locked whose byte isn't 0, from this block on
abbrev pub locked_from : {M : Type 0} → (M → ℕ → M) → M → ℕ → List ℕ → M
locked_from locks m block [] = m
locked_from locks m block (b ∷ bs) = locked_from locks (if b == 0 then m else locks m block) (suc block) bs

-- the tag that holds these bytes, with a byte for each block
abbrev pub t2_held : List ℕ → List ℕ → T2Memory
t2_held memory locks = locked_from locked_too (unlocked memory) 0 locks

-- What may be handed in: the store of a tag, a byte for each of its blocks, and a frame.
pub record IsT2Asked (memory locks command : List ℕ) (bits : ℕ) : Type 0 where
  pub store : IsT2Store memory
  pub locks' : length locks ≡ block_count memory
  pub fits : length command ≤ 288
  pub bits' : IsBadTail command bits → ⊥

-- what C sees behind a step, and what it keeps of the tag
pub record Stepped (K : Type 0) : Type 0 where
  pub kept : K
  pub seen : Seen

-- An answer with so many bits in its last byte, and what is kept then. Where the answer has no room nothing was done.
abbrev pub answered_with : {K : Type 0} → List ℕ → ℕ → K → K → List ℕ → Told → Stepped K
answered_with bytes bits before after out told = record {
  kept = if nat_le (length bytes) (length out) then after else before;
  seen = shows done bytes out (record told { bits = bits });
}

-- the tag's answer, if it has one
abbrev pub answered : {K : Type 0} → Option Signal → K → K → List ℕ → Told → Stepped K
answered None before after out told = record { kept = after; seen = answers silent out told }
answered (Some f) before after out told = answered_with f.bytes f.tail before after out told

abbrev pub t2_stepped : List ℕ → List ℕ → Signal → List ℕ → Told → Stepped (List ℕ)
t2_stepped memory locks command out told =
    answered (t2_answer (t2_held memory locks) command) memory (t2_after (t2_held memory locks) command).store out told

-- nothing was done
abbrev pub undone : {K : Type 0} → ℤ → K → List ℕ → Told → Stepped K
undone answer kept out told = record { kept = kept; seen = answers answer out told }

-- What a step does: of a tag that may be handed in, its table's step; of what isn't one, nothing.
pub record T2Steps (memory locks command : List ℕ) (bits : ℕ) (out : List ℕ) (told : Told) (after : Stepped (List ℕ))
    : Type 0
  where
    pub taken : IsT2Asked memory locks command bits
        → (after ≡ t2_stepped memory locks (part_a command bits) out told) ⊎ (after ≡ undone no_memory memory out told)
    pub refused : (IsT2Asked memory locks command bits → ⊥)
        → (after ≡ undone bad_argument memory out told) ⊎ (after ≡ undone no_memory memory out told)
