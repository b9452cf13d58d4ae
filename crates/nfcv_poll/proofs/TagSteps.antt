-- What the requests of a search do to a Type 5 tag: it says nothing but its own identifier, and is quiet only by its name.
use Rattle.std.proofs.Common.{◌≡◌, ◌⊎◌, inl, inr, ℕ, List, ◌∷◌, length, take, drop, Bool, true, false, not, ◌==◌, ◌&&◌, if◌then◌else◌, Option, Some, None, refl, sym, ◌∙◌, ap}
use Rattle.std.proofs.lemmas.List.{length-reverse, reverse-reverse}
use Rattle.std.proofs.Math.Seq.{take-length}
use Rattle.t5t_tag.specs.declared.answer.T5Answer.TheVariants.{Present}
use Rattle.t5t_tag.specs.declared.command.T5Command.TheVariants.{Quiet, NextSlot, Inventory}
use Rattle.t5t_tag.specs.declared.round.Round.{Round}
use Rattle.std.specs.Int.{w64, to_le_bytes}
use Rattle.t5t_tag.specs.Mask.{low_first, mask_size, asks_for}
use Rattle.t5t_tag.specs.Slots.{slot_of, asks_in_slots, begun, is_own}
use Rattle.t5t_tag.specs.Spelling.{inventory_code, quiet_code, command_frame}
use Rattle.t5t_tag.specs.Step.{T5Turn, silent, tells, obeyed, names, addressed, inventory, out_of_round, own_answer, in_slot, slots, next_round, t5_turn}
use Rattle.t5t_tag.specs.Store.{T5State, id_size}
use Rattle.t5t_tag.proofs.Bytes.{equal_bytes}
use Rattle.t5t_tag.proofs.Turns.{hushes, by_test}
use Rattle.nfcv_poll.specs.declared.mask.Mask.{Mask}
use Rattle.nfcv_poll.specs.Masks.{slots_frame}

-- a turn in which a tag says nothing or its identifier, and is as quiet as it was
pub record Speaks (t : T5State) (r : T5Turn) : Type 0 where
  pub says : (r.answer ≡ None) ⊎ (r.answer ≡ Some (Present t.id))
  pub id : r.after.id ≡ t.id
  pub quiet : r.after.quiet ≡ t.quiet

speaks_silent : (t : T5State) → Speaks t (silent t)
speaks_silent t = record { says = inl refl; id = refl; quiet = refl }

speaks_present : (t : T5State) → Speaks t (tells t (Present t.id))
speaks_present t = record { says = inr refl; id = refl; quiet = refl }

speaks_slot : (t : T5State) (o : Option Round) → Speaks t (in_slot t o)
speaks_slot t o = record { says = own o; id = refl; quiet = refl }
  where
    by_own : (v : Bool) → ((if v then Some (Present t.id) else None) ≡ None) ⊎ ((if v then Some (Present t.id) else None) ≡ Some (Present t.id))
    by_own true = inr refl
    by_own false = inl refl

    own : (o : Option Round) → (own_answer t o ≡ None) ⊎ (own_answer t o ≡ Some (Present t.id))
    own None = inl refl
    own (Some r) = by_own (is_own r)

speaks_slots : (t : T5State) (bits : ℕ) (mask : List ℕ) → Speaks t (slots t (inventory_code ∷ bits ∷ mask))
speaks_slots t bits mask =
    by_test (Speaks t) (not t.quiet && asks_in_slots t.id bits mask) (in_slot t (Some (begun (slot_of t.id bits)))) (silent t)
    (λ h. speaks_slot t (Some (begun (slot_of t.id bits))))
    (λ h. speaks_silent t)

speaks_inventory : (t : T5State) (bits : ℕ) (mask : List ℕ) → Speaks t (inventory t (inventory_code ∷ bits ∷ mask))
speaks_inventory t bits mask =
    by_test (Speaks t) (not t.quiet && asks_for t.id bits mask) (tells t (Present t.id)) (silent t) (λ h. speaks_present t) (λ h. speaks_silent t)

-- the same of the tag that may have been in a round
in_round : (t : T5State) (r : T5Turn) → Speaks (out_of_round t) r → Speaks t r
in_round t r s = record { says = s.says; id = s.id; quiet = s.quiet }

pub at_slots : (t : T5State) (m : Mask) → Speaks t (t5_turn t (slots_frame m))
at_slots t m = in_round t (t5_turn t (slots_frame m)) (speaks_slots (out_of_round t) m.bits (take (mask_size m.bits) (to_le_bytes w64 m.value)))

pub at_next : (t : T5State) → Speaks t (t5_turn t (command_frame NextSlot))
at_next t = speaks_slot t (next_round t.round)

pub at_question : (t : T5State) (mask : List ℕ) → Speaks t (t5_turn t (command_frame (Inventory 0 mask)))
at_question t mask = in_round t (t5_turn t (command_frame (Inventory 0 mask))) (speaks_inventory (out_of_round t) 0 (take (mask_size 0) mask))

-- STAY QUIET: a tag is silent, and quiet where it was so or is named
pub record Hushed (t : T5State) (id : List ℕ) (r : T5Turn) : Type 0 where
  pub says : r.answer ≡ None
  pub id' : r.after.id ≡ t.id
  pub quiet : r.after.quiet ≡ true → (t.quiet ≡ true) ⊎ (id ≡ t.id)
  pub round : r.after.round ≡ None

at_hush : (t : T5State) (id : List ℕ) → length id ≡ id_size → t.round ≡ None → Hushed t id (addressed t (quiet_code ∷ low_first id))
at_hush t id eight out = by_names (names t (low_first id)) refl
  where
    long : length (low_first id) ≡ id_size
    long = length-reverse id ∙ eight

    whole : take id_size (low_first id) ≡ low_first id
    whole = ap (λ n. take n (low_first id)) (sym long) ∙ take-length (low_first id)

    same_id : names t (low_first id) ≡ true → id ≡ t.id
    same_id h =
        let low : low_first id ≡ low_first t.id = sym whole ∙ equal_bytes (take id_size (low_first id)) (low_first t.id) h in
        sym (reverse-reverse id) ∙ ap low_first low ∙ reverse-reverse t.id

    by_names : (v : Bool) → names t (low_first id) ≡ v
        → Hushed t id (if not v then silent t else if (quiet_code == quiet_code) && (length (low_first id) == id_size) then hushes t else obeyed t quiet_code (drop id_size (low_first id)))
    by_names false h = record { says = refl; id' = refl; quiet = λ q. inl q; round = out }
    by_names true h = rw long (record { says = refl; id' = refl; quiet = λ q. inr (same_id h); round = out })

pub at_quiet : (t : T5State) (id : List ℕ) → length id ≡ id_size → Hushed t id (t5_turn t (command_frame (Quiet id)))
at_quiet t id eight =
    let h : Hushed (out_of_round t) id (addressed (out_of_round t) (quiet_code ∷ low_first id)) = at_hush (out_of_round t) id eight refl in
    record { says = h.says; id' = h.id'; quiet = h.quiet; round = h.round }
