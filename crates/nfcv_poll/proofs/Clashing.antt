-- Where tags clash in a round, two of them at least have its mask and this slot.
use Rattle.std.proofs.Common.{◌≡◌, ◌⊎◌, inl, inr, ◌≤◌, ℕ, ◌+◌, ◌*◌, List, [], ◌∷◌, length, map, filter_map, Bool, true, false, ◌&&◌, nat_eq, if◌then◌else◌, Option, Some, None, refl, sym, ◌∙◌, ap}
use Rattle.std.proofs.Common.{subst, arith}
use Rattle.std.specs.List.{cons_option}
use Rattle.std.specs.Cmp.Lexicographic.{pointwise}
use Rattle.nfc_base.specs.declared.frame.Tech.{Tech}
use Rattle.nfc_base.specs.declared.frame.Tech.TheVariants.{A, V, F}
use Rattle.nfc_base.specs.Signal.{Signal}
use Rattle.air_core.specs.Joint.{Clashing, joint, same_tech}
use Rattle.air_core.specs.World.{Machine, answered_by, stepped_by}
use Rattle.nfca_poll.specs.Crowd.{Each}
use Rattle.nfca_poll.specs.Muted.{muted}
use Rattle.t5t_tag.specs.declared.answer.T5Answer.{T5Answer}
use Rattle.t5t_tag.specs.Mask.{mask_of}
use Rattle.t5t_tag.specs.Slots.{slot_of}
use Rattle.t5t_tag.specs.Step.{sent, t5_turn, t5_after}
use Rattle.t5t_tag.specs.Store.{T5State}
use Rattle.t5t_tag.proofs.Bytes.{bytes_self}
use Rattle.nfcv_poll.specs.declared.mask.Mask.{Mask}
use Rattle.nfcv_poll.specs.Tags.{StepAsTags, id_if, tag_ids}
use Rattle.nfcv_poll.proofs.Forks.{Fork, shares, sharing, one_if}
use Rattle.nfcv_poll.proofs.Standing.{said_tag, said_other, stepped_tag, stepped_other}
use Rattle.nfcv_poll.proofs.Together.{mask_bytes, Answers, InRound, Turns}

-- one frame alone is no clash
two_at_least : (gs : List Signal) (k : Signal) → joint gs ≡ Clashing k → 2 ≤ length gs
two_at_least [] k e = absurd cc
two_at_least (g ∷ []) k e = absurd cc
two_at_least (g ∷ h ∷ gs) k e = omega arith

module _ {L : Type 0} (m : Machine L) (tag : L → T5State) (lit : L → Bool) (are : StepAsTags m tag lit) (ids : List (List ℕ)) where
  -- a tag in the light, in this round or in none
  pub record IsWith (n : Mask) (current : ℕ) (l : L) : Type 0 where
    pub lit' : lit l ≡ true
    pub at : InRound n current (tag l) (tag l).round

  abbrev pub AreWith : Mask → ℕ → List L → Type 0
  AreWith n current ls = Each (λ l. m.tech l ≡ V → IsWith n current l) ls

  -- A frame of NFC-V, at which each tag makes a turn in a round.
  module _ (f : Signal) (of_v : f.tech ≡ V) (n : Mask) (current : ℕ) where
    abbrev next : L → L
    next l = stepped_by (muted m) l f None

    abbrev saying : L → Option Signal
    saying l = answered_by (muted m) l f None

    pub record IsTurning (l : L) : Type 0 where
      pub lit' : lit l ≡ true
      pub turn : Turns n current (tag l) (t5_turn (tag l) f)

    abbrev pub AreTurning : List L → Type 0
    AreTurning ls = Each (λ l. m.tech l ≡ V → IsTurning l) ls

    -- behind it they are in this round still
    pub still_with : (ls : List L) → AreTurning ls → AreWith n current (map next ls)
    still_with [] h = tt
    still_with (l ∷ ls) h = (one (m.tech l) refl, still_with ls h.1)
      where
        on : IsTurning l → m.tech l ≡ V → IsWith n current (m.after l f None)
        on t e =
            let g = are.goes l f e t.lit' in
            let at : (u : T5State) → u ≡ t5_after (tag l) f → InRound n current u u.round = λ u q. subst (λ v. InRound n current v v.round) (sym q) t.turn.after in
            record { lit' = g.0; at = at (tag (m.after l f None)) g.1 }

        one : (t : Tech) → m.tech l ≡ t → m.tech (next l) ≡ V → IsWith n current (next l)
        one A e v = absurd (let no_ : A ≡ V = sym e ∙ ap m.tech (sym (stepped_other m tag lit are ids f of_v l A refl e)) ∙ v in cc)
        one F e v = absurd (let no_ : F ≡ V = sym e ∙ ap m.tech (sym (stepped_other m tag lit are ids f of_v l F refl e)) ∙ v in cc)
        one V e v = subst (IsWith n current) (sym (stepped_tag m tag lit are ids f of_v l e)) (on (h.0 e) e)

    -- who answers has the mask and the slot
    module _ (depth : ℕ) (long : n.bits ≡ 4 * depth) where
      abbrev pub fork : Fork
      fork = record { depth = depth; mask = mask_bytes n; slot = current }

      shares_it : (t : T5State) → Answers n current t → shares t.id fork ≡ true
      shares_it t a =
          let mask : mask_bytes n ≡ mask_of t.id (4 * depth) = a.mask ∙ ap (λ b. mask_of t.id b) long in
          let slot : slot_of t.id (4 * depth) ≡ current = ap (λ b. slot_of t.id b) (sym long) ∙ a.slot in
          ap (λ x. pointwise nat_eq x (mask_of t.id (4 * depth)) && nat_eq (slot_of t.id (4 * depth)) current) mask
          ∙ ap (λ v. v && nat_eq (slot_of t.id (4 * depth)) current) (bytes_self (mask_of t.id (4 * depth)))
          ∙ ap (λ x. nat_eq x current) slot
          ∙ same_self current
        where
          same_self : (k : ℕ) → nat_eq k k ≡ true
          same_self k = grind arith

      answered_share : (ls : List L) → AreTurning ls → length (filter_map saying ls) ≤ sharing fork (tag_ids m tag ls)
      answered_share [] h = omega arith
      answered_share (l ∷ ls) h = one (m.tech l) refl (answered_share ls h.1)
        where
          by_answer : (a : Option T5Answer) → ((a ≡ None) ⊎ Answers n current (tag l)) → length (filter_map saying ls) ≤ sharing fork (tag_ids m tag ls)
              → length (cons_option (sent a) (filter_map saying ls)) ≤ one_if (shares (tag l).id fork) + sharing fork (tag_ids m tag ls)
          by_answer None h rest = omega (arith, rest)
          by_answer (Some a) (inl nothing) rest = absurd cc
          by_answer (Some a) (inr both) rest = rw (shares_it (tag l) both) (omega (arith, rest))

          by_other : (t : Tech) → same_tech V t ≡ false → m.tech l ≡ t → length (filter_map saying ls) ≤ sharing fork (tag_ids m tag ls)
              → length (cons_option (saying l) (filter_map saying ls)) ≤ sharing fork (cons_option (id_if m tag l) (tag_ids m tag ls))
          by_other t apart e rest =
              let C : Option Signal → Option (List ℕ) → Type 0 = λ o i. length (cons_option o (filter_map saying ls)) ≤ sharing fork (cons_option i (tag_ids m tag ls)) in
              let none : saying l ≡ None = said_other m tag lit are ids f of_v l t apart e in
              let other : id_if m tag l ≡ None = ap (λ v. if v then Some (tag l).id else None) (ap (same_tech V) e ∙ apart) in
              subst (λ o. C o (id_if m tag l)) (sym none) (subst (λ i. C None i) (sym other) rest)

          one : (t : Tech) → m.tech l ≡ t → length (filter_map saying ls) ≤ sharing fork (tag_ids m tag ls)
              → length (cons_option (saying l) (filter_map saying ls)) ≤ sharing fork (cons_option (id_if m tag l) (tag_ids m tag ls))
          one A e rest = by_other A refl e rest
          one F e rest = by_other F refl e rest
          one V e rest =
              let C : Option Signal → Option (List ℕ) → Type 0 = λ o i. length (cons_option o (filter_map saying ls)) ≤ sharing fork (cons_option i (tag_ids m tag ls)) in
              let t = h.0 e in
              let said : saying l ≡ sent (t5_turn (tag l) f).answer = said_tag m tag lit are ids f of_v l e ∙ are.answers l f e t.lit' in
              let its : id_if m tag l ≡ Some (tag l).id = ap (λ t. if same_tech V t then Some (tag l).id else None) e in
              subst (λ o. C o (id_if m tag l)) (sym said) (subst (λ i. C (sent (t5_turn (tag l) f).answer) i) (sym its) (by_answer (t5_turn (tag l) f).answer t.turn.answers rest))

      -- Where they clash, two of them at least have its mask and this slot.
      pub clash_shares : (ls : List L) (k : Signal) → AreTurning ls → joint (filter_map saying ls) ≡ Clashing k → 2 ≤ sharing fork (tag_ids m tag ls)
      clash_shares ls k h e = omega (arith, two_at_least (filter_map saying ls) k e, answered_share ls h)
