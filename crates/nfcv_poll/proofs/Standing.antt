-- How a search stands to the tags of its field: what it found are theirs, and a quiet one is found.
use Rattle.std.proofs.Common.{◌≡◌, ◌⊎◌, inl, inr, ℕ, List, [], ◌∷◌, map, filter_map, Bool, true, false, if◌then◌else◌, Option, Some, None, refl, sym, ◌∙◌, ap, subst}
use Rattle.std.specs.List.{cons_option}
use Rattle.nfc_base.specs.declared.frame.Tech.{Tech}
use Rattle.nfc_base.specs.declared.frame.Tech.TheVariants.{A, V, F}
use Rattle.nfc_base.specs.Signal.{Signal}
use Rattle.air_core.specs.Joint.{same_tech}
use Rattle.air_core.specs.World.{hears, Machine, answered_by, stepped_by}
use Rattle.nfca_poll.specs.Crowd.{Each}
use Rattle.nfca_poll.specs.Muted.{mute_reply, muted}
use Rattle.nfca_poll.proofs.quiet.Eaches.{each_map, IfSaid, said_each}
use Rattle.t5t_tag.specs.declared.answer.T5Answer.TheVariants.{Present}
use Rattle.t5t_tag.specs.Spelling.{answer_frame}
use Rattle.t5t_tag.specs.Step.{sent, t5_turn, t5_answer, t5_after}
use Rattle.t5t_tag.specs.Store.{T5State}
use Rattle.nfcv_poll.specs.Search.{with_id}
use Rattle.nfcv_poll.specs.Tags.{IsOneOf, StepAsTags, id_if, tag_ids}
use Rattle.nfcv_poll.proofs.Members.{stays}
use Rattle.nfcv_poll.proofs.TagSteps.{Speaks, Hushed}

-- an answer that tells one of these identifiers
abbrev pub TellsOne : List (List ℕ) → Signal → Type 0
TellsOne ids g = (i : List ℕ) × IsOneOf i ids × (g ≡ answer_frame (Present i))

-- what a request of a search does to a tag: it tells nothing but its identifier, and one that is quiet then was so, or is one of these
pub record Fares (found : List (List ℕ)) (t : T5State) (f : Signal) : Type 0 where
  pub says : ((t5_turn t f).answer ≡ None) ⊎ ((t5_turn t f).answer ≡ Some (Present t.id))
  pub id : (t5_after t f).id ≡ t.id
  pub quiet : (t5_after t f).quiet ≡ true → (t.quiet ≡ true) ⊎ IsOneOf t.id found

pub fares_on : (found : List (List ℕ)) (t : T5State) (f : Signal) → Speaks t (t5_turn t f) → Fares found t f
fares_on found t f s = record { says = s.says; id = s.id; quiet = λ q. inl (sym s.quiet ∙ q) }

pub fares_hushed : (found : List (List ℕ)) (id : List ℕ) (t : T5State) (f : Signal) → IsOneOf id found → Hushed t id (t5_turn t f) → Fares found t f
fares_hushed found id t f one h = record { says = inl h.says; id = h.id'; quiet = λ q. named (h.quiet q) }
  where
    named : (t.quiet ≡ true) ⊎ (id ≡ t.id) → (t.quiet ≡ true) ⊎ IsOneOf t.id found
    named (inl q) = inl q
    named (inr e) = inr (subst (λ i. IsOneOf i found) e one)

module _ {L : Type 0} (m : Machine L) (tag : L → T5State) (lit : L → Bool) (are : StepAsTags m tag lit) (ids : List (List ℕ)) where
  -- a tag in the light, which is found where it is quiet
  pub record IsPlaced (found : List (List ℕ)) (l : L) : Type 0 where
    pub lit' : lit l ≡ true
    pub quiet : (tag l).quiet ≡ true → IsOneOf (tag l).id found
    pub own : IsOneOf (tag l).id ids

  abbrev pub ArePlaced : List (List ℕ) → List L → Type 0
  ArePlaced found ls = Each (λ l. m.tech l ≡ V → IsPlaced found l) ls

  -- with one found more they are so still
  pub placed_more : (found : List (List ℕ)) (id : List ℕ) (ls : List L) → ArePlaced found ls → ArePlaced (with_id found id) ls
  placed_more found id ls h =
      each_map (λ l. m.tech l ≡ V → IsPlaced found l) (λ l. m.tech l ≡ V → IsPlaced (with_id found id) l)
      (λ l k e. (let p = k e in record { lit' = p.lit'; quiet = λ q. stays found id (tag l).id (p.quiet q); own = p.own })) ls h

  -- a reset wakes them, and none is quiet
  abbrev pub relit : L → L
  relit l = (muted m).woken ((muted m).darkened l)

  pub placed_reset : (found : List (List ℕ)) (ls : List L) → Each (λ l. m.tech l ≡ V → IsOneOf (tag l).id ids) ls → ArePlaced found (map relit ls)
  placed_reset found [] h = tt
  placed_reset found (l ∷ ls) h = ((λ e. one (sym (are.woken_tech l) ∙ e)), placed_reset found ls h.1)
    where
      one : m.tech l ≡ V → IsPlaced found (relit l)
      one e =
          let w = are.woken l e in
          record {
            lit' = w.0;
            quiet = λ q. absurd (let no_ : false ≡ true = sym (ap (λ t. t.quiet) w.1) ∙ q in cc);
            own = subst (λ i. IsOneOf i ids) (sym (ap (λ t. t.id) w.1)) (h.0 e);
          }

  pub ids_reset : (ls : List L) → tag_ids m tag (map relit ls) ≡ tag_ids m tag ls
  ids_reset [] = refl
  ids_reset (l ∷ ls) = ap cons_first (one (m.tech l) refl) ∙ ap (λ is. cons_option (id_if m tag l) is) (ids_reset ls)
    where
      cons_first : Option (List ℕ) → List (List ℕ)
      cons_first o = cons_option o (tag_ids m tag (map relit ls))

      one : (t : Tech) → m.tech l ≡ t → id_if m tag (relit l) ≡ id_if m tag l
      one A e = ap (λ t. if same_tech V t then Some (tag (relit l)).id else None) (are.woken_tech l ∙ e) ∙ sym (ap (λ t. if same_tech V t then Some (tag l).id else None) e)
      one F e = ap (λ t. if same_tech V t then Some (tag (relit l)).id else None) (are.woken_tech l ∙ e) ∙ sym (ap (λ t. if same_tech V t then Some (tag l).id else None) e)
      one V e =
          ap (λ t. if same_tech V t then Some (tag (relit l)).id else None) (are.woken_tech l ∙ e)
          ∙ ap (λ (t : T5State). Some t.id) (are.woken l e).1
          ∙ sym (ap (λ t. if same_tech V t then Some (tag l).id else None) e)

  -- A frame of NFC-V that the tags hear: each fares well at it.
  module _ (f : Signal) (of_v : f.tech ≡ V) where
    abbrev pub next : L → L
    next l = stepped_by (muted m) l f None

    abbrev pub says : L → Option Signal
    says l = answered_by (muted m) l f None

    -- of a listener of NFC-V it is the step of its tag, and another one doesn't hear it
    pub stepped_tag : (l : L) → m.tech l ≡ V → next l ≡ m.after l f None
    stepped_tag l e =
        ap (λ t. if same_tech t f.tech then m.after l f (mute_reply (m.handed l f)) else l) e
        ∙ ap (λ t. if same_tech V t then m.after l f (mute_reply (m.handed l f)) else l) of_v
        ∙ ap (λ u. m.after l f (mute_reply u)) (are.untouched l f e)

    pub said_tag : (l : L) → m.tech l ≡ V → says l ≡ m.answer l f None
    said_tag l e =
        ap (λ t. if same_tech t f.tech then m.answer l f (mute_reply (m.handed l f)) else None) e
        ∙ ap (λ t. if same_tech V t then m.answer l f (mute_reply (m.handed l f)) else None) of_v
        ∙ ap (λ u. m.answer l f (mute_reply u)) (are.untouched l f e)

    not_heard : (l : L) (t : Tech) → same_tech V t ≡ false → m.tech l ≡ t → hears m l f ≡ false
    not_heard l t apart e = ap (λ u. same_tech u f.tech) e ∙ ap (same_tech t) of_v ∙ turned t apart
      where
        turned : (u : Tech) → same_tech V u ≡ false → same_tech u V ≡ false
        turned A n = refl
        turned V n = n
        turned F n = refl

    pub stepped_other : (l : L) (t : Tech) → same_tech V t ≡ false → m.tech l ≡ t → next l ≡ l
    stepped_other l t apart e = ap (λ v. if v then m.after l f (mute_reply (m.handed l f)) else l) (not_heard l t apart e)

    pub said_other : (l : L) (t : Tech) → same_tech V t ≡ false → m.tech l ≡ t → says l ≡ None
    said_other l t apart e = ap (λ v. if v then m.answer l f (mute_reply (m.handed l f)) else None) (not_heard l t apart e)

    pub same_ids : (found : List (List ℕ)) → ((t : T5State) → Fares found t f) → (ls : List L) → ArePlaced found ls → tag_ids m tag (map next ls) ≡ tag_ids m tag ls
    same_ids found fares [] h = refl
    same_ids found fares (l ∷ ls) h =
        ap (λ o. cons_option o (tag_ids m tag (map next ls))) (one (m.tech l) refl) ∙ ap (λ is. cons_option (id_if m tag l) is) (same_ids found fares ls h.1)
      where
        one : (t : Tech) → m.tech l ≡ t → id_if m tag (next l) ≡ id_if m tag l
        one A e = ap (id_if m tag) (stepped_other l A refl e)
        one F e = ap (id_if m tag) (stepped_other l F refl e)
        one V e =
            ap (id_if m tag) (stepped_tag l e)
            ∙ ap (λ t. if same_tech V t then Some (tag (m.after l f None)).id else None) (are.after_tech l f e)
            ∙ ap (λ (t : T5State). Some t.id) (are.goes l f e (h.0 e).lit').1
            ∙ ap Some (fares (tag l)).id
            ∙ sym (ap (λ t. if same_tech V t then Some (tag l).id else None) e)

    pub still_placed : (found : List (List ℕ)) → ((t : T5State) → Fares found t f) → (ls : List L) → ArePlaced found ls → ArePlaced found (map next ls)
    still_placed found fares [] h = tt
    still_placed found fares (l ∷ ls) h = (one (m.tech l) refl, still_placed found fares ls h.1)
      where
        on : IsPlaced found l → m.tech l ≡ V → IsPlaced found (m.after l f None)
        on p e =
            let g = are.goes l f e p.lit' in
            let id : (tag (m.after l f None)).id ≡ (tag l).id = ap (λ (t : T5State). t.id) g.1 ∙ (fares (tag l)).id in
            record {
              lit' = g.0;
              quiet = λ q.
                  (let quiet : (t5_after (tag l) f).quiet ≡ true = sym (ap (λ (t : T5State). t.quiet) g.1) ∙ q in
                  subst (λ i. IsOneOf i found) (sym id) (found_if ((fares (tag l)).quiet quiet) p.quiet));
              own = subst (λ i. IsOneOf i ids) (sym id) p.own;
            }
          where
            found_if : ((tag l).quiet ≡ true) ⊎ IsOneOf (tag l).id found → ((tag l).quiet ≡ true → IsOneOf (tag l).id found) → IsOneOf (tag l).id found
            found_if (inl q) k = k q
            found_if (inr o) k = o

        one : (t : Tech) → m.tech l ≡ t → m.tech (next l) ≡ V → IsPlaced found (next l)
        one A e v = absurd (let no_ : A ≡ V = sym e ∙ ap m.tech (sym (stepped_other l A refl e)) ∙ v in cc)
        one F e v = absurd (let no_ : F ≡ V = sym e ∙ ap m.tech (sym (stepped_other l F refl e)) ∙ v in cc)
        one V e v = subst (IsPlaced found) (sym (stepped_tag l e)) (on (h.0 e) e)

    -- each answer tells one of the identifiers
    tells_one : (t : T5State) (g : Signal) → IsOneOf t.id ids → ((t5_turn t f).answer ≡ None) ⊎ ((t5_turn t f).answer ≡ Some (Present t.id)) → t5_answer t f ≡ Some g → TellsOne ids g
    tells_one t g own (inl none) e = absurd (let no_ : None ≡ Some g = sym (ap sent none) ∙ e in cc)
    tells_one t g own (inr some) e = (t.id, own, (let d : Some (answer_frame (Present t.id)) ≡ Some g = sym (ap sent some) ∙ e in cc))

    pub answers_tell : (found : List (List ℕ)) → ((t : T5State) → Fares found t f) → (ls : List L) → ArePlaced found ls → Each (TellsOne ids) (filter_map says ls)
    answers_tell found fares ls h = said_each (TellsOne ids) says ls (each_map (λ l. m.tech l ≡ V → IsPlaced found l) (λ l. IfSaid (TellsOne ids) (says l)) one ls h)
      where
        by_said : (l : L) (o : Option Signal) → (m.tech l ≡ V → IsPlaced found l) → m.tech l ≡ V → says l ≡ o → IfSaid (TellsOne ids) o
        by_said l None k e q = tt
        by_said l (Some g) k e q = tells_one (tag l) g (k e).own (fares (tag l)).says (sym (are.answers l f e (k e).lit') ∙ sym (said_tag l e) ∙ q)

        by_tech : (l : L) (t : Tech) → m.tech l ≡ t → (m.tech l ≡ V → IsPlaced found l) → IfSaid (TellsOne ids) (says l)
        by_tech l A e k = subst (IfSaid (TellsOne ids)) (sym (said_other l A refl e)) tt
        by_tech l F e k = subst (IfSaid (TellsOne ids)) (sym (said_other l F refl e)) tt
        by_tech l V e k = by_said l (says l) k e refl

        one : (l : L) → (m.tech l ≡ V → IsPlaced found l) → IfSaid (TellsOne ids) (says l)
        one l k = by_tech l (m.tech l) refl k
