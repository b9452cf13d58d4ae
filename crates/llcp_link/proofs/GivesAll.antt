-- The PDUs of a payload, together.
use Rattle.std.proofs.Common.{◌≡◌, ◌<◌, ◌≤◌, ℕ, zero, suc, true, Result, Ok, Err, OnErr, List, [], ◌∷◌, length, Some, None, refl, sym, ap, ◌∙◌, inl, inr, arith, if◌then◌else◌}
use Rattle.llcp_pdu.specs.declared.part.Part.{Part}
use Rattle.llcp_pdu.specs.declared.part.Part.TheVariants.{Symm}
use Rattle.llcp_pdu.specs.declared.pdu.Pdu.TheVariants.{Agf}
use Rattle.llcp_pdu.specs.Ranges.{AreParts}
use Rattle.llcp_pdu.specs.Writing.{inner_bytes, part_bytes, pdu_bytes}
use Rattle.llcp_link.specs.Serving.{Serving}
use Rattle.llcp_link.specs.State.{LlcState}
use Rattle.llcp_link.specs.Giving.{gave, gave_none, gave_first, joined, given_so, given_parts, others, IsAllowed, payload_of}
use Rattle.llcp_link.specs.private.Joining.{AreSent, Joins, HaltsJoining}
use Rattle.llcp_link.specs.Answering.{Gives, HaltsGiving}
use Rattle.llcp_link.specs.Offering.{LeavesNext}
use Rattle.llcp_link.proofs.MostGiven.{as_many}

pub are_parts : (ps : List Part) → AreSent ps → AreParts ps
are_parts [] h = tt
are_parts (p ∷ ps) h = (h.0.part, (let k = h.0.size in omega arith), are_parts ps h.1)

pub payload_joined : (p : Part) (ps : List Part) → 0 < length ps → payload_of (p ∷ ps) ≡ pdu_bytes (Agf (p ∷ ps))
payload_joined p [] h = absurd (omega arith)
payload_joined p (q ∷ qs) h = refl

pub payload_alone : (p : Part) (ps : List Part) → length ps ≡ 0 → payload_of (p ∷ ps) ≡ part_bytes p
payload_alone p [] h = refl
payload_alone p (q ∷ qs) h = absurd (omega arith)

module _ {S : Type 0} (m : Serving S) (old : LlcState S) where
  module _ (p : Part) (l : LlcState S) (e : gave m old ≡ Some (record { llc = l; part = p })) where
    pub given_with : (ps : List Part) (new : LlcState S) → joined m (length ps) (length (inner_bytes p)) l ≡ record { llc = new; parts = ps }
        → given_parts m (suc (length ps)) old ≡ record { llc = new; parts = p ∷ ps }
    given_with ps new j = ap (λ o. given_so m old o (length ps)) e ∙ ap (gave_first m p) j

    pub allowed_with : (ps : List Part) (new : LlcState S) → joined m (length ps) (length (inner_bytes p)) l ≡ record { llc = new; parts = ps }
        → IsAllowed m old (suc (length ps))
    allowed_with [] new j = inl refl
    allowed_with (q ∷ qs) new j = inr ((let n : 2 ≤ suc (suc (length qs)) = omega arith in n), ap (λ g. length g.parts) (given_with (q ∷ qs) new j))

    now_of : (most : ℕ) (ps : List Part) (new : LlcState S) → Joins m (length (inner_bytes p)) most l ps new
        → joined m (length ps) (length (inner_bytes p)) l ≡ record { llc = new; parts = ps }
    now_of most ps new j =
        ap (λ g. joined m (length g.parts) (length (inner_bytes p)) l) (sym j.all) ∙ as_many m most (length (inner_bytes p)) l ∙ j.all

    pub gives_with : (count : ℕ) (ps : List Part) (new : LlcState S) (bytes : List ℕ) → old.readable ≡ true
        → Joins m (length (inner_bytes p)) (others m old count) l ps new → bytes ≡ payload_of (p ∷ ps) → Gives m count old bytes new
    gives_with count ps new bytes r j b =
        let g : given_parts m count old ≡ record { llc = new; parts = p ∷ ps } =
        ap (λ o. given_so m old o (others m old count)) e ∙ ap (gave_first m p) j.all in record {
          bytes_are = b ∙ sym (ap (λ x. if x then payload_of (given_parts m count old).parts else []) r ∙ ap (λ x. payload_of x.parts) g);
          left = sym (ap (λ x. if x then (given_parts m count old).llc else old) r ∙ ap (λ x. x.llc) g);
        }

    -- memory was wanting as others were joined
    pub halts_with : (s : S) → HaltsJoining m (length (inner_bytes p)) l s → HaltsGiving m old s
    halts_with s h = record {
      front = h.front;
      is_front = inr (suc (length h.parts), allowed_with h.parts h.front h.all, sym (ap (λ x. x.llc) (given_with h.parts h.front h.all)));
      service = h.service;
    }

    -- memory was wanting as they were written
    pub halts_behind : (most : ℕ) (ps : List Part) (new : LlcState S) → Joins m (length (inner_bytes p)) most l ps new → HaltsGiving m old new.service
    halts_behind most ps new j =
        let now = now_of most ps new j in record {
          front = new;
          is_front = inr (suc (length ps), allowed_with ps new now, sym (ap (λ x. x.llc) (given_with ps new now)));
          service = inl (inl refl);
        }

  pub halts_first : (s : S) → LeavesNext m (gave m old) old.service s → HaltsGiving m old s
  halts_first s h = record { front = old; is_front = inl refl; service = h }

  pub gives_symm : (count : ℕ) (bytes : List ℕ) → old.readable ≡ true → gave m old ≡ None → bytes ≡ part_bytes Symm → Gives m count old bytes old
  gives_symm count bytes r e b =
      let g : given_parts m count old ≡ gave_none m old = ap (λ o. given_so m old o (others m old count)) e in record {
        bytes_are = b ∙ sym (ap (λ x. if x then payload_of (given_parts m count old).parts else []) r ∙ ap (λ x. payload_of x.parts) g);
        left = sym (ap (λ x. if x then (given_parts m count old).llc else old) r ∙ ap (λ x. x.llc) g);
      }

  -- as many others are asked for behind the first as before it
  pub same_others : (l : LlcState S) → l.far_miu ≡ old.far_miu → (count : ℕ) → others m l count ≡ others m old count
  same_others l h zero = h
  same_others l h (suc n) = refl

pub on_err_with : {A B : Type 0} {Q : Type 0} (r : Result A B) → Q → OnErr r Q
on_err_with (Ok x) h = tt
on_err_with (Err e) h = h
