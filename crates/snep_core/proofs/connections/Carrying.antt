-- What holds of two ends as PDUs go from one to the other, one by one, holds as payloads do.
use Rattle.std.proofs.Common.{◌≡◌, ◌<◌, ℕ, zero, suc, ◌+◌, nat_le, true, List, [], ◌∷◌, ◌++◌, length, map, Option, Some, None, Ok, refl, sym, ap, subst, ◌∙◌, if◌then◌else◌}
use Rattle.llcp_pdu.specs.declared.part.Part.{Part}
use Rattle.llcp_pdu.specs.declared.pdu.Pdu.{Pdu}
use Rattle.llcp_pdu.specs.declared.pdu.Pdu.TheVariants.{Agf, One}
use Rattle.llcp_pdu.specs.Pdus.{pdu}
use Rattle.llcp_pdu.specs.Views.{refusal_told}
use Rattle.llcp_pdu.specs.Ranges.{IsPart, AreParts}
use Rattle.llcp_pdu.specs.Writing.{inner_bytes, part_bytes, pdu_bytes}
use Rattle.llcp_pdu.proofs.Written.{pdu_back}
use Rattle.llcp_link.specs.Serving.{Serving}
use Rattle.llcp_link.specs.State.{LlcState}
use Rattle.llcp_link.specs.Taking.{Item, Good, brought, items, items_of, step, steps, steps_part, taken_from}
use Rattle.llcp_link.specs.Giving.{Gave, GaveAll, after_giving, gave, gave_first, gave_none, given, given_parts, given_so, joined, joined_so, others, payload_of}
use Rattle.llcp_link.proofs.Ranged.{either}

-- a PDU in range that may stand in an AGF
abbrev pub IsShort : Part → Type 0
IsShort p = IsPart p × (length (part_bytes p) < 65536)

items_back : (v : Pdu) (is : List Item) → pdu (pdu_bytes v) ≡ Ok v → items_of (pdu_bytes v) (Ok v) ≡ is → items (pdu_bytes v) ≡ is
items_back v is e i = ap (λ r. items_of (pdu_bytes v) (refusal_told r)) e ∙ i

module _ {S T : Type 0} (m : Serving S) (n : Serving T) (P : LlcState S → LlcState T → Type 0) where
  -- what is due is in range, and the other end takes it
  abbrev pub HopSo : LlcState T → Option (Gave S) → Type 0
  HopSo p None = Unit {0}
  HopSo p (Some g) = IsShort g.part × P g.llc (steps_part n p g.part)

  -- it holds with some state of the end that gives
  abbrev pub Reached : LlcState T → Type 0
  Reached p = (l : LlcState S) × P l p

  -- and so at each of these PDUs
  abbrev pub AtFronts : LlcState T → List Item → Type 0
  AtFronts p [] = Reached p
  AtFronts p (i ∷ is) = Reached p × AtFronts (step n p i) is

  pub at_front : (front behind : List Item) (p : LlcState T) → AtFronts p (front ++ behind) → Reached (steps n p front)
  at_front [] [] p h = h
  at_front [] (i ∷ is) p h = h.0
  at_front (i ∷ front) behind p h = at_front front behind (step n p i) h.1

  pub record Carried (p : LlcState T) (g : GaveAll m) : Type 0 where
    pub parts : AreParts g.parts
    pub fronts : AtFronts p (map Good g.parts)
    pub now : P g.llc (steps n p (map Good g.parts))

  carried_none : (l : LlcState S) (p : LlcState T) → P l p → Carried p (gave_none m l)
  carried_none l p h = record { parts = tt; fronts = (l, h); now = h }

  carried_first : (l : LlcState S) (p : LlcState T) (x : Part) (g : GaveAll m) → P l p → IsShort x → Carried (steps_part n p x) g → Carried p (gave_first m x g)
  carried_first l p x g h s c = record { parts = (s.0, s.1, c.parts); fronts = ((l, h), c.fronts); now = c.now }

  module _ (hops : (l : LlcState S) (p : LlcState T) → P l p → HopSo p (gave m l)) where
    carried_so : (k used : ℕ) (l : LlcState S) (p : LlcState T) → P l p → (o : Option (Gave S)) → HopSo p o
        → ((u : ℕ) (l : LlcState S) (p : LlcState T) → P l p → Carried p (joined m k u l)) → Carried p (joined_so m l used o (joined m k))
    carried_so k used l p h None s on = carried_none l p h
    carried_so k used l p h (Some g) s on =
        either (λ x. Carried p x) (nat_le (used + length (inner_bytes g.part)) l.far_miu) _ _
        (λ e. carried_first l p g.part _ h s.0 (on (used + length (inner_bytes g.part)) g.llc (steps_part n p g.part) s.1)) (λ e. carried_none l p h)

    carried_joined : (k used : ℕ) (l : LlcState S) (p : LlcState T) → P l p → Carried p (joined m k used l)
    carried_joined zero used l p h = carried_none l p h
    carried_joined (suc k) used l p h = carried_so k used l p h (gave m l) (hops l p h) (carried_joined k)

    carried_given_so : (k : ℕ) (l : LlcState S) (p : LlcState T) → P l p → (o : Option (Gave S)) → HopSo p o → Carried p (given_so m l o k)
    carried_given_so k l p h None s = carried_none l p h
    carried_given_so k l p h (Some g) s = carried_first l p g.part _ h s.0 (carried_joined k (length (inner_bytes g.part)) g.llc (steps_part n p g.part) s.1)

    pub carried_given : (k : ℕ) (l : LlcState S) (p : LlcState T) → P l p → Carried p (given_parts m k l)
    carried_given k l p h = carried_given_so (others m l k) l p h (gave m l) (hops l p h)

  -- a payload with these PDUs brings them
  abbrev Brings : LlcState T → List Part → List Item → Type 0
  Brings p ps is = AtFronts p is × (steps n p is ≡ steps n p (map Good ps))

  payload_brings : (p : LlcState T) (ps : List Part) → AreParts ps → AtFronts p (map Good ps) → Brings p ps (items (payload_of ps))
  payload_brings p [] r f = ((f, f), refl)
  payload_brings p (x ∷ []) r f =
      subst (λ is. Brings p (x ∷ []) is) (sym (items_back (One x) (Good x ∷ []) (pdu_back (One x) r.0) refl)) (f, refl)
  payload_brings p (x ∷ y ∷ xs) r f =
      subst (λ is. Brings p (x ∷ y ∷ xs) is) (sym (items_back (Agf (x ∷ y ∷ xs)) (map Good (x ∷ y ∷ xs)) (pdu_back (Agf (x ∷ y ∷ xs)) r) refl)) (f, refl)

  payload_steps : (p : LlcState T) (ps : List Part) → AreParts ps → steps n p (items (payload_of ps)) ≡ steps n p (map Good ps)
  payload_steps p [] r = refl
  payload_steps p (x ∷ []) r = ap (steps n p) (items_back (One x) (Good x ∷ []) (pdu_back (One x) r.0) refl)
  payload_steps p (x ∷ y ∷ xs) r = ap (steps n p) (items_back (Agf (x ∷ y ∷ xs)) (map Good (x ∷ y ∷ xs)) (pdu_back (Agf (x ∷ y ∷ xs)) r) refl)

  -- it holds once the first PDU was given and taken, or as none is due
  abbrev pub FirstSo : LlcState S → LlcState T → Option (Gave S) → Type 0
  FirstSo l p None = P l p
  FirstSo l p (Some g) = IsShort g.part × P g.llc (steps_part n p g.part)

  record Firstly (p : LlcState T) (g : GaveAll m) : Type 0 where
    parts : AreParts g.parts
    now : P g.llc (steps n p (map Good g.parts))

  firstly : ((l : LlcState S) (p : LlcState T) → P l p → HopSo p (gave m l)) → (k : ℕ) (l : LlcState S) (p : LlcState T) → (o : Option (Gave S)) → FirstSo l p o → Firstly p (given_so m l o k)
  firstly hops k l p None h = record { parts = tt; now = h }
  firstly hops k l p (Some g) h =
      let c = carried_joined hops k (length (inner_bytes g.part)) g.llc (steps_part n p g.part) h.1 in record { parts = (h.0.0, h.0.1, c.parts); now = c.now }

  -- and so once all were
  pub handed_first : ((l : LlcState S) (p : LlcState T) → P l p → HopSo p (gave m l)) → (k : ℕ) (l : LlcState S) (p : LlcState T)
      → l.readable ≡ true → p.readable ≡ true → FirstSo l p (gave m l) → P (after_giving m k l) (taken_from n p (given m k l))
  handed_first hops k l p r q h =
      let c = firstly hops (others m l k) l p (gave m l) h in
      let out : given m k l ≡ payload_of (given_parts m k l).parts = ap (λ b. if b then payload_of (given_parts m k l).parts else []) r in
      let left : after_giving m k l ≡ (given_parts m k l).llc = ap (λ b. if b then (given_parts m k l).llc else l) r in
      let in_ : brought p (given m k l) ≡ items (payload_of (given_parts m k l).parts) =
      ap (brought p) out ∙ ap (λ b. if b then items (payload_of (given_parts m k l).parts) else []) q in
      subst (λ z. P z (taken_from n p (given m k l))) (sym left)
      (subst (λ z. P (given_parts m k l).llc z) (sym (ap (steps n p) in_ ∙ payload_steps p (given_parts m k l).parts c.parts)) c.now)

  -- what holds once a payload was given and taken, and at each of its PDUs
  pub record Handed (k : ℕ) (l : LlcState S) (p : LlcState T) : Type 0 where
    pub fronts : AtFronts p (brought p (given m k l))
    pub now : P (after_giving m k l) (taken_from n p (given m k l))

  pub handed : ((l : LlcState S) (p : LlcState T) → P l p → HopSo p (gave m l)) → (k : ℕ) (l : LlcState S) (p : LlcState T)
      → l.readable ≡ true → p.readable ≡ true → P l p → Handed k l p
  handed hops k l p r q h =
      let c = carried_given hops k l p h in
      let b = payload_brings p (given_parts m k l).parts c.parts c.fronts in
      let out : given m k l ≡ payload_of (given_parts m k l).parts = ap (λ b. if b then payload_of (given_parts m k l).parts else []) r in
      let left : after_giving m k l ≡ (given_parts m k l).llc = ap (λ b. if b then (given_parts m k l).llc else l) r in
      let in_ : brought p (given m k l) ≡ items (payload_of (given_parts m k l).parts) =
      ap (brought p) out ∙ ap (λ b. if b then items (payload_of (given_parts m k l).parts) else []) q in record {
        fronts = subst (AtFronts p) (sym in_) b.0;
        now = subst (λ z. P z (taken_from n p (given m k l))) (sym left)
            (subst (λ z. P (given_parts m k l).llc z) (sym (ap (steps n p) in_ ∙ b.1)) c.now);
      }
