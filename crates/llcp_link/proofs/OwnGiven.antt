-- What a connection that an end asked for gives, by the table; and of two connections of one SAP that one gives first.
use Rattle.std.proofs.Common.{◌≡◌, ℕ, Bool, true, false, List, slice_index_or, slice_set, Option, Some, None, refl, sym, ap, subst, ◌∙◌, is_some, if◌then◌else◌}
use Rattle.std.specs.Prelude.{option_map}
use Rattle.llcp_pdu.specs.declared.part.Part.{Part}
use Rattle.llcp_conn.specs.Conn.{ConnState, due, gives, gives_ack}
use Rattle.llcp_link.specs.State.{LlcState, OwnIs, Asking, Open, Refused, Leaving, Closed, OwnState, own_from}
use Rattle.llcp_link.specs.Giving.{Gave, or_else, informs_own, acknowledges_own, gave_own}
use Rattle.llcp_link.specs.Offering.{IsLonger, OwnTried, Tried, part_of}
use Rattle.llcp_link.specs.Own.{OwnGave, ack_on, ack_so, gave_so, unit_on, unit_so}
use Rattle.llcp_link.specs.Places.{IsNowhere, StandsAt}
use Rattle.llcp_link.specs.declared.giving.Next.{Next}
use Rattle.llcp_link.specs.declared.giving.Next.TheVariants.{Given, Nothing, TooLong}

-- it stays the connection of its SAP
abbrev StaysOf : OwnState → Option OwnGave → Type 0
StaysOf o due = (g : OwnGave) → due ≡ Some g → g.own.here ≡ o.here

none_stays : (o : OwnState) → StaysOf o None
none_stays o g e = absurd cc

gave_stays : (o : OwnState) (c : ConnState) (p : Option Part) → StaysOf o (gave_so o c p)
gave_stays o c None g e = absurd cc
gave_stays o c (Some p) g e = let same : record { own = record o { is = Open c }; part = p } ≡ g = cc in ap (λ (x : OwnGave). x.own.here) (sym same)

if_stays : (o : OwnState) (b : Bool) (due : Option OwnGave) → StaysOf o due → StaysOf o (if b then due else None)
if_stays o true due h = h
if_stays o false due h = none_stays o

unit_stays : (o : OwnState) (i : OwnIs) → StaysOf o (unit_so o i)
unit_stays o (Open c) = if_stays o (is_some (due c)) (gave_so o (gives c).conn (gives c).pdu) (gave_stays o (gives c).conn (gives c).pdu)
unit_stays o Asking = none_stays o
unit_stays o Refused = none_stays o
unit_stays o Leaving = none_stays o
unit_stays o Closed = none_stays o

ack_stays : (o : OwnState) (i : OwnIs) → StaysOf o (ack_so o i)
ack_stays o (Open c) = gave_stays o (gives_ack c).conn (gives_ack c).pdu
ack_stays o Asking = none_stays o
ack_stays o Refused = none_stays o
ack_stays o Leaving = none_stays o
ack_stays o Closed = none_stays o

module _ {S : Type 0} (l : LlcState S) (d room : ℕ) where
  -- the mark of the SAP that last gave
  abbrev marked : Next → List OwnState → LlcState S
  marked (Given p) own = record l { own = own; last = Some d }
  marked _ own = record l { own = own }

  longer : (due : Option OwnGave) → IsLonger room (option_map (λ g. g.part) due) → IsLonger room (part_of (gave_own l due))
  longer None h = h
  longer (Some g) h = h

  module _ (place : ℕ) (p : StandsAt d l.own place) where
    as_it_was : (new : OwnState) → new ≡ p.own → record l { own = slice_set l.own place new } ≡ l
    as_it_was new e = ap (λ xs. record l { own = xs }) (ap (slice_set l.own place) e ∙ p.unchanged)

    tried : (due : Option OwnGave) (new : OwnState) (n : Next) → StaysOf p.own due → OwnTried room due p.own new n
        → Tried room (gave_own l due) l (marked n (slice_set l.own place new)) n
    tried due new Nothing stays t = (ap (gave_own l) t.0, as_it_was new t.1)
    tried due new TooLong stays t = (as_it_was new t.0, longer due t.1)
    tried due new (Given q) stays t =
        let here : new.here ≡ d = stays (record { own = new; part = q }) t.0 ∙ p.here in (
          ap (gave_own l) t.0
              ∙ ap (λ xs. Some (record { llc = record l { own = xs; last = Some new.here }; part = q })) (sym (p.changed new here))
              ∙ ap (λ x. Some (record { llc = record l { own = slice_set l.own place new; last = Some x }; part = q })) here,
          t.1,
          t.2,
        )

    pub unit_given : (o new : OwnState) (n : Next) → o ≡ slice_index_or l.own place o → OwnTried room (unit_on o) o new n
        → Tried room (informs_own l (own_from d l.own)) l (marked n (slice_set l.own place new)) n
    unit_given o new n is t =
        subst (λ x. Tried room (informs_own l x) l (marked n (slice_set l.own place new)) n) (sym p.found)
        (tried (unit_on p.own) new n (unit_stays p.own p.own.is) (subst (λ x. OwnTried room (unit_on x) x new n) (is ∙ p.read o) t))

    pub ack_given : (o new : OwnState) (n : Next) → o ≡ slice_index_or l.own place o → OwnTried room (ack_on o) o new n
        → Tried room (acknowledges_own l (own_from d l.own)) l (marked n (slice_set l.own place new)) n
    ack_given o new n is t =
        subst (λ x. Tried room (acknowledges_own l x) l (marked n (slice_set l.own place new)) n) (sym p.found)
        (tried (ack_on p.own) new n (ack_stays p.own p.own.is) (subst (λ x. OwnTried room (ack_on x) x new n) (is ∙ p.read o) t))

  -- there is none
  pub none_informs : IsNowhere d l.own → Tried room (informs_own l (own_from d l.own)) l l Nothing
  none_informs k = (ap (informs_own l) k.found, refl)

  pub none_acknowledges : IsNowhere d l.own → Tried room (acknowledges_own l (own_from d l.own)) l l Nothing
  none_acknowledges k = (ap (acknowledges_own l) k.found, refl)

module _ {S : Type 0} (room : ℕ) (a b : Option (Gave S)) (old : LlcState S) where
  pub first_given : (new : LlcState S) (p : Part) → Tried room a old new (Given p) → Tried room (or_else a b) old new (Given p)
  first_given new p t = (ap (λ x. or_else x b) t.0, t.1, t.2)

  longer_first : (x : Option (Gave S)) → IsLonger room (part_of x) → IsLonger room (part_of (or_else x b))
  longer_first None h = absurd h
  longer_first (Some g) h = h

  pub first_long : (new : LlcState S) → Tried room a old new TooLong → Tried room (or_else a b) old new TooLong
  first_long new t = (t.0, longer_first a t.1)

  pub second_tried : (mid new : LlcState S) (n : Next) → Tried room a old mid Nothing → Tried room b old new n → Tried room (or_else a b) old new n
  second_tried mid new n t u = subst (λ x. Tried room (or_else x b) old new n) (sym t.0) u
