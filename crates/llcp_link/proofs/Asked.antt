-- Calls on the connections that an end asked for, by the table.
use Rattle.std.proofs.Common.{◌≡◌, ℕ, Bool, List, [], ◌∷◌, ◌++◌, slice_index_or, slice_set, Option, Some, None, refl, sym, ap, ◌∙◌}
use Rattle.llcp_pdu.specs.declared.part.Part.{Part}
use Rattle.llcp_pdu.specs.declared.part.Part.TheVariants.{Disc}
use Rattle.llcp_link.specs.State.{LlcState, Queued, Leaving, OwnState, own_from, with_own, OwnIs, Asking, Open, Refused, Closed}
use Rattle.llcp_link.specs.Asking.{disconnected_by, is_open, is_open_by, standing_of, standing_on, queued_on, refusal_of, request, Submits}
use Rattle.llcp_link.specs.declared.standing.Standing.{Standing}
use Rattle.llcp_link.specs.declared.standing.Standing.TheVariants as stands
use Rattle.llcp_link.specs.Own.{on_own}
use Rattle.llcp_link.specs.Places.{StandsAt}

module _ {S : Type 0} (l : LlcState S) (d : ℕ) where
  pub submitted_so : (u : List ℕ) (own : List OwnState) → refusal_of (own_from d l.own) u ≡ None → own ≡ on_own (λ o. queued_on o u o.is) (own_from d l.own) l.own
      → Submits l d u (record l { own = own })
  submitted_so u own f e = record { free = f; kept = ap (λ xs. record l { own = xs }) e }

  pub disconnected_so : (place : ℕ) (k : StandsAt d l.own place) (o old new : OwnState) (p : Part) (queue : List Queued) → o ≡ slice_index_or l.own place o → p ≡ Disc o.there o.here
      → queue ≡ l.queue ++ record { own = Bool.true; part = p } ∷ [] → old ≡ slice_index_or l.own place old → new ≡ record old { is = Leaving }
      → record l { queue = queue; own = slice_set l.own place new } ≡ disconnected_by l (own_from d l.own)
  disconnected_so place k o old new p queue is part q was e =
      let n : new ≡ record k.own { is = Leaving } = e ∙ ap (λ (x : OwnState). record x { is = Leaving }) (was ∙ k.read old) in
      let here : new.here ≡ d = ap (λ x. x.here) n ∙ k.here in
      ap (λ x. record l { queue = x; own = slice_set l.own place new }) q
      ∙ ap (λ x. record l { queue = l.queue ++ request p ∷ []; own = x }) (k.changed new here ∙ ap (λ x. with_own x l.own) n)
      ∙ ap (λ x. record l { queue = l.queue ++ request x ∷ []; own = with_own (record k.own { is = Leaving }) l.own })
      (part ∙ ap (λ (x : OwnState). Disc x.there x.here) (is ∙ k.read o))
      ∙ ap (disconnected_by l) (sym k.found)

open_on : (i : OwnIs) (miu : ℕ) → standing_on i ≡ stands.Open miu → is_open i ≡ Bool.true
open_on (Open c) miu e = refl
open_on Asking miu e = absurd cc
open_on Refused miu e = absurd cc
open_on Leaving miu e = absurd cc
open_on Closed miu e = absurd cc

-- a connection that stands open may be given up
pub open_standing : (o : Option OwnState) (s : Standing) (miu : ℕ) → s ≡ standing_of o → s ≡ stands.Open miu → is_open_by o ≡ Bool.true
open_standing None s miu e k = absurd cc
open_standing (Some o) s miu e k = open_on o.is miu (sym e ∙ k)
