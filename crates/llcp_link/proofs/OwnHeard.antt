-- Answers that come to connections which an end asked for.
use Rattle.std.proofs.Common.{◌≡◌, ℕ, ◌==◌, Bool, true, false, List, slice_index_or, slice_set, refl, sym, ap, ◌∙◌, if◌then◌else◌}
use Rattle.llcp_pdu.specs.declared.param.Param.{Param}
use Rattle.llcp_link.specs.State.{LlcState, OwnIs, Asking, Open, Refused, Leaving, Closed, OwnState, with_own}
use Rattle.llcp_link.specs.Names.{miu_of, rw_of}
use Rattle.llcp_link.specs.Own.{cc_on, cc_so, dm_on, dm_so, if_there, on_own}
use Rattle.llcp_link.specs.Places.{IsNowhere, StandsAt}
use Rattle.llcp_link.specs.Taking.{heard_own}

-- each stays the connection of its SAP
pub cc_here : (miu far_miu rw : ℕ) (o : OwnState) (i : OwnIs) → (cc_so miu far_miu rw o i).here ≡ o.here
cc_here miu far_miu rw o Asking = refl
cc_here miu far_miu rw o (Open c) = refl
cc_here miu far_miu rw o Refused = refl
cc_here miu far_miu rw o Leaving = refl
cc_here miu far_miu rw o Closed = refl

pub dm_here : (o : OwnState) (i : OwnIs) → (dm_so o i).here ≡ o.here
dm_here o Asking = refl
dm_here o (Open c) = refl
dm_here o Refused = refl
dm_here o Leaving = refl
dm_here o Closed = refl

module _ {S : Type 0} (l : LlcState S) (d s : ℕ) where
  module _ (f : OwnState → OwnState) where
    there_here : (o : OwnState) (b : Bool) → (f o).here ≡ o.here → (if b then f o else o).here ≡ o.here
    there_here o true e = e
    there_here o false e = refl

    -- to the one at its place
    heard_at : ((o : OwnState) → (f o).here ≡ o.here) → (place : ℕ) (p : StandsAt d l.own place) (o new : OwnState) → o ≡ slice_index_or l.own place o → new ≡ if_there s f o
        → record l { own = slice_set l.own place new } ≡ heard_own l d s f
    heard_at keeps place p o new is e =
        let n : new ≡ if_there s f p.own = e ∙ ap (if_there s f) (is ∙ p.read o) in
        let here : new.here ≡ d = ap (λ x. x.here) n ∙ there_here p.own (p.own.there == s) (keeps p.own) ∙ p.here in
        ap (λ xs. record l { own = xs }) (p.changed new here ∙ ap (λ x. with_own x l.own) n)
        ∙ ap (λ x. record l { own = on_own (if_there s f) x l.own }) (sym p.found)

    -- there is none
    pub none_hears : IsNowhere d l.own → l ≡ heard_own l d s f
    none_hears k = ap (λ x. record l { own = on_own (if_there s f) x l.own }) (sym k.found)

  pub dm_heard : (place : ℕ) (p : StandsAt d l.own place) (o new : OwnState) → o ≡ slice_index_or l.own place o → new ≡ if_there s dm_on o
      → record l { own = slice_set l.own place new } ≡ heard_own l d s dm_on
  dm_heard place p o new is e = heard_at dm_on (λ o. dm_here o o.is) place p o new is e

  pub cc_heard : (ps : List Param) (place : ℕ) (p : StandsAt d l.own place) (o new : OwnState) (miu rw : ℕ) → o ≡ slice_index_or l.own place o → miu ≡ miu_of ps → rw ≡ rw_of ps
      → new ≡ if_there s (cc_on l.miu miu rw) o → record l { own = slice_set l.own place new } ≡ heard_own l d s (cc_on l.miu (miu_of ps) (rw_of ps))
  cc_heard ps place p o new miu rw is m r e =
      heard_at (cc_on l.miu (miu_of ps) (rw_of ps)) (λ o. cc_here l.miu (miu_of ps) (rw_of ps) o o.is) place p o new is
      (e ∙ ap (λ x. if_there s (cc_on l.miu x rw) o) m ∙ ap (λ x. if_there s (cc_on l.miu (miu_of ps) x) o) r)
