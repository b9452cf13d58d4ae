-- What a get comes to at a peer that its client accords with.
use Rattle.std.proofs.Common.{◌≡◌, ◌<◌, ◌≤◌, ℕ, ◌^◌, List, length, sym, subst, inl, inr}
use Rattle.nfc_base.specs.declared.carrier.EndCause.{EndCause}
use Rattle.nfc_base.specs.declared.carrier.EndCause.TheVariants as cause
use Rattle.nfc_base.specs.Links.{CarrierView, FarStep}
use Rattle.snep_core.specs.declared.fault.SnepFault.{SnepFault}
use Rattle.snep_core.specs.declared.job.Refusal.{Refusal}
use Rattle.snep_core.specs.declared.job.Refusal.TheVariants as refusals
use Rattle.snep_core.specs.Accord.{Accords, GetFails, IsClientSap, IsGot, IsPeer, PeerState, RefusesGet}
use Rattle.snep_core.specs.Calling.{RequestFails, Talks, fault_of, refused_by}
use Rattle.snep_core.specs.Jobs.{Over, Refused, Value}
use Rattle.snep_core.specs.Talk.{EndState, Ends, Gets, begins_from, one_on}
use Rattle.snep_core.proofs.accord.Ends.{sizes_of}
use Rattle.snep_core.proofs.requests.GetPhases.{ComesTo, GetOutcome, ask, get_outcome, get_read}
use Rattle.snep_core.proofs.accord.RequestEnds.{AddsSome, Ended, Failed, Fate, request_ended, request_failed}
use Rattle.snep_core.proofs.requests.RequestPhases.{IsRead}
use Rattle.snep_core.proofs.connections.Sides.{Sizes}

module _ (sap : ℕ) (range : IsClientSap sap) (most : ℕ) (key : List ℕ) (p : PeerState) (fits : length key ≤ 65536) (x : GetOutcome sap p.service.limit p.service.table most key p.service.accepted)
    (z : Sizes) where
  abbrev read : IsRead p.service.limit (ask most key)
  read = get_read p.service.limit most key fits

  adds_nothing : (q : PeerState) → AddsSome sap range (ask most key) p read x.outcome z q.service.accepted → q.service.accepted ≡ p.service.accepted
  adds_nothing q (inl e) = e
  adds_nothing q (inr (e, within)) = e

  module _ (l : EndState) (q : PeerState) where
    got_at : (v : List ℕ) → Ended sap range (ask most key) p read x.outcome z (Value v) l q → IsGot sap most key v p l q
    got_at v h = go h.fate
      where
        go : Fate sap range (ask most key) p read x.outcome z (Value v) q → IsGot sap most key v p l q
        go (inl (e, within, accepted)) =
            let c = subst (ComesTo p.service.table most key) (sym e) x.comes in
            record { within = within; found = c.0; few = c.1; accepted = accepted; answered = h.answered }
        go (inr (e, beyond, accepted)) = absurd cc

    -- refused for what the table has
    refused_for : (r : Refusal) → RefusesGet p.service.table most key (refused_by r) → length key ≤ p.service.limit → q.service.accepted ≡ p.service.accepted
        → Ended sap range (ask most key) p read x.outcome z (Refused r) l q → GetFails sap most key p (refused_by r) l q
    refused_for refusals.Reject why within accepted h = absurd why
    refused_for refusals.NotFound why within accepted h = record { within = within; refuses = why; accepted = accepted; answered = h.answered }
    refused_for refusals.Excess why within accepted h = record { within = within; refuses = why; accepted = accepted; answered = h.answered }
    refused_for refusals.NotImplemented why within accepted h = record { within = within; refuses = why; accepted = accepted; answered = h.answered }

    refused_at : (r : Refusal) → Ended sap range (ask most key) p read x.outcome z (Refused r) l q → GetFails sap most key p (refused_by r) l q
    refused_at r h = go h.fate
      where
        go : Fate sap range (ask most key) p read x.outcome z (Refused r) q → GetFails sap most key p (refused_by r) l q
        go (inl (e, within, accepted)) = refused_for r (subst (ComesTo p.service.table most key) (sym e) x.comes) within accepted h
        go (inr (e, beyond, accepted)) =
            let same : r ≡ refusals.Reject = cc in
            subst (λ w. GetFails sap most key p (refused_by w) l q) (sym same) (record { beyond = beyond; accepted = accepted; answered = h.answered })

    broken_at : (c : EndCause) → q.service.accepted ≡ p.service.accepted → GetFails sap most key p (fault_of c) l q
    broken_at cause.FieldLost h = h
    broken_at cause.SixBad h = h
    broken_at cause.Protocol h = h
    broken_at cause.Memory h = h

module _ {C A : Type 0} (seen : C → CarrierView) (swaps : C → List ℕ → List FarStep → C → Type 0) (steps : A → List ℕ → List ℕ → A → Type 0) (stops : A → List ℕ → A → Type 0)
    (view : A → PeerState) (peer : IsPeer steps stops view) (sap : ℕ) (range : IsClientSap sap) (most : ℕ) (small : most < 2 ^ 32) (key : List ℕ) (fits : length key ≤ 65536) (client : EndState)
    (link : C) (far : A)
    (a : Accords client (view far)) (numbers : List ℕ) where
  abbrev comes : GetOutcome sap (view far).service.limit (view far).service.table most key (view far).service.accepted
  comes = get_outcome sap (view far).service.limit (view far).service.table most key (view far).service.accepted small

  abbrev z_ : Sizes
  z_ = sizes_of client (view far)

  -- the value was told
  pub get_got : (v : List ℕ) (new : EndState) (now : C) (after : A) → Talks seen swaps steps stops numbers (begins_from client sap (Gets most key)) link far (Ends (one_on sap (Over (Value v))) new)
      now after
      → IsGot sap most key v (view far) new (view after)
  get_got v new now after t =
      got_at sap range most key (view far) fits comes z_ new (view after) v
      (request_ended seen swaps steps stops view peer client link far a numbers sap range (ask most key) (read sap range most key (view far) fits comes z_) comes.outcome (Value v) new now after t)

  -- it failed
  pub get_fails : (e : SnepFault) (new : EndState) (now : C) (after : A) → RequestFails seen swaps steps stops sap numbers (begins_from client sap (Gets most key)) link far e new now after
      → GetFails sap most key (view far) e new (view after)
  get_fails e new now after h =
      go (request_failed seen swaps steps stops view peer client link far a numbers sap range (ask most key) (read sap range most key (view far) fits comes z_) comes.outcome e new now after h)
    where
      go : Failed seen swaps steps stops view peer client link far a numbers sap range (ask most key) (read sap range most key (view far) fits comes z_) comes.outcome e new after
          → GetFails sap most key (view far) e new (view after)
      go (inl (why, f, y)) = subst (λ w. GetFails sap most key (view far) w new (view after)) (sym f) (refused_at sap range most key (view far) fits comes z_ new (view after) why y)
      go (inr (why, f, y)) =
          subst (λ w. GetFails sap most key (view far) w new (view after)) (sym f)
          (broken_at sap range most key (view far) fits comes z_ new (view after) why (adds_nothing sap range most key (view far) fits comes z_ (view after) y))
