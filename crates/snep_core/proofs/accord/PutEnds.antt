-- What a put comes to at a peer that its client accords with.
use Rattle.std.proofs.Common.{◌≡◌, ◌<◌, ◌≤◌, ℕ, ◌^◌, List, [], ◌∷◌, ◌++◌, length, sym, subst, inl, inr, arith}
use Rattle.nfc_base.specs.declared.carrier.EndCause.{EndCause}
use Rattle.nfc_base.specs.declared.carrier.EndCause.TheVariants as cause
use Rattle.nfc_base.specs.Links.{CarrierView, FarStep}
use Rattle.snep_core.specs.declared.fault.SnepFault.{SnepFault}
use Rattle.snep_core.specs.declared.job.Refusal.{Refusal}
use Rattle.snep_core.specs.declared.job.Refusal.TheVariants as refusals
use Rattle.snep_core.specs.Accord.{Accords, AddsAtMost, IsClientSap, IsPeer, IsTaken, PeerState, PutFails, from_sap}
use Rattle.snep_core.specs.Calling.{RequestFails, Talks, fault_of, refused_by}
use Rattle.snep_core.specs.Jobs.{Done, Over, Refused}
use Rattle.snep_core.specs.Talk.{EndState, Ends, Puts, begins_from, one_on}
use Rattle.snep_core.proofs.accord.Ends.{sizes_of}
use Rattle.snep_core.proofs.requests.PutPhases.{ask, is_read, put_outcome}
use Rattle.snep_core.proofs.accord.RequestEnds.{Ended, Failed, Fate, request_ended, request_failed}
use Rattle.snep_core.proofs.requests.RequestPhases.{IsRead, Outcome}
use Rattle.snep_core.proofs.connections.Sides.{Sizes}

module _ (sap : ℕ) (range : IsClientSap sap) (m : List ℕ) (p : PeerState) (short : length m < 2 ^ 32) (z : Sizes) where
  abbrev read : IsRead p.service.limit (ask m)
  read = is_read p.service.limit m short

  abbrev outcome : Outcome sap p.service.limit p.service.table (ask m) p.service.accepted Done (p.service.accepted ++ from_sap sap m ∷ [])
  outcome = put_outcome sap p.service.limit p.service.table m p.service.accepted

  module _ (l : EndState) (q : PeerState) where
    taken_at : Ended sap range (ask m) p read outcome z Done l q → IsTaken sap m p l q
    taken_at h = go h.fate
      where
        go : Fate sap range (ask m) p read outcome z Done q → IsTaken sap m p l q
        go (inl (e, within, accepted)) = record { within = within; accepted = accepted; answered = h.answered }
        go (inr (e, beyond, accepted)) = absurd cc

    refused_at : (r : Refusal) → Ended sap range (ask m) p read outcome z (Refused r) l q → PutFails sap m p (refused_by r) l q
    refused_at r h = go h.fate
      where
        go : Fate sap range (ask m) p read outcome z (Refused r) q → PutFails sap m p (refused_by r) l q
        go (inl (e, within, accepted)) = absurd cc
        go (inr (e, beyond, accepted)) =
            let same : r ≡ refusals.Reject = cc in
            subst (λ w. PutFails sap m p (refused_by w) l q) (sym same) (record { beyond = beyond; accepted = accepted; answered = h.answered })

    broken_at : (c : EndCause) → AddsAtMost sap m p q → PutFails sap m p (fault_of c) l q
    broken_at cause.FieldLost h = h
    broken_at cause.SixBad h = h
    broken_at cause.Protocol h = h
    broken_at cause.Memory h = h

module _ {C A : Type 0} (seen : C → CarrierView) (swaps : C → List ℕ → List FarStep → C → Type 0) (steps : A → List ℕ → List ℕ → A → Type 0) (stops : A → List ℕ → A → Type 0)
    (view : A → PeerState) (peer : IsPeer steps stops view) (sap : ℕ) (range : IsClientSap sap) (m : List ℕ) (fits : length m ≤ 65536) (client : EndState) (link : C) (far : A)
    (a : Accords client (view far)) (numbers : List ℕ) where
  short : length m < 2 ^ 32
  short = omega arith

  abbrev z_ : Sizes
  z_ = sizes_of client (view far)

  -- it was told to be taken
  pub put_taken : (new : EndState) (now : C) (after : A) → Talks seen swaps steps stops numbers (begins_from client sap (Puts m)) link far (Ends (one_on sap (Over Done)) new) now after
      → IsTaken sap m (view far) new (view after)
  put_taken new now after t =
      taken_at sap range m (view far) short z_ new (view after)
      (request_ended seen swaps steps stops view peer client link far a numbers sap range (ask m) (read sap range m (view far) short z_) (outcome sap range m (view far) short z_) Done new now after t)

  -- it failed
  pub put_fails : (e : SnepFault) (new : EndState) (now : C) (after : A) → RequestFails seen swaps steps stops sap numbers (begins_from client sap (Puts m)) link far e new now after
      → PutFails sap m (view far) e new (view after)
  put_fails e new now after h =
      go (request_failed seen swaps steps stops view peer client link far a numbers sap range (ask m) (read sap range m (view far) short z_) (outcome sap range m (view far) short z_) e new now after
      h)
    where
      go : Failed seen swaps steps stops view peer client link far a numbers sap range (ask m) (read sap range m (view far) short z_) (outcome sap range m (view far) short z_) e new after
          → PutFails sap m (view far) e new (view after)
      go (inl (why, f, x)) = subst (λ z. PutFails sap m (view far) z new (view after)) (sym f) (refused_at sap range m (view far) short z_ new (view after) why x)
      go (inr (why, f, x)) = subst (λ z. PutFails sap m (view far) z new (view after)) (sym f) (broken_at sap range m (view far) short z_ new (view after) why x)
