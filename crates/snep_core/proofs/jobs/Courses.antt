-- A call over a peer: what holds of it from step to step, and what it leaves at the peer where it is cut off.
use Rattle.std.proofs.Common.{◌≡◌, ℕ, Bool, true, false, List, [], ◌∷◌, ◌++◌, sym, subst, inl, inr}
use Rattle.nfc_base.specs.declared.carrier.EndCause.{EndCause}
use Rattle.nfc_base.specs.declared.carrier.EndCause.TheVariants as cause
use Rattle.nfc_base.specs.Choosing.{first_number, later_numbers}
use Rattle.nfc_base.specs.Links.{CarrierView, FarLeft, FarMoved, FarStep, Stepped, Stopped}
use Rattle.llcp_link.specs.Taking.{Item, brought, steps as takes_all, taken_from}
use Rattle.llcp_link.specs.Giving.{after_giving, given}
use Rattle.snep_core.specs.declared.fault.SnepFault.{SnepFault}
use Rattle.snep_core.specs.Accord.{IsPeer, PeerState, PeerSteps}
use Rattle.snep_core.specs.Calling.{Breaks, IsCut, Talks, fault_of}
use Rattle.snep_core.specs.Server.{Received, serving}
use Rattle.snep_core.specs.Talk.{EndState, Ends, GivesUp, Goes, Step, ComesTo, Working, numbers_behind, payload, ready, replied, silent}

module _ (Adds : List Received → Type 0) where
  -- However the client's next payload comes to the peer, what is accepted is of this kind.
  pub record IsSafe (l : EndState) (p : PeerState) : Type 0 where
    pub here : Adds p.service.accepted
    pub stepped : (k count : ℕ) → Adds (after_giving serving count (taken_from serving p (given silent k l))).service.accepted
    pub fronts : (k : ℕ) (front behind : List Item) → brought p (given silent k l) ≡ front ++ behind → Adds (takes_all serving p front).service.accepted

  -- What holds at each step of a call.
  pub record Course : Type 1 where
    pub At : Step → PeerState → Type 0
    pub turns : (w : Working) (p : PeerState) → At (Goes w) p → (k : ℕ) (reply : List ℕ) (q : PeerState) → PeerSteps p (payload k w) reply q → At (replied k w reply) q
    pub safe : (w : Working) (p : PeerState) → At (Goes w) p → IsSafe (ready w).llc p

  module _ {C A : Type 0} (seen : C → CarrierView) (swaps : C → List ℕ → List FarStep → C → Type 0) (steps : A → List ℕ → List ℕ → A → Type 0)
      (stops : A → List ℕ → A → Type 0) (view : A → PeerState) (peer : IsPeer steps stops view) where
    module _ (l : EndState) (mid : A) (h : IsSafe l (view mid)) where
      stepped_adds : (k : ℕ) (reply : List ℕ) (after : A) → steps mid (given silent k l) reply after → Adds (view after).service.accepted
      stepped_adds k reply after s =
          let x = peer.steps_so mid (given silent k l) reply after s in
          subst (λ z. Adds z.service.accepted) (sym x.left) (h.stepped k x.count)

      stopped_adds : (k : ℕ) (after : A) → stops mid (given silent k l) after → Adds (view after).service.accepted
      stopped_adds k after s =
          let x = peer.stops_so mid (given silent k l) after s in
          subst Adds (sym x.accepted) (h.fronts k x.front x.behind x.split)

      same_adds : (after : A) → after ≡ mid → Adds (view after).service.accepted
      same_adds after e = subst (λ z. Adds (view z).service.accepted) (sym e) h.here

      left_adds : (k : ℕ) (answered : Bool) (why : EndCause) (before now : List (List ℕ)) (after : A) → FarLeft steps stops answered why before now (given silent k l) mid after
          → Adds (view after).service.accepted
      left_adds k true why before now after ((reply, s), e) = stepped_adds k reply after s
      left_adds k false why before now after (inl (e, i)) = same_adds after e
      left_adds k false why before now after (inr (w, s, e)) = stopped_adds k after s

      pub cut_adds : (count : ℕ) (e : SnepFault) (new : EndState) (link now : C) (after : A) → IsCut seen swaps steps stops count l link mid e new now after
          → Adds (view after).service.accepted
      cut_adds count e new link now after (inl (inl k)) = same_adds after k.far_is
      cut_adds count e new link now after (inl (inr k)) = same_adds after k.far_is
      cut_adds count e new link now after (inr (inl k)) = left_adds count k.why.answered k.why.cause _ _ after k.swap.left
      cut_adds count e new link now after (inr (inr k)) = stepped_adds count k.reply after k.swap.step

      pub cut_fault : (count : ℕ) (e : SnepFault) (new : EndState) (link now : C) (after : A) → IsCut seen swaps steps stops count l link mid e new now after
          → (c : EndCause) × (e ≡ fault_of c)
      cut_fault count e new link now after (inl (inl k)) = (cause.Memory, k.fault)
      cut_fault count e new link now after (inl (inr k)) = (k.why, k.fault)
      cut_fault count e new link now after (inr (inl k)) = (k.why.cause, k.fault)
      cut_fault count e new link now after (inr (inr k)) = (cause.Memory, k.fault)

  module _ (course : Course) {C A : Type 0} (seen : C → CarrierView) (swaps : C → List ℕ → List FarStep → C → Type 0) (steps : A → List ℕ → List ℕ → A → Type 0)
      (stops : A → List ℕ → A → Type 0) (view : A → PeerState) (peer : IsPeer steps stops view) where
    -- from one step to another
    talks_on : (ns : List ℕ) (did : List FarStep) (from to : Step) (far after : A) → course.At from (view far) → ComesTo ns from did to
        → FarMoved steps stops did far after → course.At to (view after)
    talks_on ns [] from to far after h t f = subst (λ z. course.At z (view after)) (sym t) (subst (λ z. course.At from (view z)) (sym f) h)
    talks_on ns (Stopped out ∷ did) (Goes w) to far after h t f = absurd t
    talks_on ns (x ∷ did) (Ends jobs l) to far after h t f = absurd t
    talks_on ns (x ∷ did) (GivesUp l) to far after h t f = absurd t
    talks_on ns (Stepped out reply ∷ did) (Goes w) to far after h (o, more) (mid, s, f) =
        let x = subst (λ z. PeerSteps (view far) z reply (view mid)) o (peer.steps_so far out reply mid s) in
        talks_on (later_numbers ns) did (replied (first_number ns) w reply) to mid after (course.turns w (view far) h (first_number ns) reply (view mid) x) more f

    pub came : (numbers : List ℕ) (from to : Step) (link now : C) (far after : A) → course.At from (view far)
        → Talks seen swaps steps stops numbers from link far to now after → course.At to (view after)
    came numbers from to link now far after h t = talks_on numbers t.did from to far after h t.told t.far_moved

    -- what the link or want of memory leaves
    pub record BrokeOff (e : SnepFault) (after : A) : Type 0 where
      pub why : EndCause
      pub fault : e ≡ fault_of why
      pub added : Adds (view after).service.accepted

    pub breaks_off : (numbers : List ℕ) (from : Step) (link : C) (far : A) (e : SnepFault) (new : EndState) (now : C) (after : A) → course.At from (view far)
        → Breaks seen swaps steps stops numbers from link far e new now after → BrokeOff e after
    breaks_off numbers from link far e new now after h b =
        let count = first_number (numbers_behind b.talks.did numbers) in
        let k = course.safe b.at (view b.mid_far) (came numbers from (Goes b.at) link b.mid far b.mid_far h b.talks) in
        let f = cut_fault seen swaps steps stops view peer (ready b.at).llc b.mid_far k count e new b.mid now after b.cut in
        record { why = f.0; fault = f.1; added = cut_adds seen swaps steps stops view peer (ready b.at).llc b.mid_far k count e new b.mid now after b.cut }
