-- A call over a peer that is over with its first exchange.
use Rattle.std.proofs.Common.{◌≡◌, ◌⊎◌, ℕ, ◌||◌, Bool, true, List, Option, Some, None, refl, sym, ◌∙◌, ap, subst, inl, inr}
use Rattle.nfc_base.specs.declared.carrier.EndCause.{EndCause}
use Rattle.nfc_base.specs.declared.carrier.EndCause.TheVariants as cause
use Rattle.nfc_base.specs.Links.{CarrierView, FarStep}
use Rattle.llcp_link.specs.Asking.{has_waiting_of}
use Rattle.llcp_link.specs.Taking.{steps, taken_from}
use Rattle.llcp_link.specs.Giving.{Gave, after_giving, gave, given}
use Rattle.snep_core.specs.declared.fault.SnepFault.{SnepFault}
use Rattle.snep_core.specs.Accord.{AsideFails, IsPeer, PeerState, PeerSteps}
use Rattle.snep_core.specs.Calling.{FailsBy, fault_of, gives_up}
use Rattle.snep_core.specs.Jobs.{Ending, Job, Over, has_byte}
use Rattle.snep_core.specs.Server.{Received, ServerState, serving}
use Rattle.snep_core.specs.declared.silent.NoService.{NoService}
use Rattle.snep_core.specs.Talk.{EndState, Ends, GivesUp, Goes, Ready, Step, Working, alone, client_sap, emptied, gave_something, heard, own_of, payload, readied, ready, ready_so, replied, silent}
use Rattle.snep_core.specs.Talk.{took, units_of}
use Rattle.snep_core.proofs.connections.Carrying.{AtFronts, FirstSo, HopSo, at_front, handed, handed_first}
use Rattle.snep_core.proofs.jobs.Courses.{Course, IsSafe, breaks_off, came}
use Rattle.snep_core.proofs.jobs.Talking.{took_some}

-- Where both ends stand before a call's payload, between it and its reply, and behind it; the peer's service stays.
pub record OneExchange (s : ServerState) (job : Job) (ending : Ending) : Type 1 where
  pub Before : EndState → PeerState → Type 0
  pub Between : EndState → PeerState → Type 0
  pub After : EndState → PeerState → Type 0
  pub first : (l : EndState) (p : PeerState) → Before l p → FirstSo silent serving Between l p (gave silent l)
  pub on : (l : EndState) (p : PeerState) → Between l p → HopSo silent serving Between p (gave silent l)
  pub back : (p : PeerState) (l : EndState) → Between l p → FirstSo serving silent (λ q e. After e q) p l (gave serving p)
  pub back_on : (p : PeerState) (l : EndState) → After l p → HopSo serving silent (λ q e. After e q) l (gave serving p)
  pub before_readable : (l : EndState) (p : PeerState) → Before l p → (l.readable ≡ true) × (p.readable ≡ true)
  pub between_readable : (l : EndState) (p : PeerState) → Between l p → (l.readable ≡ true) × (p.readable ≡ true)
  pub before_kept : (l : EndState) (p : PeerState) → Before l p → p.service ≡ s
  pub between_kept : (l : EndState) (p : PeerState) → Between l p → p.service ≡ s
  pub after_kept : (l : EndState) (p : PeerState) → After l p → p.service ≡ s
  pub plain : (l : EndState) → readied l client_sap job ≡ ready_so l job
  pub over : (waiting : Bool) (l : EndState) (p : PeerState) → After l p → heard waiting l client_sap job ≡ Some (Over ending)
  pub emptied_is : (l : EndState) (p : PeerState) → After l p → emptied l client_sap ≡ l

module _ (s : ServerState) (job : Job) (ending : Ending) (x : OneExchange s job ending) where
  -- what was accepted stays
  abbrev pub Same : List Received → Type 0
  Same now = now ≡ s.accepted

  module _ (l : EndState) (p : PeerState) (h : x.Before l p) where
    asked : (k : ℕ) → x.Between (after_giving silent k l) (taken_from serving p (given silent k l))
    asked k = let r = x.before_readable l p h in handed_first silent serving x.Between x.on k l p r.0 r.1 (x.first l p h)

    answered : (k count : ℕ) → x.After (taken_from silent (after_giving silent k l) (given serving count (taken_from serving p (given silent k l))))
        (after_giving serving count (taken_from serving p (given silent k l)))
    answered k count =
        let mid = after_giving silent k l in
        let there = taken_from serving p (given silent k l) in
        let r = x.between_readable mid there (asked k) in
        handed_first serving silent (λ q e. x.After e q) x.back_on count there mid r.1 r.0 (x.back there mid (asked k))

  -- at each PDU of the client's payload
  abbrev Either : EndState → PeerState → Type 0
  Either l p = x.Before l p ⊎ x.Between l p

  either_so : (l : EndState) (p : PeerState) (o : Option (Gave NoService)) → FirstSo silent serving x.Between l p o → HopSo silent serving Either p o
  either_so l p None h = tt
  either_so l p (Some g) h = (h.0, inr h.1)

  either_on : (p : PeerState) (o : Option (Gave NoService)) → HopSo silent serving x.Between p o → HopSo silent serving Either p o
  either_on p None h = tt
  either_on p (Some g) h = (h.0, inr h.1)

  either_hops : (l : EndState) (p : PeerState) → Either l p → HopSo silent serving Either p (gave silent l)
  either_hops l p (inl h) = either_so l p (gave silent l) (x.first l p h)
  either_hops l p (inr h) = either_on p (gave silent l) (x.on l p h)

  either_kept : (l : EndState) (p : PeerState) → Either l p → p.service ≡ s
  either_kept l p (inl h) = x.before_kept l p h
  either_kept l p (inr h) = x.between_kept l p h

  before_safe : (l : EndState) (p : PeerState) → x.Before l p → IsSafe Same l p
  before_safe l p h = record {
    here = ap (λ (z : ServerState). z.accepted) (x.before_kept l p h);
    stepped = λ k count. ap (λ (z : ServerState). z.accepted) (x.after_kept _ _ (answered l p h k count));
    fronts = λ k front behind split.
        (let r = x.before_readable l p h in
        let f = handed silent serving Either either_hops k l p r.0 r.1 (inl h) in
        let t = at_front silent serving Either front behind p (subst (λ is. AtFronts silent serving Either p is) split f.fronts) in
        ap (λ (z : ServerState). z.accepted) (either_kept t.0 (steps serving p front) t.1));
  }

  -- where a call is: at its begin, or at its end
  abbrev pub StepSo : Step → PeerState → Type 0
  StepSo (Goes w) p = (l : EndState) × (idle : ℕ) × (w ≡ record { llc = l; jobs = alone job; idle = idle }) × x.Before l p
  StepSo (Ends jobs l) p = (jobs ≡ alone (Over ending)) × x.After l p
  StepSo (GivesUp l) p = ⊥

  module _ (l : EndState) (p : PeerState) (idle : ℕ) (h : x.Before l p) (k : ℕ) (reply : List ℕ) (q : PeerState) where
    abbrev TurnSo : Ready → Type 0
    TurnSo r = PeerSteps p (given silent k r.llc) reply q
        → StepSo (took (after_giving silent k r.llc) (taken_from silent (after_giving silent k r.llc) reply) (alone r.job) idle) q

    turn_so : TurnSo (ready_so l job)
    turn_so z =
        let mid = after_giving silent k l in
        let there = taken_from serving p (given silent k l) in
        let end_ = taken_from silent mid reply in
        let now : x.After end_ q =
        subst (λ b. x.After (taken_from silent mid b) q) (sym z.reply_is)
        (subst (λ b. x.After (taken_from silent mid (given serving z.count there)) b) (sym z.left) (answered l p h k z.count)) in
        let gave_ = gave_something (own_of client_sap mid) (own_of client_sap end_) || has_byte (units_of (own_of client_sap end_)) in
        let same = x.emptied_is end_ q now in
        subst (λ b. StepSo b q) (sym (took_some client_sap mid end_ end_ job job idle (Over ending) gave_ (x.over (has_waiting_of (own_of client_sap mid)) end_ q now) refl))
        (refl, subst (λ b. x.After b q) (sym same) now)

    turned : TurnSo (readied l client_sap job)
    turned = subst TurnSo (sym (x.plain l)) turn_so

  pub turns_so : (w : Working) (p : PeerState) → StepSo (Goes w) p → (k : ℕ) (reply : List ℕ) (q : PeerState) → PeerSteps p (payload k w) reply q → StepSo (replied k w reply) q
  turns_so w p (l, idle, e, h) k reply q z =
      subst (λ v. StepSo (replied k v reply) q) (sym e) (turned l p idle h k reply q (subst (λ v. PeerSteps p (payload k v) reply q) e z))

  pub safe_so : (w : Working) (p : PeerState) → StepSo (Goes w) p → IsSafe Same (ready w).llc p
  safe_so w p (l, idle, e, h) =
      subst (λ v. IsSafe Same (ready v).llc p) (sym e) (subst (λ (r : Ready). IsSafe Same r.llc p) (sym (x.plain l)) (before_safe l p h))

  abbrev pub course : Course Same
  course = record { At = StepSo; turns = turns_so; safe = safe_so }

  aside_by : (old p : PeerState) → p.service.accepted ≡ old.service.accepted → (c : EndCause) → AsideFails old (fault_of c) p
  aside_by old p h cause.FieldLost = h
  aside_by old p h cause.SixBad = h
  aside_by old p h cause.Protocol = h
  aside_by old p h cause.Memory = h

  -- it failed
  module _ {C A : Type 0} (seen : C → CarrierView) (swaps : C → List ℕ → List FarStep → C → Type 0) (far_steps : A → List ℕ → List ℕ → A → Type 0) (far_stops : A → List ℕ → A → Type 0)
      (view : A → PeerState) (peer : IsPeer far_steps far_stops view) (link : C) (far : A) (is : (view far).service ≡ s) (numbers : List ℕ) where
    pub fails_so : (from : Step) (e : SnepFault) (new : EndState) (now : C) (after : A) → StepSo from (view far) → FailsBy seen swaps far_steps far_stops numbers from link far e new now after
        → AsideFails (view far) e (view after)
    fails_so from e new now after h (inl (f, k, t)) = absurd (came Same course seen swaps far_steps far_stops view peer numbers from (gives_up k new) link now far after h t)
    fails_so from e new now after h (inr b) =
        let k = breaks_off Same course seen swaps far_steps far_stops view peer numbers from link far e new now after h b in
        subst (λ z. AsideFails (view far) z (view after)) (sym k.fault)
        (aside_by (view far) (view after) (k.added ∙ ap (λ (z : ServerState). z.accepted) (sym is)) k.why)
