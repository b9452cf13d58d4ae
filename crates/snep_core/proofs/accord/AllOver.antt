-- Any jobs of a call: what was accepted from the SAPs of none, how client and peer accord again once all jobs are over, and the course of
-- the call.
use Rattle.std.proofs.Common.{◌≡◌, ◌⊎◌, ◌||◌, ℕ, Bool, true, false, List, [], ◌∷◌, length, map, Some, refl, sym, ◌∙◌, ap, subst, inl, inr}
use Rattle.llcp_link.specs.State.{Bound, conn_from, own_from}
use Rattle.snep_core.specs.Accord.{Accords, IsApart, IsClientSap, IsJoined, IsPaired, PeerState, is_some_of}
use Rattle.snep_core.specs.Jobs.{Job}
use Rattle.snep_core.specs.Payloads.{accepted_from}
use Rattle.snep_core.specs.Server.{Received, serving}
use Rattle.snep_core.specs.Session.{Offer, fresh_session}
use Rattle.snep_core.specs.Talk.{AllReady, EndState, Goes, Step, Working, is_over, ready, saps, silent}
use Rattle.snep_core.proofs.connections.Carrying.{AtFronts, at_front}
use Rattle.snep_core.proofs.jobs.Courses.{Course, IsSafe}
use Rattle.snep_core.proofs.connections.Hops.{hands, takes}
use Rattle.snep_core.proofs.connections.Meets.{AreUnlike, Keeps, Meets, cc_of, connect_of, is_in}
use Rattle.snep_core.proofs.connections.OnConnection.{conn_at}
use Rattle.snep_core.proofs.connections.Opening.{stands, waits}
use Rattle.snep_core.proofs.connections.Places.{Plan, StandsBy, Talking}
use Rattle.snep_core.proofs.connections.Sides.{Sizes}
use Rattle.snep_core.proofs.jobs.Turns.{Agrees, Rests, StepSo, ready_so_far, turns_so}

module _ (limit : ℕ) (table : List Offer) (names : List Bound) (old : List Received) (z : Sizes) (plan : ℕ → Plan) (keeps : Keeps limit table names old z plan)
    (rests : (s miu size : ℕ) → (plan s).is_job ≡ false → (ph : ((plan s).conv miu size).Phase) → ((plan s).conv miu size).Holds ph
    → (((plan s).conv miu size).queue_at ph ≡ []) × (((plan s).conv miu size).session_at ph ≡ fresh_session))
    (ours : List ℕ) (unlike : AreUnlike ours) (ranges : (s : ℕ) → is_in s ours ≡ true → IsClientSap s) (mine : (s : ℕ) → (plan s).is_job ≡ is_in s ours)
    (idles : (s miu size : ℕ) → (plan s).is_job ≡ false → (ph : ((plan s).conv miu size).Phase)
    → (((plan s).conv miu size).units_at ph ≡ []) × (((plan s).conv miu size).accepted_at ph ≡ old) × (is_over (((plan s).conv miu size).job_at ph) ≡ true)) where
  abbrev M_ : (ℕ → Job) → EndState → PeerState → Type 0
  M_ job l p = Meets limit table names old z plan job l p

  module _ (job : ℕ → Job) (l : EndState) (p : PeerState) (h : M_ job l p) where
    abbrev Stood : ℕ → Bool → Bool → Type 0
    Stood s a w = StandsBy limit table old z s (plan s) (job s) a w (own_from s l.own) (conn_from s p.served) p.service

    pub others_got : (s : ℕ) → (plan s).is_job ≡ false → accepted_from s p.service.accepted ≡ accepted_from s old
    others_got s m = go (is_in s h.asked) (is_in s h.awaited) (h.sides.at s)
      where
        go : (a w : Bool) → Stood s a w → accepted_from s p.service.accepted ≡ accepted_from s old
        go true w y = y.got
        go false true y = y.serves.got
        go false false (inl y) = y.got
        go false false (inr y) = y.serves.got ∙ ap (accepted_from s) (idles s y.n.server_miu y.n.client_miu m y.phase).1

    -- nothing of a conversation is left
    abbrev pub IsDone : ℕ → Type 0
    IsDone s =
        (t : Talking limit table old z s (plan s) (job s) (own_from s l.own) (conn_from s p.served) p.service)
        → (((plan s).conv t.n.server_miu t.n.client_miu).queue_at t.phase ≡ []) × (((plan s).conv t.n.server_miu t.n.client_miu).units_at t.phase ≡ [])
        × (((plan s).conv t.n.server_miu t.n.client_miu).session_at t.phase ≡ fresh_session)

    module _ (overs : (s : ℕ) → (plan s).is_job ≡ true → is_over (job s) ≡ true) (dones : (s : ℕ) → (plan s).is_job ≡ true → IsDone s) where
      no_asked : (xs : List ℕ) → h.asked ≡ xs → h.asked ≡ []
      no_asked [] e = e
      no_asked (t ∷ rest) e =
          let y = stands limit table names old z plan job l p h t rest e in
          let n : true ≡ false = sym (overs t y.busy) ∙ ap is_over y.job_is in
          absurd (let k = n in cc)

      no_awaited : (xs : List ℕ) → h.awaited ≡ xs → h.awaited ≡ []
      no_awaited [] e = e
      no_awaited (t ∷ rest) e =
          let y = waits limit table names old z plan job l p h t rest e in
          let n : true ≡ false = sym (overs t y.busy) ∙ ap is_over y.job_is in
          absurd (let k = n in cc)

      all_done : (s : ℕ) (b : Bool) → (plan s).is_job ≡ b → IsDone s
      all_done s true m = dones s m
      all_done s false m = λ t.
          let r = rests s t.n.server_miu t.n.client_miu m t.phase t.holds in (r.0, (idles s t.n.server_miu t.n.client_miu m t.phase).0, r.1)

      over_at : (s : ℕ) (b : Bool) → (plan s).is_job ≡ b → (t : Talking limit table old z s (plan s) (job s) (own_from s l.own) (conn_from s p.served) p.service)
          → is_over (((plan s).conv t.n.server_miu t.n.client_miu).job_at t.phase) ≡ true
      over_at s true m t = ap is_over (sym t.job_is) ∙ overs s m
      over_at s false m t = (idles s t.n.server_miu t.n.client_miu m t.phase).2

      stands_again : (s : ℕ) → IsApart s l p ⊎ IsJoined s l p
      stands_again s =
          go (subst (λ w. Stood s false (is_in s w)) (no_awaited h.awaited refl) (subst (λ w. Stood s (is_in s w) (is_in s h.awaited)) (no_asked h.asked refl) (h.sides.at s)))
        where
          go : Stood s false false → IsApart s l p ⊎ IsJoined s l p
          go (inl y) = inl (record { own = y.own; served = y.served })
          go (inr t) =
              let d = all_done s (plan s).is_job refl t in
              let c = (plan s).conv t.n.server_miu t.n.client_miu in inr (record {
                range = t.range;
                numbers = t.n;
                paired = subst (λ w. IsPaired t.n (length w)) d.0 t.paired;
                own = t.own ∙ ap (λ w. Some (conn_at s t.n w (c.units_at t.phase))) d.0 ∙ ap (λ w. Some (conn_at s t.n [] w)) d.1;
                served = t.served;
                settled = t.settled (ap (λ us. is_some_of us || is_over (c.job_at t.phase)) d.1 ∙ over_at s (plan s).is_job refl t);
                session = t.serves.session ∙ d.2;
              })

      -- All jobs are over: client and peer accord again.
      pub accords_again : Accords l p
      accords_again = record {
        client_fair = h.sides.client_fair;
        peer_fair = h.sides.peer_fair;
        peer_serving = record { seats = h.sides.kept.seats; bound = h.sides.reached.1; far_miu = h.sides.reached.2 };
        calm = record {
          client_readable = h.sides.client_readable;
          client_queue = h.sides.client_queue ∙ ap (map (connect_of limit table names old z plan)) (no_asked h.asked refl);
          client_served = h.sides.client_served;
          peer_readable = h.sides.peer_readable;
          peer_queue = h.sides.peer_queue ∙ ap (map (cc_of limit table names old z plan)) (no_awaited h.awaited refl);
          peer_own = h.sides.peer_own;
          no_other = h.sides.no_other;
        };
        stands = stands_again;
      }

  -- However the client's next payload comes to the peer, what is accepted is of some kind, with its jobs as they then stand.
  pub safe_so : (Adds : List Received → Type 0) (w : Working) (p : PeerState) (job : ℕ → Job) (a : Agrees job w.jobs) (e : saps w.jobs ≡ ours)
      (h : Rests limit table names old z plan keeps rests ours unlike ranges mine job w.llc p)
      → ((l : EndState) (q : PeerState) → M_ (ready_so_far limit table names old z plan keeps rests ours unlike ranges mine w p job a e h).now l q → Adds q.service.accepted)
      → IsSafe Adds (ready w).llc p
  safe_so Adds w p job a e h adds =
      let x = ready_so_far limit table names old z plan keeps rests ours unlike ranges mine w p job a e h in
      let handed = hands limit table names old z plan x.now keeps x.meets in
      subst (λ (r : AllReady). IsSafe Adds r.llc p) (sym x.is) (record {
        here = adds x.to p x.meets;
        stepped = λ k count. adds _ _ (takes limit table names old z plan x.now keeps (handed k).now count);
        fronts = λ k front behind split.
            (let f = at_front silent serving (M_ x.now) front behind p (subst (λ is. AtFronts silent serving (M_ x.now) p is) split (handed k).fronts) in
            adds _ _ f.1);
      })

  -- The course of a call: until all is answered, what is accepted is of some kind.
  module _ (Adds : List Received → Type 0) (adds : (job : ℕ → Job) (l : EndState) (p : PeerState) → M_ job l p → Adds p.service.accepted) where
    abbrev At_ : Step → PeerState → Type 0
    At_ s p = StepSo limit table names old z plan keeps rests ours unlike ranges mine s p

    pub jobs_safe : (w : Working) (p : PeerState) → At_ (Goes w) p → IsSafe Adds (ready w).llc p
    jobs_safe w p (job, a, e, on, h, f) =
        safe_so Adds w p job a e h (adds (ready_so_far limit table names old z plan keeps rests ours unlike ranges mine w p job a e h).now)

    abbrev pub jobs_course : Course Adds
    jobs_course = record {
      At = At_;
      turns = turns_so limit table names old z plan keeps rests ours unlike ranges mine;
      safe = jobs_safe;
    }
