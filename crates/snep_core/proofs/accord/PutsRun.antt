-- What a call of puts from several SAPs comes to over a peer that its client accords with.
use Rattle.std.proofs.Common.{◌≡◌, ◌<◌, ◌≤◌, ◌⊎◌, ℕ, ◌^◌, ◌==◌, ◌&&◌, ◌||◌, Bool, true, false, List, [], ◌∷◌, length, Option, Some, None, refl, sym, ◌∙◌, ap, subst, inl, inr, if◌then◌else◌}
use Rattle.std.proofs.lemmas.Bool.{eqb-true}
use Rattle.llcp_link.proofs.Clients.{is_self}
use Rattle.nfc_base.specs.Choosing.{first_number}
use Rattle.nfc_base.specs.Links.{CarrierView, FarStep}
use Rattle.snep_core.specs.declared.fault.SnepFault.{SnepFault}
use Rattle.snep_core.specs.Accord.{Accords, AllAdd, EndedFrom, IsClientSap, IsPeer, PeerState, PutsEnded, PutsFailed, most_clients}
use Rattle.snep_core.specs.Calling.{FailsAt, GivesUpThere, IsCut, Talks}
use Rattle.snep_core.specs.Jobs.{Begins, Ending, Job, Over}
use Rattle.snep_core.specs.Server.{Received}
use Rattle.snep_core.specs.Slots.{job_from}
use Rattle.snep_core.specs.Talk.{AllReady, EndState, Ends, Goes, OnSap, Step, Working, all_over, all_readied, begun, is_over, numbers_behind, put_bytes, ready, readied, saps}
use Rattle.snep_core.proofs.accord.AllBegin.{all_begin}
use Rattle.snep_core.proofs.accord.AllOver.{accords_again, jobs_course, others_got, safe_so}
use Rattle.snep_core.proofs.connections.Connects.{connect_all}
use Rattle.snep_core.proofs.requests.Conversations.{Conversation}
use Rattle.snep_core.proofs.jobs.Courses.{Course, IsSafe, came, cut_adds, cut_fault}
use Rattle.snep_core.proofs.accord.Ends.{sizes_of}
use Rattle.snep_core.proofs.connections.Meets.{AreUnlike, Meets, is_in}
use Rattle.snep_core.proofs.accord.PutsEnd.{adds_from, bytes_, conv_, done_from, ended_from, laws_, most_, plan_, starts_}
use Rattle.snep_core.proofs.accord.Requests.{first_by, firsts, idles, keeps, mine, rests}
use Rattle.snep_core.proofs.connections.Sides.{Sizes}
use Rattle.snep_core.proofs.jobs.Turns.{Agrees, few_at_first, ready_so_far}

-- a job that is over came to something
over_is : (job : Job) → is_over job ≡ true → (e : Ending) × (job ≡ Over e)
over_is (Over e) o = (e, refl)
over_is _ o = absurd cc

over_in : (job : ℕ → Job) (xs : List OnSap) → Agrees job xs → all_over xs ≡ true → (s : ℕ) → is_in s (saps xs) ≡ true → is_over (job s) ≡ true
over_in job [] a o s i = absurd cc
over_in job (x ∷ xs) a o s i = go (is_over x.job) refl o (x.sap == s) refl i (λ k m. over_in job xs a.1 k s m)
  where
    go : (b : Bool) → is_over x.job ≡ b → (b && all_over xs) ≡ true → (c : Bool) → (x.sap == s) ≡ c → (c || is_in s (saps xs)) ≡ true
        → (all_over xs ≡ true → is_in s (saps xs) ≡ true → is_over (job s) ≡ true) → is_over (job s) ≡ true
    go false e k c f m more = absurd cc
    go true e k true f m more = subst (λ r. is_over (job r) ≡ true) (eqb-true x.sap s f) (ap is_over a.0 ∙ e)
    go true e k false f m more = more k m

-- the job from a SAP, in a list
pub agrees_from : (job : ℕ → Job) (xs : List OnSap) → Agrees job xs → (s : ℕ) → is_in s (saps xs) ≡ true → job_from s xs ≡ Some (job s)
agrees_from job [] a s i = absurd cc
agrees_from job (x ∷ xs) a s i = go (x.sap == s) refl i (agrees_from job xs a.1 s)
  where
    go : (b : Bool) → (x.sap == s) ≡ b → (b || is_in s (saps xs)) ≡ true → (is_in s (saps xs) ≡ true → job_from s xs ≡ Some (job s))
        → job_from s (x ∷ xs) ≡ Some (job s)
    go true e k more =
        ap (λ b. if b then Some x.job else job_from s xs) e ∙ ap Some (sym a.0 ∙ ap job (eqb-true x.sap s e))
    go false e k more = ap (λ b. if b then Some x.job else job_from s xs) e ∙ more k

-- a job that is over stays so as the others submit
ready_over : (xs : List OnSap) (l : EndState) (s : ℕ) (e : Ending) → job_from s xs ≡ Some (Over e) → job_from s (all_readied xs l).jobs ≡ Some (Over e)
ready_over [] l s e i = absurd cc
ready_over (x ∷ xs) l s e i = go (x.sap == s) refl (λ k. ready_over xs (readied l x.sap x.job).llc s e k)
  where
    go : (b : Bool) → (x.sap == s) ≡ b → (job_from s xs ≡ Some (Over e) → job_from s (all_readied xs (readied l x.sap x.job).llc).jobs ≡ Some (Over e))
        → job_from s (all_readied (x ∷ xs) l).jobs ≡ Some (Over e)
    go true k more =
        let j : Some x.job ≡ Some (Over e) = sym (ap (λ b. if b then Some x.job else job_from s xs) k) ∙ i in
        let o : x.job ≡ Over e = cc in
        ap (λ b. if b then Some (readied l x.sap x.job).job else job_from s (all_readied xs (readied l x.sap x.job).llc).jobs) k
        ∙ ap (λ z. Some (readied l x.sap z).job) o
    go false k more =
        ap (λ b. if b then Some (readied l x.sap x.job).job else job_from s (all_readied xs (readied l x.sap x.job).llc).jobs) k
        ∙ more (sym (ap (λ b. if b then Some x.job else job_from s xs) k) ∙ i)

-- what puts begin with
abbrev pub put_jobs : (ℕ → List ℕ) → List ℕ → List OnSap
put_jobs message [] = []
put_jobs message (s ∷ ss) = record { sap = s; job = Begins None (put_bytes (message s)) } ∷ put_jobs message ss

pub puts_saps : (message : ℕ → List ℕ) (ss : List ℕ) → saps (put_jobs message ss) ≡ ss
puts_saps message [] = refl
puts_saps message (s ∷ ss) = ap (λ xs. s ∷ xs) (puts_saps message ss)

pub not_over : (message : ℕ → List ℕ) (ss : List ℕ) (s : ℕ) → is_in s ss ≡ true → all_over (put_jobs message ss) ≡ false
not_over message [] s i = absurd cc
not_over message (t ∷ ss) s i = refl

module _ {C A : Type 0} (seen : C → CarrierView) (swaps : C → List ℕ → List FarStep → C → Type 0) (steps : A → List ℕ → List ℕ → A → Type 0) (stops : A → List ℕ → A → Type 0)
    (view : A → PeerState) (peer : IsPeer steps stops view) (client : EndState) (link : C) (far : A) (a : Accords client (view far)) (numbers : List ℕ)
    (ours : List ℕ) (unlike : AreUnlike ours) (few : length ours ≤ most_clients) (some : (s : ℕ) × (is_in s ours ≡ true))
    (ranges : (s : ℕ) → is_in s ours ≡ true → IsClientSap s) (message : ℕ → List ℕ) (short : (s : ℕ) → is_in s ours ≡ true → length (message s) < 2 ^ 32) where
  abbrev p : PeerState
  p = view far

  abbrev z_ : Sizes
  z_ = sizes_of client p

  abbrev c_ : ℕ → ℕ → ℕ → Conversation
  c_ = conv_ p z_ ours ranges message short

  abbrev m_ : ℕ → Option ℕ
  m_ = most_ p z_ ours ranges message short

  abbrev b_ : ℕ → List ℕ
  b_ = bytes_ p z_ ours ranges message short

  abbrev pub from : Step
  from = begun (connect_all ours client) (put_jobs message ours)

  abbrev Added : List Received → Type 0
  Added now = AllAdd ours message p now

  all_add : (job : ℕ → Job) (l : EndState) (q : PeerState)
      → Meets p.service.limit p.service.table p.bound p.service.accepted z_ (plan_ p z_ ours ranges message short) job l q → Added q.service.accepted
  all_add job l q h = (
    λ s i. adds_from p z_ ours ranges message short job l q h s i,
    λ s n. others_got p.service.limit p.service.table p.bound p.service.accepted z_ (plan_ p z_ ours ranges message short)
        (keeps p.service.limit p.service.table p.bound p.service.accepted z_ ours c_ m_ b_ (laws_ p z_ ours ranges message short))
        (rests p.service.limit p.service.table p.bound p.service.accepted z_ ours c_ m_ b_ (laws_ p z_ ours ranges message short))
        ours unlike ranges (mine p.service.limit p.service.table p.bound p.service.accepted z_ ours c_ m_ b_ (laws_ p z_ ours ranges message short))
        (idles p.service.limit p.service.table p.bound p.service.accepted z_ ours c_ m_ b_ (laws_ p z_ ours ranges message short)) job l q h s
        (mine p.service.limit p.service.table p.bound p.service.accepted z_ ours c_ m_ b_ (laws_ p z_ ours ranges message short) s ∙ n),
    (h.sides.kept.more, h.sides.kept.grew),
  )

  abbrev course : Course Added
  course = jobs_course p.service.limit p.service.table p.bound p.service.accepted z_ (plan_ p z_ ours ranges message short)
      (keeps p.service.limit p.service.table p.bound p.service.accepted z_ ours c_ m_ b_ (laws_ p z_ ours ranges message short))
      (rests p.service.limit p.service.table p.bound p.service.accepted z_ ours c_ m_ b_ (laws_ p z_ ours ranges message short))
      ours unlike ranges (mine p.service.limit p.service.table p.bound p.service.accepted z_ ours c_ m_ b_ (laws_ p z_ ours ranges message short))
      (idles p.service.limit p.service.table p.bound p.service.accepted z_ ours c_ m_ b_ (laws_ p z_ ours ranges message short)) Added all_add

  firsts_agree : (ss : List ℕ) → ((s : ℕ) → is_in s ss ≡ true → is_in s ours ≡ true) → Agrees
      (firsts p.service.limit p.service.table p.bound p.service.accepted z_ ours c_ m_ b_ (laws_ p z_ ours ranges message short)) (put_jobs message ss)
  firsts_agree [] h = tt
  firsts_agree (s ∷ ss) h = (
    ap (first_by p.service.limit p.service.table p.bound p.service.accepted z_ ours c_ m_ b_ (laws_ p z_ ours ranges message short) s) (h s (ap (λ b. b || is_in s ss) (is_self s))),
    firsts_agree ss (λ t i. h t (later (s == t) (is_in t ss) i)),
  )
    where
      later : (b c : Bool) → c ≡ true → (b || c) ≡ true
      later true c e = refl
      later false c e = e

  begins_so : course.At from p
  begins_so = (
    firsts p.service.limit p.service.table p.bound p.service.accepted z_ ours c_ m_ b_ (laws_ p z_ ours ranges message short),
    firsts_agree ours (λ s i. i),
    puts_saps message ours,
    not_over message ours some.0 some.1,
    all_begin client p a ours unlike few ranges c_ m_ b_ (laws_ p z_ ours ranges message short) (starts_ p z_ ours ranges message short),
    few_at_first p.service.limit p.service.table p.bound p.service.accepted z_ (plan_ p z_ ours ranges message short)
        (keeps p.service.limit p.service.table p.bound p.service.accepted z_ ours c_ m_ b_ (laws_ p z_ ours ranges message short))
        (rests p.service.limit p.service.table p.bound p.service.accepted z_ ours c_ m_ b_ (laws_ p z_ ours ranges message short))
        ours unlike ranges (mine p.service.limit p.service.table p.bound p.service.accepted z_ ours c_ m_ b_ (laws_ p z_ ours ranges message short)) some.0 some.1 (connect_all ours client) p,
  )

  -- All were answered.
  pub puts_ended : (jobs : List OnSap) (new : EndState) (now : C) (after : A) → Talks seen swaps steps stops numbers from link far (Ends jobs new) now after
      → PutsEnded ours message p jobs new (view after)
  puts_ended jobs new now after t =
      let w = came Added course seen swaps steps stops view peer numbers from (Ends jobs new) link now far after begins_so t in
      let job = w.0 in
      let q = view after in
      let over : (s : ℕ) → is_in s ours ≡ true → is_over (job s) ≡ true = λ s i. over_in job jobs w.1 w.3 s (ap (is_in s) w.2 ∙ i) in record {
        saps_are = w.2;
        each = λ s i. (let e = over_is (job s) (over s i) in
            (e.0, agrees_from job jobs w.1 s (ap (is_in s) w.2 ∙ i) ∙ ap Some e.1, ended_from p z_ ours ranges message short job new q w.4.meets s i e.0 e.1));
        adds = all_add job new q w.4.meets;
        limit = w.4.meets.sides.kept.most;
        table = w.4.meets.sides.kept.offers;
        bound = w.4.meets.sides.reached.0;
        others = λ s n. w.4.meets.stays s (mine p.service.limit p.service.table p.bound p.service.accepted z_ ours c_ m_ b_ (laws_ p z_ ours ranges message short) s ∙ n);
        accords = accords_again p.service.limit p.service.table p.bound p.service.accepted z_ (plan_ p z_ ours ranges message short)
            (keeps p.service.limit p.service.table p.bound p.service.accepted z_ ours c_ m_ b_ (laws_ p z_ ours ranges message short))
            (rests p.service.limit p.service.table p.bound p.service.accepted z_ ours c_ m_ b_ (laws_ p z_ ours ranges message short))
            ours unlike ranges (mine p.service.limit p.service.table p.bound p.service.accepted z_ ours c_ m_ b_ (laws_ p z_ ours ranges message short))
            (idles p.service.limit p.service.table p.bound p.service.accepted z_ ours c_ m_ b_ (laws_ p z_ ours ranges message short)) job new q w.4.meets
            (λ s m. over s (sym (mine p.service.limit p.service.table p.bound p.service.accepted z_ ours c_ m_ b_ (laws_ p z_ ours ranges message short) s) ∙ m))
            (λ s m. (let i = sym (mine p.service.limit p.service.table p.bound p.service.accepted z_ ours c_ m_ b_ (laws_ p z_ ours ranges message short) s) ∙ m in
            let e = over_is (job s) (over s i) in done_from p z_ ours ranges message short job new q w.4.meets s i e.0 e.1));
      }

  -- What is added where a call is cut off whose jobs stood so: what was answered before stays so.
  abbrev AddedAt : List OnSap → List Received → Type 0
  AddedAt jobs now =
      AllAdd ours message p now
      × ((s : ℕ) → is_in s ours ≡ true → (end : Ending) → job_from s jobs ≡ Some (Over end) → EndedFrom s (message s) p end now)

  safe_at : (w : Working) (q : PeerState) → course.At (Goes w) q → IsSafe (AddedAt w.jobs) (ready w).llc q
  safe_at w q (job, a, e, on, h, f) =
      let x = ready_so_far p.service.limit p.service.table p.bound p.service.accepted z_ (plan_ p z_ ours ranges message short)
      (keeps p.service.limit p.service.table p.bound p.service.accepted z_ ours c_ m_ b_ (laws_ p z_ ours ranges message short))
      (rests p.service.limit p.service.table p.bound p.service.accepted z_ ours c_ m_ b_ (laws_ p z_ ours ranges message short))
      ours unlike ranges (mine p.service.limit p.service.table p.bound p.service.accepted z_ ours c_ m_ b_ (laws_ p z_ ours ranges message short)) w q job a e h in
      let is_now : (s : ℕ) → is_in s ours ≡ true → (end : Ending) → job_from s w.jobs ≡ Some (Over end) → x.now s ≡ Over end = λ s i end k.
      (let j : Some (x.now s) ≡ Some (Over end) =
      sym (agrees_from x.now x.jobs x.agrees s (ap (is_in s) (x.saps_are ∙ e) ∙ i)) ∙ ap (λ (r : AllReady). job_from s r.jobs) (sym x.is) ∙ ready_over w.jobs w.llc s end k in cc) in
      safe_so p.service.limit p.service.table p.bound p.service.accepted z_ (plan_ p z_ ours ranges message short)
      (keeps p.service.limit p.service.table p.bound p.service.accepted z_ ours c_ m_ b_ (laws_ p z_ ours ranges message short))
      (rests p.service.limit p.service.table p.bound p.service.accepted z_ ours c_ m_ b_ (laws_ p z_ ours ranges message short))
      ours unlike ranges (mine p.service.limit p.service.table p.bound p.service.accepted z_ ours c_ m_ b_ (laws_ p z_ ours ranges message short))
      (idles p.service.limit p.service.table p.bound p.service.accepted z_ ours c_ m_ b_ (laws_ p z_ ours ranges message short)) (AddedAt w.jobs) w q job a e h
      (λ l r m. (all_add x.now l r m, λ s i end k. ended_from p z_ ours ranges message short x.now l r m s i end (is_now s i end k)))

  -- It failed: the far end is never given up.
  pub puts_failed : (jobs : List OnSap) (e : SnepFault) (new : EndState) (now : C) (after : A) → FailsAt seen swaps steps stops numbers from link far jobs e new now after
      → PutsFailed ours message p jobs e (view after)
  puts_failed jobs e new now after h = go h.fails
    where
      at_ : course.At (Goes h.at) (view h.mid_far)
      at_ = came Added course seen swaps steps stops view peer numbers from (Goes h.at) link h.mid far h.mid_far begins_so h.talks

      count : ℕ
      count = first_number (numbers_behind h.talks.did numbers)

      go : GivesUpThere seen swaps steps stops count h.at h.mid h.mid_far e new now after ⊎ IsCut seen swaps steps stops count (ready h.at).llc h.mid h.mid_far e new now after
          → PutsFailed ours message p jobs e (view after)
      go (inl g) =
          absurd (subst (λ z. course.At z (view after)) g.turned.step
          (course.turns h.at (view h.mid_far) at_ count g.turned.reply (view after) (peer.steps_so h.mid_far _ g.turned.reply after g.turned.swap.step)))
      go (inr c) =
          let k = safe_at h.at (view h.mid_far) at_ in
          let f = cut_fault (AddedAt h.at.jobs) seen swaps steps stops view peer (ready h.at).llc h.mid_far k count e new h.mid now after c in
          let x = cut_adds (AddedAt h.at.jobs) seen swaps steps stops view peer (ready h.at).llc h.mid_far k count e new h.mid now after c in record {
            why = f.0;
            fault = f.1;
            saps_are = ap saps (sym h.stood) ∙ at_.2;
            each = λ s i end j. x.1 s i end (ap (job_from s) h.stood ∙ j);
            adds = x.0;
          }
