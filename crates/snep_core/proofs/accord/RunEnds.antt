-- What a run of the messages that wait in slots comes to at a peer that its client accords with, slot by slot.
use Rattle.std.proofs.Common.{◌≡◌, ◌<◌, ◌≤◌, ℕ, ◌^◌, ◌==◌, Bool, true, false, List, [], ◌∷◌, length, Option, Some, None, append-nil, refl, sym, ◌∙◌, ap, subst, inl, inr, arith, if◌then◌else◌}
use Rattle.nfc_base.specs.declared.carrier.EndCause.{EndCause}
use Rattle.nfc_base.specs.declared.carrier.EndCause.TheVariants as cause
use Rattle.nfc_base.specs.Links.{CarrierView, FarStep}
use Rattle.snep_core.specs.declared.fault.SnepFault.{SnepFault}
use Rattle.snep_core.specs.declared.fault.SnepFault.TheVariants.{Memory}
use Rattle.std.specs.List.{AllByRecursion}
use Rattle.snep_core.specs.Accord.{Accords, AllAdd, EndedFrom, IsClientSap, IsPeer, IsRun, PeerState, PutsEnded, PutsFailed, RunAdds, RunFails, SlotTells, TellsOf, is_in, most_clients}
use Rattle.snep_core.specs.Calling.{FailsAt, RunFailsAt, RunsTo, Talks, fault_of, slots_left}
use Rattle.snep_core.specs.Jobs.{Asks, Begins, Closes, Collects, Done, Ending, Job, Looks, Over, Refused, Sap, Sends, Value, Waits}
use Rattle.snep_core.specs.RepliesLeft.{IsBelowCountEnd, IsUnderWay, task_saps}
use Rattle.snep_core.specs.Server.{Received}
use Rattle.snep_core.specs.Slots.{AllFit, NoMessage, NoneStaged, Rejected, Slot, Staged, Success, all_puts, answered_by, has_staged, is_staged_at, job_from, marked, noted, slot_at, slot_count}
use Rattle.snep_core.specs.Slots.{some_staged}
use Rattle.snep_core.specs.Talk.{AllReady, EndState, Ends, OnSap, Puts, Step, TaskOn, all_opening, all_over, begins_all, beginning, begun, client_sap, opening, put_bytes, sap_of_slot, saps, with_job}
use Rattle.snep_core.proofs.jobs.CallsEnd.{calls_begin}
use Rattle.snep_core.proofs.connections.Connects.{connect_all}
use Rattle.snep_core.proofs.sessions.Following.{follow_saps, told_follow}
use Rattle.snep_core.proofs.accord.PutsRun.{not_over, put_jobs, puts_ended, puts_failed, puts_saps}
use Rattle.snep_core.proofs.jobs.SlotPuts.{AllServe, ArePuts, NoneOver, all_put, fits_there, message_of, no_puts, none_left, none_waits, noted_not, noted_there, puts_are, puts_distinct, puts_few}
use Rattle.snep_core.proofs.jobs.SlotPuts.{puts_there, puts_unlike, slot_of, slot_there, some_puts, staged_range}
use Rattle.snep_core.proofs.jobs.Talking.{rests_at, talks_none}

-- what puts queue, and their jobs
opened_puts : (message : ℕ → List ℕ) (xs : List TaskOn) (l : EndState) → ArePuts message xs
    → all_opening xs l ≡ record { llc = connect_all (task_saps xs) l; jobs = put_jobs message (task_saps xs) }
opened_puts message [] l a = refl
opened_puts message (x ∷ xs) l a =
    ap (λ t. with_job x.sap (opening l x.sap t) (all_opening xs)) a.0
    ∙ ap (λ (r : AllReady). with_job x.sap (opening l x.sap (Puts (message x.sap))) (λ k. r)) (opened_puts message xs (opening l x.sap (Puts (message x.sap))).llc a.1)

begins_puts : (message : ℕ → List ℕ) (xs : List TaskOn) (l : EndState) → ArePuts message xs → (s : ℕ) → is_in s (task_saps xs) ≡ true
    → begins_all l xs ≡ begun (connect_all (task_saps xs) l) (put_jobs message (task_saps xs))
begins_puts message xs l a s i =
    ap beginning (opened_puts message xs l a)
    ∙ ap (λ b. if b then Ends (put_jobs message (task_saps xs)) (connect_all (task_saps xs) l) else begun (connect_all (task_saps xs) l) (put_jobs message (task_saps xs)))
    (not_over message (task_saps xs) s i)

puts_serve : (message : ℕ → List ℕ) (ss : List ℕ) → AllServe (put_jobs message ss)
puts_serve message [] = tt
puts_serve message (s ∷ ss) = (refl, puts_serve message ss)

module _ (slots : List Slot) (fits : AllFit slots) (eight : length slots ≡ slot_count) where
  abbrev pub ours : List ℕ
  ours = task_saps (all_puts slots)

  abbrev pub message : ℕ → List ℕ
  message s = message_of (slot_of client_sap slots s)

  few : length ours ≤ most_clients
  few = let k = puts_few slots client_sap in omega (arith, k, eight)

  ranges : (s : ℕ) → is_in s ours ≡ true → IsClientSap s
  ranges s i =
      let r = staged_range slots client_sap s (sym (puts_there slots client_sap s) ∙ i) in
      let u = r.0 in let v = r.1 in (omega (arith, u), omega (arith, v, eight))

  short : (s : ℕ) → is_in s ours ≡ true → length (message s) < 2 ^ 32
  short s i = let k = fits_there slots client_sap s fits in omega (arith, k)

  are_puts : ArePuts message (all_puts slots)
  are_puts = puts_are message slots client_sap (λ s l. refl)

  pub run_begins : (l : EndState) → some_staged slots ≡ true → begins_all l (all_puts slots) ≡ begun (connect_all ours l) (put_jobs message ours)
  run_begins l w = let k = some_puts slots client_sap w in begins_puts message (all_puts slots) l are_puts k.0 k.1

  -- Slot by slot, as jobs came to something.
  module _ (jobs : List OnSap) (p : PeerState) (now : List Received)
      (each : (s : ℕ) → is_in s ours ≡ true → (end : Ending) → job_from s jobs ≡ Some (Over end) → EndedFrom s (message s) p end now)
      (adds : AllAdd ours message p now) where
    module _ (s : ℕ) where
      module _ (m : List ℕ) (e : slot_of client_sap slots s ≡ Staged m) where
        here : is_in s ours ≡ true
        here = puts_there slots client_sap s ∙ ap has_staged e

        same : message s ≡ m
        same = ap message_of e

        waits : TellsOf (Staged m) s m p now
        waits = subst (λ n. TellsOf (Staged n) s n p now) same (refl, adds.0 s here)

        ended : (end : Ending) → EndedFrom s (message s) p end now → TellsOf (answered_by (Some (Over end)) m) s m p now
        ended Done (inl (k, w)) = subst (λ n. TellsOf Success s n p now) same w
        ended Done (inr (k, w)) = absurd cc
        ended (Refused r) (inl (k, w)) = absurd cc
        ended (Refused r) (inr (k, w)) = subst (λ n. TellsOf Rejected s n p now) same w
        ended (Value v) (inl (k, w)) = absurd cc
        ended (Value v) (inr (k, w)) = absurd cc
        ended (Sap n) (inl (k, w)) = absurd cc
        ended (Sap n) (inr (k, w)) = absurd cc

        by_job : (q : Option Job) → job_from s jobs ≡ q → TellsOf (answered_by q m) s m p now
        by_job None i = waits
        by_job (Some (Over end)) i = ended end (each s here end i)
        by_job (Some (Begins most bytes)) i = waits
        by_job (Some (Waits most rest)) i = waits
        by_job (Some (Sends most rest)) i = waits
        by_job (Some (Asks size have)) i = waits
        by_job (Some (Collects size have)) i = waits
        by_job (Some (Looks tid)) i = waits
        by_job (Some Closes) i = waits

      tells : (y : Slot) → slot_of client_sap slots s ≡ y → SlotTells s y (marked (job_from s jobs) y) p now
      tells (Staged m) e = by_job m e (job_from s jobs) refl
      tells NoMessage e = (refl, adds.1 s (puts_there slots client_sap s ∙ ap has_staged e))
      tells Success e = (refl, adds.1 s (puts_there slots client_sap s ∙ ap has_staged e))
      tells Rejected e = (refl, adds.1 s (puts_there slots client_sap s ∙ ap has_staged e))

    told_at : (k : ℕ) → SlotTells (sap_of_slot k) (slot_at slots k) (slot_at (noted jobs slots) k) p now
    told_at k =
        let s = sap_of_slot k in
        let old : slot_of client_sap slots s ≡ slot_at slots k = slot_there slots client_sap k s refl in
        let new : marked (job_from s jobs) (slot_of client_sap slots s) ≡ slot_at (noted jobs slots) k =
        sym (noted_there jobs slots client_sap s) ∙ slot_there (noted jobs slots) client_sap k s refl in
        subst (λ y. SlotTells s y (slot_at (noted jobs slots) k) p now) old
        (subst (λ y. SlotTells s (slot_of client_sap slots s) y p now) new (tells s (slot_of client_sap slots s) refl))

    elsewhere : (s : ℕ) → (IsClientSap s → ⊥) → is_in s ours ≡ false
    elsewhere s n = go (is_in s ours) refl
      where
        go : (b : Bool) → is_in s ours ≡ b → is_in s ours ≡ false
        go true i = absurd (n (ranges s i))
        go false i = i

  run_adds : (jobs : List OnSap) (p q : PeerState)
      → ((s : ℕ) → is_in s ours ≡ true → (end : Ending) → job_from s jobs ≡ Some (Over end) → EndedFrom s (message s) p end q.service.accepted)
      → AllAdd ours message p q.service.accepted → RunAdds slots (noted jobs slots) p q
  run_adds jobs p q each adds = record {
    each = λ k l. told_at jobs p q.service.accepted each adds k;
    others = λ s n. adds.1 s (elsewhere jobs p q.service.accepted each adds s n);
    more = adds.2.0;
    grew = adds.2.1;
  }

  not_staged : (k : ℕ) → is_staged_at slots k ≡ false → is_in (sap_of_slot k) ours ≡ false
  not_staged k h = puts_there slots client_sap (sap_of_slot k) ∙ ap has_staged (slot_there slots client_sap k (sap_of_slot k) refl) ∙ h

  run_is : (jobs : List OnSap) (new : EndState) (p q : PeerState) → PutsEnded ours message p jobs new q → IsRun slots (noted jobs slots) p new q
  run_is jobs new p q h = record {
    adds = run_adds jobs p q
        (λ s i end j. (let x = h.each s i in
        let same : x.0 ≡ end = (let k : Some (Over x.0) ≡ Some (Over end) = sym x.1 ∙ j in cc) in
        subst (λ y. EndedFrom s (message s) p y q.service.accepted) same x.2)) h.adds;
    limit = h.limit;
    table = h.table;
    bound = h.bound;
    others = λ k l n. h.others (sap_of_slot k) (not_staged k n);
    accords = h.accords;
  }

  run_broke : (jobs : List OnSap) (e : SnepFault) (p q : PeerState) → PutsFailed ours message p jobs e q → RunFails slots (slots_left e (noted jobs slots)) p e q
  run_broke jobs e p q h = subst (λ f. RunFails slots (slots_left f (noted jobs slots)) p f q) (sym h.fault) (go h.why)
    where
      adds : RunAdds slots (noted jobs slots) p q
      adds = run_adds jobs p q h.each h.adds

      go : (c : EndCause) → RunFails slots (slots_left (fault_of c) (noted jobs slots)) p (fault_of c) q
      go cause.FieldLost = adds
      go cause.SixBad = adds
      go cause.Protocol = adds
      go cause.Memory = adds

  -- where all was answered, no message waits
  pub run_finished : (l new : EndState) (jobs : List OnSap) (numbers : List ℕ) {C A : Type 0} (seen : C → CarrierView) (swaps : C → List ℕ → List FarStep → C → Type 0)
      (steps : A → List ℕ → List ℕ → A → Type 0) (stops : A → List ℕ → A → Type 0) (link now : C) (far after : A) → some_staged slots ≡ true
      → Talks seen swaps steps stops numbers (begins_all l (all_puts slots)) link far (Ends jobs new) now after → NoneStaged (noted jobs slots)
  run_finished l new jobs numbers seen swaps steps stops link now far after w t =
      let u = subst (λ (z : Step). Talks seen swaps steps stops numbers z link far (Ends jobs new) now after) (run_begins l w) t in
      let f = told_follow (record { llc = connect_all ours l; jobs = put_jobs message ours; idle = 0 }) numbers u.did jobs new u.told in
      let same : saps jobs ≡ ours = follow_saps (put_jobs message ours) jobs f.0 ∙ puts_saps message ours in
      none_left jobs (all_put (put_jobs message ours) jobs f.0 f.1 (puts_serve message ours)) slots client_sap
      (λ s l k. ap (is_in s) same ∙ puts_there slots client_sap s ∙ k)

  -- the jobs with which it begins tell nothing yet
  pub run_unbegun : NoneOver (put_jobs message ours)
  run_unbegun = go ours
    where
      go : (ss : List ℕ) → NoneOver (put_jobs message ss)
      go [] s e i = absurd cc
      go (t ∷ ss) s e i = by (t == s) refl (go ss s e)
        where
          by : (b : Bool) → (t == s) ≡ b → (job_from s (put_jobs message ss) ≡ Some (Over e) → ⊥) → ⊥
          by true k more =
              absurd (let j : Some (Begins None (put_bytes (message t))) ≡ Some (Over e) =
              sym (ap (λ b. if b then Some (Begins None (put_bytes (message t))) else job_from s (put_jobs message ss)) k) ∙ i in cc)
          by false k more = more (sym (ap (λ b. if b then Some (Begins None (put_bytes (message t))) else job_from s (put_jobs message ss)) k) ∙ i)

  -- the call, once its puts began
  pub run_opens : (l new : EndState) (jobs : List OnSap) → some_staged slots ≡ true → all_opening (all_puts slots) l ≡ record { llc = new; jobs = jobs }
      → begins_all l (all_puts slots) ≡ begun new jobs
  run_opens l new jobs w e =
      let k = some_puts slots client_sap w in
      let on : all_over jobs ≡ false =
      ap (λ (r : AllReady). all_over r.jobs) (sym e ∙ opened_puts message (all_puts slots) l are_puts) ∙ not_over message ours k.0 k.1 in
      ap beginning e ∙ ap (λ b. if b then Ends jobs new else begun new jobs) on

  pub run_way : (l new : EndState) (jobs : List OnSap) → some_staged slots ≡ true → all_opening (all_puts slots) l ≡ record { llc = new; jobs = jobs }
      → AllByRecursion (IsBelowCountEnd l) (task_saps (all_puts slots)) → IsUnderWay (record { llc = new; jobs = jobs; idle = 0 })
  run_way l new jobs w e c =
      calls_begin l (all_puts slots) (record { llc = new; jobs = jobs; idle = 0 }) (puts_distinct slots client_sap) c (run_opens l new jobs w e)

  module _ {C A : Type 0} (seen : C → CarrierView) (swaps : C → List ℕ → List FarStep → C → Type 0) (steps : A → List ℕ → List ℕ → A → Type 0) (stops : A → List ℕ → A → Type 0)
      (numbers : List ℕ) where
    -- memory was wanting before anything was handed over
    pub run_rests : (l new : EndState) (link : C) (far : A) (e : SnepFault) → some_staged slots ≡ true → e ≡ Memory
        → RunFailsAt seen swaps steps stops numbers l slots link far e new slots link far
    run_rests l new link far e w f = record {
      jobs = put_jobs message ours;
      fails = subst (λ (z : Step). FailsAt seen swaps steps stops numbers z link far (put_jobs message ours) e new link far) (sym (run_begins l w))
          (rests_at seen swaps steps stops numbers (record { llc = connect_all ours l; jobs = put_jobs message ours; idle = 0 }) link far e new f);
      told_is = subst (λ z. slots ≡ slots_left z (noted (put_jobs message ours) slots)) (sym f) (sym (noted_not (put_jobs message ours) run_unbegun slots client_sap));
    }

    -- it failed later
    pub run_stopped : (l begun_end new : EndState) (jobs at : List OnSap) (told : List Slot) (link now : C) (far after : A) (e : SnepFault) → some_staged slots ≡ true
        → all_opening (all_puts slots) l ≡ record { llc = begun_end; jobs = jobs }
        → FailsAt seen swaps steps stops numbers (begun begun_end jobs) link far at e new now after → told ≡ slots_left e (noted at slots)
        → RunFailsAt seen swaps steps stops numbers l slots link far e new told now after
    run_stopped l begun_end new jobs at told link now far after e w o h t = record {
      jobs = at;
      fails = subst (λ (z : Step). FailsAt seen swaps steps stops numbers z link far at e new now after) (sym (run_opens l begun_end jobs w o)) h;
      told_is = t;
    }

    -- all was answered
    pub run_done : (l begun_end new : EndState) (jobs ended : List OnSap) (told : List Slot) (link now : C) (far after : A) → some_staged slots ≡ true
        → all_opening (all_puts slots) l ≡ record { llc = begun_end; jobs = jobs }
        → Talks seen swaps steps stops numbers (begun begun_end jobs) link far (Ends ended new) now after → told ≡ noted ended slots
        → RunsTo seen swaps steps stops numbers l slots link far new told now after
    run_done l begun_end new jobs ended told link now far after w o h t =
        let talks = subst (λ (z : Step). Talks seen swaps steps stops numbers z link far (Ends ended new) now after) (sym (run_opens l begun_end jobs w o)) h in record {
          jobs = ended;
          talks = talks;
          told_is = t;
          finished = subst NoneStaged (sym t) (run_finished l new ended numbers seen swaps steps stops link now far after w talks);
        }

  module _ {C A : Type 0} (seen : C → CarrierView) (swaps : C → List ℕ → List FarStep → C → Type 0) (steps : A → List ℕ → List ℕ → A → Type 0) (stops : A → List ℕ → A → Type 0)
      (view : A → PeerState) (peer : IsPeer steps stops view) (client : EndState) (link : C) (far : A) (a : Accords client (view far)) (numbers : List ℕ) where
    pub run_ended : some_staged slots ≡ true → (told : List Slot) (new : EndState) (now : C) (after : A)
        → RunsTo seen swaps steps stops numbers client slots link far new told now after → IsRun slots told (view far) new (view after)
    run_ended w told new now after h =
        subst (λ z. IsRun slots z (view far) new (view after)) (sym h.told_is)
        (run_is h.jobs new (view far) (view after)
        (puts_ended seen swaps steps stops view peer client link far a numbers ours (puts_unlike slots client_sap) few (some_puts slots client_sap w) ranges message short
        h.jobs new now after (subst (λ (z : Step). Talks seen swaps steps stops numbers z link far (Ends h.jobs new) now after) (run_begins client w) h.talks)))

    pub run_failed : some_staged slots ≡ true → (told : List Slot) (e : SnepFault) (new : EndState) (now : C) (after : A)
        → RunFailsAt seen swaps steps stops numbers client slots link far e new told now after → RunFails slots told (view far) e (view after)
    run_failed w told e new now after h =
        subst (λ z. RunFails slots z (view far) e (view after)) (sym h.told_is)
        (run_broke h.jobs e (view far) (view after)
        (puts_failed seen swaps steps stops view peer client link far a numbers ours (puts_unlike slots client_sap) few (some_puts slots client_sap w) ranges message short
        h.jobs e new now after (subst (λ (z : Step). FailsAt seen swaps steps stops numbers z link far h.jobs e new now after) (run_begins client w) h.fails)))

-- nothing waited
module _ {C A : Type 0} (seen : C → CarrierView) (swaps : C → List ℕ → List FarStep → C → Type 0) (steps : A → List ℕ → List ℕ → A → Type 0) (stops : A → List ℕ → A → Type 0)
    (numbers : List ℕ) where
  pub run_idle : (slots : List Slot) (l : EndState) (link : C) (far : A) → some_staged slots ≡ false → RunsTo seen swaps steps stops numbers l slots link far l slots link far
  run_idle slots l link far w = record {
    jobs = [];
    talks = subst (λ xs. Talks seen swaps steps stops numbers (begins_all l xs) link far (Ends [] l) link far) (sym (no_puts slots client_sap w))
        (talks_none seen swaps steps stops numbers (Ends [] l) link far);
    told_is = sym (noted_not [] (λ s e i. absurd cc) slots client_sap);
    finished = none_waits slots w;
  }

-- nothing was done
still_told : (k : ℕ) (y : Slot) (p : PeerState) → SlotTells k y y p p.service.accepted
still_told k (Staged m) p = (refl, inl refl)
still_told k NoMessage p = (refl, refl)
still_told k Success p = (refl, refl)
still_told k Rejected p = (refl, refl)

pub run_still : (slots : List Slot) (p : PeerState) → RunAdds slots slots p p
run_still slots p = record {
  each = λ k l. still_told (sap_of_slot k) (slot_at slots k) p;
  others = λ s n. refl;
  more = [];
  grew = sym (append-nil p.service.accepted);
}

pub run_nothing : (slots : List Slot) (client : EndState) (p : PeerState) → Accords client p → IsRun slots slots p client p
run_nothing slots client p a = record {
  adds = run_still slots p;
  limit = refl;
  table = refl;
  bound = refl;
  others = λ k l n. refl;
  accords = a;
}
