-- A call goes on by one exchange more.
use Rattle.std.proofs.Common.{◌≡◌, ℕ, Bool, true, false, List, [], ◌∷◌, ◌++◌, ◌||◌, ◌⊎◌, eqb, nat_lt, Option, Some, None, refl, sym, ap, subst, ◌∙◌, inl, inr, append-nil, if◌then◌else◌}
use Rattle.std.specs.List.{IsDistinct}
use Rattle.std.proofs.lemmas.List.{append_assoc}
use Rattle.nfc_base.specs.Choosing.{first_number, later_numbers}
use Rattle.nfc_base.specs.Links.{CarrierView, FarStep, Stepped, Stopped, FarMoved, SwapDone, Swapped, BySwaps, step_payload}
use Rattle.llcp_link.specs.Asking.{has_waiting_of}
use Rattle.llcp_link.specs.Giving.{given, after_giving}
use Rattle.snep_core.specs.declared.job.Awaiting.{Awaiting}
use Rattle.snep_core.specs.declared.job.HeardAll.{HeardAll}
use Rattle.snep_core.specs.declared.job.Turn.{Turn}
use Rattle.snep_core.specs.declared.job.Turn.TheVariants.{Ended, Went, GaveUp}
use Rattle.snep_core.specs.declared.fault.SnepFault.{SnepFault}
use Rattle.snep_core.specs.declared.fault.SnepFault.TheVariants.{BadPeer, Memory}
use Rattle.snep_core.specs.Calling.{ExchangedOnce, FailsAt, FailsBy, GivesUpThere, IsCut, IsStep, Talks, Turned, TurnedTo, gives_up, last_of, payloads}
use Rattle.snep_core.specs.Jobs.{Job, has_byte}
use Rattle.snep_core.specs.Listening.{HearsAll, all_awaiting, all_come, awaited_saps, empties, forgets, gave_one}
use Rattle.snep_core.proofs.accord.AllJobs.{awaited_so, come_saps, come_so, empties_so, forgets_so, gave_so, ready_saps}
use Rattle.snep_core.specs.Talk.{AllReady, AreApart, CameTo, EndState, Ends, GivesUp, Goes, OnSap, Step, ComesTo, Working, all_emptied, all_heard, all_over, all_readied, as_they_came, emptied}
use Rattle.snep_core.specs.Talk.{gave_any, gave_something, given_up, goes_on, heard, heard_with, idle_after, most_idle, numbers_behind, one_on, own_of, payload, ready, replied, replied_ready, saps}
use Rattle.snep_core.specs.Talk.{settled, silent, call_behind, took, units_of}

told_more : (from : Step) (ns : List ℕ) (did : List FarStep) (w : Working) (reply : List ℕ) (to : Step) → ComesTo ns from did (Goes w)
    → replied (first_number (numbers_behind did ns)) w reply ≡ to
    → ComesTo ns from (did ++ Stepped (payload (first_number (numbers_behind did ns)) w) reply ∷ []) to
told_more from ns [] w reply to t e = subst (λ s. ComesTo ns s (Stepped (payload (first_number ns) w) reply ∷ []) to) t (refl, sym e)
told_more (Goes v) ns (Stepped p r ∷ did) w reply to (q, more) e = (q, told_more (replied (first_number ns) v r) (later_numbers ns) did w reply to more e)
told_more (Goes v) ns (Stopped p ∷ did) w reply to t e = absurd t
told_more (Ends o l) ns (x ∷ did) w reply to t e = absurd t
told_more (GivesUp l) ns (x ∷ did) w reply to t e = absurd t

behind_more : (did : List FarStep) (x : FarStep) (ns : List ℕ) → numbers_behind (did ++ x ∷ []) ns ≡ later_numbers (numbers_behind did ns)
behind_more [] x ns = refl
behind_more (y ∷ did) x ns = behind_more did x (later_numbers ns)

payloads_more : (did : List FarStep) (x : FarStep) → payloads (did ++ x ∷ []) ≡ payloads did ++ step_payload x ∷ []
payloads_more [] x = refl
payloads_more (y ∷ did) x = ap (λ z. step_payload y ∷ z) (payloads_more did x)

last_more : (before : Option (List ℕ)) (did : List FarStep) (x : FarStep) → last_of before (did ++ x ∷ []) ≡ Some (step_payload x)
last_more before [] x = refl
last_more before (y ∷ did) x = last_more (Some (step_payload y)) did x

module _ {C A : Type 0} (seen : C → CarrierView) (swaps : C → List ℕ → List FarStep → C → Type 0) (steps : A → List ℕ → List ℕ → A → Type 0)
    (stops : A → List ℕ → A → Type 0) where
  far_more : (from : Step) (ns : List ℕ) (did : List FarStep) (w : Working) → ComesTo ns from did (Goes w) → (far mid after : A) (out reply : List ℕ)
      → FarMoved steps stops did far mid → steps mid out reply after → FarMoved steps stops (did ++ Stepped out reply ∷ []) far after
  far_more from ns [] w t far mid after out reply m s = (after, subst (λ z. steps z out reply after) m s, refl)
  far_more (Goes v) ns (Stepped p r ∷ did) w (q, more) far mid after out reply (x, s1, m) s =
      (x, s1, far_more (replied (first_number ns) v r) (later_numbers ns) did w more x mid after out reply m s)
  far_more (Goes v) ns (Stopped p ∷ did) w t far mid after out reply m s = absurd t
  far_more (Ends o l) ns (x ∷ did) w t far mid after out reply m s = absurd t
  far_more (GivesUp l) ns (x ∷ did) w t far mid after out reply m s = absurd t

  by_more : (did : List FarStep) (x : FarStep) (a mid now : C) → BySwaps swaps did a mid → swaps mid (step_payload x) (x ∷ []) now → BySwaps swaps (did ++ x ∷ []) a now
  by_more [] x a mid now b s = (now, subst (λ z. swaps z (step_payload x) (x ∷ []) now) b s, refl)
  by_more (y ∷ did) x a mid now (half, one, rest) s = (half, one, by_more did x half mid now rest s)

  abbrev pub talks_none : (numbers : List ℕ) (from : Step) (link : C) (far : A) → Talks seen swaps steps stops numbers from link far from link far
  talks_none numbers from link far = record {
    did = [];
    told = refl;
    handed = sym (append-nil (seen link).handed);
    last = refl;
    over = refl;
    swapped = refl;
    far_moved = refl;
  }

  -- memory was wanting before anything was handed over
  pub rests_at : (numbers : List ℕ) (w : Working) (link : C) (far : A) (e : SnepFault) (new : EndState) → e ≡ Memory
      → FailsAt seen swaps steps stops numbers (Goes w) link far w.jobs e new link far
  rests_at numbers w link far e new f = record {
    at = w;
    stood = refl;
    mid = link;
    mid_far = far;
    talks = talks_none numbers (Goes w) link far;
    fails = inr (inl (inl (record { fault = f; link_is = refl; far_is = refl })));
  }

  -- memory was wanting before anything was handed over
  pub talks_rests : (numbers : List ℕ) (w : Working) (link : C) (far : A) (e : SnepFault) (new : EndState) → e ≡ Memory
      → FailsBy seen swaps steps stops numbers (Goes w) link far e new link far
  talks_rests numbers w link far e new f = inr (record {
    at = w;
    mid = link;
    mid_far = far;
    talks = talks_none numbers (Goes w) link far;
    cut = inl (inl (record { fault = f; link_is = refl; far_is = refl }));
  })

  -- a call came so far, and these numbers are left to it
  pub record TalksTo (numbers : List ℕ) (from : Step) (link : C) (far : A) (left : List ℕ) (to : Step) (now : C) (after : A) : Type 0 where
    pub talks : Talks seen swaps steps stops numbers from link far to now after
    pub left_is : left ≡ numbers_behind talks.did numbers

  pub talks_begin : (numbers : List ℕ) (from : Step) (link : C) (far : A) → TalksTo numbers from link far numbers from link far
  talks_begin numbers from link far = record { talks = talks_none numbers from link far; left_is = refl }

  module _ (numbers : List ℕ) (from : Step) (link : C) (far : A) (left : List ℕ) (w : Working) (mid : C) (mid_far : A)
      (t : TalksTo numbers from link far left (Goes w) mid mid_far) where
    went_on : (to : Step) (now : C) (after : A)
        → TurnedTo seen swaps steps stops (first_number (numbers_behind t.talks.did numbers)) w mid mid_far to now after
        → TalksTo numbers from link far (later_numbers left) to now after
    went_on to now after u =
        let did = t.talks.did in
        let out = given silent (first_number (numbers_behind did numbers)) (ready w).llc in
        let x : FarStep = Stepped out u.reply in record {
          talks = record {
            did = did ++ x ∷ [];
            told = told_more from numbers did w u.reply to t.talks.told u.step;
            handed =
                u.swap.handed ∙ ap (λ z. z ++ out ∷ []) t.talks.handed ∙ append_assoc (seen link).handed (payloads did) (out ∷ [])
                ∙ ap (λ z. (seen link).handed ++ z) (sym (payloads_more did x));
            last = u.swap.swaps.last ∙ sym (last_more (seen link).last did x);
            over = u.swap.stays ∙ sym u.swap.swaps.begun ∙ t.talks.over;
            swapped = by_more did x link mid now t.talks.swapped (subst (λ d. swaps mid out d now) u.swapped.tells u.swapped.link);
            far_moved = far_more from numbers did w t.talks.told far mid_far after out u.reply t.talks.far_moved u.swap.step;
          };
          left_is = ap later_numbers t.left_is ∙ sym (behind_more did x numbers);
        }

    pub talks_on : (to : Step) (now : C) (after : A) → TurnedTo seen swaps steps stops (first_number left) w mid mid_far to now after
        → TalksTo numbers from link far (later_numbers left) to now after
    talks_on to now after u =
        went_on to now after (subst (λ z. TurnedTo seen swaps steps stops (first_number z) w mid mid_far to now after) t.left_is u)

    pub talks_break_at : (e : SnepFault) (new : EndState) (now : C) (after : A) → IsCut seen swaps steps stops (first_number left) (ready w).llc mid mid_far e new now after
        → FailsAt seen swaps steps stops numbers from link far w.jobs e new now after
    talks_break_at e new now after k = record {
      at = w;
      stood = refl;
      mid = mid;
      mid_far = mid_far;
      talks = t.talks;
      fails = inr (subst (λ z. IsCut seen swaps steps stops (first_number z) (ready w).llc mid mid_far e new now after) t.left_is k);
    }

    pub talks_give_up_at : (came : List CameTo) (new : EndState) (now : C) (after : A) → TurnedTo seen swaps steps stops (first_number left) w mid mid_far (gives_up came new) now after
        → FailsAt seen swaps steps stops numbers from link far w.jobs BadPeer new now after
    talks_give_up_at came new now after u = record {
      at = w;
      stood = refl;
      mid = mid;
      mid_far = mid_far;
      talks = t.talks;
      fails = inl (record {
        fault = refl;
        came = came;
        turned = subst (λ z. TurnedTo seen swaps steps stops (first_number z) w mid mid_far (gives_up came new) now after) t.left_is u;
      });
    }

  -- a call that failed so failed
  pub fails_by : (numbers : List ℕ) (from : Step) (link : C) (far : A) (jobs : List OnSap) (e : SnepFault) (new : EndState) (now : C) (after : A)
      → FailsAt seen swaps steps stops numbers from link far jobs e new now after → FailsBy seen swaps steps stops numbers from link far e new now after
  fails_by numbers from link far jobs e new now after h = go h.fails
    where
      left : List ℕ
      left = numbers_behind h.talks.did numbers

      go : GivesUpThere seen swaps steps stops (first_number left) h.at h.mid h.mid_far e new now after
          ⊎ IsCut seen swaps steps stops (first_number left) (ready h.at).llc h.mid h.mid_far e new now after → FailsBy seen swaps steps stops numbers from link far e new now after
      go (inl g) = inl (
        g.fault,
        g.came,
        (talks_on numbers from link far left h.at h.mid h.mid_far (record { talks = h.talks; left_is = refl }) (gives_up g.came new) now after g.turned).talks,
      )
      go (inr k) = inr (record { at = h.at; mid = h.mid; mid_far = h.mid_far; talks = h.talks; cut = k })

-- What a job that is alone comes to, behind a payload and its reply.
module _ (sap : ℕ) (old mid new : EndState) (job now : Job) (idle : ℕ) where
  or_false : (b : Bool) → (b || false) ≡ b
  or_false true = refl
  or_false false = refl

  pub took_some : (next : Job) (gave : Bool) → heard (has_waiting_of (own_of sap old)) mid sap now ≡ Some next
      → gave ≡ (gave_something (own_of sap old) (own_of sap mid) || has_byte (units_of (own_of sap mid)))
      → took old mid (one_on sap now) idle ≡ settled (emptied mid sap) (one_on sap next) (idle_after gave idle)
  took_some next gave h e =
      ap (λ o. call_behind mid (one_on sap now) (record { sap = sap; job = o } ∷ [])
      (idle_after ((gave_something (own_of sap old) (own_of sap mid) || has_byte (units_of (own_of sap mid))) || false) idle)
      (heard_with sap o (Some []))) h
      ∙ ap (λ b. settled (emptied mid sap) (one_on sap next) (idle_after b idle))
      (or_false (gave_something (own_of sap old) (own_of sap mid) || has_byte (units_of (own_of sap mid))) ∙ sym e)

-- The sixteenth reply in a row that gave nothing gives the far end up.
pub settle_gives_up : (l new : EndState) (jobs : List OnSap) (n : ℕ) → all_over jobs ≡ false → nat_lt n most_idle ≡ false → new ≡ forgets (saps jobs) l
    → settled l jobs n ≡ gives_up (as_they_came jobs) new
settle_gives_up l new jobs n o k e =
    ap (λ b. if b then Ends jobs l else goes_on l jobs n) o
    ∙ ap (λ b. if b then Goes (record { llc = l; jobs = jobs; idle = n }) else given_up l jobs (as_they_came jobs)) k
    ∙ ap (gives_up (as_they_came jobs)) (sym (e ∙ forgets_so jobs l))

-- What all jobs come to, behind a payload and its reply.
module _ (old mid new : EndState) (jobs : List OnSap) (idle : ℕ) where
  all_none : all_come mid (all_awaiting old jobs) ≡ None → new ≡ forgets (saps jobs) mid
      → took old mid jobs idle ≡ gives_up (all_heard old mid jobs) new
  all_none h e =
      ap (call_behind mid jobs (all_heard old mid jobs) (idle_after (gave_any old mid jobs) idle)) (sym (come_so old mid jobs) ∙ h)
      ∙ ap (gives_up (all_heard old mid jobs)) (sym (e ∙ forgets_so jobs mid))

  all_some : (now : List OnSap) (gave : Bool) → all_come mid (all_awaiting old jobs) ≡ Some now → gave ≡ gave_one mid (all_awaiting old jobs)
      → took old mid jobs idle ≡ settled (empties (all_awaiting old jobs) mid) now (idle_after gave idle)
  all_some now gave h g =
      ap (call_behind mid jobs (all_heard old mid jobs) (idle_after (gave_any old mid jobs) idle)) (sym (come_so old mid jobs) ∙ h)
      ∙ ap (λ b. settled (all_emptied jobs mid) now (idle_after b idle)) (sym (g ∙ gave_so old mid jobs))
      ∙ ap (λ z. settled z now (idle_after gave idle)) (sym (empties_so old mid jobs))

module _ {C A : Type 0} (seen : C → CarrierView) (swaps : C → List ℕ → List FarStep → C → Type 0) (steps : A → List ℕ → List ℕ → A → Type 0)
    (stops : A → List ℕ → A → Type 0) (link : C) (far : A) (over : C) (after : A) (l mid heard_end : EndState) (jobs now : List OnSap) (idle : ℕ)
    (r : all_readied jobs l ≡ record { llc = mid; jobs = now }) (count : ℕ) (all : List Awaiting)
    (x : ExchangedOnce seen swaps steps stops count now mid link far all heard_end over after) where
  abbrev working : Working
  working = record { llc = l; jobs = jobs; idle = idle }

  turned_by : (to : Step) → took (after_giving silent count mid) heard_end now idle ≡ to → TurnedTo seen swaps steps stops count working link far to over after
  turned_by to e = record {
    reply = x.reply;
    swap = subst (λ (z : AllReady). SwapDone steps (seen link) (seen over) (given silent count z.llc) x.reply far after) (sym r) x.swap;
    swapped = subst (λ (z : AllReady). Swapped swaps steps stops link (given silent count z.llc) far over after
        (λ did. did ≡ Stepped (given silent count z.llc) x.reply ∷ [])) (sym r) x.swapped;
    step =
        ap (λ (z : AllReady). replied_ready count (record { llc = z.llc; jobs = z.jobs; idle = idle }) x.reply) r
        ∙ ap (λ z. took (after_giving silent count mid) z now idle) (sym x.took) ∙ e;
  }

  -- the SAPs stay
  same_saps : saps now ≡ saps jobs
  same_saps = sym (ap (λ (z : AllReady). saps z.jobs) r) ∙ ready_saps jobs l

  pub saps_awaited : awaited_saps all ≡ saps jobs
  saps_awaited = ap awaited_saps x.awaited ∙ awaited_so (after_giving silent count mid) now ∙ same_saps

  pub apart_awaited : AreApart jobs → IsDistinct eqb (awaited_saps all)
  apart_awaited d = subst (IsDistinct eqb) (sym saps_awaited) d

  -- the far end was at fault
  pub turned_none : (left new : EndState) → HearsAll heard_end all None left → new ≡ forgets (saps jobs) left
      → Turned seen swaps steps stops count working link far GaveUp new over after
  turned_none left new h e = (
    all_heard (after_giving silent count mid) heard_end now,
    turned_by (gives_up (all_heard (after_giving silent count mid) heard_end now) new)
        (all_none (after_giving silent count mid) heard_end new now idle (ap (all_come heard_end) (sym x.awaited) ∙ h.0)
        (e ∙ ap (λ ss. forgets ss left) (sym saps_awaited) ∙ h.1 ∙ ap (λ ss. forgets ss heard_end) (saps_awaited ∙ sym same_saps))),
  )

  -- its jobs came to this
  took_heard : (h : HeardAll) (left : EndState) → HearsAll heard_end all (Some h) left
      → took (after_giving silent count mid) heard_end now idle ≡ settled left h.jobs (idle_after h.gave idle)
  took_heard h left e =
      all_some (after_giving silent count mid) heard_end left now idle h.jobs h.gave (ap (all_come heard_end) (sym x.awaited) ∙ e.0)
      (e.1 ∙ ap (gave_one heard_end) x.awaited)
      ∙ ap (λ z. settled z h.jobs (idle_after h.gave idle)) (ap (λ xs. empties xs heard_end) (sym x.awaited) ∙ sym e.2)

  pub turned_some : (h : HeardAll) (left : EndState) → HearsAll heard_end all (Some h) left → (turn : Turn) (new : EndState)
      → IsStep (settled left h.jobs (idle_after h.gave idle)) turn new → Turned seen swaps steps stops count working link far turn new over after
  turned_some h left e (Ended ended) new s = turned_by (Ends ended new) (took_heard h left e ∙ s)
  turned_some h left e (Went went n) new s = turned_by (Goes (record { llc = new; jobs = went; idle = n })) (took_heard h left e ∙ s)
  turned_some h left e GaveUp new (came, s) = (came, turned_by (gives_up came new) (took_heard h left e ∙ s))

  -- the jobs are on the same connections as before
  pub heard_saps : (h : HeardAll) (left : EndState) → HearsAll heard_end all (Some h) left → saps h.jobs ≡ saps jobs
  heard_saps h left e = come_saps heard_end all h.jobs e.0 ∙ saps_awaited
