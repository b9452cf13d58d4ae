-- What a call of a near end comes to over the replies of a log, and what is told of it.
use Rattle.std.proofs.Common.{◌≡◌, inl, inr, ℕ, List, [], Option, Some, Result, Ok, Err, true, sym, ap, subst, ◌∙◌, refl}
use Rattle.nfc_base.specs.Links.{CarrierView, FarStep}
use Rattle.snep_core.specs.declared.fault.SnepFault.{SnepFault}
use Rattle.snep_core.specs.declared.fault.SnepFault.TheVariants as faults
use Rattle.snep_core.specs.declared.job.Refusal.{Refusal}
use Rattle.snep_core.specs.declared.job.Refusal.TheVariants as refusals
use Rattle.snep_core.specs.declared.job.OnSap.{OnSap}
use Rattle.snep_core.specs.Calling.{Breaks, FailsBy, IsCut, RequestFails, Talks, refused_by}
use Rattle.snep_core.specs.Talk.{EndState, Step, Goes, Ends, payload, ready}
use Rattle.zevlodek_c.specs.declared.far.LogFar.{LogFar}
use Rattle.zevlodek_c.specs.declared.near.CameOut.{CameOut}
use Rattle.zevlodek_c.specs.declared.near.CameOut.TheVariants.{Failed}
use Rattle.zevlodek_c.specs.declared.near.Near.{Near}
use Rattle.zevlodek_c.specs.declared.near.Stand.{Stand}
use Rattle.zevlodek_c.specs.declared.showing.Told.{Told}
use Rattle.zevlodek_c.specs.Entries.{Entry, SpellsEntries, end_shown, takes_all}
use Rattle.zevlodek_c.specs.Near.{NearNow, Rests, Under, Came, IsNear, NearTells, near_end, near_shown, near_takes, out_by, settles}
use Rattle.zevlodek_c.specs.NearReplaying.{IsFresh, IsStanding, IsStopped, Obeys, Reaches, Replies, StandsSo, Stops, failed_by, stand_shown}
use Rattle.zevlodek_c.specs.Showing.{Seen}
use Rattle.zevlodek_c.proofs.NearWalks.{IsCutAt, Walks, cut, is_cut, no_reply, none_left, talked}

reached : (from : Step) (f g : LogFar) (l : EndState) (out : CameOut) → Reaches (settles from) f.left.now (Came l out) g.left.now → Obeys from f l g (Ok out)
reached from f g l out r = record { came = r; stopped = tt }

-- a call that is over
pub ended : {C : Type 0} (seen : C → CarrierView) (swaps : C → List ℕ → List FarStep → C → Type 0) (from : Step) (jobs : List OnSap) (l : EndState)
    (link now : C) (f g : LogFar) (ns : List ℕ) → ns ≡ [] → Talks seen swaps Replies Stops ns from link f (Ends jobs l) now g
    → Obeys from f l g (Ok (out_by jobs))
ended seen swaps from jobs l link now f g ns none t =
    reached from f g l (out_by jobs) (talked seen swaps from (Ends jobs l) link now f g
    (subst (λ (n : List ℕ). Talks seen swaps Replies Stops n from link f (Ends jobs l) now g) none t)).reaches

at_faults : (e : SnepFault) → is_cut e ≡ true → failed_by e ≡ Err e
at_faults (faults.LinkEnded c) h = refl
at_faults faults.Memory h = refl
at_faults faults.SlotBusy h = refl
at_faults faults.Reject h = absurd (cc)
at_faults faults.NotFound h = absurd (cc)
at_faults faults.Excess h = absurd (cc)
at_faults faults.NotImplemented h = absurd (cc)
at_faults faults.BadPeer h = absurd (cc)

refused_out : (why : Refusal) → failed_by (refused_by why) ≡ Ok (Failed (refused_by why))
refused_out refusals.Reject = refl
refused_out refusals.NotFound = refl
refused_out refusals.Excess = refl
refused_out refusals.NotImplemented = refl

-- one that was cut off
broke : {C : Type 0} (seen : C → CarrierView) (swaps : C → List ℕ → List FarStep → C → Type 0) (from : Step) (e : SnepFault) (new : EndState)
    (link now : C) (f g : LogFar) → IsFresh f → Breaks seen swaps Replies Stops [] from link f e new now g → Obeys from f new g (failed_by e)
broke seen swaps from e new link now f g fresh b =
    let w : Walks from (Goes b.at) f b.mid_far = talked seen swaps from (Goes b.at) link b.mid f b.mid_far b.talks in
    let mid : IsFresh b.mid_far = record { asked = w.asked ∙ fresh.asked; odd = w.odd ∙ fresh.odd } in
    let now_cut : IsCut seen swaps Replies Stops 0 (ready b.at).llc b.mid b.mid_far e new now g =
    subst (λ (n : ℕ). IsCut seen swaps Replies Stops n (ready b.at).llc b.mid b.mid_far e new now g) (none_left b.talks.did) b.cut in
    let at : IsCutAt b.mid_far (payload 0 b.at) e g = cut seen swaps b.at b.mid now b.mid_far g e new mid now_cut in
    let stopped : IsStopped from f g = record {
      asked = λ p s.
          let k : (b.mid_far.left.now ≡ []) × (p ≡ payload 0 b.at) = at.left.asked p s in
          (b.at, subst (λ (l : List ℕ). Reaches (settles from) f.left.now (Under b.at) l) k.0 w.reaches, k.1);
      odd = λ t es s.
          let r : (more : List Entry) × SpellsEntries more b.mid_far.left.now × (takes_all near_takes (Some (settles from)) es ≡ takes_all near_takes (Some (Under b.at)) more)
          = w.reaches.goes es s in
          r.2 ∙ no_reply b.at b.mid_far.left.now (at.left.odd t) r.0 r.1;
    } in
    subst (λ (r : Result CameOut SnepFault). Obeys from f new g r) (sym (at_faults e at.fault)) (record { came = tt; stopped = stopped })

by_far : {C : Type 0} (seen : C → CarrierView) (swaps : C → List ℕ → List FarStep → C → Type 0) (from : Step) (e : SnepFault) (new : EndState)
    (link now : C) (f g : LogFar) → IsFresh f → FailsBy seen swaps Replies Stops [] from link f e new now g → Obeys from f new g (failed_by e)
by_far seen swaps from e new link now f g fresh (inl (is, came, t)) =
    subst (λ (x : SnepFault). Obeys from f new g (failed_by x)) (sym is)
    (reached from f g new (Failed faults.BadPeer) (talked seen swaps from _ link now f g t).reaches)
by_far seen swaps from e new link now f g fresh (inr b) = broke seen swaps from e new link now f g fresh b

-- one by which the far end was given up, or that was cut off
pub failed_aside : {C : Type 0} (seen : C → CarrierView) (swaps : C → List ℕ → List FarStep → C → Type 0) (from : Step) (e : SnepFault) (new : EndState)
    (link now : C) (f g : LogFar) (ns : List ℕ) (r : Result CameOut SnepFault) → IsFresh f → ns ≡ [] → r ≡ failed_by e
    → FailsBy seen swaps Replies Stops ns from link f e new now g → Obeys from f new g r
failed_aside seen swaps from e new link now f g ns r fresh none is b =
    subst (λ (x : Result CameOut SnepFault). Obeys from f new g x) (sym is) (by_far seen swaps from e new link now f g fresh
    (subst (λ (n : List ℕ). FailsBy seen swaps Replies Stops n from link f e new now g) none b))

by_server : {C : Type 0} (seen : C → CarrierView) (swaps : C → List ℕ → List FarStep → C → Type 0) (sap : ℕ) (from : Step) (e : SnepFault) (new : EndState)
    (link now : C) (f g : LogFar) → IsFresh f → RequestFails seen swaps Replies Stops sap [] from link f e new now g → Obeys from f new g (failed_by e)
by_server seen swaps sap from e new link now f g fresh (inl r) =
    subst (λ (x : SnepFault). Obeys from f new g (failed_by x)) (sym r.fault)
    (subst (λ (x : Result CameOut SnepFault). Obeys from f new g x) (sym (refused_out r.why))
    (reached from f g new (Failed (refused_by r.why)) (talked seen swaps from _ link now f g r.talks).reaches))
by_server seen swaps sap from e new link now f g fresh (inr b) = by_far seen swaps from e new link now f g fresh b

-- or that was refused
pub failed : {C : Type 0} (seen : C → CarrierView) (swaps : C → List ℕ → List FarStep → C → Type 0) (sap : ℕ) (from : Step) (e : SnepFault) (new : EndState)
    (link now : C) (f g : LogFar) (ns : List ℕ) (r : Result CameOut SnepFault) → IsFresh f → ns ≡ [] → r ≡ failed_by e
    → RequestFails seen swaps Replies Stops sap ns from link f e new now g → Obeys from f new g r
failed seen swaps sap from e new link now f g ns r fresh none is b =
    subst (λ (x : Result CameOut SnepFault). Obeys from f new g x) (sym is) (by_server seen swaps sap from e new link now f g fresh
    (subst (λ (n : List ℕ). RequestFails seen swaps Replies Stops sap n from link f e new now g) none b))

shown_so : (n : NearNow) (stand : Stand) (out : List ℕ) (told : Told) → StandsSo n stand → stand_shown stand out told ≡ near_shown n out told
shown_so (Rests l) stand out told e = ap (λ (s : Stand). stand_shown s out told) e
shown_so (Under w) stand out told e = ap (λ (s : Stand). stand_shown s out told) e
shown_so (Came l out') stand out told e = ap (λ (s : Stand). stand_shown s out told) e

pub near_tells : (n : Near) (general log out : List ℕ) (told : Told) (l : EndState) (stand : Stand) (seen : Seen) → IsNear n → l ≡ near_end n general
    → IsStanding l log stand → seen ≡ stand_shown stand out told → NearTells n general log out told seen
near_tells n general log out told l stand seen is at s e = record {
  taken = λ near es spelled.
      let so : (m : NearNow) × (takes_all near_takes (Some (Rests l)) es ≡ Some m) × StandsSo m stand = s.so es spelled in
      inl (e ∙ (shown_so so.0 stand out told so.2
      ∙ ap (λ (o : Option NearNow). end_shown near_shown o out told)
      (sym so.1 ∙ ap (λ (m : EndState). takes_all near_takes (Some (Rests m)) es) at)));
  no_log = λ near no. absurd (no s.whole);
  refused = λ no. absurd (no is);
}
