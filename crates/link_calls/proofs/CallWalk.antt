-- A call walked along swap by swap.
use Rattle.std.proofs.Common.{◌≡◌, ℕ, List, [], ◌∷◌, Bool, Option, None, refl, sym, ◌∙◌, ap, subst, inl, inr}
use Rattle.nfc_base.specs.Links.{FarStep, Stepped, Stopped}
use Rattle.nfc_base.specs.declared.carrier.EndCause.{EndCause}
use Rattle.nfc_base.specs.declared.carrier.EndCause.TheVariants as cause
use Rattle.nfc_base.specs.Choosing.{Choosing, first_number, later_numbers}
use Rattle.air_core.specs.Turn.{Air}
use Rattle.air_core.specs.declared.listener.Listener.{Ghosts}
use Rattle.dep_link.specs.Target.{TargetState}
use Rattle.dep_link.specs.Initiator.{InitState}
use Rattle.dep_link.specs.DepLinks.{DepSeen}
use Rattle.far_air.specs.FarEnds.{FarTable}
use Rattle.peer_air.specs.SwapTurns.{SwapsFar, StopsFar}
use Rattle.snep_core.specs.declared.fault.SnepFault.{SnepFault}
use Rattle.snep_core.specs.Talk.{EndState, Step, Goes, Ends, GivesUp, ComesTo, numbers_behind, ready, replied}
use Rattle.snep_core.specs.Calling.{Breaks, IsCut, Talks, fault_of}
use Rattle.link_calls.specs.Walk.{Underway}
use Rattle.link_calls.specs.WalkTurns.{WalkCut}
use Rattle.link_calls.specs.private.Walking.{ToldSo, Walks, WalkBreaks}
use Rattle.link_calls.specs.CallDue.{by_client, next_of}
use Rattle.link_calls.specs.CallTurns.{CutBy, TalksFar, BreaksBy, BreaksFar, HaltsSo, sees, swaps}
use Rattle.link_calls.proofs.Walk.{walked, cut}

-- What a call told is told so by its client.
pub told_so : (ns : List ℕ) (did : List FarStep) (from to : Step) → ComesTo ns from did to → ToldSo by_client (next_of ns from) did (next_of (numbers_behind did ns) to)
told_so ns [] from to e = ap (next_of ns) e
told_so ns (d ∷ did) (Ends jobs l) to told = absurd told
told_so ns (d ∷ did) (GivesUp l) to told = absurd told
told_so ns (Stopped out ∷ did) (Goes w) to told = absurd told
told_so ns (Stepped out reply ∷ did) (Goes w) to (o, told) = (o, told_so (later_numbers ns) did (replied (first_number ns) w reply) to told)

module _ {L C A : Type 0} (k : Ghosts L) (target : L → TargetState) (see : C → DepSeen L) (steps : A → List ℕ → List ℕ → A → Type 0) (stops : A → List ℕ → A → Type 0) where
  abbrev Goes_on : List ℕ → Step → C → A → Step → C → A → Type 0
  Goes_on ns from a far to b after = Talks (sees see) (swaps k target see) steps stops ns from a far to b after

  -- so it went over the link
  pub walks_of : (ns : List ℕ) (from to : Step) (a b : C) (far after : A) (talk : Goes_on ns from a far to b after)
      → Walks by_client (sees see) (swaps k target see) steps stops (next_of ns from) a far (next_of (numbers_behind talk.did ns) to) b after
  walks_of ns from to a b far after talk = record {
    did = talk.did;
    told = told_so ns talk.did from to talk.told;
    over = talk.over;
    swapped = talk.swapped;
    far_moved = talk.far_moved;
  }

  abbrev Broke : List ℕ → Step → C → A → EndCause → C → A → Type 0
  Broke ns from a far c b after = WalkBreaks by_client (sees see) (swaps k target see) steps stops (next_of ns from) a far c b after

  -- and so it was cut off, by a cause that tells the fault
  pub record BreaksSo (ns : List ℕ) (from : Step) (a : C) (far : A) (e : SnepFault) (b : C) (after : A) : Type 0 where
    pub why : EndCause
    pub fault : e ≡ fault_of why
    pub broke : Broke ns from a far why b after

  breaks_at : (ns : List ℕ) (from : Step) (a b : C) (far after : A) (e : SnepFault) (new : EndState) → (see a).over ≡ None
      → (broke : Breaks (sees see) (swaps k target see) steps stops ns from a far e new b after)
      → IsCut (sees see) (swaps k target see) steps stops (first_number (numbers_behind broke.talks.did ns)) (ready broke.at).llc broke.mid broke.mid_far e new b after
      → BreaksSo ns from a far e b after
  breaks_at ns from a b far after e new goes broke (inl (inl c)) = record {
    why = cause.Memory;
    fault = c.fault;
    broke = record {
      at = (broke.at, numbers_behind broke.talks.did ns);
      mid = broke.mid;
      mid_far = broke.mid_far;
      walks = walks_of ns from (Goes broke.at) a broke.mid far broke.mid_far broke.talks;
      cut = inl (record { fault = refl; link_is = c.link_is; far_is = c.far_is });
    };
  }
  breaks_at ns from a b far after e new goes broke (inl (inr c)) = absurd (let over = c.over in let on : (see broke.mid).over ≡ None = broke.talks.over ∙ goes in cc)
  breaks_at ns from a b far after e new goes broke (inr (inl c)) = record {
    why = c.why.cause;
    fault = c.fault;
    broke = record {
      at = (broke.at, numbers_behind broke.talks.did ns);
      mid = broke.mid;
      mid_far = broke.mid_far;
      walks = walks_of ns from (Goes broke.at) a broke.mid far broke.mid_far broke.talks;
      cut = inr (inl (record { answered = c.why.answered; over = c.swap.over; noise = c.swap.swaps.noise; swapped = c.swapped }));
    };
  }
  breaks_at ns from a b far after e new goes broke (inr (inr c)) = record {
    why = cause.Memory;
    fault = c.fault;
    broke = record {
      at = (broke.at, numbers_behind broke.talks.did ns);
      mid = broke.mid;
      mid_far = broke.mid_far;
      walks = walks_of ns from (Goes broke.at) a broke.mid far broke.mid_far broke.talks;
      cut = inr (inr (record { fault = refl; reply = c.reply; stays = c.swap.stays; swapped = c.swapped }));
    };
  }

  pub breaks_so : (ns : List ℕ) (from : Step) (a b : C) (far after : A) (e : SnepFault) (new : EndState) → (see a).over ≡ None
      → Breaks (sees see) (swaps k target see) steps stops ns from a far e new b after → BreaksSo ns from a far e b after
  breaks_so ns from a b far after e new goes broke = breaks_at ns from a b far after e new goes broke broke.cut

module _ {L F C A : Type 0} (k : Ghosts L) (target : L → TargetState) (linked : L → Bool) (t : FarTable F) (see : C → DepSeen L) (restarts : A → List ℕ → A → Type 0)
    (steps : A → List ℕ → List ℕ → A → Type 0) (stops : A → List ℕ → A → Type 0) (view : A → Choosing F)
    (swap : SwapsFar k target linked t restarts steps stops view) (stop : StopsFar k target linked t restarts steps stops view) where
  pub talks_far : TalksFar k target linked t see restarts steps stops view
  talks_far links fars kind numbers from to a b far after talk goes place there os =
      let walk = walks_of k target see steps stops numbers from to a b far after talk in
      walked k target linked t place os by_client see restarts steps stops view links fars kind swap stop walk.did (next_of numbers from) (next_of (numbers_behind talk.did numbers) to) a b far after
      walk.told
      walk.swapped (walk.over ∙ goes) walk.far_moved there

  -- by its fault
  by_fault : (halts : Choosing F → List ℕ → Choosing F → Type 0) (numbers : List ℕ) (from : Step) (i : InitState) (old new : Air L) (place : ℕ) (os : List (Option F)) (far after : Choosing F)
      (c : EndCause)
      → WalkCut k linked t halts by_client (next_of numbers from) i old new place os far after c → CutBy k target linked t halts numbers from i old new place os far after (fault_of c)
  by_fault halts numbers from i old new place os far after cause.FieldLost w = w
  by_fault halts numbers from i old new place os far after cause.SixBad w = w
  by_fault halts numbers from i old new place os far after cause.Protocol w = w
  by_fault halts numbers from i old new place os far after cause.Memory w = w

  pub breaks_by : (halts : Choosing F → List ℕ → Choosing F → Type 0) → ((u : A) (payload : List ℕ) (v : A) → stops u payload v → halts (view u) payload (view v))
      → BreaksBy k target linked t see restarts steps stops view halts
  breaks_by halts halting links fars kind numbers from a b far after e new broke goes place there os =
      let b' = breaks_so k target see steps stops numbers from a b far after e new goes broke in
      let w = b'.broke in
      let P : SnepFault → Type 0 = λ z. CutBy k target linked t halts numbers from (see a).initiator (see a).air (see b).air place os (view far) (view after) z in
      let z = walked k target linked t place os by_client see restarts steps stops view links fars kind swap stop w.walks.did (next_of numbers from) (Underway w.at) a w.mid far w.mid_far w.walks.told
      w.walks.swapped (w.walks.over ∙ goes) w.walks.far_moved there in
      subst P (sym b'.fault) (by_fault halts numbers from (see a).initiator (see a).air (see b).air place os (view far) (view after) b'.why
      (cut k target linked t place os by_client see restarts steps stops view links fars kind swap stop halts halting (next_of numbers from) w.at a w.mid b far w.mid_far after z.0 z.1 b'.why w.cut))

  pub breaks_far : BreaksFar k target linked t see restarts steps stops view
  breaks_far = breaks_by (HaltsSo k target linked t see restarts steps stops view) (λ u payload v halt. (u, v, refl, refl, halt))
