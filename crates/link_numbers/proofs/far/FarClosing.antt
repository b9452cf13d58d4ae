-- The numbers that a peer's answers show are as good as the true ones while a link is closed: behind the call RLS_REQ is sent, which hands nothing over.
use Rattle.std.proofs.Common.{◌≡◌, ◌⊎◌, inl, inr, ℕ, ◌≤◌, Bool, true, false, if◌then◌else◌, List, [], ◌∷◌, ◌++◌, length, Some, refl, sym, ◌∙◌, ap, subst}
use Rattle.nfc_base.specs.Far.{Untouched}
use Rattle.nfc_base.specs.Signal.{Signal}
use Rattle.nfc_base.specs.Trace.{by_fate}
use Rattle.nfc_base.specs.declared.carrier.EndCause.{EndCause}
use Rattle.nfc_base.specs.declared.event.Event.{Event}
use Rattle.nfc_base.specs.declared.event.Event.TheVariants.{Request}
use Rattle.nfc_base.specs.declared.event.Fate.{Fate}
use Rattle.nfc_base.specs.declared.event.Fate.TheVariants.{Pass, Damage, Lose, Break}
use Rattle.air_core.specs.Joint.{Joint, Nothing, Single, Clashing, joint}
use Rattle.air_core.specs.Conversation.{AirModel, Note, Lit, Got, Lost, Over, LightUp, Asks, AreTurns, EachDue, joint_events, receptions, replay}
use Rattle.air_core.specs.World.{Machine, hands_over}
use Rattle.dep_pdu.specs.declared.frame.DepFrame.TheVariants.{RlsReq}
use Rattle.dep_link.specs.Asking.{Standing, Waits, Rests, Broken, Astray}
use Rattle.dep_link.specs.Asking as carrying
use Rattle.dep_link.specs.Exchange.{InStep}
use Rattle.dep_link.specs.Frames.{air_frame}
use Rattle.dep_link.specs.Initiator.{InitState, begun, request}
use Rattle.dep_link.specs.Payloads.{begins}
use Rattle.dep_link.specs.Peers.{target_use}
use Rattle.dep_link.specs.Releasing.{rls_frame}
use Rattle.dep_link.specs.Replies.{cut_up}
use Rattle.dep_link.specs.Sizes.{limit}
use Rattle.dep_link.specs.Target.{TargetState, TargetTurn, framed, frame_table, stays, target_table}
use Rattle.dep_link.proofs.Wire.{target_heeds}
use Rattle.far_air.specs.FarEnds.{FarTable}
use Rattle.far_air.specs.FarWorld.{FarWorld, AllMet, far_air, far_dark, far_stepped, meeting, with_numbers}
use Rattle.far_air.proofs.Meeting.{meets_unasked, unasked}
use Rattle.snep_core.specs.Talk.{Step, Goes, Ends, GivesUp}
use Rattle.link_calls.specs.CallDue.{OnCall, by_client, call_at, next_of}
use Rattle.link_calls.specs.ClosingDue.{ClosingStanding, Calls, Releasing, Released, closing_at, closing_due, closing_due_at, closing_noted, closing_on, closing_stand}
use Rattle.link_calls.specs.Walk.{Walk, Carries, Comes, BrokenBy, Strays, walk_noted}
use Rattle.link_numbers.specs.Shown.{answers_of, far_shown, numbers, pieces_of}
use Rattle.link_numbers.proofs.far.FarAlone.{Around, AreAround, IsSilent, amid}
use Rattle.link_numbers.proofs.far.FarCourse.{Made, made_events, made_note, made_world, noted_all}
use Rattle.link_numbers.proofs.far.FarLaw.{far_law}
use Rattle.link_numbers.proofs.far.FarFit.{DuesFit, RepliesFit}
use Rattle.link_numbers.proofs.far.FarRun as run
use Rattle.link_numbers.proofs.far.FarSame.{IsNumbered}
use Rattle.link_numbers.proofs.far.FarShown.{SameDark, Shown, same_dark, shown_more, shown_none}
use Rattle.link_numbers.proofs.far.FarShows.{answers_append}
use Rattle.link_numbers.proofs.far.FarSolo.{DoesSo, here}
use Rattle.link_numbers.proofs.far.FarWalk as walk
use Rattle.link_numbers.proofs.far.FarWalk.{HasCome, IsWholeWalk, at_whole, walk_asks, walk_goes, walk_never, walk_starts, walk_whole, IsWhole}

abbrev C : Type 0
C = ClosingStanding

abbrev BusyWalk : Walk OnCall Step → InitState → Signal → Type 0
BusyWalk c i f = walk.Busy by_client c i f

abbrev pub Busy : C → InitState → Signal → Type 0
Busy c i f = (w : OnCall) × (c ≡ Calls (Carries w (Waits i f)))

abbrev pub Done : C → InitState → Type 0
Done c i = (to : Step) × ((c ≡ Releasing to) ⊎ (c ≡ Calls (Comes to i)))

abbrev pub Off : C → Type 0
Off c = (x : EndCause) × (c ≡ Calls (BrokenBy x))

-- what is carried is as long as a payload may be
abbrev pub Outs : C → Type 0
Outs (Calls c) = walk.Outs by_client c
Outs (Releasing to) = Unit {0}
Outs (Released to) = Unit {0}

abbrev Starts : C → InitState → Type 0
Starts d j = ((out : List ℕ) × (Outs d → length out ≤ limit) × Busy d (begun j out) (air_frame (request (begun j out).core))) ⊎ Done d j

abbrev GoesTo : Standing → C → Type 0
GoesTo (Waits j f) d = Busy d j f
GoesTo (Rests j reply) d = Starts d j
GoesTo (Broken x) d = Off d
GoesTo Astray d = Unit {0}

-- its call is at its end, or RLS_REQ is due or was sent
abbrev pub HasClosed : C → Type 0
HasClosed (Calls c) = HasCome by_client c
HasClosed (Releasing to) = Unit {0}
HasClosed (Released to) = Unit {0}

abbrev pub IsWholeClosing : C → Type 0
IsWholeClosing (Calls c) = IsWholeWalk by_client c
IsWholeClosing (Releasing to) = Unit {0}
IsWholeClosing (Released to) = Unit {0}

come_done : (to : Step) (i : InitState) → Done (closing_at (Comes to i)) i
come_done (Ends jobs l) i = (Ends jobs l, inl refl)
come_done (GivesUp l) i = (GivesUp l, inr refl)
come_done (Goes w) i = (Goes w, inr refl)

busy_closing : (c : Walk OnCall Step) (i : InitState) (f : Signal) → BusyWalk c i f → Busy (closing_at c) i f
busy_closing c i f (w, e) = (w, ap closing_at e)

outs_closing : (c : Walk OnCall Step) → Outs (closing_at c) → walk.Outs by_client c
outs_closing (Comes (Ends jobs l) i) h = tt
outs_closing (Comes (GivesUp l) i) h = tt
outs_closing (Comes (Goes w) i) h = tt
outs_closing (Carries w s) h = h
outs_closing (BrokenBy x) h = tt
outs_closing Strays h = tt

starts_closing : (c : Walk OnCall Step) (j : InitState) → ((out : List ℕ) × (walk.Outs by_client c
    → length out ≤ limit) × BusyWalk c (begun j out) (air_frame (request (begun j out).core))) ⊎ walk.Done by_client c j
    → Starts (closing_at c) j
starts_closing c j (inl (out, fits, b)) = inl (out, (λ h. fits (outs_closing c h)), busy_closing c (begun j out) (air_frame (request (begun j out).core)) b)
starts_closing c j (inr (to, e)) = inr (subst (λ z. Done (closing_at z) j) (sym e) (come_done to j))

goes_closing : (s : Standing) (c : Walk OnCall Step) → walk.Goes by_client s c → GoesTo s (closing_at c)
goes_closing (Waits j f) c h = busy_closing c j f h
goes_closing (Rests j reply) c h = starts_closing c j h
goes_closing (Broken x) c h = (h.0, ap closing_at h.1)
goes_closing Astray c h = tt

closing_goes : (c : C) (i : InitState) (f : Signal) → Busy c i f → (n : Note) → GoesTo (carrying.noted (Waits i f) n) (closing_noted c n)
closing_goes c i f (w, e) n =
    subst (λ z. GoesTo (carrying.noted (Waits i f) n) (closing_noted z n)) (sym e)
    (goes_closing (carrying.noted (Waits i f) n) (walk_noted by_client (Carries w (Waits i f)) n) (walk_goes by_client (Carries w (Waits i f)) i f (w, refl) n))

closing_asks : (c : C) (i : InitState) (f : Signal) → Busy c i f → closing_due_at c ≡ Asks f
closing_asks c i f (w, e) = ap closing_due_at e

closing_off : (c : C) (f : Signal) → Off c → closing_due_at c ≡ Asks f → ⊥
closing_off c f (x, e) k = absurd (let z : Over ≡ Asks f = sym (ap closing_due_at e) ∙ k in cc)

busy_more : (c : C) (i : InitState) (f : Signal) → Busy c i f → HasClosed c → ⊥
busy_more c i f (w, e) h = subst HasClosed e h

off_more : (c : C) → Off c → HasClosed c → ⊥
off_more c (x, e) h = subst HasClosed e h

at_closing_whole : (c : Walk OnCall Step) → IsWholeWalk by_client c → IsWholeClosing (closing_at c)
at_closing_whole (Comes (Ends jobs l) i) h = tt
at_closing_whole (Comes (GivesUp l) i) h = tt
at_closing_whole (Comes (Goes w) i) h = tt
at_closing_whole (Carries w s) h = h
at_closing_whole (BrokenBy x) h = tt
at_closing_whole Strays h = tt

closing_whole : (c : C) (n : Note) → IsWholeClosing c → IsWholeClosing (closing_noted c n)
closing_whole (Calls c) n h = at_closing_whole (walk_noted by_client c n) (walk_whole by_client c n h)
closing_whole (Releasing to) Lit h = tt
closing_whole (Releasing to) (Got x) h = tt
closing_whole (Releasing to) Lost h = tt
closing_whole (Released to) n h = tt

asks_whole : (c : C) (f : Signal) → IsWholeClosing c → closing_due_at c ≡ Asks f → IsWhole f
asks_whole (Calls c) f h e = walk_asks by_client c f h e
asks_whole (Releasing to) f h e = let same : rls_frame ≡ f = cc in subst IsWhole same refl
asks_whole (Released to) f h e = absurd cc

closing_never : (c : C) → closing_due_at c ≡ LightUp → ⊥
closing_never (Calls c) e = walk_never by_client c e
closing_never (Releasing to) e = cc
closing_never (Released to) e = cc

closing_all : (c : C) (ns : List Note) → closing_on c ns ≡ noted_all closing_noted c ns
closing_all c [] = refl
closing_all c (n ∷ ns) = closing_all (closing_noted c n) ns

-- At RLS_REQ a target hands nothing over.
rls_use : (s : TargetState) → target_use (target_table s rls_frame).does ≡ Untouched
rls_use s = ap (λ (x : TargetTurn). target_use x.does) (target_heeds s RlsReq tt) ∙ go s.mute
  where
    go : (b : Bool) → target_use (framed (if b then stays s else frame_table s RlsReq)).does ≡ Untouched
    go true = refl
    go false = refl

-- A turn at which nothing is handed over, in worlds that differ in the numbers that are left.
module _ {L F : Type 0} (m : Machine L) (linked : L → Bool) (t : FarTable F) (dev : TargetState → L) (does : DoesSo m linked t dev) where
  abbrev air : AirModel (FarWorld L F)
  air = far_air m linked t

  abbrev solo : TargetState → F → List ℕ → FarWorld L F
  solo s a ns = here m linked t dev s a ns

  module _ (s : TargetState) (a : F) (f : Signal) (quiet : hands_over m (dev s) f ≡ Untouched) where
    abbrev silent : List ℕ → AllMet L F
    silent ns = unasked m linked t f (dev s ∷ []) (Some a ∷ []) ns

    met : (ns : List ℕ) → meeting m linked t (solo s a ns) f ≡ silent ns
    met ns = meets_unasked m linked t f (dev s ∷ []) (Some a ∷ []) ns (quiet, tt)

    same_joint : (ns ks : List ℕ) → air.joint (solo s a ks) f ≡ air.joint (solo s a ns) f
    same_joint ns ks = ap (λ (z : AllMet L F). joint z.answers) (met ks) ∙ sym (ap (λ (z : AllMet L F). joint z.answers) (met ns))

    abbrev behind : List ℕ → FarWorld L F
    behind ns = record { field = record { lit = true; listeners = (silent ns).listeners }; fars = (silent ns).fars; numbers = ns }

    stepped : (ns : List ℕ) → far_stepped m linked t (solo s a ns) f ≡ behind ns
    stepped ns = ap (λ (z : AllMet L F). record { field = record { lit = true; listeners = z.listeners }; fars = z.fars; numbers = z.numbers }) (met ns)

    back_numbers : (j : Joint) (y : Fate) (ns ks : List ℕ) → with_numbers (replay air (behind ks) (joint_events j y)) [] ≡ with_numbers (replay air (behind ns) (joint_events j y)) []
    back_numbers Nothing y ns ks = refl
    back_numbers (Single g) Pass ns ks = refl
    back_numbers (Single g) Damage ns ks = refl
    back_numbers (Single g) Lose ns ks = refl
    back_numbers (Single g) Break ns ks = refl
    back_numbers (Clashing g) Pass ns ks = refl
    back_numbers (Clashing g) Damage ns ks = refl
    back_numbers (Clashing g) Lose ns ks = refl
    back_numbers (Clashing g) Break ns ks = refl

    passed_world : (y : Fate) (ns ks : List ℕ) → with_numbers (replay air (far_stepped m linked t (solo s a ks) f) (joint_events (air.joint (solo s a ks) f) y)) []
        ≡ with_numbers (replay air (far_stepped m linked t (solo s a ns) f) (joint_events (air.joint (solo s a ns) f) y)) []
    passed_world y ns ks =
        ap (λ j. with_numbers (replay air (far_stepped m linked t (solo s a ks) f) (joint_events j y)) []) (same_joint ns ks)
        ∙ ap (λ z. with_numbers (replay air z (joint_events (air.joint (solo s a ns) f) y)) []) (stepped ks)
        ∙ back_numbers (air.joint (solo s a ns) f) y ns ks
        ∙ sym (ap (λ z. with_numbers (replay air z (joint_events (air.joint (solo s a ns) f) y)) []) (stepped ns))

    abbrev made_of : Fate → Fate → Made
    made_of x y = record { frame = f; fate = x; back = y }

    quiet_world : (x y : Fate) (ns ks : List ℕ) → with_numbers (made_world air (solo s a ks) (made_of x y)) [] ≡ with_numbers (made_world air (solo s a ns) (made_of x y)) []
    quiet_world Pass y ns ks = passed_world y ns ks
    quiet_world Damage y ns ks = refl
    quiet_world Lose y ns ks = refl
    quiet_world Break y ns ks = refl

    quiet_events : (x y : Fate) (ns ks : List ℕ) → made_events air (solo s a ks) (made_of x y) ≡ made_events air (solo s a ns) (made_of x y)
    quiet_events x y ns ks = ap (λ j. Request f x ∷ by_fate x (joint_events j y) [] []) (same_joint ns ks)

  numbers_dark : (w v : FarWorld L F) → with_numbers v [] ≡ with_numbers w [] → SameDark m linked t w v
  numbers_dark w v e = record { lit = ap (λ (z : FarWorld L F). z.field.lit) e; dark = ap (far_dark m linked t) e }

  abbrev D : Type 0
  D = ClosingStanding

  abbrev BusyAt : D → InitState → Signal → Type 0
  BusyAt c i f = Busy c i f

  abbrev DoneAt : D → InitState → Type 0
  DoneAt c i = Done c i

  abbrev OffAt : D → Type 0
  OffAt c = Off c

  abbrev HasClosedAt : D → Type 0
  HasClosedAt c = HasClosed c

  abbrev ShownAt : FarWorld L F → FarWorld L F → D → List Made → Type 0
  ShownAt w v d qs = Shown m linked t closing_due_at closing_noted HasClosedAt w v d qs

  abbrev DuesAt : FarWorld L F → D → List Made → Type 0
  DuesAt w d qs = DuesFit m linked t closing_due_at closing_noted Outs w d qs

  rls_over : (to : Step) (n : Note) (f : Signal) → closing_due_at (closing_noted (Releasing to) n) ≡ Asks f → ⊥
  rls_over to Lit f e = cc
  rls_over to (Got x) f e = cc
  rls_over to Lost f e = cc

  none_behind : (to : Step) (n : Note) (w : FarWorld L F) (qs : List Made) → DuesAt w (closing_noted (Releasing to) n) qs → qs ≡ []
  none_behind to n w [] k = refl
  none_behind to n w (q ∷ qs) k = absurd (rls_over to n q.frame k.1)

  released : (to : Step) (qs : List Made) (s : TargetState) (a : F) (ns ks : List ℕ) → DuesAt (solo s a ns) (Releasing to) qs → ShownAt (solo s a ns) (solo s a ks) (Releasing to) qs
  released to [] s a ns ks k =
      shown_none m linked t closing_due_at closing_noted HasClosedAt (solo s a ns) (solo s a ks) (Releasing to) [] refl (same_dark m linked t dev does s a ns ks) (λ e. refl)
  released to (q ∷ qs) s a ns ks k =
      let is : rls_frame ≡ q.frame = (let e : Asks rls_frame ≡ Asks q.frame = k.1 in cc) in
      let quiet : hands_over m (dev s) q.frame ≡ Untouched = subst (λ f. hands_over m (dev s) f ≡ Untouched) is (does.hands s rls_frame refl ∙ rls_use s) in
      let w : FarWorld L F = made_world air (solo s a ns) q in
      let v : FarWorld L F = made_world air (solo s a ks) q in
      let d : D = closing_noted (Releasing to) (made_note air (solo s a ns) q) in
      let same : with_numbers v [] ≡ with_numbers w [] = quiet_world s a q.frame quiet q.fate q.back ns ks in
      shown_more m linked t closing_due_at closing_noted HasClosedAt (solo s a ns) (solo s a ks) w v (Releasing to) d q qs refl (quiet_events s a q.frame quiet q.fate q.back ns ks) refl refl refl
      (shown_none m linked t closing_due_at closing_noted HasClosedAt w v d qs (none_behind to (made_note air (solo s a ns) q) w qs k.2) (numbers_dark w v same) (λ e. same))

  came : (to : Step) (i : InitState) (qs : List Made) (s : TargetState) (a : F) (ns ks : List ℕ) → DuesAt (solo s a ns) (Calls (Comes to i)) qs
      → ShownAt (solo s a ns) (solo s a ks) (Calls (Comes to i)) qs
  came to i [] s a ns ks k =
      shown_none m linked t closing_due_at closing_noted HasClosedAt (solo s a ns) (solo s a ks) (Calls (Comes to i)) [] refl (same_dark m linked t dev does s a ns ks) (λ e. refl)
  came to i (q ∷ qs) s a ns ks k = absurd (let e : Over ≡ Asks q.frame = k.1 in cc)

  tail : (d : D) (j : InitState) (qs : List Made) (s : TargetState) (a : F) (ns ks : List ℕ) → DoneAt d j → InStep j s → DuesAt (solo s a ns) d qs → ShownAt (solo s a ns) (solo s a ks) d qs
  tail d j qs s a ns ks (to, inl e) step k =
      subst (λ z. ShownAt (solo s a ns) (solo s a ks) z qs) (sym e) (released to qs s a ns ks (subst (λ z. DuesAt (solo s a ns) z qs) e k))
  tail d j qs s a ns ks (to, inr e) step k =
      subst (λ z. ShownAt (solo s a ns) (solo s a ks) z qs) (sym e) (came to j qs s a ns ks (subst (λ z. DuesAt (solo s a ns) z qs) e k))

  carries : run.IsCarrying m linked t dev does closing_due_at closing_noted BusyAt DoneAt OffAt Outs
  carries = record {
    asks = λ c i f b. closing_asks c i f b;
    goes = λ c i f b n. closing_goes c i f b n;
    off = λ c f o e. closing_off c f o e;
  }

  module _ (Good : F → Type 0) (reads : F → List ℕ → Bool) (numbered : IsNumbered t Good reads)
      (Is : L → Type 0) (aside : (l : L) (f : Signal) → IsWhole f → Is l → IsSilent m linked t Is IsWhole l f) (dark : (l : L) → Is l → Is (m.darkened l))
      (x : Around L F) (around : AreAround m linked t Is IsWhole x) (i : InitState) (s : TargetState) (a : F) (ns : List ℕ) (step : InStep i s) (most : 2 ≤ s.most) (ok : Good a)
      (own : List ℕ) (from : Step) (es more : List Event) where
    abbrev world : List ℕ → FarWorld L F
    world ks = amid m linked t x true (dev s) (Some a) ks

    -- the numbers that are shown, also by what stands behind
    abbrev ks : List ℕ
    ks = far_shown i.core.number (es ++ more)

    -- By them the same turns are made. Behind these both worlds have the same light, and are the same in the dark but for the numbers that are left; where the call
    -- came to its end, or RLS_REQ was sent, they are so at once.
    pub record ClosesWell : Type 0 where
      pub turns : AreTurns air (with_numbers (world ns) ks) es
      pub alike : SameDark m linked t (replay air (world ns) es) (replay air (with_numbers (world ns) ks) es)
      pub done : HasClosedAt (closing_stand own from i (receptions es)) → with_numbers (replay air (with_numbers (world ns) ks) es) [] ≡ with_numbers (replay air (world ns) es) []

    pub closes_well : AreTurns air (world ns) es → EachDue (closing_due own from i) [] es → RepliesFit m linked t (world ns) es
        → ((before : List Event) (f : Signal) (y : Fate) (rest : List Event) → es ≡ before ++ Request f y ∷ rest → Outs (closing_stand own from i (receptions before))) → ClosesWell
    closes_well turns each fit outs =
        let k = far_law m linked t Is aside dark dev does closing_due_at closing_noted BusyAt DoneAt OffAt Outs carries Good reads numbered HasClosedAt
        (λ c j f b e. busy_more c j f b e) (λ c o e. off_more c o e) (IsWholeClosing) (λ c f w e. asks_whole c f w e)
        (λ c n w. closing_whole c n w) (λ c e. closing_never c e) tail x around i s a ns step most ok (closing_at (call_at own from i)) []
        (starts_closing (call_at own from i) i (walk_starts by_client (next_of own from) i))
        (at_closing_whole (call_at own from i) (at_whole by_client (next_of own from) i)) (answers_of more) ks es (closing_due own from i)
        (λ hs. ap closing_due_at (closing_all (closing_at (call_at own from i)) hs)) turns each fit
        (λ before f y rest e. subst Outs (closing_all (closing_at (call_at own from i)) (receptions before)) (outs before f y rest e))
        (ap (λ fs. numbers (cut_up (begins i.core.number) (pieces_of fs))) (answers_append es more)) in
        record { turns = k.turns; alike = k.alike; done = λ e. k.done (subst HasClosedAt (closing_all (closing_at (call_at own from i)) (receptions es)) e) }
