-- One exchange with a peer, from the initiator's first frame to its end.
use Rattle.std.proofs.Common.{◌≡◌, ℕ, ◌+◌, ◌<◌, ◌≤◌, inl, inr, List, [], ◌∷◌, ◌++◌, length, Bool, true, if◌then◌else◌, Option, Some, None, Ok, Err, refl, sym, ◌∙◌, ap, subst, arith, append-nil}
use Rattle.std.proofs.Common.{length-append}
use Rattle.nfc_base.specs.Signal.{Signal}
use Rattle.nfc_base.specs.Trace.{noise}
use Rattle.nfc_base.specs.Far.{Untouched, Hands}
use Rattle.nfc_base.specs.StopAndWait.{Deliver, SixBad, Stage, Requests, Over, Dark, stage_of, delivered_of}
use Rattle.nfc_base.specs.LinkTurns as turns
use Rattle.nfc_base.specs.declared.event.Event.{Event}
use Rattle.nfc_base.specs.declared.event.Heard.{Heard}
use Rattle.nfc_base.specs.declared.event.Heard.TheVariants as heards
use Rattle.nfc_base.specs.declared.carrier.EndCause.TheVariants as cause
use Rattle.air_core.specs.declared.fault.AirFault.TheVariants as air
use Rattle.air_core.specs.World.{hands_over}
use Rattle.air_core.specs.Turn.{Air, TurnIs, HearSome, Stops, Transmits}
use Rattle.air_core.specs.declared.listener.Listener.{Ghosts}
use Rattle.air_core.proofs.PlainAside.{Laws}
use Rattle.dep_link.specs.declared.target.TargetStep.{TargetStep}
use Rattle.dep_link.specs.declared.target.TargetStep.TheVariants as does
use Rattle.dep_link.specs.declared.initiator.InitStep.{InitStep}
use Rattle.dep_link.specs.declared.initiator.InitStep.TheVariants as send
use Rattle.dep_link.specs.declared.exchange.Unanswered.TheVariants.{Ended, Stopped}
use Rattle.dep_link.specs.Sizes.{limit}
use Rattle.dep_link.specs.Frames.{air_frame}
use Rattle.dep_link.specs.Target.{TargetState, target_table}
use Rattle.dep_link.specs.Initiator.{InitState, InitTurn, init_table, request, begun}
use Rattle.dep_link.specs.Payloads.{payloads}
use Rattle.dep_link.specs.Exchange.{nfc_dep, initiator_does, target_does, frames_of}
use Rattle.dep_link.specs.Peers.{target_use, reached, IsPeer, StepsByTarget}
use Rattle.dep_link.specs.Asking.{Standing, Waits, Rests, Broken, goes_by, HasPeer, EndsBy}
use Rattle.dep_link.proofs.Moves.{whole_not_six}
use Rattle.dep_link.specs.Stopping.{HeardUpTo}
use Rattle.dep_link.proofs.Answered.{stopped_at, heard_up_to}
use Rattle.dep_link.proofs.PeerTurns.{each_quiet, hears_asked}
use Rattle.dep_link.proofs.Swapping.{OnPeer, HasBytes, begins_on, turn_on, turn_lost, noisy, broken, room, live, on_turns, lost_turns, turns_by, far_by, once_along, saying, never_protocol}
use Rattle.dep_link.proofs.Swapping.{replied_turns, hands, given_is, is_asked, last_peer, last_alone}

-- what a target hands over it delivers
use_delivers : (d : TargetStep) (p : List ℕ) → target_use d ≡ Hands p → target_does d ≡ Deliver p
use_delivers does.Quiet p e = absurd (cc)
use_delivers (does.Reply f) p e = absurd (cc)
use_delivers (does.Restart general f) p e = absurd (cc)
use_delivers (does.Deliver payload) p e = (let z : payload.items ≡ p = cc in ap Deliver z)
use_delivers (does.Asleep f) p e = absurd (cc)
use_delivers (does.Released f) p e = absurd (cc)

module _ {L F : Type 0} (k : Ghosts L) (laws : Laws k) (target : L → TargetState) (restarts : F → List ℕ → F → Type 0) (steps : F → List ℕ → List ℕ → F → Type 0) (old : Air L) (i0 : InitState)
    (out : List ℕ)
    (first : ℕ) (handed : List (List ℕ)) (arrived : List Signal) (t : HasPeer k target old i0 first handed arrived) (far0 : F) where
  abbrev pub Here : Air L → F → InitState → Stage Signal → Standing → Type 0
  Here mid far i stage s = OnPeer k target steps t.listener i0 first handed arrived out far0 old mid t.place far i stage s

  pub first_here : length out ≤ limit → old.lit ≡ true → (i : InitState) (f : Signal) → i ≡ begun i0 out → f ≡ air_frame (request (begun i0 out).core) → Here old far0 i (Requests f) (Waits i f)
  first_here short lit i f e d =
      let b : InitState = begun i0 out in
      subst (λ (x : InitState). Here old far0 x (Requests f) (Waits x f)) (sym e)
      (subst (λ (g : Signal). Here old far0 b (Requests g) (Waits b g)) (sym d)
      (begins_on k laws target restarts steps t.listener t.is i0 first handed arrived out far0 old t.place t.selected t.alone lit short t.step t.cut))

  module _ (stops : F → List ℕ → F → Type 0) (is_stuck : F → Bool) (mid : Air L) (far : F) (i : InitState) (f : Signal) (bytes : HasBytes f) (o : Here mid far i (Requests f) (Waits i f)) (far' : F)
      (new : Air L) where
    -- the initiator goes on by what it heard
    pub next_here : (h : Heard) → TurnIs k.machine restarts steps mid f far (Some h) new far' → (i' : InitState) (d : InitStep)
        → (let x : InitTurn = record { state = i'; does = d } in x) ≡ init_table i h → Here new far' i' (stage_of (initiator_does d)) (goes_by i' d)
    next_here h turn i' d e =
        subst (λ (x : InitTurn). Here new far' x.state (stage_of (initiator_does x.does)) (goes_by x.state x.does)) (sym e)
        (turn_on k laws target restarts steps t.listener t.is i0 first handed arrived out far0 old mid t.place far i f bytes o far' new h turn)

    six_noisy : (h : Heard) → TurnIs k.machine restarts steps mid f far (Some h) new far' → (i' : InitState)
        → (let x : InitTurn = record { state = i'; does = send.SixBad } in x) ≡ init_table i h → (zs : List Event) → new.trace ≡ old.trace ++ zs → 0 < noise zs
    six_noisy h turn i' e zs z =
        noisy k laws target restarts steps t.listener t.is i0 first handed arrived out far0 old mid t.place far i f bytes o far' new (Some h) turn
        (λ g q.
        let w : h ≡ heards.Whole g = cc in
        whole_not_six i g (live k laws target restarts steps t.listener t.is i0 first handed arrived out far0 old mid t.place far i f o)
        (ap (λ x. (init_table i x).does) (sym w) ∙ sym (ap (λ (x : InitTurn). x.does) e)))
        zs z

    -- the reply came
    pub ends_replied : (h : Heard) → TurnIs k.machine restarts steps mid f far (Some h) new far' → (i' : InitState) (r : List ℕ)
        → (let x : InitTurn = record { state = i'; does = send.Finished (record { items = r }) } in x) ≡ init_table i h
        → EndsBy k target steps stops old new t.listener i0 i' first handed arrived out far0 far' (Ok (record { items = r }))
    ends_replied h turn i' r e =
        let n = next_here h turn i' (send.Finished (record { items = r })) e in
        let a = replied_turns k laws target restarts steps t.listener t.is i0 first handed arrived out far0 old new t.place far' i' r (Rests i' r) n in
        (a.0, a.1, n.lit, a.2)

    pub ends_six : (h : Heard) → TurnIs k.machine restarts steps mid f far (Some h) new far' → (i' : InitState)
        → (let x : InitTurn = record { state = i'; does = send.SixBad } in x) ≡ init_table i h
        → EndsBy k target steps stops old new t.listener i0 i' first handed arrived out far0 far' (Err (Ended cause.SixBad))
    ends_six h turn i' e =
        let n = next_here h turn i' send.SixBad e in (
          n.said,
          Broken cause.SixBad,
          on_turns k laws target restarts steps t.listener t.is i0 first handed arrived out far0 old new t.place far' i' (Over SixBad) (Broken cause.SixBad) n,
          far_by k laws target restarts steps t.listener t.is i0 first handed arrived out far0 old.trace new.trace i' (target (reached k t.listener n.heard)) far' n.said (Over SixBad) n.along n.said
              refl,
          (refl, six_noisy h turn i' e n.along.added n.along.events),
        )

    pub ends_never : (h : Heard) → TurnIs k.machine restarts steps mid f far (Some h) new far' → (i' : InitState)
        → (let x : InitTurn = record { state = i'; does = send.Protocol } in x) ≡ init_table i h → ⊥
    ends_never h turn i' e =
        never_protocol k laws target restarts steps t.listener t.is i0 first handed arrived out far0 old new t.place far' i' (Broken cause.Protocol) (next_here h turn i' send.Protocol e)

    -- the field was lost
    pub ends_lost : (j : InitState) → Transmits k.machine restarts steps stops is_stuck mid f far (Err air.FieldLost) new far'
        → EndsBy k target steps stops old new t.listener i0 j first handed arrived out far0 far' (Err (Ended cause.FieldLost))
    ends_lost j (inl d) = let a = d.0 in let b = o.lit in absurd (cc)
    ends_lost j (inr turn) =
        let l = turn_lost k laws target restarts steps t.listener t.is i0 first handed arrived out far0 old mid t.place far i f bytes o far' new turn in (
          l.said,
          Broken cause.FieldLost,
          lost_turns k laws target restarts steps t.listener t.is i0 first handed arrived out far0 old new far' l,
          far_by k laws target restarts steps t.listener t.is i0 first handed arrived out far0 old.trace new.trace l.initiator (target l.left) far' l.said Dark l.along l.said refl,
          (refl, broken k laws target restarts steps t.listener t.is i0 first handed arrived out far0 old mid t.place far i f bytes o far' new None turn refl l.along.added l.along.events, l.dark),
        )

    -- one event more
    grown_by_one : Stops k.machine restarts steps stops is_stuck mid f far new far' → length new.trace ≡ length mid.trace + 1
    grown_by_one s = ap (λ (a : Air L). length a.trace) s.left ∙ length-append mid.trace _

    -- nothing more could be noted
    pub ends_memory : Transmits k.machine restarts steps stops is_stuck mid f far (Err air.Memory) new far' → length new.trace ≡ length mid.trace
        → EndsBy k target steps stops old new t.listener i0 i first handed arrived out far0 far' (Err (Ended cause.Memory))
    ends_memory (lit, inl same) e =
        let P : Air L → Type 0 = λ a. EndsBy k target steps stops old a t.listener i0 i first handed arrived out far0 far' (Err (Ended cause.Memory)) in
        let Q : F → Type 0 = λ x. EndsBy k target steps stops old mid t.listener i0 i first handed arrived out far0 x (Err (Ended cause.Memory)) in
        subst P (sym same.0)
        (subst Q (sym same.1) (
          o.said,
          Waits i f,
          on_turns k laws target restarts steps t.listener t.is i0 first handed arrived out far0 old mid t.place far i (Requests f) (Waits i f) o,
          far_by k laws target restarts steps t.listener t.is i0 first handed arrived out far0 old.trace mid.trace i (target (reached k t.listener o.heard)) far o.said (Requests f) o.along o.said
              refl,
          (f, refl),
        ))
    ends_memory (lit, inr s) e = absurd (let a = grown_by_one s in omega (arith, a, e))

    -- the far end stopped
    pub ends_stopped : Transmits k.machine restarts steps stops is_stuck mid f far (Err air.Memory) new far' → (length new.trace ≡ length mid.trace → ⊥)
        → EndsBy k target steps stops old new t.listener i0 i first handed arrived out far0 far' (Err Stopped)
    ends_stopped (lit, inl same) n = absurd (n (ap (λ (a : Air L). length a.trace) same.0))
    ends_stopped (lit, inr s) n =
        let b : L = t.listener in
        let l : L = reached k b o.heard in
        let alone = last_alone k laws target restarts steps b t.is i0 first handed arrived out far0 old mid t.place far i f bytes o in
        let asked = is_asked k laws target restarts steps b t.is i0 first handed arrived out far0 old mid t.place far i f bytes o in
        let peer : IsPeer k target l = last_peer k laws target restarts steps b t.is i0 first handed arrived out far0 old mid t.place far i f bytes o in
        let own : List ℕ = k.identifier l in
        let first_quiet = each_quiet k laws target own f asked alone.before alone.first in
        let later_quiet = each_quiet k laws target own f asked alone.behind alone.later in
        let some = subst (λ (ls : List L). HearSome k.machine restarts steps stops is_stuck f ls far s.listeners far') alone.split s.some in
        let stop = stopped_at k.machine restarts steps f stops is_stuck alone.before l alone.behind far far' s.listeners first_quiet later_quiet some in
        let step : StepsByTarget k target l f [] = peer.steps_on [] tt f asked [] (omega arith) in
        let uses : hands_over k.machine l f ≡ target_use (target_table (target l) f).does =
        ap (λ v. if v then k.machine.handed l f else Untouched) (hears_asked k laws target l f asked peer.tech) ∙ step.asks in
        let delivers : (nfc_dep first).does (target l) f ≡ Deliver stop.0 = use_delivers (target_table (target l) f).does stop.0 (sym uses ∙ stop.1) in
        let h = hands k laws target restarts steps b t.is i0 first handed arrived out far0 old mid t.place far i f bytes o stop.0 delivers in
        let said = given_is k laws target restarts steps b t.is i0 first handed arrived out far0 old mid t.place far i f bytes o in
        let none : o.along.world.given ≡ None = sym said.1 ∙ h.1 in
        let same : far ≡ far0 = subst (λ (g : Option (List ℕ)). turns.GivenBy steps far0 out g far) none said.0 in
        let x = turns_by k laws target restarts steps b t.is i0 first handed arrived out far0 old mid i (target l) far o.said (Requests f) o.along None h.1 o.frames o.calm o.notes o.going (Waits i f)
        o.stands in
        let once = once_along k laws target restarts steps b t.is i0 first handed arrived out far0 old.trace mid.trace i (target l) (saying far o.said) (Requests f) o.along in
        let delivered : o.along.world.delivered ≡ handed = once.once ∙ ap (λ (g : Option (List ℕ)). handed ++ delivered_of out g) none ∙ append-nil handed in (
          record {
            mid = mid;
            sent = f;
            listeners = s.listeners;
            before = x;
            fate = s.fate;
            heard =
                subst (λ (ls : List L). HeardUpTo k.machine f out ls s.listeners) (sym alone.split)
                (heard_up_to k.machine restarts steps f stops is_stuck alone.before l alone.behind far far' s.listeners first_quiet later_quiet some out
                (subst (λ (p : List ℕ). hands_over k.machine l f ≡ Hands p) h.0 stop.1));
            left = s.left;
            brings =
                ap (λ (fs : List Signal). payloads first (frames_of (fs ++ f ∷ []))) o.along.arrives ∙ ap (λ c. c.payloads) h.2 ∙ ap (λ (ps : List (List ℕ)). ps ++ stop.0 ∷ []) delivered
                ∙ ap (λ (p : List ℕ). handed ++ p ∷ []) h.0;
            within = room k laws target restarts steps b t.is i0 first handed arrived out far0 old mid t.place far i f bytes o none;
          },
          subst (λ (p : List ℕ). stops far0 p far') h.0 (subst (λ (y : F). stops y stop.0 far') same stop.2),
        )
