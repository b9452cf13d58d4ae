-- A swap on a link that is ready, by how its exchange ends.
use Rattle.std.proofs.Common.{◌≡◌, ℕ, ◌+◌, ◌<◌, ◌≤◌, ◌==◌, inl, inr, List, [], ◌∷◌, ◌++◌, length, drop, Bool, true, false, if◌then◌else◌, Option, Some, None, Ok, Err, refl, sym, ◌∙◌, ap, subst, arith}
use Rattle.std.proofs.Common.{append_assoc, append-nil, length-append}
use Rattle.std.specs.Prelude.{slice_index}
use Rattle.std.specs.Global.{Vec}
use Rattle.std.proofs.lemmas.List.{append_cancel_left, drop-append-le}
use Rattle.std.proofs.Math.Seq.{drop-append_seam}
use Rattle.nfc_base.specs.Signal.{Signal}
use Rattle.nfc_base.specs.Trace.{noise, breaks}
use Rattle.nfc_base.specs.StopAndWait.{delivered_of}
use Rattle.nfc_base.specs.Links.{Stepped, Stopped}
use Rattle.nfc_base.specs.LinkTurns.{GivenBy, arrived}
use Rattle.nfc_base.proofs.LinkTurns.{arrived_append}
use Rattle.nfc_base.specs.declared.event.Event.{Event}
use Rattle.nfc_base.specs.declared.carrier.EndCause.{EndCause}
use Rattle.nfc_base.specs.declared.carrier.EndCause.TheVariants.{FieldLost, SixBad, Protocol, Memory}
use Rattle.air_core.specs.Turn.{Air, moment}
use Rattle.air_core.specs.laws.Turning.{going_start}
use Rattle.air_core.specs.declared.listener.Listener.{Ghosts}
use Rattle.air_core.proofs.PlainTurns.{noise_append}
use Rattle.air_core.proofs.LostField.{breaks-append, breaks_noise}
use Rattle.dep_pdu.specs.declared.frame.DepFrame.{DepFrame}
use Rattle.dep_pdu.specs.declared.frame.DepFrame.TheVariants.{AtrReq, AtrRes, Info, Ack, Nack, Attention, Extend, DslReq, DslRes, RlsReq, RlsRes}
use Rattle.dep_link.specs.declared.exchange.Unanswered.{Unanswered}
use Rattle.dep_link.specs.declared.exchange.Unanswered.TheVariants as ends
use Rattle.dep_link.specs.Frames.{after, air_frame}
use Rattle.dep_link.specs.Target.{TargetState}
use Rattle.dep_link.specs.Initiator.{InitState, begun, request}
use Rattle.dep_link.specs.Payloads.{Cut, joined, taken, cut_by, begins, payloads, is_some, brings_payload}
use Rattle.dep_link.specs.Exchange.{frames_of}
use Rattle.dep_link.specs.Answering.{answering_air}
use Rattle.dep_link.specs.Asking.{Standing, Rests, asks, dep_next, HasPeer, ExchangeTurns, EndsBy}
use Rattle.dep_link.specs.Sizes.{limit}
use Rattle.dep_link.specs.DepLinks.{DepSeen, since, brought, told_end, StandsAt, IsDepReady, PayloadExchanged, Carries}
use Rattle.dep_link.proofs.Wire.{frames_append}

abbrev pub cut : ℕ → List ℕ → List (List ℕ) → Cut
cut n chain ps = record { next = n; chain = chain; payloads = ps }

-- both are a cut with such payloads, one with more before them
abbrev pub Behind : List (List ℕ) → List DepFrame → Cut → Cut → Type 0
Behind ps vs c d = (cut_by c vs).payloads ≡ ps ++ (cut_by d vs).payloads

if_behind : (ps : List (List ℕ)) (vs : List DepFrame) (b : Bool) (c d c' d' : Cut) → Behind ps vs c c' → Behind ps vs d d' → Behind ps vs (if b then c else d) (if b then c' else d')
if_behind ps vs true c d c' d' p q = p
if_behind ps vs false c d c' d' p q = q

more_behind : (ps : List (List ℕ)) (vs : List DepFrame) (n : ℕ) (chain xs : List ℕ) (qs : List (List ℕ)) (more : Bool) → Behind ps vs (cut (after n) xs (ps ++ qs)) (cut (after n) xs qs)
    → Behind ps vs (cut (after n) [] (ps ++ (qs ++ xs ∷ []))) (cut (after n) [] (qs ++ xs ∷ [])) → Behind ps vs (joined (cut n chain (ps ++ qs)) more xs) (joined (cut n chain qs) more xs)
more_behind ps vs n chain xs qs true p q = p
more_behind ps vs n chain xs qs false p q = subst (λ (zs : List (List ℕ)). Behind ps vs (cut (after n) [] zs) (cut (after n) [] (qs ++ xs ∷ []))) (sym (append_assoc ps qs (xs ∷ []))) q

-- payloads that came before stay in front
pub payloads_behind : (ps : List (List ℕ)) (vs : List DepFrame) (n : ℕ) (chain : List ℕ) (qs : List (List ℕ)) → Behind ps vs (cut n chain (ps ++ qs)) (cut n chain qs)
payloads_behind ps [] n chain qs = refl
payloads_behind ps (Info false more pni x ∷ vs) n chain qs =
    if_behind ps vs (pni == n) _ _ _ _
    (more_behind ps vs n chain (chain ++ x.items) qs more (payloads_behind ps vs (after n) (chain ++ x.items) qs) (payloads_behind ps vs (after n) [] (qs ++ (chain ++ x.items) ∷ [])))
    (payloads_behind ps vs n chain qs)
payloads_behind ps (Info true more pni x ∷ vs) n chain qs = payloads_behind ps vs n chain qs
payloads_behind ps (Ack false pni ∷ vs) n chain qs = if_behind ps vs (pni == n) _ _ _ _ (payloads_behind ps vs (after n) chain qs) (payloads_behind ps vs n chain qs)
payloads_behind ps (Ack true pni ∷ vs) n chain qs = payloads_behind ps vs n chain qs
payloads_behind ps (Nack pni ∷ vs) n chain qs = payloads_behind ps vs n chain qs
payloads_behind ps (Attention up ∷ vs) n chain qs = payloads_behind ps vs n chain qs
payloads_behind ps (Extend up times ∷ vs) n chain qs = payloads_behind ps vs n chain qs
payloads_behind ps (AtrReq id lr general ∷ vs) n chain qs = payloads_behind ps vs n chain qs
payloads_behind ps (AtrRes id timeout lr general ∷ vs) n chain qs = payloads_behind ps vs n chain qs
payloads_behind ps (DslReq ∷ vs) n chain qs = payloads_behind ps vs n chain qs
payloads_behind ps (DslRes ∷ vs) n chain qs = payloads_behind ps vs n chain qs
payloads_behind ps (RlsReq ∷ vs) n chain qs = payloads_behind ps vs n chain qs
payloads_behind ps (RlsRes ∷ vs) n chain qs = payloads_behind ps vs n chain qs

pub cut_then : (c : Cut) (vs ws : List DepFrame) → cut_by c (vs ++ ws) ≡ cut_by (cut_by c vs) ws
cut_then c [] ws = refl
cut_then c (v ∷ vs) ws = cut_then (taken c v) vs ws

module _ {L F : Type 0} (k : Ghosts L) (target : L → TargetState) (steps : F → List ℕ → List ℕ → F → Type 0) (stops : F → List ℕ → F → Type 0) (a : DepSeen L) (open_link : a.over ≡ None)
    (r : IsDepReady k target a)
    (out : List ℕ) (short : length out ≤ limit) (bytes : (i : ℕ) → slice_index out i < 256) (far far' : F) where
  -- where the link stands then
  abbrev pub at : Air L → InitState → Option EndCause → DepSeen L
  at new j over = record { air = new; initiator = j; first = a.first; start = a.start; over = over }

  abbrev pub Turns : Air L → Option (List ℕ) → Standing → Type 0
  Turns new given s = ExchangeTurns k target a.air new r.peer.listener a.initiator a.first (brought a.first (since a)) (arrived (since a)) out given s

  module _ (new : Air L) (j : InitState) (over : Option EndCause) (events : List Event) (trace : new.trace ≡ a.air.trace ++ events) where
    since_is : since (at new j over) ≡ since a ++ events
    since_is = ap (drop a.start) trace ∙ drop-append-le a.start a.air.trace events r.start

    arrived_is : arrived (since (at new j over)) ≡ arrived (since a) ++ arrived events
    arrived_is = ap arrived since_is ∙ arrived_append (since a) events

    noise_is : noise (since (at new j over)) ≡ noise (since a) + noise events
    noise_is = ap noise since_is ∙ noise_append (since a) events

    breaks_is : breaks (since (at new j over)) ≡ breaks (since a) + breaks events
    breaks_is = ap breaks since_is ∙ breaks-append (since a) events

    start_is : a.start ≤ length new.trace
    start_is = let l = r.start in let e = ap length trace in let s = length-append a.air.trace events in omega (arith, l, e, s)

  -- the payload came exactly where a reply was given
  came : (new : Air L) (given : Option (List ℕ)) (s : Standing) (x : Turns new given s) → brings_payload a.initiator.core.number (frames_of (arrived (drop (length a.air.trace) new.trace)))
      ≡ is_some (delivered_of out given)
  came new given s x =
      let ps : List (List ℕ) = brought a.first (since a) in
      let bs : List DepFrame = frames_of (arrived x.events) in
      let all : cut_by (begins a.first) (frames_of (arrived (since a) ++ arrived x.events)) ≡ cut_by (cut_by (begins a.first) (frames_of (arrived (since a)))) bs =
      ap (cut_by (begins a.first)) (frames_append (arrived (since a)) (arrived x.events)) ∙ cut_then (begins a.first) (frames_of (arrived (since a))) bs in
      let from : cut_by (begins a.first) (frames_of (arrived (since a))) ≡ cut a.initiator.core.number [] ps =
      r.peer.cut ∙ ap (λ (n : ℕ). cut n (target r.peer.listener).chain ps) r.peer.step.expects ∙ ap (λ (xs : List ℕ). cut a.initiator.core.number xs ps) r.peer.step.no_chain in
      let front : (cut_by (cut a.initiator.core.number [] ps) bs).payloads ≡ ps ++ payloads a.initiator.core.number bs =
      subst (λ (qs : List (List ℕ)). (cut_by (cut a.initiator.core.number [] qs) bs).payloads ≡ ps ++ payloads a.initiator.core.number bs) (append-nil ps)
      (payloads_behind ps bs a.initiator.core.number [] []) in
      let same : ps ++ payloads a.initiator.core.number bs ≡ ps ++ delivered_of out given = sym front ∙ sym (ap (λ (c : Cut). (cut_by c bs).payloads) from) ∙ sym (ap (λ (c : Cut). c.payloads) all)
      ∙ x.brings in
      let events : drop (length a.air.trace) new.trace ≡ x.events = ap (drop (length a.air.trace)) x.trace ∙ drop-append_seam a.air.trace x.events in
      ap (λ (es : List Event). brings_payload a.initiator.core.number (frames_of (arrived es))) events
      ∙ ap is_some (append_cancel_left ps (payloads a.initiator.core.number bs) (delivered_of out given) same)

  module _ (new : Air L) (j : InitState) (last : j.out ≡ Some out) where
    -- where six were bad, not all passed
    abbrev Noisy : Option EndCause → Type 0
    Noisy over = over ≡ Some SixBad → noise (since (at new j over)) ≡ noise (since a) → ⊥

    -- where the field was lost it is dark, and a transmission lost it
    abbrev Lost : Option EndCause → Type 0
    Lost over = over ≡ Some FieldLost → (breaks (since a) < breaks (since (at new j over))) × (new.lit ≡ false)

    exchanged : (over : Option EndCause) (s : Standing) → StandsAt over None j s → Turns new None s → Noisy over → Lost over
        → PayloadExchanged k target a (at new j over) (record { out = out; did = [] })
    exchanged over s st x n f =
        record { begins = open_link; start = r.start; peer = r.peer; same = (refl, refl); last = last; short = short; bytes = bytes; exchange = (s, x, st); noisy = n; lost = f }

    exchanged_step : (over : Option EndCause) (reply : List ℕ) (s : Standing) → StandsAt over (Some reply) j s → Turns new (Some reply) s → Noisy over → Lost over
        → PayloadExchanged k target a (at new j over) (record { out = out; did = Stepped out reply ∷ [] })
    exchanged_step over reply s st x n f =
        record { begins = open_link; start = r.start; peer = r.peer; same = (refl, refl); last = last; short = short; bytes = bytes; exchange = (refl, (s, x, st)); noisy = n; lost = f }

    -- the reply came
    pub carried : (reply : Vec ℕ) → EndsBy k target steps stops a.air new r.peer.listener a.initiator j a.first (brought a.first (since a)) (arrived (since a)) out far far'
        (Ok (record { items = reply.items }))
        → Carries k target steps stops a (at new j None) out far far' (Ok reply)
    carried reply (x, step, lit, peer) =
        let P : List (List ℕ) → List Signal → Type 0 = λ ps fs. HasPeer k target new j a.first ps fs in
        let fs : arrived (since (at new j None)) ≡ arrived (since a) ++ arrived x.events = arrived_is new j None x.events x.trace in
        let ps : brought a.first (since (at new j None)) ≡ brought a.first (since a) ++ out ∷ [] = ap (λ (zs : List Signal). payloads a.first (frames_of zs)) fs ∙ x.brings in (
          record { exchanged = exchanged_step None reply.items (Rests j reply.items) refl x (λ e q. cc) (λ e. absurd cc); far_moved = (far', step, refl) },
          refl,
          record {
            lit = lit;
            start = start_is new j None x.events x.trace;
            peer = subst (λ (zs : List Signal). P (brought a.first (since (at new j None))) zs) (sym fs) (subst (λ (qs : List (List ℕ)). P qs (arrived (since a) ++ arrived x.events)) (sym ps) peer);
          },
        )

    never_calm : (cause : EndCause) → (noise (since (at new j (Some cause))) ≡ noise (since a) → cause ≡ Memory) → Noisy (Some cause)
    never_calm cause calm e q = let memory : cause ≡ Memory = calm q in cc

    -- the exchange was broken off by this cause
    under_way : (cause : EndCause) (given : Option (List ℕ)) (s : Standing) (x : Turns new given s) → GivenBy steps far out given far' → StandsAt (Some cause) given j s → Lost (Some cause)
        → (noise (since (at new j (Some cause))) ≡ noise (since a) → cause ≡ Memory) → Carries k target steps stops a (at new j (Some cause)) out far far'
        (Err (record { cause = cause; answered = is_some (delivered_of out given) }))
    under_way cause None s x g st f calm = ([], record { exchanged = exchanged (Some cause) s st x (never_calm cause calm) f; far_moved = g }, inl refl, refl, calm)
    under_way cause (Some reply) s x g st f calm =
        (Stepped out reply ∷ [], record { exchanged = exchanged_step (Some cause) reply s st x (never_calm cause calm) f; far_moved = (far', g, refl) }, (reply, refl), refl, calm)

    noisy : (cause : EndCause) (given : Option (List ℕ)) (s : Standing) (x : Turns new given s) → 0 < noise x.events → noise (since (at new j (Some cause))) ≡ noise (since a) → cause ≡ Memory
    noisy cause given s x p e = let n = noise_is new j (Some cause) x.events x.trace in absurd (omega (arith, p, e, n))

    lost_there : (given : Option (List ℕ)) (s : Standing) (x : Turns new given s) → 0 < breaks x.events → new.lit ≡ false → Lost (Some FieldLost)
    lost_there given s x p dark e = (let n = breaks_is new j (Some FieldLost) x.events x.trace in omega (arith, p, n), dark)

    told : (cause : EndCause) (given : Option (List ℕ)) (s : Standing) (x : Turns new given s) (answered : Bool)
        → answered ≡ brings_payload a.initiator.core.number (frames_of (arrived (drop (length a.air.trace) new.trace)))
        → Carries k target steps stops a (at new j (Some cause)) out far far' (Err (record { cause = cause; answered = is_some (delivered_of out given) }))
        → Carries k target steps stops a (at new j (Some cause)) out far far' (Err (record { cause = cause; answered = answered }))
    told cause given s x answered e c =
        let P : Bool → Type 0 = λ b. Carries k target steps stops a (at new j (Some cause)) out far far' (Err (record { cause = cause; answered = b })) in
        subst P (sym (e ∙ came new given s x)) c

    pub broken_off : (cause : EndCause) (answered : Bool) → answered ≡ brings_payload a.initiator.core.number (frames_of (arrived (drop (length a.air.trace) new.trace)))
        → EndsBy k target steps stops a.air new r.peer.listener a.initiator j a.first (brought a.first (since a)) (arrived (since a)) out far far' (Err (ends.Ended cause))
        → Carries k target steps stops a (at new j (Some cause)) out far far' (Err (record { cause = cause; answered = answered }))
    broken_off FieldLost answered e (given, s, x, g, p) =
        let some : 0 < noise x.events = let b = p.1 in let l = breaks_noise x.events in omega (arith, b, l) in
        told FieldLost given s x answered e (under_way FieldLost given s x g p.0 (lost_there given s x p.1 p.2) (noisy FieldLost given s x some))
    broken_off SixBad answered e (given, s, x, g, p) = told SixBad given s x answered e (under_way SixBad given s x g p.0 (λ z. absurd cc) (noisy SixBad given s x p.1))
    broken_off Memory answered e (given, s, x, g, p) = told Memory given s x answered e (under_way Memory given s x g p (λ z. absurd cc) (λ z. refl))
    broken_off Protocol answered e p = absurd p

    -- the far end stopped
    pub stopped : EndsBy k target steps stops a.air new r.peer.listener a.initiator j a.first (brought a.first (since a)) (arrived (since a)) out far far' (Err ends.Stopped)
        → Carries k target steps stops a (at new j (Some Memory)) out far far' (Err (record { cause = Memory; answered = false }))
    stopped (x, stop) = (
      Stopped out ∷ [],
      record {
        exchanged = record {
          begins = open_link;
          start = r.start;
          peer = r.peer;
          same = (refl, refl);
          last = last;
          short = short;
          bytes = bytes;
          exchange = (refl, x, refl);
          noisy = λ e q. cc;
          lost = λ e. absurd cc;
        };
        far_moved = (stop, refl);
      },
      inr (refl, refl),
      refl,
      λ z. refl,
    )

  -- no room was left for the reply, and nothing was sent
  pub no_room : far' ≡ far → Carries k target steps stops a (at a.air (begun a.initiator out) (Some Memory)) out far far' (Err (record { cause = Memory; answered = false }))
  no_room e =
      let x : Turns a.air None (asks a.initiator out) = record {
        events = [];
        trace = sym (append-nil a.air.trace);
        frames = tt;
        brings = ap (λ (fs : List Signal). payloads a.first (frames_of fs)) (append-nil (arrived (since a))) ∙ sym (append-nil (brought a.first (since a)));
        within = omega arith;
        calm = λ z. refl;
        notes = [];
        going = λ z m. going_start (answering_air k.machine z) (dep_next a.initiator out) (moment a.air);
        stands = refl;
      } in (
        [],
        record {
          exchanged = exchanged a.air (begun a.initiator out) refl (Some Memory) (asks a.initiator out) (air_frame (request (begun a.initiator out).core), refl) x (λ q m. cc) (λ q. absurd cc);
          far_moved = e;
        },
        inl refl,
        refl,
        λ z. refl,
      )

  -- a fault of any kind
  pub fault_carried : (new : Air L) (j : InitState) → j.out ≡ Some out → (why : Unanswered)
      → EndsBy k target steps stops a.air new r.peer.listener a.initiator j a.first (brought a.first (since a)) (arrived (since a)) out far far' (Err why)
      → (came : Bool) → came ≡ brings_payload a.initiator.core.number (frames_of (arrived (drop (length a.air.trace) new.trace)))
      → Carries k target steps stops a (at new j (Some (told_end why came).cause)) out far far' (Err (told_end why came))
  fault_carried new j last (ends.Ended cause) e answered q = broken_off new j last cause answered q e
  fault_carried new j last ends.Stopped e answered q = stopped new j last e
