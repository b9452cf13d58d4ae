-- What a swap on a link that is ready tells a carrier's caller.
use Rattle.std.proofs.Common.{◌≡◌, ℕ, ◌≤◌, inl, inr, List, [], ◌∷◌, ◌++◌, drop, Bool, true, false, Option, Some, None, Result, Ok, Err, IfOk, refl, sym, ◌∙◌, ap, subst, arith, append_assoc}
use Rattle.std.proofs.Common.{append-nil}
use Rattle.std.specs.Prelude.{not}
use Rattle.std.specs.Result.{IfErr}
use Rattle.std.specs.Global.{Vec}
use Rattle.std.proofs.lemmas.List.{drop-append-le}
use Rattle.nfc_base.specs.Trace.{noise}
use Rattle.nfc_base.specs.Links.{CountsOn, HasCause, Swaps, SwapDone, FarLeft, SwapFailed, SwapRefused, FarStep, Stepped, Stopped, AskedBy, Swapped, IsMemory}
use Rattle.nfc_base.specs.LinkTurns.{arrived}
use Rattle.nfc_base.specs.declared.event.Event.{Event}
use Rattle.nfc_base.specs.declared.event.Event.TheVariants.{Request}
use Rattle.nfc_base.specs.declared.event.Fate.TheVariants.{Pass}
use Rattle.nfc_base.specs.declared.carrier.EndCause.{EndCause}
use Rattle.nfc_base.specs.declared.carrier.EndCause.TheVariants.{FieldLost, SixBad, Protocol, Memory}
use Rattle.nfc_base.specs.declared.carrier.LinkEnd.{LinkEnd}
use Rattle.air_core.specs.declared.listener.Listener.{Ghosts}
use Rattle.air_core.proofs.PlainTurns.{noise_append}
use Rattle.dep_link.specs.Target.{TargetState}
use Rattle.dep_link.specs.Payloads.{payloads}
use Rattle.dep_link.specs.Exchange.{frames_of}
use Rattle.dep_link.specs.Initiator.{InitState}
use Rattle.dep_link.specs.Asking.{Standing}
use Rattle.dep_link.specs.DepLinks.{DepSeen, StandsAt, counts_of, since, brought, dep_view, PeerOf, IsDepReady, ExchangedAs, PayloadExchanged, dep_swaps, Carried, Carries}
use Rattle.nfc_base.proofs.LinkTurns.{arrived_append}

-- the payloads that were handed over in a swap
abbrev pub handed_of : List ℕ → List FarStep → List (List ℕ)
handed_of out [] = []
handed_of out (d ∷ ds) = out ∷ []

lit_not : (b : Bool) → b ≡ true → not b ≡ false
lit_not true e = refl
lit_not false e = absurd (cc)

module _ {L : Type 0} (k : Ghosts L) (target : L → TargetState) where
  -- the events of an exchange, and what they brought
  abbrev New : DepSeen L → DepSeen L → List ℕ → List FarStep → Type 0
  New a b out did =
      (es : List Event) × (b.air.trace ≡ a.air.trace ++ es) × (payloads a.first (frames_of (arrived (since a) ++ arrived es)) ≡ brought a.first (since a) ++ handed_of out did)

  new_events : (a b : DepSeen L) (t : PeerOf k target a) (out : List ℕ) (did : List FarStep) → ExchangedAs k target a b t out did → New a b out did
  new_events a b t out [] (s, x, st) = (x.events, x.trace, x.brings)
  new_events a b t out (Stepped payload reply ∷ []) (e, (s, x, st)) = (x.events, x.trace, x.brings)
  new_events a b t out (Stopped payload ∷ []) (e, x, o) = (
    x.before.events ++ Request x.sent Pass ∷ [],
    ap (λ z. z.trace) x.left ∙ ap (λ es. es ++ Request x.sent Pass ∷ []) x.before.trace ∙ append_assoc a.air.trace x.before.events (Request x.sent Pass ∷ []),
    ap (λ fs. payloads a.first (frames_of (arrived (since a) ++ fs))) (arrived_append x.before.events (Request x.sent Pass ∷ []))
        ∙ ap (λ fs. payloads a.first (frames_of fs)) (sym (append_assoc (arrived (since a)) (arrived x.before.events) (x.sent ∷ []))) ∙ x.brings,
  )
  new_events a b t out (d ∷ d' ∷ ds) x = absurd x

  module _ (a b : DepSeen L) (out : List ℕ) (did : List FarStep) (x : PayloadExchanged k target a b (record { out = out; did = did })) where
    new : New a b out did
    new = new_events a b x.peer out did x.exchange

    since_on : since b ≡ since a ++ new.0
    since_on = ap (λ n. drop n b.air.trace) x.same.1 ∙ ap (drop a.start) new.1 ∙ drop-append-le a.start a.air.trace new.0 x.start

    pub handed_on : brought b.first (since b) ≡ brought a.first (since a) ++ handed_of out did
    handed_on =
        ap (λ n. brought n (since b)) x.same.0 ∙ ap (brought a.first) since_on ∙ ap (λ fs. payloads a.first (frames_of fs)) (arrived_append (since a) new.0) ∙ new.2

    noise_on : noise (since a) ≤ noise (since b)
    noise_on = let e = ap noise since_on in let s = noise_append (since a) new.0 in omega (arith, e, s)

    counts_on : (o : Option EndCause) → CountsOn (counts_of None) (counts_of o)
    counts_on None = record { breaks = omega arith; six_bad = omega arith; odd = omega arith }
    counts_on (Some FieldLost) = record { breaks = omega arith; six_bad = omega arith; odd = omega arith }
    counts_on (Some SixBad) = record { breaks = omega arith; six_bad = omega arith; odd = omega arith }
    counts_on (Some Protocol) = record { breaks = omega arith; six_bad = omega arith; odd = omega arith }
    counts_on (Some Memory) = record { breaks = omega arith; six_bad = omega arith; odd = omega arith }

    swaps : Swaps (dep_view a) (dep_view b) out
    swaps = record {
      begun = x.begins;
      last = x.last;
      counts = subst (λ (o : Option EndCause). CountsOn (counts_of o) (counts_of b.over)) (sym x.begins) (counts_on b.over);
      noise = noise_on;
    }

  -- no exchange of a peer in step ends by a frame that isn't allowed
  stands_never : (o : Option EndCause) (given : Option (List ℕ)) (j : InitState) (s : Standing) → StandsAt o given j s → o ≡ Some Protocol → ⊥
  stands_never None given j s st e = absurd (cc)
  stands_never (Some FieldLost) given j s st e = absurd (cc)
  stands_never (Some SixBad) given j s st e = absurd (cc)
  stands_never (Some Memory) given j s st e = absurd (cc)
  stands_never (Some Protocol) given j s st e = st

  never_odd : (a b : DepSeen L) (t : PeerOf k target a) (out : List ℕ) (did : List FarStep) → ExchangedAs k target a b t out did → b.over ≡ Some Protocol → ⊥
  never_odd a b t out [] (s, x, st) e = stands_never b.over None b.initiator s st e
  never_odd a b t out (Stepped payload reply ∷ []) (q, (s, x, st)) e = stands_never b.over (Some reply) b.initiator s st e
  never_odd a b t out (Stopped payload ∷ []) (q, x, o) e = absurd (cc)
  never_odd a b t out (d ∷ d' ∷ ds) x e = absurd x

  has_cause : (dark : Bool) (old new : Option EndCause) (c : EndCause) → old ≡ None → new ≡ Some c → (c ≡ Protocol → ⊥) → HasCause dark (counts_of old) (counts_of new) c
  has_cause dark old new FieldLost e f n = inl (rw (e, f) (omega arith))
  has_cause dark old new SixBad e f n = rw (e, f) (omega arith)
  has_cause dark old new Protocol e f n = absurd (n refl)
  has_cause dark old new Memory e f n = tt

  module _ {F : Type 0} (steps : F → List ℕ → List ℕ → F → Type 0) (stops : F → List ℕ → F → Type 0) (a b : DepSeen L) (out : List ℕ) (far after : F) where
    pub swap_done : (r : Vec ℕ) → Carries k target steps stops a b out far after (Ok r) → SwapDone steps (dep_view a) (dep_view b) out r.items far after
    swap_done r (c, over, ready) =
        let did : List FarStep = Stepped out r.items ∷ [] in
        record {
          swaps = swaps a b out did c.exchanged;
          stays = over;
          lit = lit_not b.air.lit ready.lit;
          counts = ap counts_of over ∙ sym (ap counts_of c.exchanged.begins);
          handed = handed_on a b out did c.exchanged;
          step = subst (λ (y : F). steps far out r.items y) (sym c.far_moved.2) c.far_moved.1;
        }

    pub swap_ready : (r : Vec ℕ) → Carries k target steps stops a b out far after (Ok r) → IsDepReady k target b
    swap_ready r (c, over, ready) = ready

    -- a link is never over by a frame that isn't allowed, where its peer is in step
    no_protocol : (c : EndCause) (did : List FarStep) → PayloadExchanged k target a b (record { out = out; did = did }) → b.over ≡ Some c → c ≡ Protocol → ⊥
    no_protocol c did x e p = never_odd a b x.peer out did x.exchange (e ∙ ap Some p)

    left_by : (answered : Bool) (cause : EndCause) (did : List FarStep) → Carried k target steps stops a b out far after did → AskedBy answered cause out did
        → FarLeft steps stops answered cause (brought a.first (since a)) (brought b.first (since b)) out far after
    left_by true cause did c (reply, e) =
        let P : List FarStep → Type 0 = λ ds. Carried k target steps stops a b out far after ds in
        let d : Carried k target steps stops a b out far after (Stepped out reply ∷ []) = subst P e c in
        ((reply, subst (λ (y : F). steps far out reply y) (sym d.far_moved.2) d.far_moved.1), handed_on a b out (Stepped out reply ∷ []) d.exchanged)
    left_by false cause did c (inl e) =
        let P : List FarStep → Type 0 = λ ds. Carried k target steps stops a b out far after ds in
        let d : Carried k target steps stops a b out far after [] = subst P e c in
        inl (d.far_moved, handed_on a b out [] d.exchanged ∙ append-nil (brought a.first (since a)))
    left_by false cause did c (inr (m, e)) =
        let P : List FarStep → Type 0 = λ ds. Carried k target steps stops a b out far after ds in
        let d : Carried k target steps stops a b out far after (Stopped out ∷ []) = subst P e c in
        inr (m, d.far_moved.0, handed_on a b out (Stopped out ∷ []) d.exchanged)

    pub swap_failed : (e : LinkEnd) → Carries k target steps stops a b out far after (Err e) → SwapFailed steps stops (dep_view a) (dep_view b) out e far after
    swap_failed e (did, c, asked, over, calm) =
        record {
          swaps = swaps a b out did c.exchanged;
          over = over;
          why = has_cause (not a.air.lit) a.over b.over e.cause c.exchanged.begins over (no_protocol e.cause did c.exchanged over);
          left = left_by e.answered e.cause did c asked;
        }

    pub failed_calm : (e : LinkEnd) → Carries k target steps stops a b out far after (Err e) → noise (since b) ≡ noise (since a) → IsMemory e
    failed_calm e (did, c, asked, over, calm) q = calm q

    -- by what a swap answers
    pub ok_told : (result : Result (Vec ℕ) LinkEnd) → Carries k target steps stops a b out far after result → IfOk result (λ r. SwapDone steps (dep_view a) (dep_view b) out r.items far after)
    ok_told (Ok r) c = swap_done r c
    ok_told (Err e) c = tt

    pub err_told : (result : Result (Vec ℕ) LinkEnd) → Carries k target steps stops a b out far after result → IfErr result (λ e. SwapFailed steps stops (dep_view a) (dep_view b) out e far after)
    err_told (Ok r) c = tt
    err_told (Err e) c = swap_failed e c

  -- the swaps of what shows such a link
  module _ {F C : Type 0} (steps : F → List ℕ → List ℕ → F → Type 0) (stops : F → List ℕ → F → Type 0) (see : C → DepSeen L) (p q : C) (out : List ℕ) (far after : F) where
    abbrev One : C → List ℕ → List FarStep → C → Type 0
    One x sent did y = dep_swaps k target (see x) sent did (see y)

    pub ok_swapped : (result : Result (Vec ℕ) LinkEnd) → Carries k target steps stops (see p) (see q) out far after result
        → IfOk result (λ r. Swapped One steps stops p out far q after (λ did. did ≡ Stepped out r.items ∷ []))
    ok_swapped (Ok r) (c, over, ready) = record { did = Stepped out r.items ∷ []; link = c.exchanged; far_moved = c.far_moved; tells = refl }
    ok_swapped (Err e) c = tt

    pub err_swapped : (result : Result (Vec ℕ) LinkEnd) → Carries k target steps stops (see p) (see q) out far after result
        → IfErr result (λ e. Swapped One steps stops p out far q after (AskedBy e.answered e.cause out))
    err_swapped (Ok r) c = tt
    err_swapped (Err e) (did, c, asked, over, calm) = record { did = did; link = c.exchanged; far_moved = c.far_moved; tells = asked }

    -- the same of a link that may be over
    module _ (result : Result (Vec ℕ) LinkEnd) (ready : (see p).over ≡ None → IsDepReady k target (see p))
        (does : (see p).over ≡ None → IsDepReady k target (see p) → Carries k target steps stops (see p) (see q) out far after result)
        (ended : (c : EndCause) → (see p).over ≡ Some c → (result ≡ Err (record { cause = c; answered = false })) × (q ≡ p) × (after ≡ far)) where
      by_over : (P : Result (Vec ℕ) LinkEnd → Type 0) → (Carries k target steps stops (see p) (see q) out far after result → P result) → ((e : LinkEnd) → P (Err e)) → (o : Option EndCause)
          → (see p).over ≡ o → P result
      by_over P going refused None e = going (does e (ready e))
      by_over P going refused (Some c) e = subst P (sym (ended c e).0) (refused (record { cause = c; answered = false }))

      pub ok_may : IfOk result (λ r. SwapDone steps (dep_view (see p)) (dep_view (see q)) out r.items far after)
      ok_may =
          by_over (λ x. IfOk x (λ r. SwapDone steps (dep_view (see p)) (dep_view (see q)) out r.items far after)) (ok_told steps stops (see p) (see q) out far after result) (λ e. tt) (see p).over refl

      pub swapped_may : IfOk result (λ r. Swapped One steps stops p out far q after (λ did. did ≡ Stepped out r.items ∷ []))
      swapped_may = by_over (λ x. IfOk x (λ r. Swapped One steps stops p out far q after (λ did. did ≡ Stepped out r.items ∷ []))) (ok_swapped result) (λ e. tt) (see p).over refl

      calm_of : (x : Result (Vec ℕ) LinkEnd) → Carries k target steps stops (see p) (see q) out far after x → noise (since (see q)) ≡ noise (since (see p)) → IfErr x IsMemory
      calm_of (Ok r) c e = tt
      calm_of (Err f) c e = failed_calm steps stops (see p) (see q) out far after f c e

      pub calm_may : (see p).over ≡ None → noise (since (see q)) ≡ noise (since (see p)) → IfErr result IsMemory
      calm_may none e = calm_of result (does none (ready none)) e

      ready_of : (x : Result (Vec ℕ) LinkEnd) → Carries k target steps stops (see p) (see q) out far after x → (see q).over ≡ None → IsDepReady k target (see q)
      ready_of (Ok r) c e = swap_ready steps stops (see p) (see q) out far after r c
      ready_of (Err f) (did, c, asked, over, calm) e = absurd cc

      pub ready_may : (see q).over ≡ None → IsDepReady k target (see q)
      ready_may = by_start (see p).over refl
        where
          by_start : (o : Option EndCause) → (see p).over ≡ o → (see q).over ≡ None → IsDepReady k target (see q)
          by_start None e n = ready_of result (does e (ready e)) n
          by_start (Some c) e n = absurd (let same : (see q).over ≡ (see p).over = ap (λ (x : C). (see x).over) (ended c e).1 in cc)

      pub refused_may : (c : EndCause) → (see p).over ≡ Some c → SwapRefused (dep_view (see p)) (dep_view (see q)) c far after result × (q ≡ p)
      refused_may c e = let a = ended c e in (record { fault = a.0; same = ap (λ (x : C). dep_view (see x)) a.1; rests = a.2 }, a.1)
