-- A link that isn't over rests between two calls: it is open again.
use Rattle.std.proofs.Common.{◌≡◌, ◌==◌, ℕ, ◌+◌, List, [], ◌∷◌, ◌++◌, drop, Bool, true, false, if◌then◌else◌, Option, Some, None, refl, sym, ◌∙◌, ap, subst}
use Rattle.std.specs.Prelude.{nat_lt}
use Rattle.nfc_base.specs.Signal.{Signal}
use Rattle.nfc_base.specs.Links.{Stepped}
use Rattle.nfc_base.specs.declared.carrier.EndCause.{EndCause}
use Rattle.nfc_base.specs.declared.event.Heard.{Heard}
use Rattle.nfc_base.specs.declared.event.Heard.TheVariants.{Whole, Collided, Damaged, Silent}
use Rattle.air_core.specs.Conversation.{Note, Lit, Got, Lost}
use Rattle.air_core.specs.declared.listener.Listener.{Ghosts}
use Rattle.dep_pdu.specs.declared.frame.DepFrame.{DepFrame}
use Rattle.dep_pdu.specs.declared.frame.DepFrame.TheVariants.{AtrReq, AtrRes, Info, Ack, Nack, Attention, Extend, DslReq, DslRes, RlsReq, RlsRes}
use Rattle.dep_link.specs.declared.initiator.Phase.{Phase}
use Rattle.dep_link.specs.declared.initiator.Phase.TheVariants.{Asked, Nacked, Attending, Free, EndedSixBad, EndedProtocol}
use Rattle.dep_link.specs.Frames.{spelled, after}
use Rattle.dep_link.specs.Target.{TargetState}
use Rattle.dep_link.specs.Payloads.{Cut}
use Rattle.dep_link.specs.Sizes.{limit}
use Rattle.nfc_base.specs.Pieces.{Core, most_bads, turned, more_follows, is_refused, may_extend}
use Rattle.dep_link.specs.Initiator.{InitState, InitMove, Next, Asks, Gives, GivesUp, Refuses, sends, refuses, bad, received, brought, answered, waited, attending, whole, damaged, silent, heard_next}
use Rattle.dep_link.specs.Initiator.{framed_next}
use Rattle.dep_link.specs.Asking.{Standing, Waits, Rests, Broken, Astray, asks, goes_by, noted, stand}
use Rattle.dep_link.specs.DepLinks.{DepSeen, PayloadExchanged, StandsAt, IsDepReady, IsInStep, over_at}

-- an initiator that gives a reply is free then
abbrev Frees : InitMove → Type 0
Frees m = (xs : List ℕ) → m.does ≡ Gives xs → m.state.phase ≡ Free

if_frees : (b : Bool) (m n : InitMove) → Frees m → Frees n → Frees (if b then m else n)
if_frees true m n p q = p
if_frees false m n p q = q

sends_frees : (i : InitState) (c : Core) (p : Phase) (n : ℕ) → Frees (sends i c p n)
sends_frees i c p n = λ xs e. absurd cc

refuses_frees : (i : InitState) → Frees (refuses i)
refuses_frees i = λ xs e. absurd cc

bad_frees : (i : InitState) (p : Phase) → Frees (bad i p)
bad_frees i p =
    if_frees (nat_lt i.bads most_bads) (sends i i.core p (i.bads + 1)) (record { state = record i { phase = EndedSixBad }; does = GivesUp }) (sends_frees i i.core p (i.bads + 1)) (λ xs e. absurd cc)

received_frees : (i : InitState) (more : Bool) (xs : List ℕ) → Frees (received i more xs)
received_frees i true xs = sends_frees i (turned i.core (after i.core.number) [] true xs) Asked 0
received_frees i false xs = λ ys e. refl

answered_frees : (i : InitState) (v : DepFrame) → Frees (answered i v)
answered_frees i (Ack true pni) =
    let c : Core = turned i.core (after i.core.number) (drop i.core.most i.core.rest) false i.core.got in
    if_frees (if more_follows i.core then pni == i.core.number else false) (sends i c Asked 0) (refuses i) (sends_frees i c Asked 0) (refuses_frees i)
answered_frees i (Ack false pni) = refuses_frees i
answered_frees i (Info true more pni x) =
    let xs : List ℕ = i.core.got ++ x.items in
    if_frees (if more_follows i.core then false else pni == i.core.number) (brought i more x.items) (refuses i)
    (if_frees (is_refused limit more x.items xs) (refuses i) (received i more xs) (refuses_frees i) (received_frees i more xs)) (refuses_frees i)
answered_frees i (Info false more pni x) = refuses_frees i
answered_frees i (Extend true times) =
    let c : Core = record i.core { extension = Some times; granted = i.core.granted + 1 } in
    if_frees (may_extend i.core times) (sends i c Asked i.bads) (refuses i) (sends_frees i c Asked i.bads) (refuses_frees i)
answered_frees i (Extend false times) = refuses_frees i
answered_frees i (AtrReq id lr general) = refuses_frees i
answered_frees i (AtrRes id timeout lr general) = refuses_frees i
answered_frees i (Nack pni) = refuses_frees i
answered_frees i (Attention up) = refuses_frees i
answered_frees i DslReq = refuses_frees i
answered_frees i DslRes = refuses_frees i
answered_frees i RlsReq = refuses_frees i
answered_frees i RlsRes = refuses_frees i

waited_frees : (i : InitState) (o : Option DepFrame) → Frees (waited i o)
waited_frees i None = refuses_frees i
waited_frees i (Some v) = answered_frees i v

attending_frees : (i : InitState) (o : Option DepFrame) → Frees (attending i o)
attending_frees i None = refuses_frees i
attending_frees i (Some (Attention true)) = sends_frees i i.core Asked i.bads
attending_frees i (Some (Attention false)) = refuses_frees i
attending_frees i (Some (Ack up pni)) = refuses_frees i
attending_frees i (Some (Info up more pni x)) = refuses_frees i
attending_frees i (Some (Extend up times)) = refuses_frees i
attending_frees i (Some (AtrReq id lr general)) = refuses_frees i
attending_frees i (Some (AtrRes id timeout lr general)) = refuses_frees i
attending_frees i (Some (Nack pni)) = refuses_frees i
attending_frees i (Some DslReq) = refuses_frees i
attending_frees i (Some DslRes) = refuses_frees i
attending_frees i (Some RlsReq) = refuses_frees i
attending_frees i (Some RlsRes) = refuses_frees i

whole_frees : (i : InitState) (p : Phase) (f : Signal) → Frees (whole i p f)
whole_frees i Asked f = waited_frees i (spelled f)
whole_frees i Nacked f = waited_frees i (spelled f)
whole_frees i Attending f = attending_frees i (spelled f)
whole_frees i Free f = refuses_frees i
whole_frees i EndedSixBad f = λ xs e. absurd cc
whole_frees i EndedProtocol f = λ xs e. absurd cc

damaged_frees : (i : InitState) (p : Phase) → Frees (damaged i p)
damaged_frees i Asked = bad_frees i Nacked
damaged_frees i Nacked = bad_frees i Nacked
damaged_frees i Attending = bad_frees i Attending
damaged_frees i Free = bad_frees i Free
damaged_frees i EndedSixBad = λ xs e. absurd cc
damaged_frees i EndedProtocol = λ xs e. absurd cc

silent_frees : (i : InitState) (p : Phase) → Frees (silent i p)
silent_frees i Asked = bad_frees i Attending
silent_frees i Nacked = bad_frees i Attending
silent_frees i Attending = bad_frees i Attending
silent_frees i Free = bad_frees i Free
silent_frees i EndedSixBad = λ xs e. absurd cc
silent_frees i EndedProtocol = λ xs e. absurd cc

heard_frees : (i : InitState) (h : Heard) → Frees (heard_next i h)
heard_frees i (Whole f) = whole_frees i i.phase f
heard_frees i (Collided f) = damaged_frees i i.phase
heard_frees i Damaged = damaged_frees i i.phase
heard_frees i Silent = silent_frees i i.phase

-- so where it rests
abbrev IsFreeAt : Standing → Type 0
IsFreeAt (Waits i f) = Unit {0}
IsFreeAt (Rests i reply) = i.phase ≡ Free
IsFreeAt (Broken c) = Unit {0}
IsFreeAt Astray = Unit {0}

goes_free : (i : InitState) (d : Next) → ((xs : List ℕ) → d ≡ Gives xs → i.phase ≡ Free) → IsFreeAt (goes_by i (framed_next d))
goes_free i (Asks v) free = tt
goes_free i (Gives xs) free = free xs refl
goes_free i GivesUp free = tt
goes_free i Refuses free = tt

noted_free : (s : Standing) (n : Note) → IsFreeAt (noted s n)
noted_free (Waits i f) Lit = tt
noted_free (Waits i f) Lost = tt
noted_free (Waits i f) (Got h) = goes_free (heard_next i h).state (heard_next i h).does (heard_frees i h)
noted_free (Rests i reply) n = tt
noted_free (Broken c) n = tt
noted_free Astray n = tt

stand_free : (s : Standing) (ns : List Note) → IsFreeAt s → IsFreeAt (stand s ns)
stand_free s [] free = free
stand_free s (n ∷ ns) free = stand_free (noted s n) ns (noted_free s n)

free_open : (p : Phase) → p ≡ Free → over_at p true ≡ None
free_open Free e = refl
free_open Asked e = refl
free_open Nacked e = refl
free_open Attending e = refl
free_open EndedSixBad e = absurd cc
free_open EndedProtocol e = absurd cc

pub rests_open : (i j : InitState) (out reply : List ℕ) (ns : List Note) → stand (asks i out) ns ≡ Rests j reply → over_at j.phase true ≡ None
rests_open i j out reply ns e = free_open j.phase (subst IsFreeAt e (stand_free (asks i out) ns tt))

module _ {L : Type 0} (k : Ghosts L) (target : L → TargetState) where
  -- a swap that was answered, on a link that isn't over then
  pub swap_open : (a b : DepSeen L) (out reply : List ℕ) → PayloadExchanged k target a b (record { out = out; did = Stepped out reply ∷ [] }) → b.over ≡ None → over_at b.initiator.phase true ≡ None
  swap_open a b out reply x goes =
      let turns = x.exchange.1 in
      let e : turns.0 ≡ Rests b.initiator reply = subst (λ (o : Option EndCause). StandsAt o (Some reply) b.initiator turns.0) goes turns.2 in
      rests_open a.initiator b.initiator out reply turns.1.notes (turns.1.stands ∙ e)

  -- a link that is ready is in step with its peer
  pub in_step : (p : DepSeen L) → IsDepReady k target p → IsInStep k target p.air p.initiator
  in_step p r =
      let n : ℕ = p.initiator.core.number in
      let c : ℕ → List ℕ → Cut = λ next chain. record { next = next; chain = chain; payloads = [] } in (
        r.lit,
        record {
          place = r.peer.place;
          listener = r.peer.listener;
          selected = r.peer.selected;
          alone = r.peer.alone;
          is = r.peer.is;
          step = r.peer.step;
          cut = ap (λ z. c z []) (sym r.peer.step.expects) ∙ ap (λ z. c (target r.peer.listener).expected z) (sym r.peer.step.no_chain);
        },
      )
