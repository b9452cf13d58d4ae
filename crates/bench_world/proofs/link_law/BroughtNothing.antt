-- While a device is selected and ATR_REQ is asked, no payload comes to a target: no request there reads as a frame of
-- NFC-DEP that carries one.
use Rattle.std.proofs.Common.{◌≡◌, ℕ, ◌==◌, ◌&&◌, List, [], ◌∷◌, ◌++◌, if◌then◌else◌, Option, Some, None, Ok, Err, inl, inr, refl, sym, ◌∙◌, ap, subst}
use Rattle.std.specs.List.{AllByRecursion}
use Rattle.nfc_base.specs.Choosing.{Choosing}
use Rattle.nfc_base.specs.LinkTurns.{arrived}
use Rattle.nfc_base.specs.Signal.{Signal, is_nfc_a}
use Rattle.nfc_base.specs.declared.event.Event.{Event}
use Rattle.nfc_base.specs.declared.event.Event.TheVariants.{Reset, Request, Answer, Clash}
use Rattle.nfc_base.specs.declared.event.Fate.TheVariants.{Pass, Damage, Lose, Break}
use Rattle.nfc_base.specs.declared.frame.Tech.TheVariants.{V}
use Rattle.air_core.specs.Conversation.{Note, Asks, EachDue}
use Rattle.air_core.proofs.DueWaits.{due_all}
use Rattle.air_core.proofs.Following.{over_is_no_request}
use Rattle.dep_pdu.specs.declared.frame.DepFrame.{DepFrame}
use Rattle.dep_pdu.specs.declared.refusal.DepRefusal.{DepRefusal}
use Rattle.dep_pdu.specs.Reading.{frame_of, spelled_frame, unless}
use Rattle.dep_pdu.specs.Refusal.{dep_refusal, head}
use Rattle.dep_link.specs.Activating.{atr_frame}
use Rattle.dep_link.specs.DepLinks.{brought}
use Rattle.dep_link.specs.Exchange.{before_frames, frames_of}
use Rattle.dep_link.specs.Frames.{spelled}
use Rattle.dep_link.specs.Payloads.{Cut, begins, cut_by}
use Rattle.llcp_link.specs.Running.{AreBytes}
use Rattle.snep_core.specs.Accord.{PeerState}
use Rattle.link_calls.specs.Arriving.{Arrives, ArrivesCut, IsCountedTo, all_answered}
use Rattle.nfca_poll.specs.Enquiry.{enquiring}
use Rattle.nfca_poll.specs.Rounds.{device_of, picking}
use Rattle.bench_script.specs.declared.command.DeviceId.{DeviceId}
use Rattle.bench_script.specs.declared.command.DeviceId.TheVariants as ids
use Rattle.bench_devices.specs.declared.polling.SeenKind.{SeenKind}
use Rattle.bench_devices.specs.declared.polling.SeenKind.TheVariants as seen
use Rattle.bench_devices.specs.Keeping.{EachAsked}
use Rattle.bench_devices.specs.Opening.{linking, then_opens}
use Rattle.bench_devices.specs.laws.PeerUpper.{no_frame}
use Rattle.bench_devices.specs.Polling as polls
use Rattle.bench_devices.specs.Polling.{Followed, Told, asks, follows, seen_kind, selecting}
use Rattle.bench_devices.proofs.finding.Following.{asks_same, kind_asks}
use Rattle.bench_devices.proofs.finding.Searching.{IsCall, asks_calls, search_closes}
use Rattle.bench_devices.proofs.finding.SelectingKept.{due_asked}
use Rattle.bench_devices.proofs.finding.SelectingV.{next_inventory}
use Rattle.bench_world.proofs.lines.CountedOn.{brought_on}

-- a request that brings nothing: what was cut so far stays
abbrev pub BringsNothing : Signal → Type 0
BringsNothing f = (c : Cut) → cut_by c (before_frames (spelled f) []) ≡ c

no_dep : (f : Signal) → spelled f ≡ None → BringsNothing f
no_dep f none c = ap (λ o. cut_by c (before_frames o [])) none

cut_first : (o : Option DepFrame) (vs : List DepFrame) (c : Cut) → cut_by c (before_frames o vs) ≡ cut_by (cut_by c (before_frames o [])) vs
cut_first None vs c = refl
cut_first (Some v) vs c = refl

cut_stays : (es : List Event) → EachAsked BringsNothing es → (c : Cut) → cut_by c (frames_of (arrived es)) ≡ c
cut_stays [] h c = refl
cut_stays (Reset ∷ es) h c = cut_stays es h c
cut_stays (Request f Pass ∷ es) h c =
    cut_first (spelled f) (frames_of (arrived es)) c ∙ ap (λ d. cut_by d (frames_of (arrived es))) (h.0 c) ∙ cut_stays es h.1 c
cut_stays (Request f Damage ∷ es) h c = cut_stays es h.1 c
cut_stays (Request f Lose ∷ es) h c = cut_stays es h.1 c
cut_stays (Request f Break ∷ es) h c = cut_stays es h.1 c
cut_stays (Answer g x ∷ es) h c = cut_stays es h c
cut_stays (Clash g x ∷ es) h c = cut_stays es h c

-- so nothing is brought by such requests, and behind them all is counted as from the beginning
pub nothing_brought : (n : ℕ) (es : List Event) → EachAsked BringsNothing es → (brought n es ≡ []) × IsCountedTo n es n
nothing_brought n es h =
    let none : brought n es ≡ [] = ap (λ (c : Cut). c.payloads) (cut_stays es h (begins n)) in
    (none, cut_stays es h (begins n) ∙ ap (λ ps. let c : Cut = record { next = n; chain = []; payloads = ps } in c) (sym none))

pub brought_behind : (n : ℕ) (xs ys : List Event) → EachAsked BringsNothing xs → brought n (xs ++ ys) ≡ brought n ys
brought_behind n xs ys h =
    let nothing = nothing_brought n xs h in
    brought_on n n xs ys nothing.1 ∙ ap (λ ps. ps ++ brought n ys) nothing.0

-- ATR_REQ, whatever it says
pub atr_brings_nothing : (general : List ℕ) → BringsNothing (atr_frame general)
atr_brings_nothing general c = by (dep_refusal (atr_frame general).bytes)
  where
    by : (r : Option DepRefusal) → cut_by c (before_frames (unless r (frame_of (head (atr_frame general).bytes) (atr_frame general).bytes)) []) ≡ c
    by None = refl
    by (Some r) = refl

-- what selecting a device asks
pub select_brings_nothing : (id : DeviceId) (ns : List Note) (f : Signal) → asks (selecting id ns) ≡ Asks f → BringsNothing f
select_brings_nothing (ids.A i) ns f e =
    let same : asks (selecting (ids.A i) ns) ≡ enquiring (picking i) ns = kind_asks seen_kind (follows (picking i) ns) ∙ asks_same (picking i) (search_closes (device_of i)) ns in
    let call : IsCall f = asks_calls (device_of i) ns f (sym same ∙ e) in
    no_dep f (no_frame f call.begins)
select_brings_nothing (ids.V i) ns f e =
    let tech : f.tech ≡ V = ap (λ (g : Signal). g.tech) (next_inventory i ns f e) in
    no_dep f (ap (λ t. if is_nfc_a t && (f.tail == 0) then spelled_frame f.bytes else None) tech)

-- and what opening a link to it asks
opens_by : (id : DeviceId) (general : List ℕ) (p : Followed SeenKind) (f : Signal) → (asks p ≡ Asks f → BringsNothing f) → then_opens general p ≡ Asks f → BringsNothing f
opens_by id general (polls.Asks n) f first e = first e
opens_by id general (Told (Ok seen.T2) ks) f first e = absurd (over_is_no_request f e)
opens_by id general (Told (Ok seen.T4) ks) f first e = absurd (over_is_no_request f e)
opens_by id general (Told (Ok seen.T5) ks) f first e = absurd (over_is_no_request f e)
opens_by id general (Told (Ok seen.Peer) ks) f first e = due_all BringsNothing (atr_frame general ∷ []) (atr_brings_nothing general, tt) ks f e
opens_by id general (Told (Err x) ks) f first e = absurd (over_is_no_request f e)

pub open_brings_nothing : (id : DeviceId) (general : List ℕ) (ns : List Note) (f : Signal) → linking id general ns ≡ Asks f → BringsNothing f
open_brings_nothing id general ns f e = opens_by id general (selecting id ns) f (λ q. select_brings_nothing id ns f q) e

-- So while a link is opened nothing is brought to its peer.
pub opening_brings_nothing : (id : DeviceId) (general : List ℕ) (es : List Event) → EachDue (linking id general) [] es → EachAsked BringsNothing es
opening_brings_nothing id general es each = due_asked BringsNothing (linking id general) (open_brings_nothing id general) [] es each

-- What arrived behind such requests arrived in all of them.
pub arrives_behind : (n : ℕ) (xs ys : List Event) (far after : Choosing PeerState) → EachAsked BringsNothing xs → Arrives n ys far after → Arrives n (xs ++ ys) far after
arrives_behind n xs ys far after h came =
    let same : brought n (xs ++ ys) ≡ brought n ys = brought_behind n xs ys h in
    record { bytes = subst (AllByRecursion AreBytes) (sym same) came.bytes; after_is = came.after_is ∙ ap (λ ps. all_answered ps far) (sym same) }

pub arrives_cut_behind : (n : ℕ) (xs ys : List Event) (far after : Choosing PeerState) → EachAsked BringsNothing xs → ArrivesCut n ys far after → ArrivesCut n (xs ++ ys) far after
arrives_cut_behind n xs ys far after h (inl came) = inl (arrives_behind n xs ys far after h came)
arrives_cut_behind n xs ys far after h (inr stop) =
    let same : brought n (xs ++ ys) ≡ brought n ys = brought_behind n xs ys h in
    inr (record { bytes = subst (AllByRecursion AreBytes) (sym same) stop.bytes; before = stop.before; last = stop.last; split = same ∙ stop.split; stops = stop.stops })
