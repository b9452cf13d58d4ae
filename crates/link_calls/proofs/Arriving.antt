-- What arrives at a link's peer in a call, and what its end does by that.
use Rattle.std.proofs.Common.{◌≡◌, ◌≤◌, ℕ, List, [], ◌∷◌, ◌++◌, length, drop, Option, refl, sym, ◌∙◌, ap, subst, append-nil, append_assoc, true}
use Rattle.std.specs.List.{AllByRecursion}
use Rattle.std.proofs.lemmas.List.{drop-append-le}
use Rattle.std.proofs.Math.Seq.{drop-length}
use Rattle.nfc_base.specs.Choosing.{Choosing, first_number, later_numbers}
use Rattle.nfc_base.specs.Links.{FarStep, Stepped, Stopped, FarMoved}
use Rattle.nfc_base.specs.LinkTurns.{arrived}
use Rattle.nfc_base.proofs.LinkTurns.{arrived_append}
use Rattle.nfc_base.specs.declared.event.Event.{Event}
use Rattle.nfc_base.specs.declared.event.Event.TheVariants.{Request, Answer, Clash}
use Rattle.nfc_base.specs.declared.event.Fate.{Fate}
use Rattle.nfc_base.specs.declared.event.Fate.TheVariants.{Pass, Damage, Lose, Break}
use Rattle.nfc_base.specs.declared.event.Heard.{Heard}
use Rattle.air_core.specs.Conversation.{first_fate, later_fates}
use Rattle.air_core.specs.Joint.{Joint, Nothing, Single, Clashing, joint}
use Rattle.air_core.specs.Turn.{Air, TurnBy, TurnIs, after_event}
use Rattle.air_core.specs.Turn as turn
use Rattle.air_core.specs.World.{Machine}
use Rattle.air_core.specs.declared.listener.Listener.{Ghosts}
use Rattle.dep_pdu.specs.declared.frame.DepFrame.TheVariants.{RlsReq}
use Rattle.dep_link.specs.Target.{TargetState}
use Rattle.dep_link.specs.Initiator.{InitState}
use Rattle.dep_link.specs.Payloads.{Cut, begins, cut_by}
use Rattle.dep_link.specs.Exchange.{before_frames, frames_of}
use Rattle.dep_link.specs.DepLinks.{DepSeen, PeerOf, brought, first_seen, since}
use Rattle.dep_link.specs.Releasing.{rls_frame}
use Rattle.dep_link.proofs.Carrying.{cut_then}
use Rattle.dep_link.proofs.Wire.{frames_append, written_read}
use Rattle.llcp_link.specs.Running.{AreBytes}
use Rattle.llcp_link.specs.Counting.{AnswersCounted, StopsCounted}
use Rattle.snep_core.specs.Accord.{PeerState}
use Rattle.snep_core.specs.Calling.{payloads}
use Rattle.snep_core.specs.Server.{serving}
use Rattle.link_calls.specs.Arriving.{Arrives, IsCountedTo, StopsAtLast, all_answered, answered}

-- whole steps of a far end, with payloads of bytes
abbrev pub AreWhole : List FarStep → Type 0
AreWhole [] = Unit {0}
AreWhole (Stepped payload reply ∷ did) = AreBytes payload × AreWhole did
AreWhole (Stopped payload ∷ did) = ⊥

-- an end answered these payloads, which are bytes
pub record Ran (ps : List (List ℕ)) (far after : Choosing PeerState) : Type 0 where
  pub bytes : AllByRecursion AreBytes ps
  pub after_is : after ≡ all_answered ps far

pub ran : (did : List FarStep) → AreWhole did → (far after : Choosing PeerState) → FarMoved (AnswersCounted serving) (StopsCounted serving) did far after → Ran (payloads did) far after
ran [] whole far after moved = record { bytes = tt; after_is = moved }
ran (Stepped payload reply ∷ did) (bytes, whole) far after (mid, step, moved) =
    let more = ran did whole mid after moved in
    let C : PeerState → List ℕ → Choosing PeerState = λ e ns. record { end = e; numbers = ns } in
    let next : mid ≡ C (answered payload (first_number far.numbers) far.end) (later_numbers far.numbers) =
    ap (λ e. C e mid.numbers) step.answers.gives.left ∙ ap (C (answered payload (first_number far.numbers) far.end)) step.numbers in
    record { bytes = (bytes, more.bytes); after_is = more.after_is ∙ ap (all_answered (payloads did)) next }
ran (Stopped payload ∷ did) whole far after moved = absurd whole

bytes_then : (ps qs : List (List ℕ)) → AllByRecursion AreBytes ps → AllByRecursion AreBytes qs → AllByRecursion AreBytes (ps ++ qs)
bytes_then [] qs h k = k
bytes_then (p ∷ ps) qs h k = (h.0, bytes_then ps qs h.1 k)

-- payloads behind others
pub answered_then : (ps qs : List (List ℕ)) (far : Choosing PeerState) → all_answered (ps ++ qs) far ≡ all_answered qs (all_answered ps far)
answered_then [] qs far = refl
answered_then (p ∷ ps) qs far = answered_then ps qs (record { end = answered p (first_number far.numbers) far.end; numbers = later_numbers far.numbers })

pub ran_then : (ps qs : List (List ℕ)) (far mid after : Choosing PeerState) → Ran ps far mid → Ran qs mid after → Ran (ps ++ qs) far after
ran_then ps qs far mid after r s = record {
  bytes = bytes_then ps qs r.bytes s.bytes;
  after_is = s.after_is ∙ ap (all_answered qs) r.after_is ∙ sym (answered_then ps qs far);
}

-- more events, behind those that came
pub cut_more : (first : ℕ) (xs ys : List Event) → cut_by (begins first) (frames_of (arrived (xs ++ ys))) ≡ cut_by (cut_by (begins first) (frames_of (arrived xs))) (frames_of (arrived ys))
cut_more first xs ys =
    ap (λ fs. cut_by (begins first) (frames_of fs)) (arrived_append xs ys) ∙ ap (cut_by (begins first)) (frames_append (arrived xs) (arrived ys))
    ∙ cut_then (begins first) (frames_of (arrived xs)) (frames_of (arrived ys))

module _ {L : Type 0} (k : Ghosts L) (target : L → TargetState) where
  -- the peer of a link stands where the frames are counted to
  pub counted_to : (p : DepSeen L) → PeerOf k target p → IsCountedTo p.first (since p) p.initiator.core.number
  counted_to p t =
      let ps : List (List ℕ) = brought p.first (since p) in
      let c : ℕ → List ℕ → Cut = λ n chain. record { next = n; chain = chain; payloads = ps } in
      t.cut ∙ ap (λ n. c n (target t.listener).chain) t.step.expects ∙ ap (c p.initiator.core.number) t.step.no_chain

  module _ (old : Air L) (i : InitState) (p : DepSeen L) (first : p.first ≡ i.core.number) (start : p.start ≡ length old.trace) where
    since_is : since p ≡ drop (length old.trace) p.air.trace
    since_is = ap (λ n. drop n p.air.trace) start

    pub counted_so : PeerOf k target p → IsCountedTo i.core.number (drop (length old.trace) p.air.trace) p.initiator.core.number
    counted_so t =
        let P : ℕ → List Event → Type 0 = λ n es. IsCountedTo n es p.initiator.core.number in
        subst (λ n. P n (drop (length old.trace) p.air.trace)) first (subst (P p.first) since_is (counted_to p t))

    pub arrives_so : (ps : List (List ℕ)) (far after : Choosing PeerState) → brought p.first (since p) ≡ ps → Ran ps far after → Arrives i.core.number (drop (length old.trace) p.air.trace) far after
    arrives_so ps far after handed r =
        let same : ps ≡ brought i.core.number (drop (length old.trace) p.air.trace) = sym handed ∙ ap (λ n. brought n (since p)) first ∙ ap (brought i.core.number) since_is in
        record { bytes = subst (AllByRecursion AreBytes) same r.bytes; after_is = r.after_is ∙ ap (λ xs. all_answered xs far) same }

    -- as the last of them came the end stopped
    pub stops_so : (ps : List (List ℕ)) (out : List ℕ) (far half after : Choosing PeerState) → brought p.first (since p) ≡ ps ++ out ∷ [] → Ran ps far half → AreBytes out
        → StopsCounted serving half out after
        → StopsAtLast i.core.number (drop (length old.trace) p.air.trace) far after
    stops_so ps out far half after handed r bytes stops =
        let same : ps ++ out ∷ [] ≡ brought i.core.number (drop (length old.trace) p.air.trace) = sym handed ∙ ap (λ n. brought n (since p)) first ∙ ap (brought i.core.number) since_is in
        record {
          bytes = subst (AllByRecursion AreBytes) same (bytes_then ps (out ∷ []) r.bytes (bytes, tt));
          before = ps;
          last = out;
          split = sym same;
          stops = subst (λ h. StopsCounted serving h out after) r.after_is stops;
        }

  -- nothing arrived on a link that was just made
  pub none_yet : (a : DepSeen L) (old : Air L) (i : InitState) → a ≡ first_seen old i → brought a.first (since a) ≡ []
  none_yet a old i is =
      ap (λ (p : DepSeen L). brought p.first (since p)) is ∙ ap (brought i.core.number) (drop-length old.trace)

-- RLS_REQ brings nothing, whatever comes back of it.
abbrev pub BringNothing : List Event → Type 0
BringNothing es = (c : Cut) → cut_by c (frames_of (arrived es)) ≡ c

record Behind {L : Type 0} (old new : Air L) : Type 0 where
  pub events : List Event
  pub trace : new.trace ≡ old.trace ++ events
  pub nothing : BringNothing events

rls_nothing : (c : Cut) → cut_by c (frames_of (rls_frame ∷ [])) ≡ c
rls_nothing c = ap (λ o. cut_by c (before_frames o [])) (written_read RlsReq tt)

module _ {L A : Type 0} (m : Machine L) (restarts : A → List ℕ → A → Type 0) (steps : A → List ℕ → List ℕ → A → Type 0) where
  brought_back : (a : Air L) (j : Joint) (y : Fate) → (es : List Event) × ((turn.brought m a j y).trace ≡ a.trace ++ es) × (arrived es ≡ [])
  brought_back a Nothing y = ([], sym (append-nil a.trace), refl)
  brought_back a (Single g) y = (Answer g y ∷ [], refl, refl)
  brought_back a (Clashing g) y = (Clash g y ∷ [], refl, refl)

  turn_by : (x : Fate) (old new : Air L) (far after : A) (heard : Option Heard) → TurnBy m restarts steps x old rls_frame far heard new after → Behind old new
  turn_by Pass old new far after heard t =
      let mid : Air L = after_event old (Request rls_frame Pass) (later_fates old.fates) (record { lit = true; listeners = t.listeners }) in
      let back = brought_back mid (joint t.answers) (first_fate (later_fates old.fates)) in
      record {
        events = Request rls_frame Pass ∷ back.0;
        trace = ap (λ (a : Air L). a.trace) t.left ∙ back.1 ∙ append_assoc old.trace (Request rls_frame Pass ∷ []) back.0;
        nothing = λ c. ap (λ fs. cut_by c (frames_of (rls_frame ∷ fs))) back.2 ∙ rls_nothing c;
      }
  turn_by Damage old new far after heard t = record { events = Request rls_frame Damage ∷ []; trace = ap (λ (a : Air L). a.trace) t.left; nothing = λ c. refl }
  turn_by Lose old new far after heard t = record { events = Request rls_frame Lose ∷ []; trace = ap (λ (a : Air L). a.trace) t.left; nothing = λ c. refl }
  turn_by Break old new far after heard t = record { events = Request rls_frame Break ∷ []; trace = ap (λ (a : Air L). a.trace) t.left; nothing = λ c. refl }

  pub release_brings : (n : ℕ) (start : ℕ) (old new : Air L) (far after : A) (heard : Option Heard) → start ≤ length old.trace → TurnIs m restarts steps old rls_frame far heard new after
      → brought n (drop start new.trace) ≡ brought n (drop start old.trace)
  release_brings n start old new far after heard within t =
      let b = turn_by (first_fate old.fates) old new far after heard t.by in
      let split : drop start new.trace ≡ drop start old.trace ++ b.events = ap (drop start) b.trace ∙ drop-append-le start old.trace b.events within in
      ap (brought n) split ∙ ap (λ (c : Cut). c.payloads) (cut_more n (drop start old.trace) b.events ∙ b.nothing (cut_by (begins n) (frames_of (arrived (drop start old.trace)))))
