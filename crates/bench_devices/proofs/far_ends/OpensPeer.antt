-- What opening a link to the selected peer comes to.
use Rattle.std.proofs.Common.{◌≡◌, inl, inr, ℕ, ◌<◌, ◌≤◌, List, [], ◌∷◌, ◌++◌, length, Bool, true, false, if◌then◌else◌, Some, None, refl, sym, ◌∙◌, ap, subst, arith}
use Rattle.std.specs.Prelude.{Result, Ok, Err}
use Rattle.std.specs.Result.{IfOk}
use Rattle.std.proofs.lemmas.Bool.{cases_lt}
use Rattle.std.proofs.lemmas.List.{append_cancel_left}
use Rattle.nfc_base.specs.Signal.{Signal, whole_a}
use Rattle.nfc_base.specs.Far.{Untouched, Hands}
use Rattle.nfc_base.specs.LinkTurns.{bad_receptions}
use Rattle.nfc_base.specs.Trace.{breaks, noise}
use Rattle.nfc_base.specs.declared.event.Event.{Event}
use Rattle.nfc_base.specs.declared.carrier.EndCause.{EndCause}
use Rattle.nfc_base.specs.declared.carrier.EndCause.TheVariants.{FieldLost, SixBad, Protocol, Memory}
use Rattle.nfc_base.specs.declared.tag_link.AskFault.TheVariants as faults
use Rattle.air_core.specs.World.{World, hears}
use Rattle.air_core.specs.Turn.{Air, moment, world, HearSome}
use Rattle.air_core.specs.Conversation.{Moment, Note, Asks, Going, AreTurns, with_events}
use Rattle.air_core.specs.Speaking.{Speaks, LeavesOff}
use Rattle.air_core.specs.Waits.{Standing, Asking, Broken, stand}
use Rattle.air_core.specs.PlainLinks.{at_place}
use Rattle.air_core.proofs.PlainStores.{place_is}
use Rattle.air_core.proofs.DueWaits.{due_all}
use Rattle.air_core.proofs.BrokenWaits.{lost_ends, stays_lit}
use Rattle.air_core.proofs.LostField.{HasLost, going_lost}
use Rattle.arrayvec.specs.ArrayVec.{ArrayVec}
use Rattle.dep_link.specs.Answering.{answering, answering_air}
use Rattle.dep_link.specs.Initiator.{InitState, waiting}
use Rattle.dep_link.specs.Target.{TargetState, TargetTurn, target_table, framed, heeded}
use Rattle.dep_link.specs.Asking.{HasPeer}
use Rattle.dep_link.specs.Activating.{atr_req, atr_frame, HasTarget, AtrSent, IsActivated, AtrEnds}
use Rattle.dep_link.specs.AnyTarget.{AnswersAtr, AsksAtr, atr_next}
use Rattle.dep_link.specs.Peers.{target_use}
use Rattle.dep_link.proofs.Wire.{target_heeds}
use Rattle.nfca_poll.specs.Front.{Front, Off, Idle, Sleep, Ready, Active}
use Rattle.nfca_poll.specs.Fronted.{Fronted, handed_by}
use Rattle.bench_devices.specs.declared.device.Device.{Device}
use Rattle.bench_devices.specs.declared.device.Device.TheVariants.{T2, T4, Peer, T5, T3}
use Rattle.bench_devices.specs.Device.{devices, device_id, device_end, device_target, is_tag}
use Rattle.bench_devices.specs.Keeping.{Kept, ghosts, kept, IsSound}
use Rattle.bench_devices.specs.Peers.{PeerNear, IsMadePeer, asked_if, takes_frame, peer_machine}
use Rattle.bench_devices.specs.Beside.{PeerAt, TalkLeaves}
use Rattle.bench_devices.specs.Phases.{Stands}
use Rattle.bench_devices.specs.Opening.{Opened, OpeningEnds, Opens}
use Rattle.bench_devices.proofs.far_ends.BesideLink.{at_split, going_leaves}
use Rattle.bench_devices.proofs.selected.CardParts.{at_kept}
use Rattle.bench_devices.proofs.kinds.OpenPeer.{atr_range, takes_atr}
use Rattle.bench_devices.proofs.reads.ReadingTags as reading
use Rattle.bench_devices.proofs.reads.ReadingTags.{stands_alone}
use Rattle.bench_devices.proofs.kinds.PeerHere.{same_place, in_step}
use Rattle.bench_devices.proofs.kinds.TagOrPeer.{peer_kind}

-- No device hands a payload over at ATR_REQ.
module _ (general : List ℕ) (short : length general ≤ 48) where
  abbrev pub f : Signal
  f = atr_frame general

  restarts_only : (t : TargetState) (payload : List ℕ) → target_use (target_table t f).does ≡ Hands payload → ⊥
  restarts_only t payload e =
      let k : target_table t f ≡ framed (heeded t (atr_req general)) = target_heeds t (atr_req general) (atr_range general short) in
      let P : TargetTurn → Type 0 = λ x. target_use x.does ≡ Hands payload → ⊥ in
      subst P (sym k) (λ h. absurd cc) e

  asked_none : (v : Bool) (u : PeerNear) (payload : List ℕ) → asked_if v u f ≡ Hands payload → ⊥
  asked_none true u payload e = restarts_only u.target payload e
  asked_none false u payload e = absurd cc

  peer_none : (front : Front) (d : Fronted PeerNear) (payload : List ℕ) → handed_by peer_machine front d f ≡ Hands payload → ⊥
  peer_none Off d payload e = absurd cc
  peer_none Idle d payload e = absurd cc
  peer_none Sleep d payload e = absurd cc
  peer_none (Ready k starred) d payload e = absurd cc
  peer_none (Active starred) d payload e = asked_none (takes_frame d.upper f) d.upper payload e

  handed_none : (l : Device) (payload : List ℕ) → devices.handed l f ≡ Hands payload → ⊥
  handed_none (T2 d) payload e = absurd cc
  handed_none (T4 d) payload e = absurd cc
  handed_none (Peer d) payload e = peer_none d.front d payload e
  handed_none (T5 p) payload e = absurd cc
  handed_none (T3 p) payload e = absurd cc

  heard_none : (v : Bool) (l : Device) (payload : List ℕ) → (if v then devices.handed l f else Untouched) ≡ Hands payload → ⊥
  heard_none true l payload e = handed_none l payload e
  heard_none false l payload e = absurd cc

  -- so no far end stops
  module _ {F : Type 0} (restarts : F → List ℕ → F → Type 0) (obeys : F → List ℕ → List ℕ → F → Type 0) (stops : F → List ℕ → F → Type 0) (is_stuck : F → Bool) where
    none_stops : (ls : List Device) (far : F) (ms : List Device) (after : F) → HearSome devices restarts obeys stops is_stuck f ls far ms after → ⊥
    none_stops [] far ms after h = h
    none_stops (l ∷ ls) far ms after (m, later, left, inl (stop, same)) = heard_none (hears devices l f) l stop.payload stop.handed
    none_stops (l ∷ ls) far ms after (m, later, left, inr (answer, mid, meets, more)) = none_stops ls mid later after more

    pub waits_none : (g : Signal) (notes : List Note) → atr_next general notes ≡ Asks g → g ≡ f
    waits_none g notes e = due_all (λ h. h ≡ f) (f ∷ []) (refl, tt) notes g e

    nothing_more : (notes : List Note) (mid new : Air Device) (half after : F) → LeavesOff devices restarts obeys (atr_next general) stops is_stuck notes mid half new after
        → (new ≡ mid) × (after ≡ half)
    nothing_more notes mid new half after (inl same) = same
    nothing_more notes mid new half after (inr (g, due, stop)) =
        absurd (none_stops mid.listeners half stop.listeners after
        (subst (λ h. HearSome devices restarts obeys stops is_stuck h mid.listeners half stop.listeners after) (waits_none g notes due) stop.some))

-- what a wait of ATR_REQ asks is a frame of whole bytes
pub atr_whole : (general : List ℕ) (ns : List Note) (g : Signal) → atr_next general ns ≡ Asks g → g ≡ whole_a g.bytes
atr_whole general ns g e = due_all (λ h. h ≡ whole_a h.bytes) (atr_frame general ∷ []) (refl, tt) ns g e

-- what it says of itself is what it was made to say
record SaysAsMade (d : Device) : Type 0 where
  pub made : IsMadePeer (device_id d) (device_target d)
  pub code : (device_end d).lr ≡ (device_target d).lr
  pub says : (device_end d).general ≡ (device_target d).general

says_as_made : (d : Device) → IsSound (kept d) → is_tag d ≡ false → SaysAsMade d
says_as_made (T2 d) is e = absurd cc
says_as_made (T4 d) is e = absurd cc
says_as_made (Peer d) is e = record { made = is.2; code = refl; says = refl }
says_as_made (T5 p) is e = absurd cc
says_as_made (T3 p) is e = absurd cc

pub at_peer : (old : Air Device) (place : ℕ) (d : Device) → Stands (moment old) place d → is_tag d ≡ false → PeerAt (device_id d) place old.listeners
at_peer old place d s tag =
    let split : old.listeners ≡ s.before ++ d ∷ s.behind = ap (λ (w : World Device). w.listeners) s.world in
    subst (PeerAt (device_id d) place) (sym split)
    (subst (λ n. PeerAt (device_id d) n (s.before ++ d ∷ s.behind)) s.at (at_split (device_id d) s.before d s.behind (peer_kind d tag) s.first s.later))

module _ (old : Air Device) (place : ℕ) (d : Device) (s : Stands (moment old) place d) (tag : is_tag d ≡ false) where
  lit_before : old.lit ≡ true
  lit_before = ap (λ (w : World Device). w.lit) s.world

  abbrev pub has_target : (general : List ℕ) → length general ≤ 48 → HasTarget ghosts device_end old general
  has_target general short = record { place = place; listener = d; alone = stands_alone old place d s; takes = takes_atr d s.sound s.selected tag general short }

  -- a peer that is selected in the field afterwards is this one
  module _ (new : Air Device) (leaves : TalkLeaves (device_id d) place old.listeners new.listeners) where
    pub same_kept : (i : InitState) (t : HasPeer ghosts device_end new i 0 [] []) → kept t.listener ≡ kept d
    same_kept i t =
        let there : at_place (λ e. Some (kept e)) None new.listeners t.place ≡ Some (kept t.listener) =
        place_is ghosts (λ e. Some (kept e)) None (device_id t.listener) new.listeners t.place t.listener t.alone in
        let here : at_place (λ e. Some (kept e)) None old.listeners place ≡ Some (kept d) = reading.seen old place d s (λ e. Some (kept e)) None in
        let both : at_place (λ e. Some (kept e)) None new.listeners place ≡ at_place (λ e. Some (kept e)) None old.listeners place =
        at_kept new.listeners place ∙ ap (λ ks. at_place (λ (k : Kept). Some k) None ks place) leaves.same ∙ sym (at_kept old.listeners place) in
        let moved : at_place (λ e. Some (kept e)) None new.listeners t.place ≡ at_place (λ e. Some (kept e)) None new.listeners place =
        ap (λ n. at_place (λ e. Some (kept e)) None new.listeners n) (same_place (device_id d) place new leaves.at i 0 [] [] t) in
        let same : Some (kept t.listener) ≡ Some (kept d) = sym there ∙ moved ∙ both ∙ here in
        (let q : kept t.listener ≡ kept d = cc in q)

    pub opened : (i : InitState) (told : List ℕ) → IsActivated ghosts device_end new (device_end d) i told → Opened new place d i told
    opened i told a =
        let says : SaysAsMade d = says_as_made d s.sound tag in
        record {
          made = says.made;
          initiator = a.initiator ∙ ap waiting says.code;
          general = a.told_own ∙ says.says;
          here = in_step (device_id d) place new leaves.at i 0 [] [] a.peer a.lit;
          same = same_kept i a.peer;
        }

  -- ATR_REQ was asked of the peer
  module _ {F : Type 0} (restarts : F → List ℕ → F → Type 0) (obeys : F → List ℕ → List ℕ → F → Type 0) (stops : F → List ℕ → F → Type 0) (is_stuck : F → Bool) (far : F) (new : Air Device) (after : F)
      (general : List ℕ) (short : length general ≤ 48) (result : Result (InitState × ArrayVec ℕ) EndCause)
      (turns : AsksAtr devices restarts obeys stops is_stuck old far new after general result) (ends : AtrEnds ghosts device_end restarts old new general (device_end d) far after result) where
    sent_by : (r : Result (InitState × ArrayVec ℕ) EndCause) → AtrEnds ghosts device_end restarts old new general (device_end d) far after r
        → (st : Standing) × AtrSent ghosts device_end restarts old new general far after st
    sent_by (Ok p) e = (Asking 0 [], e.0)
    sent_by (Err FieldLost) (inl (dark, same, far_same)) = absurd (let clash : true ≡ false = sym lit_before ∙ dark in cc)
    sent_by (Err FieldLost) (inr lost) = (Broken faults.FieldLost (atr_frame general ∷ []), lost.0)
    sent_by (Err SixBad) e = (Broken faults.SixBad (atr_frame general ∷ []), e.0)
    sent_by (Err Protocol) e = absurd e
    sent_by (Err Memory) e = (Asking e.0 (atr_frame general ∷ []), e.1)

    abbrev sent : AtrSent ghosts device_end restarts old new general far after (sent_by result ends).0
    sent = (sent_by result ends).1

    speaks : Speaks devices restarts obeys (atr_next general) old far new after turns.notes
    speaks =
        let same = nothing_more general short restarts obeys stops is_stuck turns.notes turns.mid new turns.half after turns.leaves in
        let P : Air Device → Type 0 = λ a. Speaks devices restarts obeys (atr_next general) old far a turns.half turns.notes in
        let Q : F → Type 0 = λ h. Speaks devices restarts obeys (atr_next general) old far new h turns.notes in
        subst Q (sym same.1) (subst P (sym same.0) turns.speaks)

    abbrev es : List Event
    es = speaks.events

    same_events : (sent.going []).events ≡ es
    same_events =
        append_cancel_left old.trace (sent.going []).events es (sym (ap (λ (m : Moment (World Device)). m.trace) (sent.going []).moment) ∙ speaks.trace)

    going : Going (answering_air devices []) (atr_next general) (moment old) (moment new) turns.notes
    going = record {
      events = es;
      moment = subst (λ xs. moment new ≡ with_events (answering_air devices []) (moment old) xs) same_events (sent.going []).moment;
      turns = subst (AreTurns (answering_air devices []) (world old)) same_events (sent.going []).turns;
      each = speaks.each;
      fates = speaks.fates;
      fresh = speaks.fresh;
      known = speaks.known;
    }

    leaves : TalkLeaves (device_id d) place old.listeners new.listeners
    leaves = going_leaves (device_id d) [] place (atr_next general) (moment old) (moment new) turns.notes (atr_whole general) going (at_peer old place d s tag)

    answers : AnswersAtr true turns.notes (stand 0 (atr_frame general ∷ []) turns.notes) result
    answers = subst (λ v. AnswersAtr v turns.notes (stand 0 (atr_frame general ∷ []) turns.notes) result) lit_before turns.answers

    by_break : 0 < breaks es → result ≡ Err FieldLost
    unfolding going speaks
    by_break some =
        let lost : HasLost turns.notes = going_lost (answering devices []) (atr_next general) (moment old) (moment new) turns.notes going some in
        let e = lost_ends (answering_air devices []) (atr_frame general ∷ []) (moment old) (moment new) turns.notes going lost in
        subst (λ st. AnswersAtr true turns.notes st result) e.1 answers

    lit_without : breaks es ≡ 0 → new.lit ≡ true
    unfolding going speaks
    lit_without none =
        ap (λ (m : Moment (World Device)). m.world.lit) going.moment ∙ stays_lit (answering devices []) (world old) es lit_before none

    dim_by : (r : Result (InitState × ArrayVec ℕ) EndCause) → r ≡ Err FieldLost → AtrEnds ghosts device_end restarts old new general (device_end d) far after r → new.lit ≡ false
    dim_by (Ok p) e x = absurd cc
    dim_by (Err FieldLost) e (inl (dark, same, far_same)) = absurd (let clash : true ≡ false = sym lit_before ∙ dark in cc)
    dim_by (Err FieldLost) e (inr lost) = lost.2
    dim_by (Err SixBad) e x = absurd cc
    dim_by (Err Protocol) e x = absurd cc
    dim_by (Err Memory) e x = absurd cc

    some_break : result ≡ Err FieldLost → 0 < breaks es
    some_break e = elim (cases_lt 0 (breaks es)) [
      | inl some ↦ some
      | inr none ↦ absurd (
          let lit : new.lit ≡ true = lit_without (omega (arith, none)) in
          let clash : true ≡ false = sym lit ∙ dim_by result e ends in
          cc)
    ]

    noisy_by : (r : Result (InitState × ArrayVec ℕ) EndCause) → AtrEnds ghosts device_end restarts old new general (device_end d) far after r → r ≡ Err SixBad → 0 < noise es
    noisy_by (Ok p) e is = absurd cc
    noisy_by (Err FieldLost) e is = absurd cc
    noisy_by (Err SixBad) e is = subst (λ xs. 0 < noise xs) (append_cancel_left old.trace (e.0).events es (sym (e.0).trace ∙ speaks.trace)) e.1
    noisy_by (Err Protocol) e is = absurd cc
    noisy_by (Err Memory) e is = absurd cc

    calm_so : noise es ≡ 0 → bad_receptions es ≡ 0
    calm_so =
        let same : sent.events ≡ es = append_cancel_left old.trace sent.events es (sym sent.trace ∙ speaks.trace) in
        subst (λ xs. noise xs ≡ 0 → bad_receptions xs ≡ 0) same sent.calm

    lit_unless : (result ≡ Err FieldLost → ⊥) → new.lit ≡ true
    lit_unless other = elim (cases_lt 0 (breaks es)) [
      | inl some ↦ absurd (other (by_break some))
      | inr none ↦ lit_without (omega (arith, none))
    ]

    begun_by : (r : Result (InitState × ArrayVec ℕ) EndCause) (e : AtrEnds ghosts device_end restarts old new general (device_end d) far after r) → IfOk r (λ p. 0 < (sent_by r e).1.times)
    unfolding sent_by
    begun_by (Ok p) e = e.1
    begun_by (Err cause) e = tt

    ends_by : (r : Result (InitState × ArrayVec ℕ) EndCause) → result ≡ r → AtrEnds ghosts device_end restarts old new general (device_end d) far after r → OpeningEnds new place d r
    ends_by (Ok p) e x = opened new leaves p.0 p.1.items x.2
    ends_by (Err FieldLost) e x = dim_by result e ends
    ends_by (Err SixBad) e x = lit_unless (λ h. (let clash : ◌≡◌ {A = Result (InitState × ArrayVec ℕ) EndCause} (Err SixBad) (Err FieldLost) = sym e ∙ h in cc))
    ends_by (Err Protocol) e x = absurd x
    ends_by (Err Memory) e x = lit_unless (λ h. (let clash : ◌≡◌ {A = Result (InitState × ArrayVec ℕ) EndCause} (Err Memory) (Err FieldLost) = sym e ∙ h in cc))

    pub opens : Opens restarts obeys old far new after general place d result
    opens = record {
      notes = turns.notes;
      speaks = speaks;
      answers = answers;
      lost = (some_break, by_break);
      noisy = noisy_by result ends;
      calm = calm_so;
      times = sent.times;
      restarted = sent.restarted;
      begun = begun_by result ends;
      ends = ends_by result refl ends;
      leaves = leaves;
    }
