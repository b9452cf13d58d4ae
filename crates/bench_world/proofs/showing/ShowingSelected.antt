-- A peer is selected while payloads that were written by hand are to be sent to it: no payload was handed over, no ATR_REQ was asked, and it awaits
-- one, with its far end above it.
use Rattle.std.proofs.Common.{◌≡◌, ℕ, zero, suc, ◌≤◌, Bool, true, false, if◌then◌else◌, List, [], ◌∷◌, ◌++◌, map, length, Option, Some, None, Ok, refl, sym, ◌∙◌, ap, subst}
use Rattle.std.specs.Prelude.{get_or}
use Rattle.std.specs.List.{AllByRecursion}
use Rattle.nfc_base.specs.Far.{Untouched}
use Rattle.nfc_base.specs.Signal.{Signal}
use Rattle.nfc_base.specs.declared.event.Event.{Event}
use Rattle.nfc_base.specs.declared.event.Event.TheVariants.{Reset, Request, Answer, Clash}
use Rattle.air_core.specs.Conversation.{EachDue, Going, Moment, Note, queue_after, replay}
use Rattle.air_core.specs.laws.Turning.{due_weaker}
use Rattle.air_core.specs.PlainTags.{IsAside}
use Rattle.nfca_poll.specs.Crowd.{Card, Each}
use Rattle.nfca_poll.specs.Enquiry.{Enquires, enquiring}
use Rattle.nfca_poll.specs.Front.{Active}
use Rattle.nfca_poll.specs.Ident.{IsIdent}
use Rattle.nfca_poll.specs.RoundEnds.{LeavesActive}
use Rattle.nfca_poll.specs.Rounds.{device_of, picking}
use Rattle.nfca_poll.specs.declared.kind.Kind.{Kind}
use Rattle.nfca_poll.proofs.quiet.FoundCrowd.{selects_alone}
use Rattle.dep_pdu.specs.declared.frame.DepFrame.{DepFrame}
use Rattle.dep_pdu.specs.declared.frame.DepFrame.TheVariants.{AtrReq, AtrRes, Info, Ack, Nack, Attention, Extend, DslReq, DslRes, RlsReq, RlsRes}
use Rattle.dep_link.specs.Frames.{is_atr_req, names_atr, spelled}
use Rattle.nfc_base.specs.Pieces.{longest_extension, most_busy}
use Rattle.dep_link.specs.Peers.{target_use}
use Rattle.dep_link.specs.Target.{TargetState, fresh, obeyed}
use Rattle.far_air.specs.FarEnds.{by_link, later_fars, rests}
use Rattle.far_air.specs.FarLaws.{shown}
use Rattle.far_air.specs.Quietly.{AreCalm, IsCalm, NoneHands}
use Rattle.far_air.specs.Staying.{HasFars, Stays}
use Rattle.far_air.proofs.OnField.{quiet_fields}
use Rattle.far_air.proofs.Staying.{fars_stay}
use Rattle.peer_air.specs.PeerFars.{peer_ends}
use Rattle.link_numbers.proofs.far.FarAlone.{Around}
use Rattle.bench_script.specs.declared.command.DeviceId.TheVariants.{A}
use Rattle.bench_devices.specs.declared.device.Device.{Device}
use Rattle.bench_devices.specs.declared.device.Device.TheVariants.{T2, T4, Peer, T5, T3}
use Rattle.bench_devices.specs.declared.polling.SeenKind.TheVariants as seen
use Rattle.bench_devices.specs.Device.{BenchWorld, air, device_id, device_linked, device_selected, devices, is_tag}
use Rattle.bench_devices.specs.Keeping.{AreTame, IsSound, ghosts, kept}
use Rattle.bench_devices.specs.Peers.{asked_if}
use Rattle.bench_devices.specs.Phases.{AreTidy}
use Rattle.bench_devices.specs.Polling.{Told, asks, follows, seen_kind, selecting}
use Rattle.bench_devices.proofs.turns.CalmDues.{calm_selecting}
use Rattle.bench_devices.proofs.selected.CardHeard.{field_of}
use Rattle.bench_devices.proofs.finding.Following.{asks_same, kind_asks}
use Rattle.bench_devices.proofs.kinds.OpenPeer.{peer_in}
use Rattle.bench_devices.proofs.finding.Polls.{Polls, came}
use Rattle.bench_devices.proofs.turns.QuietPolling.{PollsQuietly, mutely}
use Rattle.bench_devices.proofs.finding.Searching.{asks_harmless, search_closes}
use Rattle.bench_devices.proofs.selected.SelectedHeard.{Selected, selected_a}
use Rattle.bench_devices.proofs.finding.SelectingA as a_kind
use Rattle.bench_devices.proofs.finding.SelectingKept.{going_keeps}
use Rattle.bench_devices.proofs.finding.SelectingCards.{cards_of, own_idents, polled, tidy}
use Rattle.bench_world.specs.Opened.{AreServed, IsServed}
use Rattle.bench_world.specs.ShownForged.{behind_opening, behind_res}
use Rattle.bench_world.specs.World.{FarEnd, WholeWorld, bench_air}
use Rattle.bench_world.proofs.calm.CompleteLinkings.{no_tag}
use Rattle.bench_world.proofs.devices.FarDevices.{fars_split, front_active}
use Rattle.bench_world.proofs.tags.Fronts.{ends_table}
use Rattle.bench_world.proofs.open_link.LinkObeyed.{none_selecting}
use Rattle.bench_world.proofs.devices.PlacesKept.{kinds_of, served_as}
use Rattle.bench_world.proofs.open_link.Restarted.{served_at}
use Rattle.bench_world.proofs.showing.ShowingAtr.{AwaitsAtr}
use Rattle.bench_world.proofs.showing.ShowingPayless.{Payless, none_payless}

-- A frame at which no device without a link hands anything over is no ATR_REQ.
no_begin : (t : TargetState) (o : Option DepFrame) → names_atr o ≡ true → target_use (obeyed t o).does ≡ Untouched → ⊥
no_begin t None n e = absurd cc
no_begin t (Some (AtrReq id lr general)) n e = cc
no_begin t (Some (AtrRes id timeout lr general)) n e = absurd cc
no_begin t (Some (Info up more pni content)) n e = absurd cc
no_begin t (Some (Ack up pni)) n e = absurd cc
no_begin t (Some (Nack pni)) n e = absurd cc
no_begin t (Some (Attention up)) n e = absurd cc
no_begin t (Some (Extend up times)) n e = absurd cc
no_begin t (Some DslReq) n e = absurd cc
no_begin t (Some DslRes) n e = absurd cc
no_begin t (Some RlsReq) n e = absurd cc
no_begin t (Some RlsRes) n e = absurd cc

calm_other : (f : Signal) → IsCalm devices device_linked f → is_atr_req f ≡ false
calm_other f calm = by (is_atr_req f) refl
  where
    t : TargetState
    t = fresh [] 0 []

    by : (v : Bool) → is_atr_req f ≡ v → v ≡ false
    by false e = refl
    by true e =
        absurd (no_begin t (spelled f) e (sym (ap (λ v. asked_if v (record { target = t; linked = false }) f) e) ∙ calm (Peer (peer_in [] false false t)) refl))

-- So of such requests none is counted.
pub calm_counts : (es x : List Event) → AreCalm devices device_linked es → behind_opening (es ++ x) ≡ behind_opening x
calm_counts [] x calm = refl
calm_counts (Reset ∷ es) x calm = calm_counts es x calm
calm_counts (Request f z ∷ es) x calm = by (is_atr_req f) (calm_other f calm.0) (calm_counts es x calm.1)
  where
    by : (v : Bool) → v ≡ false → behind_opening (es ++ x) ≡ behind_opening x
        → (if v then behind_res (es ++ x) else behind_opening (es ++ x)) ≡ behind_opening x
    by false e more = more
    by true e more = absurd cc
calm_counts (Answer g z ∷ es) x calm = calm_counts es x calm
calm_counts (Clash g z ∷ es) x calm = calm_counts es x calm

-- A selected peer that is sound.
pub record IsPeerIn (d : Device) : Type 0 where
  pub id : List ℕ
  pub starred : Bool
  pub linked : Bool
  pub target : TargetState
  pub is : d ≡ Peer (peer_in id starred linked target)
  pub named : device_id d ≡ id
  pub few : target.busy ≤ most_busy
  pub times : (1 ≤ target.times) × (target.times ≤ longest_extension)

peer_is : (d : Device) → is_tag d ≡ false → device_selected d ≡ true → IsSound (kept d) → IsPeerIn d
peer_is (T2 d) tag e s = absurd cc
peer_is (T4 d) tag e s = absurd cc
peer_is (Peer d) tag e s =
    let f = front_active d.front e in
    record {
      id = d.id;
      starred = f.0;
      linked = d.upper.linked;
      target = d.upper.target;
      is = ap (λ z. Peer (record { id = d.id; front = z; upper = d.upper })) f.1;
      named = refl;
      few = s.2.few;
      times = (s.2.some, s.2.longest);
    }
peer_is (T5 p) tag e s = absurd cc
peer_is (T3 p) tag e s = absurd cc

-- Far ends above devices.
some_linked : (v : Bool) (a : FarEnd) → (b : FarEnd) × (by_link peer_ends v (Some a) ≡ Some b)
some_linked true a = (a, refl)
some_linked false a = (peer_ends.rested a, refl)

some_shown : (ds : List Device) (os : List (Option FarEnd)) (n : ℕ) (a : FarEnd) → length os ≡ length ds → get_or os n None ≡ Some a
    → (b : FarEnd) × (get_or (shown device_linked peer_ends ds os) n None ≡ Some b)
some_shown [] [] n a long e = absurd cc
some_shown [] (o ∷ os) n a long e = absurd cc
some_shown (d ∷ ds) [] n a long e = absurd cc
some_shown (d ∷ ds) (o ∷ os) zero a long e =
    let k = some_linked (device_linked d) a in
    (k.0, ap (λ z. by_link peer_ends (device_linked d) z) e ∙ k.1)
some_shown (d ∷ ds) (o ∷ os) (suc n) a long e = let less : length os ≡ length ds = cc in some_shown ds os n a less e

shown_long : (ds : List Device) (os : List (Option FarEnd)) → length (shown device_linked peer_ends ds os) ≡ length ds
shown_long [] os = refl
shown_long (d ∷ ds) os = ap suc (shown_long ds (later_fars os))

rest_some : (o p : Option FarEnd) (a : FarEnd) → rests peer_ends o ≡ rests peer_ends p → p ≡ Some a → (b : FarEnd) × (o ≡ Some b)
rest_some None None a e s = absurd cc
rest_some None (Some p) a e s = absurd cc
rest_some (Some o) p a e s = (o, refl)

some_stays : (os ps : List (Option FarEnd)) (n : ℕ) (a : FarEnd) → map (rests peer_ends) os ≡ map (rests peer_ends) ps → get_or ps n None ≡ Some a → (b : FarEnd) × (get_or os n None ≡ Some b)
some_stays [] [] n a e s = absurd cc
some_stays [] (p ∷ ps) n a e s = absurd cc
some_stays (o ∷ os) [] n a e s = absurd cc
some_stays (o ∷ os) (p ∷ ps) zero a e s = let one : rests peer_ends o ≡ rests peer_ends p = cc in rest_some o p a one s
some_stays (o ∷ os) (p ∷ ps) (suc n) a e s = let more : map (rests peer_ends) os ≡ map (rests peer_ends) ps = cc in some_stays os ps n a more s

-- what is known of a world in which the command begins
pub record MayBegin (w : WholeWorld) : Type 0 where
  pub tame : AreTame (map kept w.field.listeners)
  pub tidied : AreTidy w.field.listeners
  pub numbers : List (Option ℕ)
  pub ends : List (Option FarEnd)
  pub long : length ends ≡ length w.field.listeners
  pub served : AreServed w.field.listeners numbers ends
  pub fars : w.fars ≡ shown device_linked peer_ends w.field.listeners ends

each_amid : (P : Card → Type 0) (a : List Card) (c : Card) (b : List Card) → Each P (a ++ c ∷ b) → P c
each_amid P [] c b e = e.0
each_amid P (x ∷ a) c b e = each_amid P a c b e.1

module _ (id : List ℕ) (a : Moment WholeWorld) (start : MayBegin a.world) (none : a.trace ≡ []) (b : Moment WholeWorld) (hs : List Note) (polls : Polls (picking id) bench_air a b hs) where
  abbrev going : Going bench_air (enquiring (picking id)) a b hs
  going = polls.going

  abbrev events : List Event
  events = going.events

  each : EachDue (λ ns. asks (selecting (A id) ns)) [] events
  each =
      due_weaker (λ ns. asks (selecting (A id) ns)) (enquiring (picking id))
      (λ ms n h d. kind_asks seen_kind (follows (picking id) ms) ∙ asks_same (picking id) (search_closes (device_of id)) ms ∙ h) [] events going.each

  nothing : NoneHands devices a.world.field events
  nothing = none_selecting (A id) events each going.fresh a.world.field

  -- so far nothing was handed over, and nothing is counted
  pub poll_payless : Payless a.world events
  poll_payless = none_payless events a.world nothing

  pub poll_counts : (x : List Event) → behind_opening (events ++ x) ≡ behind_opening x
  poll_counts x = calm_counts events x (calm_selecting (A id) events each)

  abbrev at : Moment WholeWorld → Moment BenchWorld
  at m = record { world = m.world.field; queue = m.queue; trace = m.trace }

  -- on the field
  on_field : Polls (picking id) air (at a) (at b) hs
  on_field =
      let q = quiet_fields devices device_linked peer_ends a.world events nothing in
      let M : BenchWorld → Moment BenchWorld = λ w. record { world = w; queue = queue_after a.queue events; trace = a.trace ++ events } in
      record {
        going = record { events = events; moment = ap at going.moment ∙ ap M q.field; turns = q.turns.0 going.turns; each = going.each; fates = going.fates; fresh = going.fresh; known = going.known };
        fresh = polls.fresh;
      }

  module _ (kind : Kind) (told : follows (picking id) hs ≡ Told (Ok kind) []) where
    -- who was told has an identifier
    turns : PollsQuietly (picking id) (field_of (at a)) (Ok kind) (field_of (at b))
    turns = record { notes = hs; going = on_field.going; comes = came (picking id) (picking id).start ((picking id).ended (picking id).start) hs kind refl told }

    asked : Enquires (picking id) devices (field_of (at a)) (Ok kind) (field_of (at b))
    asked = mutely (picking id) (a_kind.asks_quietly id) (field_of (at a)) (field_of (at b)) (Ok kind) turns

    leaves : LeavesActive id kind (cards_of a.world.field.listeners) (cards_of b.world.field.listeners)
    leaves = selects_alone devices device_id id (field_of (at a)) (field_of (at b)) (Ok kind) asked polled (tidy a.world.field.listeners start.tidied) (own_idents a.world.field.listeners start.tame)

    same_kept : map kept b.world.field.listeners ≡ map kept a.world.field.listeners
    same_kept = going_keeps (enquiring (picking id)) (at a) (at b) hs (asks_harmless (device_of id)) on_field.going

    ident : IsIdent id
    ident =
        let tame : AreTame (map kept b.world.field.listeners) = subst AreTame (sym same_kept) start.tame in
        each_amid (λ c. IsIdent c.id) leaves.0 (record { id = id; kind = kind; front = Active false }) leaves.1
        (subst (Each (λ c. IsIdent c.id)) leaves.2 (own_idents b.world.field.listeners tame).idents)

    module _ (peer : seen_kind kind ≡ seen.Peer) where
      s : Selected (A id) (at a) (at b) (seen_kind kind)
      s = selected_a id (at a) (at b) hs kind ident start.tame start.tidied on_field told

      device : IsPeerIn s.device
      device = peer_is s.device (no_tag s.device (s.kind_is ∙ peer)) s.stands.selected s.stands.sound

      -- its far end
      served : IsServed (get_or start.numbers (length s.stands.before) None) (get_or start.ends (length s.stands.before) None)
      served =
          let ls : List Device = s.stands.before ++ s.device ∷ s.stands.behind in
          let is : b.world.field.listeners ≡ ls = ap (λ (w : BenchWorld). w.listeners) s.stands.world in
          served_at s.stands.before s.device s.stands.behind start.numbers start.ends (no_tag s.device (s.kind_is ∙ peer))
          (subst (λ x. AreServed x start.numbers start.ends) is
          (served_as a.world.field.listeners b.world.field.listeners start.numbers start.ends (kinds_of b.world.field.listeners a.world.field.listeners s.same) start.served))

      above : (e : FarEnd) × (get_or b.world.fars (length s.stands.before) None ≡ Some e)
      above =
          let first = some_shown a.world.field.listeners start.ends (length s.stands.before) served.end start.long served.stands in
          let has : HasFars devices device_linked peer_ends a.world = ap length start.fars ∙ shown_long a.world.field.listeners start.ends in
          let stays : Stays devices device_linked peer_ends a.world events = fars_stay devices device_linked peer_ends ends_table a.world events has poll_payless in
          let world : b.world ≡ replay bench_air a.world events = ap (λ (m : Moment WholeWorld). m.world) going.moment in
          some_stays b.world.fars a.world.fars (length s.stands.before) first.0 (ap (λ (w : WholeWorld). map (rests peer_ends) w.fars) world ∙ stays.same)
          (ap (λ os. get_or os (length s.stands.before) None) start.fars ∙ first.1)

      ends : (firsts : List (Option FarEnd)) × (lasts : List (Option FarEnd)) × (b.world.fars ≡ firsts ++ Some above.0 ∷ lasts) × (length firsts ≡ length s.stands.before)
      ends = fars_split b.world.fars (length s.stands.before) above.0 above.1

      -- So it awaits ATR_REQ.
      pub awaits : AwaitsAtr b.world
      awaits =
          let x : Around Device FarEnd = record { before = s.stands.before; behind = s.stands.behind; firsts = ends.0; lasts = ends.1 } in
          let P : BenchWorld → List (Option FarEnd) → WholeWorld = λ w os. record { field = w; fars = os; numbers = b.world.numbers } in
          record {
            x = x;
            id = device.id;
            starred = device.starred;
            linked = device.linked;
            target = device.target;
            far = above.0;
            numbers = b.world.numbers;
            here =
                ap (λ w. P w b.world.fars) s.stands.world ∙ ap (λ d. P (record { lit = true; listeners = s.stands.before ++ d ∷ s.stands.behind }) b.world.fars) device.is
                ∙ ap (P (record { lit = true; listeners = s.stands.before ++ Peer (peer_in device.id device.starred device.linked device.target) ∷ s.stands.behind })) ends.2;
            around = record {
              first = subst (λ i. AllByRecursion (IsAside ghosts i) s.stands.before) device.named s.stands.first;
              later = subst (λ i. AllByRecursion (IsAside ghosts i) s.stands.behind) device.named s.stands.later;
              places = ends.3;
            };
            few = device.few;
            times = device.times;
          }
