-- A peer of the bench that is selected and has a link does what its target's table says; the devices beside it are silent at the frames of its link.
use Rattle.std.proofs.Common.{◌≡◌, ℕ, zero, suc, ◌≤◌, Bool, true, List, [], ◌∷◌, ◌++◌, length, Option, Some, None, refl, sym, ◌∙◌, ap, subst}
use Rattle.std.specs.Prelude.{get_or}
use Rattle.arrayvec.specs.ArrayVec.{ArrayVec}
use Rattle.nfc_base.specs.Signal.{Signal, whole_a}
use Rattle.nfc_base.specs.declared.event.Event.{Event}
use Rattle.nfc_base.specs.declared.event.Event.TheVariants.{Request}
use Rattle.nfc_base.specs.declared.event.Fate.{Fate}
use Rattle.nfc_base.specs.declared.frame.Tech.TheVariants.{A}
use Rattle.air_core.specs.Conversation.{AirModel, AreTurns, EachDue, receptions, replay}
use Rattle.air_core.specs.Turn.{Air}
use Rattle.air_core.specs.World.{World, hands_over, answered_by, stepped_by}
use Rattle.air_core.specs.PlainTags.{IsAlone, IsAside}
use Rattle.air_core.proofs.PlainAside.{IsUnmoved, aside_silent}
use Rattle.nfca_poll.specs.Front.{Front, Off, Idle, Sleep, Ready, Active, is_active}
use Rattle.nfca_poll.specs.Fronted.{Fronted, active_after, active_answer}
use Rattle.dep_link.specs.declared.target.TargetStep.{TargetStep}
use Rattle.dep_link.specs.declared.target.TargetStep.TheVariants as steps
use Rattle.dep_link.specs.Exchange.{InStep}
use Rattle.dep_link.specs.Frames.{air_frame}
use Rattle.dep_link.specs.Initiator.{InitState}
use Rattle.dep_link.specs.Peers.{target_use}
use Rattle.dep_link.specs.Target.{TargetState, target_table, replied, reply_frame}
use Rattle.far_air.specs.FarWorld.{FarWorld, far_air, with_numbers}
use Rattle.peer_air.specs.PeerFars.{peer_ends}
use Rattle.snep_core.specs.Accord.{PeerState}
use Rattle.snep_core.specs.Talk.{Step}
use Rattle.link_calls.specs.ClosingDue.{closing_due, closing_stand}
use Rattle.link_calls.specs.Walk.{Course, Giver, walk_due, walk_stand}
use Rattle.bench_devices.specs.declared.device.Device.{Device}
use Rattle.bench_devices.specs.declared.device.Device.TheVariants.{T2, T4, Peer, T5, T3}
use Rattle.bench_devices.specs.Beside.{InStepAt}
use Rattle.bench_devices.specs.Device.{devices, device_end, device_id, device_linked, device_selected}
use Rattle.bench_devices.specs.Keeping.{ghosts}
use Rattle.bench_devices.specs.Peers.{PeerNear, by_target, peer_machine}
use Rattle.bench_devices.proofs.turns.QuietRats.{laws}
use Rattle.link_numbers.specs.Shown.{far_shown}
use Rattle.link_numbers.proofs.far.FarAlone.{Around, AreAround, IsSilent, amid}
use Rattle.link_numbers.proofs.far.FarClosing as closing
use Rattle.link_numbers.proofs.far.FarClosing.{HasClosed, closes_well}
use Rattle.link_numbers.proofs.far.FarFit.{RepliesFit}
use Rattle.link_numbers.proofs.far.FarPayloads.{IsWithin, peer_numbered, reads}
use Rattle.link_numbers.proofs.far.FarShown.{SameDark}
use Rattle.link_numbers.proofs.far.FarSolo.{DoesSo}
use Rattle.link_numbers.proofs.far.FarWalk.{HasCome, Outs, IsWhole}
use Rattle.link_numbers.proofs.far.FarWalked.{walks_well}

-- a selected peer with a link, whose target stands so
abbrev pub peer_of : List ℕ → Bool → TargetState → Device
peer_of id starred s = Peer (record { id = id; front = Active starred; upper = record { target = s; linked = true } })

module _ (id : List ℕ) (starred : Bool) where
  abbrev near : TargetState → Fronted PeerNear
  near s = record { id = id; front = Active starred; upper = record { target = s; linked = true } }

  -- what it answers and is then, by what its target's step does
  said_by : (s : TargetState) (f : Signal) (r : Option (List ℕ)) (d : TargetStep) → (target_table s f).does ≡ d
      → (devices.answer (peer_of id starred s) f r ≡ active_answer peer_machine (by_target (target_table s f).state r d).says (near s) f)
      × (devices.after (peer_of id starred s) f r ≡ Peer (active_after peer_machine (by_target (target_table s f).state r d).says (by_target (target_table s f).state r d).after (near s) f))
  said_by s f r d e = (
    ap (λ z. active_answer peer_machine (by_target (target_table s f).state r z).says (near s) f) e,
    ap (λ z. Peer (active_after peer_machine (by_target (target_table s f).state r z).says (by_target (target_table s f).state r z).after (near s) f)) e,
  )

  whole_hands : (s : TargetState) (b : List ℕ) → hands_over devices (peer_of id starred s) (whole_a b) ≡ target_use (target_table s (whole_a b)).does
  whole_hands s b = refl

  whole_replies : (s : TargetState) (b : List ℕ) (g : Signal) → (target_table s (whole_a b)).does ≡ steps.Reply g
      → (answered_by devices (peer_of id starred s) (whole_a b) None ≡ Some g) × (stepped_by devices (peer_of id starred s) (whole_a b) None ≡ peer_of id starred (target_table s (whole_a b)).state)
  whole_replies s b g e = said_by s (whole_a b) None (steps.Reply g) e

  whole_delivers : (s : TargetState) (b : List ℕ) (p : ArrayVec ℕ) (r : List ℕ) → (target_table s (whole_a b)).does ≡ steps.Deliver p
      → (answered_by devices (peer_of id starred s) (whole_a b) (Some r) ≡ Some (air_frame (reply_frame (target_table s (whole_a b)).state r)))
      × (stepped_by devices (peer_of id starred s) (whole_a b) (Some r) ≡ peer_of id starred (replied (target_table s (whole_a b)).state r))
  whole_delivers s b p r e = said_by s (whole_a b) (Some r) (steps.Deliver p) e

  pub peer_does : DoesSo devices device_linked peer_ends (peer_of id starred)
  peer_does = record {
    hands = λ s f w. subst (λ z. hands_over devices (peer_of id starred s) z ≡ target_use (target_table s z).does) (sym w) (whole_hands s f.bytes);
    replies = λ s f g w. subst
        (λ z. (target_table s z).does ≡ steps.Reply g
        → (answered_by devices (peer_of id starred s) z None ≡ Some g) × (stepped_by devices (peer_of id starred s) z None ≡ peer_of id starred (target_table s z).state))
        (sym w) (whole_replies s f.bytes g);
    delivers = λ s f p r w. subst
        (λ z. (target_table s z).does ≡ steps.Deliver p
        → (answered_by devices (peer_of id starred s) z (Some r) ≡ Some (air_frame (reply_frame (target_table s z).state r)))
        × (stepped_by devices (peer_of id starred s) z (Some r) ≡ peer_of id starred (replied (target_table s z).state r)))
        (sym w) (whole_delivers s f.bytes p r);
    has_link = λ s. refl;
    dark = λ s l. refl;
  }

-- A selected device with a link is such a peer.
pub front_active : (f : Front) → is_active f ≡ true → (starred : Bool) × (f ≡ Active starred)
front_active Off e = absurd cc
front_active Idle e = absurd cc
front_active Sleep e = absurd cc
front_active (Ready k starred) e = absurd cc
front_active (Active starred) e = (starred, refl)

pub as_peer : (l : Device) → device_linked l ≡ true → device_selected l ≡ true → (id : List ℕ) × (starred : Bool) × (l ≡ peer_of id starred (device_end l))
as_peer (T2 d) e s = absurd cc
as_peer (T4 d) e s = absurd cc
as_peer (T5 p) e s = absurd cc
as_peer (T3 p) e s = absurd cc
as_peer (Peer d) e s =
    let f = front_active d.front s in (
      d.id,
      f.0,
      ap (λ z. Peer (record { id = d.id; front = z; upper = d.upper })) f.1
          ∙ ap (λ z. Peer (record { id = d.id; front = Active f.0; upper = record { target = d.upper.target; linked = z } })) e,
    )

-- The devices beside it are silent at the frames of its link, and in the dark.
module _ (own : List ℕ) where
  pub aside_quiet : (l : Device) (f : Signal) → IsWhole f → IsAside ghosts own l → IsSilent devices device_linked peer_ends (IsAside ghosts own) IsWhole l f
  aside_quiet l f whole a =
      let k : IsUnmoved ghosts laws own f l = aside_silent ghosts laws own A f whole tt l a in
      record { quiet = k.quiet; silent = k.silent; stays = k.aside }

  pub aside_darkened : (l : Device) → IsAside ghosts own l → IsAside ghosts own (devices.darkened l)
  aside_darkened l a = record { rests = λ h. laws.dark_rests l; other = λ e. a.other (e ∙ (laws.dark_keeps l).0.identifier') }

-- a far end above a place
pub fars_split : (os : List (Option PeerState)) (place : ℕ) (a : PeerState) → get_or os place None ≡ Some a
    → (firsts : List (Option PeerState)) × (lasts : List (Option PeerState)) × (os ≡ firsts ++ Some a ∷ lasts) × (length firsts ≡ place)
fars_split [] place a e = absurd cc
fars_split (o ∷ os) zero a e = ([], os, ap (λ z. z ∷ os) e, refl)
fars_split (o ∷ os) (suc place) a e =
    let k = fars_split os place a e in
    (o ∷ k.0, k.1, ap (λ z. o ∷ z) k.2, ap suc k.3)

abbrev air : AirModel (FarWorld Device PeerState)
air = far_air devices device_linked peer_ends

-- By these numbers the same turns are made from a world. Behind them both worlds have the same light, and are the same in the dark but for the numbers that are
-- left; where all came to its end they are so at once.
pub record ShowsWell (w : FarWorld Device PeerState) (ks : List ℕ) (es : List Event) (Ended : Type 0) : Type 0 where
  pub turns : AreTurns air (with_numbers w ks) es
  pub alike : SameDark devices device_linked peer_ends (replay air w es) (replay air (with_numbers w ks) es)
  pub done : Ended → with_numbers (replay air (with_numbers w ks) es) [] ≡ with_numbers (replay air w es) []

-- A peer stands at a place of a lit field, selected, with a link and alone, in step with an initiator, and this end above it.
pub record TalksTo (w : FarWorld Device PeerState) (place : ℕ) (i : InitState) (a : PeerState) : Type 0 where
  pub lit : w.field.lit ≡ true
  pub device : Device
  pub selected : device_selected device ≡ true
  pub has_link : device_linked device ≡ true
  pub alone : IsAlone ghosts (device_id device) w.field.listeners place device
  pub step : InStep i (device_end device)
  pub above : get_or w.fars place None ≡ Some a

-- as a bench keeps of its open link
pub talks_at : (at : Air Device) (w : FarWorld Device PeerState) (place : ℕ) (i : InitState) (a : PeerState) → InStepAt at place i → w.field ≡ record { lit = at.lit; listeners = at.listeners }
    → get_or w.fars place None ≡ Some a → TalksTo w place i a
talks_at at w place i a k e above = record {
  lit = ap (λ (z : World Device). z.lit) e ∙ k.step.0;
  device = k.step.1.listener;
  selected = k.step.1.selected;
  has_link = k.linked;
  alone = subst (λ ls. IsAlone ghosts (device_id k.step.1.listener) ls place k.step.1.listener) (sym (ap (λ (z : World Device). z.listeners) e))
      (subst (λ p. IsAlone ghosts (device_id k.step.1.listener) at.listeners p k.step.1.listener) k.at k.step.1.alone);
  step = k.step.1.step;
  above = above;
}

module _ (w : FarWorld Device PeerState) (place : ℕ) (i : InitState) (a : PeerState) (talks : TalksTo w place i a) where
  abbrev own : List ℕ
  own = device_id talks.device

  abbrev target : TargetState
  target = device_end talks.device

  peer : (id : List ℕ) × (starred : Bool) × (talks.device ≡ peer_of id starred target)
  peer = as_peer talks.device talks.has_link talks.selected

  ends : (firsts : List (Option PeerState)) × (lasts : List (Option PeerState)) × (w.fars ≡ firsts ++ Some a ∷ lasts) × (length firsts ≡ place)
  ends = fars_split w.fars place a talks.above

  abbrev x : Around Device PeerState
  x = record { before = talks.alone.before; behind = talks.alone.behind; firsts = ends.0; lasts = ends.1 }

  around : AreAround devices device_linked peer_ends (IsAside ghosts own) IsWhole x
  around = record { first = talks.alone.first; later = talks.alone.later; places = ends.3 ∙ sym talks.alone.stands }

  abbrev dev : TargetState → Device
  dev s = peer_of peer.0 peer.1 s

  world_is : w ≡ amid devices device_linked peer_ends x true (dev target) (Some a) w.numbers
  world_is =
      let P : Bool → List Device → List (Option PeerState) → FarWorld Device PeerState = λ v ls os. record { field = record { lit = v; listeners = ls }; fars = os; numbers = w.numbers } in
      ap (λ v. P v w.field.listeners w.fars) talks.lit ∙ ap (λ ls. P true ls w.fars) (talks.alone.split ∙ ap (λ d. talks.alone.before ++ d ∷ talks.alone.behind) peer.2)
      ∙ ap (P true (talks.alone.before ++ dev target ∷ talks.alone.behind)) ends.2

  module _ (ok : IsWithin a) (most : 2 ≤ target.most) (es more : List Event) where
    -- While a walk carries payloads to the peer, whoever gives them: by the numbers that the peer's answers show, whatever stands behind. What is carried and the replies are as
    -- long as payloads may be.
    module _ {V E : Type 0} (g : Giver V E) (from : Course V E) where
      pub walk_shows : AreTurns air w es → EachDue (walk_due g from i) [] es → RepliesFit devices device_linked peer_ends w es
          → ((before : List Event) (f : Signal) (y : Fate) (rest : List Event) → es ≡ before ++ Request f y ∷ rest → Outs g (walk_stand g from i (receptions before)))
          → ShowsWell w (far_shown i.core.number (es ++ more)) es (HasCome g (walk_stand g from i (receptions es)))
      walk_shows turns each fit outs =
          let k = walks_well devices device_linked peer_ends dev (peer_does peer.0 peer.1) IsWithin reads peer_numbered g (IsAside ghosts own) (aside_quiet own) (aside_darkened own) x around i target
          a
          w.numbers talks.step most ok from es more (subst (λ z. AreTurns air z es) world_is turns) each (subst (λ z. RepliesFit devices device_linked peer_ends z es) world_is fit) outs in
          subst (λ z. ShowsWell z (far_shown i.core.number (es ++ more)) es (HasCome g (walk_stand g from i (receptions es)))) (sym world_is)
          (record { turns = k.turns; alike = k.alike; done = k.done })

    -- Likewise while the link is closed.
    pub closing_shows : (sent : List ℕ) (from : Step) → AreTurns air w es → EachDue (closing_due sent from i) [] es → RepliesFit devices device_linked peer_ends w es
        → ((before : List Event) (f : Signal) (y : Fate) (rest : List Event) → es ≡ before ++ Request f y ∷ rest → closing.Outs (closing_stand sent from i (receptions before)))
        → ShowsWell w (far_shown i.core.number (es ++ more)) es (HasClosed (closing_stand sent from i (receptions es)))
    closing_shows sent from turns each fit outs =
        let k = closes_well devices device_linked peer_ends dev (peer_does peer.0 peer.1) IsWithin reads peer_numbered (IsAside ghosts own) (aside_quiet own) (aside_darkened own) x around i target a
        w.numbers talks.step most ok sent from es more (subst (λ z. AreTurns air z es) world_is turns) each (subst (λ z. RepliesFit devices device_linked peer_ends z es) world_is fit) outs in
        subst (λ z. ShowsWell z (far_shown i.core.number (es ++ more)) es (HasClosed (closing_stand sent from i (receptions es)))) (sym world_is)
        (record { turns = k.turns; alike = k.alike; done = k.done })
