-- What the turns of a link leave: frames of whole bytes of NFC-A, light and dark, under a far end that replies one thing. All that stays
-- of the devices stays, all but the peer are aside still, and each has a link at most while it is active.
use Rattle.std.proofs.Common.{◌≡◌, ℕ, zero, suc, List, [], ◌∷◌, ◌++◌, map, length, Bool, true, false, if◌then◌else◌, None, refl, sym, ◌∙◌, ap, subst}
use Rattle.std.specs.List.{AllByRecursion}
use Rattle.nfc_base.specs.Signal.{Signal, whole_a}
use Rattle.nfc_base.specs.Far.{Untouched}
use Rattle.nfc_base.specs.declared.frame.Tech.TheVariants.{A}
use Rattle.nfc_base.specs.declared.event.Event.{Event}
use Rattle.nfc_base.specs.declared.event.Event.TheVariants.{Reset, Request, Answer, Clash}
use Rattle.nfc_base.specs.declared.event.Fate.{Fate}
use Rattle.nfc_base.specs.declared.event.Fate.TheVariants.{Pass, Damage, Lose, Break}
use Rattle.air_core.specs.World.{Machine, World, hears, stepped_by, requested, came_back, reset_by}
use Rattle.air_core.specs.Conversation.{Note, Next, Asks, Moment, Going, replay}
use Rattle.air_core.specs.PlainTags.{IsAside}
use Rattle.air_core.proofs.PlainAside.{aside_silent}
use Rattle.dep_link.specs.Answering.{reply_for, answering, answering_air}
use Rattle.peer_air.specs.Aside.{AsideBut}
use Rattle.bench_devices.specs.declared.device.Device.{Device}
use Rattle.bench_devices.specs.declared.device.Device.TheVariants.{T2, T4, Peer, T5, T3}
use Rattle.bench_devices.specs.Kinds.{PeerKind}
use Rattle.bench_devices.specs.Device.{devices, device_tech, device_selected, kind_of}
use Rattle.bench_devices.specs.Keeping.{Kept, ghosts, kept, EachAsked}
use Rattle.bench_devices.specs.Beside.{PeerAt, TalkLeaves}
use Rattle.bench_devices.specs.Phases.{IsTidy}
use Rattle.bench_devices.proofs.kinds.EveryFrame.{aside_keeps}
use Rattle.bench_devices.proofs.kinds.PeerMade.{peer_kept}
use Rattle.bench_devices.proofs.turns.QuietRats.{laws}
use Rattle.bench_devices.proofs.finding.SelectingKept.{due_asked, kept_dark, kept_lit}
use Rattle.bench_devices.proofs.kinds.Tidy.{stepped_tidy, dark_tidy, woken_tidy, all_tidy}

pub at_aside : (own : List ℕ) (place : ℕ) (ls : List Device) → PeerAt own place ls → AsideBut ghosts own place ls
at_aside own place [] a = absurd a
at_aside own zero (l ∷ ls) a = a.1
at_aside own (suc place) (l ∷ ls) a = (a.0, at_aside own place ls a.1)

pub at_split : (own : List ℕ) (before : List Device) (d : Device) (behind : List Device) → kind_of d ≡ PeerKind → AllByRecursion (IsAside ghosts own) before
    → AllByRecursion (IsAside ghosts own) behind → PeerAt own (length before) (before ++ d ∷ behind)
at_split own [] d behind is first later = (is, later)
at_split own (b ∷ before) d behind is first later = (first.0, at_split own before d behind is first.1 later)

-- no other device than the one at the place is a selected one of NFC-A
aside_at : (own : List ℕ) (before : List Device) (x : Device) (behind : List Device) → AllByRecursion (IsAside ghosts own) (before ++ x ∷ behind) → IsAside ghosts own x
aside_at own [] x behind a = a.0
aside_at own (b ∷ before) x behind a = aside_at own before x behind a.1

not_aside : (own : List ℕ) (x : Device) → IsAside ghosts own x → device_tech x ≡ A → device_selected x ≡ true → ⊥
not_aside own x a t s = (let clash : true ≡ false = sym s ∙ (a.rests t).1 in cc)

pub only_one : (own : List ℕ) (before : List Device) (x : Device) (behind : List Device) (place : ℕ) → AsideBut ghosts own place (before ++ x ∷ behind) → device_tech x ≡ A → device_selected x ≡ true
    → length before ≡ place
only_one own [] x behind zero a t s = refl
only_one own [] x behind (suc n) a t s = absurd (not_aside own x a.0 t s)
only_one own (b ∷ before) x behind zero a t s = absurd (not_aside own x (aside_at own before x behind a) t s)
only_one own (b ∷ before) x behind (suc n) a t s = ap suc (only_one own before x behind n a.1 t s)

pub leaves_all : (own : List ℕ) (place : ℕ) (ls : List Device) → PeerAt own place ls → TalkLeaves own place ls ls
leaves_all own place ls a = record { same = refl; at = a; tidy = λ t. t }

pub leaves_both : (own : List ℕ) (place : ℕ) (a b c : List Device) → TalkLeaves own place a b → TalkLeaves own place b c → TalkLeaves own place a c
leaves_both own place a b c x y = record { same = y.same ∙ x.same; at = y.at; tidy = λ t. y.tidy (x.tidy t) }

module _ (own : List ℕ) where
  -- a change of each device
  module _ (g : Device → Device) (one : (l : Device) → kind_of l ≡ PeerKind → kept (g l) ≡ kept l) (other : (l : Device) → IsAside ghosts own l → (kept (g l) ≡ kept l) × IsAside ghosts own (g l))
      (tidy : (l : Device) → IsTidy l → IsTidy (g l)) where
    both_kept : (k : Kept) (l : Device) (ks : List Kept) (ls : List Device) → k ≡ kept l → ks ≡ map kept ls → k ∷ ks ≡ kept l ∷ map kept ls
    both_kept k l ks ls e h = ap (λ x. x ∷ ks) e ∙ ap (λ xs. kept l ∷ xs) h

    aside_kept : (ls : List Device) → AllByRecursion (IsAside ghosts own) ls → map kept (map g ls) ≡ map kept ls
    aside_kept [] a = refl
    aside_kept (l ∷ ls) a = both_kept (kept (g l)) l (map kept (map g ls)) ls (other l a.0).0 (aside_kept ls a.1)

    aside_all : (ls : List Device) → AllByRecursion (IsAside ghosts own) ls → AllByRecursion (IsAside ghosts own) (map g ls)
    aside_all [] a = tt
    aside_all (l ∷ ls) a = ((other l a.0).1, aside_all ls a.1)

    map_kept : (place : ℕ) (ls : List Device) → PeerAt own place ls → map kept (map g ls) ≡ map kept ls
    map_kept place [] a = absurd a
    map_kept zero (l ∷ ls) a = both_kept (kept (g l)) l (map kept (map g ls)) ls (one l a.0) (aside_kept ls a.1)
    map_kept (suc place) (l ∷ ls) a = both_kept (kept (g l)) l (map kept (map g ls)) ls (other l a.0).0 (map_kept place ls a.1)

    map_at : (place : ℕ) (ls : List Device) → PeerAt own place ls → PeerAt own place (map g ls)
    map_at place [] a = absurd a
    map_at zero (l ∷ ls) a = (ap (λ (k : Kept). k.fixed.kind) (one l a.0) ∙ a.0, aside_all ls a.1)
    map_at (suc place) (l ∷ ls) a = ((other l a.0).1, map_at place ls a.1)

    map_leaves : (place : ℕ) (ls : List Device) → PeerAt own place ls → TalkLeaves own place ls (map g ls)
    map_leaves place ls a = record { same = map_kept place ls a; at = map_at place ls a; tidy = λ t. all_tidy g tidy ls t }

  -- the dark, and light behind it
  dark_aside : (l : Device) → IsAside ghosts own l → IsAside ghosts own (devices.darkened l)
  dark_aside l a = record { rests = λ h. laws.dark_rests l; other = λ e. a.other (e ∙ (laws.dark_keeps l).0.identifier') }

  lit_aside : (l : Device) → IsAside ghosts own l → IsAside ghosts own (devices.woken (devices.darkened l))
  lit_aside (T2 d) a = record { rests = λ h. (refl, refl); other = a.other }
  lit_aside (T4 d) a = record { rests = λ h. (refl, refl); other = a.other }
  lit_aside (Peer d) a = record { rests = λ h. (refl, refl); other = a.other }
  lit_aside (T5 p) a = record { rests = λ h. absurd cc; other = a.other }
  lit_aside (T3 p) a = record { rests = λ h. absurd cc; other = a.other }

  pub dark_leaves : (place : ℕ) (ls : List Device) → PeerAt own place ls → TalkLeaves own place ls (map devices.darkened ls)
  dark_leaves place ls a = map_leaves devices.darkened (λ l is. kept_dark l) (λ l b. (kept_dark l, dark_aside l b)) dark_tidy place ls a

  pub lit_leaves : (place : ℕ) (ls : List Device) → PeerAt own place ls → TalkLeaves own place ls (map (λ l. devices.woken (devices.darkened l)) ls)
  lit_leaves place ls a =
      map_leaves (λ l. devices.woken (devices.darkened l)) (λ l is. kept_lit (devices.darkened l) ∙ kept_dark l)
      (λ l b. (kept_lit (devices.darkened l) ∙ kept_dark l, lit_aside l b)) (λ l t. woken_tidy (devices.darkened l) (dark_tidy l t)) place ls a

  module _ (r : List ℕ) where
    abbrev m : Machine Device
    m = answering devices r

    module _ (f : Signal) (whole : f ≡ whole_a f.bytes) where
      abbrev step : Device → Device
      step l = stepped_by m l f None

      same_step : (v : Bool) (l : Device) → (if v then devices.handed l f else Untouched) ≡ Untouched
          → (if v then devices.after l f (reply_for r (devices.handed l f)) else l) ≡ (if v then devices.after l f None else l)
      same_step true l q = ap (λ u. devices.after l f (reply_for r u)) q
      same_step false l q = refl

      quiet_step : (l : Device) → IsAside ghosts own l → step l ≡ stepped_by devices l f None
      quiet_step l a = same_step (hears devices l f) l (aside_silent ghosts laws own A f whole tt l a).quiet

      aside_step : (l : Device) → IsAside ghosts own l → (kept (step l) ≡ kept l) × IsAside ghosts own (step l)
      aside_step l a =
          let here : step l ≡ stepped_by devices l f None = quiet_step l a in
          (ap kept here ∙ aside_keeps own A f l whole tt a, subst (IsAside ghosts own) (sym here) (aside_silent ghosts laws own A f whole tt l a).aside)

      peer_step : (l : Device) → kind_of l ≡ PeerKind → kept (step l) ≡ kept l
      peer_step (T2 d) is = absurd cc
      peer_step (T4 d) is = absurd cc
      peer_step (Peer d) is = peer_kept d f (reply_for r (devices.handed (Peer d) f))
      peer_step (T5 p) is = absurd cc
      peer_step (T3 p) is = absurd cc

      step_leaves : (place : ℕ) (ls : List Device) → PeerAt own place ls → TalkLeaves own place ls (map step ls)
      step_leaves place ls a = map_leaves step peer_step aside_step (λ l t. stepped_tidy f (reply_for r (devices.handed l f)) l t) place ls a

    requested_leaves : (place : ℕ) (w : World Device) (f : Signal) (x : Fate) → f ≡ whole_a f.bytes → PeerAt own place w.listeners → TalkLeaves own place w.listeners (requested m w f x).listeners
    requested_leaves place w f Pass whole a = step_leaves f whole place w.listeners a
    requested_leaves place w f Damage whole a = leaves_all own place w.listeners a
    requested_leaves place w f Lose whole a = leaves_all own place w.listeners a
    requested_leaves place w f Break whole a = dark_leaves place w.listeners a

    back_leaves : (place : ℕ) (w : World Device) (x : Fate) → PeerAt own place w.listeners → TalkLeaves own place w.listeners (came_back m w x).listeners
    back_leaves place w Pass a = leaves_all own place w.listeners a
    back_leaves place w Damage a = leaves_all own place w.listeners a
    back_leaves place w Lose a = leaves_all own place w.listeners a
    back_leaves place w Break a = dark_leaves place w.listeners a

    abbrev IsWhole : Signal → Type 0
    IsWhole f = f ≡ whole_a f.bytes

    events_leave : (place : ℕ) (es : List Event) (w : World Device) → EachAsked IsWhole es → PeerAt own place w.listeners
        → TalkLeaves own place w.listeners (replay (answering_air devices r) w es).listeners
    events_leave place [] w h a = leaves_all own place w.listeners a
    events_leave place (Reset ∷ es) w h a =
        let x = lit_leaves place w.listeners a in
        leaves_both own place w.listeners (reset_by m w).listeners _ x (events_leave place es (reset_by m w) h x.at)
    events_leave place (Request f y ∷ es) w h a =
        let x = requested_leaves place w f y h.0 a in
        leaves_both own place w.listeners (requested m w f y).listeners _ x (events_leave place es (requested m w f y) h.1 x.at)
    events_leave place (Answer g y ∷ es) w h a =
        let x = back_leaves place w y a in
        leaves_both own place w.listeners (came_back m w y).listeners _ x (events_leave place es (came_back m w y) h x.at)
    events_leave place (Clash g y ∷ es) w h a =
        let x = back_leaves place w y a in
        leaves_both own place w.listeners (came_back m w y).listeners _ x (events_leave place es (came_back m w y) h x.at)

    -- whatever was due in such frames
    pub going_leaves : (place : ℕ) (next : List Note → Next) (a b : Moment (World Device)) (ns : List Note) → ((ks : List Note) (f : Signal) → next ks ≡ Asks f → IsWhole f)
        → Going (answering_air devices r) next a b ns → PeerAt own place a.world.listeners → TalkLeaves own place a.world.listeners b.world.listeners
    going_leaves place next a b ns whole g at =
        subst (λ (x : Moment (World Device)). TalkLeaves own place a.world.listeners x.world.listeners) (sym g.moment)
        (events_leave place g.events a.world (due_asked IsWhole next whole [] g.events g.each) at)
