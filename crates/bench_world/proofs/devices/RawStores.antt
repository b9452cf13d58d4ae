-- No frame that is sent as it is, nor what selects its device, is one of NFC-F, so each Type 3 tag keeps its store.
use Rattle.std.proofs.Common.{◌≡◌, ℕ, suc, List, [], ◌∷◌, map, Bool, true, false, if◌then◌else◌, Option, Some, None, Ok, Err, refl, sym, ◌∙◌, ap, subst}
use Rattle.std.specs.Prelude.{nat_lt}
use Rattle.std.specs.List.{AllByRecursion}
use Rattle.nfc_base.specs.Signal.{Signal}
use Rattle.nfc_base.specs.declared.event.Event.{Event}
use Rattle.nfc_base.specs.declared.event.Event.TheVariants.{Reset, Request, Answer, Clash}
use Rattle.nfc_base.specs.declared.event.Fate.TheVariants.{Pass, Damage, Lose, Break}
use Rattle.nfc_base.specs.declared.event.Heard.{Heard}
use Rattle.nfc_base.specs.declared.event.Heard.TheVariants.{Whole, Collided, Damaged, Silent}
use Rattle.nfc_base.specs.declared.frame.Tech.{Tech}
use Rattle.nfc_base.specs.declared.frame.Tech.TheVariants as techs
use Rattle.air_core.specs.Conversation.{Note, Lit, Got, Lost, Asks, replay}
use Rattle.air_core.specs.Joint.{same_tech}
use Rattle.air_core.specs.World.{stepped_by}
use Rattle.air_core.proofs.Following.{over_is_no_request, same_asked}
use Rattle.arrayvec.specs.ArrayVec.{ArrayVec}
use Rattle.dep_link.specs.Activating.{atr_frame, told_atr}
use Rattle.dep_link.specs.Frames.{spelled}
use Rattle.far_air.specs.FarEnds.{first_far, later_fars, numbers_left}
use Rattle.far_air.specs.FarWorld.{all_meet, reply_at}
use Rattle.nfca_poll.specs.Enquiry.{enquiring}
use Rattle.nfca_poll.specs.Rounds.{device_of, picking}
use Rattle.peer_air.specs.PeerFars.{peer_ends}
use Rattle.bench_script.specs.declared.command.DeviceId.{DeviceId}
use Rattle.bench_script.specs.declared.command.DeviceId.TheVariants as ids
use Rattle.bench_script.specs.DeviceIds.{tech_for}
use Rattle.bench_devices.specs.declared.device.Device.{Device}
use Rattle.bench_devices.specs.declared.device.Device.TheVariants.{T2, T4, Peer, T5, T3}
use Rattle.bench_devices.specs.declared.polling.SeenKind.{SeenKind}
use Rattle.bench_devices.specs.declared.polling.SeenKind.TheVariants as seen
use Rattle.bench_devices.specs.Device.{devices, device_linked, device_store, kind_of}
use Rattle.bench_devices.specs.Keeping.{EachAsked, Fixed}
use Rattle.bench_devices.specs.Kinds.{DeviceKind, T2Kind, T4Kind, PeerKind, T5Kind}
use Rattle.bench_devices.specs.Polling as polls
use Rattle.bench_devices.specs.Polling.{Followed, Told, asks, follows, seen_kind, selecting}
use Rattle.bench_devices.proofs.finding.Following.{asks_same, kind_asks}
use Rattle.bench_devices.proofs.finding.Searching.{IsCall, asks_calls, search_closes}
use Rattle.bench_devices.proofs.finding.SelectingV.{next_inventory}
use Rattle.bench_world.specs.Forging.{forged_general}
use Rattle.bench_world.specs.Rawing.{Rawing, Activates, Dark, Sends, Strays, Unlinked, raw_behind, raw_due, raw_first, raw_heard_atr, raw_linked_by, raw_noted, raw_stand, rawing, then_raws}
use Rattle.bench_world.specs.Threes.{AreWellStored, IfThree, IsWellStored}
use Rattle.bench_world.specs.World.{FarEnd, WholeWorld, bench_air}
use Rattle.bench_world.proofs.devices.FarStays.{stays_any}
use Rattle.t3t_tag.specs.Store.{IsT3Store}

-- a frame of another technology
abbrev pub IsNoF : Signal → Type 0
IsNoF f = f.tech ≡ techs.F → ⊥

a_is_no_f : (f : Signal) → f.tech ≡ techs.A → IsNoF f
a_is_no_f f of_a of_f = absurd (let clash : techs.A ≡ techs.F = sym of_a ∙ of_f in cc)

v_is_no_f : (f : Signal) → f.tech ≡ techs.V → IsNoF f
v_is_no_f f of_v of_f = absurd (let clash : techs.V ≡ techs.F = sym of_v ∙ of_f in cc)

device_no_f : (id : DeviceId) (f : Signal) → f.tech ≡ tech_for id → IsNoF f
device_no_f (ids.A i) f is = a_is_no_f f is
device_no_f (ids.V i) f is = v_is_no_f f is

-- What is due: a call or an inventory, ATR_REQ, and the frames.
select_no_f : (id : DeviceId) (ns : List Note) (f : Signal) → asks (selecting id ns) ≡ Asks f → IsNoF f
select_no_f (ids.A i) ns f e =
    let same : asks (selecting (ids.A i) ns) ≡ enquiring (picking i) ns = kind_asks seen_kind (follows (picking i) ns) ∙ asks_same (picking i) (search_closes (device_of i)) ns in
    let is : IsCall f = asks_calls (device_of i) ns f (sym same ∙ e) in
    a_is_no_f f is.of_a
select_no_f (ids.V i) ns f e = v_is_no_f f (ap (λ (g : Signal). g.tech) (next_inventory i ns f e))

abbrev pub AreNoF : List Signal → Type 0
AreNoF frames = AllByRecursion IsNoF frames

abbrev SendsNoF : Rawing → Type 0
SendsNoF (Activates bad) = Unit {0}
SendsNoF (Unlinked why) = Unit {0}
SendsNoF (Sends heard left) = AreNoF left
SendsNoF Dark = Unit {0}
SendsNoF Strays = Unit {0}

due_no_f : (s : Rawing) (f : Signal) → SendsNoF s → raw_due s ≡ Asks f → IsNoF f
due_no_f (Activates bad) f h e = a_is_no_f f (ap (λ (g : Signal). g.tech) (sym (same_asked (atr_frame forged_general) f e)))
due_no_f (Unlinked why) f h e = absurd (over_is_no_request f e)
due_no_f (Sends heard []) f h e = absurd (over_is_no_request f e)
due_no_f (Sends heard (g ∷ left)) f h e = subst IsNoF (same_asked g f e) h.0
due_no_f Dark f h e = absurd (over_is_no_request f e)
due_no_f Strays f h e = absurd (over_is_no_request f e)

module _ (frames : List Signal) (each : AreNoF frames) where
  linked_no_f : (o : Option (ℕ × ArrayVec ℕ)) → SendsNoF (raw_linked_by frames o)
  linked_no_f None = tt
  linked_no_f (Some p) = each

  bad_no_f : (v : Bool) (bad : ℕ) (u : Rawing) → SendsNoF u → SendsNoF (if v then Activates bad else u)
  bad_no_f true bad u h = tt
  bad_no_f false bad u h = h

  atr_no_f : (bad : ℕ) (h : Heard) → SendsNoF (raw_heard_atr frames bad h)
  atr_no_f bad (Whole f) = linked_no_f (told_atr (spelled f))
  atr_no_f bad (Collided f) = bad_no_f (nat_lt bad 5) (suc bad) _ tt
  atr_no_f bad Damaged = bad_no_f (nat_lt bad 5) (suc bad) _ tt
  atr_no_f bad Silent = bad_no_f (nat_lt bad 5) (suc bad) _ tt

  noted_no_f : (s : Rawing) (n : Note) → SendsNoF s → SendsNoF (raw_noted frames s n)
  noted_no_f (Activates bad) Lit h = tt
  noted_no_f (Activates bad) (Got g) h = atr_no_f bad g
  noted_no_f (Activates bad) Lost h = tt
  noted_no_f (Unlinked why) n h = tt
  noted_no_f (Sends heard []) n h = tt
  noted_no_f (Sends heard (f ∷ left)) Lit h = tt
  noted_no_f (Sends heard (f ∷ left)) (Got g) h = h.1
  noted_no_f (Sends heard (f ∷ left)) Lost h = tt
  noted_no_f Dark n h = tt
  noted_no_f Strays n h = tt

  stand_no_f : (ns : List Note) (s : Rawing) → SendsNoF s → SendsNoF (raw_stand frames s ns)
  stand_no_f [] s h = h
  stand_no_f (n ∷ ns) s h = stand_no_f ns (raw_noted frames s n) (noted_no_f s n h)

  first_no_f : (kind : SeenKind) → SendsNoF (raw_first kind frames)
  first_no_f seen.T2 = each
  first_no_f seen.T4 = each
  first_no_f seen.T5 = each
  first_no_f seen.Peer = tt

  then_no_f : (p : Followed SeenKind) (f : Signal) → (asks p ≡ Asks f → IsNoF f) → then_raws frames p ≡ Asks f → IsNoF f
  then_no_f (polls.Asks n) f first e = first e
  then_no_f (Told (Ok kind) ns) f first e = due_no_f (raw_behind frames kind ns) f (stand_no_f ns (raw_first kind frames) (first_no_f kind)) e
  then_no_f (Told (Err x) ns) f first e = absurd (over_is_no_request f e)

  pub raws_no_f : (id : DeviceId) (ns : List Note) (f : Signal) → rawing id frames ns ≡ Asks f → IsNoF f
  raws_no_f id ns f e = then_no_f (selecting id ns) f (select_no_f id ns f) e

pub frames_no_f : (id : DeviceId) (frames : List Signal) → AllByRecursion (λ (f : Signal). f.tech ≡ tech_for id) frames → AreNoF frames
frames_no_f id [] h = tt
frames_no_f id (f ∷ fs) h = (device_no_f id f h.0, frames_no_f id fs h.1)

-- So a Type 3 tag keeps its store, ...
abbrev WellAs : DeviceKind → List ℕ → Type 0
WellAs k store = IfThree k (IsT3Store store) (Unit {0})

well_of_kind : (d e : Device) (k : DeviceKind) → kind_of d ≡ k → kind_of e ≡ kind_of d → ((store : List ℕ) → WellAs k store) → IsWellStored e
well_of_kind d e k is same any = subst (λ z. WellAs z (device_store e)) (sym (same ∙ is)) (any (device_store e))

step_well : (f : Signal) (reply : Option (List ℕ)) (d : Device) → IsNoF f → IsWellStored d → IsWellStored (stepped_by devices d f reply)
step_well f reply (T2 d) apart h = well_of_kind (T2 d) (stepped_by devices (T2 d) f reply) T2Kind refl (ap (λ (x : Fixed). x.kind) (stays_any f reply (T2 d)).fixed) (λ store. tt)
step_well f reply (T4 d) apart h = well_of_kind (T4 d) (stepped_by devices (T4 d) f reply) T4Kind refl (ap (λ (x : Fixed). x.kind) (stays_any f reply (T4 d)).fixed) (λ store. tt)
step_well f reply (Peer d) apart h = well_of_kind (Peer d) (stepped_by devices (Peer d) f reply) PeerKind refl (ap (λ (x : Fixed). x.kind) (stays_any f reply (Peer d)).fixed) (λ store. tt)
step_well f reply (T5 p) apart h = well_of_kind (T5 p) (stepped_by devices (T5 p) f reply) T5Kind refl (ap (λ (x : Fixed). x.kind) (stays_any f reply (T5 p)).fixed) (λ store. tt)
step_well f reply (T3 p) apart h = by_tech f.tech apart
  where
    by_tech : (t : Tech) → (t ≡ techs.F → ⊥) → IsWellStored (if same_tech techs.F t then devices.after (T3 p) f reply else T3 p)
    by_tech techs.A other = h
    by_tech techs.F other = absurd (other refl)
    by_tech techs.V other = h

reset_well : (d : Device) → IsWellStored d → IsWellStored (devices.woken (devices.darkened d))
reset_well (T2 d) h = tt
reset_well (T4 d) h = tt
reset_well (Peer d) h = tt
reset_well (T5 p) h = tt
reset_well (T3 p) h = h

dark_well : (d : Device) → IsWellStored d → IsWellStored (devices.darkened d)
dark_well (T2 d) h = tt
dark_well (T4 d) h = tt
dark_well (Peer d) h = tt
dark_well (T5 p) h = tt
dark_well (T3 p) h = h

map_well : (g : Device → Device) → ((d : Device) → IsWellStored d → IsWellStored (g d)) → (ds : List Device) → AreWellStored ds → AreWellStored (map g ds)
map_well g well [] h = tt
map_well g well (d ∷ ds) h = (well d h.0, map_well g well ds h.1)

met_well : (f : Signal) → IsNoF f → (ds : List Device) (os : List (Option FarEnd)) (ns : List ℕ) → AreWellStored ds → AreWellStored (all_meet devices device_linked peer_ends f ds os ns).listeners
met_well f apart [] os ns h = tt
met_well f apart (d ∷ ds) os ns h = (
  step_well f (reply_at devices device_linked peer_ends d f (first_far os) ns) d apart h.0,
  met_well f apart ds (later_fars os) (numbers_left (reply_at devices device_linked peer_ends d f (first_far os) ns) ns) h.1,
)

-- ... through any events in which no request is one of NFC-F.
pub events_well : (es : List Event) (w : WholeWorld) → EachAsked IsNoF es → AreWellStored w.field.listeners → AreWellStored (replay bench_air w es).field.listeners
events_well [] w each h = h
events_well (Reset ∷ es) w each h = events_well es (bench_air.happens w Reset) each (map_well (λ d. devices.woken (devices.darkened d)) reset_well w.field.listeners h)
events_well (Request f Pass ∷ es) w each h = events_well es (bench_air.happens w (Request f Pass)) each.1 (met_well f each.0 w.field.listeners w.fars w.numbers h)
events_well (Request f Damage ∷ es) w each h = events_well es (bench_air.happens w (Request f Damage)) each.1 h
events_well (Request f Lose ∷ es) w each h = events_well es (bench_air.happens w (Request f Lose)) each.1 h
events_well (Request f Break ∷ es) w each h = events_well es (bench_air.happens w (Request f Break)) each.1 (map_well devices.darkened dark_well w.field.listeners h)
events_well (Answer g Pass ∷ es) w each h = events_well es (bench_air.happens w (Answer g Pass)) each h
events_well (Answer g Damage ∷ es) w each h = events_well es (bench_air.happens w (Answer g Damage)) each h
events_well (Answer g Lose ∷ es) w each h = events_well es (bench_air.happens w (Answer g Lose)) each h
events_well (Answer g Break ∷ es) w each h = events_well es (bench_air.happens w (Answer g Break)) each (map_well devices.darkened dark_well w.field.listeners h)
events_well (Clash g Pass ∷ es) w each h = events_well es (bench_air.happens w (Clash g Pass)) each h
events_well (Clash g Damage ∷ es) w each h = events_well es (bench_air.happens w (Clash g Damage)) each h
events_well (Clash g Lose ∷ es) w each h = events_well es (bench_air.happens w (Clash g Lose)) each h
events_well (Clash g Break ∷ es) w each h = events_well es (bench_air.happens w (Clash g Break)) each (map_well devices.darkened dark_well w.field.listeners h)
