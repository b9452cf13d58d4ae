-- What is due while frames are sent as they are is of the technology that their device's identifier tells: its selection, ATR_REQ, which a
-- peer alone is asked, and each frame.
use Rattle.std.proofs.Common.{◌≡◌, ℕ, suc, nat_lt, List, [], ◌∷◌, Bool, true, false, if◌then◌else◌, Option, Some, None, Ok, Err, refl, subst}
use Rattle.nfc_base.specs.Signal.{Signal}
use Rattle.nfc_base.specs.declared.event.Heard.{Heard}
use Rattle.nfc_base.specs.declared.event.Heard.TheVariants.{Whole, Collided, Damaged, Silent}
use Rattle.air_core.specs.Conversation.{Note, Lit, Got, Lost, Asks}
use Rattle.air_core.proofs.Following.{over_is_no_request, same_asked}
use Rattle.arrayvec.specs.ArrayVec.{ArrayVec}
use Rattle.dep_link.specs.Activating.{atr_frame, told_atr}
use Rattle.dep_link.specs.Frames.{spelled}
use Rattle.bench_script.specs.declared.command.DeviceId.{DeviceId}
use Rattle.bench_script.specs.declared.command.DeviceId.TheVariants as ids
use Rattle.bench_script.specs.DeviceIds.{tech_for}
use Rattle.bench_devices.specs.declared.polling.SeenKind.{SeenKind}
use Rattle.bench_devices.specs.declared.polling.SeenKind.TheVariants as seen
use Rattle.bench_devices.specs.Polling as polls
use Rattle.bench_devices.specs.Polling.{Followed, Told, asks, selecting}
use Rattle.bench_world.specs.Forging.{forged_general}
use Rattle.bench_world.specs.Rawing.{Rawing, Activates, Dark, Sends, Strays, Unlinked, raw_behind, raw_due, raw_first, raw_heard_atr, raw_linked_by, raw_noted, raw_stand, rawing, then_raws}
use Rattle.trace_audit.proofs.TechCommands.{AreTold}
use Rattle.trace_audit.proofs.TechPolling.{AsksOf, select_tech}
use Rattle.trace_audit.proofs.TechTags.{SeesAs, SeesBy, sees}
use Rattle.trace_audit.proofs.TechTurns.{IsOf}

-- a device of NFC-A is activated alone
abbrev MayActivate : DeviceId → Type 0
MayActivate id = SeesAs id seen.Peer

module _ (id : DeviceId) (frames : List Signal) (each : AreTold id frames) where
  abbrev SendsTold : Rawing → Type 0
  SendsTold (Activates bad) = MayActivate id
  SendsTold (Unlinked why) = Unit {0}
  SendsTold (Sends heard left) = AreTold id left
  SendsTold Dark = Unit {0}
  SendsTold Strays = Unit {0}

  linked_told : (o : Option (ℕ × ArrayVec ℕ)) → SendsTold (raw_linked_by frames o)
  linked_told None = tt
  linked_told (Some p) = each

  bad_told : (v : Bool) (bad : ℕ) (u : Rawing) → MayActivate id → SendsTold u → SendsTold (if v then Activates bad else u)
  bad_told true bad u may h = may
  bad_told false bad u may h = h

  atr_told : (bad : ℕ) (h : Heard) → MayActivate id → SendsTold (raw_heard_atr frames bad h)
  atr_told bad (Whole f) may = linked_told (told_atr (spelled f))
  atr_told bad (Collided f) may = bad_told (nat_lt bad 5) (suc bad) _ may tt
  atr_told bad Damaged may = bad_told (nat_lt bad 5) (suc bad) _ may tt
  atr_told bad Silent may = bad_told (nat_lt bad 5) (suc bad) _ may tt

  noted_told : (s : Rawing) (n : Note) → SendsTold s → SendsTold (raw_noted frames s n)
  noted_told (Activates bad) Lit h = tt
  noted_told (Activates bad) (Got g) h = atr_told bad g h
  noted_told (Activates bad) Lost h = tt
  noted_told (Unlinked why) n h = tt
  noted_told (Sends heard []) n h = tt
  noted_told (Sends heard (f ∷ left)) Lit h = tt
  noted_told (Sends heard (f ∷ left)) (Got g) h = h.1
  noted_told (Sends heard (f ∷ left)) Lost h = tt
  noted_told Dark n h = tt
  noted_told Strays n h = tt

  stand_told : (ns : List Note) (s : Rawing) → SendsTold s → SendsTold (raw_stand frames s ns)
  stand_told [] s h = h
  stand_told (n ∷ ns) s h = stand_told ns (raw_noted frames s n) (noted_told s n h)

  first_told : (kind : SeenKind) → SeesAs id kind → SendsTold (raw_first kind frames)
  first_told seen.T2 sight = each
  first_told seen.T4 sight = each
  first_told seen.T5 sight = each
  first_told seen.Peer sight = sight

  due_told : (s : Rawing) (f : Signal) → (MayActivate id → IsOf (tech_for id) (atr_frame forged_general)) → SendsTold s → raw_due s ≡ Asks f → IsOf (tech_for id) f
  due_told (Activates bad) f atr h e = subst (IsOf (tech_for id)) (same_asked (atr_frame forged_general) f e) (atr h)
  due_told (Unlinked why) f atr h e = absurd (over_is_no_request f e)
  due_told (Sends heard []) f atr h e = absurd (over_is_no_request f e)
  due_told (Sends heard (g ∷ left)) f atr h e = subst (IsOf (tech_for id)) (same_asked g f e) h.0
  due_told Dark f atr h e = absurd (over_is_no_request f e)
  due_told Strays f atr h e = absurd (over_is_no_request f e)

  then_told : (p : Followed SeenKind) (f : Signal) → SeesBy id p → (MayActivate id → IsOf (tech_for id) (atr_frame forged_general)) → (asks p ≡ Asks f → IsOf (tech_for id) f)
      → then_raws frames p ≡ Asks f → IsOf (tech_for id) f
  then_told (polls.Asks n) f sight atr first e = first e
  then_told (Told (Ok kind) ns) f sight atr first e = due_told (raw_behind frames kind ns) f atr (stand_told ns (raw_first kind frames) (first_told kind sight)) e
  then_told (Told (Err x) ns) f sight atr first e = absurd (over_is_no_request f e)

atr_of : (id : DeviceId) → MayActivate id → IsOf (tech_for id) (atr_frame forged_general)
atr_of (ids.A i) may = refl
atr_of (ids.V i) may = absurd may

pub raws_tech : (id : DeviceId) (frames : List Signal) → AreTold id frames → AsksOf (tech_for id) (rawing id frames)
raws_tech id frames each ns f e = then_told id frames each (selecting id ns) f (sees id ns) (atr_of id) (select_tech id ns f) e
