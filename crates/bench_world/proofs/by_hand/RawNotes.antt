-- What is known of the selection of a device and of ATR_REQ, where frames of a script's own are to be sent to it.
use Rattle.std.proofs.Common.{◌≡◌, ℕ, suc, List, [], ◌∷◌, ◌++◌, Bool, true, false, if◌then◌else◌, Option, Some, None, Ok, Err, refl, sym, ◌∙◌, ap, subst, append_assoc}
use Rattle.std.specs.Prelude.{nat_lt}
use Rattle.nfc_base.specs.Signal.{Signal}
use Rattle.nfc_base.specs.declared.carrier.EndCause.TheVariants as cause
use Rattle.nfc_base.specs.declared.event.Heard.{Heard}
use Rattle.nfc_base.specs.declared.event.Heard.TheVariants.{Whole, Collided, Damaged, Silent}
use Rattle.nfc_base.specs.declared.tag_link.AskFault.TheVariants as faults
use Rattle.air_core.specs.World.{World}
use Rattle.air_core.specs.Conversation.{Moment, Note, Lit, Got, Lost, Next, Over, LightUp, Asks, IsDemand, Going}
use Rattle.air_core.specs.laws.Turning.{due_weaker}
use Rattle.air_core.specs.Waits.{Standing, Asking, Broken, Astray, due_at, stand}
use Rattle.arrayvec.specs.ArrayVec.{ArrayVec}
use Rattle.dep_link.specs.Activating.{told_atr}
use Rattle.dep_link.specs.AnyTarget.{AnswersAtr, atr_next, told_initiator}
use Rattle.dep_link.specs.Frames.{spelled}
use Rattle.dep_link.specs.Initiator.{InitState}
use Rattle.nfca_poll.specs.Enquiry.{enquiring}
use Rattle.nfca_poll.specs.Inventory.{picking_v}
use Rattle.nfca_poll.specs.Rounds.{device_of, picking}
use Rattle.bench_script.specs.declared.command.DeviceId.{DeviceId}
use Rattle.bench_script.specs.declared.command.DeviceId.TheVariants.{A, V}
use Rattle.bench_devices.specs.declared.device.Device.{Device}
use Rattle.bench_devices.specs.declared.polling.SeenKind.{SeenKind}
use Rattle.bench_devices.specs.declared.polling.SeenKind.TheVariants as seen
use Rattle.bench_devices.specs.Device.{air}
use Rattle.bench_devices.specs.Opening.{linking, then_opens}
use Rattle.bench_devices.specs.Polling as polls
use Rattle.bench_devices.specs.Polling.{Followed, Told, asks, follows, kind_by, pick_v, seen_kind, selecting}
use Rattle.bench_devices.proofs.reads.CardReadingNotes.{Driven}
use Rattle.bench_devices.proofs.finding.Following.{Closes, asks_same, going_driven, kind_asks}
use Rattle.bench_devices.proofs.finding.Searching.{search_closes}
use Rattle.bench_world.specs.Forging.{forged_general}
use Rattle.bench_world.specs.Rawing.{Rawing, Activates, Sends, Unlinked, raw_linked, raw_linked_then, raw_stand, rawing, then_raws}
use Rattle.bench_world.proofs.forged.ForgeNotes.{NoRest, never_lit, no_rest, atr}
use Rattle.bench_world.proofs.by_hand.RawDue.{link_opened, opening_due}

-- What selecting asks is asked first, and then what opening a link asks.
polls_first : (frames : List Signal) (p : Followed SeenKind) (n : Next) → asks p ≡ n → IsDemand n → then_raws frames p ≡ n
polls_first frames (polls.Asks m) n h d = h
polls_first frames (Told r ns) Over h d = absurd d
polls_first frames (Told r ns) LightUp h d = absurd cc
polls_first frames (Told r ns) (Asks f) h d = absurd cc

pub selects_first : (id : DeviceId) (frames : List Signal) (ns : List Note) (n : Next) → asks (selecting id ns) ≡ n → IsDemand n → rawing id frames ns ≡ n
selects_first id frames ns n h d = polls_first frames (selecting id ns) n h d

light_then : (frames : List Signal) (p : Followed SeenKind) → then_opens forged_general p ≡ LightUp → then_raws frames p ≡ LightUp
light_then frames (polls.Asks n) e = e
light_then frames (Told (Ok seen.T2) ns) e = absurd cc
light_then frames (Told (Ok seen.T4) ns) e = absurd cc
light_then frames (Told (Ok seen.T5) ns) e = absurd cc
light_then frames (Told (Ok seen.Peer) ns) e = absurd (never_lit (stand 0 (atr ∷ []) ns) e)
light_then frames (Told (Err x) ns) e = absurd cc

pub opens_then : (id : DeviceId) (frames : List Signal) (ns : List Note) (n : Next) → linking id forged_general ns ≡ n → IsDemand n → rawing id frames ns ≡ n
opens_then id frames ns Over e d = absurd d
opens_then id frames ns LightUp e d = light_then frames (selecting id ns) e
opens_then id frames ns (Asks f) e d = opening_due frames id ns f e

-- As long as selecting alone is asked nothing is known behind its end, so no link is open.
pub none_linked : (frames : List Signal) (kind : SeenKind) → raw_linked frames kind [] ≡ false
none_linked frames seen.T2 = refl
none_linked frames seen.T4 = refl
none_linked frames seen.T5 = refl
none_linked frames seen.Peer = refl

unlinked_by : {X : Type 0} (kind : X → SeenKind) (frames : List Signal) (p : Followed X) → NoRest p → raw_linked_then frames (kind_by kind p) ≡ false
unlinked_by kind frames (polls.Asks n) h = refl
unlinked_by kind frames (Told (Ok x) ns) h = ap (raw_linked frames (kind x)) h ∙ none_linked frames (kind x)
unlinked_by kind frames (Told (Err e) ns) h = refl

a_unlinked : (id : List ℕ) (frames : List Signal) (a b : Moment (World Device)) (ns : List Note) → Going air (λ ks. asks (selecting (A id) ks)) a b ns
    → raw_linked_then frames (selecting (A id) ns) ≡ false
a_unlinked id frames a b ns g =
    let closes : Closes (picking id) = search_closes (device_of id) in
    let same : (ks : List Note) → asks (selecting (A id) ks) ≡ enquiring (picking id) ks = λ ks. kind_asks seen_kind (follows (picking id) ks) ∙ asks_same (picking id) closes ks in
    let k : Going air (enquiring (picking id)) a b ns = record {
      events = g.events;
      moment = g.moment;
      turns = g.turns;
      each = due_weaker (enquiring (picking id)) (λ ks. asks (selecting (A id) ks)) (λ ks n h d. sym (same ks) ∙ h) [] g.events g.each;
      fates = g.fates;
      fresh = g.fresh;
      known = g.known;
    } in
    unlinked_by seen_kind frames (follows (picking id) ns)
    (no_rest (picking id) closes (picking id).start ((picking id).ended (picking id).start) ns refl (going_driven (picking id) air a b ns k))

five_unlinked : {X : Type 0} (frames : List Signal) (p : Followed X) → raw_linked_then frames (kind_by (λ x. seen.T5) p) ≡ false
five_unlinked frames (polls.Asks n) = refl
five_unlinked frames (Told (Ok x) ns) = refl
five_unlinked frames (Told (Err e) ns) = refl

v_unlinked : (id : List ℕ) (frames : List Signal) (ns : List Note) → raw_linked_then frames (pick_v id ns) ≡ false
v_unlinked id frames [] = refl
v_unlinked id frames (Lit ∷ ns) = five_unlinked frames (follows (picking_v id) ns)
v_unlinked id frames (Got h ∷ ns) = refl
v_unlinked id frames (Lost ∷ ns) = refl

pub selecting_unlinked : (id : DeviceId) (frames : List Signal) (a b : Moment (World Device)) (ns : List Note) → Going air (λ ks. asks (selecting id ks)) a b ns
    → raw_linked_then frames (selecting id ns) ≡ false
selecting_unlinked (A id) frames a b ns g = a_unlinked id frames a b ns g
selecting_unlinked (V id) frames a b ns g = v_unlinked id frames ns

-- Where ATR_REQ had no whole answer no link is open.
abbrev pub Unopened : Standing → Rawing → Type 0
Unopened (Asking bad []) s = Unit {0}
Unopened (Asking bad (c ∷ cs)) s = s ≡ Activates bad
Unopened (Broken faults.FieldLost cs) s = s ≡ Unlinked cause.FieldLost
Unopened (Broken faults.SixBad cs) s = s ≡ Unlinked cause.SixBad
Unopened (Broken faults.Memory cs) s = ⊥
Unopened (Broken faults.Protocol cs) s = ⊥
Unopened Astray s = Unit {0}

module _ (frames : List Signal) where
  abbrev At : List Note → ℕ → Type 0
  At before bad = (xs : List Note) → stand 0 (atr ∷ []) (before ++ xs) ≡ stand bad (atr ∷ []) xs

  -- nothing is due where the wait is broken
  done : (before : List Note) (n : Note) → due_at (stand 0 (atr ∷ []) (before ++ n ∷ [])) ≡ Over → IsDemand (atr_next forged_general (before ++ n ∷ [])) → ⊥
  done before n over d = subst IsDemand over d

  abbrev if_bad : Bool → ℕ → List Note → Standing
  if_bad v bad ns = if v then stand (suc bad) (atr ∷ []) ns else Broken faults.SixBad (atr ∷ [])

  abbrev if_raw : Bool → ℕ → Rawing
  if_raw v bad = if v then Activates (suc bad) else Unlinked cause.SixBad

  bad_heard : (h : Heard) (ns before : List Note) (bad : ℕ) (v : Bool) → nat_lt bad 5 ≡ v → ((xs : List Note) → stand 0 (atr ∷ []) (before ++ Got h ∷ xs) ≡ if_bad (nat_lt bad 5) bad xs)
      → Driven (atr_next forged_general) (before ++ Got h ∷ []) ns → (At (before ++ Got h ∷ []) (suc bad) → Unopened (stand (suc bad) (atr ∷ []) ns) (raw_stand frames (Activates (suc bad)) ns))
      → Unopened (if_bad v bad ns) (raw_stand frames (if_raw v bad) ns)
  bad_heard h ns before bad true is at d more = more (λ xs. ap (stand 0 (atr ∷ [])) (append_assoc before (Got h ∷ []) xs) ∙ at xs ∙ ap (λ v. if_bad v bad xs) is)
  bad_heard h [] before bad false is at d more = refl
  bad_heard h (n ∷ ns) before bad false is at d more = absurd (done before (Got h) (ap due_at (at [] ∙ ap (λ v. if_bad v bad []) is)) d.0)

  unopened : (ns before : List Note) (bad : ℕ) → At before bad → Driven (atr_next forged_general) before ns → Unopened (stand bad (atr ∷ []) ns) (raw_stand frames (Activates bad) ns)
  unopened [] before bad at d = refl
  unopened (Lit ∷ ns) before bad at d = tt
  unopened (Lost ∷ []) before bad at d = refl
  unopened (Lost ∷ n ∷ ns) before bad at d = absurd (done before Lost (ap due_at (at (Lost ∷ []))) d.1.0)
  unopened (Got (Whole g) ∷ []) before bad at d = tt
  unopened (Got (Whole g) ∷ n ∷ ns) before bad at d = tt
  unopened (Got (Collided g) ∷ ns) before bad at d =
      bad_heard (Collided g) ns before bad (nat_lt bad 5) refl (λ xs. at (Got (Collided g) ∷ xs)) d.1 (λ more. unopened ns (before ++ Got (Collided g) ∷ []) (suc bad) more d.1)
  unopened (Got Damaged ∷ ns) before bad at d =
      bad_heard Damaged ns before bad (nat_lt bad 5) refl (λ xs. at (Got Damaged ∷ xs)) d.1 (λ more. unopened ns (before ++ Got Damaged ∷ []) (suc bad) more d.1)
  unopened (Got Silent ∷ ns) before bad at d =
      bad_heard Silent ns before bad (nat_lt bad 5) refl (λ xs. at (Got Silent ∷ xs)) d.1 (λ more. unopened ns (before ++ Got Silent ∷ []) (suc bad) more d.1)

  pub stays_unopened : (ns : List Note) → Driven (atr_next forged_general) [] ns → Unopened (stand 0 (atr ∷ []) ns) (raw_stand frames (Activates 0) ns)
  stays_unopened ns d = unopened ns [] 0 (λ xs. refl) d

  -- Where ATR_RES came the frames are sent.
  by_told : (ns before : List Note) (b : ℕ) (f : Signal) (p : InitState × ArrayVec ℕ) (o : Option (ℕ × ArrayVec ℕ)) → stand 0 (atr ∷ []) ns ≡ Asking b [] → ns ≡ before ++ Got (Whole f) ∷ []
      → told_atr (spelled f) ≡ o
      → Ok p ≡ told_initiator o → raw_stand frames (Activates 0) ns ≡ Sends [] frames
  by_told ns before b f p None at split told is = absurd cc
  by_told ns before b f p (Some q) at split told is = link_opened frames ns before b f q at split told

  pub opened_by : (ns : List Note) (p : InitState × ArrayVec ℕ) (s : Standing) → stand 0 (atr ∷ []) ns ≡ s → AnswersAtr true ns s (Ok p) → raw_stand frames (Activates 0) ns ≡ Sends [] frames
  opened_by ns p (Asking b []) at (before, f, split, is) = by_told ns before b f p (told_atr (spelled f)) at split refl is
  opened_by ns p (Asking b (c ∷ cs)) at h = absurd cc
  opened_by ns p (Broken x cs) at h = absurd cc
  opened_by ns p Astray at h = absurd h
