-- What is known of the selection of a peer and of ATR_REQ, where payloads that were written by hand are to be sent to it.
use Rattle.std.proofs.Common.{◌≡◌, ℕ, suc, List, [], ◌∷◌, ◌++◌, Bool, true, false, if◌then◌else◌, Option, Some, None, Result, Ok, Err, refl, sym, ◌∙◌, ap, subst, append_assoc}
use Rattle.std.specs.Prelude.{nat_lt}
use Rattle.nfc_base.specs.Signal.{Signal}
use Rattle.nfc_base.specs.declared.carrier.EndCause.TheVariants as cause
use Rattle.nfc_base.specs.declared.event.Heard.{Heard}
use Rattle.nfc_base.specs.declared.event.Heard.TheVariants.{Whole, Collided, Damaged, Silent}
use Rattle.nfc_base.specs.declared.tag_link.AskFault.TheVariants as faults
use Rattle.air_core.specs.World.{Machine, World}
use Rattle.air_core.specs.Turn.{Air}
use Rattle.air_core.specs.Conversation.{Moment, Note, Lit, Got, Lost, Next, Over, LightUp, Asks, IsDemand, Going}
use Rattle.air_core.specs.Speaking.{DueTurns}
use Rattle.air_core.specs.laws.Turning.{due_weaker}
use Rattle.air_core.specs.Waits.{Standing, Asking, Broken, Astray, due_at, stand}
use Rattle.air_core.proofs.Following.{no_demand}
use Rattle.arrayvec.specs.ArrayVec.{ArrayVec}
use Rattle.dep_link.specs.Activating.{atr_frame, told_atr}
use Rattle.dep_link.specs.AnyTarget.{AnswersAtr, atr_next, told_initiator}
use Rattle.dep_link.specs.Frames.{spelled}
use Rattle.dep_link.specs.Initiator.{InitState, waiting}
use Rattle.link_calls.specs.Exchanging.{by_hand, sending}
use Rattle.link_calls.specs.Walk.{walk_at}
use Rattle.nfca_poll.specs.declared.fault.PollFault.{PollFault}
use Rattle.nfca_poll.specs.Enquiry.{Enquiry, enquiring}
use Rattle.nfca_poll.specs.Rounds.{device_of, picking}
use Rattle.bench_script.specs.declared.command.DeviceId.TheVariants.{A}
use Rattle.bench_devices.specs.declared.device.Device.{Device}
use Rattle.bench_devices.specs.declared.polling.SeenKind.{SeenKind}
use Rattle.bench_devices.specs.declared.polling.SeenKind.TheVariants as seen
use Rattle.bench_devices.specs.Device.{air}
use Rattle.bench_devices.specs.Opening.{linking, then_opens}
use Rattle.bench_devices.specs.Polling as polls
use Rattle.bench_devices.specs.Polling.{Followed, Told, asks, followed, follows, kind_by, seen_kind, selecting}
use Rattle.bench_devices.proofs.reads.CardReadingNotes.{Driven}
use Rattle.bench_devices.proofs.finding.Following as following
use Rattle.bench_devices.proofs.finding.Following.{Closes, HasEnded, asks_same, going_driven, kind_asks}
use Rattle.bench_devices.proofs.finding.Searching.{search_closes}
use Rattle.bench_world.specs.Forging.{Forging, Activates, Exchanges, Unlinked, forge_stand, forged_general, forging, linked_then, peer_linked, then_forges}
use Rattle.bench_world.proofs.forged.ForgingDue.{link_opened, opening_due}

abbrev pub atr : Signal
atr = atr_frame forged_general

-- no wait lights the field up
pub never_lit : (s : Standing) → due_at s ≡ LightUp → ⊥
never_lit (Asking bad []) e = cc
never_lit (Asking bad (c ∷ cs)) e = cc
never_lit (Broken x cs) e = cc
never_lit Astray e = cc

-- What selecting asks is asked first, and then what opening a link asks.
polls_first : (payloads : List (List ℕ)) (p : Followed SeenKind) (n : Next) → asks p ≡ n → IsDemand n → then_forges payloads p ≡ n
polls_first payloads (polls.Asks m) n h d = h
polls_first payloads (Told r ns) Over h d = absurd d
polls_first payloads (Told r ns) LightUp h d = absurd cc
polls_first payloads (Told r ns) (Asks f) h d = absurd cc

pub selects_first : (id : List ℕ) (payloads : List (List ℕ)) (ns : List Note) (n : Next) → asks (selecting (A id) ns) ≡ n → IsDemand n → forging id payloads ns ≡ n
selects_first id payloads ns n h d = polls_first payloads (selecting (A id) ns) n h d

light_then : (payloads : List (List ℕ)) (p : Followed SeenKind) → then_opens forged_general p ≡ LightUp → then_forges payloads p ≡ LightUp
light_then payloads (polls.Asks n) e = e
light_then payloads (Told (Ok seen.T2) ns) e = absurd cc
light_then payloads (Told (Ok seen.T4) ns) e = absurd cc
light_then payloads (Told (Ok seen.T5) ns) e = absurd cc
light_then payloads (Told (Ok seen.Peer) ns) e = absurd (never_lit (stand 0 (atr ∷ []) ns) e)
light_then payloads (Told (Err x) ns) e = absurd cc

pub opens_then : (id : List ℕ) (payloads : List (List ℕ)) (ns : List Note) (n : Next) → linking (A id) forged_general ns ≡ n → IsDemand n → forging id payloads ns ≡ n
opens_then id payloads ns Over e d = absurd d
opens_then id payloads ns LightUp e d = light_then payloads (selecting (A id) ns) e
opens_then id payloads ns (Asks f) e d = opening_due payloads id ns f e

-- As long as selecting alone is asked nothing is known behind its end, so no link is open.
abbrev pub NoRest : {X : Type 0} → Followed X → Type 0
NoRest (polls.Asks n) = Unit {0}
NoRest (Told r ns) = ns ≡ []

module _ {S X : Type 0} (e : Enquiry S X) (closes : Closes e) where
  idle : (s : S) (r : Result X PollFault) → e.ended s ≡ Some r → IsDemand (e.next s) → ⊥
  idle s r h d = no_demand (e.next s) (closes.silent s (subst HasEnded (sym h) tt)) d

  pub no_rest : (s : S) (o : Option (Result X PollFault)) (ns : List Note) → e.ended s ≡ o → following.Driven e s ns → NoRest (followed e s o ns)
  no_rest s (Some r) [] h d = refl
  no_rest s (Some r) (Lit ∷ ns) h d = absurd (idle s r h d.0)
  no_rest s (Some r) (Got g ∷ ns) h d = absurd (idle s r h d.0)
  no_rest s (Some r) (Lost ∷ ns) h d = absurd (idle s r h d.0)
  no_rest s None [] h d = tt
  no_rest s None (Lit ∷ ns) h d = no_rest (e.light s) (e.ended (e.light s)) ns refl d.1
  no_rest s None (Got g ∷ ns) h d = no_rest (e.step s g) (e.ended (e.step s g)) ns refl d.1
  no_rest s None (Lost ∷ ns) h d = d.1

pub none_linked : (payloads : List (List ℕ)) (kind : SeenKind) → peer_linked payloads kind [] ≡ false
none_linked payloads seen.T2 = refl
none_linked payloads seen.T4 = refl
none_linked payloads seen.T5 = refl
none_linked payloads seen.Peer = refl

unlinked_by : {X : Type 0} (kind : X → SeenKind) (payloads : List (List ℕ)) (p : Followed X) → NoRest p → linked_then payloads (kind_by kind p) ≡ false
unlinked_by kind payloads (polls.Asks n) h = refl
unlinked_by kind payloads (Told (Ok x) ns) h = ap (peer_linked payloads (kind x)) h ∙ none_linked payloads (kind x)
unlinked_by kind payloads (Told (Err e) ns) h = refl

pub selecting_unlinked : (id : List ℕ) (payloads : List (List ℕ)) (a b : Moment (World Device)) (ns : List Note) → Going air (λ ks. asks (selecting (A id) ks)) a b ns
    → linked_then payloads (selecting (A id) ns) ≡ false
selecting_unlinked id payloads a b ns g =
    let closes : Closes (picking id) = search_closes (device_of id) in
    let same : (ks : List Note) → asks (selecting (A id) ks) ≡ enquiring (picking id) ks = λ ks. kind_asks seen_kind (follows (picking id) ks) ∙ asks_same (picking id) closes ks in
    let k : Going air (enquiring (picking id)) a b ns = record {
      events = g.events;
      moment = g.moment;
      turns = g.turns;
      each = due_weaker (enquiring (picking id)) (λ ks. asks (selecting (A id) ks)) (λ ks n h d. sym (same ks) ∙ h) [] g.events g.each;
      fates = g.fates;
      fresh = g.fresh;
      known = g.known;
    } in
    unlinked_by seen_kind payloads (follows (picking id) ns)
    (no_rest (picking id) closes (picking id).start ((picking id).ended (picking id).start) ns refl (going_driven (picking id) air a b ns k))

-- what was said turn by turn was due before each note
pub due_driven : {L F : Type 0} (m : Machine L) (restarts : F → List ℕ → F → Type 0) (steps : F → List ℕ → List ℕ → F → Type 0) (next : List Note → Next) (ns before : List Note) (old : Air L)
    (far : F) (new : Air L) (after : F)
    → DueTurns m restarts steps next before old far ns new after → Driven next before ns
due_driven m restarts steps next [] before old far new after d = tt
due_driven m restarts steps next (n ∷ ns) before old far new after (f, h, mid, half, due, known, turn, rest) =
    (subst IsDemand (sym due) tt, due_driven m restarts steps next ns (before ++ n ∷ []) mid half new after rest)

-- Where ATR_REQ had no whole answer no link is open.
abbrev pub Unopened : Standing → Forging → Type 0
Unopened (Asking bad []) s = Unit {0}
Unopened (Asking bad (c ∷ cs)) s = s ≡ Activates bad
Unopened (Broken faults.FieldLost cs) s = s ≡ Unlinked cause.FieldLost
Unopened (Broken faults.SixBad cs) s = s ≡ Unlinked cause.SixBad
Unopened (Broken faults.Memory cs) s = ⊥
Unopened (Broken faults.Protocol cs) s = ⊥
Unopened Astray s = Unit {0}

module _ (payloads : List (List ℕ)) where
  abbrev At : List Note → ℕ → Type 0
  At before bad = (xs : List Note) → stand 0 (atr ∷ []) (before ++ xs) ≡ stand bad (atr ∷ []) xs

  -- nothing is due where the wait is broken
  done : (before : List Note) (n : Note) → due_at (stand 0 (atr ∷ []) (before ++ n ∷ [])) ≡ Over → IsDemand (atr_next forged_general (before ++ n ∷ [])) → ⊥
  done before n over d = subst IsDemand over d

  abbrev if_bad : Bool → ℕ → List Note → Standing
  if_bad v bad ns = if v then stand (suc bad) (atr ∷ []) ns else Broken faults.SixBad (atr ∷ [])

  abbrev if_forged : Bool → ℕ → Forging
  if_forged v bad = if v then Activates (suc bad) else Unlinked cause.SixBad

  bad_heard : (h : Heard) (ns before : List Note) (bad : ℕ) (v : Bool) → nat_lt bad 5 ≡ v → ((xs : List Note) → stand 0 (atr ∷ []) (before ++ Got h ∷ xs) ≡ if_bad (nat_lt bad 5) bad xs)
      → Driven (atr_next forged_general) (before ++ Got h ∷ []) ns → (At (before ++ Got h ∷ []) (suc bad) → Unopened (stand (suc bad) (atr ∷ []) ns) (forge_stand payloads (Activates (suc bad)) ns))
      → Unopened (if_bad v bad ns) (forge_stand payloads (if_forged v bad) ns)
  bad_heard h ns before bad true is at d more = more (λ xs. ap (stand 0 (atr ∷ [])) (append_assoc before (Got h ∷ []) xs) ∙ at xs ∙ ap (λ v. if_bad v bad xs) is)
  bad_heard h [] before bad false is at d more = refl
  bad_heard h (n ∷ ns) before bad false is at d more = absurd (done before (Got h) (ap due_at (at [] ∙ ap (λ v. if_bad v bad []) is)) d.0)

  unopened : (ns before : List Note) (bad : ℕ) → At before bad → Driven (atr_next forged_general) before ns → Unopened (stand bad (atr ∷ []) ns) (forge_stand payloads (Activates bad) ns)
  unopened [] before bad at d = refl
  unopened (Lit ∷ ns) before bad at d = tt
  unopened (Lost ∷ []) before bad at d = refl
  unopened (Lost ∷ n ∷ ns) before bad at d = absurd (done before Lost (ap due_at (at (Lost ∷ []))) d.1.0)
  unopened (Got (Whole g) ∷ []) before bad at d = tt
  unopened (Got (Whole g) ∷ n ∷ ns) before bad at d = tt
  unopened (Got (Collided g) ∷ ns) before bad at d =
      bad_heard (Collided g) ns before bad (nat_lt bad 5) refl (λ xs. at (Got (Collided g) ∷ xs)) d.1 (λ more. unopened ns (before ++ Got (Collided g) ∷ []) (suc bad) more d.1)
  unopened (Got Damaged ∷ ns) before bad at d =
      bad_heard Damaged ns before bad (nat_lt bad 5) refl (λ xs. at (Got Damaged ∷ xs)) d.1 (λ more. unopened ns (before ++ Got Damaged ∷ []) (suc bad) more d.1)
  unopened (Got Silent ∷ ns) before bad at d =
      bad_heard Silent ns before bad (nat_lt bad 5) refl (λ xs. at (Got Silent ∷ xs)) d.1 (λ more. unopened ns (before ++ Got Silent ∷ []) (suc bad) more d.1)

  pub stays_unopened : (ns : List Note) → Driven (atr_next forged_general) [] ns → Unopened (stand 0 (atr ∷ []) ns) (forge_stand payloads (Activates 0) ns)
  stays_unopened ns d = unopened ns [] 0 (λ xs. refl) d

  -- Where ATR_RES came the payloads are exchanged.
  abbrev pub At_first : InitState → Forging
  At_first i = Exchanges (walk_at by_hand (sending payloads []) i)

  by_told : (ns before : List Note) (b : ℕ) (f : Signal) (p : InitState × ArrayVec ℕ) (o : Option (ℕ × ArrayVec ℕ)) → stand 0 (atr ∷ []) ns ≡ Asking b [] → ns ≡ before ++ Got (Whole f) ∷ []
      → told_atr (spelled f) ≡ o
      → Ok p ≡ told_initiator o → forge_stand payloads (Activates 0) ns ≡ At_first p.0
  by_told ns before b f p None at split told is = absurd cc
  by_told ns before b f p (Some q) at split told is =
      let same : waiting q.0 ≡ p.0 = (let both : p ≡ (waiting q.0, q.1) = cc in sym (ap (λ (x : InitState × ArrayVec ℕ). x.0) both)) in
      link_opened payloads ns before b f q at split told ∙ ap At_first same

  pub opened_by : (ns : List Note) (p : InitState × ArrayVec ℕ) (s : Standing) → stand 0 (atr ∷ []) ns ≡ s → AnswersAtr true ns s (Ok p) → forge_stand payloads (Activates 0) ns ≡ At_first p.0
  opened_by ns p (Asking b []) at (before, f, split, is) = by_told ns before b f p (told_atr (spelled f)) at split refl is
  opened_by ns p (Asking b (c ∷ cs)) at h = absurd cc
  opened_by ns p (Broken x cs) at h = absurd cc
  opened_by ns p Astray at h = absurd h
