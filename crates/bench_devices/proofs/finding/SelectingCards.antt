-- The bench's devices as a crowd of cards: at a call each steps by its front and keeps what it holds, and no two have one
-- identifier.
use Rattle.std.proofs.Common.{◌≡◌, ◌≢◌, ◌⊎◌, ℕ, suc, ◌≤◌, ◌<◌, List, [], ◌∷◌, length, map, filter_map, Bool, true, false, not, ◌&&◌, Option, Some, None, inl, inr, refl, ◌∙◌, ap, arith}
use Rattle.std.specs.List.{AllByRecursion, cons_option}
use Rattle.nfc_base.specs.declared.frame.Tech.TheVariants.{A}
use Rattle.nfc_base.specs.Signal.{Signal}
use Rattle.nfca_poll.specs.declared.kind.Kind.TheVariants as kinds
use Rattle.nfca_poll.specs.Ident.{IsIdent}
use Rattle.nfca_poll.specs.Levels.{levels}
use Rattle.nfca_poll.specs.Calls.{call_of}
use Rattle.nfca_poll.specs.Front.{Front, Off, Idle, Sleep, Ready, Active, front_says, front_next, is_active}
use Rattle.nfca_poll.specs.Fronted.{Fronted, left_at, answer_by, after_by, active_answer, active_after}
use Rattle.nfca_poll.specs.Crowd.{Card, Each, AreDistinct, AreOurs, StepsByFront, card_if, cards}
use Rattle.nfca_poll.specs.AnyStart.{HaveOwnIdents, StaysActive, YieldsToCalls, LeavesAtCalls}
use Rattle.nfca_poll.specs.Rounds.{most_found}
use Rattle.nfca_poll.specs.Polled.{ArePolled, AreTidy, WakesIdle, IsTidy as Tidy}
use Rattle.nfca_poll.specs.declared.upper.UpStep.TheVariants as ups
use Rattle.t2t_tag.specs.Spelling.{spelled_command}
use Rattle.t2t_tag.specs.Store.{T2Memory}
use Rattle.t2t_tag.specs.Step.{reply_frame, t2_after}
use Rattle.bench_devices.specs.declared.device.Device.{Device}
use Rattle.bench_devices.specs.declared.device.Device.TheVariants.{T2, T4, Peer, T5, T3}
use Rattle.bench_devices.specs.Cards.{T4Near}
use Rattle.bench_devices.specs.Device.{devices, device_id, says_of, t2_machine, T4Did, t4_did, t4_machine, is_unlinked, is_no_file}
use Rattle.bench_devices.specs.Phases as bench
use Rattle.bench_devices.specs.Keeping.{Kept, kept, IsApart, AreSound, AreTame}
use Rattle.bench_devices.specs.Phases.{IsTidy}
use Rattle.bench_devices.proofs.kinds.Ours.{device_kind, device_front, steps}
use Rattle.bench_devices.specs.Peers.{no_link}
use Rattle.bench_devices.specs.laws.PeerUpper.{foreign_peer}
use Rattle.bench_devices.proofs.kinds.PeerCalls.{peer_steps, peer_yields, peer_free}
use Rattle.bench_devices.proofs.kinds.Tidy.{left_tidy, left_free, four_gives_up}
use Rattle.nfca_poll.specs.laws.OwnFrames.{BeginsAsCalls, call_begins}
use Rattle.bench_devices.specs.laws.LinkCalls.{no_command, says_at, did_at_call}

left_stays : (starred : Bool) (next : Front) (u : T2Memory) → left_at t2_machine (Active starred) next u ≡ u
left_stays starred Off u = refl
left_stays starred Idle u = refl
left_stays starred Sleep u = refl
left_stays starred (Ready k other) u = refl
left_stays starred (Active other) u = refl

-- a device of this identifier, front and memory
abbrev pub carded : List ℕ → Front → T2Memory → Fronted T2Memory
carded id front u = record { id = id; front = front; upper = u }

-- at a call the front alone changes
pub call_goes : (front : Front) (id : List ℕ) (u : T2Memory) (f : Signal) → spelled_command f ≡ None
    → after_by t2_machine front (carded id front u) f None ≡ carded id (front_next (levels id) front (call_of f)) u
call_goes Off id u f e = refl
call_goes Idle id u f e = refl
call_goes Sleep id u f e = refl
call_goes (Ready k starred) id u f e = refl
call_goes (Active starred) id u f e =
    let d : Fronted T2Memory = carded id (Active starred) u in
    let next : Front = front_next (levels id) (Active starred) (call_of f) in
    ap (λ o. active_after t2_machine (says_of (reply_frame u o)) (t2_after u f) d f) e ∙ ap (carded id next) (left_stays starred next u)

call_says : (front : Front) (id : List ℕ) (u : T2Memory) (f : Signal) → spelled_command f ≡ None
    → answer_by t2_machine front (carded id front u) f None ≡ front_says (levels id) kinds.T2 front (call_of f)
call_says Off id u f e = refl
call_says Idle id u f e = refl
call_says Sleep id u f e = refl
call_says (Ready k starred) id u f e = refl
call_says (Active starred) id u f e = ap (λ o. active_answer t2_machine (says_of (reply_frame u o)) (carded id (Active starred) u) f) e

step_at_call : (d : Fronted T2Memory) (f : Signal) → spelled_command f ≡ None → StepsByFront devices device_id device_kind device_front (T2 d) f
step_at_call d f e =
    let goes = call_goes d.front d.id d.upper f e in
    record {
      untouched = refl;
      says = call_says d.front d.id d.upper f e;
      goes = ap (λ (x : Fronted T2Memory). x.front) goes;
      same_tech = refl;
      same_id = ap (λ (x : Fronted T2Memory). x.id) goes;
      same_kind = refl;
    }

abbrev pub ours : AreOurs devices device_id
ours = record { kind = device_kind; front = device_front; steps = steps }

-- whether a device has no link; a Type 4 tag and a peer may have one
abbrev pub device_unlinked : Device → Bool
device_unlinked (T2 d) = true
device_unlinked (T4 d) = is_unlinked d.upper
device_unlinked (Peer d) = no_link d.upper
device_unlinked (T5 p) = true
device_unlinked (T3 p) = true

-- to a Type 4 tag without a link each call is foreign
says_foreign : (linked v w : Bool) → (not linked && v && w) ≡ true → says_at linked ≡ ups.Foreign
says_foreign false v w n = refl
says_foreign true v w n = absurd cc

foreign_to : (u : T4Near) (f : Signal) → BeginsAsCalls f → is_unlinked u ≡ true → t4_did u f ≡ record { says = ups.Foreign; after = u }
foreign_to u f h n = did_at_call u f h ∙ ap (λ s. record { says = s; after = u }) (says_foreign u.linked (not u.tag.selected) (is_no_file u.tag.current) n)

abbrev pub near : List ℕ → Front → T4Near → Fronted T4Near
near id front u = record { id = id; front = front; upper = u }

-- so it steps by its front, and has no link afterwards
card_steps : (front : Front) (id : List ℕ) (u : T4Near) (f : Signal) → t4_did u f ≡ record { says = ups.Foreign; after = u }
    → StepsByFront devices device_id device_kind device_front (T4 (near id front u)) f
card_steps Off id u f e = steps (T4 (near id Off u)) f refl refl
card_steps Idle id u f e = steps (T4 (near id Idle u)) f refl refl
card_steps Sleep id u f e = steps (T4 (near id Sleep u)) f refl refl
card_steps (Ready k starred) id u f e = steps (T4 (near id (Ready k starred) u)) f refl refl
card_steps (Active starred) id u f e =
    let d : Fronted T4Near = near id (Active starred) u in
    let after : T4Did → Fronted T4Near = λ x. active_after t4_machine x.says x.after d f in
    record {
      untouched = refl;
      says = ap (λ (x : T4Did). active_answer t4_machine x.says d f) e;
      goes = ap (λ x. (after x).front) e;
      same_tech = refl;
      same_id = ap (λ x. (after x).id) e;
      same_kind = refl;
    }

pub left_unlinked : (front next : Front) (u : T4Near) → is_unlinked u ≡ true → is_unlinked (left_at t4_machine front next u) ≡ true
left_unlinked front next u n = left_free t4_machine is_unlinked four_gives_up front next u n

card_unlinked : (front : Front) (id : List ℕ) (u : T4Near) (f : Signal) → BeginsAsCalls f → is_unlinked u ≡ true → is_unlinked (after_by t4_machine front (near id front u) f None).upper ≡ true
card_unlinked Off id u f h n = n
card_unlinked Idle id u f h n = n
card_unlinked Sleep id u f h n = n
card_unlinked (Ready k starred) id u f h n = n
card_unlinked (Active starred) id u f h n =
    let d : Fronted T4Near = near id (Active starred) u in
    ap (λ (x : T4Did). is_unlinked (active_after t4_machine x.says x.after d f).upper) (foreign_to u f h n) ∙ left_unlinked (Active starred) (front_next (levels id) (Active starred) (call_of f)) u n

pub stays_unlinked : (d : Device) (f : Signal) → BeginsAsCalls f → device_unlinked d ≡ true → device_unlinked (devices.after d f None) ≡ true
stays_unlinked (T2 d) f h n = refl
stays_unlinked (T4 d) f h n = card_unlinked d.front d.id d.upper f h n
stays_unlinked (Peer d) f h n = peer_free d.front d.id d.upper f h n
stays_unlinked (T5 p) f h n = refl
stays_unlinked (T3 p) f h n = refl

pub same_tech_woken : (l : Device) → devices.tech (devices.woken (devices.darkened l)) ≡ devices.tech l
same_tech_woken (T2 d) = refl
same_tech_woken (T4 d) = refl
same_tech_woken (Peer d) = refl
same_tech_woken (T5 p) = refl
same_tech_woken (T3 p) = refl

pub leaves : LeavesAtCalls ours device_unlinked
leaves (T2 d) f c t u e = ((λ a. step_at_call d f (no_command f (call_begins f c e))), refl)
leaves (T4 d) f c t u e = ((λ a. card_steps d.front d.id d.upper f (foreign_to d.upper f (call_begins f c e) u)), stays_unlinked (T4 d) f (call_begins f c e) u)
leaves (Peer d) f c t u e =
    ((λ a. peer_steps d.front d.id d.upper f (call_begins f c e) (foreign_peer d.upper f None (call_begins f c e) u)), stays_unlinked (Peer d) f (call_begins f c e) u)
leaves (T5 p) f c t u e = absurd cc
leaves (T3 p) f c t u e = absurd cc

-- a reset takes the link
unlinked_off : (u : T4Near) → (is_active Off ≡ true) ⊎ (is_unlinked u ≡ true) → is_unlinked u ≡ true
unlinked_off u (inl a) = absurd cc
unlinked_off u (inr n) = n

pub reset_unlinked : (d : Device) → IsTidy d → device_unlinked (devices.woken (devices.darkened d)) ≡ true
reset_unlinked (T2 d) t = refl
reset_unlinked (T4 d) t = unlinked_off (left_at t4_machine d.front Off d.upper) (left_tidy t4_machine is_unlinked four_gives_up d.front Off d.upper t)
reset_unlinked (Peer d) t = refl
reset_unlinked (T5 p) t = refl
reset_unlinked (T3 p) t = refl

pub wakes_idle : (l : Device) → devices.tech l ≡ A → Tidy device_front device_unlinked l → WakesIdle devices device_id device_kind device_front device_unlinked l
wakes_idle (T2 d) t h = record { idle = refl; no_link = refl; same_id = refl; same_kind = refl }
wakes_idle (T4 d) t h = record { idle = refl; no_link = reset_unlinked (T4 d) h; same_id = refl; same_kind = refl }
wakes_idle (Peer d) t h = record { idle = refl; no_link = refl; same_id = refl; same_kind = refl }
wakes_idle (T5 p) t h = absurd cc
wakes_idle (T3 p) t h = absurd cc

-- at a call an active device leaves the state Active, but for a Type 4 tag with a link, which stays in it
silent_near : (id : List ℕ) (starred : Bool) (u : T4Near) (linked : Bool) (f : Signal) → BeginsAsCalls f → u.linked ≡ linked
    → StepsByFront devices device_id device_kind device_front (T4 (near id (Active starred) u)) f ⊎ StaysActive devices device_id device_kind device_front (T4 (near id (Active starred) u)) f
silent_near id starred u false f h e = inl (card_steps (Active starred) id u f (did_at_call u f h ∙ ap (λ k. record { says = says_at k; after = u }) e))
silent_near id starred u true f h e =
    let d : Fronted T4Near = near id (Active starred) u in
    let did : t4_did u f ≡ record { says = ups.Quiet; after = u } = did_at_call u f h ∙ ap (λ k. record { says = says_at k; after = u }) e in
    let after : T4Did → Fronted T4Near = λ x. active_after t4_machine x.says x.after d f in
    inr (record {
      untouched = refl;
      silent = ap (λ (x : T4Did). active_answer t4_machine x.says d f) did;
      same_front = ap (λ x. (after x).front) did;
      same_tech = refl;
      same_id = ap (λ x. (after x).id) did;
      same_kind = refl;
    })

yields_near : (front : Front) (id : List ℕ) (u : T4Near) (f : Signal) → BeginsAsCalls f → is_active front ≡ true
    → StepsByFront devices device_id device_kind device_front (T4 (near id front u)) f ⊎ StaysActive devices device_id device_kind device_front (T4 (near id front u)) f
yields_near Off id u f h a = absurd cc
yields_near Idle id u f h a = absurd cc
yields_near Sleep id u f h a = absurd cc
yields_near (Ready k starred) id u f h a = absurd cc
yields_near (Active starred) id u f h a = silent_near id starred u u.linked f h refl

pub yields : YieldsToCalls ours
yields (T2 d) f c t a e = inl (step_at_call d f (no_command f (call_begins f c e)))
yields (T4 d) f c t a e = yields_near d.front d.id d.upper f (call_begins f c e) a
yields (Peer d) f c t a e = peer_yields d.front d.id d.upper f (call_begins f c e) a
yields (T5 p) f c t a e = absurd cc
yields (T3 p) f c t a e = absurd cc

abbrev pub polled : ArePolled devices device_id
polled = record { ours = ours; yields = yields; unlinked = device_unlinked; leaves = leaves; same_tech = same_tech_woken; wakes = wakes_idle }

pub tidy : (ds : List Device) → bench.AreTidy ds → AreTidy polled ds
tidy [] h = tt
tidy (T2 d ∷ ds) h = ((λ t. inr refl), tidy ds h.1)
tidy (T4 d ∷ ds) h = ((λ t. h.0), tidy ds h.1)
tidy (Peer d ∷ ds) h = ((λ t. h.0), tidy ds h.1)
tidy (T5 p ∷ ds) h = ((λ t. inr refl), tidy ds h.1)
tidy (T3 p ∷ ds) h = ((λ t. inr refl), tidy ds h.1)

-- the cards of the devices
abbrev pub cards_of : List Device → List Card
cards_of ds = cards ours ds

fewer : {X Y : Type 0} (p : X → Option Y) (xs : List X) → length (filter_map p xs) ≤ length xs
fewer p [] = omega arith
fewer {Y = Y} p (x ∷ xs) = by_one (p x) (fewer p xs)
  where
    by_one : (o : Option Y) → length (filter_map p xs) ≤ length xs → length (cons_option o (filter_map p xs)) ≤ suc (length xs)
    by_one None h = omega (arith, h)
    by_one (Some y) h = omega (arith, h)

length_map : {X Y : Type 0} (f : X → Y) (xs : List X) → length (map f xs) ≡ length xs
length_map f [] = refl
length_map f (x ∷ xs) = ap suc (length_map f xs)

-- cards of devices have identifiers, each its own
cards_idents : (ds : List Device) → AreSound (map kept ds) → Each (λ c. IsIdent c.id) (cards_of ds)
cards_idents [] s = tt
cards_idents (T2 d ∷ ds) s = (s.0.0, cards_idents ds s.2)
cards_idents (T4 d ∷ ds) s = (s.0.0, cards_idents ds s.2)
cards_idents (Peer d ∷ ds) s = (s.0.0, cards_idents ds s.2)
cards_idents (T5 p ∷ ds) s = cards_idents ds s.2
cards_idents (T3 p ∷ ds) s = cards_idents ds s.2

cards_apart : (k : Kept) (ds : List Device) → AllByRecursion (IsApart k) (map kept ds) → Each (λ c. c.id ≢ k.fixed.id) (cards_of ds)
cards_apart k [] a = tt
cards_apart k (T2 d ∷ ds) a = (a.0, cards_apart k ds a.1)
cards_apart k (T4 d ∷ ds) a = (a.0, cards_apart k ds a.1)
cards_apart k (Peer d ∷ ds) a = (a.0, cards_apart k ds a.1)
cards_apart k (T5 p ∷ ds) a = cards_apart k ds a.1
cards_apart k (T3 p ∷ ds) a = cards_apart k ds a.1

cards_distinct : (ds : List Device) → AreSound (map kept ds) → AreDistinct (cards_of ds)
cards_distinct [] s = tt
cards_distinct (T2 d ∷ ds) s = (cards_apart (kept (T2 d)) ds s.1, cards_distinct ds s.2)
cards_distinct (T4 d ∷ ds) s = (cards_apart (kept (T4 d)) ds s.1, cards_distinct ds s.2)
cards_distinct (Peer d ∷ ds) s = (cards_apart (kept (Peer d)) ds s.1, cards_distinct ds s.2)
cards_distinct (T5 p ∷ ds) s = cards_distinct ds s.2
cards_distinct (T3 p ∷ ds) s = cards_distinct ds s.2

pub own_idents : (ds : List Device) → AreTame (map kept ds) → HaveOwnIdents (cards_of ds)
own_idents ds tame = record { idents = cards_idents ds tame.sound; distinct = cards_distinct ds tame.sound }

-- they are too few for a round to find one too many
pub few_cards : (ds : List Device) → AreTame (map kept ds) → most_found < length (cards_of ds) → ⊥
few_cards ds tame h = absurd (let n : length (map kept ds) ≡ length ds = length_map kept ds in omega (arith, fewer (card_if ours) ds, n, tame.few, h))
