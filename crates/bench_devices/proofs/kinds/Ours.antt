-- The devices of the bench are listeners of this project: a Type 2 tag, a Type 4 tag and a peer poll by their fronts, and a Type 5
-- tag has none.
use Rattle.std.proofs.Common.{◌≡◌, ℕ, zero, suc, List, [], ◌∷◌, Bool, true, false, ◌&&◌, ◌==◌, not, reverse, if◌then◌else◌, Option, Some, None, refl, sym, ◌∙◌, ap, subst}
use Rattle.nfc_base.specs.declared.frame.Tech.TheVariants.{A, V}
use Rattle.nfc_base.specs.Signal.{Signal, whole_v}
use Rattle.nfc_base.specs.Far.{Untouched}
use Rattle.air_core.specs.Joint.{same_tech}
use Rattle.air_core.specs.World.{hands_over, answered_by, stepped_by}
use Rattle.nfca_poll.specs.declared.kind.Kind.{Kind}
use Rattle.nfca_poll.specs.declared.kind.Kind.TheVariants as kinds
use Rattle.nfca_poll.specs.Front.{Front, Off, Idle, Sleep, Ready, Active, is_active}
use Rattle.nfca_poll.specs.Crowd.{StepsByFront}
use Rattle.nfca_poll.specs.Inventory.{inventory_all, inventory_of, heard_again, IsSteady}
use Rattle.t2t_tag.specs.Store.{T2Memory}
use Rattle.t5t_tag.specs.declared.round.Round.{Round}
use Rattle.t5t_tag.specs.declared.answer.T5Answer.TheVariants.{Present}
use Rattle.t5t_tag.specs.Mask.{asks_for}
use Rattle.t5t_tag.specs.Spelling.{inventory_flags, inventory_code, answer_frame}
use Rattle.t5t_tag.specs.Step.{T5Turn, tells, silent, out_of_round, sent, t5_answer, t5_after}
use Rattle.t5t_tag.specs.Store.{T5State, IsT5Shape}
use Rattle.t5t_tag.proofs.Inventories.{picked}
use Rattle.bench_devices.specs.declared.device.Device.{Device}
use Rattle.bench_devices.specs.declared.device.Device.TheVariants.{T2, T4, Peer, T5, T3}
use Rattle.bench_devices.specs.Cards.{T4Near}
use Rattle.bench_devices.specs.Peers.{PeerNear}
use Rattle.bench_devices.specs.Powered.{Powered}
use Rattle.bench_devices.specs.Device.{devices, device_id, device_answer, device_after}
use Rattle.bench_devices.specs.Keeping.{kept}

-- what a device tells that it is, and its front; a Type 5 tag has none
abbrev pub device_kind : Device → Kind
device_kind (T2 d) = kinds.T2
device_kind (T4 d) = kinds.T4
device_kind (Peer d) = kinds.Peer
device_kind (T5 p) = kinds.T2
device_kind (T3 p) = kinds.T2

abbrev pub device_front : Device → Front
device_front (T2 d) = d.front
device_front (T4 d) = d.front
device_front (Peer d) = d.front
device_front (T5 p) = Off
device_front (T3 p) = Off

-- an NFC-A device that isn't active steps by its front
by_front : (front : Front) (id : List ℕ) (u : T2Memory) (f : Signal) → is_active front ≡ false
    → StepsByFront devices device_id device_kind device_front (T2 (record { id = id; front = front; upper = u })) f
by_front Off id u f a = record { untouched = refl; says = refl; goes = refl; same_tech = refl; same_id = refl; same_kind = refl }
by_front Idle id u f a = record { untouched = refl; says = refl; goes = refl; same_tech = refl; same_id = refl; same_kind = refl }
by_front Sleep id u f a = record { untouched = refl; says = refl; goes = refl; same_tech = refl; same_id = refl; same_kind = refl }
by_front (Ready k starred) id u f a = record { untouched = refl; says = refl; goes = refl; same_tech = refl; same_id = refl; same_kind = refl }
by_front (Active starred) id u f a = absurd cc

card_by_front : (front : Front) (id : List ℕ) (u : T4Near) (f : Signal) → is_active front ≡ false
    → StepsByFront devices device_id device_kind device_front (T4 (record { id = id; front = front; upper = u })) f
card_by_front Off id u f a = record { untouched = refl; says = refl; goes = refl; same_tech = refl; same_id = refl; same_kind = refl }
card_by_front Idle id u f a = record { untouched = refl; says = refl; goes = refl; same_tech = refl; same_id = refl; same_kind = refl }
card_by_front Sleep id u f a = record { untouched = refl; says = refl; goes = refl; same_tech = refl; same_id = refl; same_kind = refl }
card_by_front (Ready k starred) id u f a = record { untouched = refl; says = refl; goes = refl; same_tech = refl; same_id = refl; same_kind = refl }
card_by_front (Active starred) id u f a = absurd cc

peer_by_front : (front : Front) (id : List ℕ) (u : PeerNear) (f : Signal) → is_active front ≡ false
    → StepsByFront devices device_id device_kind device_front (Peer (record { id = id; front = front; upper = u })) f
peer_by_front Off id u f a = record { untouched = refl; says = refl; goes = refl; same_tech = refl; same_id = refl; same_kind = refl }
peer_by_front Idle id u f a = record { untouched = refl; says = refl; goes = refl; same_tech = refl; same_id = refl; same_kind = refl }
peer_by_front Sleep id u f a = record { untouched = refl; says = refl; goes = refl; same_tech = refl; same_id = refl; same_kind = refl }
peer_by_front (Ready k starred) id u f a = record { untouched = refl; says = refl; goes = refl; same_tech = refl; same_id = refl; same_kind = refl }
peer_by_front (Active starred) id u f a = absurd cc

pub steps : (l : Device) (f : Signal) → devices.tech l ≡ A → is_active (device_front l) ≡ false → StepsByFront devices device_id device_kind device_front l f
steps (T2 d) f t a = by_front d.front d.id d.upper f a
steps (T4 d) f t a = card_by_front d.front d.id d.upper f a
steps (Peer d) f t a = peer_by_front d.front d.id d.upper f a
steps (T5 p) f t a = absurd cc
steps (T3 p) f t a = absurd cc

-- Whether it answers an inventory of one slot or not, a Type 5 tag stays as it is, but for a round that it was in.
told_stays : (v : Bool) (t : T5State) → (if v then tells t (Present t.id) else silent t).after ≡ t
told_stays true t = refl
told_stays false t = refl

inventory_stays : (t : T5State) (bits : ℕ) (mask : List ℕ) → t5_after t (whole_v (inventory_flags ∷ inventory_code ∷ bits ∷ mask)) ≡ out_of_round t
inventory_stays t bits mask = told_stays ((inventory_code == inventory_code) && not t.quiet && asks_for t.id bits mask) (out_of_round t)

-- the tag out of its round, where it has power
abbrev pub unrounded : Powered T5State → Powered T5State
unrounded p = record p { tag = if p.lit then out_of_round p.tag else p.tag }

device_stays : (t : T5State) (lit : Bool) (f : Signal) → t5_after t f ≡ out_of_round t → device_after (T5 (record { tag = t; lit = lit })) f None ≡ T5 (unrounded (record { tag = t; lit = lit }))
device_stays t true f e = ap (λ x. T5 (record { tag = x; lit = true })) e
device_stays t false f e = refl

-- Nor does an inventory change one else.
pub stays_at_all : (p : Powered T5State) → device_after (T5 p) inventory_all None ≡ T5 (unrounded p)
stays_at_all p = device_stays p.tag p.lit inventory_all (inventory_stays p.tag 0 [])

pub stays_at_own : (id : List ℕ) (p : Powered T5State) → device_after (T5 p) (inventory_of id) None ≡ T5 (unrounded p)
stays_at_own id p = device_stays p.tag p.lit (inventory_of id) (inventory_stays p.tag 64 (reverse id))

-- So nothing that stays of it changes, ...
pub kept_unrounded : (p : Powered T5State) → kept (T5 (unrounded p)) ≡ kept (T5 p)
kept_unrounded p = by_light p.lit
  where
    by_light : (v : Bool) → kept (T5 (record p { tag = if v then out_of_round p.tag else p.tag })) ≡ kept (T5 p)
    by_light true = refl
    by_light false = refl

-- ... and one that is in no round stays as it is.
pub unrounded_same : (p : Powered T5State) → p.tag.round ≡ None → T5 (unrounded p) ≡ T5 p
unrounded_same p none = by_light p.lit
  where
    by_light : (v : Bool) → T5 (record p { tag = if v then out_of_round p.tag else p.tag }) ≡ T5 p
    by_light true = ap (λ (r : Option Round). T5 (record p { tag = record p.tag { round = r } })) (sym none)
    by_light false = refl

-- an inventory of one slot: it leaves each Type 5 tag as it is but for its round, and is answered whatever the round is
record IsPlainInventory (f : Signal) : Type 0 where
  leaves : (p : Powered T5State) → device_after (T5 p) f None ≡ T5 (unrounded p)
  same : (p : Powered T5State) → device_answer (T5 (unrounded p)) f None ≡ device_answer (T5 p) f None

answer_unrounded : (f : Signal) → ((t : T5State) → t5_answer (out_of_round t) f ≡ t5_answer t f) → (p : Powered T5State) → device_answer (T5 (unrounded p)) f None ≡ device_answer (T5 p) f None
answer_unrounded f alike p = by_light p.lit
  where
    by_light : (v : Bool) → device_answer (T5 (record { tag = if v then out_of_round p.tag else p.tag; lit = v })) f None ≡ device_answer (T5 (record { tag = p.tag; lit = v })) f None
    by_light true = alike p.tag
    by_light false = refl

at_all : IsPlainInventory inventory_all
at_all = record { leaves = stays_at_all; same = answer_unrounded inventory_all (λ t. refl) }

at_own : (id : List ℕ) → IsPlainInventory (inventory_of id)
at_own id = record { leaves = stays_at_own id; same = answer_unrounded (inventory_of id) (λ t. refl) }

-- the devices that a Type 5 tag is at repeated inventories: itself, or itself in no round
record IsRepeated (p : Powered T5State) (d : Device) (f : Signal) : Type 0 where
  tag : Powered T5State
  is : d ≡ T5 tag
  answer : device_answer (T5 tag) f None ≡ device_answer (T5 p) f None

again : (f : Signal) → IsPlainInventory f → (p : Powered T5State) (n : ℕ) → IsRepeated p (heard_again devices f (T5 p) n) f
again f plain p zero = record { tag = p; is = refl; answer = refl }
again f plain p (suc n) =
    let before = again f plain p n in
    subst (λ d. IsRepeated p (stepped_by devices d f None) f) (sym before.is) (by_tech (same_tech V f.tech) before.tag before.answer)
  where
    by_tech : (v : Bool) (q : Powered T5State) → device_answer (T5 q) f None ≡ device_answer (T5 p) f None → IsRepeated p (if v then device_after (T5 q) f None else T5 q) f
    by_tech true q e = record { tag = unrounded q; is = plain.leaves q; answer = plain.same q ∙ e }
    by_tech false q e = record { tag = q; is = refl; answer = e }

steady_five : (f : Signal) (p : Powered T5State) → IsPlainInventory f → IsSteady devices f (T5 p)
steady_five f p plain v n =
    let behind = again f plain p n in (
      ap (λ d. hands_over devices d f) behind.is ∙ none_handed (same_tech V f.tech),
      ap (λ d. answered_by devices d f None) behind.is ∙ ap (λ o. if same_tech V f.tech then o else None) behind.answer,
    )
  where
    none_handed : (v : Bool) → (if v then Untouched else Untouched) ≡ Untouched
    none_handed true = refl
    none_handed false = refl

-- So the devices are steady at inventories, as the law on what they miss asks.
pub steady_at_all : (d : Device) → IsSteady devices inventory_all d
steady_at_all (T2 d) v = absurd cc
steady_at_all (T4 d) v = absurd cc
steady_at_all (T3 p) v = absurd cc
steady_at_all (Peer d) v = absurd cc
steady_at_all (T5 p) v = steady_five inventory_all p at_all v

pub steady_at : (id : List ℕ) (d : Device) → IsSteady devices (inventory_of id) d
steady_at id (T2 d) v = absurd cc
steady_at id (T4 d) v = absurd cc
steady_at id (T3 p) v = absurd cc
steady_at id (Peer d) v = absurd cc
steady_at id (T5 p) v = steady_five (inventory_of id) p (at_own id) v

-- A Type 5 tag in the light that isn't quiet answers the inventory of its own identifier: where nobody answers, none is it.
pub answers_own : (t : T5State) → IsT5Shape t → t.quiet ≡ false → device_answer (T5 (record { tag = t; lit = true })) (inventory_of t.id) None ≡ Some (answer_frame (Present t.id))
answers_own t is calm = ap (λ (r : T5Turn). sent r.answer) (picked t is calm)
