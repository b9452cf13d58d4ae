-- A call that asks by rounds finds the crowd, or selects one device of it alone.
use Rattle.std.proofs.Common.{◌≡◌, ◌≢◌, ℕ, List, length, drop, Bool, true, false, if◌then◌else◌, inl, inr, refl, sym, ◌∙◌, ap, subst, arith, Option, Some, None, Result}
use Rattle.nfc_base.specs.declared.event.Event.{Event}
use Rattle.air_core.specs.World.{Machine, World}
use Rattle.air_core.specs.Turn.{Air, moment}
use Rattle.air_core.specs.Conversation.{Moment}
use Rattle.nfca_poll.specs.declared.kind.Kind.{Kind}
use Rattle.nfca_poll.specs.declared.fault.Picked.{Picked}
use Rattle.nfca_poll.specs.declared.fault.PollFault.{PollFault}
use Rattle.nfca_poll.specs.Muted.{mute_air}
use Rattle.nfca_poll.specs.Enquiry.{Enquires, or_memory}
use Rattle.nfca_poll.specs.Crowd.{Card, Each, cards}
use Rattle.nfca_poll.specs.Rounds.{is_same, Aim, Search, Begins, Seeks, Sends, Told, search_ended, searching, all_devices, device_of, finding, picking}
use Rattle.nfca_poll.specs.AnyStart.{HaveOwnIdents}
use Rattle.nfca_poll.specs.Polled.{ArePolled, AreTidy}
use Rattle.nfca_poll.specs.RoundEnds.{FindEnds, LeavesActive, PickEnds, FindsCrowd, SelectsAlone}
use Rattle.nfca_poll.specs.Crowd.{picked_of, crowd}
use Rattle.nfca_poll.proofs.quiet.Clashes.{Has}
use Rattle.nfca_poll.proofs.quiet.Eaches.{each_has}
use Rattle.nfca_poll.proofs.identifiers.HeardBits.{pointwise_same, pointwise_path}
use Rattle.nfca_poll.proofs.quiet.Crowding.{drop-front}
use Rattle.nfca_poll.proofs.enquiries.EnquiryLaws.{Ending, comes, loses, ending}
use Rattle.nfca_poll.proofs.quiet.CrowdOrder.{each_of, has_mapped, crowd_has}
use Rattle.nfca_poll.proofs.calls.RoundHolds.{CallEnds, taken, nobody, gave_up, too_many, Holds}
use Rattle.nfca_poll.proofs.calls.CrowdSteps.{keeps}

none_some : {X : Type 0} (x : X) → None ≡ Some x → ⊥
none_some x e = cc

some_same : {X : Type 0} (x y : X) → Some x ≡ Some y → x ≡ y
some_same x y e = cc

find_ends : (w v : List Card) (es : List Event) (r : Result (List Picked) PollFault) → CallEnds all_devices w v es r → FindEnds w r es
find_ends w v es _ (taken p x e left) = absurd (none_some x e)
find_ends w v es _ (nobody found others begins ends) = (begins, ends)
find_ends w v es _ (gave_up g) = g
find_ends w v es _ (too_many n) = n

module _ (id : List ℕ) where
  abbrev taken_if : Bool → Kind → Option Kind
  taken_if v kind = if v then Some kind else None

  is_taken : (w v : List Card) (p : Picked) (kind : Kind) → (device_of id).takes p ≡ Some kind → LeavesActive p.id p.kind w v → LeavesActive id kind w v
  is_taken w v p kind e left = by_same (is_same p.id id) refl e
    where
      by_same : (u : Bool) → is_same p.id id ≡ u → taken_if u p.kind ≡ Some kind → LeavesActive id kind w v
      by_same false q k = absurd (none_some kind k)
      by_same true q k =
          let P : List ℕ → Kind → Type 0 = λ i j. LeavesActive i j w v in
          let Q : List ℕ → Type 0 = λ i. P i kind in
          subst Q (pointwise_path p.id id q) (subst (P p.id) (some_same p.kind kind k) left)

  not_it : (p : Picked) → (device_of id).takes p ≡ None → p.id ≢ id
  not_it p e same =
      let P : List ℕ → Type 0 = λ i. is_same i id ≡ true in
      none_some p.kind (sym e ∙ ap (λ u. taken_if u p.kind) (subst P (sym same) (pointwise_same id)))

  not_found : (w : List Card) (found : List Picked) → Each (λ p. (device_of id).takes p ≡ None) found → found ≡ crowd w → Each (λ c. c.id ≢ id) w
  not_found w found others all =
      each_of (λ c. c.id ≢ id) w
      (λ c h. not_it (picked_of c) (each_has (λ p. (device_of id).takes p ≡ None) (picked_of c) found others
      (let H : List Picked → Type 0 = λ t. Has (picked_of c) t in subst H (sym all) (crowd_has w (picked_of c) (has_mapped picked_of c w h)))))

  pick_ends : (w v : List Card) (es : List Event) (r : Result Kind PollFault) → CallEnds (device_of id) w v es r → PickEnds id w r v es
  pick_ends w v es _ (taken p x e left) = is_taken w v p x e left
  pick_ends w v es _ (nobody found others begins ends) = elim ends [ inl all ↦ inl (not_found w found others all) | inr q ↦ inr q ]
  pick_ends w v es _ (gave_up g) = g
  pick_ends w v es _ (too_many n) = n

module _ {L : Type 0} (m : Machine L) {identifier' : L → List ℕ} (polled : ArePolled m identifier') where
  -- how a call by rounds ends, by its trace
  whole : {X : Type 0} (aim : Aim X) (old new : Air L) (r : Result X PollFault) → Enquires (searching aim) m old r new → AreTidy polled old.listeners
      → (field : HaveOwnIdents (cards polled.ours old.listeners))
      → (e : List Event) × Ending (searching aim) (mute_air m) (Holds m polled aim (cards polled.ours old.listeners) field) (moment new).world e r × (drop (length old.trace) new.trace ≡ e)
  whole aim old new r q tidy field =
      let w : List Card = cards polled.ours old.listeners in
      let M : Moment (World L) → List Event = λ x. x.trace in (
        q.going.events,
        ending (searching aim) (mute_air m) (Holds m polled aim w field) (keeps m polled aim w field) (moment old) (moment new) q.notes r
            (record { few = omega arith; tidy = tidy; same = refl; noisy = tt; count = refl }) q.going q.comes,
        ap (drop (length old.trace)) (ap M q.going.moment) ∙ drop-front old.trace q.going.events,
      )

  found_by : (field' : List Card) (field : HaveOwnIdents field') (s : Search (List Picked)) (a : World L) (es : List Event) → Holds m polled all_devices field' field s a es
      → FindEnds field' (or_memory (search_ended all_devices s)) es
  found_by w field (Begins round) a es k = tt
  found_by w field (Seeks round found s) a es k = tt
  found_by w field (Sends round found) a es k = tt
  found_by w field (Told r) a es k = find_ends w (cards polled.ours a.listeners) es r k

  picked_by : (id : List ℕ) (field' : List Card) (field : HaveOwnIdents field') (s : Search Kind) (a : World L) (es : List Event) → Holds m polled (device_of id) field' field s a es
      → PickEnds id field' (or_memory (search_ended (device_of id) s)) (cards polled.ours a.listeners) es
  picked_by id w field (Begins round) a es k = tt
  picked_by id w field (Seeks round found s) a es k = tt
  picked_by id w field (Sends round found) a es k = tt
  picked_by id w field (Told r) a es k = pick_ends id w (cards polled.ours a.listeners) es r k

  find_ending : (w : List Card) (field : HaveOwnIdents w) (a : World L) (es : List Event) (r : Result (List Picked) PollFault)
      → Ending finding (mute_air m) (Holds m polled all_devices w field) a es r → FindEnds w r es
  find_ending w field a es _ (comes s k) = found_by w field s a es k
  find_ending w field a es _ loses = tt

  pick_ending : (id : List ℕ) (w : List Card) (field : HaveOwnIdents w) (a : World L) (es : List Event) (r : Result Kind PollFault)
      → Ending (picking id) (mute_air m) (Holds m polled (device_of id) w field) a es r → PickEnds id w r (cards polled.ours a.listeners) es
  pick_ending id w field a es _ (comes s k) = picked_by id w field s a es k
  pick_ending id w field a es _ loses = tt

-- A call that asks so finds the crowd.
pub finds_crowd : {L : Type 0} (m : Machine L) (identifier' : L → List ℕ) (old new : Air L) (r : Result (List Picked) PollFault) → Enquires finding m old r new → FindsCrowd m identifier' old r new
finds_crowd m identifier' old new r q polled tidy field =
    let k = whole m polled all_devices old new r q tidy field in
    let P : List Event → Type 0 = λ es. FindEnds (cards polled.ours old.listeners) r es in
    subst P (sym k.2) (find_ending m polled (cards polled.ours old.listeners) field (moment new).world k.0 r k.1)

-- And one that asks for one device leaves it active alone.
pub selects_alone : {L : Type 0} (m : Machine L) (identifier' : L → List ℕ) (id : List ℕ) (old new : Air L) (r : Result Kind PollFault) → Enquires (picking id) m old r new
    → SelectsAlone m identifier' id old r new
selects_alone m identifier' id old new r q polled tidy field =
    let k = whole m polled (device_of id) old new r q tidy field in
    let P : List Event → Type 0 = λ es. PickEnds id (cards polled.ours old.listeners) r (cards polled.ours new.listeners) es in
    subst P (sym k.2) (pick_ending m polled id (cards polled.ours old.listeners) field (moment new).world k.0 r k.1)
