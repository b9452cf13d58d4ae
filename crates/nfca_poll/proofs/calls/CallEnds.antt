-- How a call by rounds ends: by no other faults than it tells, after at most four rounds.
use Rattle.std.proofs.Common.{◌≡◌, ◌⊎◌, inl, inr, ℕ, suc, ◌+◌, ◌-◌, ◌<◌, ◌≤◌, List, [], ◌∷◌, ◌++◌, length, drop, Bool, true, false, nat_lt, if◌then◌else◌, Option, Some, None, Result, Ok, Err, refl}
use Rattle.std.proofs.Common.{sym, ◌∙◌, ap, subst, arith}
use Rattle.nfc_base.specs.Signal.{Signal}
use Rattle.nfc_base.specs.Trace.{breaks}
use Rattle.nfc_base.specs.declared.event.Event.{Event}
use Rattle.nfc_base.specs.declared.event.Event.TheVariants.{Reset, Request, Answer, Clash}
use Rattle.nfc_base.specs.declared.event.Fate.{Fate}
use Rattle.nfc_base.specs.declared.event.Fate.TheVariants.{Pass, Damage, Lose, Break}
use Rattle.nfc_base.specs.declared.event.Heard.{Heard}
use Rattle.air_core.specs.Joint.{Joint, Nothing, Single, Clashing}
use Rattle.air_core.specs.World.{Machine}
use Rattle.air_core.specs.Turn.{Air, moment}
use Rattle.air_core.specs.Conversation.{AirModel, note, LightUp, Asks, joint_events, replay, turn_events, turn_heard}
use Rattle.nfca_poll.specs.declared.kind.Kind.{Kind}
use Rattle.nfca_poll.specs.declared.fault.Picked.{Picked}
use Rattle.nfca_poll.specs.declared.fault.PollFault.{PollFault}
use Rattle.nfca_poll.specs.declared.fault.PollFault.TheVariants as faults
use Rattle.nfca_poll.specs.Calls.{Slp, call_frame}
use Rattle.nfca_poll.specs.Levels.{identifier}
use Rattle.nfca_poll.specs.Poll.{Seek, Calling, Asking, Selecting, Ended, Nobody, Disturbed, BadAnswer, Found, seek_step, seek_next}
use Rattle.nfca_poll.specs.Muted.{mute_air}
use Rattle.nfca_poll.specs.Enquiry.{Progress, Reaches, Loses, progress, or_memory, Enquires}
use Rattle.nfca_poll.specs.Rounds.{Aim, finding, picking, all_devices, device_of, LeavesLit, Search, Begins, Seeks, Sends, Told, next_round, has_found, most_found, most_rounds, met_or_taken, sought}
use Rattle.nfca_poll.specs.Rounds.{searching, search_next, search_lit, search_step, search_ended}
use Rattle.nfca_poll.specs.RoundTrace.{rounds}
use Rattle.nfca_poll.proofs.enquiries.EnquiryWalks.{nothing_lit, after, holds}
use Rattle.nfca_poll.proofs.enquiries.EnquiryEnds.{Ends, ends, events_gained, leaves_lit}

module _ {X : Type 0} (aim : Aim X) (f : PollFault) (a : faults.Disturbed ≡ f → ⊥) (b : faults.BadAnswer ≡ f → ⊥) (c : (found : List Picked) → aim.nobody found ≡ Err f → ⊥) where
  -- a call that is over doesn't tell this fault
  abbrev Spares : Search X → Type 0
  Spares (Begins k) = Unit {0}
  Spares (Seeks k found s) = Unit {0}
  Spares (Sends k found) = Unit {0}
  Spares (Told r) = r ≡ Err f → ⊥

  abbrev fault_in : PollFault → Result X PollFault → PollFault
  fault_in d (Ok x) = d
  fault_in d (Err g) = g

  spares_disturbed : Spares (Told (Err faults.Disturbed))
  spares_disturbed q = a (ap (fault_in f) q)

  spares_bad : Spares (Told (Err faults.BadAnswer))
  spares_bad q = b (ap (fault_in f) q)

  spares_next : (k : ℕ) (v : Bool) → Spares (if v then Begins (k + 1) else Told (Err faults.Disturbed))
  spares_next k true = tt
  spares_next k false = spares_disturbed

  spares_met : (k : ℕ) (found : List Picked) (p : Picked) (u v : Bool) → Spares (if u then next_round k else if v then Sends k (found ++ p ∷ []) else Told (Err faults.BadAnswer))
  spares_met k found p true v = spares_next k (nat_lt k most_rounds)
  spares_met k found p false true = tt
  spares_met k found p false false = spares_bad

  spares_taken : (k : ℕ) (found : List Picked) (p : Picked) (o : Option X) → Spares (met_or_taken aim next_round k found p o)
  spares_taken k found p (Some x) = λ q. cc
  spares_taken k found p None = spares_met k found p (has_found found p.id) (nat_lt (length found) most_found)

  spares_sought : (k : ℕ) (found : List Picked) (t : Seek) → Spares (sought aim next_round k found t)
  spares_sought k found (Calling n) = tt
  spares_sought k found (Asking done known) = tt
  spares_sought k found (Selecting done l) = tt
  spares_sought k found (Ended Nobody) = c found
  spares_sought k found (Ended Disturbed) = spares_next k (nat_lt k most_rounds)
  spares_sought k found (Ended BadAnswer) = spares_bad
  spares_sought k found (Ended (Found ls kind)) = let p : Picked = record { id = identifier ls; kind = kind } in spares_taken k found p (aim.takes p)

  spares_lit : (s : Search X) → Spares s → Spares (search_lit aim s)
  spares_lit (Begins k) g = tt
  spares_lit (Seeks k found t) g = tt
  spares_lit (Sends k found) g = tt
  spares_lit (Told r) g = g

  spares_step : (s : Search X) (h : Heard) → Spares s → Spares (search_step aim next_round s h)
  spares_step (Begins k) h g = tt
  spares_step (Seeks k found t) h g = spares_sought k found (seek_step t h)
  spares_step (Sends k found) h g = tt
  spares_step (Told r) h g = g

  spares_end : (s : Search X) (r : Result X PollFault) → Spares s → r ≡ or_memory (search_ended aim s) → r ≡ Err f → f ≡ faults.Memory
  spares_end (Begins k) r g q e = ap (fault_in f) (sym e ∙ q)
  spares_end (Seeks k found t) r g q e = ap (fault_in f) (sym e ∙ q)
  spares_end (Sends k found) r g q e = ap (fault_in f) (sym e ∙ q)
  spares_end (Told t) r g q e = absurd (g (sym q ∙ e))

  module _ {L : Type 0} (m : Machine L) (old new : Air L) (r : Result X PollFault) where
    told_by : Ends (searching aim) m Spares tt spares_lit spares_step old r new → r ≡ Err f → (f ≡ faults.Memory) ⊎ ((f ≡ faults.FieldLost) × (0 < breaks (drop (length old.trace) new.trace)))
    told_by (inl k) e = inl (spares_end k.0 r k.1 k.2 e)
    told_by (inr k) e = inr (ap (fault_in f) (sym e ∙ k.0), k.1)

    -- a call that ends by this fault was starved of memory, or lost the field by a Break
    pub told : Enquires (searching aim) m old r new → r ≡ Err f → (f ≡ faults.Memory) ⊎ ((f ≡ faults.FieldLost) × (0 < breaks (drop (length old.trace) new.trace)))
    told q e = told_by (ends (searching aim) m Spares tt spares_lit spares_step old new r q) e

    pub never_told : (f ≡ faults.Memory → ⊥) → (f ≡ faults.FieldLost → ⊥) → Enquires (searching aim) m old r new → r ≡ Err f → ⊥
    never_told x y q e = elim (told q e) [ inl k ↦ x k | inr k ↦ y k.0 ]

module _ {X : Type 0} (aim : Aim X) (c : (found : List Picked) → aim.nobody found ≡ Err faults.FieldLost → ⊥) {L : Type 0} (m : Machine L) (old new : Air L) (r : Result X PollFault) where
  broken : (faults.FieldLost ≡ faults.Memory) ⊎ ((faults.FieldLost ≡ faults.FieldLost) × (0 < breaks (drop (length old.trace) new.trace))) → 0 < breaks (drop (length old.trace) new.trace)
  broken (inl e) = absurd cc
  broken (inr k) = k.1

  -- a call loses the field by a Break alone
  pub call_lost : Enquires (searching aim) m old r new → r ≡ Err faults.FieldLost → 0 < breaks (drop (length old.trace) new.trace)
  call_lost q e = broken (told aim faults.FieldLost (λ x. cc) (λ x. cc) c m old new r q e)

-- the number of rounds of two stretches
pub rounds-append : (x y : List Event) → length (rounds (x ++ y)) ≡ length (rounds x) + length (rounds y)
rounds-append [] y = (let q : length (rounds y) ≡ 0 + length (rounds y) = omega arith in q)
rounds-append (Reset ∷ x) y = ap suc (rounds-append x y) ∙ (let q : suc (length (rounds x) + length (rounds y)) ≡ suc (length (rounds x)) + length (rounds y) = omega arith in q)
rounds-append (Request g z ∷ x) y = rounds-append x y
rounds-append (Answer g z ∷ x) y = rounds-append x y
rounds-append (Clash g z ∷ x) y = rounds-append x y

joint_rounds : (j : Joint) (y : Fate) → rounds (joint_events j y) ≡ []
joint_rounds Nothing y = refl
joint_rounds (Single g) y = refl
joint_rounds (Clashing g) y = refl

turn_rounds : {W : Type 0} (m : AirModel W) (w : W) (g : Signal) (x y : Fate) → rounds (turn_events m w g x y) ≡ []
turn_rounds m w g Pass y = joint_rounds (m.joint w g) y
turn_rounds m w g Damage y = refl
turn_rounds m w g Lose y = refl
turn_rounds m w g Break y = refl

module _ {X : Type 0} (aim : Aim X) where
  -- how many rounds may begin yet
  abbrev left : Search X → ℕ
  left (Begins k) = suc (4 - k)
  left (Seeks k found s) = 4 - k
  left (Sends k found) = 4 - k
  left (Told r) = 0

  next_left : (k : ℕ) (v : Bool) → nat_lt k most_rounds ≡ v → left (if v then Begins (k + 1) else Told (Err faults.Disturbed)) ≤ 4 - k
  next_left k true h = let less : k < 4 = grind arith in omega (arith, less)
  next_left k false h = omega arith

  met_left : (k : ℕ) (found : List Picked) (p : Picked) (u v : Bool) → left (if u then next_round k else if v then Sends k (found ++ p ∷ []) else Told (Err faults.BadAnswer)) ≤ 4 - k
  met_left k found p true v = next_left k (nat_lt k most_rounds) refl
  met_left k found p false true = omega arith
  met_left k found p false false = omega arith

  taken_left : (k : ℕ) (found : List Picked) (p : Picked) (o : Option X) → left (met_or_taken aim next_round k found p o) ≤ 4 - k
  taken_left k found p (Some x) = omega arith
  taken_left k found p None = met_left k found p (has_found found p.id) (nat_lt (length found) most_found)

  sought_left : (k : ℕ) (found : List Picked) (t : Seek) → left (sought aim next_round k found t) ≤ 4 - k
  sought_left k found (Calling n) = omega arith
  sought_left k found (Asking done known) = omega arith
  sought_left k found (Selecting done l) = omega arith
  sought_left k found (Ended Nobody) = omega arith
  sought_left k found (Ended Disturbed) = next_left k (nat_lt k most_rounds) refl
  sought_left k found (Ended BadAnswer) = omega arith
  sought_left k found (Ended (Found ls kind)) = let p : Picked = record { id = identifier ls; kind = kind } in taken_left k found p (aim.takes p)

  step_left : (s : Search X) (h : Heard) → left (search_step aim next_round s h) ≤ left s
  step_left (Begins k) h = omega arith
  step_left (Seeks k found t) h = sought_left k found (seek_step t h)
  step_left (Sends k found) h = omega arith
  step_left (Told r) h = omega arith

  seek_no_light : (t : Seek) → seek_next t ≡ LightUp → ⊥
  seek_no_light (Calling n) q = cc
  seek_no_light (Asking done known) q = cc
  seek_no_light (Selecting done l) q = cc
  seek_no_light (Ended o) q = cc

  asks_no_light : (g : Signal) → Asks g ≡ LightUp → ⊥
  asks_no_light g q = cc

  light_left : (s : Search X) → search_next aim s ≡ LightUp → suc (left (search_lit aim s)) ≡ left s
  light_left (Begins k) q = refl
  light_left (Seeks k found t) q = absurd (seek_no_light t q)
  light_left (Sends k found) q = absurd (asks_no_light (call_frame Slp) q)
  light_left (Told r) q = absurd (nothing_lit q)

  -- the rounds that began, and those that may begin yet, are at most four
  abbrev Few : Progress (Search X) → List Event → Type 0
  Few (Reaches s) es = length (rounds es) + left s ≤ 4
  Few Loses es = length (rounds es) ≤ 4

  few_lit : (s : Search X) (es : List Event) → Few (Reaches s) es → search_next aim s ≡ LightUp → Few (Reaches (search_lit aim s)) (es ++ Reset ∷ [])
  few_lit s es k q = omega (arith, k, light_left s q, rounds-append es (Reset ∷ []))

  module _ {W : Type 0} (m : AirModel W) where
    few_by : (w : W) (s : Search X) (es : List Event) (g : Signal) (x y : Fate) (h : Option Heard) → Few (Reaches s) es → Few (after (searching aim) (Reaches s) (note h)) (es ++ turn_events m w g x y)
    few_by w s es g x y None k = omega (arith, k, rounds-append es (turn_events m w g x y), ap length (turn_rounds m w g x y))
    few_by w s es g x y (Some h) k = omega (arith, k, step_left s h, rounds-append es (turn_events m w g x y), ap length (turn_rounds m w g x y))

  few_end : (p : Progress (Search X)) (es : List Event) → Few p es → length (rounds es) ≤ 4
  few_end (Reaches s) es k = omega (arith, k)
  few_end Loses es k = k

  -- a call makes at most four rounds
  pub few_rounds : {L : Type 0} (m : Machine L) (old new : Air L) (r : Result X PollFault) → Enquires (searching aim) m old r new → length (rounds (drop (length old.trace) new.trace)) ≤ most_rounds
  few_rounds m old new r q =
      let R : List Event → Type 0 = λ t. length (rounds t) ≤ 4 in
      subst R (sym (events_gained (searching aim) m old new r q))
      (few_end (progress (searching aim) (searching aim).start q.notes) q.going.events
      (holds (searching aim) (mute_air m) (moment old).world Few (omega arith) few_lit
      (λ s es g x y k due lit. few_by (mute_air m) (replay (mute_air m) (moment old).world es) s es g x y (turn_heard (mute_air m) (replay (mute_air m) (moment old).world es) g x y) k) (moment old)
      (moment new) q.notes refl
      q.going))

-- what a call that finds all devices leaves and tells
module _ {L : Type 0} (m : Machine L) (old new : Air L) (r : Result (List Picked) PollFault) (q : Enquires finding m old r new) where
  no_fault : (f : PollFault) (found : List Picked) → ◌≡◌ {A = Result (List Picked) PollFault} (Ok found) (Err f) → ⊥
  no_fault f found e = cc

  pub find_lit : LeavesLit r new
  find_lit = leaves_lit finding m old new r refl q

  pub find_lost : r ≡ Err faults.FieldLost → 0 < breaks (drop (length old.trace) new.trace)
  find_lost = call_lost all_devices (no_fault faults.FieldLost) m old new r q

  pub find_rounds : length (rounds (drop (length old.trace) new.trace)) ≤ most_rounds
  find_rounds = few_rounds all_devices m old new r q

  pub find_other : (r ≡ Err faults.Nobody → ⊥) × (r ≡ Err faults.NotFound → ⊥)
  find_other = (
    never_told all_devices faults.Nobody (λ x. cc) (λ x. cc) (no_fault faults.Nobody) m old new r (λ x. cc) (λ x. cc) q,
    never_told all_devices faults.NotFound (λ x. cc) (λ x. cc) (no_fault faults.NotFound) m old new r (λ x. cc) (λ x. cc) q,
  )

-- what a call that selects one device leaves and tells
module _ (id : List ℕ) {L : Type 0} (m : Machine L) (old new : Air L) (r : Result Kind PollFault) (q : Enquires (picking id) m old r new) where
  pub pick_lit : LeavesLit r new
  pick_lit = leaves_lit (picking id) m old new r refl q

  pub pick_lost : r ≡ Err faults.FieldLost → 0 < breaks (drop (length old.trace) new.trace)
  pick_lost = call_lost (device_of id) (λ found e. cc) m old new r q

  pub pick_rounds : length (rounds (drop (length old.trace) new.trace)) ≤ most_rounds
  pick_rounds = few_rounds (device_of id) m old new r q

  pub pick_other : r ≡ Err faults.Nobody → ⊥
  pick_other = never_told (device_of id) faults.Nobody (λ x. cc) (λ x. cc) (λ found e. cc) m old new r (λ x. cc) (λ x. cc) q
