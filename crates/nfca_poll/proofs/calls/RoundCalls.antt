-- A round in a call by rounds.
use Rattle.std.proofs.Common.{◌≡◌, inl, inr, ℕ, ◌<◌, ◌+◌, List, [], ◌∷◌, ◌++◌, length, Bool, true, false, nat_lt, if◌then◌else◌, Option, Some, None, Result, Ok, Err, refl, sym, ◌∙◌, ap, subst, arith}
use Rattle.nfc_base.specs.Signal.{Signal}
use Rattle.nfc_base.specs.declared.event.Heard.{Heard}
use Rattle.air_core.specs.World.{Machine}
use Rattle.air_core.specs.Turn.{Air}
use Rattle.air_core.specs.Conversation.{Next, LightUp, Asks, IsDemand}
use Rattle.nfca_poll.specs.declared.kind.Kind.{Kind}
use Rattle.nfca_poll.specs.declared.fault.Picked.{Picked}
use Rattle.nfca_poll.specs.declared.fault.PollFault.{PollFault}
use Rattle.nfca_poll.specs.declared.fault.PollFault.TheVariants as faults
use Rattle.nfca_poll.specs.declared.rounds.RoundEnd.{RoundEnd}
use Rattle.nfca_poll.specs.declared.rounds.RoundEnd.TheVariants as ends
use Rattle.nfca_poll.specs.Levels.{identifier}
use Rattle.nfca_poll.specs.Poll.{Seek, Calling, Asking, Selecting, Ended, Nobody, Disturbed, BadAnswer, Found, seek_step}
use Rattle.nfca_poll.specs.Enquiry.{Progress, Reaches, Loses, or_memory, Enquires}
use Rattle.nfca_poll.specs.Rounds.{Aim, Search, Begins, Seeks, Sends, Told, next_round, has_found, most_found, most_rounds, met_or_taken, sought, searching, search_next, search_lit, search_step}
use Rattle.nfca_poll.specs.Rounds.{search_ended}
use Rattle.nfca_poll.specs.private.OneRound.{is_wanted, round_of, no_more, one_round}
use Rattle.nfca_poll.proofs.enquiries.Enquiring.{Reached, enquires_so}
use Rattle.nfca_poll.proofs.enquiries.EnquiryEnds.{Ends, ends as ends_so}
use Rattle.nfca_poll.proofs.enquiries.Embedding.{Embeds, Arrives, reached_then}
use Rattle.nfca_poll.proofs.enquiries.EnquiryWalks.{nothing_due, nothing_lit, nothing_asked}

-- the next round begins, as long as there is one
pub round_begins : {X : Type 0} (n : ℕ) → n < 4 → next_round {X = X} n ≡ Begins (n + 1)
round_begins n h = let less : nat_lt n most_rounds ≡ true = grind (arith, h) in ap (λ v. if v then Begins (n + 1) else Told (Err faults.Disturbed)) less

module _ {X : Type 0} (aim : Aim X) (w : Option (List ℕ)) (kinded : Kind → X) (agree : (p : Picked) → aim.takes p ≡ (if is_wanted w p then Some (kinded p.kind) else None)) (k : ℕ) where
  -- what the end of a round is in the call
  abbrev pub told_as : Result RoundEnd PollFault → Search X
  told_as (Ok (ends.Nobody found)) = Told (aim.nobody found)
  told_as (Ok (ends.Selected kind)) = Told (Ok (kinded kind))
  told_as (Ok ends.Disturbed) = next_round k
  told_as (Err f) = Told (Err f)

  abbrev pub in_call : Search RoundEnd → Search X
  in_call (Begins n) = Begins k
  in_call (Seeks n found s) = Seeks k found s
  in_call (Sends n found) = Sends k found
  in_call (Told r) = told_as r

  met_as : (n : ℕ) (found : List Picked) (p : Picked) (u v : Bool)
      → (if u then next_round k else if v then Sends k (found ++ p ∷ []) else Told (Err faults.BadAnswer))
      ≡ in_call (if u then no_more n else if v then Sends n (found ++ p ∷ []) else Told (Err faults.BadAnswer))
  met_as n found p true v = refl
  met_as n found p false true = refl
  met_as n found p false false = refl

  taken_as : (n : ℕ) (found : List Picked) (p : Picked) (v : Bool)
      → met_or_taken aim next_round k found p (if v then Some (kinded p.kind) else None)
      ≡ in_call (met_or_taken (round_of w) no_more n found p (if v then Some (ends.Selected p.kind) else None))
  taken_as n found p true = refl
  taken_as n found p false = met_as n found p (has_found found p.id) (nat_lt (length found) most_found)

  sought_as : (n : ℕ) (found : List Picked) (t : Seek) → sought aim next_round k found t ≡ in_call (sought (round_of w) no_more n found t)
  sought_as n found (Calling i) = refl
  sought_as n found (Asking done known) = refl
  sought_as n found (Selecting done l) = refl
  sought_as n found (Ended Nobody) = refl
  sought_as n found (Ended Disturbed) = refl
  sought_as n found (Ended BadAnswer) = refl
  sought_as n found (Ended (Found ls kind)) =
      let p : Picked = record { id = identifier ls; kind = kind } in ap (met_or_taken aim next_round k found p) (agree p) ∙ taken_as n found p (is_wanted w p)

  call_next : (t : Search RoundEnd) (d : Next) → search_next (round_of w) t ≡ d → IsDemand d → search_next aim (in_call t) ≡ d
  call_next (Begins n) d q i = q
  call_next (Seeks n found s) d q i = q
  call_next (Sends n found) d q i = q
  call_next (Told r) d q i = absurd (nothing_due d q i)

  call_light : (t : Search RoundEnd) → search_next (round_of w) t ≡ LightUp → search_lit aim (in_call t) ≡ in_call (search_lit (round_of w) t)
  call_light (Begins n) q = refl
  call_light (Seeks n found s) q = refl
  call_light (Sends n found) q = refl
  call_light (Told r) q = absurd (nothing_lit q)

  call_step : (t : Search RoundEnd) (f : Signal) (h : Heard) → search_next (round_of w) t ≡ Asks f → search_step aim next_round (in_call t) h ≡ in_call (search_step (round_of w) no_more t h)
  call_step (Begins n) f h q = refl
  call_step (Seeks n found s) f h q = sought_as n found (seek_step s h)
  call_step (Sends n found) f h q = refl
  call_step (Told r) f h q = absurd (nothing_asked f q)

  -- a round is a part of a call
  pub round_embeds : Embeds (one_round w) (searching aim) in_call
  round_embeds = record { next = call_next; light = call_light; step = call_step }

  came_at : (t : Search RoundEnd) (e : RoundEnd) → Ok e ≡ or_memory (search_ended (round_of w) t) → in_call t ≡ told_as (Ok e)
  came_at (Begins n) e q = absurd cc
  came_at (Seeks n found s) e q = absurd cc
  came_at (Sends n found) e q = absurd cc
  came_at (Told r) e q = ap told_as (sym q)

  fault_at : (t : Search RoundEnd) (f : PollFault) → Err f ≡ or_memory (search_ended (round_of w) t) → Err f ≡ or_memory (search_ended aim (in_call t))
  fault_at (Begins n) f q = ap (λ r. or_memory (search_ended aim (told_as r))) q
  fault_at (Seeks n found s) f q = ap (λ r. or_memory (search_ended aim (told_as r))) q
  fault_at (Sends n found) f q = ap (λ r. or_memory (search_ended aim (told_as r))) q
  fault_at (Told r) f q = ap (λ r. or_memory (search_ended aim (told_as r))) q

  module _ {L : Type 0} (m : Machine L) (old new : Air L) where
    came_by : (e : RoundEnd) (q : Progress (Search RoundEnd)) → Arrives (one_round w) (searching aim) in_call round_embeds m old (Ok e) new q → Reached (searching aim) m old new (told_as (Ok e))
    came_by e (Reaches t) a = let R : Search X → Type 0 = λ s. Reached (searching aim) m old new s in subst R (came_at t e a.0) a.1
    came_by e Loses a = absurd (let q : ◌≡◌ {A = Result RoundEnd PollFault} (Ok e) (Err faults.FieldLost) = a.0 in cc)

    abbrev fault_in : PollFault → Result RoundEnd PollFault → PollFault
    fault_in d (Ok e) = d
    fault_in d (Err f) = f

    fault_by : (f : PollFault) (q : Progress (Search RoundEnd)) → Arrives (one_round w) (searching aim) in_call round_embeds m old (Err f) new q → Enquires (searching aim) m old (Err f) new
    fault_by f (Reaches t) a = enquires_so (searching aim) m old new (in_call t) (Err f) a.1 (fault_at t f a.0)
    fault_by f Loses a =
        let E : PollFault → Type 0 = λ x. Enquires (searching aim) m old (Err x) new in
        let same : ◌≡◌ {A = Result RoundEnd PollFault} (Err f) (Err faults.FieldLost) = a.0 in
        subst E (sym (ap (fault_in f) same)) a.1

    -- a round of a call, by its end
    pub round_came : (mid : Air L) (e : RoundEnd) → Reached (searching aim) m old mid (Begins k) → Enquires (one_round w) m mid (Ok e) new → Reached (searching aim) m old new (told_as (Ok e))
    round_came mid e r q = let a = reached_then (one_round w) (searching aim) in_call round_embeds m old mid new (Ok e) r q in came_by e a.0 a.1

    pub round_failed : (mid : Air L) (f : PollFault) → Reached (searching aim) m old mid (Begins k) → Enquires (one_round w) m mid (Err f) new → Enquires (searching aim) m old (Err f) new
    round_failed mid f r q = let a = reached_then (one_round w) (searching aim) in_call round_embeds m old mid new (Err f) r q in fault_by f a.0 a.1

-- a round in which no device is wanted
abbrev SelectsNone : Search RoundEnd → Type 0
SelectsNone (Begins n) = Unit {0}
SelectsNone (Seeks n found s) = Unit {0}
SelectsNone (Sends n found) = Unit {0}
SelectsNone (Told (Ok (ends.Nobody found))) = Unit {0}
SelectsNone (Told (Ok (ends.Selected kind))) = ⊥
SelectsNone (Told (Ok ends.Disturbed)) = Unit {0}
SelectsNone (Told (Err f)) = Unit {0}

met_none : (n : ℕ) (found : List Picked) (p : Picked) (u v : Bool) → SelectsNone (if u then no_more n else if v then Sends n (found ++ p ∷ []) else Told (Err faults.BadAnswer))
met_none n found p true v = tt
met_none n found p false true = tt
met_none n found p false false = tt

sought_none : (n : ℕ) (found : List Picked) (t : Seek) → SelectsNone (sought (round_of None) no_more n found t)
sought_none n found (Calling i) = tt
sought_none n found (Asking done known) = tt
sought_none n found (Selecting done l) = tt
sought_none n found (Ended Nobody) = tt
sought_none n found (Ended Disturbed) = tt
sought_none n found (Ended BadAnswer) = tt
sought_none n found (Ended (Found ls kind)) =
    let p : Picked = record { id = identifier ls; kind = kind } in met_none n found p (has_found found p.id) (nat_lt (length found) most_found)

lit_none : (t : Search RoundEnd) → SelectsNone t → SelectsNone (search_lit (round_of None) t)
lit_none (Begins n) g = tt
lit_none (Seeks n found s) g = tt
lit_none (Sends n found) g = tt
lit_none (Told r) g = g

step_none : (t : Search RoundEnd) (h : Heard) → SelectsNone t → SelectsNone (search_step (round_of None) no_more t h)
step_none (Begins n) h g = tt
step_none (Seeks n found s) h g = sought_none n found (seek_step s h)
step_none (Sends n found) h g = tt
step_none (Told r) h g = g

selected_by : (kind : Kind) (t : Search RoundEnd) → SelectsNone t → Ok (ends.Selected kind) ≡ or_memory (search_ended (round_of None) t) → ⊥
selected_by kind (Begins n) g q = cc
selected_by kind (Seeks n found s) g q = cc
selected_by kind (Sends n found) g q = cc
selected_by kind (Told r) g q = let P : Result RoundEnd PollFault → Type 0 = λ t. SelectsNone (Told t) in subst P (sym q) g

module _ {L : Type 0} (m : Machine L) (old new : Air L) where
  none_by : (kind : Kind) → Ends (one_round None) m SelectsNone tt lit_none step_none old (Ok (ends.Selected kind)) new → ⊥
  none_by kind (inl k) = selected_by kind k.0 k.1 k.2
  none_by kind (inr k) = (let q : ◌≡◌ {A = Result RoundEnd PollFault} (Ok (ends.Selected kind)) (Err faults.FieldLost) = k.0 in cc)

  -- where no device is wanted, a round that is over and hasn't found all is given up
  pub given_up : (e : RoundEnd) → ((found : List Picked) → e ≡ ends.Nobody found → ⊥) → Enquires (one_round None) m old (Ok e) new → e ≡ ends.Disturbed
  given_up (ends.Nobody found) x q = absurd (x found refl)
  given_up (ends.Selected kind) x q = absurd (none_by kind (ends_so (one_round None) m SelectsNone tt lit_none step_none old new (Ok (ends.Selected kind)) q))
  given_up ends.Disturbed x q = refl
