-- How one round goes on: by what a resolution in it answers, and by SLP_REQ.
use Rattle.std.proofs.Common.{◌≡◌, ℕ, List, [], ◌∷◌, ◌++◌, length, Bool, true, false, nat_lt, if◌then◌else◌, Option, Some, None, Result, Ok, Err, refl, sym, ◌∙◌, ap, subst}
use Rattle.nfc_base.specs.Signal.{Signal}
use Rattle.nfc_base.specs.declared.event.Heard.{Heard}
use Rattle.air_core.specs.World.{Machine}
use Rattle.air_core.specs.Turn.{Air}
use Rattle.air_core.specs.Conversation.{Next, LightUp, Asks, IsDemand}
use Rattle.nfca_poll.specs.declared.fault.Picked.{Picked}
use Rattle.nfca_poll.specs.declared.fault.PollFault.{PollFault}
use Rattle.nfca_poll.specs.declared.fault.PollFault.TheVariants as faults
use Rattle.nfca_poll.specs.declared.rounds.RoundEnd.{RoundEnd}
use Rattle.nfca_poll.specs.declared.rounds.RoundEnd.TheVariants as ends
use Rattle.nfca_poll.specs.Poll.{Seek, Calling, Asking, Selecting, Ended, Nobody, Disturbed, BadAnswer, Found, seek_step, seek_next}
use Rattle.nfca_poll.specs.Enquiry.{Progress, Reaches, Loses, or_memory, Enquires}
use Rattle.nfca_poll.specs.Seeking.{resolution, seek_ended}
use Rattle.nfca_poll.specs.Rounds.{Search, Seeks, Sends, Told, has_found, most_found, met, met_or_taken, sought, search_next, search_lit, search_step, search_ended}
use Rattle.nfca_poll.specs.private.OneRound.{is_wanted, round_of, no_more, one_round}
use Rattle.nfca_poll.proofs.enquiries.Enquiring.{Reached, enquires_end, enquires_so}
use Rattle.nfca_poll.proofs.enquiries.EnquiryWalks.{nothing_due, nothing_lit, nothing_asked}
use Rattle.nfca_poll.proofs.enquiries.Embedding.{Embeds, Arrives, reached_then}

abbrev device_in : Picked → Result Picked PollFault → Picked
device_in d (Ok p) = p
device_in d (Err f) = d

abbrev fault_in : PollFault → Result Picked PollFault → PollFault
fault_in d (Ok p) = d
fault_in d (Err f) = f

module _ (w : Option (List ℕ)) (found : List Picked) where
  -- what a resolution has come to, what becomes of a device, and of another one than the wanted one
  abbrev pub seeks_in : Seek → Search RoundEnd
  seeks_in = sought (round_of w) no_more 1 found

  abbrev pub met_in : Picked → Search RoundEnd
  met_in p = met_or_taken (round_of w) no_more 1 found p ((round_of w).takes p)

  abbrev joined : Picked → Search RoundEnd
  joined = met (round_of w) no_more 1 found

  seeks_next : (t : Seek) (n : Next) → seek_next t ≡ n → IsDemand n → search_next (round_of w) (seeks_in t) ≡ n
  seeks_next (Calling k) n q d = q
  seeks_next (Asking done known) n q d = q
  seeks_next (Selecting done l) n q d = q
  seeks_next (Ended o) n q d = absurd (nothing_due n q d)

  seeks_light : (t : Seek) → seek_next t ≡ LightUp → search_lit (round_of w) (seeks_in t) ≡ seeks_in t
  seeks_light (Calling k) q = refl
  seeks_light (Asking done known) q = refl
  seeks_light (Selecting done l) q = refl
  seeks_light (Ended o) q = absurd (nothing_lit q)

  seeks_step : (t : Seek) (f : Signal) (h : Heard) → seek_next t ≡ Asks f → search_step (round_of w) no_more (seeks_in t) h ≡ seeks_in (seek_step t h)
  seeks_step (Calling k) f h q = refl
  seeks_step (Asking done known) f h q = refl
  seeks_step (Selecting done l) f h q = refl
  seeks_step (Ended o) f h q = absurd (nothing_asked f q)

  -- a resolution is a part of a round
  pub seeks_embed : Embeds resolution (one_round w) seeks_in
  seeks_embed = record { next = seeks_next; light = seeks_light; step = seeks_step }

  met_at : (t : Seek) (p : Picked) → Ok p ≡ or_memory (seek_ended t) → seeks_in t ≡ met_in p
  met_at (Calling k) p q = absurd cc
  met_at (Asking done known) p q = absurd cc
  met_at (Selecting done l) p q = absurd cc
  met_at (Ended Nobody) p q = absurd cc
  met_at (Ended Disturbed) p q = absurd cc
  met_at (Ended BadAnswer) p q = absurd cc
  met_at (Ended (Found ls kind)) p q = ap (λ r. met_in (device_in p r)) (sym q)

  nobody_at : (t : Seek) → ◌≡◌ {A = Result Picked PollFault} (Err faults.Nobody) (or_memory (seek_ended t)) → seeks_in t ≡ Told (Ok (ends.Nobody found))
  nobody_at (Calling k) q = absurd cc
  nobody_at (Asking done known) q = absurd cc
  nobody_at (Selecting done l) q = absurd cc
  nobody_at (Ended Nobody) q = refl
  nobody_at (Ended Disturbed) q = absurd cc
  nobody_at (Ended BadAnswer) q = absurd cc
  nobody_at (Ended (Found ls kind)) q = absurd cc

  disturbed_at : (t : Seek) → ◌≡◌ {A = Result Picked PollFault} (Err faults.Disturbed) (or_memory (seek_ended t)) → seeks_in t ≡ no_more 1
  disturbed_at (Calling k) q = absurd cc
  disturbed_at (Asking done known) q = absurd cc
  disturbed_at (Selecting done l) q = absurd cc
  disturbed_at (Ended Nobody) q = absurd cc
  disturbed_at (Ended Disturbed) q = refl
  disturbed_at (Ended BadAnswer) q = absurd cc
  disturbed_at (Ended (Found ls kind)) q = absurd cc

  fault_at : (t : Seek) (f : PollFault) → (f ≡ faults.Nobody → ⊥) → (f ≡ faults.Disturbed → ⊥) → ◌≡◌ {A = Result Picked PollFault} (Err f) (or_memory (seek_ended t))
      → Err f ≡ or_memory (search_ended (round_of w) (seeks_in t))
  fault_at (Calling k) f a b q = ap (λ r. Err (fault_in f r)) q
  fault_at (Asking done known) f a b q = ap (λ r. Err (fault_in f r)) q
  fault_at (Selecting done l) f a b q = ap (λ r. Err (fault_in f r)) q
  fault_at (Ended Nobody) f a b q = absurd (a (ap (fault_in f) q))
  fault_at (Ended Disturbed) f a b q = absurd (b (ap (fault_in f) q))
  fault_at (Ended BadAnswer) f a b q = ap (λ r. Err (fault_in f r)) q
  fault_at (Ended (Found ls kind)) f a b q = absurd cc

  -- what becomes of another device, and of the wanted one
  pub met_wanted : (p : Picked) → is_wanted w p ≡ true → met_in p ≡ Told (Ok (ends.Selected p.kind))
  met_wanted p q = ap (λ v. met_or_taken (round_of w) no_more 1 found p (if v then Some (ends.Selected p.kind) else None)) q

  met_other : (p : Picked) → is_wanted w p ≡ false → met_in p ≡ joined p
  met_other p q = ap (λ v. met_or_taken (round_of w) no_more 1 found p (if v then Some (ends.Selected p.kind) else None)) q

  joined_by : (p : Picked) (u v : Bool) → has_found found p.id ≡ u → nat_lt (length found) most_found ≡ v
      → joined p ≡ (if u then no_more 1 else if v then Sends 1 (found ++ p ∷ []) else Told (Err faults.BadAnswer))
  joined_by p u v a b =
      ap (λ x. if x then no_more 1 else if nat_lt (length found) most_found then Sends 1 (found ++ p ∷ []) else Told (Err faults.BadAnswer)) a
      ∙ ap (λ x. if u then no_more 1 else if x then Sends 1 (found ++ p ∷ []) else Told (Err faults.BadAnswer)) b

  pub met_again : (p : Picked) → is_wanted w p ≡ false → has_found found p.id ≡ true → met_in p ≡ no_more 1
  met_again p q a = met_other p q ∙ joined_by p true (nat_lt (length found) most_found) a refl

  pub met_too_many : (p : Picked) → is_wanted w p ≡ false → has_found found p.id ≡ false → nat_lt (length found) most_found ≡ false → met_in p ≡ Told (Err faults.BadAnswer)
  met_too_many p q a b = met_other p q ∙ joined_by p false false a b

  pub met_new : (p : Picked) → is_wanted w p ≡ false → has_found found p.id ≡ false → nat_lt (length found) most_found ≡ true → met_in p ≡ Sends 1 (found ++ p ∷ [])
  met_new p q a b = met_other p q ∙ joined_by p false true a b

  module _ {L : Type 0} (m : Machine L) (old new : Air L) where
    device_by : (p : Picked) (q : Progress Seek) → Arrives resolution (one_round w) seeks_in seeks_embed m old (Ok p) new q → Reached (one_round w) m old new (met_in p)
    device_by p (Reaches t) a = let R : Search RoundEnd → Type 0 = λ s. Reached (one_round w) m old new s in subst R (met_at t p a.0) a.1
    device_by p Loses a = absurd (let e : ◌≡◌ {A = Result Picked PollFault} (Ok p) (Err faults.FieldLost) = a.0 in cc)

    nobody_by : (q : Progress Seek) → Arrives resolution (one_round w) seeks_in seeks_embed m old (Err faults.Nobody) new q → Enquires (one_round w) m old (Ok (ends.Nobody found)) new
    nobody_by (Reaches t) a = enquires_end (one_round w) m old new (seeks_in t) (Ok (ends.Nobody found)) a.1 (ap (search_ended (round_of w)) (nobody_at t a.0))
    nobody_by Loses a = absurd (let e : ◌≡◌ {A = Result Picked PollFault} (Err faults.Nobody) (Err faults.FieldLost) = a.0 in cc)

    disturbed_by : (q : Progress Seek) → Arrives resolution (one_round w) seeks_in seeks_embed m old (Err faults.Disturbed) new q → Enquires (one_round w) m old (Ok ends.Disturbed) new
    disturbed_by (Reaches t) a = enquires_end (one_round w) m old new (seeks_in t) (Ok ends.Disturbed) a.1 (ap (search_ended (round_of w)) (disturbed_at t a.0))
    disturbed_by Loses a = absurd (let e : ◌≡◌ {A = Result Picked PollFault} (Err faults.Disturbed) (Err faults.FieldLost) = a.0 in cc)

    fault_by : (f : PollFault) → (f ≡ faults.Nobody → ⊥) → (f ≡ faults.Disturbed → ⊥) → (q : Progress Seek)
        → Arrives resolution (one_round w) seeks_in seeks_embed m old (Err f) new q → Enquires (one_round w) m old (Err f) new
    fault_by f x y (Reaches t) a = enquires_so (one_round w) m old new (seeks_in t) (Err f) a.1 (fault_at t f x y a.0)
    fault_by f x y Loses a =
        let E : PollFault → Type 0 = λ g. Enquires (one_round w) m old (Err g) new in
        let same : ◌≡◌ {A = Result Picked PollFault} (Err f) (Err faults.FieldLost) = a.0 in
        subst E (sym (ap (fault_in f) same)) a.1

    -- a resolution in a round, by its answer
    pub device_met : (mid : Air L) (p : Picked) → Reached (one_round w) m old mid (Seeks 1 found (Calling 0)) → Enquires resolution m mid (Ok p) new → Reached (one_round w) m old new (met_in p)
    device_met mid p k q = let a = reached_then resolution (one_round w) seeks_in seeks_embed m old mid new (Ok p) k q in device_by p a.0 a.1

    pub nobody_left : (mid : Air L) → Reached (one_round w) m old mid (Seeks 1 found (Calling 0)) → Enquires resolution m mid (Err faults.Nobody) new
        → Enquires (one_round w) m old (Ok (ends.Nobody found)) new
    nobody_left mid k q = let a = reached_then resolution (one_round w) seeks_in seeks_embed m old mid new (Err faults.Nobody) k q in nobody_by a.0 a.1

    pub given_up : (mid : Air L) → Reached (one_round w) m old mid (Seeks 1 found (Calling 0)) → Enquires resolution m mid (Err faults.Disturbed) new
        → Enquires (one_round w) m old (Ok ends.Disturbed) new
    given_up mid k q = let a = reached_then resolution (one_round w) seeks_in seeks_embed m old mid new (Err faults.Disturbed) k q in disturbed_by a.0 a.1

    pub fault_told : (mid : Air L) (f : PollFault) → (f ≡ faults.Nobody → ⊥) → (f ≡ faults.Disturbed → ⊥) → Reached (one_round w) m old mid (Seeks 1 found (Calling 0))
        → Enquires resolution m mid (Err f) new
        → Enquires (one_round w) m old (Err f) new
    fault_told mid f x y k q = let a = reached_then resolution (one_round w) seeks_in seeks_embed m old mid new (Err f) k q in fault_by f x y a.0 a.1
