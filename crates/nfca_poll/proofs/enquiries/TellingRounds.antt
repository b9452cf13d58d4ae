-- What a call by rounds answers follows from what it heard.
use Rattle.std.proofs.Common.{◌≡◌, ◌⊎◌, inl, inr, ◌≤◌, ℕ, ◌+◌, List, [], ◌∷◌, ◌++◌, length, filter, Bool, true, false, nat_lt, if◌then◌else◌, Option, Some, None, Result, Ok, Err, refl, sym, ◌∙◌, ap}
use Rattle.std.proofs.Common.{subst, append_assoc, arith}
use Rattle.std.proofs.lemmas.List.{append-nil, length-append}
use Rattle.std.proofs.lemmas.List.Elements.{filter-append}
use Rattle.std.proofs.lemmas.List.Folds.{list_any-append}
use Rattle.nfc_base.specs.Signal.{Signal}
use Rattle.nfc_base.specs.Trace.{Turn, heard}
use Rattle.nfc_base.specs.declared.event.Heard.{Heard}
use Rattle.air_core.specs.Conversation.{LightUp, Asks, note}
use Rattle.air_core.specs.World.{Machine}
use Rattle.air_core.specs.Turn.{Air}
use Rattle.nfca_poll.specs.declared.kind.Kind.{Kind}
use Rattle.nfca_poll.specs.declared.fault.Picked.{Picked}
use Rattle.nfca_poll.specs.declared.fault.PollFault.{PollFault}
use Rattle.nfca_poll.specs.declared.fault.PollFault.TheVariants as faults
use Rattle.nfca_poll.specs.Levels.{identifier}
use Rattle.nfca_poll.specs.Calls.{Slp, call_frame, is_slp}
use Rattle.nfca_poll.specs.Enquiry.{Progress, Reaches, Loses, progress, answer_of, Enquires}
use Rattle.nfca_poll.specs.Poll.{Seek, Calling, Asking, Selecting, Ended, Nobody, Disturbed, BadAnswer, Found, seek_step}
use Rattle.nfca_poll.specs.Seeking.{resolution}
use Rattle.nfca_poll.specs.Rounds.{Aim, Search, Begins, Seeks, Sends, Told, most_rounds, most_found, next_round, has_found, met_or_taken, sought, searching, search_lit, search_next, all_devices}
use Rattle.nfca_poll.specs.Rounds.{device_of, finding, picking}
use Rattle.nfca_poll.specs.ByHeard.{silences, presence_turns, has_wrong, sleeps, TellsFound, TellsPicked, turns_since}
use Rattle.nfca_poll.proofs.enquiries.EnquiryWalks.{after}
use Rattle.nfca_poll.proofs.enquiries.TurnWalks.{turns_hold}
use Rattle.nfca_poll.proofs.enquiries.TellingInventory.{count_more, far_of, one_if}
use Rattle.nfca_poll.proofs.enquiries.TellingResolution as resolving
use Rattle.nfca_poll.proofs.enquiries.GivenUp.{or_right}

-- what a part of the turns has, all have
more_silences : (a b : List Turn) → silences (presence_turns b) ≤ silences (presence_turns (a ++ b))
more_silences a b =
    let e : silences (presence_turns (a ++ b)) ≡ silences (presence_turns a) + silences (presence_turns b) =
    ap silences (filter-append _ a b) ∙ ap length (filter-append _ (presence_turns a) (presence_turns b)) ∙ length-append (filter _ (presence_turns a)) (filter _ (presence_turns b)) in
    omega (arith, e)

more_wrong : (a b : List Turn) → has_wrong b ≡ true → has_wrong (a ++ b) ≡ true
more_wrong a b h = list_any-append _ a b ∙ or_right (has_wrong a) (has_wrong b) h

more_sleeps : (ts : List Turn) (t : Turn) → sleeps (ts ++ t ∷ []) ≡ sleeps ts + one_if (is_slp t.request)
more_sleeps ts t = count_more (λ u. is_slp u.request) ts t

-- what is told, by whether it is the end of a round at which nobody was left
record Tells {X : Type 0} (Ends : Result X PollFault → Type 0) (ts : List Turn) (r : Result X PollFault) : Type 0 where
  silent : Ends r → 4 ≤ silences (presence_turns ts)
  bad : r ≡ Err faults.BadAnswer → (has_wrong ts ≡ true) ⊎ (most_found ≤ sleeps ts)

-- a resolution goes on behind other turns
record Resolves (ts : List Turn) (s : Seek) : Type 0 where
  before : List Turn
  own : List Turn
  split : ts ≡ before ++ own
  at : resolving.At (Reaches s) own

module _ {X : Type 0} (aim : Aim X) (Ends : Result X PollFault → Type 0)
    (no_fault : (f : PollFault) → Ends (Err f) → f ≡ faults.NotFound) (no_taken : (p : Picked) (x : X) → aim.takes p ≡ Some x → Ends (Ok x) → ⊥)
    (no_bad : (found : List Picked) → aim.nobody found ≡ Err faults.BadAnswer → ⊥) where
  abbrev At : Progress (Search X) → List Turn → Type 0
  At (Reaches (Begins n)) ts = Unit {0}
  At (Reaches (Seeks n found s)) ts = (length found ≤ sleeps ts) × Resolves ts s
  At (Reaches (Sends n found)) ts = length found ≤ sleeps ts + 1
  At (Reaches (Told r)) ts = Tells Ends ts r
  At Loses ts = Unit {0}

  not_that : (f : PollFault) → (f ≡ faults.NotFound → ⊥) → Ends (Err f) → ⊥
  not_that f n e = n (no_fault f e)

  tells_disturbed : (ts : List Turn) → Tells Ends ts (Err faults.Disturbed)
  tells_disturbed ts = record { silent = λ e. absurd (not_that faults.Disturbed (λ q. cc) e); bad = λ e. absurd cc }

  tells_bad : (ts : List Turn) → (has_wrong ts ≡ true) ⊎ (most_found ≤ sleeps ts) → Tells Ends ts (Err faults.BadAnswer)
  tells_bad ts why = record { silent = λ e. absurd (not_that faults.BadAnswer (λ q. cc) e); bad = λ e. why }

  next_at : (n : ℕ) (ts : List Turn) (v : Bool) → At (Reaches (if v then Begins (n + 1) else Told (Err faults.Disturbed))) ts
  next_at n ts true = tt
  next_at n ts false = tells_disturbed ts

  full_at : (n : ℕ) (found : List Picked) (p : Picked) (ts : List Turn) → length found ≤ sleeps ts → (v : Bool) → nat_lt (length found) most_found ≡ v
      → At (Reaches (if v then Sends n (found ++ p ∷ []) else Told (Err faults.BadAnswer))) ts
  full_at n found p ts few true h = let one : length (found ++ p ∷ []) ≡ length found + 1 = length-append found (p ∷ []) in omega (arith, few, one)
  full_at n found p ts few false h = tells_bad ts (inr (let far = far_of (length found) most_found h in omega (arith, few, far)))

  met_at : (n : ℕ) (found : List Picked) (p : Picked) (ts : List Turn) → length found ≤ sleeps ts → (v : Bool)
      → At (Reaches (if v then next_round n else if nat_lt (length found) most_found then Sends n (found ++ p ∷ []) else Told (Err faults.BadAnswer))) ts
  met_at n found p ts few true = next_at n ts (nat_lt n most_rounds)
  met_at n found p ts few false = full_at n found p ts few (nat_lt (length found) most_found) refl

  taken_at : (n : ℕ) (found : List Picked) (p : Picked) (ts : List Turn) → length found ≤ sleeps ts → (o : Option X) → aim.takes p ≡ o → At (Reaches (met_or_taken aim next_round n found p o)) ts
  taken_at n found p ts few (Some x) e = record { silent = λ q. absurd (no_taken p x e q); bad = λ q. absurd cc }
  taken_at n found p ts few None e = met_at n found p ts few (has_found found p.id)

  -- what a resolution has come to
  sought_at : (n : ℕ) (found : List Picked) (s : Seek) (before own : List Turn) → length found ≤ sleeps (before ++ own) → resolving.At (Reaches s) own
      → At (Reaches (sought aim next_round n found s)) (before ++ own)
  sought_at n found (Calling k) before own few q = (few, record { before = before; own = own; split = refl; at = q })
  sought_at n found (Asking done known) before own few q = (few, record { before = before; own = own; split = refl; at = q })
  sought_at n found (Selecting done l) before own few q = (few, record { before = before; own = own; split = refl; at = q })
  sought_at n found (Ended Nobody) before own few q = record {
    silent = λ e. let four : silences (presence_turns own) ≡ 4 = q.nobody.0 refl in let all = more_silences before own in omega (arith, four, all);
    bad = λ e. absurd (no_bad found e);
  }
  sought_at n found (Ended Disturbed) before own few q = next_at n (before ++ own) (nat_lt n most_rounds)
  sought_at n found (Ended BadAnswer) before own few q = tells_bad (before ++ own) (inl (more_wrong before own (q.bad.0 refl)))
  sought_at n found (Ended (Found ls kind)) before own few q =
      let p : Picked = record { id = identifier ls; kind = kind } in taken_at n found p (before ++ own) few (aim.takes p) refl

  -- a turn of a resolution
  more_of : (ts : List Turn) (t : Turn) (before own : List Turn) → ts ≡ before ++ own → ts ++ t ∷ [] ≡ before ++ (own ++ t ∷ [])
  more_of ts t before own e = ap (λ x. x ++ t ∷ []) e ∙ append_assoc before own (t ∷ [])

  still_few : (found : List Picked) (ts : List Turn) (t : Turn) → length found ≤ sleeps ts → length found ≤ sleeps (ts ++ t ∷ [])
  still_few found ts t few = let more = more_sleeps ts t in omega (arith, few, more)

  seek_heard : (n : ℕ) (found : List Picked) (s : Seek) (before own : List Turn) (o : Option Heard) → length found ≤ sleeps (before ++ own) → resolving.At (after resolution (Reaches s) (note o)) own
      → At (after (searching aim) (Reaches (Seeks n found s)) (note o)) (before ++ own)
  seek_heard n found s before own None few q = tt
  seek_heard n found s before own (Some h) few q = sought_at n found (seek_step s h) before own few q

  slept : (n : ℕ) (found : List Picked) (ts us : List Turn) (o : Option Heard) → length found ≤ sleeps us → At (after (searching aim) (Reaches (Sends n found)) (note o)) us
  slept n found ts us None few = tt
  slept n found ts us (Some h) few = (few, record { before = us; own = []; split = sym (append-nil us); at = resolving.begins })

  due_slp : (f : Signal) → Asks (call_frame Slp) ≡ Asks f → is_slp f ≡ true
  due_slp f e = ap is_slp (same f e)
    where
      same : (f : Signal) → Asks (call_frame Slp) ≡ Asks f → f ≡ call_frame Slp
      same f e = cc

  asked : (s : Search X) (ts : List Turn) (t : Turn) → At (Reaches s) ts → search_next aim s ≡ Asks t.request → At (after (searching aim) (Reaches s) (note (heard t))) (ts ++ t ∷ [])
  asked (Begins n) ts t k e = absurd cc
  asked (Seeks n found s) ts t k e =
      let q : Resolves ts s = k.1 in
      let same : ts ++ t ∷ [] ≡ q.before ++ (q.own ++ t ∷ []) = more_of ts t q.before q.own q.split in
      let P : List Turn → Type 0 = λ x. At (after (searching aim) (Reaches (Seeks n found s)) (note (heard t))) x in
      let F : List Turn → Type 0 = λ x. length found ≤ sleeps x in
      subst P (sym same) (seek_heard n found s q.before (q.own ++ t ∷ []) (heard t) (subst F same (still_few found ts t k.0)) (resolving.asked s q.own t q.at e))
  asked (Sends n found) ts t k e =
      let one : is_slp t.request ≡ true = due_slp t.request e in
      let more : sleeps (ts ++ t ∷ []) ≡ sleeps ts + 1 = more_sleeps ts t ∙ ap (λ v. sleeps ts + one_if v) one in
      slept n found ts (ts ++ t ∷ []) (heard t) (omega (arith, k, more))
  asked (Told r) ts t k e = absurd cc

  lit_at : (s : Search X) (ts : List Turn) → At (Reaches s) ts → search_next aim s ≡ LightUp → At (Reaches (search_lit aim s)) ts
  lit_at (Begins n) ts k e = (omega arith, record { before = ts; own = []; split = sym (append-nil ts); at = resolving.begins })
  lit_at (Seeks n found s) ts k e = k
  lit_at (Sends n found) ts k e = k
  lit_at (Told r) ts k e = k

  starved : (ts : List Turn) → Tells Ends ts (Err faults.Memory)
  starved ts = record { silent = λ e. absurd (not_that faults.Memory (λ q. cc) e); bad = λ e. absurd cc }

  ends : (p : Progress (Search X)) (ts : List Turn) → At p ts → Tells Ends ts (answer_of (searching aim) p)
  ends (Reaches (Begins n)) ts k = starved ts
  ends (Reaches (Seeks n found s)) ts k = starved ts
  ends (Reaches (Sends n found)) ts k = starved ts
  ends (Reaches (Told r)) ts k = k
  ends Loses ts k = record { silent = λ e. absurd (not_that faults.FieldLost (λ q. cc) e); bad = λ e. absurd cc }

  tells : {L : Type 0} (m : Machine L) (old new : Air L) (r : Result X PollFault) → Enquires (searching aim) m old r new → Tells Ends (turns_since old new) r
  tells m old new r q =
      let T : Result X PollFault → Type 0 = λ x. Tells Ends (turns_since old new) x in
      subst T (sym q.comes) (ends (progress (searching aim) (Begins 1) q.notes) (turns_since old new) (turns_hold (searching aim) m At tt lit_at asked old new r q))

-- the two calls
abbrev IsFound : Result (List Picked) PollFault → Type 0
IsFound (Ok x) = Unit {0}
IsFound (Err f) = ⊥

pub tells_found : {L : Type 0} (m : Machine L) (old new : Air L) (r : Result (List Picked) PollFault) → Enquires finding m old r new → TellsFound (turns_since old new) r
tells_found m old new r q =
    let k = tells all_devices IsFound (λ f e. absurd e) (λ p x e g. cc) (λ found e. cc) m old new r q in
    record { found = λ x e. k.silent (let F : Result (List Picked) PollFault → Type 0 = λ z. IsFound z in subst F (sym e) tt); bad = k.bad }

abbrev IsMissing : Result Kind PollFault → Type 0
IsMissing r = r ≡ Err faults.NotFound

fault_in : PollFault → Result Kind PollFault → PollFault
fault_in d (Ok x) = d
fault_in d (Err f) = f

missing : (f : PollFault) → IsMissing (Err f) → f ≡ faults.NotFound
unfolding fault_in
missing f e = ap (fault_in f) e

pub tells_picked : {L : Type 0} (m : Machine L) (id : List ℕ) (old new : Air L) (r : Result Kind PollFault) → Enquires (picking id) m old r new → TellsPicked (turns_since old new) r
tells_picked m id old new r q =
    let k = tells (device_of id) IsMissing missing (λ p x e g. cc) (λ found e. cc) m old new r q in
    record { not_found = k.silent; bad = k.bad }
