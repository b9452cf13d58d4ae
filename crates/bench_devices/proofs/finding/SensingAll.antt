-- A search for Type 3 tags from a reset on: what it asks of the bench's devices, and what it tells of them.
use Rattle.std.proofs.Common.{◌≡◌, ◌⊎◌, inl, inr, ℕ, ◌+◌, ◌≤◌, nat_lt, List, [], ◌∷◌, map, length, drop, filter_map, Bool, true, false, if◌then◌else◌, Option, Some, None, Result, Ok, Err, refl, sym}
use Rattle.std.proofs.Common.{◌∙◌, ap, subst}
use Rattle.nfc_base.specs.declared.event.Event.{Event}
use Rattle.nfc_base.specs.declared.event.Event.TheVariants.{Reset}
use Rattle.nfc_base.specs.declared.event.Heard.{Heard}
use Rattle.nfc_base.specs.declared.event.Heard.TheVariants.{Whole, Collided, Damaged, Silent}
use Rattle.nfc_base.specs.Signal.{Signal}
use Rattle.nfc_base.specs.Trace.{noise}
use Rattle.air_core.specs.Joint.{Joint, Nothing, Single, Clashing, joint}
use Rattle.air_core.specs.Turn.{Air, moment}
use Rattle.air_core.specs.World.{World}
use Rattle.air_core.specs.Conversation.{Note, Lit, Got, Lost, Over, LightUp, Asks, Moment, with_events}
use Rattle.air_core.proofs.Following.{over_is_no_request, over_is_no_light}
use Rattle.nfca_poll.specs.declared.fault.PollFault.{PollFault}
use Rattle.nfca_poll.specs.declared.fault.PollFault.TheVariants as faults
use Rattle.nfca_poll.specs.ByHeard.{turns_since}
use Rattle.nfca_poll.specs.Crowd.{Each}
use Rattle.nfca_poll.specs.Enquiry.{Progress, Reaches, Loses, progress, due_of, enquiring, or_memory, answer_of, LosesByBreak}
use Rattle.nfca_poll.specs.Inventory.{Inventory, Tries, Told, tries, asks_for, presence_step, presence_ended, IsSteady, NoneAnswers, HasCausePresence}
use Rattle.t3t_access.specs.declared.polling.Fcrowd.{Fcrowd}
use Rattle.t3t_access.specs.declared.polling.Fcrowd.TheVariants.{Nobody, One, Crowd}
use Rattle.t3t_access.specs.Polling.{sensf_req, is_sensf_res, nfcid2, all_sensed, polling_f, TellsPolledF}
use Rattle.bench_devices.specs.declared.device.Device.{Device}
use Rattle.bench_devices.specs.Device.{air, devices}
use Rattle.bench_devices.specs.Keeping.{kept, AreTame, NoStore}
use Rattle.bench_devices.specs.Phases.{AskedPart}
use Rattle.bench_devices.specs.Polling.{asks}
use Rattle.bench_devices.specs.Sensing.{f_if, sensed_of, sensing, HasSensed, Senses, AreNoisy}
use Rattle.bench_devices.proofs.finding.Following.{HasEnded, Closes}
use Rattle.bench_devices.proofs.finding.FromReset.{asked, cut, heard, lost_by, noisy, told, turns_are, whole}
use Rattle.bench_devices.proofs.finding.Inventoried.{all_of, fewer, whole_silent, collided_silent, tries_ask, tries_light}
use Rattle.bench_devices.proofs.turns.QuietPolling.{PollsQuietly}
use Rattle.bench_devices.proofs.finding.SelectingV.{relit}
use Rattle.bench_devices.proofs.finding.Sensed.{Tells, all_answer, answers_in, none_sensed, own_ids, steady_sensed, tells_of}
use Rattle.bench_devices.proofs.finding.Unmoved.{AllHeard}

-- a request that is asked in tries, and no other
pub asks_of : {X : Type 0} (f g : Signal) (s : Inventory X) → asks_for f s ≡ Asks g → g ≡ f
asks_of f g (Tries n d) e = tries_ask f g (nat_lt n tries) e
asks_of f g (Told r) e = absurd (over_is_no_request g e)

pub lights_none : {X : Type 0} (f : Signal) (s : Inventory X) → asks_for f s ≡ LightUp → ⊥
lights_none f (Tries n d) e = tries_light f (nat_lt n tries) e
lights_none f (Told r) e = over_is_no_light e

abbrev ended_if : Bool → Bool → Option (Result Fcrowd PollFault)
ended_if more d = if more then None else Some (if d then Err faults.Disturbed else Ok Nobody)

more_tries : (n : ℕ) (x y c d : Bool) → nat_lt n tries ≡ x → nat_lt (n + 1) tries ≡ y → HasEnded (ended_if x c) → HasEnded (ended_if y d)
more_tries n true y c d p q h = absurd h
more_tries n false false c d p q h = tt
more_tries n false true c d p q h = absurd (fewer n p q)

told_either : (v : Bool) (id : List ℕ) → HasEnded (presence_ended all_sensed (if v then Told (Ok (One id)) else Told (Err faults.BadAnswer)))
told_either true id = tt
told_either false id = tt

silent_tries : (v d : Bool) → HasEnded (ended_if v d) → (if v then Asks sensf_req else Over) ≡ Over
silent_tries true d h = absurd h
silent_tries false d h = refl

sensing_silent : (s : Inventory Fcrowd) → HasEnded (presence_ended all_sensed s) → asks_for sensf_req s ≡ Over
sensing_silent (Tries n d) h = silent_tries (nat_lt n tries) d h
sensing_silent (Told r) h = refl

sensing_heard : (s : Inventory Fcrowd) (g : Heard) → HasEnded (presence_ended all_sensed s) → HasEnded (presence_ended all_sensed (presence_step all_sensed s g))
sensing_heard (Tries n d) (Whole g) h = told_either (is_sensf_res g) (nfcid2 g)
sensing_heard (Tries n d) (Collided g) h = tt
sensing_heard (Tries n d) Damaged h = more_tries n (nat_lt n tries) (nat_lt (n + 1) tries) d true refl refl h
sensing_heard (Tries n d) Silent h = more_tries n (nat_lt n tries) (nat_lt (n + 1) tries) d d refl refl h
sensing_heard (Told r) g h = tt

pub sensing_closes : Closes polling_f
sensing_closes = record { silent = sensing_silent; lit = λ s h. h; heard = sensing_heard }

due_one : (p : Progress (Inventory Fcrowd)) (f : Signal) → due_of polling_f p ≡ Asks f → f ≡ sensf_req
due_one (Reaches s) f e = asks_of sensf_req f s e
due_one Loses f e = absurd (over_is_no_request f e)

due_no_light : (p : Progress (Inventory Fcrowd)) → due_of polling_f p ≡ LightUp → ⊥
due_no_light (Reaches s) e = lights_none sensf_req s e
due_no_light Loses e = over_is_no_light e

pub senses_one : (ns : List Note) (f : Signal) → enquiring polling_f ns ≡ Asks f → f ≡ sensf_req
senses_one ns f e = due_one (progress polling_f (Tries 0 false) ns) f e

pub senses_no_light : (ns : List Note) → enquiring polling_f ns ≡ LightUp → ⊥
senses_no_light ns e = due_no_light (progress polling_f (Tries 0 false) ns) e

-- how it may end where this is to be told
abbrev Comes : Fcrowd → Result Fcrowd PollFault → Type 0
Comes v (Ok x) = (x ≡ v) ⊎ (x ≡ Nobody)
Comes v (Err faults.Nobody) = ⊥
Comes v (Err faults.Disturbed) = Unit {0}
Comes v (Err faults.FieldLost) = Unit {0}
Comes v (Err faults.Memory) = Unit {0}
Comes v (Err faults.NotFound) = ⊥
Comes v (Err faults.BadAnswer) = ⊥

module _ (v : Fcrowd) where
  vain : (more d : Bool) → Comes v (or_memory (ended_if more d))
  vain true d = tt
  vain false true = tt
  vain false false = inr refl

  told_comes : (q : Result Fcrowd PollFault) (ns : List Note) → Comes v q → Comes v (answer_of polling_f (progress polling_f (Told q) ns))
  told_comes q [] m = m
  told_comes q (Lit ∷ ns) m = told_comes q ns m
  told_comes q (Got h ∷ ns) m = told_comes q ns m
  told_comes q (Lost ∷ ns) m = tt

  one_comes : (k : Signal) (w : Bool) (ns : List Note) → w ≡ true → One (nfcid2 k) ≡ v
      → Comes v (answer_of polling_f (progress polling_f (if w then Told (Ok (One (nfcid2 k))) else Told (Err faults.BadAnswer)) ns))
  one_comes k true ns e is = told_comes (Ok (One (nfcid2 k))) ns (inl is)
  one_comes k false ns e is = absurd cc

  tries_come : (j : Joint) → Tells j v → (ns : List Note) (n : ℕ) (d : Bool) → AllHeard j ns → Comes v (answer_of polling_f (progress polling_f (Tries n d) ns))
  tries_come j t [] n d h = vain (nat_lt n tries) d
  tries_come j t (Lit ∷ ns) n d h = absurd h
  tries_come Nothing t (Got (Whole k) ∷ ns) n d h = absurd (whole_silent k h.0)
  tries_come (Single g) t (Got (Whole k) ∷ ns) n d h = one_comes k (is_sensf_res k) ns (ap is_sensf_res h.0 ∙ t.0) (ap (λ f. One (nfcid2 f)) h.0 ∙ t.1)
  tries_come (Clashing g) t (Got (Whole k) ∷ ns) n d h = absurd h.0
  tries_come Nothing t (Got (Collided k) ∷ ns) n d h = absurd (collided_silent k h.0)
  tries_come (Single g) t (Got (Collided k) ∷ ns) n d h = absurd h.0
  tries_come (Clashing g) t (Got (Collided k) ∷ ns) n d h = told_comes (Ok Crowd) ns (inl (sym t))
  tries_come j t (Got Damaged ∷ ns) n d h = tries_come j t ns (n + 1) true h.1
  tries_come j t (Got Silent ∷ ns) n d h = tries_come j t ns (n + 1) d h.1
  tries_come j t (Lost ∷ ns) n d h = tt

module _ (old mid new : Air Device) (r : Result Fcrowd PollFault) (tame : AreTame (map kept old.listeners)) (reset : moment mid ≡ with_events air (moment old) (Reset ∷ []))
    (polls : PollsQuietly polling_f mid r new) where
  -- what is so of the devices
  abbrev so : Fcrowd
  so = sensed_of old.listeners

  tells : Tells (joint (answers_in old.listeners)) so
  tells = subst (λ gs. Tells (joint gs) so) (sym (all_answer old.listeners)) (tells_of (filter_map f_if old.listeners) (own_ids old.listeners tame.sound))

  comes : Comes so r
  comes =
      subst (Comes so) (sym polls.comes)
      (tries_come so (joint (answers_in old.listeners)) tells polls.notes 0 false (heard polling_f sensing_closes senses_one senses_no_light old mid new r reset polls))

  pub sensing_cut : AskedPart NoStore (λ ns. asks (sensing ns)) (moment old) (moment new)
  sensing_cut = cut polling_f sensing_closes senses_one senses_no_light old mid new r reset polls

  module _ (lost : LosesByBreak mid r new) (by_turns : TellsPolledF (turns_since mid new) r)
      (why : Each (IsSteady devices sensf_req) mid.listeners → HasCausePresence all_sensed devices mid r new) where
    abbrev events : List Event
    events = (whole polling_f sensing_closes senses_one senses_no_light old mid new r reset polls).events

    causes : HasCausePresence all_sensed devices mid r new
    causes = why (all_of (IsSteady devices sensf_req) steady_sensed mid.listeners)

    noisy_here : tries ≤ noise (drop (length mid.trace) new.trace) → AreNoisy events
    noisy_here n = noisy polling_f sensing_closes senses_one senses_no_light old mid new r reset polls n

    relit_here : mid.listeners ≡ map relit old.listeners
    relit_here = ap (λ (m : Moment (World Device)). m.world.listeners) reset

    missed : (x : Fcrowd) → x ≡ Nobody → NoneAnswers devices sensf_req mid.listeners ⊎ (tries ≤ noise (drop (length mid.trace) new.trace)) → (x ≡ so) ⊎ ((x ≡ Nobody) × AreNoisy events)
    missed x e (inl n) = inl (e ∙ sym (none_sensed old.listeners (subst (NoneAnswers devices sensf_req) relit_here n)))
    missed x e (inr n) = inr (e, noisy_here n)

    cause : (q : Result Fcrowd PollFault) → r ≡ q → Comes so q → (q ≡ Err faults.Memory → ⊥) → HasSensed old.listeners q events
    cause (Ok x) e (inl is) n = inl is
    cause (Ok x) e (inr is) n = missed x is (causes.nobody (e ∙ ap Ok is))
    cause (Err faults.Nobody) e m n = m
    cause (Err faults.Disturbed) e m n = noisy_here (causes.disturbed e)
    cause (Err faults.FieldLost) e m n = tt
    cause (Err faults.Memory) e m n = absurd (n refl)
    cause (Err faults.NotFound) e m n = m
    cause (Err faults.BadAnswer) e m n = m

    pub senses : (r ≡ Err faults.Memory → ⊥) → Senses (moment old) (moment new) r
    senses starved = record {
      asked = asked polling_f sensing_closes senses_one senses_no_light old mid new r reset polls starved;
      told = told polling_f sensing_closes senses_one senses_no_light old mid new r reset polls starved;
      heard = subst (λ ts. TellsPolledF ts r) (turns_are polling_f sensing_closes senses_one senses_no_light old mid new r reset polls) by_turns;
      cause = cause r refl comes starved;
      lost = lost_by polling_f sensing_closes senses_one senses_no_light old mid new r reset polls lost;
    }
