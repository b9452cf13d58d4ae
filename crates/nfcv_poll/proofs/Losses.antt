-- A search loses the field exactly where a Break was used.
use Rattle.std.proofs.Common.{◌≡◌, inl, inr, ◌<◌, ℕ, ◌+◌, List, [], ◌∷◌, length, drop, Bool, true, false, nat_lt, if◌then◌else◌, Result, Err, refl, sym, ◌∙◌, ap, subst}
use Rattle.nfc_base.specs.Trace.{breaks}
use Rattle.nfc_base.specs.declared.event.Event.{Event}
use Rattle.nfc_base.specs.declared.event.Heard.{Heard}
use Rattle.air_core.specs.Conversation.{Note, Lit, Got, Lost}
use Rattle.air_core.specs.Turn.{Air, moment}
use Rattle.air_core.specs.World.{Machine}
use Rattle.air_core.proofs.LostField.{HasLost, going_lost}
use Rattle.nfca_poll.specs.Enquiry.{Enquires, Enquiry, Loses, progress, enquiring, or_memory, answer_of}
use Rattle.nfca_poll.specs.Muted.{muted}
use Rattle.nfca_poll.specs.declared.fault.PollFault.{PollFault}
use Rattle.nfca_poll.specs.declared.fault.PollFault.TheVariants as faults
use Rattle.nfca_poll.proofs.enquiries.EnquiryEnds.{Ends, ends, events_gained}
use Rattle.nfcv_poll.specs.Search.{most_passes, questions, with_id, takes, said, begins_pass, fails, is_silence, answers_left, hears_at, hushes, over_at, Course, Begins, Runs, course_step}
use Rattle.nfcv_poll.specs.Search.{finding_all}
use Rattle.nfcv_poll.specs.declared.search.Said.{Said}
use Rattle.nfcv_poll.specs.declared.search.Search.{Search}
use Rattle.nfcv_poll.specs.declared.search.Stage.{Stage}
use Rattle.nfcv_poll.specs.declared.search.Stage.TheVariants as stages
use Rattle.nfcv_poll.proofs.Stages.{IsOwnFault, IsEarly, hush_early, Taken, Same, More, takes_early}

-- a search fails by its own faults alone
abbrev FailsItself : Stage → Type 0
FailsItself (stages.Slot m slot) = Unit {0}
FailsItself (stages.Hush id next) = Unit {0}
FailsItself (stages.WhoIsLeft asked) = Unit {0}
FailsItself stages.Over = Unit {0}
FailsItself (stages.Fails fault) = IsOwnFault fault

abbrev Own : Course → Type 0
Own Begins = Unit {0}
Own (Runs s) = FailsItself s.stage

early_own : (found : List (List ℕ)) (stage : Stage) → IsEarly found stage → FailsItself stage
early_own found (stages.Slot m slot) h = tt
early_own found (stages.Hush id next) h = tt
early_own found (stages.WhoIsLeft asked) h = tt
early_own found stages.Over h = tt
early_own found (stages.Fails fault) h = h

taken_own : (s r : Search) (x : Said) → Taken s r x → FailsItself r.stage
taken_own s r x (Same e) = early_own s.found r.stage e.early
taken_own s r x (More id is e) = early_own (with_id s.found id) r.stage e.early

own_at : (s : Search) (stage : Stage) (h : Heard) → FailsItself s.stage → FailsItself (hears_at s stage h).stage
own_at s (stages.Slot m slot) h k = taken_own s (takes s m slot (said h)) (said h) (takes_early s m slot (said h))
own_at s (stages.Hush id next) h k = let e = hush_early s next in early_own s.found (hushes s next).stage e.early
own_at s (stages.WhoIsLeft asked) h k = by_silence (is_silence h)
  where
    by_count : (v : Bool) → FailsItself (if v then stages.WhoIsLeft (asked + 1) else stages.Over)
    by_count true = tt
    by_count false = tt

    by_pass : (v : Bool) → FailsItself (if v then begins_pass (s.pass + 1) s else fails s faults.Disturbed).stage
    by_pass true = tt
    by_pass false = tt

    by_silence : (v : Bool) → FailsItself (answers_left s asked v).stage
    by_silence true = by_count (nat_lt (asked + 1) questions)
    by_silence false = by_pass (nat_lt s.pass most_passes)
own_at s stages.Over h k = k
own_at s (stages.Fails fault) h k = k

steps : (s : Course) (h : Heard) → Own s → Own (course_step s h)
steps Begins h k = tt
steps (Runs s) h k = own_at s s.stage h k

lights : (s : Course) → Own s → Own (finding_all.light s)
lights Begins k = tt
lights (Runs s) k = k

none_lost : (found : List (List ℕ)) (stage : Stage) → FailsItself stage → or_memory (over_at found stage) ≡ Err faults.FieldLost → ⊥
none_lost found (stages.Slot m slot) k e = cc
none_lost found (stages.Hush id next) k e = cc
none_lost found (stages.WhoIsLeft asked) k e = cc
none_lost found stages.Over k e = cc
none_lost found (stages.Fails fault) k e = by_fault fault k e
  where
    by_fault : (f : PollFault) → IsOwnFault f → ◌≡◌ {A = Result (List (List ℕ)) PollFault} (Err f) (Err faults.FieldLost) → ⊥
    by_fault faults.Nobody k e = k
    by_fault faults.Disturbed k e = cc
    by_fault faults.FieldLost k e = k
    by_fault faults.Memory k e = k
    by_fault faults.NotFound k e = k
    by_fault faults.BadAnswer k e = cc

loses : {S X : Type 0} (e : Enquiry S X) (s : S) (ns : List Note) → HasLost ns → progress e s ns ≡ Loses
loses e s [] h = absurd h
loses e s (Lit ∷ ns) h = loses e (e.light s) ns h
loses e s (Got x ∷ ns) h = loses e (e.step s x) ns h
loses e s (Lost ∷ ns) h = refl

module _ {L : Type 0} (m : Machine L) (old new : Air L) (r : Result (List (List ℕ)) PollFault) (q : Enquires finding_all m old r new) where
  broken : r ≡ Err faults.FieldLost → 0 < breaks (drop (length old.trace) new.trace)
  broken is = by_end (ends finding_all m Own tt lights steps old new r q)
    where
      by_state : (s : Course) → Own s → r ≡ or_memory (finding_all.ended s) → ⊥
      by_state Begins k e = let no_ : Err faults.Memory ≡ Err faults.FieldLost = sym e ∙ is in cc
      by_state (Runs s) k e = none_lost s.found s.stage k (sym e ∙ is)

      by_end : Ends finding_all m Own tt lights steps old r new → 0 < breaks (drop (length old.trace) new.trace)
      by_end (inl k) = absurd (by_state k.0 k.1 k.2)
      by_end (inr k) = k.1

  lost_by : 0 < breaks (drop (length old.trace) new.trace) → r ≡ Err faults.FieldLost
  lost_by h =
      let B : List Event → Type 0 = λ es. 0 < breaks es in
      let gone : HasLost q.notes = going_lost (muted m) (enquiring finding_all) (moment old) (moment new) q.notes q.going (subst B (events_gained finding_all m old new r q) h) in
      q.comes ∙ ap (answer_of finding_all) (loses finding_all Begins q.notes gone)

  pub loses_exactly : (r ≡ Err faults.FieldLost → 0 < breaks (drop (length old.trace) new.trace)) × (0 < breaks (drop (length old.trace) new.trace) → r ≡ Err faults.FieldLost)
  loses_exactly = (broken, lost_by)
