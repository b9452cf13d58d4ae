-- What a search finds is ascending, and so each once.
use Rattle.std.proofs.Common.{◌≡◌, inl, inr, ◌<◌, ℕ, ◌+◌, List, [], ◌∷◌, Bool, true, false, nat_eq, nat_lt, if◌then◌else◌, Result, refl, sym, subst, arith}
use Rattle.nfc_base.specs.declared.event.Heard.{Heard}
use Rattle.air_core.specs.World.{Machine}
use Rattle.air_core.specs.Turn.{Air}
use Rattle.nfca_poll.specs.Enquiry.{Enquires, or_memory}
use Rattle.nfca_poll.specs.declared.fault.PollFault.{PollFault}
use Rattle.nfca_poll.specs.declared.fault.PollFault.TheVariants as faults
use Rattle.nfca_poll.proofs.enquiries.EnquiryEnds.{Ends, ends}
use Rattle.t5t_tag.specs.Slots.{id_number}
use Rattle.nfcv_poll.specs.Search.{most_passes, with_id, takes, said, begins_pass, fails, is_silence, answers_left, hears_at, over_at, Course, Begins, Runs, course_step, finding_all}
use Rattle.nfcv_poll.specs.Finding.{IsAscending, AreAscending}
use Rattle.nfcv_poll.specs.declared.search.Search.{Search}
use Rattle.nfcv_poll.specs.declared.search.Stage.{Stage}
use Rattle.nfcv_poll.specs.declared.search.Stage.TheVariants as stages
use Rattle.nfcv_poll.proofs.Stages.{Taken, Same, More, takes_early}

less_of : (m n : ℕ) → nat_lt m n ≡ true → m < n
less_of m n h = grind arith

more_of : (m n : ℕ) → nat_lt m n ≡ false → nat_eq m n ≡ false → n < m
more_of m n h k = grind arith

behind : (i : List ℕ) (is : List (List ℕ)) → IsAscending (i ∷ is) → IsAscending is
behind i [] h = tt
behind i (j ∷ is) h = h.1

pub ascending_with : (is : List (List ℕ)) (id : List ℕ) → IsAscending is → IsAscending (with_id is id)
ascending_with [] id h = tt
ascending_with (i ∷ is) id h = by_number (nat_lt (id_number i) (id_number id)) (nat_eq (id_number i) (id_number id)) refl refl (ascending_with is id (behind i is h))
  where
    put : (js : List (List ℕ)) → IsAscending (i ∷ js) → id_number i < id_number id → IsAscending (with_id js id) → IsAscending (i ∷ with_id js id)
    put [] h less rest = (less, tt)
    put (j ∷ js) h less rest = by_next (nat_lt (id_number j) (id_number id)) (nat_eq (id_number j) (id_number id)) rest
      where
        by_next : (v w : Bool) → IsAscending (if v then j ∷ with_id js id else if w then j ∷ js else id ∷ j ∷ js)
            → IsAscending (i ∷ (if v then j ∷ with_id js id else if w then j ∷ js else id ∷ j ∷ js))
        by_next true w k = (h.0, k)
        by_next false true k = (h.0, k)
        by_next false false k = (less, k)

    by_number : (v w : Bool) → nat_lt (id_number i) (id_number id) ≡ v → nat_eq (id_number i) (id_number id) ≡ w → IsAscending (with_id is id)
        → IsAscending (if v then i ∷ with_id is id else if w then i ∷ is else id ∷ i ∷ is)
    by_number true w e d rest = put is h (less_of (id_number i) (id_number id) e) rest
    by_number false true e d rest = h
    by_number false false e d rest = (more_of (id_number i) (id_number id) e d, h)

abbrev Sorted : Course → Type 0
Sorted Begins = Unit {0}
Sorted (Runs s) = IsAscending s.found

-- each reception keeps it
sorted_at : (s : Search) (stage : Stage) (h : Heard) → IsAscending s.found → IsAscending (hears_at s stage h).found
sorted_at s (stages.Slot m slot) h k = by_taken (takes_early s m slot (said h))
  where
    by_taken : Taken s (takes s m slot (said h)) (said h) → IsAscending (hears_at s (stages.Slot m slot) h).found
    by_taken (Same e) = subst IsAscending (sym e.found') k
    by_taken (More id is e) = subst IsAscending (sym e.found') (ascending_with s.found id k)
sorted_at s (stages.Hush id next) h k = k
sorted_at s (stages.WhoIsLeft asked) h k = by_silence (is_silence h)
  where
    by_pass : (v : Bool) → IsAscending (if v then begins_pass (s.pass + 1) s else fails s faults.Disturbed).found
    by_pass true = k
    by_pass false = k

    by_silence : (v : Bool) → IsAscending (answers_left s asked v).found
    by_silence true = k
    by_silence false = by_pass (nat_lt s.pass most_passes)
sorted_at s stages.Over h k = k
sorted_at s (stages.Fails fault) h k = k

steps : (s : Course) (h : Heard) → Sorted s → Sorted (course_step s h)
steps Begins h k = tt
steps (Runs s) h k = sorted_at s s.stage h k

lights : (s : Course) → Sorted s → Sorted (finding_all.light s)
lights Begins k = tt
lights (Runs s) k = k

ended_sorted : (found : List (List ℕ)) (stage : Stage) → IsAscending found → AreAscending (or_memory (over_at found stage))
ended_sorted found (stages.Slot m slot) k = tt
ended_sorted found (stages.Hush id next) k = tt
ended_sorted found (stages.WhoIsLeft asked) k = tt
ended_sorted found stages.Over k = k
ended_sorted found (stages.Fails fault) k = tt

pub finds_ascending : {L : Type 0} (m : Machine L) (old new : Air L) (r : Result (List (List ℕ)) PollFault) → Enquires finding_all m old r new → AreAscending r
finds_ascending m old new r q = by_end (ends finding_all m Sorted tt lights steps old new r q)
  where
    by_state : (s : Course) → Sorted s → AreAscending (or_memory (finding_all.ended s))
    by_state Begins k = tt
    by_state (Runs s) k = ended_sorted s.found s.stage k

    by_end : Ends finding_all m Sorted tt lights steps old r new → AreAscending r
    by_end (inl k) = subst AreAscending (sym k.2) (by_state k.0 k.1)
    by_end (inr k) = subst AreAscending (sym k.0) tt
