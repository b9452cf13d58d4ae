-- Why a search ends without its tags: it follows from what was heard of its turns.
use Rattle.std.proofs.Common.{◌≡◌, ◌⊎◌, inl, inr, ◌<◌, ◌≤◌, ℕ, ◌+◌, List, [], ◌∷◌, ◌++◌, length, reverse, Bool, true, false, not, nat_eq, nat_lt, nat_le, ◌&&◌, ◌||◌, if◌then◌else◌, Option, Some, None}
use Rattle.std.proofs.Common.{Result, Ok, Err, refl, sym, ◌∙◌, ap, subst, arith}
use Rattle.std.specs.List.{list_any}
use Rattle.nfc_base.specs.Signal.{Signal}
use Rattle.nfc_base.specs.Trace.{Turn, heard, by_heard}
use Rattle.nfc_base.specs.declared.event.Heard.{Heard}
use Rattle.nfc_base.specs.declared.event.Heard.TheVariants.{Whole, Collided, Damaged, Silent}
use Rattle.air_core.specs.Conversation.{Asks, LightUp, note}
use Rattle.air_core.specs.Joint.{same_signal}
use Rattle.air_core.specs.Turn.{Air}
use Rattle.air_core.specs.World.{Machine}
use Rattle.nfca_poll.specs.ByHeard.{turns_since}
use Rattle.nfca_poll.specs.Enquiry.{Progress, Reaches, Loses, progress, or_memory, answer_of, Enquires}
use Rattle.nfca_poll.specs.Inventory.{inventory_all}
use Rattle.nfca_poll.specs.declared.fault.PollFault.{PollFault}
use Rattle.nfca_poll.specs.declared.fault.PollFault.TheVariants as faults
use Rattle.nfca_poll.proofs.enquiries.EnquiryWalks.{after}
use Rattle.nfca_poll.proofs.enquiries.TellingInventory.{count_more, any_one}
use Rattle.nfca_poll.proofs.enquiries.TurnWalks.{turns_hold}
use Rattle.t5t_tag.specs.Reading.{spelled_answer}
use Rattle.t5t_tag.specs.Spelling.{slots_flags, command_frame}
use Rattle.t5t_tag.specs.declared.command.T5Command.TheVariants.{NextSlot, Quiet}
use Rattle.t5t_tag.specs.Slots.{last_slot}
use Rattle.nfcv_poll.specs.declared.mask.Mask.{Mask}
use Rattle.nfcv_poll.specs.Masks.{extended, slots_frame}
use Rattle.nfcv_poll.specs.Search.{most_passes, most_rounds, questions, with_id, id_at, said_by, said, begins_pass, fresh, fails, hush_stage, hushes, opens_with, leaves, with_clash, is_clash}
use Rattle.nfcv_poll.specs.Search.{is_spent, takes_in, takes, is_silence, answers_left, hears_at, stage_request, due_request, over_at, Course, Begins, Runs, asked_for, course_next, finding_all}
use Rattle.nfcv_poll.specs.Finding.{is_answered, is_answered_question, answered_questions, begins_with, begins_round, rounds_begun, is_strange_said, is_strange, HasCauses}
use Rattle.nfcv_poll.specs.declared.search.Said.{Said}
use Rattle.nfcv_poll.specs.declared.search.Said.TheVariants as told
use Rattle.nfcv_poll.specs.declared.search.Search.{Search}
use Rattle.nfcv_poll.specs.declared.search.Stage.{Stage}
use Rattle.nfcv_poll.specs.declared.search.Stage.TheVariants as stages

abbrev one_if : Bool → ℕ
one_if v = if v then 1 else 0

-- where a search stands by its turns: how often the question was answered, and how many rounds were begun
abbrev Failed : PollFault → List Turn → Type 0
Failed faults.Nobody ts = ⊥
Failed faults.Disturbed ts = answered_questions ts ≡ 4
Failed faults.FieldLost ts = ⊥
Failed faults.Memory ts = ⊥
Failed faults.NotFound ts = ⊥
Failed faults.BadAnswer ts = (answered_questions ts < 4) × ((list_any is_strange ts ≡ true) ⊎ (128 ≤ rounds_begun ts))

record InPass (pass : ℕ) (ts : List Turn) : Type 0 where
  count : answered_questions ts + 1 ≡ pass
  few : pass ≤ 4

abbrev At : ℕ → ℕ → Stage → List Turn → Type 0
At pass rounds (stages.Slot m slot) ts = InPass pass ts × (rounds ≤ rounds_begun ts + one_if (nat_eq slot 0))
At pass rounds (stages.Hush id next) ts = InPass pass ts
At pass rounds (stages.WhoIsLeft asked) ts = InPass pass ts
At pass rounds stages.Over ts = InPass pass ts
At pass rounds (stages.Fails fault) ts = Failed fault ts

abbrev AtSearch : Search → List Turn → Type 0
AtSearch s ts = At s.pass s.rounds s.stage ts

abbrev P : Progress Course → List Turn → Type 0
P (Reaches Begins) ts = ts ≡ []
P (Reaches (Runs s)) ts = AtSearch s ts
P Loses ts = answered_questions ts < 4

under : (pass : ℕ) (ts : List Turn) → InPass pass ts → answered_questions ts < 4
under pass ts h = omega (arith, h.count, h.few)

-- behind a slot
hush_at : (pass rounds : ℕ) (o : Option (List ℕ)) (at : ℕ) (ts : List Turn) → InPass pass ts → At pass rounds (hush_stage o at) ts
hush_at pass rounds None at ts h = h
hush_at pass rounds (Some id) at ts h = h

least_of : (m n : ℕ) → nat_le m n ≡ true → m ≤ n
least_of m n h = grind arith

opens_at : (s : Search) (ms : List Mask) (ts : List Turn) → InPass s.pass ts → s.rounds ≤ rounds_begun ts → AtSearch (opens_with s ms) ts
opens_at s [] ts h begun = hush_at s.pass s.rounds (id_at s.found 0) 0 ts h
opens_at s (m ∷ ms) ts h begun = by_rounds (nat_le most_rounds s.rounds) refl
  where
    by_rounds : (v : Bool) → nat_le most_rounds s.rounds ≡ v
        → AtSearch (if v then fails (record s { masks = ms }) faults.BadAnswer else record s { rounds = s.rounds + 1; masks = ms; stage = stages.Slot m 0 }) ts
    by_rounds true e = (under s.pass ts h, inr (omega (arith, begun, least_of 128 s.rounds e)))
    by_rounds false e = (h, omega (arith, begun))

leaves_at : (s : Search) (m : Mask) (slot : ℕ) (ts : List Turn) → InPass s.pass ts → s.rounds ≤ rounds_begun ts → AtSearch (leaves s m slot) ts
leaves_at s m slot ts h begun = by_slot (nat_lt slot last_slot)
  where
    all : List Mask
    all = reverse s.clashes ++ s.masks

    by_slot : (v : Bool) → AtSearch (if v then record s { stage = stages.Slot m (slot + 1) } else opens_with (record s { masks = all; clashes = [] }) all) ts
    by_slot true = (h, omega (arith, begun))
    by_slot false = opens_at (record s { masks = all; clashes = [] }) all ts h begun

clash_at : (s : Search) (o : Option Mask) (m : Mask) (slot : ℕ) (ts : List Turn) → InPass s.pass ts → s.rounds ≤ rounds_begun ts → AtSearch (leaves (with_clash s o) m slot) ts
clash_at s None m slot ts h begun = leaves_at s m slot ts h begun
clash_at s (Some n) m slot ts h begun = leaves_at (record s { clashes = n ∷ s.clashes }) m slot ts h begun

spent_rounds : (a b v : Bool) → (a && b && v) ≡ true → b ≡ true
spent_rounds true true v h = refl
spent_rounds true false v h = absurd cc
spent_rounds false b v h = absurd cc

takes_at : (s : Search) (m : Mask) (slot : ℕ) (x : Said) (ts : List Turn) → InPass s.pass ts → s.rounds ≤ rounds_begun ts → (x ≡ told.Strange → list_any is_strange ts ≡ true)
    → AtSearch (takes s m slot x) ts
takes_at s m slot x ts h begun strange = by_spent (is_spent s m slot x) refl
  where
    left : Bool
    left = is_clash x (extended m slot) || not (nat_eq (length s.masks) 0) || not (nat_eq (length s.clashes) 0)

    by_said : (y : Said) → (y ≡ told.Strange → list_any is_strange ts ≡ true) → AtSearch (takes_in s m slot y) ts
    by_said told.Nothing k = leaves_at s m slot ts h begun
    by_said told.Clash k = clash_at s (extended m slot) m slot ts h begun
    by_said (told.Tag id) k = leaves_at (record s { found = with_id s.found id }) m slot ts h begun
    by_said told.Strange k = (under s.pass ts h, inl (k refl))

    by_spent : (v : Bool) → is_spent s m slot x ≡ v → AtSearch (if v then fails s faults.BadAnswer else takes_in s m slot x) ts
    by_spent true e = (under s.pass ts h, inr (omega (arith, begun, least_of 128 s.rounds (spent_rounds (nat_le last_slot slot) (nat_le most_rounds s.rounds) left e))))
    by_spent false e = by_said x strange

-- what a turn adds
record Adds (ts us : List Turn) (t : Turn) : Type 0 where
  answered : answered_questions us ≡ answered_questions ts + one_if (is_answered_question t)
  begun : rounds_begun us ≡ rounds_begun ts + one_if (begins_round t)
  strange : is_strange t ≡ true → list_any is_strange us ≡ true

adds : (ts : List Turn) (t : Turn) → Adds ts (ts ++ t ∷ []) t
adds ts t = record { answered = count_more is_answered_question ts t; begun = count_more begins_round ts t; strange = any_one is_strange ts t }

-- a request that is no such question
none_more : (v w : Bool) → v ≡ false → one_if (v && w) ≡ 0
none_more true w e = absurd cc
none_more false w e = refl

none_both : (v w : Bool) → w ≡ false → one_if (v && w) ≡ 0
none_both true true e = absurd cc
none_both true false e = refl
none_both false w e = refl

one_both : (v w : Bool) → v ≡ true → w ≡ true → one_if (v && w) ≡ 1
one_both true true e k = refl
one_both true false e k = absurd cc
one_both false w e k = absurd cc

-- in a slot no question is asked, and in the first one a round is begun
slot_request : (m : Mask) (slot : ℕ) (t : Turn) → stage_request (stages.Slot m slot) ≡ Some t.request
    → (same_signal t.request inventory_all ≡ false) × (one_if (begins_round t) ≡ one_if (nat_eq slot 0))
slot_request m slot t due = by_slot (nat_eq slot 0) due
  where
    by_slot : (v : Bool) → Some (if v then slots_frame m else command_frame NextSlot) ≡ Some t.request → (same_signal t.request inventory_all ≡ false) × (one_if (begins_round t) ≡ one_if v)
    by_slot true e = let d : slots_frame m ≡ t.request = cc in subst (λ f. (same_signal f inventory_all ≡ false) × (one_if (begins_with slots_flags f.bytes) ≡ 1)) d (refl, refl)
    by_slot false e = let d : command_frame NextSlot ≡ t.request = cc in subst (λ f. (same_signal f inventory_all ≡ false) × (one_if (begins_with slots_flags f.bytes) ≡ 0)) d (refl, refl)

strange_heard : (h : Heard) (t : Turn) → heard t ≡ Some h → said h ≡ told.Strange → is_strange t ≡ true
strange_heard (Whole g) t e is = ap (λ o. by_heard o (λ g. is_strange_said (said_by (spelled_answer g))) (λ g. false) false false false) e ∙ ap is_strange_said is
strange_heard (Collided g) t e is = absurd cc
strange_heard Damaged t e is = absurd cc
strange_heard Silent t e is = absurd cc

answered_heard : (h : Heard) → is_answered (Some h) ≡ not (is_silence h)
answered_heard (Whole g) = refl
answered_heard (Collided g) = refl
answered_heard Damaged = refl
answered_heard Silent = refl

less_of : (m n : ℕ) → nat_lt m n ≡ true → m < n
less_of m n h = grind arith

far_of : (m n : ℕ) → nat_lt m n ≡ false → n ≤ m
far_of m n h = grind arith

-- a turn of a search
module _ (s : Search) (ts : List Turn) (t : Turn) (h : Heard) (hears : heard t ≡ Some h) where
  abbrev us : List Turn
  us = ts ++ t ∷ []

  same_count : same_signal t.request inventory_all ≡ false → answered_questions us ≡ answered_questions ts
  same_count other = let a = adds ts t in omega (arith, a.answered, none_more (same_signal t.request inventory_all) (is_answered (heard t)) other)

  same_pass : (pass : ℕ) → same_signal t.request inventory_all ≡ false → InPass pass ts → InPass pass us
  same_pass pass other k = record { count = omega (arith, same_count other, k.count); few = k.few }

  at_slot : (m : Mask) (slot : ℕ) → stage_request (stages.Slot m slot) ≡ Some t.request → At s.pass s.rounds (stages.Slot m slot) ts → AtSearch (takes s m slot (said h)) us
  at_slot m slot due k =
      let q = slot_request m slot t due in
      let a = adds ts t in
      takes_at s m slot (said h) us (same_pass s.pass q.0 k.0) (omega (arith, a.begun, q.1, k.1)) (λ e. a.strange (strange_heard h t hears e))

  hush_request : (id : List ℕ) → Some (command_frame (Quiet id)) ≡ Some t.request → same_signal t.request inventory_all ≡ false
  hush_request id due = let d : command_frame (Quiet id) ≡ t.request = cc in subst (λ f. same_signal f inventory_all ≡ false) d refl

  at_hush : (id : List ℕ) (next : ℕ) → Some (command_frame (Quiet id)) ≡ Some t.request → InPass s.pass ts → AtSearch (hushes s next) us
  at_hush id next due k = hush_at s.pass s.rounds (id_at s.found next) next us (same_pass s.pass (hush_request id due) k)

  is_question : Some inventory_all ≡ Some t.request → same_signal t.request inventory_all ≡ true
  is_question due = let d : inventory_all ≡ t.request = cc in subst (λ f. same_signal f inventory_all ≡ true) d refl

  at_question : (asked : ℕ) → Some inventory_all ≡ Some t.request → InPass s.pass ts → AtSearch (answers_left s asked (is_silence h)) us
  at_question asked due k = by_silence (is_silence h) refl
    where
      said_so : (v : Bool) → is_silence h ≡ v → is_answered (heard t) ≡ not v
      said_so v e = ap is_answered hears ∙ answered_heard h ∙ ap not e

      by_count : (v : Bool) → InPass s.pass us → AtSearch (record s { stage = if v then stages.WhoIsLeft (asked + 1) else stages.Over }) us
      by_count true k = k
      by_count false k = k

      by_pass : (v : Bool) → nat_lt s.pass most_passes ≡ v → answered_questions us ≡ answered_questions ts + 1 → AtSearch (if v then begins_pass (s.pass + 1) s else fails s faults.Disturbed) us
      by_pass true e more = (record { count = omega (arith, more, k.count); few = (let l : s.pass < 4 = less_of s.pass 4 e in omega (arith, l)) }, omega arith)
      by_pass false e more = let l : 4 ≤ s.pass = far_of s.pass 4 e in omega (arith, more, k.count, k.few, l)

      by_silence : (v : Bool) → is_silence h ≡ v → AtSearch (answers_left s asked v) us
      by_silence true e =
          let a = adds ts t in
          by_count (nat_lt (asked + 1) questions) (record {
            count = omega (arith, a.answered, none_both (same_signal t.request inventory_all) (is_answered (heard t)) (said_so true e), k.count);
            few = k.few;
          })
      by_silence false e =
          let a = adds ts t in
          by_pass (nat_lt s.pass most_passes) refl (omega (arith, a.answered, one_both (same_signal t.request inventory_all) (is_answered (heard t)) (is_question due) (said_so false e)))

  by_stage : (stage : Stage) → stage_request stage ≡ Some t.request → At s.pass s.rounds stage ts → AtSearch (hears_at s stage h) us
  by_stage (stages.Slot m slot) due k = at_slot m slot due k
  by_stage (stages.Hush id next) due k = at_hush id next due k
  by_stage (stages.WhoIsLeft asked) due k = at_question asked due k
  by_stage stages.Over due k = absurd cc
  by_stage (stages.Fails fault) due k = absurd cc

due_some : (o : Option Signal) (f : Signal) → asked_for o ≡ Asks f → o ≡ Some f
due_some None f e = absurd cc
due_some (Some g) f e = ap Some (let d : g ≡ f = cc in d)

-- a turn by which the field was lost
lost_few : (pass rounds : ℕ) (stage : Stage) (ts : List Turn) (f : Signal) → stage_request stage ≡ Some f → At pass rounds stage ts → answered_questions ts < 4
lost_few pass rounds (stages.Slot m slot) ts f due k = under pass ts k.0
lost_few pass rounds (stages.Hush id next) ts f due k = under pass ts k
lost_few pass rounds (stages.WhoIsLeft asked) ts f due k = under pass ts k
lost_few pass rounds stages.Over ts f due k = absurd cc
lost_few pass rounds (stages.Fails fault) ts f due k = absurd cc

by_heard_of : (s : Search) (ts : List Turn) (t : Turn) (o : Option Heard) → heard t ≡ o → AtSearch s ts → due_request s ≡ Some t.request
    → P (after finding_all (Reaches (Runs s)) (note o)) (ts ++ t ∷ [])
by_heard_of s ts t None e k due =
    let a = adds ts t in
    omega (arith, a.answered, none_both (same_signal t.request inventory_all) (is_answered (heard t)) (ap is_answered e), lost_few s.pass s.rounds s.stage ts t.request due k)
by_heard_of s ts t (Some h) e k due = by_stage s ts t h e s.stage due k

asked : (s : Course) (ts : List Turn) (t : Turn) → P (Reaches s) ts → course_next s ≡ Asks t.request → P (after finding_all (Reaches s) (note (heard t))) (ts ++ t ∷ [])
asked Begins ts t k e = absurd cc
asked (Runs s) ts t k e = by_heard_of s ts t (heard t) refl k (due_some (due_request s) t.request e)

no_light : (o : Option Signal) → asked_for o ≡ LightUp → ⊥
no_light None e = cc
no_light (Some f) e = cc

lights : (s : Course) (ts : List Turn) → P (Reaches s) ts → course_next s ≡ LightUp → P (Reaches (finding_all.light s)) ts
lights Begins ts k e = subst (λ us. AtSearch fresh us) (sym k) (record { count = refl; few = omega arith }, omega arith)
lights (Runs s) ts k e = absurd (no_light (due_request s) e)

-- how it ends
told_other : (ts : List Turn) (r : Result (List (List ℕ)) PollFault) → answered_questions ts < 4 → (r ≡ Err faults.Disturbed → ⊥) → (r ≡ Err faults.BadAnswer → ⊥) → (r ≡ Err faults.Nobody → ⊥)
    → (r ≡ Err faults.NotFound → ⊥)
    → HasCauses ts r
told_other ts r few a b c d = record { disturbed = ((λ e. absurd (a e)), (λ e. absurd (omega (arith, few, e)))); bad = λ e. absurd (b e); nobody = c; not_found = d }

told_memory : (ts : List Turn) → answered_questions ts < 4 → HasCauses ts (Err faults.Memory)
told_memory ts few = told_other ts (Err faults.Memory) few (λ e. cc) (λ e. cc) (λ e. cc) (λ e. cc)

told_fault : (fault : PollFault) (ts : List Turn) → Failed fault ts → HasCauses ts (Err fault)
told_fault faults.Nobody ts k = absurd k
told_fault faults.Disturbed ts k = record { disturbed = ((λ e. k), (λ e. refl)); bad = λ e. absurd cc; nobody = λ e. cc; not_found = λ e. cc }
told_fault faults.FieldLost ts k = absurd k
told_fault faults.Memory ts k = absurd k
told_fault faults.NotFound ts k = absurd k
told_fault faults.BadAnswer ts k =
    record { disturbed = ((λ e. absurd cc), (λ e. absurd (let few : answered_questions ts < 4 = k.0 in omega (arith, few, e)))); bad = λ e. k.1; nobody = λ e. cc; not_found = λ e. cc }

told_at : (found : List (List ℕ)) (pass rounds : ℕ) (stage : Stage) (ts : List Turn) → At pass rounds stage ts → HasCauses ts (or_memory (over_at found stage))
told_at found pass rounds (stages.Slot m slot) ts k = told_memory ts (under pass ts k.0)
told_at found pass rounds (stages.Hush id next) ts k = told_memory ts (under pass ts k)
told_at found pass rounds (stages.WhoIsLeft asked) ts k = told_memory ts (under pass ts k)
told_at found pass rounds stages.Over ts k = told_other ts (Ok found) (under pass ts k) (λ e. cc) (λ e. cc) (λ e. cc) (λ e. cc)
told_at found pass rounds (stages.Fails fault) ts k = told_fault fault ts k

ends : (p : Progress Course) (ts : List Turn) → P p ts → HasCauses ts (answer_of finding_all p)
ends (Reaches Begins) ts k = subst (λ us. HasCauses us (Err faults.Memory)) (sym k) (told_memory [] (omega arith))
ends (Reaches (Runs s)) ts k = told_at s.found s.pass s.rounds s.stage ts k
ends Loses ts k = told_other ts (Err faults.FieldLost) k (λ e. cc) (λ e. cc) (λ e. cc) (λ e. cc)

pub has_causes : {L : Type 0} (m : Machine L) (old new : Air L) (r : Result (List (List ℕ)) PollFault) → Enquires finding_all m old r new → HasCauses (turns_since old new) r
has_causes m old new r q =
    let T : Result (List (List ℕ)) PollFault → Type 0 = λ x. HasCauses (turns_since old new) x in
    subst T (sym q.comes) (ends (progress finding_all Begins q.notes) (turns_since old new) (turns_hold finding_all m P refl lights asked old new r q))
