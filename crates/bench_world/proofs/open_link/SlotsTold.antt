-- What slots tell of messages that were put at once is what their jobs do.
use Rattle.std.proofs.Common.{◌≡◌, ◌<◌, ◌+◌, ◌++◌, ℕ, true, false, List, [], ◌∷◌, append_assoc, drop, map, length, get_or, set, take, if◌then◌else◌, Some, refl, sym, ◌∙◌, ap, subst, arith}
use Rattle.std.specs.List.{All}
use Rattle.std.proofs.Math.Seq.{take-append_seam}
use Rattle.std.proofs.lemmas.List.{drop-set-lt, drop_more, take_more_set}
use Rattle.std.proofs.lemmas.List.Elements.{All-cons, All-nil, All-tail}
use Rattle.snep_core.specs.declared.slot.Outcome.{Outcome}
use Rattle.snep_core.specs.declared.slot.Outcome.TheVariants as outcomes
use Rattle.snep_core.specs.declared.slot.Slot.{Slot}
use Rattle.snep_core.specs.Slots.{answered_as, has_staged, is_staged_at, job_from, marked, noted, outcome_of, slot_at, slot_count}
use Rattle.snep_core.specs.declared.job.OnSap.{OnSap}
use Rattle.snep_core.specs.Talk.{client_sap, sap_of_slot}
use Rattle.snep_core.proofs.jobs.SlotPuts.{noted_there, slot_there}
use Rattle.link_calls.specs.AtOnce.{AreApart, EachOf, IsAtRest, all_staged, told_on}
use Rattle.link_calls.specs.declared.request.SlotMessage.{SlotMessage}
use Rattle.link_calls.proofs.AtOnce.{each_waits, none_at}
use Rattle.bench_world.specs.declared.entry.Answer.TheVariants as answers
use Rattle.bench_world.specs.declared.entry.SlotDone.{SlotDone}
use Rattle.bench_world.specs.Calls.{all_done, done_before, told_at_once, told_one, told_several}
use Rattle.bench_world.specs.private.LinkTaken.{done_at, is_success, marked_done, not_yet, told_slots}

-- a slot tells this of its message, which doesn't wait
abbrev SlotSays : List OnSap → List Slot → ℕ → List ℕ → Type 0
SlotSays jobs now slot m = (slot_at now slot ≡ answered_as (told_on jobs slot) m) × (is_staged_at now slot ≡ false)

one_told : (o : Outcome) (m : List ℕ) (s : Slot) → s ≡ answered_as o m → has_staged s ≡ false → told_one o ≡ Some (if is_success (outcome_of s) then answers.Success else answers.Reject)
one_told outcomes.Success m s is none = sym (ap (λ x. Some (if is_success (outcome_of x) then answers.Success else answers.Reject)) is)
one_told outcomes.Rejected m s is none = sym (ap (λ x. Some (if is_success (outcome_of x) then answers.Success else answers.Reject)) is)
one_told outcomes.Staged m s is none = absurd (let clash : true ≡ false = sym (ap has_staged is) ∙ none in cc)
one_told outcomes.NoMessage m s is none = absurd (let clash : true ≡ false = sym (ap has_staged is) ∙ none in cc)

next_told : (slot : ℕ) (o : Outcome) (m : List ℕ) (s : Slot) (ds : List SlotDone) → s ≡ answered_as o m → has_staged s ≡ false
    → done_before slot o (Some ds) ≡ Some (record { slot = slot; success = is_success (outcome_of s) } ∷ ds)
next_told slot outcomes.Success m s ds is none = sym (ap (λ x. Some (record { slot = slot; success = is_success (outcome_of x) } ∷ ds)) is)
next_told slot outcomes.Rejected m s ds is none = sym (ap (λ x. Some (record { slot = slot; success = is_success (outcome_of x) } ∷ ds)) is)
next_told slot outcomes.Staged m s ds is none = absurd (let clash : true ≡ false = sym (ap has_staged is) ∙ none in cc)
next_told slot outcomes.NoMessage m s ds is none = absurd (let clash : true ≡ false = sym (ap has_staged is) ∙ none in cc)

several_told : (jobs : List OnSap) (now : List Slot) (ws : List SlotMessage) → EachOf (SlotSays jobs now) ws → all_done ws jobs ≡ Some (map (done_at now) ws)
several_told jobs now [] h = refl
several_told jobs now (w ∷ ws) h =
    ap (done_before w.slot (told_on jobs w.slot)) (several_told jobs now ws h.1)
    ∙ next_told w.slot (told_on jobs w.slot) w.message (slot_at now w.slot) (map (done_at now) ws) h.0.0 h.0.1

by_each : (jobs : List OnSap) (now : List Slot) (ws : List SlotMessage) → EachOf (SlotSays jobs now) ws → told_at_once ws jobs ≡ Some (told_slots ws now)
by_each jobs now [] h = refl
by_each jobs now (w ∷ []) h = one_told (told_on jobs w.slot) w.message (slot_at now w.slot) h.0.0 h.0.1
by_each jobs now (w ∷ v ∷ ws) h = ap told_several (several_told jobs now (w ∷ v ∷ ws) h)

pub told_by_slots : (ws : List SlotMessage) (slots now : List Slot) (jobs : List OnSap) → AreApart ws → IsAtRest slots → now ≡ noted jobs (all_staged ws slots) → IsAtRest now
    → told_at_once ws jobs ≡ Some (told_slots ws now)
told_by_slots ws slots now jobs apart rest is still =
    by_each jobs now ws
    (each_waits (SlotSays jobs now) ws slots apart rest.eight
    (λ k m few waits.
    let final : List Slot = all_staged ws slots in
    let s : ℕ = sap_of_slot k in (
      ap (λ xs. slot_at xs k) is ∙ sym (slot_there (noted jobs final) client_sap k s refl) ∙ noted_there jobs final client_sap s
          ∙ ap (marked (job_from s jobs)) (slot_there final client_sap k s refl ∙ waits),
      none_at now still.none k,
    )))

marked_all : (slots : List Slot) (ws : List SlotMessage) → map (marked_done slots) (map not_yet ws) ≡ map (done_at slots) ws
marked_all slots [] = refl
marked_all slots (w ∷ ws) = ap (λ xs. done_at slots w ∷ xs) (marked_all slots ws)

pub several_by_slot : (ws : List SlotMessage) (ds : List SlotDone) (slots : List Slot) → (length ws ≡ 1 → ⊥) → ds ≡ map not_yet ws → told_slots ws slots ≡ answers.Puts (map (marked_done slots) ds)
several_by_slot [] ds slots many is = ap (λ xs. answers.Puts (map (marked_done slots) xs)) (sym is)
several_by_slot (x ∷ []) ds slots many is = absurd (many refl)
several_by_slot (x ∷ y ∷ ws) ds slots many is = ap answers.Puts (sym (marked_all slots (x ∷ y ∷ ws)) ∙ ap (map (marked_done slots)) (sym is))

-- A list that is changed one by one.
pub map_next : {X : Type 0} (f : X → X) (i : ℕ) (xs : List X) (y d : X) → i < length xs → y ≡ f (get_or xs i d)
    → take i xs ++ map f (drop i xs) ≡ take (i + 1) (set xs i y) ++ map f (drop (i + 1) (set xs i y))
map_next f i xs y d l e =
    let less : i < i + 1 = omega arith in
    ap (λ zs. take i xs ++ map f zs) (drop_more xs i d l)
    ∙ ap (λ z. take i xs ++ z ∷ map f (drop (i + 1) xs)) (sym e)
    ∙ sym (append_assoc (take i xs) (y ∷ []) (map f (drop (i + 1) xs)))
    ∙ ap (λ zs. zs ++ map f (drop (i + 1) xs)) (sym (take_more_set xs i y l))
    ∙ ap (λ zs. take (i + 1) (set xs i y) ++ map f zs) (sym (drop-set-lt (i + 1) xs i y less))

pub rest_next : {X : Type 0} (P : X → Type 0) (i : ℕ) (xs : List X) (y d : X) → i < length xs → All P (drop i xs) → All P (drop (i + 1) (set xs i y))
rest_next P i xs y d l h =
    let less : i < i + 1 = omega arith in
    subst (All P) (sym (drop-set-lt (i + 1) xs i y less)) (All-tail P (get_or xs i d) (drop (i + 1) xs) (subst (All P) (drop_more xs i d l) h))

-- each of these is told by a slot
pub done_within : (ws : List SlotMessage) → AreApart ws → All (λ (d : SlotDone). d.slot < slot_count) (map not_yet ws)
done_within [] apart = All-nil (λ (d : SlotDone). d.slot < slot_count)
done_within (w ∷ ws) apart = All-cons (λ (d : SlotDone). d.slot < slot_count) (not_yet w) (map not_yet ws) apart.0 (done_within ws apart.3)

-- what is written to a slice of all of a list is the list then
pub written_all : {X : Type 0} (n : ℕ) (xs ys : List X) → n ≡ length ys → length xs ≡ length ys → take n (xs ++ drop (length xs) ys) ≡ xs
written_all n xs ys many same =
    ap (λ k. take k (xs ++ drop (length xs) ys)) (many ∙ sym same) ∙ take-append_seam xs (drop (length xs) ys)
