-- Messages that are put at once, each from a slot.
use Rattle.std.proofs.Common.{◌≡◌, ◌<◌, ◌≤◌, ◌≢◌, ◌⊎◌, ◌==◌, ◌||◌, ◌+◌, ◌-◌, ℕ, zero, suc, nat_lt, Bool, true, false, List, [], ◌∷◌, length, replicate, set, if◌then◌else◌, Some, None, Result, Ok, Err}
use Rattle.std.proofs.Common.{OnOk, refl, sym, ◌∙◌, ap, subst, append-nil, arith, inl, inr}
use Rattle.std.proofs.lemmas.Bool.{ne_eqb, ltb-false, ltb-true}
use Rattle.std.proofs.lemmas.Bool.Decides.{nat_tests}
use Rattle.std.proofs.lemmas.List.{get_or-set_other, get_or-set_same, length-set}
use Rattle.snep_core.specs.declared.fault.SnepFault.{SnepFault}
use Rattle.snep_core.specs.declared.fault.SnepFault.TheVariants as faults
use Rattle.snep_core.specs.declared.job.Ending.{Ending}
use Rattle.snep_core.specs.declared.job.Ending.TheVariants.{Done, Refused}
use Rattle.snep_core.specs.declared.job.Job.{Job}
use Rattle.snep_core.specs.declared.job.Job.TheVariants.{Over}
use Rattle.snep_core.specs.declared.job.Refusal.TheVariants as refusals
use Rattle.snep_core.specs.declared.slot.Outcome.{Outcome}
use Rattle.snep_core.specs.declared.slot.Outcome.TheVariants as outcomes
use Rattle.snep_core.specs.Accord.{AddsFrom, IsRun, PeerState, RunAdds, RunFails, SlotTells, TellsOf}
use Rattle.snep_core.specs.Payloads.{accepted_from}
use Rattle.snep_core.specs.Server.{Received}
use Rattle.snep_core.specs.declared.slot.Slot.{Slot}
use Rattle.snep_core.specs.declared.slot.Slot.TheVariants.{NoMessage, Rejected, Staged, Success}
use Rattle.snep_core.specs.Slots.{NoneStaged, all_puts, answered_as, fresh_slots, has_staged, is_staged_at, job_from, marked, noted, noted_from, put_with, puts_from, slot_at, slot_count, staged_on}
use Rattle.snep_core.specs.Slots.{outcome_told, put_alone}
use Rattle.snep_core.specs.declared.job.OnSap.{OnSap}
use Rattle.snep_core.specs.Talk.{EndState, Puts, TaskOn, client_sap, one_on, sap_of_slot}
use Rattle.snep_core.proofs.jobs.SlotPuts.{noted_length, noted_there, slot_there}
use Rattle.link_calls.specs.AtOnce.{AllPut, AreApart, EachOf, IsAtRest, PutSo, ServedAtOnce, all_staged, is_from, puts_at_once, told_on}
use Rattle.link_calls.specs.Called.{SlotsTold, came_to}
use Rattle.link_calls.specs.declared.request.SlotMessage.{SlotMessage}

pub two_false : (a b : Bool) → (a || b) ≡ false → (a ≡ false) × (b ≡ false)
two_false false b e = (refl, e)
two_false true b e = absurd cc

same_sap : (k : ℕ) → (sap_of_slot k == sap_of_slot k) ≡ true
same_sap k = grind (arith, nat_tests)

pub other_slot : (j k : ℕ) → (sap_of_slot j == sap_of_slot k) ≡ false → j ≢ k
other_slot j k e same =
    let clash : (sap_of_slot j == sap_of_slot k) ≡ true = subst (λ n. (sap_of_slot n == sap_of_slot k) ≡ true) (sym same) (same_sap k) in cc

-- none waits on any slot
pub none_at : (slots : List Slot) → NoneStaged slots → (k : ℕ) → is_staged_at slots k ≡ false
none_at [] none k = refl
none_at (s ∷ ss) none zero = none.0
none_at (s ∷ ss) none (suc k) = none_at ss none.1 k

-- a slot on which no message waits stays one
abbrev pub IsFree : List Slot → ℕ → List ℕ → Type 0
IsFree slots slot m = is_staged_at slots slot ≡ false

pub all_free : (slots : List Slot) → NoneStaged slots → (ws : List SlotMessage) → EachOf (IsFree slots) ws
all_free slots none [] = tt
all_free slots none (w ∷ ws) = (none_at slots none w.slot, all_free slots none ws)

pub still_free : (slots : List Slot) (k : ℕ) (m : List ℕ) (ws : List SlotMessage) → is_from (sap_of_slot k) ws ≡ false → EachOf (IsFree slots) ws → EachOf (IsFree (staged_on slots k m)) ws
still_free slots k m [] apart free = tt
still_free slots k m (w ∷ ws) apart free =
    let both = two_false (sap_of_slot w.slot == sap_of_slot k) (is_from (sap_of_slot k) ws) apart in
    (ap has_staged (get_or-set_other slots k w.slot (Staged m) NoMessage (other_slot w.slot k both.0)) ∙ free.0, still_free slots k m ws both.1 free.1)

-- There are as many slots as before.
pub staged_length : (ws : List SlotMessage) (slots : List Slot) → length (all_staged ws slots) ≡ length slots
staged_length [] slots = refl
staged_length (w ∷ ws) slots = staged_length ws (staged_on slots w.slot w.message) ∙ length-set slots w.slot (Staged w.message)

-- Slots that put the same put the same with one message more.
abbrev Same : List Slot → List Slot → Type 0
Same xs ys = (sap : ℕ) → puts_from sap xs ≡ puts_from sap ys

-- each of two slots has the same put
abbrev Alike : List Slot → List Slot → Type 0
Alike [] [] = Unit {0}
Alike (x ∷ xs) (y ∷ ys) = ((sap : ℕ) (more : List TaskOn) → put_with sap x more ≡ put_with sap y more) × Alike xs ys
Alike [] (y ∷ ys) = ⊥
Alike (x ∷ xs) [] = ⊥

alike_set : (xs ys : List Slot) (k : ℕ) (s : Slot) → Alike xs ys → Alike (set xs k s) (set ys k s)
alike_set [] [] k s a = tt
alike_set (x ∷ xs) (y ∷ ys) zero s a = ((λ sap more. refl), a.1)
alike_set (x ∷ xs) (y ∷ ys) (suc k) s a = (a.0, alike_set xs ys k s a.1)
alike_set [] (y ∷ ys) k s a = absurd a
alike_set (x ∷ xs) [] k s a = absurd a

alike_staged : (ws : List SlotMessage) (xs ys : List Slot) → Alike xs ys → Alike (all_staged ws xs) (all_staged ws ys)
alike_staged [] xs ys a = a
alike_staged (w ∷ ws) xs ys a = alike_staged ws (staged_on xs w.slot w.message) (staged_on ys w.slot w.message) (alike_set xs ys w.slot (Staged w.message) a)

alike_puts : (xs ys : List Slot) → Alike xs ys → Same xs ys
alike_puts [] [] a sap = refl
alike_puts (x ∷ xs) (y ∷ ys) a sap = ap (put_with sap x) (alike_puts xs ys a.1 (sap + 1)) ∙ a.0 sap (puts_from (sap + 1) ys)
alike_puts [] (y ∷ ys) a sap = absurd a
alike_puts (x ∷ xs) [] a sap = absurd a

puts_none : (x : Slot) → has_staged x ≡ false → (sap : ℕ) (more : List TaskOn) → put_with sap x more ≡ put_with sap NoMessage more
puts_none NoMessage none sap more = refl
puts_none Success none sap more = refl
puts_none Rejected none sap more = refl
puts_none (Staged m) none sap more = absurd cc

alike_fresh : (xs : List Slot) → NoneStaged xs → Alike xs (replicate (length xs) NoMessage)
alike_fresh [] none = tt
alike_fresh (x ∷ xs) none = (puts_none x none.0, alike_fresh xs none.1)

-- What slots were told before changes nothing that is put.
pub puts_same : (ws : List SlotMessage) (slots : List Slot) → IsAtRest slots → all_puts (all_staged ws slots) ≡ puts_at_once ws
puts_same ws slots rest =
    let fresh : Alike slots fresh_slots = subst (λ n. Alike slots (replicate n NoMessage)) rest.eight (alike_fresh slots rest.none) in
    alike_puts (all_staged ws slots) (all_staged ws fresh_slots) (alike_staged ws slots fresh_slots fresh) client_sap

-- a slot of which none of them is put is as it was
pub kept_at : (ws : List SlotMessage) (slots : List Slot) (k : ℕ) → is_from (sap_of_slot k) ws ≡ false → slot_at (all_staged ws slots) k ≡ slot_at slots k
kept_at [] slots k apart = refl
kept_at (w ∷ ws) slots k apart =
    let both = two_false (sap_of_slot w.slot == sap_of_slot k) (is_from (sap_of_slot k) ws) apart in
    let other : k ≢ w.slot = λ e. other_slot w.slot k both.0 (sym e) in
    kept_at ws (staged_on slots w.slot w.message) k both.1 ∙ get_or-set_other slots w.slot k (Staged w.message) NoMessage other

-- each waits on its slot
pub each_waits : (Is : ℕ → List ℕ → Type 0) (ws : List SlotMessage) (slots : List Slot) → AreApart ws → length slots ≡ slot_count
    → ((k : ℕ) (m : List ℕ) → k < slot_count → slot_at (all_staged ws slots) k ≡ Staged m → Is k m) → EachOf Is ws
each_waits Is [] slots apart eight all = tt
each_waits Is (w ∷ ws) slots apart eight all =
    let now : List Slot = staged_on slots w.slot w.message in
    let within : w.slot < length slots = subst (λ n. w.slot < n) (sym eight) apart.0 in
    let here : slot_at (all_staged ws now) w.slot ≡ Staged w.message = kept_at ws now w.slot apart.2 ∙ get_or-set_same slots w.slot (Staged w.message) NoMessage within in
    (all w.slot w.message apart.0 here, each_waits Is ws now apart.3 (length-set slots w.slot (Staged w.message) ∙ eight) all)

-- what a slot tells of a message, as its job is
told_so : (o : Outcome) (sap : ℕ) (m : List ℕ) (old : PeerState) (now : List Received) → TellsOf (answered_as o m) sap m old now → PutSo o sap m old now
told_so outcomes.Success sap m old now h = h
told_so outcomes.Rejected sap m old now h = h
told_so outcomes.Staged sap m old now h = h.1
told_so outcomes.NoMessage sap m old now h = h.1

-- what it tells says no less than that it was added at most once
told_most : (s : Slot) (sap : ℕ) (m : List ℕ) (old : PeerState) (now : List Received) → TellsOf s sap m old now → AddsFrom sap m old now
told_most Success sap m old now h = inr (h.1, h.0)
told_most Rejected sap m old now h = inl h.1
told_most (Staged n) sap m old now h = h.1
told_most NoMessage sap m old now h = absurd h

-- where none waited nothing was added
not_added : (s told : Slot) (sap : ℕ) (old : PeerState) (now : List Received) → has_staged s ≡ false → SlotTells sap s told old now → accepted_from sap now ≡ accepted_from sap old.service.accepted
not_added NoMessage told sap old now none h = h.1
not_added Success told sap old now none h = h.1
not_added Rejected told sap old now none h = h.1
not_added (Staged m) told sap old now none h = absurd cc

-- the slot of a SAP
slot_from : (s : ℕ) → (32 ≤ s) → (s ≤ 39) → (k : ℕ) × (k < slot_count) × (sap_of_slot k ≡ s)
slot_from s low high =
    (s - 32, (let k : s - 32 < 8 = omega (arith, low, high) in k), (let e : 32 + (s - 32) ≡ s = omega (arith, low) in e))

module _ (ws : List SlotMessage) (slots told : List Slot) (old new : PeerState) (rest : IsAtRest slots) (apart : AreApart ws) (adds : RunAdds (all_staged ws slots) told old new) where
  abbrev now : List Received
  now = new.service.accepted

  -- from no other SAP anything was added
  others : (s : ℕ) → is_from s ws ≡ false → accepted_from s now ≡ accepted_from s old.service.accepted
  others s none = by (nat_lt s 32) (nat_lt 39 s) refl refl
    where
      here : (k : ℕ) → k < slot_count → sap_of_slot k ≡ s → accepted_from s now ≡ accepted_from s old.service.accepted
      here k few is =
          let free : is_from (sap_of_slot k) ws ≡ false = subst (λ t. is_from t ws ≡ false) (sym is) none in
          let unstaged : has_staged (slot_at (all_staged ws slots) k) ≡ false = ap has_staged (kept_at ws slots k free) ∙ none_at slots rest.none k in
          subst (λ t. accepted_from t now ≡ accepted_from t old.service.accepted) is
          (not_added (slot_at (all_staged ws slots) k) (slot_at told k) (sap_of_slot k) old now unstaged (adds.each k few))

      by : (v w : Bool) → nat_lt s 32 ≡ v → nat_lt 39 s ≡ w → accepted_from s now ≡ accepted_from s old.service.accepted
      by true w e f = let low : s < 32 = ltb-true s 32 e in adds.others s (λ r. (let h = r.0 in absurd (omega (arith, low, h))))
      by false true e f = let high : 39 < s = ltb-true 39 s f in adds.others s (λ r. (let h = r.1 in absurd (omega (arith, high, h))))
      by false false e f =
          let z = slot_from s (ltb-false s 32 e) (ltb-false 39 s f) in
          here z.0 z.1 z.2

  -- each was added at most once
  pub at_most : AllPut (λ slot. outcomes.Staged) ws old new
  at_most = record {
    each = each_waits (λ slot m. AddsFrom (sap_of_slot slot) m old now) ws slots apart rest.eight
        (λ k m few is. told_most (slot_at told k) (sap_of_slot k) m old now (subst (λ s. SlotTells (sap_of_slot k) s (slot_at told k) old now) is (adds.each k few)));
    others = others;
    more = adds.more;
    grew = adds.grew;
  }

  -- each as its job came to it
  pub as_told : (jobs : List OnSap) → told ≡ noted jobs (all_staged ws slots) → AllPut (told_on jobs) ws old new
  as_told jobs told_is = record {
    each = each_waits (λ slot m. PutSo (told_on jobs slot) (sap_of_slot slot) m old now) ws slots apart rest.eight
        (λ k m few is.
        let final : List Slot = all_staged ws slots in
        let s : ℕ = sap_of_slot k in
        let marked_is : slot_at (noted jobs final) k ≡ marked (job_from s jobs) (Staged m) =
        sym (slot_there (noted jobs final) client_sap k s refl) ∙ noted_there jobs final client_sap s
        ∙ ap (marked (job_from s jobs)) (slot_there final client_sap k s refl ∙ is) in
        told_so (outcome_told (job_from s jobs)) s m old now
        (subst (λ x. TellsOf x s m old now) (ap (λ xs. slot_at xs k) told_is ∙ marked_is) (subst (λ x. SlotTells s x (slot_at told k) old now) is (adds.each k few))));
    others = others;
    more = adds.more;
    grew = adds.grew;
  }

pub run_served : (ws : List SlotMessage) (slots told : List Slot) (jobs : List OnSap) (old : PeerState) (client : EndState) (new : PeerState) → IsAtRest slots → AreApart ws
    → told ≡ noted jobs (all_staged ws slots)
    → IsRun (all_staged ws slots) told old client new → ServedAtOnce ws old (Ok jobs) client new
run_served ws slots told jobs old client new rest apart told_is run = record {
  puts = as_told ws slots told old new rest apart run.adds jobs told_is;
  limit = run.limit;
  table = run.table;
  bound = run.bound;
  accords = run.accords;
}

pub run_failed : (ws : List SlotMessage) (slots told : List Slot) (old : PeerState) (client : EndState) (new : PeerState) (x : SnepFault) → IsAtRest slots → AreApart ws
    → RunFails (all_staged ws slots) told old x new → ServedAtOnce ws old (Err x) client new
run_failed ws slots told old client new (faults.LinkEnded c) rest apart h = at_most ws slots told old new rest apart h
run_failed ws slots told old client new faults.Memory rest apart h = at_most ws slots told old new rest apart h
run_failed ws slots told old client new faults.Reject rest apart h = h
run_failed ws slots told old client new faults.NotFound rest apart h = h
run_failed ws slots told old client new faults.Excess rest apart h = h
run_failed ws slots told old client new faults.NotImplemented rest apart h = h
run_failed ws slots told old client new faults.BadPeer rest apart h = h
run_failed ws slots told old client new faults.SlotBusy rest apart h = h

-- a peer to which nothing was sent

each_still : (old : PeerState) (ws : List SlotMessage) → EachOf (λ slot m. AddsFrom (sap_of_slot slot) m old old.service.accepted) ws
each_still old [] = tt
each_still old (w ∷ ws) = (inl refl, each_still old ws)

pub none_sent : (ws : List SlotMessage) (old : PeerState) (client : EndState) → ServedAtOnce ws old (Err faults.Memory) client old
none_sent ws old client = record { each = each_still old ws; others = λ s none. refl; more = []; grew = sym (append-nil old.service.accepted) }

-- behind a run the client is at rest
pub run_rests : (ws : List SlotMessage) (slots told : List Slot) (jobs : List OnSap) → IsAtRest slots → told ≡ noted jobs (all_staged ws slots) → NoneStaged told → IsAtRest told
run_rests ws slots told jobs rest told_is none =
    record { eight = ap length told_is ∙ noted_length jobs (all_staged ws slots) client_sap ∙ staged_length ws slots ∙ rest.eight; none = none }

-- so it is behind a put from the first slot
set_none : (slots : List Slot) (k : ℕ) (s : Slot) → NoneStaged slots → has_staged s ≡ false → NoneStaged (set slots k s)
set_none [] k s none un = tt
set_none (x ∷ xs) zero s none un = (un, none.1)
set_none (x ∷ xs) (suc k) s none un = (none.0, set_none xs k s none.1 un)

pub set_rests : (slots : List Slot) (k : ℕ) (s : Slot) → IsAtRest slots → has_staged s ≡ false → IsAtRest (set slots k s)
set_rests slots k s rest un = record { eight = length-set slots k s ∙ rest.eight; none = set_none slots k s rest.none un }

-- What a put from the first slot leaves, where it has an ending.
abbrev pub put_ended : Result Unit SnepFault → Result Ending SnepFault
put_ended (Ok u) = Ok Done
put_ended (Err x) = Err x

pub put_rests : (m : List ℕ) (slots now : List Slot) (r : Result Unit SnepFault) (ending : Result Ending SnepFault) → IsAtRest slots
    → (now ≡ put_alone r m slots) ⊎ ((r ≡ Err faults.Memory) × (now ≡ slots)) → ending ≡ came_to (λ (e : Ending). e) (put_ended r) → OnOk ending (IsAtRest now)
put_rests m slots now r ending rest e is = subst (λ z. OnOk z (IsAtRest now)) (sym is) (by r e)
  where
    by : (q : Result Unit SnepFault) → (now ≡ put_alone q m slots) ⊎ ((q ≡ Err faults.Memory) × (now ≡ slots)) → OnOk (came_to (λ (x : Ending). x) (put_ended q)) (IsAtRest now)
    by (Ok u) (inl f) = subst IsAtRest (sym f) (set_rests slots 0 Success rest refl)
    by (Ok u) (inr (f, g)) = absurd cc
    by (Err faults.Reject) (inl f) = subst IsAtRest (sym f) (set_rests slots 0 Rejected rest refl)
    by (Err faults.Reject) (inr (f, g)) = absurd cc
    by (Err faults.NotFound) (inl f) = subst IsAtRest (sym f) (set_rests slots 0 Rejected rest refl)
    by (Err faults.NotFound) (inr (f, g)) = absurd cc
    by (Err faults.Excess) (inl f) = subst IsAtRest (sym f) (set_rests slots 0 Rejected rest refl)
    by (Err faults.Excess) (inr (f, g)) = absurd cc
    by (Err faults.NotImplemented) (inl f) = subst IsAtRest (sym f) (set_rests slots 0 Rejected rest refl)
    by (Err faults.NotImplemented) (inr (f, g)) = absurd cc
    by (Err (faults.LinkEnded c)) f = tt
    by (Err faults.Memory) f = tt
    by (Err faults.BadPeer) f = tt
    by (Err faults.SlotBusy) f = tt

-- What a put from the first slot leaves there, and that it leaves the others.
none_marked : (s : Slot) → marked None s ≡ s
none_marked NoMessage = refl
none_marked Success = refl
none_marked Rejected = refl
none_marked (Staged m) = refl

others_still : (job : Job) (sap : ℕ) → client_sap < sap → (ss : List Slot) → noted_from sap (one_on client_sap job) ss ≡ ss
others_still job sap above [] = refl
others_still job sap above (s ∷ ss) =
    let apart : (client_sap == sap) ≡ false = ne_eqb client_sap sap (λ same. omega (arith, above, same)) in
    ap (λ v. marked (if v then Some job else None) s ∷ noted_from (sap + 1) (one_on client_sap job) ss) apart
    ∙ ap (λ x. x ∷ noted_from (sap + 1) (one_on client_sap job) ss) (none_marked s) ∙ ap (λ xs. s ∷ xs) (others_still job (sap + 1) (omega (arith, above)) ss)

one_noted : (job : Job) (m : List ℕ) (slots : List Slot) → noted (one_on client_sap job) (staged_on slots 0 m) ≡ set slots 0 (marked (Some job) (Staged m))
one_noted job m [] = refl
one_noted job m (s ∷ ss) = ap (λ xs. marked (Some job) (Staged m) ∷ xs) (others_still job (client_sap + 1) (omega arith) ss)

pub put_tells : (m : List ℕ) (slots now : List Slot) (r : Result Unit SnepFault) (ending : Result Ending SnepFault)
    → (now ≡ put_alone r m slots) ⊎ ((r ≡ Err faults.Memory) × (now ≡ slots)) → ending ≡ came_to (λ (e : Ending). e) (put_ended r) → SlotsTold client_sap (Puts m) slots ending now
put_tells m slots now r ending e is = subst (λ z. SlotsTold client_sap (Puts m) slots z now) (sym is) (by r e)
  where
    by : (q : Result Unit SnepFault) → (now ≡ put_alone q m slots) ⊎ ((q ≡ Err faults.Memory) × (now ≡ slots)) → SlotsTold client_sap (Puts m) slots (came_to (λ (x : Ending). x) (put_ended q)) now
    by (Ok u) (inl f) = f ∙ sym (one_noted (Over Done) m slots)
    by (Ok u) (inr (f, g)) = absurd cc
    by (Err faults.Reject) (inl f) = f ∙ sym (one_noted (Over (Refused refusals.Reject)) m slots)
    by (Err faults.Reject) (inr (f, g)) = absurd cc
    by (Err faults.NotFound) (inl f) = f ∙ sym (one_noted (Over (Refused refusals.NotFound)) m slots)
    by (Err faults.NotFound) (inr (f, g)) = absurd cc
    by (Err faults.Excess) (inl f) = f ∙ sym (one_noted (Over (Refused refusals.Excess)) m slots)
    by (Err faults.Excess) (inr (f, g)) = absurd cc
    by (Err faults.NotImplemented) (inl f) = f ∙ sym (one_noted (Over (Refused refusals.NotImplemented)) m slots)
    by (Err faults.NotImplemented) (inr (f, g)) = absurd cc
    by (Err (faults.LinkEnded c)) f = tt
    by (Err faults.Memory) f = tt
    by (Err faults.BadPeer) f = tt
    by (Err faults.SlotBusy) f = tt
