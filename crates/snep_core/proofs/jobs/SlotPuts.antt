-- The messages that wait in slots, as puts from SAPs in ascending order; and slots, as the jobs of their SAPs come to something.
use Rattle.std.proofs.Common.{◌≡◌, ◌<◌, ◌≤◌, ℕ, zero, suc, ◌+◌, ◌==◌, ◌&&◌, ◌||◌, eqb, Bool, true, false, List, [], ◌∷◌, length, set, Option, Some, None, refl, sym, ◌∙◌, ap, subst, arith}
use Rattle.std.proofs.Common.{if◌then◌else◌}
use Rattle.std.proofs.lemmas.Bool.{eqb-true}
use Rattle.std.proofs.lemmas.Bool.Decides.{nat_tests}
use Rattle.std.specs.List.{IsDistinct}
use Rattle.snep_core.specs.Accord.{is_in}
use Rattle.snep_core.specs.Jobs.{Asks, Begins, Closes, Collects, Done, Ending, Job, Looks, Over, Refused, Sap, Sends, Value, Waits}
use Rattle.snep_core.specs.RepliesLeft.{task_saps}
use Rattle.snep_core.specs.Slots.{AllFit, FitsSlot, NoMessage, NoneStaged, Rejected, Slot, Staged, Success, answered_by, dropped, dropped_one, has_staged, job_from, marked, most_staged, noted_from}
use Rattle.snep_core.specs.Slots.{put_with, puts_from, slot_at, some_staged}
use Rattle.snep_core.specs.Talk.{OnSap, Puts, TaskOn, all_over, is_over, saps}
use Rattle.snep_core.specs.private.Waning.{Putting, Serves}
use Rattle.snep_core.proofs.jobs.CallsEnd.{NotAmong}
use Rattle.snep_core.proofs.sessions.Following.{Follow}
use Rattle.snep_core.proofs.connections.Meets.{AreUnlike}

is_below : (m n : ℕ) → m < n → (n == m) ≡ false
is_below m n h = grind (arith, nat_tests, h)

is_above : (m n : ℕ) → m < n → (m == n) ≡ false
is_above m n h = grind (arith, nat_tests, h)

is_it : (m : ℕ) → (m == m) ≡ true
is_it m = grind (arith, nat_tests)

-- the slot of a SAP, where the first is that of this SAP
abbrev pub slot_of : ℕ → List Slot → ℕ → Slot
slot_of a [] s = NoMessage
slot_of a (x ∷ xs) s = if a == s then x else slot_of (a + 1) xs s

abbrev pub message_of : Slot → List ℕ
message_of (Staged m) = m
message_of NoMessage = []
message_of Success = []
message_of Rejected = []

pub slot_there : (xs : List Slot) (a k s : ℕ) → s ≡ a + k → slot_of a xs s ≡ slot_at xs k
slot_there [] a k s e = refl
slot_there (x ∷ xs) a zero s e =
    let same : a ≡ s = omega (arith, e) in
    ap (λ b. if b then x else slot_of (a + 1) xs s) (subst (λ t. (a == t) ≡ true) same (is_it a))
slot_there (x ∷ xs) a (suc k) s e =
    let less : a < s = omega (arith, e) in
    let next : s ≡ (a + 1) + k = omega (arith, e) in
    ap (λ b. if b then x else slot_of (a + 1) xs s) (is_above a s less) ∙ slot_there xs (a + 1) k s next

-- no SAP below the first has a put
pub puts_below : (xs : List Slot) (a s : ℕ) → s < a → is_in s (task_saps (puts_from a xs)) ≡ false
puts_below [] a s l = refl
puts_below (x ∷ xs) a s l = go x (puts_below xs (a + 1) s (omega (arith, l)))
  where
    go : (y : Slot) → is_in s (task_saps (puts_from (a + 1) xs)) ≡ false → is_in s (task_saps (put_with a y (puts_from (a + 1) xs))) ≡ false
    go (Staged m) more = ap (λ b. b || is_in s (task_saps (puts_from (a + 1) xs))) (is_below s a l) ∙ more
    go NoMessage more = more
    go Success more = more
    go Rejected more = more

-- a SAP has a put where a message waits in its slot
pub puts_there : (xs : List Slot) (a s : ℕ) → is_in s (task_saps (puts_from a xs)) ≡ has_staged (slot_of a xs s)
puts_there [] a s = refl
puts_there (x ∷ xs) a s = go x (a == s) refl (puts_there xs (a + 1) s)
  where
    none : a ≡ s → is_in s (task_saps (puts_from (a + 1) xs)) ≡ false
    none e = puts_below xs (a + 1) s (omega (arith, e))

    go : (y : Slot) (b : Bool) → (a == s) ≡ b → is_in s (task_saps (puts_from (a + 1) xs)) ≡ has_staged (slot_of (a + 1) xs s)
        → is_in s (task_saps (put_with a y (puts_from (a + 1) xs))) ≡ has_staged (if a == s then y else slot_of (a + 1) xs s)
    go (Staged m) true e more =
        ap (λ b. b || is_in s (task_saps (puts_from (a + 1) xs))) e ∙ sym (ap (λ b. has_staged (if b then Staged m else slot_of (a + 1) xs s)) e)
    go (Staged m) false e more =
        ap (λ b. b || is_in s (task_saps (puts_from (a + 1) xs))) e ∙ more ∙ sym (ap (λ b. has_staged (if b then Staged m else slot_of (a + 1) xs s)) e)
    go NoMessage true e more = none (eqb-true a s e) ∙ sym (ap (λ b. has_staged (if b then NoMessage else slot_of (a + 1) xs s)) e)
    go NoMessage false e more = more ∙ sym (ap (λ b. has_staged (if b then NoMessage else slot_of (a + 1) xs s)) e)
    go Success true e more = none (eqb-true a s e) ∙ sym (ap (λ b. has_staged (if b then Success else slot_of (a + 1) xs s)) e)
    go Success false e more = more ∙ sym (ap (λ b. has_staged (if b then Success else slot_of (a + 1) xs s)) e)
    go Rejected true e more = none (eqb-true a s e) ∙ sym (ap (λ b. has_staged (if b then Rejected else slot_of (a + 1) xs s)) e)
    go Rejected false e more = more ∙ sym (ap (λ b. has_staged (if b then Rejected else slot_of (a + 1) xs s)) e)

pub puts_unlike : (xs : List Slot) (a : ℕ) → AreUnlike (task_saps (puts_from a xs))
puts_unlike [] a = tt
puts_unlike (x ∷ xs) a = go x (puts_unlike xs (a + 1))
  where
    go : (y : Slot) → AreUnlike (task_saps (puts_from (a + 1) xs)) → AreUnlike (task_saps (put_with a y (puts_from (a + 1) xs)))
    go (Staged m) more = (puts_below xs (a + 1) a (omega arith), more)
    go NoMessage more = more
    go Success more = more
    go Rejected more = more

not_among : (xs : List Slot) (a s : ℕ) → s < a → NotAmong s (task_saps (puts_from a xs))
not_among [] a s l = tt
not_among (x ∷ xs) a s l = go x (not_among xs (a + 1) s (omega (arith, l)))
  where
    go : (y : Slot) → NotAmong s (task_saps (puts_from (a + 1) xs)) → NotAmong s (task_saps (put_with a y (puts_from (a + 1) xs)))
    go (Staged m) more = (is_above s a l, more)
    go NoMessage more = more
    go Success more = more
    go Rejected more = more

pub puts_distinct : (xs : List Slot) (a : ℕ) → IsDistinct eqb (task_saps (puts_from a xs))
unfolding IsDistinct
puts_distinct [] a = tt
puts_distinct (x ∷ xs) a = go x (puts_distinct xs (a + 1))
  where
    go : (y : Slot) → IsDistinct eqb (task_saps (puts_from (a + 1) xs)) → IsDistinct eqb (task_saps (put_with a y (puts_from (a + 1) xs)))
    go (Staged m) more = (not_among xs (a + 1) a (omega arith), more)
    go NoMessage more = more
    go Success more = more
    go Rejected more = more

pub puts_few : (xs : List Slot) (a : ℕ) → length (task_saps (puts_from a xs)) ≤ length xs
puts_few [] a = omega arith
puts_few (x ∷ xs) a = go x (puts_few xs (a + 1))
  where
    go : (y : Slot) → length (task_saps (puts_from (a + 1) xs)) ≤ length xs → length (task_saps (put_with a y (puts_from (a + 1) xs))) ≤ length (y ∷ xs)
    go (Staged m) more = omega (arith, more)
    go NoMessage more = omega (arith, more)
    go Success more = omega (arith, more)
    go Rejected more = omega (arith, more)

-- SAPs with a message that waits are those of slots
pub staged_range : (xs : List Slot) (a s : ℕ) → has_staged (slot_of a xs s) ≡ true → (a ≤ s) × (s < a + length xs)
staged_range [] a s h = absurd cc
staged_range (x ∷ xs) a s h = go (a == s) refl h (staged_range xs (a + 1) s)
  where
    go : (b : Bool) → (a == s) ≡ b → has_staged (if b then x else slot_of (a + 1) xs s) ≡ true
        → (has_staged (slot_of (a + 1) xs s) ≡ true → ((a + 1) ≤ s) × (s < (a + 1) + length xs)) → (a ≤ s) × (s < a + length (x ∷ xs))
    go true e k more = (let i : a ≡ s = eqb-true a s e in (omega (arith, i), omega (arith, i)))
    go false e k more = (let r = more k in let u = r.0 in let v = r.1 in (omega (arith, u), omega (arith, v)))

pub fits_there : (xs : List Slot) (a s : ℕ) → AllFit xs → length (message_of (slot_of a xs s)) ≤ most_staged
fits_there [] a s f = omega arith
fits_there (x ∷ xs) a s f = go (a == s) (fits_there xs (a + 1) s f.1)
  where
    here : (y : Slot) → FitsSlot y → length (message_of y) ≤ most_staged
    here (Staged m) g = g
    here NoMessage g = omega arith
    here Success g = omega arith
    here Rejected g = omega arith

    go : (b : Bool) → length (message_of (slot_of (a + 1) xs s)) ≤ most_staged → length (message_of (if b then x else slot_of (a + 1) xs s)) ≤ most_staged
    go true more = here x f.0
    go false more = more

-- each task is the put of its SAP's message
abbrev pub ArePuts : (ℕ → List ℕ) → List TaskOn → Type 0
ArePuts message [] = Unit {0}
ArePuts message (x ∷ xs) = (x.task ≡ Puts (message x.sap)) × ArePuts message xs

pub puts_are : (message : ℕ → List ℕ) (xs : List Slot) (a : ℕ) → ((s : ℕ) → a ≤ s → message s ≡ message_of (slot_of a xs s)) → ArePuts message (puts_from a xs)
puts_are message [] a h = tt
puts_are message (x ∷ xs) a h =
    go x (h a (omega arith) ∙ ap (λ b. message_of (if b then x else slot_of (a + 1) xs a)) (is_it a))
    (puts_are message xs (a + 1)
    (λ s l. h s (omega (arith, l)) ∙ ap (λ b. message_of (if b then x else slot_of (a + 1) xs s)) (is_above a s (let k : a < s = omega (arith, l) in k))))
  where
    go : (y : Slot) → message a ≡ message_of y → ArePuts message (puts_from (a + 1) xs) → ArePuts message (put_with a y (puts_from (a + 1) xs))
    go (Staged m) e more = (ap Puts (sym e), more)
    go NoMessage e more = more
    go Success e more = more
    go Rejected e more = more

pub some_puts : (xs : List Slot) (a : ℕ) → some_staged xs ≡ true → (s : ℕ) × (is_in s (task_saps (puts_from a xs)) ≡ true)
some_puts [] a h = absurd cc
some_puts (x ∷ xs) a h = go x h (some_puts xs (a + 1))
  where
    go : (y : Slot) → (has_staged y || some_staged xs) ≡ true
        → (some_staged xs ≡ true → (s : ℕ) × (is_in s (task_saps (puts_from (a + 1) xs)) ≡ true))
        → (s : ℕ) × (is_in s (task_saps (put_with a y (puts_from (a + 1) xs))) ≡ true)
    go (Staged m) k more = (a, ap (λ b. b || is_in a (task_saps (puts_from (a + 1) xs))) (is_it a))
    go NoMessage k more = more k
    go Success k more = more k
    go Rejected k more = more k

pub no_puts : (xs : List Slot) (a : ℕ) → some_staged xs ≡ false → puts_from a xs ≡ []
no_puts [] a h = refl
no_puts (x ∷ xs) a h = go x h (no_puts xs (a + 1))
  where
    go : (y : Slot) → (has_staged y || some_staged xs) ≡ false → (some_staged xs ≡ false → puts_from (a + 1) xs ≡ [])
        → put_with a y (puts_from (a + 1) xs) ≡ []
    go (Staged m) k more = absurd cc
    go NoMessage k more = more k
    go Success k more = more k
    go Rejected k more = more k

pub none_waits : (xs : List Slot) → some_staged xs ≡ false → NoneStaged xs
none_waits [] h = tt
none_waits (x ∷ xs) h = go (has_staged x) refl h (none_waits xs)
  where
    go : (b : Bool) → has_staged x ≡ b → (b || some_staged xs) ≡ false → (some_staged xs ≡ false → NoneStaged xs) → (has_staged x ≡ false) × NoneStaged xs
    go true e k more = absurd cc
    go false e k more = (e, more k)

-- Slots as jobs come to something: what a slot then is.
pub noted_there : (jobs : List OnSap) (xs : List Slot) (a s : ℕ) → slot_of a (noted_from a jobs xs) s ≡ marked (job_from s jobs) (slot_of a xs s)
noted_there jobs [] a s = refl
noted_there jobs (x ∷ xs) a s = go (a == s) refl (noted_there jobs xs (a + 1) s)
  where
    go : (b : Bool) → (a == s) ≡ b → slot_of (a + 1) (noted_from (a + 1) jobs xs) s ≡ marked (job_from s jobs) (slot_of (a + 1) xs s)
        → (if b then marked (job_from a jobs) x else slot_of (a + 1) (noted_from (a + 1) jobs xs) s) ≡ marked (job_from s jobs) (if b then x else slot_of (a + 1) xs s)
    go true e more = ap (λ t. marked (job_from t jobs) x) (eqb-true a s e)
    go false e more = more

-- Jobs that were over stay so.
abbrev pub OverStays : List OnSap → List OnSap → Type 0
OverStays old new = (s : ℕ) (e : Ending) → job_from s old ≡ Some (Over e) → job_from s new ≡ Some (Over e)

pub follow_stays : (xs ys : List OnSap) → Follow xs ys → OverStays xs ys
follow_stays [] [] f s e i = i
follow_stays [] (y ∷ ys) f s e i = absurd f
follow_stays (x ∷ xs) [] f s e i = absurd f
follow_stays (x ∷ xs) (y ∷ ys) f s e i = go (x.sap == s) refl (follow_stays xs ys f.3 s e)
  where
    go : (b : Bool) → (x.sap == s) ≡ b → (job_from s xs ≡ Some (Over e) → job_from s ys ≡ Some (Over e)) → job_from s (y ∷ ys) ≡ Some (Over e)
    go true k more =
        let j : Some x.job ≡ Some (Over e) = sym (ap (λ b. if b then Some x.job else job_from s xs) k) ∙ i in
        let o : x.job ≡ Over e = cc in
        ap (λ b. if b then Some y.job else job_from s ys) (ap (λ t. t == s) f.0 ∙ k) ∙ ap Some (f.2 e o)
    go false k more =
        ap (λ b. if b then Some y.job else job_from s ys) (ap (λ t. t == s) f.0 ∙ k)
        ∙ more (sym (ap (λ b. if b then Some x.job else job_from s xs) k) ∙ i)

marked_again : (p q : Option Job) → ((e : Ending) → p ≡ Some (Over e) → q ≡ Some (Over e)) → (x : Slot) → marked q (marked p x) ≡ marked q x
marked_again p q h (Staged m) = go p h
  where
    go : (r : Option Job) → ((e : Ending) → r ≡ Some (Over e) → q ≡ Some (Over e)) → marked q (answered_by r m) ≡ answered_by q m
    go None k = refl
    go (Some (Over Done)) k = sym (ap (λ z. answered_by z m) (k Done refl))
    go (Some (Over (Refused r))) k = sym (ap (λ z. answered_by z m) (k (Refused r) refl))
    go (Some (Over (Value v))) k = refl
    go (Some (Over (Sap n))) k = refl
    go (Some (Begins most bytes)) k = refl
    go (Some (Waits most rest)) k = refl
    go (Some (Sends most rest)) k = refl
    go (Some (Asks size have)) k = refl
    go (Some (Collects size have)) k = refl
    go (Some (Looks tid)) k = refl
    go (Some Closes) k = refl
marked_again p q h NoMessage = refl
marked_again p q h Success = refl
marked_again p q h Rejected = refl

pub noted_again : (old new : List OnSap) → OverStays old new → (xs : List Slot) (a : ℕ) → noted_from a new (noted_from a old xs) ≡ noted_from a new xs
noted_again old new h [] a = refl
noted_again old new h (x ∷ xs) a =
    ap (λ y. y ∷ noted_from (a + 1) new (noted_from (a + 1) old xs)) (marked_again (job_from a old) (job_from a new) (h a) x)
    ∙ ap (λ ys. marked (job_from a new) x ∷ ys) (noted_again old new h xs (a + 1))

-- Jobs of which none is over tell nothing.
abbrev pub NoneOver : List OnSap → Type 0
NoneOver xs = (s : ℕ) (e : Ending) → job_from s xs ≡ Some (Over e) → ⊥

marked_not : (p : Option Job) → ((e : Ending) → p ≡ Some (Over e) → ⊥) → (x : Slot) → marked p x ≡ x
marked_not p h (Staged m) = go p h
  where
    go : (r : Option Job) → ((e : Ending) → r ≡ Some (Over e) → ⊥) → answered_by r m ≡ Staged m
    go None k = refl
    go (Some (Over e)) k = absurd (k e refl)
    go (Some (Begins most bytes)) k = refl
    go (Some (Waits most rest)) k = refl
    go (Some (Sends most rest)) k = refl
    go (Some (Asks size have)) k = refl
    go (Some (Collects size have)) k = refl
    go (Some (Looks tid)) k = refl
    go (Some Closes) k = refl
marked_not p h NoMessage = refl
marked_not p h Success = refl
marked_not p h Rejected = refl

pub noted_not : (jobs : List OnSap) → NoneOver jobs → (xs : List Slot) (a : ℕ) → noted_from a jobs xs ≡ xs
noted_not jobs h [] a = refl
noted_not jobs h (x ∷ xs) a =
    ap (λ y. y ∷ noted_from (a + 1) jobs xs) (marked_not (job_from a jobs) (h a) x) ∙ ap (λ ys. x ∷ ys) (noted_not jobs h xs (a + 1))

-- what is noted fits too
marked_fits : (p : Option Job) (x : Slot) → FitsSlot x → FitsSlot (marked p x)
marked_fits p (Staged m) f = go p
  where
    go : (r : Option Job) → FitsSlot (answered_by r m)
    go None = f
    go (Some (Over Done)) = tt
    go (Some (Over (Refused r))) = tt
    go (Some (Over (Value v))) = f
    go (Some (Over (Sap n))) = f
    go (Some (Begins most bytes)) = f
    go (Some (Waits most rest)) = f
    go (Some (Sends most rest)) = f
    go (Some (Asks size have)) = f
    go (Some (Collects size have)) = f
    go (Some (Looks tid)) = f
    go (Some Closes) = f
marked_fits p NoMessage f = tt
marked_fits p Success f = tt
marked_fits p Rejected f = tt

pub noted_fits : (jobs : List OnSap) (xs : List Slot) (a : ℕ) → AllFit xs → AllFit (noted_from a jobs xs)
noted_fits jobs [] a f = tt
noted_fits jobs (x ∷ xs) a f = (marked_fits (job_from a jobs) x f.0, noted_fits jobs xs (a + 1) f.1)

pub noted_length : (jobs : List OnSap) (xs : List Slot) (a : ℕ) → length (noted_from a jobs xs) ≡ length xs
noted_length jobs [] a = refl
noted_length jobs (x ∷ xs) a = ap suc (noted_length jobs xs (a + 1))

-- Where all jobs are over, each of a put, no message waits.
abbrev pub AllPut : List OnSap → Type 0
AllPut [] = Unit {0}
AllPut (x ∷ xs) = (is_over x.job ≡ true) × Serves Putting x.job × AllPut xs

abbrev pub AllServe : List OnSap → Type 0
AllServe [] = Unit {0}
AllServe (x ∷ xs) = Serves Putting x.job × AllServe xs

answered_put : (job : Job) (m : List ℕ) → is_over job ≡ true → Serves Putting job → has_staged (answered_by (Some job) m) ≡ false
answered_put (Over Done) m o s = refl
answered_put (Over (Refused r)) m o s = refl
answered_put (Over (Value v)) m o s = absurd s
answered_put (Over (Sap n)) m o s = absurd s
answered_put (Begins most bytes) m o s = absurd cc
answered_put (Waits most rest) m o s = absurd cc
answered_put (Sends most rest) m o s = absurd cc
answered_put (Asks size have) m o s = absurd cc
answered_put (Collects size have) m o s = absurd cc
answered_put (Looks tid) m o s = absurd cc
answered_put Closes m o s = absurd cc

put_answered : (jobs : List OnSap) (m : List ℕ) (s : ℕ) → AllPut jobs → is_in s (saps jobs) ≡ true → has_staged (answered_by (job_from s jobs) m) ≡ false
put_answered [] m s h i = absurd cc
put_answered (x ∷ xs) m s h i = go (x.sap == s) refl i (put_answered xs m s h.2)
  where
    go : (b : Bool) → (x.sap == s) ≡ b → (b || is_in s (saps xs)) ≡ true → (is_in s (saps xs) ≡ true → has_staged (answered_by (job_from s xs) m) ≡ false)
        → has_staged (answered_by (job_from s (x ∷ xs)) m) ≡ false
    go true e k more = ap (λ b. has_staged (answered_by (if b then Some x.job else job_from s xs) m)) e ∙ answered_put x.job m h.0 h.1
    go false e k more = ap (λ b. has_staged (answered_by (if b then Some x.job else job_from s xs) m)) e ∙ more k

pub none_left : (jobs : List OnSap) → AllPut jobs → (xs : List Slot) (a : ℕ)
    → ((s : ℕ) → a ≤ s → has_staged (slot_of a xs s) ≡ true → is_in s (saps jobs) ≡ true) → NoneStaged (noted_from a jobs xs)
none_left jobs h [] a w = tt
none_left jobs h (x ∷ xs) a w = (
  here x (λ k. w a (omega arith) (ap (λ b. has_staged (if b then x else slot_of (a + 1) xs a)) (is_it a) ∙ k)),
  none_left jobs h xs (a + 1) (λ s l k. w s (omega (arith, l)) (ap (λ b. has_staged (if b then x else slot_of (a + 1) xs s)) (is_above a s (let j : a < s = omega (arith, l) in j)) ∙ k)),
)
  where
    here : (y : Slot) → (has_staged y ≡ true → is_in a (saps jobs) ≡ true) → has_staged (marked (job_from a jobs) y) ≡ false
    here (Staged m) k = put_answered jobs m a h (k refl)
    here NoMessage k = refl
    here Success k = refl
    here Rejected k = refl

pub all_put : (xs ys : List OnSap) → Follow xs ys → all_over ys ≡ true → AllServe xs → AllPut ys
all_put [] [] f o s = tt
all_put [] (y ∷ ys) f o s = absurd f
all_put (x ∷ xs) [] f o s = absurd f
all_put (x ∷ xs) (y ∷ ys) f o s = go (is_over y.job) refl o (λ k. all_put xs ys f.3 k s.1)
  where
    go : (b : Bool) → is_over y.job ≡ b → (b && all_over ys) ≡ true → (all_over ys ≡ true → AllPut ys) → AllPut (y ∷ ys)
    go true e k more = (e, f.1 Putting s.0, more k)
    go false e k more = absurd cc

-- a message that is staged
pub fits_set : (xs : List Slot) (i : ℕ) (m : List ℕ) → AllFit xs → length m ≤ most_staged → AllFit (set xs i (Staged m))
fits_set [] i m f l = tt
fits_set (x ∷ xs) zero m f l = (l, f.1)
fits_set (x ∷ xs) (suc i) m f l = (f.0, fits_set xs i m f.1 l)

-- what is left where messages are dropped
pub dropped_fits : (xs : List Slot) → AllFit xs → AllFit (dropped xs)
dropped_fits [] f = tt
dropped_fits (x ∷ xs) f = (here x f.0, dropped_fits xs f.1)
  where
    here : (y : Slot) → FitsSlot y → FitsSlot (dropped_one y)
    here (Staged m) g = tt
    here NoMessage g = tt
    here Success g = tt
    here Rejected g = tt
