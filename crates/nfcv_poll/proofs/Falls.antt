-- Each request of a search leaves less to do.
use Rattle.std.proofs.Common.{◌≡◌, ℕ, zero, suc, ◌+◌, ◌-◌, ◌*◌, ◌<◌, ◌≤◌, List, [], ◌∷◌, ◌++◌, length, reverse, Bool, true, false, nat_eq, nat_lt, nat_le, if◌then◌else◌, Option, Some, None, refl, sym}
use Rattle.std.proofs.Common.{arith}
use Rattle.std.proofs.Math.Nat.{mul-le-mul_left}
use Rattle.nfc_base.specs.Signal.{Signal}
use Rattle.nfc_base.specs.declared.event.Heard.{Heard}
use Rattle.t5t_tag.specs.Slots.{id_number, last_slot}
use Rattle.nfca_poll.specs.declared.fault.PollFault.TheVariants as faults
use Rattle.nfcv_poll.specs.declared.mask.Mask.{Mask}
use Rattle.nfcv_poll.specs.Masks.{extended}
use Rattle.nfcv_poll.specs.Search.{most_passes, most_rounds, questions, with_id, id_at, said, begins_pass, fails, hush_stage, opens_with, leaves, with_clash, is_spent, takes_in, takes, is_silence}
use Rattle.nfcv_poll.specs.Search.{answers_left, hears_at, hears, due_request}
use Rattle.nfcv_poll.specs.declared.search.Said.{Said}
use Rattle.nfcv_poll.specs.declared.search.Said.TheVariants as told
use Rattle.nfcv_poll.specs.declared.search.Search.{Search}
use Rattle.nfcv_poll.specs.declared.search.Stage.{Stage}
use Rattle.nfcv_poll.specs.declared.search.Stage.TheVariants as stages

-- what a stage leaves to do in its pass: with so many passes behind it, so many rounds begun, and so many tags recorded
abbrev pub stage_left : ℕ → ℕ → ℕ → Stage → ℕ
stage_left rest rounds count (stages.Slot m slot) = 6 * ((128 - rounds) * 17 + (16 - slot)) + (rest * count + count) + 20
stage_left rest rounds count (stages.Hush id next) = (count - next) + rest * count + 11
stage_left rest rounds count (stages.WhoIsLeft asked) = rest * count + 1 + (4 - asked)
stage_left rest rounds count stages.Over = 0
stage_left rest rounds count (stages.Fails fault) = 0

abbrev pub left_by : ℕ → ℕ → List (List ℕ) → Stage → ℕ
left_by pass rounds found stage = (4 - pass) * 20000 + stage_left (4 - pass) rounds (length found) stage

abbrev pub left : Search → ℕ
left s = left_by s.pass s.rounds s.found s.stage

-- one more tag costs at most one more in each pass
one_more : (r n n' : ℕ) → r ≤ 4 → n' ≤ n + 1 → r * n' + n' ≤ r * n + n + 5
one_more r n n' few more =
    let a : r * n' ≤ r * (n + 1) = mul-le-mul_left r more in
    let b : r * (n + 1) ≡ r * n + r = omega arith in
    omega (arith, a, b, few, more)

length_with : (is : List (List ℕ)) (id : List ℕ) → length (with_id is id) ≤ length is + 1
length_with [] id = omega arith
length_with (i ∷ is) id = by_number (nat_lt (id_number i) (id_number id)) (nat_eq (id_number i) (id_number id)) (length_with is id)
  where
    by_number : (v w : Bool) → length (with_id is id) ≤ length is + 1 → length (if v then i ∷ with_id is id else if w then i ∷ is else id ∷ i ∷ is) ≤ suc (length is) + 1
    by_number true w less = omega (arith, less)
    by_number false true less = omega arith
    by_number false false less = omega arith

-- a place that is there
placed : (is : List (List ℕ)) (n : ℕ) (id : List ℕ) → id_at is n ≡ Some id → n < length is
placed [] n id e = absurd cc
placed (i ∷ is) zero id e = omega arith
placed (i ∷ is) (suc n) id e = omega (arith, placed is n id e)

hush_left : (r rounds : ℕ) (is : List (List ℕ)) (at : ℕ) (o : Option (List ℕ)) → id_at is at ≡ o → stage_left r rounds (length is) (hush_stage o at) ≤ (length is - at) + r * length is + 10
hush_left r rounds is at None e = omega arith
hush_left r rounds is at (Some id) e = omega (arith, placed is at id e)

few : (n : ℕ) → 4 - n ≤ 4
few n = omega arith

less_of : (m n : ℕ) → nat_lt m n ≡ true → m < n
less_of m n h = grind arith

below_of : (m n : ℕ) → nat_le m n ≡ false → n < m
below_of m n h = grind arith

-- what is left behind a slot, of a search that differs from the one before it by one tag at most
module _ (s : Search) (m : Mask) (slot : ℕ) where
  abbrev here : ℕ
  here = left_by s.pass s.rounds s.found (stages.Slot m slot)

  record IsNear (t : Search) : Type 0 where
    pass : t.pass ≡ s.pass
    rounds : t.rounds ≡ s.rounds
    found : length t.found ≤ length s.found + 1

  opened : (t : Search) → IsNear t → (ms : List Mask) → left (opens_with t ms) < here
  opened t near [] =
      let a = hush_left (4 - t.pass) t.rounds t.found 0 (id_at t.found 0) refl in
      let most = one_more (4 - t.pass) (length s.found) (length t.found) (few t.pass) near.found in
      rw (sym near.pass) (omega (arith, a, most))
  opened t near (n ∷ ms) = by_rounds (nat_le most_rounds t.rounds) refl
    where
      by_rounds : (v : Bool) → nat_le most_rounds t.rounds ≡ v
          → left (if v then fails (record t { masks = ms }) faults.BadAnswer else record t { rounds = t.rounds + 1; masks = ms; stage = stages.Slot n 0 }) < here
      by_rounds true e = rw (sym near.pass) (omega arith)
      by_rounds false e =
          let b : t.rounds < 128 = below_of 128 t.rounds e in
          let most = one_more (4 - t.pass) (length s.found) (length t.found) (few t.pass) near.found in
          rw (sym near.pass) (omega (arith, b, near.rounds, most))

  behind : (t : Search) → IsNear t → left (leaves t m slot) < here
  behind t near = by_slot (nat_lt slot last_slot) refl
    where
      all : List Mask
      all = reverse t.clashes ++ t.masks

      by_slot : (v : Bool) → nat_lt slot last_slot ≡ v
          → left (if v then record t { stage = stages.Slot m (slot + 1) } else opens_with (record t { masks = all; clashes = [] }) all) < here
      by_slot true e =
          let b : slot < 15 = less_of slot 15 e in
          let most = one_more (4 - t.pass) (length s.found) (length t.found) (few t.pass) near.found in
          rw (sym near.pass) (omega (arith, b, near.rounds, most))
      by_slot false e = opened (record t { masks = all; clashes = [] }) (record { pass = near.pass; rounds = near.rounds; found = near.found }) all

  clashed : (o : Option Mask) → IsNear (with_clash s o)
  clashed None = record { pass = refl; rounds = refl; found = omega arith }
  clashed (Some longer) = record { pass = refl; rounds = refl; found = omega arith }

  taken : (x : Said) → left (takes_in s m slot x) < here
  taken told.Nothing = behind s (record { pass = refl; rounds = refl; found = omega arith })
  taken told.Clash = behind (with_clash s (extended m slot)) (clashed (extended m slot))
  taken (told.Tag id) = behind (record s { found = with_id s.found id }) (record { pass = refl; rounds = refl; found = length_with s.found id })
  taken told.Strange = omega arith

  takes_less : (x : Said) → left (takes s m slot x) < here
  takes_less x = by_spent (is_spent s m slot x)
    where
      by_spent : (v : Bool) → left (if v then fails s faults.BadAnswer else takes_in s m slot x) < here
      by_spent true = omega arith
      by_spent false = taken x

next_pass : (n c : ℕ) → n < 4 → (4 - (n + 1)) * 20000 + (6 * ((128 - 1) * 17 + (16 - 0)) + ((4 - (n + 1)) * c + c) + 20) < (4 - n) * 20000 + ((4 - n) * c + 1)
next_pass n c h =
    let r : ℕ = 4 - (n + 1) in
    let e : 4 - n ≡ r + 1 = omega (arith, h) in
    let p : (r + 1) * c ≡ r * c + c = omega arith in
    rw e (omega (arith, p))

falls_at : (s : Search) (stage : Stage) (h : Heard) (f : Signal) → due_request (record s { stage = stage }) ≡ Some f → left (hears_at s stage h) < left_by s.pass s.rounds s.found stage
falls_at s (stages.Slot m slot) h f due = takes_less s m slot (said h)
falls_at s (stages.Hush id next) h f due = by_place (id_at s.found next) refl
  where
    by_place : (o : Option (List ℕ)) → id_at s.found next ≡ o → left (record s { stage = hush_stage o next }) < left_by s.pass s.rounds s.found (stages.Hush id next)
    by_place None e = omega arith
    by_place (Some other) e = omega (arith, placed s.found next other e)
falls_at s (stages.WhoIsLeft asked) h f due = by_silence (is_silence h)
  where
    here_left : ℕ
    here_left = left_by s.pass s.rounds s.found (stages.WhoIsLeft asked)

    by_count : (v : Bool) → nat_lt (asked + 1) questions ≡ v → left (record s { stage = if v then stages.WhoIsLeft (asked + 1) else stages.Over })
        < left_by s.pass s.rounds s.found (stages.WhoIsLeft asked)
    by_count true e = omega (arith, less_of (asked + 1) 4 e)
    by_count false e = omega arith

    by_pass : (v : Bool) → nat_lt s.pass most_passes ≡ v → left (if v then begins_pass (s.pass + 1) s else fails s faults.Disturbed) < left_by s.pass s.rounds s.found (stages.WhoIsLeft asked)
    by_pass true e = omega (arith, next_pass s.pass (length s.found) (less_of s.pass 4 e))
    by_pass false e = omega arith

    by_silence : (v : Bool) → left (answers_left s asked v) < left_by s.pass s.rounds s.found (stages.WhoIsLeft asked)
    by_silence true = by_count (nat_lt (asked + 1) questions) refl
    by_silence false = by_pass (nat_lt s.pass most_passes) refl
falls_at s stages.Over h f due = absurd cc
falls_at s (stages.Fails fault) h f due = absurd cc

pub falls : (s : Search) (h : Heard) (f : Signal) → due_request s ≡ Some f → left (hears s h) < left s
falls s h f due = falls_at s s.stage h f due
