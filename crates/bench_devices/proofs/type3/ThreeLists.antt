-- What a read asks of a Type 3 tag is one list, of which what was asked is a front; and it changes no device.
use Rattle.std.proofs.Common.{◌≡◌, ◌⊎◌, inl, inr, ℕ, zero, suc, ◌+◌, ◌<◌, ◌≤◌, List, [], ◌∷◌, ◌++◌, length, drop, Option, Bool, true, false, not, if◌then◌else◌, refl, sym, ap, subst, arith}
use Rattle.std.proofs.Common.{append_assoc, append-nil}
use Rattle.std.specs.List.{AllByRecursion}
use Rattle.std.proofs.lemmas.Bool.{cases_lt}
use Rattle.nfc_base.specs.Signal.{Signal}
use Rattle.air_core.specs.Conversation.{Note, Asks}
use Rattle.air_core.specs.Waits.{waits_next}
use Rattle.air_core.proofs.DueWaits.{due_all}
use Rattle.t3t_tag.specs.Form.{T3Form, NotNdef, Version, BadSize, Unfinished, Message, IsSized, IsT3Form}
use Rattle.t3t_tag.specs.Attributes.{write_flag}
use Rattle.t3t_tag.specs.declared.answer.T3Answer.{T3Answer}
use Rattle.t3t_tag.specs.Spelling.{asked_of, elements, read_service}
use Rattle.t3t_tag.specs.Step.{silent, answers, check_answer, t3_after}
use Rattle.t3t_tag.specs.Store.{IsT3Store, T3State, attributes, id_size}
use Rattle.t3t_tag.proofs.Forms.{has_one_form}
use Rattle.t3t_access.specs.Answers.{numbers, check_of}
use Rattle.t3t_access.specs.Reading.{needed, taken_at, count_at, check_at, first_checks, IsDue}
use Rattle.t3t_access.proofs.OwnReading.{so_far, at_is, within}
use Rattle.bench_devices.specs.declared.device.Device.TheVariants.{T2, T4, Peer, T5, T3}
use Rattle.bench_devices.specs.Powered.{Powered}
use Rattle.bench_devices.specs.Keeping.{kept}
use Rattle.bench_devices.specs.Threes.{ReadAsksThree}
use Rattle.bench_devices.proofs.finding.SelectingKept.{IsHarmless}

-- a message is held, or no other Check is due than that of block 0
abbrev IsReadable : List ℕ → Type 0
IsReadable block = IsSized block × (write_flag block ≡ 0)

abbrev pub AreDue : List ℕ → ℕ → Type 0
AreDue block n = (k : ℕ) → k < n → IsDue block k

readable_or : (store : List ℕ) → IsReadable (attributes store) ⊎ (IsReadable (attributes store) → ⊥)
readable_or store = by_form (has_one_form store).form (has_one_form store).is
  where
    by_form : (form : T3Form) → IsT3Form store form → IsReadable (attributes store) ⊎ (IsReadable (attributes store) → ⊥)
    by_form NotNdef is = inr (λ r. absurd (let sum = r.0.known.summed in cc))
    by_form Version is = inr (λ r. is.1 r.0.known.version)
    by_form BadSize is = inr (λ r. r.0.sized is.1)
    by_form Unfinished is = inr (λ r. is.1 r.1)
    by_form (Message m) is = inl (is.0, is.1)

pub due_next : (block : List ℕ) (n : ℕ) → AreDue block n → IsDue block n → AreDue block (suc n)
due_next block n each next k less = by_value (cases_lt k n)
  where
    by_value : (k < n) ⊎ (n ≤ k) → IsDue block k
    by_value (inl low) = each k low
    by_value (inr high) = subst (IsDue block) (let same : n ≡ k = omega (arith, less, high) in same) next

-- the rest of the list, behind the first of it
pub record Rest (id store : List ℕ) (n : ℕ) : Type 0 where
  pub rest : List Signal
  pub asks : ReadAsksThree id store (first_checks id (attributes store) n ++ rest)

module _ (id store : List ℕ) (is : IsT3Store store) where
  abbrev block : List ℕ
  block = attributes store

  ends : (n : ℕ) → AreDue block n → (IsDue block n → ⊥) → Rest id store n
  ends n each none = record { rest = []; asks = record { count = n; list = append-nil (first_checks id block n); due = each; last = none } }

  one_more : (n : ℕ) → Rest id store (suc n) → Rest id store n
  one_more n r = record {
    rest = check_at id block n ∷ r.rest;
    asks = subst (ReadAsksThree id store) (append_assoc (first_checks id block n) (check_at id block n ∷ []) r.rest) r.asks;
  }

  from_message : IsReadable block → (fuel n : ℕ) → AreDue block (suc n) → needed block ≤ taken_at block n + fuel → Rest id store (suc n)
  from_message r zero n each past = ends (suc n) each (λ d. absurd (let less : taken_at block n < needed block = d.2 in omega (arith, less, past)))
  from_message r (suc fuel) n each past = by_left (cases_lt (taken_at block n) (needed block)) (λ each' past'. from_message r fuel (suc n) each' past')
    where
      by_left : (taken_at block n < needed block) ⊎ (needed block ≤ taken_at block n) → (AreDue block (suc (suc n)) → needed block ≤ taken_at block (suc n) + fuel → Rest id store (suc (suc n)))
          → Rest id store (suc n)
      by_left (inr all) later = ends (suc n) each (λ d. absurd (let less : taken_at block n < needed block = d.2 in omega (arith, less, all)))
      by_left (inl less) later =
          let due : IsDue block (suc n) = (r.0, r.1, less) in
          let some : 1 ≤ count_at block (suc n) = (within store block is (suc n) (λ k e. refl) due).least in
          let taken : taken_at block (suc n) ≡ taken_at block n + count_at block (suc n) = refl in
          one_more (suc n) (later (due_next block (suc n) each due) (omega (arith, past, some, taken)))

  behind_first : (n : ℕ) → AreDue block (suc n) → Rest id store (suc n)
  behind_first n each = by_form (readable_or store)
    where
      by_form : IsReadable block ⊎ (IsReadable block → ⊥) → Rest id store (suc n)
      by_form (inl r) = from_message r (needed block) n each (omega arith)
      by_form (inr none) = ends (suc n) each (λ d. none (d.0, d.1))

  pub rest_of : (n : ℕ) → AreDue block n → Rest id store n
  rest_of zero each = one_more zero (behind_first zero (due_next block zero each tt))
  rest_of (suc n) each = behind_first n each

-- A Check changes no device.
leaves_by : (t : T3State) (o : Option T3Answer) (v w : Bool) → (if v then (if not w then silent t else answers t o) else silent t).after ≡ t
leaves_by t o true true = refl
leaves_by t o true false = refl
leaves_by t o false w = refl

check_leaves : (t : T3State) (id : List ℕ) (first count : ℕ) → t3_after t (check_of id first count) ≡ t
check_leaves t id first count = leaves_by t (check_answer t (drop id_size (id ++ (asked_of read_service (length (numbers first count)) ++ elements (numbers first count))))) _ _

still_three : (p : Powered T3State) (f : Signal) → t3_after p.tag f ≡ p.tag → (v : Bool) → kept (T3 (if v then record { tag = t3_after p.tag f; lit = true } else p)) ≡ kept (T3 p)
still_three p f leaves true = ap (λ t. kept (T3 (record { tag = t; lit = true }))) leaves
still_three p f leaves false = refl

check_harmless : (id : List ℕ) (first count : ℕ) → IsHarmless (check_of id first count)
check_harmless id first count (T2 d) = refl
check_harmless id first count (T4 d) = refl
check_harmless id first count (Peer d) = refl
check_harmless id first count (T5 p) = refl
check_harmless id first count (T3 p) = still_three p (check_of id first count) (check_leaves p.tag id first count) p.lit

pub all_more : (P : Signal → Type 0) (xs : List Signal) (y : Signal) → AllByRecursion P xs → P y → AllByRecursion P (xs ++ y ∷ [])
all_more P [] y all here = (here, tt)
all_more P (x ∷ xs) y all here = (all.0, all_more P xs y all.1 here)

checks_harmless : (id own : List ℕ) (n : ℕ) → AllByRecursion IsHarmless (first_checks id own n)
checks_harmless id own zero = tt
checks_harmless id own (suc n) =
    all_more IsHarmless (first_checks id own n) (check_at id own n) (checks_harmless id own n)
    (subst IsHarmless (sym (at_is id own n)) (check_harmless id (so_far own n) (count_at own n)))

pub reading_harmless : (id own : List ℕ) (n : ℕ) (ns : List Note) (f : Signal) → waits_next (first_checks id own n) ns ≡ Asks f → IsHarmless f
reading_harmless id own n ns f due = due_all IsHarmless (first_checks id own n) (checks_harmless id own n) ns f due
