-- What a write asks of a Type 3 tag is one list, of which what was asked is a front; and each command of it is one that the tag may be asked.
use Rattle.std.proofs.Common.{◌≡◌, ◌⊎◌, inl, inr, ℕ, zero, suc, ◌+◌, ◌*◌, ◌<◌, ◌≤◌, List, [], ◌∷◌, ◌++◌, length, get_or, Bool, true, false, ◌==◌, refl, sym, subst, arith, append_assoc, append-nil}
use Rattle.std.specs.List.{AllByRecursion}
use Rattle.std.proofs.lemmas.Bool.{cases_lt}
use Rattle.nfc_base.specs.Signal.{Signal}
use Rattle.nfc_base.specs.TagLinks.{Type3, MayAsk}
use Rattle.t3t_tag.specs.Attributes.{message_blocks, access_flag}
use Rattle.t3t_tag.specs.Form.{T3Form, NotNdef, Version, BadSize, Unfinished, Message, IsSized, IsT3Form}
use Rattle.t3t_tag.specs.Spelling.{check_code, update_code}
use Rattle.t3t_tag.specs.Store.{attributes}
use Rattle.t3t_tag.proofs.Bytes.{equal_of, other_of}
use Rattle.t3t_tag.proofs.Forms.{has_one_form}
use Rattle.t3t_access.specs.Answers.{check_of, update_of}
use Rattle.t3t_access.specs.OwnWriting.{IsPutDue}
use Rattle.t3t_access.specs.Writing.{Takes, put_at, all_puts, command_at, first_asked}
use Rattle.bench_devices.specs.Threes.{WriteAsksThree}
use Rattle.bench_devices.proofs.type3.ThreeLists.{all_more}

sized_or : (store : List ℕ) → IsSized (attributes store) ⊎ (IsSized (attributes store) → ⊥)
sized_or store = by_form (has_one_form store).form (has_one_form store).is
  where
    by_form : (form : T3Form) → IsT3Form store form → IsSized (attributes store) ⊎ (IsSized (attributes store) → ⊥)
    by_form NotNdef is = inr (λ s. absurd (let sum = s.known.summed in cc))
    by_form Version is = inr (λ s. is.1 s.known.version)
    by_form BadSize is = inr (λ s. s.sized is.1)
    by_form Unfinished is = inl is.0
    by_form (Message m) is = inl is.0

takes_or : (store message : List ℕ) → Takes (attributes store) message ⊎ (Takes (attributes store) message → ⊥)
takes_or store message = by_size (sized_or store)
  where
    by_room : IsSized (attributes store) → access_flag (attributes store) ≡ 1 → (16 * message_blocks (attributes store) < length message) ⊎ (length message ≤ 16 * message_blocks (attributes store))
        → Takes (attributes store) message ⊎ (Takes (attributes store) message → ⊥)
    by_room sized free (inl long) = inr (λ t. let room : length message ≤ 16 * message_blocks (attributes store) = t.room in absurd (omega (arith, long, room)))
    by_room sized free (inr fits) = inl (record { sized = sized; free = free; room = fits })

    by_access : IsSized (attributes store) → (v : Bool) → (access_flag (attributes store) == 1) ≡ v → Takes (attributes store) message ⊎ (Takes (attributes store) message → ⊥)
    by_access sized true e = by_room sized (equal_of (access_flag (attributes store)) 1 e) (cases_lt (16 * message_blocks (attributes store)) (length message))
    by_access sized false e = inr (λ t. other_of (access_flag (attributes store)) 1 e t.free)

    by_size : IsSized (attributes store) ⊎ (IsSized (attributes store) → ⊥) → Takes (attributes store) message ⊎ (Takes (attributes store) message → ⊥)
    by_size (inl sized) = by_access sized (access_flag (attributes store) == 1) refl
    by_size (inr none) = inr (λ t. none t.sized)

-- the rest of the list, behind the first of it
pub record PutsRest (id store : List ℕ) (locked : List Bool) (message : List ℕ) (n : ℕ) : Type 0 where
  pub rest : List Signal
  pub asks : WriteAsksThree id store locked message (first_asked id (attributes store) message n ++ rest)

module _ (id store : List ℕ) (locked : List Bool) (message : List ℕ) where
  abbrev block : List ℕ
  block = attributes store

  abbrev Due : ℕ → Type 0
  Due n = IsPutDue locked block message n

  abbrev pub ArePutsDue : ℕ → Type 0
  ArePutsDue n = (k : ℕ) → k < n → Due k

  pub puts_next : (n : ℕ) → ArePutsDue n → Due n → ArePutsDue (suc n)
  puts_next n each next k less = by_value (cases_lt k n)
    where
      by_value : (k < n) ⊎ (n ≤ k) → Due k
      by_value (inl low) = each k low
      by_value (inr high) = subst Due (let same : n ≡ k = omega (arith, less, high) in same) next

  -- whether the next Update is due, where all before it are
  free_more : (n : ℕ) → Due n → get_or locked (put_at block message n).block false ≡ false → (k : ℕ) → k < suc n → get_or locked (put_at block message k).block false ≡ false
  free_more n due free k less = by_value (cases_lt k n)
    where
      by_value : (k < n) ⊎ (n ≤ k) → get_or locked (put_at block message k).block false ≡ false
      by_value (inl low) = due.free k low
      by_value (inr high) = subst (λ j. get_or locked (put_at block message j).block false ≡ false) (let same : n ≡ k = omega (arith, less, high) in same) free

  next_or : (n : ℕ) → ArePutsDue n → Due n ⊎ (Due n → ⊥)
  next_or zero each = by_takes (takes_or store message)
    where
      by_takes : Takes block message ⊎ (Takes block message → ⊥) → Due zero ⊎ (Due zero → ⊥)
      by_takes (inl takes) = inl (record { takes = takes; some = omega arith; free = λ k less. absurd (omega (arith, less)) })
      by_takes (inr none) = inr (λ d. none d.takes)
  next_or (suc n) each = by_count (cases_lt (suc n) (all_puts message))
    where
      last : Due n
      last = each n (omega arith)

      by_lock : suc n < all_puts message → (v : Bool) → get_or locked (put_at block message n).block false ≡ v → Due (suc n) ⊎ (Due (suc n) → ⊥)
      by_lock some false e = inl (record { takes = last.takes; some = some; free = free_more n last e })
      by_lock some true e = inr (λ d. absurd (let free : get_or locked (put_at block message n).block false ≡ false = d.free n (omega arith) in cc))

      by_count : (suc n < all_puts message) ⊎ (all_puts message ≤ suc n) → Due (suc n) ⊎ (Due (suc n) → ⊥)
      by_count (inl some) = by_lock some (get_or locked (put_at block message n).block false) refl
      by_count (inr past) = inr (λ d. let some : suc n < all_puts message = d.some in absurd (omega (arith, some, past)))

  ends : (n : ℕ) → ArePutsDue n → (Due n → ⊥) → PutsRest id store locked message n
  ends n each none = record { rest = []; asks = record { count = n; list = append-nil (first_asked id block message n); due = each; last = none } }

  one_more : (n : ℕ) → PutsRest id store locked message (suc n) → PutsRest id store locked message n
  one_more n r = record {
    rest = command_at id block message n ∷ r.rest;
    asks = subst (WriteAsksThree id store locked message) (append_assoc (first_asked id block message n) (command_at id block message n ∷ []) r.rest) r.asks;
  }

  puts_from : (fuel n : ℕ) → ArePutsDue n → all_puts message ≤ n + fuel → PutsRest id store locked message n
  puts_from zero n each past = ends n each (λ d. let some : n < all_puts message = d.some in absurd (omega (arith, some, past)))
  puts_from (suc fuel) n each past = by_next (next_or n each) (λ each'. puts_from fuel (suc n) each' (omega (arith, past)))
    where
      by_next : Due n ⊎ (Due n → ⊥) → (ArePutsDue (suc n) → PutsRest id store locked message (suc n)) → PutsRest id store locked message n
      by_next (inl due) later = one_more n (later (puts_next n each due))
      by_next (inr none) later = ends n each none

  pub puts_rest : (n : ℕ) → ArePutsDue n → PutsRest id store locked message n
  puts_rest n each = puts_from (all_puts message) n each (omega arith)

-- each of them is addressed to the tag
may_check : (id : List ℕ) → MayAsk Type3 id (check_of id 0 1)
may_check id = record { size = _; code = check_code; rest = _; frame = refl }

may_update : (id : List ℕ) (number : ℕ) (content : List ℕ) → MayAsk Type3 id (update_of id number content)
may_update id number content = record { size = _; code = update_code; rest = _; frame = refl }

may_first : (id own message : List ℕ) (n : ℕ) → AllByRecursion (MayAsk Type3 id) (first_asked id own message n)
may_first id own message zero = (may_check id, tt)
may_first id own message (suc n) =
    all_more (MayAsk Type3 id) (first_asked id own message n) (command_at id own message n) (may_first id own message n) (may_update id (put_at own message n).block (put_at own message n).content)

pub puts_may : (id store : List ℕ) (locked : List Bool) (message : List ℕ) (commands : List Signal) → WriteAsksThree id store locked message commands → AllByRecursion (MayAsk Type3 id) commands
puts_may id store locked message commands is = subst (AllByRecursion (MayAsk Type3 id)) (sym is.list) (may_first id (attributes store) message is.count)
