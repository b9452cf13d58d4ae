-- How many rounds and slots a pass has, and what else its turns in slots tell.
use Rattle.std.proofs.Common.{◌≡◌, ◌⊎◌, inl, inr, ◌≤◌, ◌<◌, ℕ, zero, suc, ◌+◌, ◌*◌, List, [], ◌∷◌, ◌++◌, length, get_or, reverse, Bool, true, false, not, ◌&&◌, nat_eq, nat_lt, if◌then◌else◌, Some}
use Rattle.std.proofs.Common.{refl, sym, ◌∙◌, ap, subst, arith}
use Rattle.std.proofs.lemmas.Nat.{be_bytes_8}
use Rattle.std.specs.Int.{w64, to_be_bytes}
use Rattle.nfc_base.specs.Signal.{Signal}
use Rattle.nfc_base.specs.Trace.{Turn, heard}
use Rattle.air_core.specs.Joint.{same_signal}
use Rattle.nfca_poll.specs.Crowd.{Each}
use Rattle.nfca_poll.specs.Inventory.{inventory_all}
use Rattle.nfca_poll.proofs.enquiries.TellingInventory.{count_more}
use Rattle.t5t_tag.specs.declared.command.T5Command.TheVariants.{NextSlot}
use Rattle.t5t_tag.specs.Slots.{id_number, slot_of}
use Rattle.t5t_tag.specs.Spelling.{slots_flags, command_frame}
use Rattle.t5t_tag.specs.Store.{T5State, id_size}
use Rattle.nfcv_poll.specs.declared.mask.Mask.{Mask}
use Rattle.nfcv_poll.specs.Finding.{is_answered, is_answered_question, begins_with, begins_round, rounds_begun}
use Rattle.nfcv_poll.specs.Masks.{slots_frame}
use Rattle.nfcv_poll.specs.Passes.{asks_next, next_slots, IsShort}
use Rattle.nfcv_poll.specs.Search.{with_id}
use Rattle.nfcv_poll.specs.Tags.{IsOneOf}
use Rattle.nfcv_poll.proofs.Nibbles.{BeginsWith, slots_of}
use Rattle.nfcv_poll.proofs.Preorder.{turned_over}
use Rattle.nfcv_poll.proofs.Sought.{Sought, done, waits, here}
use Rattle.t5t_tag.proofs.Inventories.{take_none}

abbrev one_if : Bool → ℕ
one_if v = if v then 1 else 0

-- the counts of the pass under way
pub record Counts (rounds slot : ℕ) (now : List Turn) : Type 0 where
  pub begun : rounds_begun now + one_if (nat_eq slot 0) ≤ rounds
  pub asked : next_slots now + 15 + one_if (not (nat_eq slot 0)) ≤ 15 * rounds + slot

pub counts_none : Counts 1 0 []
counts_none = record { begun = omega arith; asked = omega arith }

-- a request in a slot begins a round or asks for the next slot, and is no question
pub record SlotTurn (first : Bool) (f : Signal) : Type 0 where
  pub other : same_signal f inventory_all ≡ false
  pub begins : begins_with slots_flags f.bytes ≡ first
  pub next : same_signal f (command_frame NextSlot) ≡ not first

pub slot_turn : (n : Mask) (v : Bool) (f : Signal) → Some (if v then slots_frame n else command_frame NextSlot) ≡ Some f → SlotTurn v f
slot_turn n true f d = let q : slots_frame n ≡ f = cc in subst (SlotTurn true) q (record { other = refl; begins = refl; next = refl })
slot_turn n false f d = let q : command_frame NextSlot ≡ f = cc in subst (SlotTurn false) q (record { other = refl; begins = refl; next = refl })

pub unanswered : (t : Turn) → same_signal t.request inventory_all ≡ false → is_answered_question t ≡ false
unanswered t e = ap (λ v. v && is_answered (heard t)) e

not_first : (n : ℕ) → nat_eq (n + 1) 0 ≡ false
not_first n = grind arith

pub counts_on : (rounds slot : ℕ) (now : List Turn) (t : Turn) → Counts rounds slot now → SlotTurn (nat_eq slot 0) t.request → Counts rounds (slot + 1) (now ++ t ∷ [])
counts_on rounds slot now t c u = by_first (nat_eq slot 0) refl
  where
    more : rounds_begun (now ++ t ∷ []) ≡ rounds_begun now + one_if (begins_round t)
    more = count_more begins_round now t

    asks : next_slots (now ++ t ∷ []) ≡ next_slots now + one_if (asks_next t)
    asks = count_more asks_next now t

    later : one_if (nat_eq (slot + 1) 0) ≡ 0
    later = ap one_if (not_first slot)

    later_not : one_if (not (nat_eq (slot + 1) 0)) ≡ 1
    later_not = ap (λ v. one_if (not v)) (not_first slot)

    begin : one_if (begins_round t) ≡ one_if (nat_eq slot 0)
    begin = ap one_if u.begins

    ask : one_if (asks_next t) ≡ one_if (not (nat_eq slot 0))
    ask = ap one_if u.next

    by_first : (v : Bool) → nat_eq slot 0 ≡ v → Counts rounds (slot + 1) (now ++ t ∷ [])
    by_first v e = record {
      begun = omega (arith, more, later, begin, c.begun);
      asked = omega (arith, asks, later_not, ask, c.asked, low v e);
    }
      where
        low : (v : Bool) → nat_eq slot 0 ≡ v → one_if (not (nat_eq slot 0)) ≤ 1
        low true e = rw e (omega arith)
        low false e = rw e (omega arith)

pub counts_round : (rounds slot : ℕ) (now : List Turn) → 16 ≡ slot → Counts rounds slot now → Counts (rounds + 1) 0 now
counts_round rounds slot now last c =
    let n : one_if (not (nat_eq slot 0)) ≡ 1 = subst (λ k. one_if (not (nat_eq k 0)) ≡ 1) last refl in
    record { begun = omega (arith, c.begun); asked = omega (arith, c.asked, last, n) }

pub short_pass : (rounds slot : ℕ) (now : List Turn) → slot ≤ 16 → rounds ≤ 121 → Counts rounds slot now → IsShort now
short_pass rounds slot now less few c = record { rounds = omega (arith, c.begun, few); slots = by_slot slot less c.asked }
  where
    by_slot : (k : ℕ) → k ≤ 16 → next_slots now + 15 + one_if (not (nat_eq k 0)) ≤ 15 * rounds + k → next_slots now ≤ 15 * 121
    by_slot zero l h = omega (arith, h, few)
    by_slot (suc k) l h =
        let n : one_if (not (nat_eq (suc k) 0)) ≡ 1 = ap (λ v. one_if (not v)) (no_first k) in
        omega (arith, h, n, few, l)
      where
        no_first : (k : ℕ) → nat_eq (suc k) 0 ≡ false
        no_first k = grind arith

-- another request counts for neither
pub short_on : (now : List Turn) (t : Turn) → begins_with slots_flags t.request.bytes ≡ false → same_signal t.request (command_frame NextSlot) ≡ false → IsShort now → IsShort (now ++ t ∷ [])
short_on now t no_round no_slot_ s =
    let more : rounds_begun (now ++ t ∷ []) ≡ rounds_begun now + one_if (begins_round t) = count_more begins_round now t in
    let asks : next_slots (now ++ t ∷ []) ≡ next_slots now + one_if (asks_next t) = count_more asks_next now t in
    let a : one_if (begins_round t) ≡ 0 = ap one_if no_round in
    let b : one_if (asks_next t) ≡ 0 = ap one_if no_slot_ in
    record { rounds = omega (arith, more, a, s.rounds); slots = omega (arith, asks, b, s.slots) }

-- identifiers with the same number are the same
each_get : (bs : List ℕ) → Each (λ b. b < 256) bs → (i : ℕ) → get_or bs i 0 < 256
each_get [] h i = omega arith
each_get (b ∷ bs) h zero = h.0
each_get (b ∷ bs) h (suc i) = each_get bs h.1 i

same_id : (i j : List ℕ) → length i ≡ id_size → length j ≡ id_size → Each (λ b. b < 256) i → Each (λ b. b < 256) j → id_number i ≡ id_number j → i ≡ j
same_id i j hi hj small other e =
    let one : to_be_bytes w64 (id_number i) ≡ i = be_bytes_8 i (id_number i) hi (each_get i small) refl in
    let two : to_be_bytes w64 (id_number i) ≡ j = be_bytes_8 j (id_number i) hj (each_get j other) e in
    sym one ∙ two

-- so one that is taken in is there
pub recorded : (is : List (List ℕ)) (id : List ℕ) → Each (λ i. (length i ≡ id_size) × Each (λ b. b < 256) i) is → length id ≡ id_size → Each (λ b. b < 256) id → IsOneOf id (with_id is id)
recorded [] id all long small = inl refl
recorded (j ∷ js) id all long small = by_number (nat_lt (id_number j) (id_number id)) (nat_eq (id_number j) (id_number id)) refl (recorded js id all.1 long small)
  where
    equal : (a b : ℕ) → nat_eq a b ≡ true → a ≡ b
    equal a b h = grind arith

    by_number : (v w : Bool) → nat_eq (id_number j) (id_number id) ≡ w → IsOneOf id (with_id js id) → IsOneOf id (if v then j ∷ with_id js id else if w then j ∷ js else id ∷ j ∷ js)
    by_number true w e more = inr more
    by_number false true e more = inl (same_id j id all.0.0 long all.0.1 small (equal (id_number j) (id_number id) e))
    by_number false false e more = inl refl

-- behind the last slot of a round a tag that isn't found waits for a later one
turned_one : (q : List ℕ) (cs ws : List (List ℕ)) → IsOneOf q cs ⊎ IsOneOf q ws → IsOneOf q (reverse cs ++ ws)
turned_one q [] ws (inl h) = absurd h
turned_one q [] ws (inr h) = h
turned_one q (c ∷ cs) ws h = subst (IsOneOf q) (sym (turned_over cs c ws)) (turned_one q cs (c ∷ ws) (moved h))
  where
    moved : IsOneOf q (c ∷ cs) ⊎ IsOneOf q ws → IsOneOf q cs ⊎ IsOneOf q (c ∷ ws)
    moved (inl (inl e)) = inr (inl e)
    moved (inl (inr h)) = inl h
    moved (inr h) = inr (inr h)

no_slot : (id : List ℕ) (bits slot : ℕ) → 16 ≤ slot → slot ≤ slot_of id bits → ⊥
no_slot id bits slot last least = omega (arith, last, least)

pub all_done : (found : List (List ℕ)) (path : List ℕ) (slot : ℕ) (cs ws : List (List ℕ)) (t : T5State) → 16 ≤ slot → reverse cs ++ ws ≡ [] → Sought found path slot cs ws t → IsOneOf t.id found
all_done found path slot cs ws t last none (done o) = o
all_done found path slot cs ws t last none (waits q o begins) = absurd (subst (IsOneOf q) none (turned_one q cs ws o))
all_done found path slot cs ws t last none (here loud begins least at) = absurd (no_slot t.id (4 * length path) slot last least)

pub next_sought : (found : List (List ℕ)) (path : List ℕ) (slot : ℕ) (cs ws : List (List ℕ)) (t : T5State) (p : List ℕ) (rest : List (List ℕ)) → 16 ≤ slot → (t.quiet ≡ true → IsOneOf t.id found)
    → reverse cs ++ ws ≡ p ∷ rest → Sought found path slot cs ws t → Sought found p 0 [] rest t
next_sought found path slot cs ws t p rest last quiet all (done o) = done o
next_sought found path slot cs ws t p rest last quiet all (here loud begins least at) = absurd (no_slot t.id (4 * length path) slot last least)
next_sought found path slot cs ws t p rest last quiet all (waits q o begins) = by_one (subst (IsOneOf q) all (turned_one q cs ws o))
  where
    by_quiet : (v : Bool) → t.quiet ≡ v → BeginsWith p t.id → Sought found p 0 [] rest t
    by_quiet true e b = done (quiet e)
    by_quiet false e b = here e b (omega arith) (λ c k. absurd (omega (arith, k)))

    by_one : IsOneOf q (p ∷ rest) → Sought found p 0 [] rest t
    by_one (inl e) = by_quiet t.quiet refl (subst (λ x. BeginsWith x t.id) (sym e) begins)
    by_one (inr h) = waits q (inr h) begins

-- where a pass begins each tag that isn't quiet is still to be asked for
pub first_sought : (found : List (List ℕ)) (t : T5State) → (t.quiet ≡ true → IsOneOf t.id found) → Sought found [] 0 [] [] t
first_sought found t quiet = by_quiet t.quiet refl
  where
    by_quiet : (v : Bool) → t.quiet ≡ v → Sought found [] 0 [] [] t
    by_quiet true e = done (quiet e)
    by_quiet false e = here e (sym (take_none (slots_of t.id))) (omega arith) (λ c k. absurd (omega (arith, k)))
