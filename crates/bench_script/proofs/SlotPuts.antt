-- A word spells one put of a client.
use Rattle.std.proofs.Common.{◌≡◌, ◌⊎◌, inl, inr, ℕ, ◌<◌, ◌≤◌, ◌^◌, ◌++◌, List, ◌∷◌, length, true, false, sym, ◌∙◌, ap, subst, arith}
use Rattle.std.specs.Fmt.{decimal}
use Rattle.std.proofs.lemmas.Fmt.{decimal_injective}
use Rattle.bench_script.specs.declared.command.SlotPut.{SlotPut}
use Rattle.bench_script.specs.declared.message.Msg.{Msg}
use Rattle.bench_script.specs.Script.{SpellsMsg, SpellsWithin, SpellsSlotPut, SpellRow, SpellPuts, least_slot, most_slot, least_puts, most_puts}
use Rattle.bench_script.specs.Slots.{have_own_slots}
use Rattle.bench_script.proofs.Rows.{each_one}
use Rattle.bench_script.specs.private.Words.{HasNoColon}
use Rattle.bench_script.proofs.Messages.{one_cut, colon_after, digits_without, message_one}

-- no digit of the slot's number is a colon
slot_small : (word : List ℕ) (put : SlotPut) → (s : SpellsSlotPut word put) → put.slot < 2 ^ 32
slot_small word put s = (let few : put.slot ≤ 7 = s.number.2 in omega (arith, few))

slot_without : (word : List ℕ) (put : SlotPut) → (s : SpellsSlotPut word put) → HasNoColon s.slot
slot_without word put s = subst HasNoColon (sym s.number.0) (digits_without put.slot (slot_small word put s))

-- what stands before and behind the first colon are its parts
parts_are : (word : List ℕ) (put : SlotPut) (a b : List ℕ) → (s : SpellsSlotPut word put) → word ≡ a ++ 58 ∷ b → HasNoColon a → (s.slot ≡ a) × (s.message ≡ b)
parts_are word put a b s is none = one_cut s.slot s.message a b (sym s.is ∙ is) (slot_without word put s) none

pub slot_put_one : (word : List ℕ) (p q : SlotPut) → SpellsSlotPut word p → SpellsSlotPut word q → p ≡ q
slot_put_one word p q s t =
    let parts = parts_are word p t.slot t.message s t.is (slot_without word q t) in
    let numbers : decimal p.slot ≡ decimal q.slot = sym s.number.0 ∙ parts.0 ∙ t.number.0 in
    let slots : p.slot ≡ q.slot = decimal_injective p.slot q.slot (let small = slot_small word p s in omega (arith, small)) (let small = slot_small word q t in omega (arith, small)) numbers in
    let messages : p.message ≡ q.message = message_one t.message p.message q.message (let P : List ℕ → Type 0 = λ w. SpellsMsg w p.message in subst P parts.1 s.text) t.text in
    ap (λ x. let r : SlotPut = record { slot = x; message = p.message } in r) slots ∙ ap (λ x. let r : SlotPut = record { slot = q.slot; message = x } in r) messages

-- A word with no colon spells none, nor one whose parts aren't a slot and a message.
pub uncut_refused : (word : List ℕ) → HasNoColon word → (p : SlotPut) → SpellsSlotPut word p → ⊥
uncut_refused word none p s = colon_after s.slot s.message (subst HasNoColon s.is none)

pub slot_refused : (word a b : List ℕ) → word ≡ a ++ 58 ∷ b → HasNoColon a → ((n : ℕ) → SpellsWithin least_slot most_slot a n → ⊥) → (p : SlotPut) → SpellsSlotPut word p → ⊥
slot_refused word a b is without none p s =
    let parts = parts_are word p a b s is without in
    none p.slot (let P : List ℕ → Type 0 = λ w. SpellsWithin least_slot most_slot w p.slot in subst P parts.0 s.number)

pub message_refused : (word a b : List ℕ) → word ≡ a ++ 58 ∷ b → HasNoColon a → ((m : Msg) → SpellsMsg b m → ⊥) → (p : SlotPut) → SpellsSlotPut word p → ⊥
message_refused word a b is without none p s =
    let parts = parts_are word p a b s is without in
    none p.message (let P : List ℕ → Type 0 = λ w. SpellsMsg w p.message in subst P parts.1 s.text)

-- Words that spell too few puts, or two of one client, are those of no line.
few_refused : (words : List (List ℕ)) (puts : List SlotPut) → SpellRow SpellsSlotPut 1 most_puts words puts → length puts < least_puts → (a : List SlotPut) → SpellPuts words a → ⊥
few_refused words puts p few a q =
    let same : a ≡ puts = each_one SpellsSlotPut slot_put_one words a puts q.row.each p.each in
    let some : least_puts ≤ length a = q.row.some in
    omega (arith, some, few, ap length same)

twice_refused : (words : List (List ℕ)) (puts : List SlotPut) → SpellRow SpellsSlotPut 1 most_puts words puts → have_own_slots puts ≡ false → (a : List SlotPut) → SpellPuts words a → ⊥
twice_refused words puts p twice a q =
    let same : a ≡ puts = each_one SpellsSlotPut slot_put_one words a puts q.row.each p.each in
    let clash : true ≡ false = sym q.own ∙ ap have_own_slots same ∙ twice in
    cc

pub puts_refused : (words : List (List ℕ)) (puts : List SlotPut) → SpellRow SpellsSlotPut 1 most_puts words puts → (length puts < least_puts) ⊎ (have_own_slots puts ≡ false)
    → (a : List SlotPut) → SpellPuts words a → ⊥
puts_refused words puts p (inl few) a q = few_refused words puts p few a q
puts_refused words puts p (inr twice) a q = twice_refused words puts p twice a q
