-- What is read from a frame is exactly the command that it spells.
use Rattle.std.proofs.Common.{◌≡◌, ℕ, suc, ◌+◌, ◌*◌, ◌/◌, ◌%◌, ◌<◌, ◌≤◌, slice_index, List, [], ◌∷◌, ◌++◌, length, take, drop, Bool, true, false, nat_eq, nat_le, ◌==◌, ◌&&◌, if◌then◌else◌, Option}
use Rattle.std.proofs.Common.{Some, None, ◌↔◌, refl, sym, ◌∙◌, ap, subst, arith}
use Rattle.std.specs.Cmp.Lexicographic.{pointwise}
use Rattle.std.proofs.lemmas.List.{append-nil, get_or-drop, length-append, length-reverse, length-take-le, nil_from_length, reverse-reverse, take-append-drop}
use Rattle.std.proofs.Math.Seq.{take-append_seam, drop-append_seam}
use Rattle.nfc_base.specs.declared.frame.Tech.{Tech}
use Rattle.nfc_base.specs.declared.frame.Tech.TheVariants.{A, V, F}
use Rattle.nfc_base.specs.Signal.{Signal, signal, whole_v}
use Rattle.t5t_tag.specs.declared.command.T5Command.{T5Command}
use Rattle.t5t_tag.specs.declared.command.T5Command.TheVariants.{Inventory, Slots, NextSlot, Quiet, Read, Write, ReadMany, ReadWide, WriteWide}
use Rattle.t5t_tag.specs.Store.{id_size}
use Rattle.t5t_tag.specs.Mask.{low_first, most_bits, mask_size, kept}
use Rattle.t5t_tag.specs.Slots.{most_slot_bits}
use Rattle.t5t_tag.specs.Spelling.{addressed_flags, plain_flags, inventory_flags, slots_flags, inventory_code, quiet_code, read_code, write_code, read_many_code, read_wide_code, write_wide_code}
use Rattle.t5t_tag.specs.Spelling.{most_written, wide, head, IsAddress, IsMask, IsT5Command, command_frame, T5Spelling}
use Rattle.t5t_tag.specs.Reading.{filled, is_mask, read_quiet, read_write, read_write_wide, read_pair, read_command, read_addressed, read_inventory, read_slots, read_bits, command_of, spelled_command}
use Rattle.t5t_tag.specs.Step.{wide_number}
use Rattle.t5t_tag.proofs.Bytes.{equal_of, at_most, is_at_most, left_of, right_of, equal_bytes, bytes_self, same_number, by_if}
use Rattle.t5t_tag.proofs.Masks.{length_filled, kept_of_filled, take_filled, filled_take, length_front, kept_front}

told : (v c : T5Command) (f : Signal) → T5Spelling v f → Some v ≡ Some c → T5Spelling c f
told v c f is e =
    let P : T5Command → Type 0 = λ x. T5Spelling x f in
    subst P (let d : v ≡ c = cc in d) is

-- what is read is spelled, from the inside out
quiet_told : (id : Option (List ℕ)) (c : T5Command) → IsAddress id → read_quiet id ≡ Some c → T5Spelling c (whole_v (head id quiet_code ++ []))
quiet_told None c is e = cc
quiet_told (Some id) c is e =
    told (Quiet id) c (whole_v (head (Some id) quiet_code ++ [])) (record {
      range = is;
      frame = ap (λ t. whole_v (addressed_flags ∷ quiet_code ∷ t)) (append-nil (low_first id));
    }) e

write_told : (id : Option (List ℕ)) (block : ℕ) (rest : List ℕ) (c : T5Command) → IsAddress id → read_write id block rest ≡ Some c → T5Spelling c (whole_v (head id write_code ++ block ∷ rest))
write_told id block rest c is =
    by_if (nat_le (length rest) most_written) (Some (Write id block (record { items = rest }))) None c (T5Spelling c (whole_v (head id write_code ++ block ∷ rest)))
    (λ h e. told (Write id block (record { items = rest })) c (whole_v (head id write_code ++ block ∷ rest)) (record {
      range = (is, at_most (length rest) most_written h);
      frame = refl;
    }) e)
    (λ h e. cc)

write_wide_told : (id : Option (List ℕ)) (block : ℕ) (rest : List ℕ) (c : T5Command) → IsAddress id → read_write_wide id block rest ≡ Some c
    → T5Spelling c (whole_v (head id write_wide_code ++ (wide block ++ rest)))
write_wide_told id block rest c is =
    by_if (nat_le (length rest) most_written) (Some (WriteWide id block (record { items = rest }))) None c (T5Spelling c (whole_v (head id write_wide_code ++ (wide block ++ rest))))
    (λ h e. told (WriteWide id block (record { items = rest })) c (whole_v (head id write_wide_code ++ (wide block ++ rest))) (record {
      range = (is, at_most (length rest) most_written h);
      frame = refl;
    }) e)
    (λ h e. cc)

-- bytes
abbrev AreBytes : List ℕ → Type 0
AreBytes bytes = (i : ℕ) → slice_index bytes i < 256

-- two bytes are those of the number that they stand for
wide_of : (a b : ℕ) → a < 256 → wide (wide_number a b) ≡ a ∷ b ∷ []
wide_of a b small =
    let low : (b * 256 + a) % 256 ≡ a = omega (arith, small) in
    let high : (b * 256 + a) / 256 ≡ b = omega (arith, small) in
    ap (λ n. n ∷ (b * 256 + a) / 256 ∷ []) low ∙ ap (λ n. a ∷ n ∷ []) high

-- the same behind another name of the code
coded : (id : Option (List ℕ)) (code n : ℕ) (rest : List ℕ) (c : T5Command) → (code == n) ≡ true → T5Spelling c (whole_v (head id n ++ rest)) → T5Spelling c (whole_v (head id code ++ rest))
coded id code n rest c h is =
    let P : ℕ → Type 0 = λ m. T5Spelling c (whole_v (head id m ++ rest)) in
    subst P (sym (equal_of code n h)) is

pair_told : (id : Option (List ℕ)) (code a b : ℕ) (c : T5Command) → IsAddress id → a < 256 → read_pair id code a b ≡ Some c → T5Spelling c (whole_v (head id code ++ a ∷ b ∷ []))
pair_told id code a b c is small =
    let G : Type 0 = T5Spelling c (whole_v (head id code ++ a ∷ b ∷ [])) in
    by_if (code == read_many_code) (Some (ReadMany id a b)) (if code == read_wide_code then Some (ReadWide id (wide_number a b)) else None) c G
    (λ h e. coded id code read_many_code (a ∷ b ∷ []) c h (told (ReadMany id a b) c (whole_v (head id read_many_code ++ a ∷ b ∷ [])) (record { range = is; frame = refl }) e))
    (λ g. by_if (code == read_wide_code) (Some (ReadWide id (wide_number a b))) None c G
    (λ h e. coded id code read_wide_code (a ∷ b ∷ []) c h (told (ReadWide id (wide_number a b)) c (whole_v (head id read_wide_code ++ a ∷ b ∷ [])) (record {
      range = is;
      frame = ap (λ t. whole_v (head id read_wide_code ++ t)) (sym (wide_of a b small));
    }) e))
    (λ h e. cc))

command_told : (id : Option (List ℕ)) (code : ℕ) (rest : List ℕ) (c : T5Command) → IsAddress id → AreBytes rest → read_command id code rest ≡ Some c → T5Spelling c (whole_v (head id code ++ rest))
command_told id code [] c is small =
    by_if (code == quiet_code) (read_quiet id) None c (T5Spelling c (whole_v (head id code ++ [])))
    (λ h e. coded id code quiet_code [] c h (quiet_told id c is e))
    (λ h e. cc)
command_told id code (block ∷ []) c is small =
    by_if (code == read_code) (Some (Read id block)) (if code == write_code then read_write id block [] else None) c (T5Spelling c (whole_v (head id code ++ block ∷ [])))
    (λ h e. coded id code read_code (block ∷ []) c h (told (Read id block) c (whole_v (head id read_code ++ block ∷ [])) (record { range = is; frame = refl }) e))
    (λ g. by_if (code == write_code) (read_write id block []) None c (T5Spelling c (whole_v (head id code ++ block ∷ [])))
    (λ h e. coded id code write_code (block ∷ []) c h (write_told id block [] c is e))
    (λ h e. cc))
command_told id code (a ∷ b ∷ rest) c is small =
    let G : Type 0 = T5Spelling c (whole_v (head id code ++ a ∷ b ∷ rest)) in
    let pair : Option T5Command = if length rest == 0 then read_pair id code a b else None in
    let P : List ℕ → Type 0 = λ t. T5Spelling c (whole_v (head id code ++ t)) in
    by_if (code == write_code) (read_write id a (b ∷ rest)) (if code == write_wide_code then read_write_wide id (wide_number a b) rest else pair) c G
    (λ h e. coded id code write_code (a ∷ b ∷ rest) c h (write_told id a (b ∷ rest) c is e))
    (λ f. by_if (code == write_wide_code) (read_write_wide id (wide_number a b) rest) pair c G
    (λ h e. coded id code write_wide_code (a ∷ b ∷ rest) c h (
    let Q : List ℕ → Type 0 = λ t. T5Spelling c (whole_v (head id write_wide_code ++ (t ++ rest))) in
    subst Q (wide_of a b (small 0)) (write_wide_told id (wide_number a b) rest c is e)))
    (λ g. by_if (length rest == 0) (read_pair id code a b) None c G
    (λ h e. subst (λ t. P (a ∷ b ∷ t)) (sym (nil_from_length rest (equal_of (length rest) 0 h))) (pair_told id code a b c is (small 0) e))
    (λ h e. cc)))

addressed_told : (code : ℕ) (rest : List ℕ) (c : T5Command) → AreBytes rest → read_addressed code rest ≡ Some c → T5Spelling c (whole_v (addressed_flags ∷ code ∷ rest))
addressed_told code rest c small =
    by_if (nat_le id_size (length rest)) (read_command (Some (low_first (take id_size rest))) code (drop id_size rest)) None c (T5Spelling c (whole_v (addressed_flags ∷ code ∷ rest)))
    (λ h e.
    let id : List ℕ = low_first (take id_size rest) in
    let size : length id ≡ id_size = length-reverse (take id_size rest) ∙ length-take-le id_size rest (at_most id_size (length rest) h) in
    let whole : low_first id ++ drop id_size rest ≡ rest = ap (λ t. t ++ drop id_size rest) (reverse-reverse (take id_size rest)) ∙ take-append-drop id_size rest in
    let P : List ℕ → Type 0 = λ t. T5Spelling c (whole_v (addressed_flags ∷ code ∷ t)) in
    let behind : AreBytes (drop id_size rest) = λ i. subst (λ n. n < 256) (sym (get_or-drop id_size rest i 0)) (small (id_size + i)) in
    subst P whole (command_told (Some id) code (drop id_size rest) c size behind e))
    (λ h e. cc)

-- a mask that is read is in range, and its first bytes are those that were sent
pub record MaskTold (most bits : ℕ) (mask : List ℕ) : Type 0 where
  pub range : IsMask most bits (filled mask)
  pub front : take (mask_size bits) (filled mask) ≡ mask

mask_told : (most bits : ℕ) (mask : List ℕ) → most ≤ most_bits → is_mask most bits mask ≡ true → MaskTold most bits mask
mask_told most bits mask least h =
    let few : Bool = nat_le bits most in
    let long : Bool = length mask == mask_size bits in
    let same : Bool = pointwise nat_eq (kept bits mask) mask in
    let both : (few && long) ≡ true = left_of (few && long) same h in
    let bound : bits ≤ most = at_most bits most (left_of few long both) in
    let size : length mask ≡ mask_size bits = equal_of (length mask) (mask_size bits) (right_of few long both) in
    let clean : kept bits mask ≡ mask = equal_bytes (kept bits mask) mask (right_of (few && long) same h) in
    record {
      range = (bound, length_filled mask (omega (arith, bound, size, least)), kept_of_filled bits mask clean);
      front = take_filled (mask_size bits) mask size;
    }

inventory_told : (rest : List ℕ) (c : T5Command) → read_bits read_inventory rest ≡ Some c → T5Spelling c (whole_v (inventory_flags ∷ inventory_code ∷ rest))
inventory_told [] c e = cc
inventory_told (bits ∷ mask) c e =
    by_if (is_mask most_bits bits mask) (Some (Inventory bits (filled mask))) None c (T5Spelling c (whole_v (inventory_flags ∷ inventory_code ∷ bits ∷ mask)))
    (λ h e.
    let m : MaskTold most_bits bits mask = mask_told most_bits bits mask (omega arith) h in
    told (Inventory bits (filled mask)) c (whole_v (inventory_flags ∷ inventory_code ∷ bits ∷ mask)) (record {
      range = m.range;
      frame = ap (λ t. whole_v (inventory_flags ∷ inventory_code ∷ bits ∷ t)) (sym m.front);
    }) e)
    (λ h e. cc)
    e

slots_told : (rest : List ℕ) (c : T5Command) → read_bits read_slots rest ≡ Some c → T5Spelling c (whole_v (slots_flags ∷ inventory_code ∷ rest))
slots_told [] c e = cc
slots_told (bits ∷ mask) c e =
    by_if (is_mask most_slot_bits bits mask) (Some (Slots bits (filled mask))) None c (T5Spelling c (whole_v (slots_flags ∷ inventory_code ∷ bits ∷ mask)))
    (λ h e.
    let m : MaskTold most_slot_bits bits mask = mask_told most_slot_bits bits mask (omega arith) h in
    told (Slots bits (filled mask)) c (whole_v (slots_flags ∷ inventory_code ∷ bits ∷ mask)) (record {
      range = m.range;
      frame = ap (λ t. whole_v (slots_flags ∷ inventory_code ∷ bits ∷ t)) (sym m.front);
    }) e)
    (λ h e. cc)
    e

-- the same behind other names of the flags and the code
flagged : (flags n : ℕ) (rest : List ℕ) (c : T5Command) → (flags == n) ≡ true → T5Spelling c (whole_v (n ∷ rest)) → T5Spelling c (whole_v (flags ∷ rest))
flagged flags n rest c h is =
    let P : ℕ → Type 0 = λ m. T5Spelling c (whole_v (m ∷ rest)) in
    subst P (sym (equal_of flags n h)) is

second : (flags code n : ℕ) (rest : List ℕ) (c : T5Command) → (code == n) ≡ true → T5Spelling c (whole_v (flags ∷ n ∷ rest)) → T5Spelling c (whole_v (flags ∷ code ∷ rest))
second flags code n rest c h is =
    let P : ℕ → Type 0 = λ m. T5Spelling c (whole_v (flags ∷ m ∷ rest)) in
    subst P (sym (equal_of code n h)) is

headed : (flags n code : ℕ) (rest : List ℕ) (c : T5Command) → ((flags == n) && (code == inventory_code)) ≡ true → T5Spelling c (whole_v (n ∷ inventory_code ∷ rest))
    → T5Spelling c (whole_v (flags ∷ code ∷ rest))
headed flags n code rest c h is =
    flagged flags n (code ∷ rest) c (left_of (flags == n) (code == inventory_code) h) (second n code inventory_code rest c (right_of (flags == n) (code == inventory_code) h) is)

bytes_told : (bytes : List ℕ) (c : T5Command) → AreBytes bytes → command_of bytes ≡ Some c → T5Spelling c (whole_v bytes)
bytes_told [] c small e = told NextSlot c (whole_v []) (record { range = tt; frame = refl }) e
bytes_told (flags ∷ []) c small e = cc
bytes_told (flags ∷ code ∷ rest) c small e =
    let behind : AreBytes rest = λ i. small (suc (suc i)) in
    let G : Type 0 = T5Spelling c (whole_v (flags ∷ code ∷ rest)) in
    let fourth : Option T5Command = if (flags == slots_flags) && (code == inventory_code) then read_bits read_slots rest else None in
    let third : Option T5Command = if (flags == inventory_flags) && (code == inventory_code) then read_bits read_inventory rest else fourth in
    by_if (flags == addressed_flags) (read_addressed code rest) (if flags == plain_flags then read_command None code rest else third) c G
    (λ h e. flagged flags addressed_flags (code ∷ rest) c h (addressed_told code rest c behind e))
    (λ g. by_if (flags == plain_flags) (read_command None code rest) third c G
    (λ h e. flagged flags plain_flags (code ∷ rest) c h (command_told None code rest c tt behind e))
    (λ k. by_if ((flags == inventory_flags) && (code == inventory_code)) (read_bits read_inventory rest) fourth c G
    (λ h e. headed flags inventory_flags code rest c h (inventory_told rest c e))
    (λ l. by_if ((flags == slots_flags) && (code == inventory_code)) (read_bits read_slots rest) None c G
    (λ h e. headed flags slots_flags code rest c h (slots_told rest c e))
    (λ h e. cc))))
    e

whole_told : (bytes : List ℕ) (tail : ℕ) (v : Bool) → (tail == 0) ≡ v → (c : T5Command) → AreBytes bytes → (if v then command_of bytes else None) ≡ Some c → T5Spelling c (signal V bytes tail)
whole_told bytes tail true is c small e =
    let P : ℕ → Type 0 = λ t. T5Spelling c (signal V bytes t) in
    subst P (sym (equal_of tail 0 is)) (bytes_told bytes c small e)
whole_told bytes tail false is c small e = cc

frame_told : (tech : Tech) (bytes : List ℕ) (tail : ℕ) (c : T5Command) → AreBytes bytes → spelled_command (signal tech bytes tail) ≡ Some c → T5Spelling c (signal tech bytes tail)
frame_told A bytes tail c small e = cc
frame_told F bytes tail c small e = cc
frame_told V bytes tail c small e = whole_told bytes tail (tail == 0) refl c small e

-- what stands behind an identifier is read as it is without one
pub addressed_reads : (code : ℕ) (id rest : List ℕ) → length id ≡ id_size → read_addressed code (low_first id ++ rest) ≡ read_command (Some id) code rest
addressed_reads code id rest size =
    let low : List ℕ = low_first id in
    let long : length low ≡ id_size = length-reverse id ∙ size in
    let enough : nat_le id_size (length (low ++ rest)) ≡ true = is_at_most id_size (length (low ++ rest)) (omega (arith, long, length-append low rest)) in
    let front : take id_size (low ++ rest) ≡ low = ap (λ n. take n (low ++ rest)) (sym long) ∙ take-append_seam low rest in
    let back : drop id_size (low ++ rest) ≡ rest = ap (λ n. drop n (low ++ rest)) (sym long) ∙ drop-append_seam low rest in
    ap (λ v. if v then read_command (Some (low_first (take id_size (low ++ rest)))) code (drop id_size (low ++ rest)) else None) enough
    ∙ ap (λ t. read_command (Some (low_first t)) code (drop id_size (low ++ rest))) front
    ∙ ap (λ t. read_command (Some (low_first low)) code t) back
    ∙ ap (λ t. read_command (Some t) code rest) (reverse-reverse id)

headed_reads : (id : Option (List ℕ)) (code : ℕ) (rest : List ℕ) → IsAddress id → command_of (head id code ++ rest) ≡ read_command id code rest
headed_reads None code rest is = refl
headed_reads (Some id) code rest is = addressed_reads code id rest is

write_reads : (id : Option (List ℕ)) (block : ℕ) (items : List ℕ) → length items ≤ most_written → read_command id write_code (block ∷ items) ≡ Some (Write id block (record { items = items }))
write_reads id block [] few = refl
write_reads id block (b ∷ items) few =
    ap (λ v. if v then Some (Write id block (record { items = b ∷ items })) else None) (is_at_most (length (b ∷ items)) most_written few)

-- a mask in range is read from its first bytes
mask_reads : (most bits : ℕ) (mask : List ℕ) → most ≤ most_bits → IsMask most bits mask → is_mask most bits (take (mask_size bits) mask) ≡ true
mask_reads most bits mask least is =
    let n : ℕ = mask_size bits in
    let front : List ℕ = take n mask in
    let a : nat_le bits most ≡ true = is_at_most bits most is.0 in
    let b : (length front == n) ≡ true = ap (λ k. k == n) (length_front bits mask (omega (arith, is.0, least)) is.1) ∙ same_number n in
    let d : pointwise nat_eq (kept bits front) front ≡ true = ap (λ t. pointwise nat_eq t front) (kept_front n bits mask is.2) ∙ bytes_self front in
    ap (λ v. v && (length front == n) && pointwise nat_eq (kept bits front) front) a ∙ ap (λ v. v && pointwise nat_eq (kept bits front) front) b ∙ d

inventory_reads : (bits : ℕ) (mask : List ℕ) → IsMask most_bits bits mask → read_inventory bits (take (mask_size bits) mask) ≡ Some (Inventory bits mask)
inventory_reads bits mask is =
    ap (λ v. if v then Some (Inventory bits (filled (take (mask_size bits) mask))) else None) (mask_reads most_bits bits mask (omega arith) is)
    ∙ ap (λ t. Some (Inventory bits t)) (filled_take bits mask is.0 is.1 is.2)

slots_reads : (bits : ℕ) (mask : List ℕ) → IsMask most_slot_bits bits mask → read_slots bits (take (mask_size bits) mask) ≡ Some (Slots bits mask)
slots_reads bits mask is =
    ap (λ v. if v then Some (Slots bits (filled (take (mask_size bits) mask))) else None) (mask_reads most_slot_bits bits mask (omega arith) is)
    ∙ ap (λ t. Some (Slots bits t)) (filled_take bits mask (omega (arith, is.0)) is.1 is.2)

wide_back : (block : ℕ) → wide_number (block % 256) (block / 256) ≡ block
wide_back block = omega arith

write_wide_reads : (id : Option (List ℕ)) (block : ℕ) (items : List ℕ) → length items ≤ most_written
    → read_command id write_wide_code (wide block ++ items) ≡ Some (WriteWide id block (record { items = items }))
write_wide_reads id block items few =
    ap (λ n. read_write_wide id n items) (wide_back block)
    ∙ ap (λ v. if v then Some (WriteWide id block (record { items = items })) else None) (is_at_most (length items) most_written few)

-- a command is read from its frame
pub command_reads : (c : T5Command) → IsT5Command c → spelled_command (command_frame c) ≡ Some c
command_reads (Inventory bits mask) is = inventory_reads bits mask is
command_reads (Slots bits mask) is = slots_reads bits mask is
command_reads NextSlot is = refl
command_reads (Quiet id) is =
    ap (λ t. read_addressed quiet_code t) (sym (append-nil (low_first id))) ∙ addressed_reads quiet_code id [] is
command_reads (Read id block) is = headed_reads id read_code (block ∷ []) is
command_reads (Write id block content) is = headed_reads id write_code (block ∷ content.items) is.0 ∙ write_reads id block content.items is.1
command_reads (ReadMany id first more) is = headed_reads id read_many_code (first ∷ more ∷ []) is
command_reads (ReadWide id block) is = headed_reads id read_wide_code (wide block) is ∙ ap (λ n. Some (ReadWide id n)) (wide_back block)
command_reads (WriteWide id block content) is = headed_reads id write_wide_code (wide block ++ content.items) is.0 ∙ write_wide_reads id block content.items is.1

-- what is read from a frame is exactly what it spells
pub exact_command : (f : Signal) (o : Option T5Command) → AreBytes f.bytes → o ≡ spelled_command f → (c : T5Command) → (o ≡ Some c) ↔ T5Spelling c f
exact_command f o small is c = (
  (λ e. frame_told f.tech f.bytes f.tail c small (sym is ∙ e)),
  (λ s. is ∙ ap spelled_command s.frame ∙ command_reads c s.range),
)
