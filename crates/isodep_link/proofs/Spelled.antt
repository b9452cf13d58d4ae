-- What a block is written as spells a block, and each frame spells the block that is read from it.
use Rattle.std.proofs.Common.{◌≡◌, ℕ, ◌+◌, ◌-◌, ◌%◌, ◌<◌, ◌≤◌, ◌==◌, nat_lt, if◌then◌else◌, zero, suc, List, [], ◌∷◌, length, slice_index, Bool, true, false, Some, None, refl, sym, ◌∙◌, ap, subst}
use Rattle.std.proofs.Common.{arith}
use Rattle.nfc_base.specs.Signal.{Signal, signal, whole_a}
use Rattle.nfc_base.specs.declared.frame.Tech.{Tech}
use Rattle.nfc_base.specs.declared.frame.Tech.TheVariants.{A, V, F}
use Rattle.isodep_link.specs.declared.block.Block.{Block}
use Rattle.isodep_link.specs.declared.block.Block.TheVariants.{Info, Ack, Nak, Deselect, Extend}
use Rattle.isodep_link.specs.Blocks.{ReadsBlocks, SpellsOne, info_sort, chained_sort, ack_sort, nak_sort, deselect_byte, extend_byte, info_block, short_block, long_block, sort_block, block_of, pcb}
use Rattle.isodep_link.specs.Blocks.{block_frame, IsBlock, BlockSpelling, IsSpelled, spelled_block}

small : (n : ℕ) → n % 2 < 2
small n = omega arith

same_pcb : (sort n : ℕ) → pcb sort n ≡ pcb sort (n % 2)
same_pcb sort n = omega arith

-- The frame of a block spells a block, where it fits: a number counts modulo 2.
pub spelled_by : (b : Block) (f : Signal) → f ≡ block_frame b → length f.bytes ≤ 288 → IsSpelled f
spelled_by (Info true n c) f e h =
    let l : length f.bytes ≡ suc (length c.items) = ap (λ (g : Signal). length g.bytes) e in
    record {
      block = Info true (n % 2) c;
      spells = record { range = (small n, omega (arith, l, h)); frame = e ∙ ap (λ x. whole_a (x ∷ c.items)) (same_pcb 0x12 n) };
      fits = h;
    }
spelled_by (Info false n c) f e h =
    let l : length f.bytes ≡ suc (length c.items) = ap (λ (g : Signal). length g.bytes) e in
    record {
      block = Info false (n % 2) c;
      spells = record { range = (small n, omega (arith, l, h)); frame = e ∙ ap (λ x. whole_a (x ∷ c.items)) (same_pcb 0x02 n) };
      fits = h;
    }
spelled_by (Ack n) f e h =
    record { block = Ack (n % 2); spells = record { range = small n; frame = e ∙ ap (λ x. whole_a (x ∷ [])) (same_pcb 0xA2 n) }; fits = h }
spelled_by (Nak n) f e h =
    record { block = Nak (n % 2); spells = record { range = small n; frame = e ∙ ap (λ x. whole_a (x ∷ [])) (same_pcb 0xB2 n) }; fits = h }
spelled_by Deselect f e h = record { block = Deselect; spells = record { range = tt; frame = e }; fits = h }
spelled_by (Extend times) f e h = record { block = Extend times; spells = record { range = tt; frame = e }; fits = h }

held : (xs : List ℕ) → nat_lt 0 (suc (length xs)) ≡ true
held xs = grind arith

-- a block is read from the frame that it is written as
written_read : (b : Block) → IsBlock b → spelled_block (block_frame b) ≡ Some b
written_read (Info true zero c) r = ap (λ v. if v then Some (Info true 0 c) else None) (held c.items)
written_read (Info true (suc zero) c) r = ap (λ v. if v then Some (Info true 1 c) else None) (held c.items)
written_read (Info true (suc (suc n)) c) r = absurd (omega (arith, r.0))
written_read (Info false zero c) r = ap (λ v. if v then Some (Info false 0 c) else None) (held c.items)
written_read (Info false (suc zero) c) r = ap (λ v. if v then Some (Info false 1 c) else None) (held c.items)
written_read (Info false (suc (suc n)) c) r = absurd (omega (arith, r.0))
written_read (Ack zero) r = refl
written_read (Ack (suc zero)) r = refl
written_read (Ack (suc (suc n))) r = absurd (omega (arith, r))
written_read (Nak zero) r = refl
written_read (Nak (suc zero)) r = refl
written_read (Nak (suc (suc n))) r = absurd (omega (arith, r))
written_read Deselect r = refl
written_read (Extend times) r = refl

-- the block that a frame spells is read from it
pub reads_back : (b : Block) (f : Signal) → BlockSpelling b f → spelled_block f ≡ Some b
reads_back b f s = ap spelled_block s.frame ∙ written_read b s.range

-- no frame spells two blocks
pub one_block : SpellsOne
one_block a b f p q =
    let x : spelled_block f ≡ Some a = reads_back a f p in
    let y : spelled_block f ≡ Some b = reads_back b f q in
    cc

-- What is read from a frame spells it.
short_spells : (s n : ℕ) (ack nak deselect : Bool) → n < 2 → (s == ack_sort) ≡ ack → (s == nak_sort) ≡ nak → (s + n == deselect_byte) ≡ deselect
    → (b : Block) → (if ack then Some (Ack n) else (if nak then Some (Nak n) else (if deselect then Some Deselect else None))) ≡ Some b → BlockSpelling b (whole_a ((s + n) ∷ []))
short_spells s n true nak deselect h a k d b e =
    let P : Block → Type 0 = λ x. BlockSpelling x (whole_a ((s + n) ∷ [])) in
    let is : s ≡ ack_sort = grind arith in
    let p : s + n ≡ pcb ack_sort n = omega (arith, is, h) in
    subst P (let q : Ack n ≡ b = cc in q) (record { range = h; frame = ap (λ x. whole_a (x ∷ [])) p })
short_spells s n false true deselect h a k d b e =
    let P : Block → Type 0 = λ x. BlockSpelling x (whole_a ((s + n) ∷ [])) in
    let is : s ≡ nak_sort = grind arith in
    let p : s + n ≡ pcb nak_sort n = omega (arith, is, h) in
    subst P (let q : Nak n ≡ b = cc in q) (record { range = h; frame = ap (λ x. whole_a (x ∷ [])) p })
short_spells s n false false true h a k d b e =
    let P : Block → Type 0 = λ x. BlockSpelling x (whole_a ((s + n) ∷ [])) in
    let is : s + n ≡ deselect_byte = grind arith in
    subst P (let q : Deselect ≡ b = cc in q) (record { range = tt; frame = ap (λ x. whole_a (x ∷ [])) is })
short_spells s n false false false h a k d b e = cc

long_spells : (s n times : ℕ) (extend : Bool) → (s + n == extend_byte) ≡ extend → (b : Block) → (if extend then Some (Extend times) else None) ≡ Some b
    → BlockSpelling b (whole_a ((s + n) ∷ times ∷ []))
long_spells s n times true d b e =
    let P : Block → Type 0 = λ x. BlockSpelling x (whole_a ((s + n) ∷ times ∷ [])) in
    let is : s + n ≡ extend_byte = grind arith in
    subst P (let q : Extend times ≡ b = cc in q) (record { range = tt; frame = ap (λ x. whole_a (x ∷ times ∷ [])) is })
long_spells s n times false d b e = cc

two_spells : (s n : ℕ) (xs : List ℕ) (two : Bool) → (length ((s + n) ∷ xs) == 2) ≡ two
    → (b : Block) → (if two then long_block s n (slice_index ((s + n) ∷ xs) 1) else None) ≡ Some b → BlockSpelling b (whole_a ((s + n) ∷ xs))
two_spells s n [] true l b e = absurd cc
two_spells s n (x ∷ []) true l b e = long_spells s n x (s + n == extend_byte) refl b e
two_spells s n (x ∷ y ∷ xs) true l b e = absurd (let q : suc (suc (suc (length xs))) ≡ 2 = grind arith in omega (arith, q))
two_spells s n xs false l b e = cc

one_spells : (s n : ℕ) (xs : List ℕ) (one : Bool) → n < 2 → (length ((s + n) ∷ xs) == 1) ≡ one
    → (b : Block) → (if one then short_block s n else (if length ((s + n) ∷ xs) == 2 then long_block s n (slice_index ((s + n) ∷ xs) 1) else None)) ≡ Some b → BlockSpelling b (whole_a ((s + n) ∷ xs))
one_spells s n [] true h l b e = short_spells s n (s == ack_sort) (s == nak_sort) (s + n == deselect_byte) h refl refl refl b e
one_spells s n (x ∷ xs) true h l b e = absurd (let q : suc (suc (length xs)) ≡ 1 = grind arith in omega (arith, q))
one_spells s n xs false h l b e = two_spells s n xs (length ((s + n) ∷ xs) == 2) refl b e

sort_spells : (s n : ℕ) (xs : List ℕ) (info chained : Bool) → n < 2 → length xs ≤ 287 → (s == info_sort) ≡ info → (s == chained_sort) ≡ chained
    → (b : Block)
    → (if info then Some (info_block false n xs) else (if chained then Some (info_block true n xs)
    else (if length ((s + n) ∷ xs) == 1 then short_block s n else (if length ((s + n) ∷ xs) == 2 then long_block s n (slice_index ((s + n) ∷ xs) 1) else None)))) ≡ Some b
    → BlockSpelling b (whole_a ((s + n) ∷ xs))
sort_spells s n xs true chained h l i k b e =
    let P : Block → Type 0 = λ x. BlockSpelling x (whole_a ((s + n) ∷ xs)) in
    let is : s ≡ info_sort = grind arith in
    let p : s + n ≡ pcb info_sort n = omega (arith, is, h) in
    subst P (let q : info_block false n xs ≡ b = cc in q) (record { range = (h, l); frame = ap (λ x. whole_a (x ∷ xs)) p })
sort_spells s n xs false true h l i k b e =
    let P : Block → Type 0 = λ x. BlockSpelling x (whole_a ((s + n) ∷ xs)) in
    let is : s ≡ chained_sort = grind arith in
    let p : s + n ≡ pcb chained_sort n = omega (arith, is, h) in
    subst P (let q : info_block true n xs ≡ b = cc in q) (record { range = (h, l); frame = ap (λ x. whole_a (x ∷ xs)) p })
sort_spells s n xs false false h l i k b e = one_spells s n xs (length ((s + n) ∷ xs) == 1) h refl b e

parts : (x : ℕ) → x - x % 2 + x % 2 ≡ x
parts x = omega arith

-- the frame is one byte and others; the byte is a sort and a number
first_spells : (x : ℕ) (xs : List ℕ) → length xs ≤ 287 → (b : Block) → sort_block (x - x % 2) (x % 2) (x ∷ xs) ≡ Some b → BlockSpelling b (whole_a (x ∷ xs))
first_spells x xs l b e =
    let same : sort_block (x - x % 2) (x % 2) ((x - x % 2 + x % 2) ∷ xs) ≡ sort_block (x - x % 2) (x % 2) (x ∷ xs) = ap (λ y. sort_block (x - x % 2) (x % 2) (y ∷ xs)) (parts x) in
    subst (λ y. BlockSpelling b (whole_a (y ∷ xs))) (parts x) (sort_spells (x - x % 2) (x % 2) xs _ _ (small x) l refl refl b (same ∙ e))

bytes_spell : (bytes : List ℕ) → length bytes ≤ 288 → (b : Block) → block_of bytes ≡ Some b → BlockSpelling b (whole_a bytes)
bytes_spell [] l b e = cc
bytes_spell (x ∷ xs) l b e = first_spells x xs (omega (arith, l)) b (ap (λ v. if v then sort_block (x - x % 2) (x % 2) (x ∷ xs) else None) (sym (held xs)) ∙ e)

whole_spells : (bytes : List ℕ) (tail : ℕ) (whole : Bool) → (tail == 0) ≡ whole → length bytes ≤ 288 → (b : Block) → (if whole then block_of bytes else None) ≡ Some b
    → BlockSpelling b (signal A bytes tail)
whole_spells bytes tail true w l b e = subst (λ t. BlockSpelling b (signal A bytes t)) (let n : 0 ≡ tail = grind arith in n) (bytes_spell bytes l b e)
whole_spells bytes tail false w l b e = cc

frame_spells : (tech : Tech) (bytes : List ℕ) (tail : ℕ) → length bytes ≤ 288 → (b : Block) → spelled_block (signal tech bytes tail) ≡ Some b → BlockSpelling b (signal tech bytes tail)
frame_spells A bytes tail l b e = whole_spells bytes tail (tail == 0) refl l b e
frame_spells V bytes tail l b e = cc
frame_spells F bytes tail l b e = cc

-- What is read from a frame is exactly what it spells.
pub exact : ReadsBlocks
exact f l b = (frame_spells f.tech f.bytes f.tail l b, reads_back b f)
