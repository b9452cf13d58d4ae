-- The writes of a message that a store takes are such as the tag can do.
use Rattle.std.proofs.Common.{◌≡◌, ℕ, ◌+◌, ◌-◌, ◌*◌, ◌/◌, ◌%◌, ◌<◌, ◌≤◌, inl, inr, ◌==◌, Bool, true, nat_lt, nat_le, List, [], ◌∷◌, ◌++◌, length, map, take, drop, take-append-drop, Option, Some, None}
use Rattle.std.proofs.Common.{refl, sym, ◌∙◌, ap, subst, arith}
use Rattle.std.specs.Prelude.{Result, Ok, Err}
use Rattle.std.specs.List.{AllByRecursion, list_all, flat_map}
use Rattle.std.proofs.lemmas.Bool.{cases_Bool, cases_lt, and_parts, ltb-true, leb-true}
use Rattle.std.proofs.lemmas.List.{length-set, map-append}
use Rattle.std.proofs.lemmas.List.Folds.{list_all-append}
use Rattle.std.proofs.lemmas.Nat.{div-add-mod'}
use Rattle.std.proofs.Math.Nat.{min-le_right, div-mul-le_self, mul-le-mul_right}
use Rattle.nfc_base.specs.Blocks.{block_of}
use Rattle.t4t_tag.specs.Store.{file_size}
use Rattle.t5t_tag.proofs.Stores.{size_of_block}
use Rattle.tlv_area.specs.declared.container.ContainerFault.{ContainerFault}
use Rattle.tlv_area.specs.declared.container.FileMap.{FileMap}
use Rattle.tlv_area.specs.declared.space.Space.{Space}
use Rattle.tlv_area.specs.declared.step.Step.{Step}
use Rattle.tlv_area.specs.Layout.{free, reserved_by}
use Rattle.tlv_area.specs.Stores.{cut, cut_by, t5_area}
use Rattle.tlv_area.specs.Tail.{message_tail, written, span}
use Rattle.tlv_area.specs.Writing.{is_in, IsStepTo, write_of, block_in, home, closed_block, fill_blocks, made, steps_of}
use Rattle.tlv_area.proofs.OneForm.{range_above}
use Rattle.tlv_area.proofs.Steps.{free_below}
use Rattle.tlv_area.proofs.Stepping.{block_of-size}
use Rattle.tag_reader.specs.declared.how.How.{How}
use Rattle.tag_reader.specs.declared.how.How.TheVariants.{T2, T4, T5}
use Rattle.tag_reader.specs.Files.{container_in, IsFileStore}
use Rattle.tag_reader.specs.Kinds.{IsStore}
use Rattle.tag_reader.specs.Survey.{block_size}
use Rattle.tag_reader.proofs.Areas.{t2_area}
use Rattle.tag_reader.proofs.Files.{Named, named}
use Rattle.tag_writer.specs.declared.phase.Phase.TheVariants.{Prepared, Emptied}
use Rattle.tag_writer.specs.Place.{Place, Takes, tail_place}
use Rattle.tag_writer.specs.Puts.{block_put, block_puts, file_puts}
use Rattle.tag_writer.specs.Puttings.{IsPutOf, IsBlockPut}
use Rattle.tag_writer.specs.Phases.{file_parts}
use Rattle.tag_writer.specs.WriteAsked.{Parts, all_puts, AreAreaPuts, AreFilePuts, ArePuts}
use Rattle.tag_writer.proofs.FileJobs.{IsRoomFor, file_serves}
use Rattle.tag_writer.proofs.Jobs.{all_front, all_rest}
use Rattle.tag_writer.proofs.OnePlace.{order_of}
use Rattle.tag_writer.proofs.Touching.{all_both, blocks_inside}

all_in : (q : ℕ → Bool) (xs : List ℕ) (a : ℕ) → list_all q xs ≡ true → is_in xs a ≡ true → q a ≡ true
all_in q [] a all here = absurd cc
all_in q (x ∷ xs) a all here =
    let parts = and_parts (q x) (list_all q xs) all in
    elim (cases_Bool (x == a)) [
      | inl e ↦ (let same : x ≡ a = grind (arith, e) in subst (λ n. q n ≡ true) same parts.0)
      | inr e ↦ (let rest : is_in xs a ≡ true = rw e at here in all_in q xs a parts.1 rest)
    ]

module _ (how : How) (size : ℕ) (space : Space) (store message : List ℕ) (p : Parts) (are : AreAreaPuts how size space store message p) where
  abbrev block : ℕ
  block = block_size how size

  abbrev tail : List ℕ
  tail = message_tail are.t.at are.after

  abbrev cells : List ℕ
  cells = free (reserved_by space.control are.ts) space.start space.end

  -- what holds of each free address of the area holds of those that the message takes
  parts_of : (q : ℕ → Bool) (xs ys : List ℕ) → list_all q (xs ++ ys) ≡ true → (list_all q xs ≡ true) × (list_all q ys ≡ true)
  parts_of q xs ys e = and_parts (list_all q xs) (list_all q ys) (sym (list_all-append q xs ys) ∙ e)

  cut_of : (q : ℕ → Bool) (n : ℕ) (xs : List ℕ) → list_all q xs ≡ true → (list_all q (take n xs) ≡ true) × (list_all q (drop n xs) ≡ true)
  cut_of q n xs e = parts_of q (take n xs) (drop n xs) (ap (list_all q) (take-append-drop n xs) ∙ e)

  in_cells : (q : ℕ → Bool) → list_all q cells ≡ true → (a : ℕ) → is_in (span tail message) a ≡ true → q a ≡ true
  in_cells q all a here =
      let whole : list_all q (flat_map (λ u. u.at) are.ts ++ (are.t.at ++ are.after)) ≡ true = ap (list_all q) are.layout.addresses ∙ all in
      let own = (parts_of q (flat_map (λ u. u.at) are.ts) (are.t.at ++ are.after) whole).1 in
      let behind = (cut_of q 1 (are.t.at ++ are.after) own).1 in
      all_in q (span tail message) a (cut_of q (length (written (length tail) message)) tail behind).0 here

  in_area : (a : ℕ) → is_in (span tail message) a ≡ true → (space.start ≤ a) × (a < space.end)
  in_area a here =
      let order : space.start ≤ space.end =
      order_of space store message (tail_place tail message) (record { ts = are.ts; t = are.t; after = are.after; layout = are.layout; lies = are.lies; kind = are.kind; place' = refl }) in (
        leb-true space.start a (in_cells (λ b. nat_le space.start b) (range_above (reserved_by space.control are.ts) space.start space.start (space.end - space.start) (omega arith)) a here),
        ltb-true a space.end (in_cells (λ b. nat_lt b space.end) (free_below (reserved_by space.control are.ts) space.start space.end space.end order (omega arith)) a here),
      )

  -- so each step writes a block whole, which the store has
  module _ (least : ℕ) (there : (a : ℕ) → space.start ≤ a → a < space.end → (least ≤ a / block) × (block * (a / block) + block ≤ length store)) where
    abbrev InStore : ℕ → Type 0
    InStore k = (least ≤ k) × (block * k + block ≤ length store)

    abbrev In : Step → Type 0
    In s = InStore s.block

    abbrev IsWhole : Step → Type 0
    IsWhole s = length s.content.items ≡ block

    rooms : AllByRecursion In (steps_of are.plan)
    rooms =
        blocks_inside block space.end store message are.new are.t are.after are.plan InStore are.lies are.kind are.is_plan
        (λ a here. (let low = in_area a here in there a low.0 low.1))

    long : (s : List ℕ) (k : ℕ) → length s ≡ length store → InStore k → length (block_of block s k) ≡ block
    long s k same room = (let within = room.1 in let turned : k * block ≡ block * k = omega arith in block_of-size block s k (omega (arith, same, within, turned)))

    one : (o : Option Step) (k : ℕ) (now content : List ℕ) → IsStepTo k now content o → (InStore k → length content ≡ block) → AllByRecursion In (made o) → AllByRecursion IsWhole (made o)
    one None k now content to whole room = tt
    one (Some s) k now content to whole room =
        (ap (λ (w : ℕ × List ℕ). length w.1) to.0 ∙ whole (subst InStore (ap (λ (w : ℕ × List ℕ). w.0) to.0) room.0), tt)

    filled : (ss : List Step) (ks : List ℕ) → map write_of ss ≡ map (λ k. block_in block are.new k) ks → AllByRecursion In ss → AllByRecursion IsWhole ss
    filled [] ks e room = tt
    filled (s ∷ ss) [] e room = absurd cc
    filled (s ∷ ss) (k ∷ ks) e room =
        let here : write_of s ≡ block_in block are.new k = cc in
        let later : map write_of ss ≡ map (λ k. block_in block are.new k) ks = cc in (
          ap (λ (w : ℕ × List ℕ). length w.1) here ∙ long are.new k are.is_new.outside.size (subst InStore (ap (λ (w : ℕ × List ℕ). w.0) here) room.0),
          filled ss ks later room.1,
        )

    wholes : AllByRecursion IsWhole (steps_of are.plan)
    wholes =
        let front = all_front In (made are.plan.close ++ are.plan.fill) (made are.plan.last) rooms in
        let closing : InStore (home block tail) → length (closed_block block tail store) ≡ block =
        λ room. length-set (block_of block store (home block tail)) _ _ ∙ long store (home block tail) refl room in
        all_both IsWhole (made are.plan.close ++ are.plan.fill) (made are.plan.last)
        (all_both IsWhole (made are.plan.close) are.plan.fill
        (one are.plan.close (home block tail) _ _ are.is_plan.close closing (all_front In (made are.plan.close) are.plan.fill front))
        (filled are.plan.fill (fill_blocks block space.end tail store message are.new) are.is_plan.fill (all_rest In (made are.plan.close) are.plan.fill front)))
        (one are.plan.last (home block tail) _ _ are.is_plan.last (λ room. long are.new (home block tail) are.is_new.outside.size room)
        (all_rest In (made are.plan.close ++ are.plan.fill) (made are.plan.last) rooms))

    puts : (ss : List Step) → AllByRecursion In ss → AllByRecursion IsWhole ss → AllByRecursion (IsBlockPut how size least store) (block_puts how size ss)
    puts [] room whole = tt
    puts (s ∷ ss) room whole = (record { step = s; put = refl; behind = room.0.0; content = whole.0; within = room.0.1 }, puts ss room.1 whole.1)

  -- the writes are the steps
  pub puts_are : all_puts p ≡ block_puts how size (steps_of are.plan)
  puts_are =
      ap (λ ps. (ps ++ p.fill) ++ p.last) are.close ∙ ap (λ ps. (block_puts how size (made are.plan.close) ++ ps) ++ p.last) are.fill
      ∙ ap (λ ps. (block_puts how size (made are.plan.close) ++ block_puts how size are.plan.fill) ++ ps) are.last
      ∙ ap (λ ps. ps ++ block_puts how size (made are.plan.last)) (sym (map-append (block_put how size) (made are.plan.close) are.plan.fill))
      ∙ sym (map-append (block_put how size) (made are.plan.close ++ are.plan.fill) (made are.plan.last))

  area_puts : (least : ℕ) → ((a : ℕ) → space.start ≤ a → a < space.end → (least ≤ a / block) × (block * (a / block) + block ≤ length store))
      → AllByRecursion (IsBlockPut how size least store) (all_puts p)
  area_puts least there = subst (AllByRecursion (IsBlockPut how size least store)) (sym puts_are) (puts least there (steps_of are.plan) (rooms least there) (wholes least there))

-- an address of a store of whole blocks lies in one that the store has
in_block : (size n a : ℕ) → 0 < size → n % size ≡ 0 → a < n → size * (a / size) + size ≤ n
in_block size n a some whole low =
    let k : ℕ = a / size in
    let q : ℕ = n / size in
    let parts : q * size ≡ n = omega (arith, div-add-mod' n size, whole) in
    let floor : k * size ≤ a = div-mul-le_self a size in
    let turned : size * k ≡ k * size = omega arith in
    let product : (k + 1) * size ≡ k * size + size = omega arith in
    elim (cases_lt k q) [
      | inl less ↦ (let next : k + 1 ≤ q = omega (arith, less) in omega (arith, mul-le-mul_right size next, product, turned, parts))
      | inr past ↦ absurd (omega (arith, mul-le-mul_right size past, floor, parts, low))
    ]

-- A Type 4 tag has room for a message that its store takes.
pub room_for : (size : ℕ) (store message : List ℕ) → IsFileStore store → (place : Place) → Takes T4 size store message place → IsRoomFor store message
room_for size store message is place takes =
    let map' : FileMap = takes.holds.map' in
    let facts : Named (container_in store) map' = named (container_in store) map' takes.holds.names in
    let sized : map'.size ≡ file_size (container_in store) = ap (λ (m : FileMap). m.size) facts.file in
    record {
      store' = is;
      map' = map';
      names = takes.holds.names;
      held = takes.holds.held;
      writable =
          (let both : Ok takes.free.0 ≡ Ok map' = sym takes.free.1 ∙ takes.holds.names in let same : takes.free.0 ≡ map' = cc in
          sym (takes.free.2 ∙ ap (λ (m : FileMap). m.writable) same));
      fits = (let at = ap (λ (x : Place). x.room) takes.holds.place' in let all = takes.fits in omega (arith, all, at, sized));
      pieces = (let e = ap (λ (m : FileMap). m.mlc) facts.file in let some = takes.pieces in omega (arith, some, e));
    }

pub file_parts_are : (store message : List ℕ) (p : Parts) → AreFilePuts store message p → all_puts p ≡ all_puts (file_parts store message)
file_parts_are store message p are =
    ap (λ ps. (ps ++ p.fill) ++ p.last) are.close ∙ ap (λ ps. (file_puts Prepared store message ++ ps) ++ p.last) are.fill
    ∙ ap (λ ps. (file_puts Prepared store message ++ file_puts Emptied store message) ++ ps) are.last

pub doable_puts : (how : How) (size : ℕ) (store message : List ℕ) (place : Place) (p : Parts) → IsStore how size store → Takes how size store message place → ArePuts how size store message p →
    AllByRecursion (IsPutOf how size store) (all_puts p)
doable_puts T2 size store message place p is takes are =
    let area = t2_area store are.0 is.1 are.1 in
    let whole = is.1.whole in
    area_puts T2 size are.0 store message p are.2 4 (λ a low high. (omega (arith, low, area.start), in_block 4 (length store) a (omega arith) whole (omega (arith, high, area.within))))
doable_puts T4 size store message place p is takes are =
    subst (AllByRecursion (IsPutOf T4 size store)) (sym (file_parts_are store message p are)) (file_serves size store message (room_for size store message is place takes)).puts
doable_puts (T5 id) size store message place p is takes are =
    let sized = size_of_block size is.sized in
    area_puts (T5 id) size are.0 store message p are.2 0
    (λ a low high. (omega arith, in_block size (length store) a (omega (arith, sized.2)) is.whole (omega (arith, high, cut_end (t5_area size store) (length store) are.0 are.1))))
  where
    cut_end : (r : Result Space ContainerFault) (end : ℕ) (space : Space) → cut_by r end ≡ Ok space → space.end ≤ end
    cut_end (Err f) end space e = absurd cc
    cut_end (Ok s) end space e = (let same : cut s end ≡ space = cc in let ends = ap (λ (x : Space). x.end) same in omega (arith, ends, min-le_right s.end end))
