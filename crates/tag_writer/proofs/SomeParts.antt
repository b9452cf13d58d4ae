-- A store that takes a message has writes of it, as the tag of such a store can do them.
use Rattle.std.proofs.Common.{◌≡◌, ℕ, ◌≤◌, true, false, Bool, List, [], ◌∷◌, ◌++◌, length, drop, refl, sym, ◌∙◌, ap, subst, arith}
use Rattle.std.specs.Prelude.{Result, Ok, Err, slice_index}
use Rattle.std.specs.List.{flat_map}
use Rattle.std.proofs.lemmas.List.{length-append, length-map, append_assoc}
use Rattle.std.proofs.Math.Nat.{min-le_right}
use Rattle.t2t_tag.specs.Store.{IsT2Store}
use Rattle.tlv_area.specs.declared.container.ContainerFault.{ContainerFault}
use Rattle.tlv_area.specs.declared.space.Space.{Space}
use Rattle.tlv_area.specs.Layout.{Tlv, free, reserved_by, spelling, after_kind, length_bytes}
use Rattle.tlv_area.specs.Stores.{cut, cut_by, t5_area}
use Rattle.tlv_area.specs.Tail.{message_tail}
use Rattle.tlv_area.specs.Writing.{IsNew, made}
use Rattle.tlv_area.proofs.OneForm.{nonempty}
use Rattle.tlv_area.proofs.SomePlan.{some_new, some_plan}
use Rattle.tag_reader.specs.declared.how.How.{How}
use Rattle.tag_reader.specs.declared.how.How.TheVariants.{T2, T4, T5}
use Rattle.tag_reader.specs.Survey.{block_size, written_area}
use Rattle.tag_reader.proofs.Areas.{t2_area}
use Rattle.tag_writer.specs.declared.phase.Phase.TheVariants.{Prepared, Emptied, Filled}
use Rattle.tag_writer.specs.Place.{Place, IsAreaPlace, IsPlaceBy, Takes}
use Rattle.tag_writer.specs.Puts.{block_puts, file_puts}
use Rattle.tag_writer.specs.WriteAsked.{Parts, AreAreaPuts, ArePuts}
use Rattle.tag_writer.proofs.OnePlace.{order_of}

-- The writes of a message in an area that the store has whole.
message_long : (t : Tlv) → t.kind ≡ 3 → 2 ≤ length (spelling t)
message_long t kind = subst (λ k. 2 ≤ length (k ∷ after_kind k t.long t.value)) (sym kind) (by_form t.long)
  where
    by_form : (long : Bool) → 2 ≤ length (3 ∷ (length_bytes long (length t.value) ++ t.value))
    by_form true = omega arith
    by_form false = omega arith

module _ (how : How) (size : ℕ) (space : Space) (store message : List ℕ) (place : Place) (is : IsAreaPlace space store message place) (fits : length message ≤ place.room)
    (within : space.end ≤ length store) where
  abbrev tail : List ℕ
  tail = message_tail is.t.at is.after

  abbrev before : List ℕ
  before = flat_map (λ u. u.at) is.ts

  abbrev Cells : List ℕ → Type 0
  Cells pre = pre ++ tail ≡ free (reserved_by space.control is.ts) space.start space.end

  cells : (pre : List ℕ) × Cells pre
  cells =
      let first = nonempty store is.t is.lies in
      let split : is.t.at ++ is.after ≡ first.0 ∷ (first.1 ++ is.after) = ap (λ xs. xs ++ is.after) first.2 in (
        before ++ first.0 ∷ [],
        append_assoc before (first.0 ∷ []) tail ∙ ap (λ xs. before ++ first.0 ∷ xs) (ap (drop 1) split) ∙ ap (λ xs. before ++ xs) (sym split) ∙ is.layout.addresses,
      )

  some : 1 ≤ length tail
  some =
      let first = nonempty store is.t is.lies in
      let behind : tail ≡ first.1 ++ is.after = ap (λ xs. drop 1 (xs ++ is.after)) first.2 in
      let spelled : length is.t.at ≡ length (spelling is.t) = sym (length-map is.t.at (λ a. slice_index store a)) ∙ ap length is.lies.bytes in
      omega (arith, spelled, message_long is.t is.kind, ap length first.2, ap length behind, length-append first.1 is.after)

  new : (xs : List ℕ) × IsNew tail store message xs
  new =
      some_new (reserved_by space.control is.ts) space.start space.end cells.0 tail store message (order_of space store message place is) within cells.1 some
      (subst (λ p. length message ≤ p.room) is.place' fits)

  area_parts : (p : Parts) × AreAreaPuts how size space store message p
  area_parts =
      let plan = some_plan (block_size how size) space.end tail store message new.0 in (
        record { close = block_puts how size (made plan.0.close); fill = block_puts how size plan.0.fill; last = block_puts how size (made plan.0.last) },
        record {
          ts = is.ts;
          t = is.t;
          after = is.after;
          layout = is.layout;
          lies = is.lies;
          kind = is.kind;
          new = new.0;
          is_new = new.1;
          plan = plan.0;
          is_plan = plan.1;
          close = refl;
          fill = refl;
          last = refl;
        },
      )

-- a store of blocks of a tag; of a Type 4 tag nothing is asked
abbrev pub IsBlocks : How → ℕ → List ℕ → Type 0
IsBlocks T2 size store = IsT2Store store
IsBlocks T4 size store = Unit {0}
IsBlocks (T5 id) size store = Unit {0}

two_parts : (size : ℕ) (store message : List ℕ) (place : Place) → IsT2Store store → (r : Result Space ContainerFault) → written_area T2 size store ≡ r → IsPlaceBy r store message place
    → length message ≤ place.room
    → (p : Parts) × ArePuts T2 size store message p
two_parts size store message place is (Err f) has there fits = absurd there
two_parts size store message place is (Ok space) has there fits =
    let parts = area_parts T2 size space store message place there fits (t2_area store space is has).within in
    (parts.0, (space, has, parts.1))

five_parts : (id : List ℕ) (size : ℕ) (store message : List ℕ) (place : Place) → (r : Result Space ContainerFault) → t5_area size store ≡ r → IsPlaceBy (cut_by r (length store)) store message place
    → length message ≤ place.room → (p : Parts) × ArePuts (T5 id) size store message p
five_parts id size store message place (Err f) has there fits = absurd there
five_parts id size store message place (Ok space) has there fits =
    let parts = area_parts (T5 id) size (cut space (length store)) store message place there fits (min-le_right space.end (length store)) in
    (parts.0, (cut space (length store), ap (λ r. cut_by r (length store)) has, parts.1))

pub some_parts : (how : How) (size : ℕ) (store message : List ℕ) → IsBlocks how size store → (place : Place) → Takes how size store message place → (p : Parts) × ArePuts how size store message p
some_parts T2 size store message is place takes = two_parts size store message place is (written_area T2 size store) refl takes.holds takes.fits
some_parts T4 size store message is place takes =
    (record { close = file_puts Prepared store message; fill = file_puts Emptied store message; last = file_puts Filled store message }, record { close = refl; fill = refl; last = refl })
some_parts (T5 id) size store message is place takes = five_parts id size store message place (t5_area size store) refl takes.holds takes.fits
