-- What is known of an area before a message is planned.
use Rattle.std.proofs.Common.{◌≡◌, ℕ, ◌*◌, ◌<◌, ◌≤◌, Bool, true, false, List, ◌++◌, length, take, drop, refl, sym, ◌∙◌, ap, subst}
use Rattle.std.proofs.lemmas.List.{take-append-drop}
use Rattle.tlv_area.specs.declared.space.AreaMap.{AreaMap}
use Rattle.tlv_area.specs.declared.step.Plan.{Plan}
use Rattle.tlv_area.specs.Map.{IsMap}
use Rattle.tlv_area.specs.Tail.{message_tail, map_room, capacity_of}
use Rattle.tlv_area.specs.Writing.{GivesPlan, KeepsPlan, KeepsKinds}
use Rattle.tag_reader.specs.declared.how.How.{How}
use Rattle.tag_reader.specs.declared.how.How.TheVariants.{T2, T4, T5}
use Rattle.tag_reader.specs.Kinds.{IsStore}
use Rattle.tag_reader.specs.Access.{IsAccess}
use Rattle.tag_reader.specs.Survey.{IsKnownArea}
use Rattle.tag_reader.proofs.Accesses.{written_access}
use Rattle.tag_writer.specs.declared.work.Work.TheVariants.{Blocks}
use Rattle.tag_writer.specs.Place.{Place, IsAreaPlace, IsPlaceBy, IsPlaceIn, tail_place}
use Rattle.tag_writer.specs.Outcome.{IsReadOnly, IsTooLong}
use Rattle.tag_writer.specs.Planning.{IsPlannedFor}
use Rattle.tag_writer.proofs.AreaJobs.{IsPlanned, job, serves, room_is}

pub record HasBlock (block end : ℕ) : Type 0 where
  pub some : 0 < block
  pub small : block ≤ 32
  pub end' : end ≤ 65536 * block

joined : (known store : List ℕ) → known ≡ take (length known) store → known ++ drop (length known) store ≡ store
joined known store e = ap (λ xs. xs ++ drop (length known) store) e ∙ take-append-drop (length known) store

pub planned : (how : How) (size : ℕ) (store known message : List ℕ) (block : ℕ) (m : AreaMap) (plan : Plan) → IsStore how size store → IsKnownArea how size store known block m
    → m.space.writable ≡ true →
    length message ≤ capacity_of (map_room m) → ((more : List ℕ) → GivesPlan block m (known ++ more) message plan × KeepsPlan block m (known ++ more) message plan) →
    ((more : List ℕ) → KeepsKinds block m (known ++ more) message plan) → IsPlanned how size m store message plan
planned how size store known message block m plan is k free fits front form =
    let whole = joined known store k.front in
    let both = front (drop (length known) store) in
    let kinds = form (drop (length known) store) in
    let found = k.found in
    record {
      area = k.area;
      store' = is;
      ts = found.1;
      t = found.2;
      after = found.3;
      map' = found.4;
      gives = subst (λ b. GivesPlan b m store message plan) k.size' (subst (λ s. GivesPlan block m s message plan) whole both.0);
      keeps = subst (λ b. KeepsPlan b m store message plan) k.size' (subst (λ s. KeepsPlan block m s message plan) whole both.1);
      kinds = subst (λ b. KeepsKinds b m store message plan) k.size' (subst (λ s. KeepsKinds block m s message plan) whole kinds);
      writable = free;
      fits = fits;
    }

pub planned_for : (how : How) (size : ℕ) (store message : List ℕ) (m : AreaMap) (plan : Plan) → IsPlanned how size m store message plan → IsPlannedFor how size store message (Blocks how plan)
planned_for how size store message m plan is = record {
  job = job how size m store message plan is;
  serves = serves how size m store message plan is;
  work' = record { how' = refl; parts = refl };
  kind = refl;
  sized = refl;
  stored = refl;
  new = refl;
}

-- the place of a message
pub record HasPlace (how : How) (size : ℕ) (store message : List ℕ) (room : ℕ) : Type 0 where
  pub place : Place
  pub there : IsPlaceIn how size store message place
  pub room' : room ≡ place.room

place_by : (how : How) (size : ℕ) (store message known : List ℕ) (block : ℕ) (m : AreaMap) → (k : IsKnownArea how size store known block m)
    → (place : Place) × IsAreaPlace m.space store message place × (capacity_of (map_room m) ≡ place.room)
place_by how size store message known block m k =
    let found = k.found in
    let is : IsMap store m found.1 found.2 found.3 = found.4 in
    let tail : List ℕ = message_tail found.2.at found.3 in (
      tail_place tail message,
      record { ts = found.1; t = found.2; after = found.3; layout = is.layout; lies = is.lies; kind = is.message; place' = refl },
      ap capacity_of (room_is m store found.1 found.2 found.3 is),
    )

pub has_place : (how : How) (size : ℕ) (store message known : List ℕ) (block : ℕ) (m : AreaMap) → IsKnownArea how size store known block m → HasPlace how size store message (capacity_of (map_room m))
has_place T2 size store message known block m k =
    let h = place_by T2 size store message known block m k in
    record { place = h.0; there = subst (λ r. IsPlaceBy r store message h.0) (sym k.area) h.1; room' = h.2 }
has_place T4 size store message known block m k = absurd (let off = k.area in cc)
has_place (T5 id) size store message known block m k =
    let h = place_by (T5 id) size store message known block m k in
    record { place = h.0; there = subst (λ r. IsPlaceBy r store message h.0) (sym k.area) h.1; room' = h.2 }

pub has_access : (how : How) (size : ℕ) (store known : List ℕ) (block : ℕ) (m : AreaMap) (free : Bool) → IsKnownArea how size store known block m → m.space.writable ≡ free
    → IsAccess how size store free
has_access how size store known block m free k e = subst (IsAccess how size store) e (written_access how size store m.space k.area)

pub read_only : (how : How) (size : ℕ) (store message known : List ℕ) (block : ℕ) (m : AreaMap) → IsKnownArea how size store known block m → m.space.writable ≡ false
    → IsReadOnly how size store message
read_only how size store message known block m k e =
    let h = has_place how size store message known block m k in
    ((h.place, h.there), has_access how size store known block m false k e)

pub too_long : (how : How) (size : ℕ) (store message known : List ℕ) (block : ℕ) (m : AreaMap) (n : ℕ) → IsKnownArea how size store known block m → m.space.writable ≡ true
    → n ≡ capacity_of (map_room m) → n < length message → IsTooLong how size store message n
too_long how size store message known block m n k e same long =
    let h = has_place how size store message known block m k in
    (h.place, h.there, has_access how size store known block m true k e, same ∙ h.room', long)
