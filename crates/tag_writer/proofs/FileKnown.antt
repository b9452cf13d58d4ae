-- What is known of a file before a message is planned.
use Rattle.std.proofs.Common.{◌≡◌, ℕ, ◌-◌, ◌<◌, ◌≤◌, ◌==◌, min, nat_lt, not, true, List, length, refl, sym, ◌∙◌, ap, subst, arith}
use Rattle.tlv_area.specs.declared.container.FileMap.{FileMap}
use Rattle.tag_reader.specs.declared.how.How.{How}
use Rattle.tag_reader.specs.declared.how.How.TheVariants.{T2, T4, T5}
use Rattle.tag_reader.specs.Files.{container_in, IsFileStore}
use Rattle.tag_reader.specs.Kinds.{IsStore}
use Rattle.tag_reader.specs.Survey.{IsKnownFile}
use Rattle.tag_reader.proofs.Files.{Named, named}
use Rattle.tag_writer.specs.declared.work.Work.TheVariants.{File}
use Rattle.tag_writer.specs.Place.{IsFilePlace, file_place}
use Rattle.tag_writer.specs.Outcome.{IsTooLong, IsShort}
use Rattle.tag_writer.specs.Planning.{IsPlannedFor}
use Rattle.tag_writer.proofs.FileJobs.{IsRoomFor, file_job, file_serves}

-- the place of a message
pub file_there : (store message : List ℕ) (map' : FileMap) (n : ℕ) → IsKnownFile T4 store map' n → IsFilePlace store message (file_place store message)
file_there store message map' n k =
    record { map' = map'; names = k.names; held = (let e = k.counts in omega (arith, e, k.fits)); place' = refl }

room_is : (store message : List ℕ) (map' : FileMap) (n : ℕ) → IsKnownFile T4 store map' n → map'.size - 2 ≡ (file_place store message).room
room_is store message map' n k = ap (λ m. m.size - 2) (named (container_in store) map' k.names).file

pub file_too_long : (size : ℕ) (store message : List ℕ) (map' : FileMap) (n room : ℕ) → IsKnownFile T4 store map' n → map'.writable ≡ true → room ≡ map'.size - 2 → room < length message
    → IsTooLong T4 size store message room
file_too_long size store message map' n room k free is long =
    (file_place store message, file_there store message map' n k, (map', k.names, sym free), is ∙ room_is store message map' n k, long)

pub file_short : (size : ℕ) (store message : List ℕ) (map' : FileMap) (n : ℕ) → IsKnownFile T4 store map' n → map'.writable ≡ true → length message ≤ map'.size - 2 → map'.mlc < 2
    → IsShort T4 size store message
file_short size store message map' n k free fits short =
    let room = room_is store message map' n k in
    let brought = ap (λ m. m.mlc) (named (container_in store) map' k.names).file in
    (file_place store message, file_there store message map' n k, (map', k.names, sym free), omega (arith, fits, room), λ some. omega (arith, short, brought, some))

planned_file : (size : ℕ) (store message : List ℕ) (map' : FileMap) (n most : ℕ) → IsFileStore store → IsKnownFile T4 store map' n → map'.writable ≡ true → length message ≤ map'.size - 2
    → 2 ≤ map'.mlc →
    most ≡ min map'.mlc 255 → IsPlannedFor T4 size store message (File message most (nat_lt 0 n))
planned_file size store message map' n most is k free fits some brings =
    let facts : Named (container_in store) map' = named (container_in store) map' k.names in
    let room : IsRoomFor store message = record { store' = is; map' = map'; names = k.names; held = (let e = k.counts in omega (arith, e, k.fits)); writable = free; fits = fits; pieces = some } in
    record {
      job = file_job size store message;
      serves = file_serves size store message room;
      work' = record {
        how' = refl;
        parts = record {
          message' = refl;
          parts = refl;
          most' = brings ∙ ap (λ m. min m.mlc 255) facts.file;
          some = omega (arith, brings, some);
          close' = above n ∙ ap (λ m. not (m == 0)) k.counts;
        };
      };
      kind = refl;
      sized = refl;
      stored = refl;
      new = refl;
    }
  where
    above : (m : ℕ) → nat_lt 0 m ≡ not (m == 0)
    above m = grind arith

-- the message is copied
pub file_planned : (size : ℕ) (store message copy : List ℕ) (map' : FileMap) (n most : ℕ) → copy ≡ message → IsFileStore store → IsKnownFile T4 store map' n → map'.writable ≡ true
    → length message ≤ map'.size - 2 → 2 ≤ map'.mlc →
    most ≡ min map'.mlc 255 → IsPlannedFor T4 size store message (File copy most (nat_lt 0 n))
file_planned size store message copy map' n most same is k free fits some brings =
    subst (λ xs. IsPlannedFor T4 size store message (File xs most (nat_lt 0 n))) (sym same) (planned_file size store message map' n most is k free fits some brings)

-- what holds of a Type 4 tag whose file is known holds of a tag of any kind whose file is known
pub for_file : (P : How → Type 0) (how : How) (size : ℕ) (store : List ℕ) (map' : FileMap) (n : ℕ) → IsStore how size store → IsKnownFile how store map' n →
    (IsStore T4 size store → IsKnownFile T4 store map' n → P T4) → P how
for_file P T2 size store map' n is k f = absurd k.names
for_file P T4 size store map' n is k f = f is k
for_file P (T5 id) size store map' n is k f = absurd k.names
