-- The job of a message in a file.
use Rattle.std.proofs.Common.{◌≡◌, ℕ, ◌+◌, ◌-◌, ◌*◌, ◌<◌, ◌≤◌, ◌==◌, min, nat_lt, Bool, true, false, if◌then◌else◌, List, [], ◌∷◌, ◌++◌, length, take, drop, refl, sym, ◌∙◌, ap, arith}
use Rattle.std.specs.Prelude.{Ok}
use Rattle.std.specs.Int.{div_ceil}
use Rattle.std.specs.List.{AllByRecursion, range_with_len}
use Rattle.std.proofs.Math.Seq.{take-append_seam, drop-append_seam}
use Rattle.std.proofs.lemmas.List.{length-append, length-take, length-drop}
use Rattle.nfc_base.proofs.Leading.{all_map}
use Rattle.t4t_tag.specs.Store.{write_access, everyone}
use Rattle.t4t_tag.specs.Spelling.{high_first}
use Rattle.t4t_tag.proofs.Commands.{two_bytes}
use Rattle.tlv_area.specs.declared.container.FileMap.{FileMap}
use Rattle.tlv_area.specs.Containers.{t4_container}
use Rattle.tlv_area.specs.Form.{Form, Message, BadTlv}
use Rattle.tlv_area.specs.Layout.{bytes_at}
use Rattle.tlv_area.specs.Writing.{SameOutside}
use Rattle.tlv_area.proofs.Runs.{row_bytes}
use Rattle.tag_reader.specs.declared.how.How.TheVariants.{T4}
use Rattle.tag_reader.specs.Files.{container_end, container_in, file_in, IsFileStore, message_length, message_in, file_form, t4_form, NamesFile}
use Rattle.tag_reader.proofs.Files.{Named, named}
use Rattle.tag_writer.specs.declared.phase.Phase.TheVariants.{Prepared, Emptied, Filled}
use Rattle.tag_writer.specs.Puts.{Put, after_puts, update_put, most_brought, piece_of, file_puts}
use Rattle.tag_writer.specs.Place.{Place, file_place}
use Rattle.tag_writer.specs.WriteAsked.{all_puts}
use Rattle.tag_writer.specs.Law.{IsEmptied, IsWritten}
use Rattle.tag_writer.specs.Puttings.{IsUpdatePut}
use Rattle.tag_writer.specs.Counts.{IsHomePut}
use Rattle.tag_writer.specs.Phases.{WriteJob, Serves, file_parts}
use Rattle.tag_writer.proofs.Addresses.{LiesBetween, outside_puts, all_run}
use Rattle.tag_writer.proofs.AreaJobs.{all_take}
use Rattle.tag_writer.proofs.Counting.{home, file_few}
use Rattle.tag_writer.proofs.FileDoing.{IsJoinedBy, other_file}
use Rattle.tag_writer.proofs.Touching.{all_both}
use Rattle.tag_writer.proofs.Updates.{end_is, filled, closing, opened, piece_low}

-- What is known of a file that takes a message.
pub record IsRoomFor (store message : List ℕ) : Type 0 where
  pub store' : IsFileStore store
  pub map' : FileMap
  pub names : NamesFile store map'
  pub held : message_length (file_in store) ≤ map'.size - 2
  pub writable : map'.writable ≡ true
  pub fits : length message ≤ map'.size - 2
  pub pieces : 2 ≤ map'.mlc

-- a write of the message's updates: one that the tag can do, of the length's bytes and those of the message
pub record IsPiece (store message : List ℕ) (p : Put) : Type 0 where
  pub update : IsUpdatePut store p
  pub lies : LiesBetween (container_end store) (container_end store + (2 + length message)) (length store) p

module _ (store message : List ℕ) (is : IsRoomFor store message) where
  abbrev container : List ℕ
  container = container_in store

  abbrev file : List ℕ
  file = file_in store

  abbrev end : ℕ
  end = container_end store

  abbrev place : Place
  place = file_place store message

  facts : Named container is.map'
  facts = named container is.map' is.names

  sized : length file ≡ is.map'.size
  sized = is.store'.1.whole ∙ sym (ap (λ m. m.size) facts.file)

  whole : length store ≡ end + length file
  whole = omega (arith, length-drop end store)

  free : write_access container ≡ everyone
  free = let e = ap (λ m. m.writable) facts.file ∙ refl in grind (arith, is.writable, e)

  brought : 2 ≤ most_brought store
  brought = let e = ap (λ m. m.mlc) facts.file in omega (arith, is.pieces, e)

  one_piece : (offset : ℕ) (bytes : List ℕ) → 1 ≤ length bytes → length bytes ≤ most_brought store → offset + length bytes ≤ 2 + length message → IsPiece store message (update_put store offset bytes)
  one_piece offset bytes some most inside =
      let least = facts.least in
      let room : offset + length bytes ≤ length file = omega (arith, inside, is.fits, sized, least, is.store'.1.whole) in
      record {
        update = record { offset = offset; put = refl; free = free; low = omega (arith, room, sized, facts.high, some, is.store'.1.whole); some = some; most = most; within = room };
        lies = record { from' = omega arith; to' = omega (arith, inside); within = omega (arith, is.fits, sized, whole, least, is.store'.1.whole) };
      }

  close_ok : AllByRecursion (IsPiece store message) (file_puts Prepared store message)
  close_ok = by_length (message_length file == 0)
    where
      by_length : (v : Bool) → AllByRecursion (IsPiece store message) (if v then [] else update_put store 0 (0 ∷ 0 ∷ []) ∷ [])
      by_length true = tt
      by_length false = (one_piece 0 (0 ∷ 0 ∷ []) (omega arith) (omega (arith, brought)) (omega arith), tt)

  last_ok : AllByRecursion (IsPiece store message) (file_puts Filled store message)
  last_ok = by_length (length message == 0)
    where
      by_length : (v : Bool) → AllByRecursion (IsPiece store message) (if v then [] else update_put store 0 (high_first (length message)) ∷ [])
      by_length true = tt
      by_length false = (one_piece 0 (high_first (length message)) (omega arith) (omega (arith, brought)) (omega arith), tt)

  fill_ok : AllByRecursion (IsPiece store message) (file_puts Emptied store message)
  fill_ok = all_run (IsPiece store message) (piece_of (update_put store) message (most_brought store)) 0 (div_ceil (length message) (most_brought store)) each
    where
      each : (k : ℕ) → 0 ≤ k → k < 0 + div_ceil (length message) (most_brought store) → IsPiece store message (piece_of (update_put store) message (most_brought store) k)
      each k low high =
          let most : ℕ = most_brought store in
          let begins : most * k < length message = piece_low most (length message) k (omega (arith, brought)) (omega (arith, high)) in
          let long : length (take most (drop (most * k) message)) ≡ min most (length (drop (most * k) message)) = length-take most (drop (most * k) message) in
          let rest : length (drop (most * k) message) ≡ length message - most * k = length-drop (most * k) message in
          one_piece (2 + most * k) (take most (drop (most * k) message)) (omega (arith, begins, long, rest, brought)) (omega (arith, long)) (omega (arith, begins, long, rest))

  all_ok : AllByRecursion (IsPiece store message) (all_puts (file_parts store message))
  all_ok = all_both (IsPiece store message) (file_puts Prepared store message ++ file_puts Emptied store message) (file_puts Filled store message)
      (all_both (IsPiece store message) (file_puts Prepared store message) (file_puts Emptied store message) close_ok fill_ok) last_ok

  outside : (ps : List Put) → AllByRecursion (IsPiece store message) ps → SameOutside place.span store (after_puts store ps)
  outside ps all = outside_puts end (2 + length message) store ps
      (all_map (IsPiece store message) (LiesBetween end (end + (2 + length message)) (length store)) ps (λ p x. x.lies) all)

  -- a store with this container and another file
  there : (f s : List ℕ) → s ≡ container ++ f → length s ≡ length store → IsJoinedBy container f (container ++ f)
  there f s e long =
      let parts : length (container ++ f) ≡ length container + length f = length-append container f in
      other_file is.store'.0 store f is.store'.1 (omega (arith, ap length e, long, parts, end_is store, whole))

  form_of : (f s : List ℕ) → s ≡ container ++ f → length s ≡ length store → t4_form s ≡ file_form (Ok is.map') f
  form_of f s e long =
      let j = there f s e long in
      ap t4_form e ∙ ap (λ c. file_form (t4_container c) (file_in (container ++ f))) j.container' ∙ ap (λ x. file_form (t4_container container) x) j.file' ∙ ap (λ r. file_form r f) is.names

  not_past : (f : List ℕ) → message_length f ≤ is.map'.size - 2 → file_form (Ok is.map') f ≡ Message (message_in f)
  not_past f low = (let fits : nat_lt (is.map'.size - 2) (message_length f) ≡ false = grind (arith, low) in ap {B = Form} (λ (v : Bool). if v then BadTlv else Message (message_in f)) fits)

  emptied : (n : ℕ) → IsEmptied T4 0 place store (after_puts store (file_puts Prepared store message ++ take n (file_puts Emptied store message)))
  emptied n =
      let s : List ℕ = after_puts store (file_puts Prepared store message ++ take n (file_puts Emptied store message)) in
      let ok = all_both (IsPiece store message) (file_puts Prepared store message) (take n (file_puts Emptied store message)) close_ok
      (all_take (IsPiece store message) n (file_puts Emptied store message) fill_ok) in
      let same : SameOutside place.span store s = outside (file_puts Prepared store message ++ take n (file_puts Emptied store message)) ok in
      let known = closing store message (omega (arith, brought)) (omega (arith, sized, facts.least, is.store'.1.whole)) n in
      record {
        empty = sym (form_of (filled file message known.0) s known.1 same.size ∙ not_past (filled file message known.0) (omega arith));
        outside = same;
      }

  written : IsWritten T4 0 message place store (after_puts store (all_puts (file_parts store message)))
  written =
      let s : List ℕ = after_puts store (all_puts (file_parts store message)) in
      let same : SameOutside place.span store s = outside (all_puts (file_parts store message)) all_ok in
      let rest : List ℕ = drop (length message) (drop 2 file) in
      let f : List ℕ = high_first (length message) ++ (message ++ rest) in
      let known : s ≡ container ++ f = opened store message (omega (arith, brought)) (omega (arith, sized, facts.least, is.store'.1.whole)) in
      let counts : message_length f ≡ length message = two_bytes (length message) in
      let bytes : message_in f ≡ message = ap (λ n. take n (message ++ rest)) counts ∙ take-append_seam message rest in
      let row : bytes_at s (range_with_len end (2 + length message)) ≡ take (2 + length message) (drop end s) = row_bytes s end (2 + length message)
      (omega (arith, same.size, is.fits, sized, whole, facts.least, is.store'.1.whole)) in
      let behind : drop end s ≡ f = ap (drop end) known ∙ ap (λ n. drop n (container ++ f)) (sym (end_is store)) ∙ drop-append_seam container f in
      let front : List ℕ = high_first (length message) ++ message in
      let long : 2 + length message ≡ length front = omega arith in
      let first : take (2 + length message) f ≡ front = ap (λ n. take n f) long ∙ take-append_seam front rest in
      record {
        new = record { outside = same; inside = row ∙ ap (take (2 + length message)) behind ∙ first };
        holds = sym (form_of f s known same.size ∙ not_past f (omega (arith, counts, is.fits)) ∙ ap (λ m. Message m) bytes);
      }

few : (v : Bool) (p : Put) → length (if v then [] else p ∷ []) ≤ 1
few true p = omega arith
few false p = omega arith

abbrev pub file_job : ℕ → List ℕ → List ℕ → WriteJob
file_job size store message = record { how = T4; size = size; store = store; message = message; place = file_place store message; parts = file_parts store message }

pub file_serves : (size : ℕ) (store message : List ℕ) → IsRoomFor store message → Serves (file_job size store message)
file_serves size store message is = record {
  store' = is.store';
  takes = record {
    holds = record { map' = is.map'; names = is.names; held = is.held; place' = refl };
    free = (is.map', is.names, sym is.writable);
    fits = let e = ap (λ m. m.size) (facts store message is).file in omega (arith, is.fits, e);
    pieces = let e = ap (λ m. m.mlc) (facts store message is).file in omega (arith, is.pieces, e);
  };
  are = record { close = refl; fill = refl; last = refl };
  puts = all_map (IsPiece store message) (IsUpdatePut store) (all_puts (file_parts store message)) (λ p x. x.update) (all_ok store message is);
  empty = λ n. (let e = emptied store message is n in record { empty = e.empty; outside = e.outside });
  new = let w = written store message is in record { new = w.new; holds = w.holds };
  first = few (message_length (file_in store) == 0) (update_put store 0 (0 ∷ 0 ∷ []));
  last = few (length message == 0) (update_put store 0 (high_first (length message)));
  home = last_home (length message == 0);
  few = file_few store message (omega (arith, brought store message is)) size;
}
  where
    last_home : (v : Bool) → AllByRecursion (IsHomePut T4 size (file_place store message)) (if v then [] else update_put store 0 (high_first (length message)) ∷ [])
    last_home true = tt
    last_home false = (((let at : container_end store + 0 ≡ container_end store = omega arith in at ∙ sym (home store message (omega (arith, brought store message is)))), refl), tt)
