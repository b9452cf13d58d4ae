-- The store of a Type 4 tag while its file is updated: the container, then the length and the bytes behind it.
use Rattle.std.proofs.Common.{◌≡◌, inl, inr, ℕ, zero, suc, ◌+◌, ◌*◌, ◌<◌, ◌≤◌, ◌==◌, min, Bool, true, false, if◌then◌else◌, List, [], ◌∷◌, ◌++◌, length, take, drop, map, refl, sym, ◌∙◌, ap, arith}
use Rattle.std.specs.Int.{div_ceil}
use Rattle.std.specs.List.{range_with_len}
use Rattle.std.proofs.Math.Seq.{take-append_seam, drop-append-add, take-add}
use Rattle.std.proofs.Math.Nat.{mul-le-mul_right}
use Rattle.std.proofs.lemmas.Bool.{cases_lt}
use Rattle.std.proofs.lemmas.Grind.{div_ceil_times}
use Rattle.std.proofs.lemmas.List.{length-append, length-take-le, take_all, take-append-drop, drop-drop}
use Rattle.std.proofs.lemmas.List.FromFn.{take-map-range_with_len, map-range_with_len_more, length-map-range_with_len}
use Rattle.nfc_base.specs.Signal.{Signal}
use Rattle.t4t_tag.specs.declared.current.CurrentFile.TheVariants.{Ndef}
use Rattle.t4t_tag.specs.Spelling.{high_first}
use Rattle.t4t_tag.specs.Step.{overwritten}
use Rattle.t4t_tag.proofs.Stores.{writes_store}
use Rattle.tag_reader.specs.Files.{container_end, container_in, file_in, message_length}
use Rattle.tag_writer.specs.declared.phase.Phase.TheVariants.{Prepared, Emptied, Filled}
use Rattle.tag_writer.specs.Puts.{Put, put_into, after_puts, update_put, most_brought, piece_of, file_puts}
use Rattle.tag_writer.proofs.Places.{after_append}

-- the container's bytes are all before its end
pub end_is : (store : List ℕ) → length (container_in store) ≡ container_end store
end_is store = length-take-le (container_end store) store (omega arith)

-- an update inside the file
pub put_file : (container file : List ℕ) (at offset : ℕ) (bytes : List ℕ) (c : Signal) → at ≡ length container →
    put_into (container ++ file) (record { at = at + offset; bytes = bytes; command = c }) ≡ container ++ overwritten file offset bytes
put_file container file at offset bytes c is =
    ap (λ n. overwritten (container ++ file) (n + offset) bytes) is
    ∙ sym (writes_store (record { code = 0; container = container; file = file; selected = true; current = Ndef }) offset bytes)

-- an update that begins behind a front of the file
overwritten_seam : (front rest bytes : List ℕ) (n : ℕ) → n ≡ length front → overwritten (front ++ rest) n bytes ≡ (front ++ bytes) ++ drop (length bytes) rest
overwritten_seam front rest bytes n is =
    ap (λ k. take k (front ++ rest) ++ bytes ++ drop (k + length bytes) (front ++ rest)) is
    ∙ ap (λ xs. xs ++ bytes ++ drop (length front + length bytes) (front ++ rest)) (take-append_seam front rest)
    ∙ ap (λ xs. front ++ bytes ++ xs) (drop-append-add front rest (length bytes))

-- the file with the length 0 and the first so many bytes of a message behind it
abbrev pub filled : List ℕ → List ℕ → ℕ → List ℕ
filled file message n = 0 ∷ 0 ∷ (take n message ++ drop (length (take n message)) (drop 2 file))

fill_more : (file message : List ℕ) (n most : ℕ) → n ≤ length message → overwritten (filled file message n) (2 + n) (take most (drop n message)) ≡ filled file message (n + most)
fill_more file message n most low =
    let rest : List ℕ = drop 2 file in
    let piece : List ℕ = take most (drop n message) in
    let front : List ℕ = 0 ∷ 0 ∷ take n message in
    let here : length (take n message) ≡ n = length-take-le n message low in
    let whole : take (n + most) message ≡ take n message ++ piece = take-add n most message in
    let long : length (take (n + most) message) ≡ length (take n message) + length piece = ap length whole ∙ length-append (take n message) piece in
    let start : 2 + n ≡ length front = omega (arith, here) in
    overwritten_seam front (drop (length (take n message)) rest) piece (2 + n) start
    ∙ ap (λ xs. (front ++ piece) ++ xs) (drop-drop (length piece) (length (take n message)) rest)
    ∙ sym (ap (λ k. 0 ∷ 0 ∷ (take (n + most) message ++ drop k rest)) long ∙ ap (λ xs. 0 ∷ 0 ∷ (xs ++ drop (length (take n message) + length piece) rest)) whole)

-- a file of length 0
no_length : (file : List ℕ) → 2 ≤ length file → message_length file ≡ 0 → file ≡ 0 ∷ 0 ∷ drop 2 file
no_length [] long none = absurd (omega (arith, long))
no_length (a ∷ []) long none = absurd (omega (arith, long))
no_length (a ∷ b ∷ rest) long none =
    let high : a ≡ 0 = omega (arith, none) in
    let low : b ≡ 0 = omega (arith, none) in
    ap (λ x. x ∷ b ∷ rest) high ∙ ap (λ x. 0 ∷ x ∷ rest) low

-- each piece begins within the message
pub piece_low : (most n k : ℕ) → 1 ≤ most → k < div_ceil n most → most * k < n
piece_low most n k some low =
    let bounds = div_ceil_times n most some in
    let next : (k + 1) * most ≤ div_ceil n most * most = mul-le-mul_right most (omega (arith, low)) in
    omega (arith, bounds.1, next)

pub all_pieces : (most n : ℕ) → 1 ≤ most → n ≤ most * div_ceil n most
all_pieces most n some = omega (arith, (div_ceil_times n most some).0)

module _ (store message : List ℕ) (some : 1 ≤ most_brought store) (long : 2 ≤ length (file_in store)) where
  abbrev container : List ℕ
  container = container_in store

  abbrev file : List ℕ
  file = file_in store

  abbrev most : ℕ
  most = most_brought store

  abbrev pieces : ℕ
  pieces = div_ceil (length message) most

  joined : store ≡ container ++ file
  joined = sym (take-append-drop (container_end store) store)

  put_in : (f : List ℕ) (offset : ℕ) (bytes : List ℕ) → put_into (container ++ f) (update_put store offset bytes) ≡ container ++ overwritten f offset bytes
  put_in f offset bytes = put_file container f (container_end store) offset bytes (update_put store offset bytes).command (sym (end_is store))

  -- behind the first update
  pub closed : after_puts store (file_puts Prepared store message) ≡ container ++ filled file message 0
  closed = by_length (message_length file == 0) refl
    where
      by_length : (v : Bool) → (message_length file == 0) ≡ v → after_puts store (if v then [] else update_put store 0 (0 ∷ 0 ∷ []) ∷ []) ≡ container ++ filled file message 0
      by_length true e = joined ∙ ap (λ f. container ++ f) (no_length file long (grind (arith, e)))
      by_length false e = ap (λ s. put_into s (update_put store 0 (0 ∷ 0 ∷ []))) joined ∙ put_in file 0 (0 ∷ 0 ∷ [])

  -- behind the first k pieces
  fill_to : (k : ℕ) → k ≤ pieces → after_puts (container ++ filled file message 0) (map (piece_of (update_put store) message (most_brought store)) (range_with_len 0 k)) ≡ container
      ++ filled file message (most * k)
  fill_to zero low = (let none : most * 0 ≡ 0 = omega arith in ap (λ n. container ++ filled file message n) (sym none))
  fill_to (suc k) low =
      let before : List ℕ = container ++ filled file message 0 in
      let p : Put = piece_of (update_put store) message (most_brought store) k in
      let next : suc k ≡ k + 1 = omega arith in
      let inside : most * k < length message = piece_low most (length message) k some (omega (arith, low)) in
      let reach : most * k + most ≡ most * suc k = omega arith in
      ap (λ n. after_puts before (map (piece_of (update_put store) message (most_brought store)) (range_with_len 0 n))) next
      ∙ ap (after_puts before) (map-range_with_len_more (piece_of (update_put store) message (most_brought store)) 0 k k (omega arith))
      ∙ after_append before (map (piece_of (update_put store) message (most_brought store)) (range_with_len 0 k)) (p ∷ [])
      ∙ ap (λ s. put_into s p) (fill_to k (omega (arith, low)))
      ∙ put_in (filled file message (most * k)) (2 + most * k) (take most (drop (most * k) message))
      ∙ ap (λ f. container ++ f) (fill_more file message (most * k) most (omega (arith, inside)))
      ∙ ap (λ n. container ++ filled file message n) reach

  -- behind the first update and any number of pieces
  pub closing : (n : ℕ) → (m : ℕ) × (after_puts store (file_puts Prepared store message ++ take n (file_puts Emptied store message)) ≡ container ++ filled file message m)
  closing n = (
    most * min n pieces,
    after_append store (file_puts Prepared store message) (take n (file_puts Emptied store message)) ∙ ap (λ s. after_puts s (take n (file_puts Emptied store message))) closed
        ∙ ap (after_puts (container ++ filled file message 0)) some_first ∙ fill_to (min n pieces) (omega arith),
  )
    where
      all : List Put
      all = file_puts Emptied store message

      some_first : take n all ≡ map (piece_of (update_put store) message (most_brought store)) (range_with_len 0 (min n pieces))
      some_first = elim (cases_lt n pieces) [
        | inl low ↦
            (let least : min n pieces ≡ n = omega (arith, low) in
            take-map-range_with_len (piece_of (update_put store) message (most_brought store)) 0 pieces n (omega (arith, low))
            ∙ ap (λ k. map (piece_of (update_put store) message (most_brought store)) (range_with_len 0 k)) (sym least))
        | inr high ↦
            (let least : min n pieces ≡ pieces = omega (arith, high) in
            take_all n all (omega (arith, high, length-map-range_with_len (piece_of (update_put store) message (most_brought store)) 0 pieces))
            ∙ ap (λ k. map (piece_of (update_put store) message (most_brought store)) (range_with_len 0 k)) (sym least))
      ]

  -- the file with the message
  abbrev pub new_file : List ℕ
  new_file = high_first (length message) ++ (message ++ drop (length message) (drop 2 file))

  all_filled : filled file message (most * pieces) ≡ 0 ∷ 0 ∷ (message ++ drop (length message) (drop 2 file))
  all_filled = ap (λ xs. 0 ∷ 0 ∷ (xs ++ drop (length xs) (drop 2 file))) (take_all (most * pieces) message (all_pieces most (length message) some))

  before_last : after_puts store (file_puts Prepared store message ++ file_puts Emptied store message) ≡ container ++ (0 ∷ 0 ∷ (message ++ drop (length message) (drop 2 file)))
  before_last =
      after_append store (file_puts Prepared store message) (file_puts Emptied store message) ∙ ap (λ s. after_puts s (file_puts Emptied store message)) closed
      ∙ fill_to pieces (omega arith) ∙ ap (λ f. container ++ f) all_filled

  -- behind the last update
  pub opened : after_puts store ((file_puts Prepared store message ++ file_puts Emptied store message) ++ file_puts Filled store message) ≡ container ++ new_file
  opened = after_append store (file_puts Prepared store message ++ file_puts Emptied store message) (file_puts Filled store message)
      ∙ ap (λ s. after_puts s (file_puts Filled store message)) before_last ∙ by_length (length message == 0) refl
    where
      ready : List ℕ
      ready = 0 ∷ 0 ∷ (message ++ drop (length message) (drop 2 file))

      by_length : (v : Bool) → (length message == 0) ≡ v → after_puts (container ++ ready) (if v then [] else update_put store 0 (high_first (length message)) ∷ []) ≡ container ++ new_file
      by_length true e =
          let none : length message ≡ 0 = grind (arith, e) in
          ap (λ n. container ++ (high_first n ++ (message ++ drop (length message) (drop 2 file)))) (sym none)
      by_length false e = put_in ready 0 (high_first (length message))
