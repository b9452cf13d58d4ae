-- What the steps of a tag give its reader, and what they leave.
use Rattle.std.proofs.Common.{◌≡◌, ◌≢◌, ℕ, ◌+◌, ◌*◌, ◌/◌, ◌%◌, List, [], ◌∷◌, ◌++◌, length, take, drop, Bool, true, false, not, nat_eq, nat_le, ◌==◌, ◌&&◌, if◌then◌else◌, Option, Some, None, refl}
use Rattle.std.proofs.Common.{sym, ◌∙◌, ap, arith}
use Rattle.std.specs.Cmp.Lexicographic.{pointwise}
use Rattle.std.proofs.lemmas.List.{length-append, length-reverse, reverse-reverse}
use Rattle.std.proofs.Math.Seq.{take-append_seam, drop-append_seam}
use Rattle.nfc_base.specs.declared.frame.Tech.TheVariants.{V}
use Rattle.nfc_base.specs.Signal.{Signal, whole_v}
use Rattle.nfc_base.specs.Blocks.{with_block, block_of}
use Rattle.t5t_tag.specs.declared.command.T5Command.TheVariants.{Read, Write, ReadMany, ReadWide, WriteWide}
use Rattle.t5t_tag.specs.declared.answer.T5Answer.{T5Answer}
use Rattle.t5t_tag.specs.declared.answer.T5Answer.TheVariants.{Present, Content, Error}
use Rattle.t5t_tag.specs.declared.round.Round.{Round}
use Rattle.t5t_tag.specs.Store.{T5State, IsT5Shape, id_size, block_count}
use Rattle.t5t_tag.specs.Mask.{low_first}
use Rattle.t5t_tag.specs.Spelling.{quiet_code, read_code, write_code, read_many_code, read_wide_code, write_wide_code, most_content, wide, head, command_frame, answer_frame}
use Rattle.t5t_tag.specs.Step.{T5Turn, silent, tells, refuses, not_supported, no_block, blocks_of, read_turn, read_many_turn, write_turn, wide_number, Writes, asked, asked_turn, obeyed, names}
use Rattle.t5t_tag.specs.Step.{addressed, out_of_round, t5_turn, sent, t5_answer, t5_after}
use Rattle.t5t_tag.proofs.Bytes.{equal_bytes, bytes_self}
use Rattle.t5t_tag.proofs.Stores.{length_with_block, still_store}
use Rattle.t5t_tag.proofs.Turns.{hushes, by_test, on_turn}

-- A tag keeps its identifier, and its store is still one that a tag may have.
pub stays_shape : (t : T5State) → IsT5Shape t → (f : Signal) → IsT5Shape (t5_after t f)
stays_shape t is = on_turn t (λ r. IsT5Shape r.after) (record {
  flagged = record {
    commands = record {
      error = λ code. same;
      read = λ block within. same;
      many = λ first more within few. same;
      written = λ block content within long. record {
        id = is.id;
        bytes = is.bytes;
        store = still_store t.size t.store (with_block t.size t.store block content) (length_with_block t.size t.store block content within long) is.store;
      };
    };
    none = same;
    hushed = same;
    present = same;
    begins = λ r. same;
  };
  unheard = is;
  moves = λ r. same;
})
  where
    same : {quiet : Bool} {round : Option Round} → IsT5Shape (record t { quiet = quiet; round = round })
    same = record { id = is.id; bytes = is.bytes; store = is.store }

-- what no frame changes of a tag
pub record IsSameTag (t u : T5State) : Type 0 where
  pub id : u.id ≡ t.id
  pub size : u.size ≡ t.size
  pub locked : u.locked ≡ t.locked
  pub length : length u.store ≡ length t.store

itself : {quiet : Bool} {round : Option Round} (t : T5State) → IsSameTag t (record t { quiet = quiet; round = round })
itself t = record { id = refl; size = refl; locked = refl; length = refl }

pub same_tag : (t : T5State) (f : Signal) → IsSameTag t (t5_after t f)
same_tag t = on_turn t (λ r. IsSameTag t r.after) (record {
  flagged = record {
    commands = record {
      error = λ code. itself t;
      read = λ block within. itself t;
      many = λ first more within few. itself t;
      written = λ block content within long. record { id = refl; size = refl; locked = refl; length = length_with_block t.size t.store block content within long };
    };
    none = itself t;
    hushed = itself t;
    present = itself t;
    begins = λ r. itself t;
  };
  unheard = itself t;
  moves = λ r. itself t;
})

-- What a frame leaves that writes nothing and quiets nobody. It may end a round.
pub record IsUntouched (t u : T5State) : Type 0 where
  pub id : u.id ≡ t.id
  pub size : u.size ≡ t.size
  pub store : u.store ≡ t.store
  pub locked : u.locked ≡ t.locked
  pub quiet : u.quiet ≡ t.quiet

untouched : {round : Option Round} (t : T5State) → IsUntouched t (record t { round = round })
untouched t = record { id = refl; size = refl; store = refl; locked = refl; quiet = refl }

tech_of : (a : T5Answer) → (answer_frame a).tech ≡ V
tech_of (Present id) = refl
tech_of (Content content) = refl
tech_of (Error code) = refl

tech_of_sent : (o : Option T5Answer) (g : Signal) → sent o ≡ Some g → g.tech ≡ V
tech_of_sent None g e = absurd cc
tech_of_sent (Some a) g e = ap (λ (s : Signal). s.tech) (let d : g ≡ answer_frame a = cc in d) ∙ tech_of a

-- a tag answers by NFC-V alone
pub answer_tech : (t : T5State) (f g : Signal) → t5_answer t f ≡ Some g → g.tech ≡ V
answer_tech t f g e = tech_of_sent (t5_turn t f).answer g e

-- What stands in front of a list of this length.
front_of : (low rest : List ℕ) → length low ≡ id_size → take id_size (low ++ rest) ≡ low
front_of low rest long = ap (λ n. take n (low ++ rest)) (sym long) ∙ take-append_seam low rest

behind_of : (low rest : List ℕ) → length low ≡ id_size → drop id_size (low ++ rest) ≡ rest
behind_of low rest long = ap (λ n. drop n (low ++ rest)) (sym long) ∙ drop-append_seam low rest

none_behind : (k : ℕ) → (8 + k == 8) ≡ (k == 0)
none_behind k = grind arith

-- a tag hears what is addressed to it, quiet or not
own_turn : (t : T5State) → length t.id ≡ id_size → (code : ℕ) (rest : List ℕ) → addressed t (code ∷ (low_first t.id ++ rest))
    ≡ (if (code == quiet_code) && (length rest == 0) then hushes t else obeyed t code rest)
own_turn t eight code rest =
    let low : List ℕ = low_first t.id in
    let long : length low ≡ id_size = length-reverse t.id ∙ eight in
    let named : names t (low ++ rest) ≡ true = ap (λ x. pointwise nat_eq x low) (front_of low rest long) ∙ bytes_self low in
    let sum : length (low ++ rest) ≡ 8 + length rest = length-append low rest ∙ ap (λ n. n + length rest) long in
    let ended : (length (low ++ rest) == id_size) ≡ (length rest == 0) = ap (λ n. n == 8) sum ∙ none_behind (length rest) in
    ap (λ v. if not v then silent t else if (code == quiet_code) && (length (low ++ rest) == id_size) then hushes t else obeyed t code (drop id_size (low ++ rest))) named
    ∙ ap (λ v. if (code == quiet_code) && v then hushes t else obeyed t code (drop id_size (low ++ rest))) ended
    ∙ ap (λ x. if (code == quiet_code) && (length rest == 0) then hushes t else obeyed t code x) (behind_of low rest long)

-- and ends its round at it
pub addressed_turn : (t : T5State) → IsT5Shape t → (code : ℕ) (rest : List ℕ)
    → t5_turn t (whole_v (head (Some t.id) code ++ rest)) ≡ (if (code == quiet_code) && (length rest == 0) then hushes (out_of_round t) else obeyed (out_of_round t) code rest)
addressed_turn t is code rest = own_turn (out_of_round t) is.id code rest

-- READ SINGLE BLOCK and WRITE SINGLE BLOCK that are addressed to the tag
pub read_turns : (t : T5State) → IsT5Shape t → (block : ℕ) → t5_turn t (command_frame (Read (Some t.id) block)) ≡ read_turn (out_of_round t) block
read_turns t is block = addressed_turn t is read_code (block ∷ [])

asked_write : (block : ℕ) (content : List ℕ) → asked write_code (block ∷ content) ≡ Writes block content
asked_write block [] = refl
asked_write block (byte ∷ content) = refl

pub write_turns : (t : T5State) → IsT5Shape t → (block : ℕ) (content : List ℕ) → t5_turn t (command_frame (Write (Some t.id) block (record { items = content })))
    ≡ write_turn (out_of_round t) block content
write_turns t is block content = addressed_turn t is write_code (block ∷ content) ∙ ap (asked_turn (out_of_round t)) (asked_write block content)

-- READ MULTIPLE BLOCKS, and both with a block number of two bytes
pub read_many_turns : (t : T5State) → IsT5Shape t → (first more : ℕ) → t5_turn t (command_frame (ReadMany (Some t.id) first more)) ≡ read_many_turn (out_of_round t) first more
read_many_turns t is first more = addressed_turn t is read_many_code (first ∷ more ∷ [])

number_of_wide : (block : ℕ) → wide_number (block % 256) (block / 256) ≡ block
number_of_wide block = omega arith

pub read_wide_turns : (t : T5State) → IsT5Shape t → (block : ℕ) → t5_turn t (command_frame (ReadWide (Some t.id) block)) ≡ read_turn (out_of_round t) block
read_wide_turns t is block = addressed_turn t is read_wide_code (wide block) ∙ ap (λ n. read_turn (out_of_round t) n) (number_of_wide block)

pub write_wide_turns : (t : T5State) → IsT5Shape t → (block : ℕ) (content : List ℕ) → t5_turn t (command_frame (WriteWide (Some t.id) block (record { items = content })))
    ≡ write_turn (out_of_round t) block content
write_wide_turns t is block content = addressed_turn t is write_wide_code (wide block ++ content) ∙ ap (λ n. write_turn (out_of_round t) n content) (number_of_wide block)

-- a read leaves the tag untouched
pub read_leaves : (t : T5State) (block : ℕ) → IsUntouched t (read_turn t block).after
read_leaves t block =
    by_test (λ r. IsUntouched t r.after) (nat_le (block_count t) block) (refuses t no_block) (tells t (Content (record { items = block_of t.size t.store block })))
    (λ h. untouched t)
    (λ h. untouched t)

pub read_many_leaves : (t : T5State) (first more : ℕ) → IsUntouched t (read_many_turn t first more).after
read_many_leaves t first more =
    let told : T5Turn = tells t (Content (record { items = blocks_of t.size t.store first (more + 1) })) in
    let large : Bool = not (nat_le (t.size * (more + 1)) most_content) in
    by_test (λ r. IsUntouched t r.after) (nat_le (block_count t) (first + more)) (refuses t no_block) (if large then refuses t not_supported else told)
    (λ h. untouched t)
    (λ h. by_test (λ r. IsUntouched t r.after) large (refuses t not_supported) told (λ k. untouched t) (λ k. untouched t))

unnamed : (t : T5State) (id : List ℕ) → length id ≡ id_size → id ≢ t.id → (code : ℕ) (rest : List ℕ) → addressed t (code ∷ (low_first id ++ rest)) ≡ silent t
unnamed t id size other code rest = by_names (names t (low_first id ++ rest)) refl
  where
    same_id : names t (low_first id ++ rest) ≡ true → id ≡ t.id
    same_id h =
        let long : length (low_first id) ≡ id_size = length-reverse id ∙ size in
        let low : low_first id ≡ low_first t.id = sym (front_of (low_first id) rest long) ∙ equal_bytes (take id_size (low_first id ++ rest)) (low_first t.id) h in
        sym (reverse-reverse id) ∙ ap low_first low ∙ reverse-reverse t.id

    by_names : (v : Bool) → names t (low_first id ++ rest) ≡ v
        → (if not v then silent t else if (code == quiet_code) && (length (low_first id ++ rest) == id_size) then hushes t else obeyed t code (drop id_size (low_first id ++ rest))) ≡ silent t
    by_names false h = refl
    by_names true h = absurd (other (same_id h))

-- To a frame for another identifier it is silent, and it keeps all but its round.
pub other_silent : (t : T5State) (id : List ℕ) → length id ≡ id_size → id ≢ t.id → (code : ℕ) (rest : List ℕ) → t5_turn t (whole_v (head (Some id) code ++ rest)) ≡ silent (out_of_round t)
other_silent t id size other code rest = unnamed (out_of_round t) id size other code rest
