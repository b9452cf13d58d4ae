-- The blocks that a write makes, and the stores that it makes of them.
use Rattle.std.proofs.Common.{◌≡◌, ◌≢◌, ℕ, zero, suc, inl, inr, ◌+◌, ◌-◌, ◌*◌, ◌/◌, ◌%◌, ◌<◌, ◌≤◌, List, [], ◌∷◌, ◌++◌, length, take, drop, replicate, sum, Bool, true, false, nat_lt, if◌then◌else◌}
use Rattle.std.proofs.Common.{refl, sym, ◌∙◌, ap, subst, append_assoc, append-nil, arith}
use Rattle.std.proofs.lemmas.List.{length-append, length-take-le, length-drop, length-replicate, take-append-drop, take-append-le}
use Rattle.std.proofs.Math.Seq.{take-add, take-append_seam, drop-append_seam, drop-append-add}
use Rattle.nfc_base.specs.Blocks.{with_block}
use Rattle.t3t_tag.specs.Attributes.{major_version, most_checked, most_updated, message_blocks, write_flag, message_length, is_summed}
use Rattle.t3t_tag.specs.Store.{IsT3Store, block_size, block_count, attributes}
use Rattle.t3t_tag.specs.Form.{Unfinished, IsBadSize, IsSized, IsT3Form}
use Rattle.t3t_tag.proofs.Bytes.{is_equal}
use Rattle.t3t_tag.proofs.Stores.{length_block, length_with_block, still_blocks}
use Rattle.t3t_access.specs.Writing.{unsummed, renewed, under_way, opened, closed, blocks_of, content_at, Put, put_at, Takes}
use Rattle.t3t_access.specs.OwnWriting.{SameBehind, IsBegun, IsNew}
use Rattle.t3t_access.proofs.Doing.{named_few, put_fill, put_last}
use Rattle.t3t_access.proofs.OwnReading.{drop_more}

-- what a renewed block says
record IsRenewed (block new : List ℕ) (flag n : ℕ) : Type 0 where
  summed : is_summed new ≡ true
  version : major_version new ≡ major_version block
  checked : most_checked new ≡ most_checked block
  updated : most_updated new ≡ most_updated block
  blocks : message_blocks new ≡ message_blocks block
  flag' : write_flag new ≡ flag
  bytes : message_length new ≡ n
  long : length new ≡ 16

two_of : (s : ℕ) → s ≡ s / 256 * 256 + s % 256
two_of s = omega arith

three_of : (n : ℕ) → n / 65536 * 65536 + (n / 256 % 256 * 256 + n % 256) ≡ n
three_of n = omega arith

renews : (block : List ℕ) (flag n : ℕ) → length block ≡ 16 → IsRenewed block (renewed block flag n) flag n
renews [] flag n h = absurd (omega (arith, h))
renews (x0 ∷ []) flag n h = absurd (omega (arith, h))
renews (x0 ∷ x1 ∷ []) flag n h = absurd (omega (arith, h))
renews (x0 ∷ x1 ∷ x2 ∷ []) flag n h = absurd (omega (arith, h))
renews (x0 ∷ x1 ∷ x2 ∷ x3 ∷ []) flag n h = absurd (omega (arith, h))
renews (x0 ∷ x1 ∷ x2 ∷ x3 ∷ x4 ∷ []) flag n h = absurd (omega (arith, h))
renews (x0 ∷ x1 ∷ x2 ∷ x3 ∷ x4 ∷ x5 ∷ []) flag n h = absurd (omega (arith, h))
renews (x0 ∷ x1 ∷ x2 ∷ x3 ∷ x4 ∷ x5 ∷ x6 ∷ []) flag n h = absurd (omega (arith, h))
renews (x0 ∷ x1 ∷ x2 ∷ x3 ∷ x4 ∷ x5 ∷ x6 ∷ x7 ∷ []) flag n h = absurd (omega (arith, h))
renews (x0 ∷ x1 ∷ x2 ∷ x3 ∷ x4 ∷ x5 ∷ x6 ∷ x7 ∷ x8 ∷ rest) flag n h =
    let s : ℕ = sum (unsummed (x0 ∷ x1 ∷ x2 ∷ x3 ∷ x4 ∷ x5 ∷ x6 ∷ x7 ∷ x8 ∷ rest) flag n) in
    record {
      summed = is_equal s (s / 256 * 256 + s % 256) (two_of s);
      version = refl;
      checked = refl;
      updated = refl;
      blocks = refl;
      flag' = refl;
      bytes = three_of n;
      long = refl;
    }

pub sized_again : (block : List ℕ) (flag n : ℕ) → length block ≡ 16 → IsSized block → n ≤ 16 * message_blocks block → IsSized (renewed block flag n)
sized_again block flag n long sized room = record { known = record { summed = r.summed; version = r.version ∙ sized.known.version }; sized = bad }
  where
    new : List ℕ
    new = renewed block flag n

    r : IsRenewed block new flag n
    r = renews block flag n long

    bad : IsBadSize new → ⊥
    bad (inl (inl h)) = sized.sized (inl (inl (sym r.checked ∙ h)))
    bad (inl (inr (inl h))) = sized.sized (inl (inr (inl (sym r.updated ∙ h))))
    bad (inl (inr (inr h))) = sized.sized (inl (inr (inr (sym r.blocks ∙ h))))
    bad (inr (inl h)) = sized.sized (inr (inl (subst (λ x. 255 < x) r.blocks h)))
    bad (inr (inr h)) =
        let more : 16 * message_blocks new < message_length new = h in
        let b : message_blocks new ≡ message_blocks block = r.blocks in
        let l : message_length new ≡ n = r.bytes in
        absurd (omega (arith, more, b, l, room))

pub length_renewed : (block : List ℕ) (flag n : ℕ) → length block ≡ 16 → length (renewed block flag n) ≡ 16
length_renewed block flag n long = (renews block flag n long).long

pub flag_renewed : (block : List ℕ) (flag n : ℕ) → length block ≡ 16 → write_flag (renewed block flag n) ≡ flag
flag_renewed block flag n long = (renews block flag n long).flag'

blocks_renewed : (block : List ℕ) (flag n : ℕ) → length block ≡ 16 → message_blocks (renewed block flag n) ≡ message_blocks block
blocks_renewed block flag n long = (renews block flag n long).blocks

pub bytes_renewed : (block : List ℕ) (flag n : ℕ) → length block ≡ 16 → message_length (renewed block flag n) ≡ n
bytes_renewed block flag n long = (renews block flag n long).bytes

-- the content of the first so many blocks of a message
abbrev pub filled : List ℕ → ℕ → List ℕ
filled message zero = []
filled message (suc n) = filled message n ++ content_at message n

short_take : (n : ℕ) (xs : List ℕ) → length (take n xs) ≤ n
short_take zero xs = omega arith
short_take (suc n) [] = omega arith
short_take (suc n) (x ∷ xs) = let h : length (take n xs) ≤ n = short_take n xs in omega (arith, h)

pub length_content_at : (message : List ℕ) (n : ℕ) → length (content_at message n) ≡ 16
length_content_at message n =
    let part : List ℕ = take 16 (drop (16 * n) message) in
    let few : length part ≤ 16 = short_take 16 (drop (16 * n) message) in
    let zeros : List ℕ = replicate (16 - length part) 0 in
    let left : length zeros ≡ 16 - length part = length-replicate {A = ℕ} (16 - length part) 0 in
    let all : length (part ++ zeros) ≡ length part + length zeros = length-append part zeros in
    omega (arith, few, left, all)

length_filled : (message : List ℕ) (n : ℕ) → length (filled message n) ≡ 16 * n
length_filled message zero = refl
length_filled message (suc n) =
    let h : length (filled message n) ≡ 16 * n = length_filled message n in
    let c : length (content_at message n) ≡ 16 = length_content_at message n in
    let s : length (filled message n ++ content_at message n) ≡ length (filled message n) + length (content_at message n) = length-append (filled message n) (content_at message n) in
    omega (arith, h, c, s)

filled_front : (message : List ℕ) (n : ℕ) → 16 * n ≤ length message → filled message n ≡ take (16 * n) message
filled_front message zero room = refl
filled_front message (suc n) room =
    let part : List ℕ = take 16 (drop (16 * n) message) in
    let behind : length (drop (16 * n) message) ≡ length message - 16 * n = length-drop (16 * n) message in
    let long : length part ≡ 16 = length-take-le 16 (drop (16 * n) message) (omega (arith, room, behind)) in
    let none : 16 - length part ≡ 0 = omega (arith, long) in
    let whole : content_at message n ≡ part = ap (λ k. part ++ replicate k 0) none ∙ append-nil part in
    let before : filled message n ≡ take (16 * n) message = filled_front message n (omega (arith, room)) in
    let more : 16 * n + 16 ≡ 16 * suc n = omega arith in
    ap (λ t. t ++ content_at message n) before
    ∙ ap (λ t. take (16 * n) message ++ t) whole
    ∙ sym (take-add (16 * n) 16 message)
    ∙ ap (λ k. take k message) more

take_whole : (n : ℕ) (xs : List ℕ) → length xs ≤ n → take n xs ≡ xs
take_whole zero [] h = refl
take_whole zero (x ∷ xs) h = absurd (omega (arith, h))
take_whole (suc n) [] h = refl
take_whole (suc n) (x ∷ xs) h = ap (λ t. x ∷ t) (take_whole n xs (omega (arith, h)))

filled_last : (message : List ℕ) (k : ℕ) → 16 * k ≤ length message → length message ≤ 16 * suc k → take (length message) (filled message (suc k)) ≡ message
filled_last message k low high =
    let rest : List ℕ = drop (16 * k) message in
    let part : List ℕ = take 16 rest in
    let zeros : List ℕ = replicate (16 - length part) 0 in
    let behind : length rest ≡ length message - 16 * k = length-drop (16 * k) message in
    let last : part ≡ rest = take_whole 16 rest (omega (arith, behind, high)) in
    let front : filled message k ++ part ≡ message = ap (λ t. t ++ part) (filled_front message k low) ∙ ap (λ t. take (16 * k) message ++ t) last ∙ take-append-drop (16 * k) message in
    let all : filled message (suc k) ≡ message ++ zeros = sym (append_assoc (filled message k) part zeros) ∙ ap (λ t. t ++ zeros) front in
    ap (take (length message)) all ∙ take-append_seam message zeros

none_at : (xs : List ℕ) → length xs ≡ 0 → take (length xs) [] ≡ xs
none_at [] h = refl
none_at (x ∷ xs) h = absurd (omega (arith, h))

filled_by : (message : List ℕ) (n : ℕ) → n ≡ blocks_of message → take (length message) (filled message n) ≡ message
filled_by message zero is =
    let e : 0 ≡ (length message + 15) / 16 = is in
    none_at message (omega (arith, e))
filled_by message (suc k) is =
    let e : suc k ≡ (length message + 15) / 16 = is in
    filled_last message k (omega (arith, e)) (omega (arith, e))

pub filled_all : (message : List ℕ) → take (length message) (filled message (blocks_of message)) ≡ message
filled_all message = filled_by message (blocks_of message) refl

-- a store with another attribute block, and so many blocks of the message behind it
abbrev pub laid : List ℕ → List ℕ → List ℕ → ℕ → List ℕ
laid store message block n = (block ++ filled message n) ++ drop (16 + 16 * n) store

front_length : (message block : List ℕ) (n : ℕ) → length block ≡ 16 → length (block ++ filled message n) ≡ 16 + 16 * n
front_length message block n long =
    let f : length (filled message n) ≡ 16 * n = length_filled message n in
    let s : length (block ++ filled message n) ≡ length block + length (filled message n) = length-append block (filled message n) in
    omega (arith, f, s, long)

pub attributes_laid : (store message block : List ℕ) (n : ℕ) → length block ≡ 16 → attributes (laid store message block n) ≡ block
attributes_laid store message block n long =
    ap (take 16) (append_assoc block (filled message n) (drop (16 + 16 * n) store))
    ∙ ap (λ k. take k (block ++ (filled message n ++ drop (16 + 16 * n) store))) (sym long)
    ∙ take-append_seam block (filled message n ++ drop (16 + 16 * n) store)

behind_laid : (store message block : List ℕ) (n : ℕ) → length block ≡ 16 → drop 16 (laid store message block n) ≡ filled message n ++ drop (16 + 16 * n) store
behind_laid store message block n long =
    ap (drop 16) (append_assoc block (filled message n) (drop (16 + 16 * n) store))
    ∙ ap (λ k. drop k (block ++ (filled message n ++ drop (16 + 16 * n) store))) (sym long)
    ∙ drop-append_seam block (filled message n ++ drop (16 + 16 * n) store)

-- one block more
pub laid_more : (store message block : List ℕ) (n : ℕ) → length block ≡ 16 → with_block 16 (laid store message block n) (suc n) (content_at message n) ≡ laid store message block (suc n)
laid_more store message block n long =
    let front : List ℕ = block ++ filled message n in
    let rest : List ℕ = drop (16 + 16 * n) store in
    let c : List ℕ = content_at message n in
    let size : length front ≡ 16 + 16 * n = front_length message block n long in
    let at : 16 * suc n ≡ length front = omega (arith, size) in
    let past : 16 * suc n + 16 ≡ length front + 16 = omega (arith, size) in
    let further : (16 + 16 * n) + 16 ≡ 16 + 16 * suc n = omega arith in
    let before : take (16 * suc n) (front ++ rest) ≡ front = ap (λ k. take k (front ++ rest)) at ∙ take-append_seam front rest in
    let behind : drop (16 * suc n + 16) (front ++ rest) ≡ drop (16 + 16 * suc n) store =
    ap (λ k. drop k (front ++ rest)) past ∙ drop-append-add front rest 16 ∙ drop_more (16 + 16 * n) 16 store ∙ ap (λ k. drop k store) further in
    ap (λ t. t ++ c ++ drop (16 * suc n + 16) (front ++ rest)) before
    ∙ ap (λ t. front ++ c ++ t) behind
    ∙ ap (λ t. t ++ drop (16 + 16 * suc n) store) (append_assoc block (filled message n) c)

-- another attribute block
pub laid_under : (store message block new : List ℕ) (n : ℕ) → length block ≡ 16 → with_block 16 (laid store message block n) 0 new ≡ laid store message new n
laid_under store message block new n long =
    ap (λ t. new ++ t) (behind_laid store message block n long) ∙ sym (append_assoc new (filled message n) (drop (16 + 16 * n) store))

pub same_laid : (store message block : List ℕ) (n : ℕ) → length block ≡ 16 → n ≤ blocks_of message → blocks_of message < block_count store → SameBehind message store (laid store message block n)
same_laid store message block n long most room =
    let front : List ℕ = block ++ filled message n in
    let rest : List ℕ = drop (16 + 16 * n) store in
    let last : ℕ = blocks_of message in
    let size : length front ≡ 16 + 16 * n = front_length message block n long in
    let fits : last < length store / 16 = room in
    let left : length rest ≡ length store - (16 + 16 * n) = length-drop (16 + 16 * n) store in
    let sum' : length (front ++ rest) ≡ length front + length rest = length-append front rest in
    let at : 16 * suc last ≡ length front + 16 * (last - n) = omega (arith, size, most) in
    let all : (16 + 16 * n) + 16 * (last - n) ≡ 16 * suc last = omega (arith, most) in
    record {
      size = omega (arith, size, left, sum', most, fits);
      behind =
          ap (λ k. drop k (front ++ rest)) at
          ∙ drop-append-add front rest (16 * (last - n))
          ∙ drop_more (16 + 16 * n) (16 * (last - n)) store
          ∙ ap (λ k. drop k store) all;
    }

-- the stores of a write, one after each Update
abbrev pub store_at : List ℕ → List ℕ → ℕ → List ℕ
store_at store message zero = store
store_at store message (suc n) =
    with_block block_size (store_at store message n) (put_at (attributes store) message n).block (put_at (attributes store) message n).content

module _ (store message : List ℕ) (is : IsT3Store store) (takes : Takes (attributes store) message) where
  abbrev old : List ℕ
  old = attributes store

  pub long_old : length old ≡ 16
  long_old = length_block store 0 (let h : 1 ≤ block_count store = is.blocks.least in omega (arith, h))

  pub room_behind : blocks_of message < block_count store
  room_behind = by_value (nat_lt (blocks_of message) (block_count store)) refl
    where
      yes : nat_lt (blocks_of message) (block_count store) ≡ true → blocks_of message < block_count store
      yes e = grind arith

      no : nat_lt (blocks_of message) (block_count store) ≡ false → block_count store ≤ blocks_of message
      no e = grind arith

      by_value : (v : Bool) → nat_lt (blocks_of message) (block_count store) ≡ v → blocks_of message < block_count store
      by_value true e = yes e
      by_value false e =
          let named : message_blocks old ≤ 255 = named_few old takes.sized in
          let fits : length message ≤ 16 * message_blocks old = takes.room in
          let few : (length message + 15) / 16 ≤ message_blocks old = omega (arith, fits) in
          let short : block_count store ≤ (length message + 15) / 16 = no e in
          let lacking : block_count store ≤ message_blocks old = omega (arith, few, short) in
          absurd (is.room (record { summed = takes.sized.known.summed; named = named; lacking = lacking }))

  fits_old : message_length old ≤ 16 * message_blocks old
  fits_old = by_value (nat_lt (16 * message_blocks old) (message_length old)) refl
    where
      yes : nat_lt (16 * message_blocks old) (message_length old) ≡ true → 16 * message_blocks old < message_length old
      yes e = grind arith

      no : nat_lt (16 * message_blocks old) (message_length old) ≡ false → message_length old ≤ 16 * message_blocks old
      no e = grind arith

      by_value : (v : Bool) → nat_lt (16 * message_blocks old) (message_length old) ≡ v → message_length old ≤ 16 * message_blocks old
      by_value true e = absurd (takes.sized.sized (inr (inr (yes e))))
      by_value false e = no e

  at_open : (n : ℕ) → n ≤ blocks_of message → store_at store message (suc n) ≡ laid store message (opened old) n
  at_open zero few = ap (λ t. t ++ drop 16 store) (sym (append-nil (opened old)))
  at_open (suc n) few =
      let less : n < blocks_of message = omega (arith, few) in
      ap (λ p. with_block 16 (store_at store message (suc n)) p.block p.content) (put_fill old message n less)
      ∙ ap (λ s. with_block 16 s (suc n) (content_at message n)) (at_open n (omega (arith, few)))
      ∙ laid_more store message (opened old) n (length_renewed old under_way (message_length old) long_old)

  at_close : store_at store message (suc (suc (blocks_of message))) ≡ laid store message (closed old message) (blocks_of message)
  at_close =
      let n : ℕ = blocks_of message in
      ap (λ p. with_block 16 (store_at store message (suc n)) p.block p.content) (put_last old message)
      ∙ ap (λ s. with_block 16 s 0 (closed old message)) (at_open n (omega arith))
      ∙ laid_under store message (opened old) (closed old message) n (length_renewed old under_way (message_length old) long_old)

  -- a store with an attribute block that names as many blocks is still one that a new tag may have
  store_laid : (block : List ℕ) (n : ℕ) → length block ≡ 16 → message_blocks block ≡ message_blocks old → n ≤ blocks_of message → IsT3Store (laid store message block n)
  store_laid block n long named few =
      let same : SameBehind message store (laid store message block n) = same_laid store message block n long few room_behind in
      let count : block_count (laid store message block n) ≡ block_count store = ap (λ k. k / 16) same.size in
      let blocks : message_blocks (attributes (laid store message block n)) ≡ message_blocks old = ap message_blocks (attributes_laid store message block n long) ∙ named in
      record {
        blocks = still_blocks store (laid store message block n) same.size is.blocks;
        room = λ over. is.room (record {
          summed = takes.sized.known.summed;
          named = subst (λ k. k ≤ 255) blocks over.named;
          lacking = subst (λ k. k ≤ message_blocks old) count (subst (λ k. block_count (laid store message block n) ≤ k) blocks over.lacking);
        });
      }

  pub begun_at : (n : ℕ) → n ≤ blocks_of message → IsBegun message store (store_at store message (suc n))
  begun_at n few =
      let block : List ℕ = opened old in
      let long : length block ≡ 16 = length_renewed old under_way (message_length old) long_old in
      let sized : IsSized block = sized_again old under_way (message_length old) long_old takes.sized fits_old in
      let flag : write_flag block ≡ 15 = flag_renewed old under_way (message_length old) long_old in
      let other : write_flag block ≢ 0 = λ e. absurd (omega (arith, flag, e)) in
      let form : IsT3Form (laid store message block n) Unfinished =
      subst (λ x. IsSized x × (write_flag x ≢ 0)) (sym (attributes_laid store message block n long)) (sized, other) in
      subst (IsBegun message store) (sym (at_open n few)) (record {
        form = form;
        same = same_laid store message block n long few room_behind;
        store = store_laid block n long (blocks_renewed old under_way (message_length old) long_old) few;
      })

  pub new_at : IsNew message store (store_at store message (suc (suc (blocks_of message))))
  new_at =
      let n : ℕ = blocks_of message in
      let block : List ℕ = closed old message in
      let long : length block ≡ 16 = length_renewed old 0 (length message) long_old in
      let sized : IsSized block = sized_again old 0 (length message) long_old takes.sized takes.room in
      let flag : write_flag block ≡ 0 = flag_renewed old 0 (length message) long_old in
      let bytes : message_length block ≡ length message = bytes_renewed old 0 (length message) long_old in
      let f : length (filled message n) ≡ 16 * n = length_filled message n in
      let room : length message ≤ 16 * ((length message + 15) / 16) = omega arith in
      let enough : length message ≤ length (filled message n) = omega (arith, f, room) in
      let told : take (length message) (drop 16 (laid store message block n)) ≡ message =
      ap (take (length message)) (behind_laid store message block n long)
      ∙ take-append-le (length message) (filled message n) (drop (16 + 16 * n) store) enough
      ∙ filled_all message in
      let same : attributes (laid store message block n) ≡ block = attributes_laid store message block n long in
      let held : message ≡ take (message_length (attributes (laid store message block n))) (drop 16 (laid store message block n)) =
      sym (ap (λ x. take (message_length x) (drop 16 (laid store message block n))) same ∙ ap (λ k. take k (drop 16 (laid store message block n))) bytes ∙ told) in
      subst (IsNew message store) (sym at_close) (record {
        form = (subst IsSized (sym same) sized, ap write_flag same ∙ flag, held);
        same = same_laid store message block n long (omega arith) room_behind;
        store = store_laid block n long (blocks_renewed old 0 (length message) long_old) (omega arith);
      })

  -- each Update is of a block that is there, by 16 bytes
  abbrev IsLong : Put → Type 0
  IsLong p = length p.content ≡ 16

  abbrev IsLow : Put → Type 0
  IsLow p = p.block ≤ blocks_of message

  pub put_long : (n : ℕ) → length (put_at old message n).content ≡ 16
  put_long zero = length_renewed old under_way (message_length old) long_old
  put_long (suc n) = by_value (nat_lt n (blocks_of message))
    where
      by_value : (v : Bool) → IsLong (if v then record { block = suc n; content = content_at message n } else record { block = 0; content = closed old message })
      by_value true = length_content_at message n
      by_value false = length_renewed old 0 (length message) long_old

  pub put_low : (n : ℕ) → (put_at old message n).block ≤ blocks_of message
  put_low zero = omega arith
  put_low (suc n) = by_value (nat_lt n (blocks_of message)) refl
    where
      by_value : (v : Bool) → nat_lt n (blocks_of message) ≡ v → IsLow (if v then record { block = suc n; content = content_at message n } else record { block = 0; content = closed old message })
      by_value true e = let h : n < blocks_of message = grind (arith, e) in omega (arith, h)
      by_value false e = omega arith

  below_at : (n : ℕ) → length (store_at store message n) ≡ length store → (put_at old message n).block < block_count (store_at store message n)
  below_at n same =
      let count : block_count (store_at store message n) ≡ block_count store = ap (λ k. k / 16) same in
      let low : (put_at old message n).block ≤ blocks_of message = put_low n in
      let room : blocks_of message < block_count store = room_behind in
      omega (arith, count, low, room)

  length_at : (n : ℕ) → length (store_at store message n) ≡ length store
  length_at zero = refl
  length_at (suc n) =
      length_with_block (store_at store message n) (put_at old message n).block (put_at old message n).content (below_at n (length_at n)) (put_long n) ∙ length_at n

  pub within_at : (n : ℕ) → (put_at old message n).block < block_count (store_at store message n)
  within_at n = below_at n (length_at n)
