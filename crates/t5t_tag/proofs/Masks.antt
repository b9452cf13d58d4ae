-- Masks: bytes with only their lowest bits, cut to whole bytes and filled up again.
use Rattle.std.proofs.Common.{◌≡◌, ℕ, zero, suc, ◌-◌, ◌*◌, ◌%◌, ◌^◌, ◌≤◌, min, List, [], ◌∷◌, ◌++◌, length, take, drop, replicate, refl, sym, ◌∙◌, ap, arith}
use Rattle.std.proofs.lemmas.List.{length-append, length-replicate, length-take-le, take-append-drop}
use Rattle.std.proofs.lemmas.Nat.{pow_pos}
use Rattle.std.proofs.Math.Nat.{mod-eq_of_lt, mod-one}
use Rattle.std.proofs.Math.Seq.{take-append_seam}
use Rattle.t5t_tag.specs.Store.{id_size}
use Rattle.t5t_tag.specs.Mask.{kept, mask_size, most_bits}
use Rattle.t5t_tag.specs.Reading.{filled}

kept_take : (n bits : ℕ) (bytes : List ℕ) → kept bits (take n bytes) ≡ take n (kept bits bytes)
kept_take zero bits [] = refl
kept_take zero bits (b ∷ bytes) = refl
kept_take (suc n) bits [] = refl
kept_take (suc n) bits (b ∷ bytes) = ap (λ t. b % 2 ^ min bits 8 ∷ t) (kept_take n (bits - 8) bytes)

kept_none : (bytes : List ℕ) → kept 0 bytes ≡ replicate (length bytes) 0
kept_none [] = refl
kept_none (b ∷ bytes) = ap (λ t. t ∷ kept 0 bytes) (mod-one b) ∙ ap (λ t. 0 ∷ t) (kept_none bytes)

drop_kept : (n bits : ℕ) (bytes : List ℕ) → bits ≤ 8 * n → drop n (kept bits bytes) ≡ replicate (length bytes - n) 0
drop_kept zero bits bytes h = ap (λ b. kept b bytes) (let e : bits ≡ 0 = omega arith in e) ∙ kept_none bytes ∙ ap (λ k. replicate k 0) (let e : length bytes ≡ length bytes - 0 = omega arith in e)
drop_kept (suc n) bits [] h = ap (λ k. replicate k 0) (let e : 0 ≡ 0 - suc n = omega arith in e)
drop_kept (suc n) bits (b ∷ bytes) h =
    drop_kept n (bits - 8) bytes (omega arith) ∙ ap (λ k. replicate k 0) (let e : length bytes - n ≡ suc (length bytes) - suc n = omega arith in e)

kept_zeros : (bits k : ℕ) → kept bits (replicate k 0) ≡ replicate k 0
kept_zeros bits zero = refl
kept_zeros bits (suc k) =
    ap (λ t. t ∷ kept (bits - 8) (replicate k 0)) (mod-eq_of_lt {n = 0} (pow_pos (min bits 8))) ∙ ap (λ t. 0 ∷ t) (kept_zeros (bits - 8) k)

kept_filled : (bits k : ℕ) (bytes : List ℕ) → kept bits (bytes ++ replicate k 0) ≡ kept bits bytes ++ replicate k 0
kept_filled bits k [] = kept_zeros bits k
kept_filled bits k (b ∷ bytes) = ap (λ t. b % 2 ^ min bits 8 ∷ t) (kept_filled (bits - 8) k bytes)

-- a mask filled up has eight bytes and the same unused bits
pub length_filled : (mask : List ℕ) → length mask ≤ id_size → length (filled mask) ≡ id_size
length_filled mask h =
    let zeros : List ℕ = replicate (id_size - length mask) 0 in
    let long : length zeros ≡ id_size - length mask = length-replicate (id_size - length mask) (zero) in
    length-append mask zeros ∙ omega (arith, h, long)

pub kept_of_filled : (bits : ℕ) (mask : List ℕ) → kept bits mask ≡ mask → kept bits (filled mask) ≡ filled mask
kept_of_filled bits mask h =
    kept_filled bits (id_size - length mask) mask ∙ ap (λ t. t ++ replicate (id_size - length mask) 0) h

-- its first bytes are the mask
pub take_filled : (n : ℕ) (mask : List ℕ) → length mask ≡ n → take n (filled mask) ≡ mask
take_filled n mask h = ap (λ k. take k (filled mask)) (sym h) ∙ take-append_seam mask (replicate (id_size - length mask) 0)

-- a mask of eight bytes, cut to those that its bits need, is filled up to itself
pub filled_take : (bits : ℕ) (mask : List ℕ) → bits ≤ most_bits → length mask ≡ id_size → kept bits mask ≡ mask → filled (take (mask_size bits) mask) ≡ mask
filled_take bits mask few size is =
    let n : ℕ = mask_size bits in
    let front : List ℕ = take n mask in
    let long : length front ≡ n = length-take-le n mask (omega arith) in
    ap (λ k. front ++ replicate (id_size - k) 0) long
    ∙ ap (λ k. front ++ replicate (k - n) 0) (sym size)
    ∙ ap (λ t. front ++ t) (sym (drop_kept n bits mask (omega arith)))
    ∙ ap (λ t. front ++ drop n t) is
    ∙ take-append-drop n mask

-- the front of such a mask has as many bytes as its bits need, and its unused bits are 0
pub length_front : (bits : ℕ) (mask : List ℕ) → bits ≤ most_bits → length mask ≡ id_size → length (take (mask_size bits) mask) ≡ mask_size bits
length_front bits mask few size = length-take-le (mask_size bits) mask (omega arith)

pub kept_front : (n bits : ℕ) (mask : List ℕ) → kept bits mask ≡ mask → kept bits (take n mask) ≡ take n mask
kept_front n bits mask is = kept_take n bits mask ∙ ap (λ t. take n t) is
