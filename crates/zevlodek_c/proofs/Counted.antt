-- Bytes that stand behind their number are read in one way.
use Rattle.std.proofs.Common.{◌≡◌, ℕ, ◌/◌, ◌%◌, List, ◌++◌, length, take, drop, slice_index, sym, ap, ◌∙◌, arith}
use Rattle.std.proofs.Math.Seq.{take-append_seam, drop-append_seam}
use Rattle.zevlodek_c.specs.Log.{counted}

same_number : (m n : ℕ) → m % 256 ≡ n % 256 → m / 256 ≡ n / 256 → m ≡ n
same_number m n low high = omega (arith, low, high)

same_front : (a b r s : List ℕ) → length a ≡ length b → a ++ r ≡ b ++ s → a ≡ b
same_front a b r s n e =
    sym (take-append_seam a r) ∙ (ap (take (length a)) e ∙ (ap (λ k. take k (b ++ s)) n ∙ take-append_seam b s))

same_back : (a b r s : List ℕ) → length a ≡ length b → a ++ r ≡ b ++ s → r ≡ s
same_back a b r s n e =
    sym (drop-append_seam a r) ∙ (ap (drop (length a)) e ∙ (ap (λ k. drop k (b ++ s)) n ∙ drop-append_seam b s))

lengths : (a b r s : List ℕ) → counted a ++ r ≡ counted b ++ s → length a ≡ length b
lengths a b r s e = same_number (length a) (length b) (ap (λ l. slice_index l 0) e) (ap (λ l. slice_index l 1) e)

pub same_bytes : (a b r s : List ℕ) → counted a ++ r ≡ counted b ++ s → a ≡ b
same_bytes a b r s e = same_front a b r s (lengths a b r s e) (ap (drop 2) e)

pub same_rest : (a b r s : List ℕ) → counted a ++ r ≡ counted b ++ s → r ≡ s
same_rest a b r s e = same_back a b r s (lengths a b r s e) (ap (drop 2) e)
