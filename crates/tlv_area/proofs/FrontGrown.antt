-- A longer front of a memory has the container that a front tells.
use Rattle.std.proofs.Common.{◌≡◌, ℕ, ◌+◌, ◌*◌, ◌<◌, ◌≤◌, inl, inr, ◌⊎◌, List, [], ◌∷◌, ◌++◌, length, Bool, true, false, refl, sym, ◌∙◌, ap, arith}
use Rattle.std.specs.Prelude.{◌==◌, ◌||◌, ◌&&◌, ◌%◌, nat_lt, if◌then◌else◌, slice_index, Option, Some, None, Ok}
use Rattle.std.proofs.lemmas.Bool.{cases_Bool, le-ltb, ltb-false}
use Rattle.std.proofs.lemmas.List.{length-append, get_or_append_left}
use Rattle.nfc_base.specs.Words.{word}
use Rattle.tlv_area.specs.declared.container.ContainerFault.{ContainerFault}
use Rattle.tlv_area.specs.declared.container.ContainerFault.TheVariants.{BadSize}
use Rattle.tlv_area.specs.declared.container.T5Container.TheVariants.{More}
use Rattle.tlv_area.specs.Containers.{first_fault, unless, is_none, t5_is_long, t5_container_size, t5_mlen, t5_head_faults, t5_faults, T5Area, t5_named, t5_container, t5_is_open, t5_ready, t5_front}

same_at : (known more : List ℕ) (i : ℕ) → i < length known → slice_index (known ++ more) i ≡ slice_index known i
same_at known more i low = get_or_append_left known more 0 i low

at_least : (known more : List ℕ) (n : ℕ) → n ≤ length known → nat_lt (length (known ++ more)) n ≡ false
at_least known more n low = le-ltb (length (known ++ more)) n (omega (arith, low, length-append known more))

heads_same : (known more : List ℕ) → 4 ≤ length known → t5_head_faults (known ++ more) ≡ t5_head_faults known
heads_same known more least = rw (same_at known more 0 (omega (arith, least)), same_at known more 1 (omega (arith, least))) refl

long_same : (known more : List ℕ) → 4 ≤ length known → t5_is_long (known ++ more) ≡ t5_is_long known
long_same known more least = ap (λ b. b == 0) (same_at known more 2 (omega (arith, least)))

-- what isn't open stays so
or_and : (a b c : Bool) → (a || (b && c)) ≡ false → (a ≡ false) × ((b ≡ false) ⊎ (c ≡ false))
or_and true b c is = absurd (cc)
or_and false false c is = (refl, inl refl)
or_and false true c is = (refl, inr is)

and_none : (b : Bool) → (b && false) ≡ false
and_none true = refl
and_none false = refl

abbrev is_long_plain : List ℕ → Bool
is_long_plain b = is_none (first_fault (t5_head_faults b)) && t5_is_long b

closed_grown : (known more : List ℕ) → 4 ≤ length known → (is_long_plain known ≡ false) ⊎ (8 ≤ length known) → t5_is_open (known ++ more) ≡ false
closed_grown known more least why =
    ap (λ v. v || (is_long_plain (known ++ more) && nat_lt (length (known ++ more)) 8)) (at_least known more 4 least) ∙ by_cause why
  where
    by_cause : (is_long_plain known ≡ false) ⊎ (8 ≤ length known) → (is_long_plain (known ++ more) && nat_lt (length (known ++ more)) 8) ≡ false
    by_cause (inl plain) =
        let same : is_long_plain (known ++ more) ≡ is_long_plain known =
        ap (λ rows. is_none (first_fault rows) && t5_is_long (known ++ more)) (heads_same known more least)
        ∙ ap (λ v. is_none (first_fault (t5_head_faults known)) && v) (long_same known more least) in
        ap (λ v. v && nat_lt (length (known ++ more)) 8) (same ∙ plain)
    by_cause (inr eight) = ap (λ v. is_long_plain (known ++ more) && v) (at_least known more 8 eight) ∙ and_none (is_long_plain (known ++ more))

-- where the first bytes have a fault
some_first : (rows more : List (Bool × ContainerFault)) (f : ContainerFault) → first_fault rows ≡ Some f → first_fault (rows ++ more) ≡ Some f
some_first [] more f is = absurd (cc)
some_first (r ∷ rows) more f is = elim (cases_Bool r.0) [
  | inl at_it ↦ (let h = rw at_it at is in rw at_it h)
  | inr not_it ↦ (let h = rw not_it at is in rw not_it (some_first rows more f h))
]

abbrev size_row : List ℕ → List (Bool × ContainerFault)
size_row b = (nat_lt (length b) (t5_container_size b) || (t5_mlen b == 0), BadSize) ∷ []

head_fault : (known more : List ℕ) (f : ContainerFault) → 4 ≤ length known → first_fault (t5_head_faults known) ≡ Some f → t5_container (known ++ more) ≡ t5_container known
head_fault known more f least is =
    let there = ap (λ rows. first_fault rows) (heads_same known more least) ∙ is in
    ap (λ o. unless o (t5_named (known ++ more))) (some_first (t5_head_faults (known ++ more)) (size_row (known ++ more)) f there)
    ∙ sym (ap (λ o. unless o (t5_named known)) (some_first (t5_head_faults known) (size_row known) f is))

-- where the container is whole
mlen_by : (known more : List ℕ) (v : Bool) → 4 ≤ length known → t5_is_long known ≡ v → (v ≡ true → 8 ≤ length known) → t5_mlen (known ++ more) ≡ t5_mlen known
mlen_by known more v least is whole =
    ap (λ l. if l then word (known ++ more) 6 else slice_index (known ++ more) 2) (long_same known more least ∙ is) ∙ by_size v whole
    ∙ sym (ap (λ l. if l then word known 6 else slice_index known 2) is)
  where
    by_size : (l : Bool) → (l ≡ true → 8 ≤ length known) → (if l then word (known ++ more) 6 else slice_index (known ++ more) 2) ≡ (if l then word known 6 else slice_index known 2)
    by_size true fits = (let eight = fits refl in rw (same_at known more 6 (omega (arith, eight)), same_at known more 7 (omega (arith, eight))) refl)
    by_size false fits = same_at known more 2 (omega (arith, least))

abbrev area_by : ℕ → ℕ → ℕ → ℕ → ℕ → T5Area
area_by size mlen b0 b1 b3 = record {
  space = record { start = size; end = size + 8 * mlen; control = false; writable = b1 % 4 == 0 };
  wide = b0 == 0xE2;
  many = b3 % 2 == 1;
}

whole_container : (known more : List ℕ) → 4 ≤ length known → (t5_is_long known ≡ true → 8 ≤ length known) → t5_container (known ++ more) ≡ t5_container known
whole_container known more least fits =
    let size : t5_container_size (known ++ more) ≡ t5_container_size known = ap (λ v. if v then 8 else 4) (long_same known more least) in
    let mlen : t5_mlen (known ++ more) ≡ t5_mlen known = mlen_by known more (t5_is_long known) least refl fits in
    let zero' = same_at known more 0 (omega (arith, least)) in
    let one = same_at known more 1 (omega (arith, least)) in
    let three = same_at known more 3 (omega (arith, least)) in
    let named : t5_named (known ++ more) ≡ t5_named known =
    ap (λ n. area_by n (t5_mlen (known ++ more)) (slice_index (known ++ more) 0) (slice_index (known ++ more) 1) (slice_index (known ++ more) 3)) size
    ∙ ap (λ n. area_by (t5_container_size known) n (slice_index (known ++ more) 0) (slice_index (known ++ more) 1) (slice_index (known ++ more) 3)) mlen
    ∙ ap (λ n. area_by (t5_container_size known) (t5_mlen known) n (slice_index (known ++ more) 1) (slice_index (known ++ more) 3)) zero'
    ∙ ap (λ n. area_by (t5_container_size known) (t5_mlen known) (slice_index known 0) n (slice_index (known ++ more) 3)) one
    ∙ ap (λ n. area_by (t5_container_size known) (t5_mlen known) (slice_index known 0) (slice_index known 1) n) three in
    let within : t5_container_size known ≤ length known = by_size (t5_is_long known) fits in
    let grown : nat_lt (length (known ++ more)) (t5_container_size (known ++ more)) ≡ false =
    ap (λ n. nat_lt (length (known ++ more)) n) size ∙ at_least known more (t5_container_size known) within in
    let flag : (nat_lt (length (known ++ more)) (t5_container_size (known ++ more)) || (t5_mlen (known ++ more) == 0)) ≡ (nat_lt (length known) (t5_container_size known) || (t5_mlen known == 0)) =
    ap (λ v. v || (t5_mlen (known ++ more) == 0)) grown ∙ ap (λ n. n == 0) mlen
    ∙ sym (ap (λ v. v || (t5_mlen known == 0)) (le-ltb (length known) (t5_container_size known) within)) in
    let faults : t5_faults (known ++ more) ≡ t5_faults known =
    ap (λ rows. rows ++ (nat_lt (length (known ++ more)) (t5_container_size (known ++ more)) || (t5_mlen (known ++ more) == 0), BadSize) ∷ []) (heads_same known more least)
    ∙ ap (λ v. t5_head_faults known ++ (v, BadSize) ∷ []) flag in
    ap (λ rows. unless (first_fault rows) (t5_named (known ++ more))) faults ∙ ap (λ a. unless (first_fault (t5_faults known)) a) named
  where
    by_size : (v : Bool) → (v ≡ true → 8 ≤ length known) → (if v then 8 else 4) ≤ length known
    by_size true whole = whole refl
    by_size false whole = least

container_grown : (known more : List ℕ) → 4 ≤ length known → (is_long_plain known ≡ false) ⊎ (8 ≤ length known) → t5_container (known ++ more) ≡ t5_container known
container_grown known more least why = by_fault (first_fault (t5_head_faults known)) refl
  where
    by_cause : first_fault (t5_head_faults known) ≡ None → (is_long_plain known ≡ false) ⊎ (8 ≤ length known) → t5_is_long known ≡ true → 8 ≤ length known
    by_cause none (inr eight) long = eight
    by_cause none (inl plain) long =
        (let is : is_long_plain known ≡ true = ap (λ o. is_none o && t5_is_long known) none ∙ long in
        let clash : true ≡ false = sym is ∙ plain in
        absurd (cc))

    by_fault : (o : Option ContainerFault) → first_fault (t5_head_faults known) ≡ o → t5_container (known ++ more) ≡ t5_container known
    by_fault (Some f) is = head_fault known more f least is
    by_fault None none = whole_container known more least (by_cause none why)

pub front_grown : (known more : List ℕ) → t5_is_open known ≡ false → t5_front (known ++ more) ≡ t5_front known
front_grown known more closed =
    let parts = or_and (nat_lt (length known) 4) (is_long_plain known) (nat_lt (length known) 8) closed in
    let least : 4 ≤ length known = ltb-false (length known) 4 parts.0 in
    let why = cause parts.1 in
    ap (λ v. if v then Ok More else t5_ready (t5_container (known ++ more))) (closed_grown known more least why)
    ∙ ap (λ r. t5_ready r) (container_grown known more least why)
    ∙ sym (ap (λ v. if v then Ok More else t5_ready (t5_container known)) closed)
  where
    cause : (is_long_plain known ≡ false) ⊎ (nat_lt (length known) 8 ≡ false) → (is_long_plain known ≡ false) ⊎ (8 ≤ length known)
    cause (inl plain) = inl plain
    cause (inr eight) = inr (ltb-false (length known) 8 eight)
