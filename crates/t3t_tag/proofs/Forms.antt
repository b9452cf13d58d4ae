-- Each store has exactly one form.
use Rattle.std.proofs.Common.{◌≡◌, ◌⊎◌, inl, inr, ℕ, ◌*◌, ◌<◌, List, Bool, true, false, nat_lt, ◌==◌, refl, ap, arith}
use Rattle.t3t_tag.specs.Attributes.{major_version, most_checked, most_updated, message_blocks, write_flag, message_length, is_summed}
use Rattle.t3t_tag.specs.Store.{block_size, most_message_blocks, attributes}
use Rattle.t3t_tag.specs.Form.{T3Form, NotNdef, Version, BadSize, Unfinished, Message, known_version, message_of, IsBadSize, IsKnown, IsSized, IsT3Form, HasOneForm}
use Rattle.t3t_tag.proofs.Bytes.{equal_of, other_of}

-- a fact that holds or doesn't
abbrev Decided : Type 0 → Type 0
Decided P = P ⊎ (P → ⊥)

equal_or : (m n : ℕ) → Decided (m ≡ n)
equal_or m n = by_value (m == n) refl
  where
    by_value : (v : Bool) → (m == n) ≡ v → Decided (m ≡ n)
    by_value true e = inl (equal_of m n e)
    by_value false e = inr (other_of m n e)

less_or : (m n : ℕ) → Decided (m < n)
less_or m n = by_value (nat_lt m n) refl
  where
    below : nat_lt m n ≡ true → m < n
    below e = grind arith

    by_value : (v : Bool) → nat_lt m n ≡ v → Decided (m < n)
    by_value true e = inl (below e)
    by_value false e = inr (λ h. absurd (let t : nat_lt m n ≡ true = (grind arith) in cc))

one_of : (P Q : Type 0) → Decided P → Decided Q → Decided (P ⊎ Q)
one_of P Q (inl p) q = inl (inl p)
one_of P Q (inr n) (inl q) = inl (inr q)
one_of P Q (inr n) (inr m) = inr (λ e. elim e [ inl p ↦ n p | inr q ↦ m q ])

bad_or : (block : List ℕ) → Decided (IsBadSize block)
bad_or block =
    one_of _ _ (one_of _ _ (equal_or (most_checked block) 0) (one_of _ _ (equal_or (most_updated block) 0) (equal_or (message_blocks block) 0)))
    (one_of _ _ (less_or most_message_blocks (message_blocks block)) (less_or (block_size * message_blocks block) (message_length block)))

wrong_sum : (store : List ℕ) → is_summed (attributes store) ≡ false → HasOneForm store
wrong_sum store h = record { form = NotNdef; is = h; one = others }
  where
    others : (other : T3Form) → IsT3Form store other → other ≡ NotNdef
    others NotNdef is = refl
    others Version is = absurd (let e : is_summed (attributes store) ≡ true = is.0 in cc)
    others BadSize is = absurd (let e : is_summed (attributes store) ≡ true = is.0.summed in cc)
    others Unfinished is = absurd (let e : is_summed (attributes store) ≡ true = is.0.known.summed in cc)
    others (Message m) is = absurd (let e : is_summed (attributes store) ≡ true = is.0.known.summed in cc)

other_version : (store : List ℕ) → is_summed (attributes store) ≡ true → (major_version (attributes store) ≡ known_version → ⊥) → HasOneForm store
other_version store h v = record { form = Version; is = (h, v); one = others }
  where
    others : (other : T3Form) → IsT3Form store other → other ≡ Version
    others NotNdef is = absurd cc
    others Version is = refl
    others BadSize is = absurd (v is.0.version)
    others Unfinished is = absurd (v is.0.known.version)
    others (Message m) is = absurd (v is.0.known.version)

bad_size : (store : List ℕ) → IsKnown (attributes store) → IsBadSize (attributes store) → HasOneForm store
bad_size store known bad = record { form = BadSize; is = (known, bad); one = others }
  where
    others : (other : T3Form) → IsT3Form store other → other ≡ BadSize
    others NotNdef is = absurd (let e : is_summed (attributes store) ≡ true = known.summed in cc)
    others Version is = absurd (is.1 known.version)
    others BadSize is = refl
    others Unfinished is = absurd (is.0.sized bad)
    others (Message m) is = absurd (is.0.sized bad)

unfinished : (store : List ℕ) → IsSized (attributes store) → (write_flag (attributes store) ≡ 0 → ⊥) → HasOneForm store
unfinished store sized flag = record { form = Unfinished; is = (sized, flag); one = others }
  where
    others : (other : T3Form) → IsT3Form store other → other ≡ Unfinished
    others NotNdef is = absurd (let e : is_summed (attributes store) ≡ true = sized.known.summed in cc)
    others Version is = absurd (is.1 sized.known.version)
    others BadSize is = absurd (sized.sized is.1)
    others Unfinished is = refl
    others (Message m) is = absurd (flag is.1)

holds : (store : List ℕ) → IsSized (attributes store) → write_flag (attributes store) ≡ 0 → HasOneForm store
holds store sized flag = record { form = Message (message_of store); is = (sized, flag, refl); one = others }
  where
    others : (other : T3Form) → IsT3Form store other → other ≡ Message (message_of store)
    others NotNdef is = absurd (let e : is_summed (attributes store) ≡ true = sized.known.summed in cc)
    others Version is = absurd (is.1 sized.known.version)
    others BadSize is = absurd (sized.sized is.1)
    others Unfinished is = absurd (is.1 flag)
    others (Message m) is = ap (λ t. Message t) is.2

by_flag : (store : List ℕ) → IsSized (attributes store) → Decided (write_flag (attributes store) ≡ 0) → HasOneForm store
by_flag store sized (inl flag) = holds store sized flag
by_flag store sized (inr flag) = unfinished store sized flag

by_size : (store : List ℕ) → IsKnown (attributes store) → Decided (IsBadSize (attributes store)) → HasOneForm store
by_size store known (inl bad) = bad_size store known bad
by_size store known (inr fits) = by_flag store (record { known = known; sized = fits }) (equal_or (write_flag (attributes store)) 0)

by_version : (store : List ℕ) → is_summed (attributes store) ≡ true → Decided (major_version (attributes store) ≡ known_version) → HasOneForm store
by_version store h (inl version) = by_size store (record { summed = h; version = version }) (bad_or (attributes store))
by_version store h (inr other) = other_version store h other

by_sum : (store : List ℕ) (v : Bool) → is_summed (attributes store) ≡ v → HasOneForm store
by_sum store false h = wrong_sum store h
by_sum store true h = by_version store h (equal_or (major_version (attributes store)) known_version)

pub has_one_form : (store : List ℕ) → HasOneForm store
has_one_form store = by_sum store (is_summed (attributes store)) refl
