-- Each Type 5 store has a list of what is asked.
use Rattle.std.proofs.Common.{◌≡◌, ℕ, zero, suc, ◌+◌, ◌-◌, ◌*◌, ◌/◌, ◌%◌, ◌<◌, ◌≤◌, inl, inr, ◌⊎◌, List, length, Bool, true, false, nat_le, if◌then◌else◌, refl, ap, subst, arith}
use Rattle.std.specs.Prelude.{Result, Ok, Err}
use Rattle.std.proofs.lemmas.Bool.{cases_lt}
use Rattle.std.proofs.Math.Nat.{div-add-mod, mul-le-mul_left, lt_of_mul-lt-mul_left, mul-div_cancel_left, mul-div-le, zero-div}
use Rattle.nfc_base.specs.Signal.{Signal}
use Rattle.t5t_tag.specs.Store.{IsT5Store, IsBlockSize, blocks_in}
use Rattle.tlv_area.specs.declared.container.ContainerFault.{ContainerFault}
use Rattle.tlv_area.specs.declared.container.T5Container.{T5Container}
use Rattle.tlv_area.specs.declared.container.T5Container.TheVariants.{Ready, More}
use Rattle.tlv_area.specs.Containers.{t5_front}
use Rattle.tlv_area.specs.Stores.{t5_reach}
use Rattle.tlv_area.proofs.Needing.{needing}
use Rattle.tlv_area.proofs.FrontContainers.{front_ready, is_named, reach_area}
use Rattle.tag_reader.specs.declared.how.How.TheVariants.{T5}
use Rattle.tag_reader.specs.declared.ask.Ask.{Ask}
use Rattle.tag_reader.specs.declared.ask.Ask.TheVariants.{One, Many}
use Rattle.tag_reader.specs.Blocks.{NeedsBlocks, Progress, known_at, ask_at, progress_behind, progress_at, next_ask, ask_by, IsMany}
use Rattle.tag_reader.specs.Asked.{IsDue, AreDue, IsAsked}
use Rattle.tag_reader.proofs.Knowing.{due_more}
use Rattle.tag_reader.proofs.Lists.{asked_all, one_due}

-- what a Type 5 store is, in numbers
pub record Sizes (size : ℕ) (store : List ℕ) : Type 0 where
  pub least : 4 ≤ size
  pub most : size ≤ 32
  pub multiple : size % 4 ≡ 0
  pub one : size ≤ length store
  pub all : length store ≤ 65536
  pub blocks : length store ≡ size * blocks_in size store
  pub some : 1 ≤ blocks_in size store

small_sizes : (size : ℕ) → IsBlockSize size → (4 ≤ size) × (size ≤ 32) × (size % 4 ≡ 0)
small_sizes size (inl e) = (omega arith, omega arith, omega arith)
small_sizes size (inr (inl e)) = (omega arith, omega arith, omega arith)
small_sizes size (inr (inr (inl e))) = (omega arith, omega arith, omega arith)
small_sizes size (inr (inr (inr e))) = (omega arith, omega arith, omega arith)

pub sizes : (size : ℕ) (store : List ℕ) → IsT5Store size store → Sizes size store
sizes size store is =
    let small = small_sizes size is.sized in
    let blocks : size * (length store / size) + length store % size ≡ length store = div-add-mod (length store) size in
    let low = mul-le-mul_left size is.least in
    record {
      least = small.0;
      most = small.1;
      multiple = small.2;
      one = omega (arith, is.whole, low, blocks);
      all = is.most;
      blocks = omega (arith, is.whole, blocks);
      some = is.least;
    }

-- whether more is needed is decided
pub needs_decided : (size : ℕ) (known : List ℕ) (r : Result T5Container ContainerFault) → 1 ≤ size → t5_front known ≡ r → NeedsBlocks size known r ⊎ (NeedsBlocks size known r → ⊥)
needs_decided size known (Ok More) some is = inl tt
needs_decided size known (Err f) some is = inr (λ needs. needs)
needs_decided size known (Ok (Ready space wide many)) some is =
    let names = is_named known (record { space = space; wide = wide; many = many }) (front_ready known space wide many is) in
    needing (t5_reach size (record { space = space; wide = wide; many = many })) known (reach_area size known (record { space = space; wide = wide; many = many }) some names).order

due_decided : (id : List ℕ) (size : ℕ) (store : List ℕ) (n : ℕ) → 1 ≤ size → 0 < n → IsDue (T5 id) size store n ⊎ (IsDue (T5 id) size store n → ⊥)
due_decided id size store n some later =
    let p : Progress = progress_at size store n in
    elim (cases_lt (length store) (size * p.blocks)) [
      | inl short ↦ inr (λ due. past short due)
      | inr within ↦ elim (needs_decided size (known_at size store p) (t5_front (known_at size store p)) some refl) [
        | inl needs ↦ inl (inr (record { within = omega arith; needs = needs }))
        | inr none ↦ inr (λ due. settled none due)
      ]
    ]
  where
    past : length store < size * (progress_at size store n).blocks → IsDue (T5 id) size store n → ⊥
    past short (inl first) = omega arith
    past short (inr due) = (let within = due.within in omega (arith, within, short))

    settled : (NeedsBlocks size (known_at size store (progress_at size store n)) (t5_front (known_at size store (progress_at size store n))) → ⊥) → IsDue (T5 id) size store n → ⊥
    settled none (inl first) = omega arith
    settled none (inr due) = none due.needs

-- each command brings blocks, or shows that several at once are refused
abbrev pub left_of : List ℕ → Progress → ℕ
left_of store p = (length store + 1 - p.blocks) + (length store + 1 - p.blocks) + (if p.single then 0 else 1)

many_free : (size : ℕ) (single : Bool) (block : ℕ) (r : Result T5Container ContainerFault) → IsMany (ask_by size single block r) → single ≡ false
many_free size single block (Ok More) many = absurd many
many_free size single block (Err f) many = absurd many
many_free size true block (Ok (Ready space wide many')) many = absurd (by_flag many' many)
  where
    by_flag : (m : Bool) → IsMany (ask_by size true block (Ok (Ready space wide m))) → ⊥
    by_flag true is = is
    by_flag false is = is
many_free size false block (Ok (Ready space wide many')) many = refl

pub many_single : (size : ℕ) (single : Bool) (known : List ℕ) → IsMany (next_ask size single known) → single ≡ false
many_single size single known many = many_free size single (length known / size) (t5_front known) many

pub less_left : (size : ℕ) (store : List ℕ) (p : Progress) (a : Ask) → p.blocks ≤ length store → (IsMany a → p.single ≡ false) → left_of store (progress_behind size store p a) < left_of store p
less_left size store p (One block) low free = by_flag p.single
  where
    by_flag : (v : Bool) → (length store + 1 - (p.blocks + 1)) + (length store + 1 - (p.blocks + 1)) + (if v then 0 else 1)
        < (length store + 1 - p.blocks) + (length store + 1 - p.blocks) + (if v then 0 else 1)
    by_flag true = omega (arith, low)
    by_flag false = omega (arith, low)
less_left size store p (Many block more) low free = by_end (nat_le (blocks_in size store) (block + more))
  where
    here : left_of store p ≡ (length store + 1 - p.blocks) + (length store + 1 - p.blocks) + 1
    here = ap (λ v. (length store + 1 - p.blocks) + (length store + 1 - p.blocks) + (if v then 0 else 1)) (free tt)

    by_end : (v : Bool) → left_of store (if v then record p { single = true } else record p { blocks = p.blocks + (more + 1) }) < left_of store p
    by_end true = omega (arith, here)
    by_end false =
        let there : left_of store (record p { blocks = p.blocks + (more + 1) }) ≡ (length store + 1 - (p.blocks + (more + 1))) + (length store + 1 - (p.blocks + (more + 1))) + 1 =
        ap (λ v. (length store + 1 - (p.blocks + (more + 1))) + (length store + 1 - (p.blocks + (more + 1))) + (if v then 0 else 1)) (free tt) in
        omega (arith, here, there, low)

list_from : (id : List ℕ) (size : ℕ) (store : List ℕ) → 1 ≤ size → (fuel n : ℕ) → 0 < n → left_of store (progress_at size store n) < fuel → AreDue (T5 id) size store n →
    (xs : List Signal) × IsAsked (T5 id) size store xs
list_from id size store some zero n later less each = absurd (omega (arith, less))
list_from id size store some (suc fuel) n later less each = elim (due_decided id size store n some later) [
  | inr none ↦ asked_all (T5 id) size store n each none
  | inl due ↦
      (let p : Progress = progress_at size store n in
      let more : AreDue (T5 id) size store (n + 1) = due_more (T5 id) size store n each due in
      let e : n + 1 ≡ suc n = omega arith in
      let within : size * p.blocks ≤ length store = in_store due in
      let low : p.blocks ≤ length store = below p.blocks within in
      let step = less_left size store p (ask_at size store p) low (many_single size p.single (known_at size store p)) in
      list_from id size store some fuel (suc n) (omega arith) (omega (arith, step, less)) (subst (λ m. AreDue (T5 id) size store m) e more))
]
  where
    in_store : IsDue (T5 id) size store n → size * (progress_at size store n).blocks ≤ length store
    in_store (inl first) = absurd (omega arith)
    in_store (inr due) = due.within

    below : (b : ℕ) → size * b ≤ length store → b ≤ length store
    below b within = (let grown : 1 * b ≤ size * b = Rattle.std.proofs.Math.Nat.mul-le-mul_right b some in omega (arith, grown, within))

pub blocks_asked : (id : List ℕ) (size : ℕ) (store : List ℕ) → IsT5Store size store → (xs : List Signal) × IsAsked (T5 id) size store xs
blocks_asked id size store is =
    let facts = sizes size store is in
    list_from id size store (omega (arith, facts.least)) (suc (left_of store (progress_at size store 1))) 1 (omega arith) (omega arith) (one_due (T5 id) size store)
