-- Several blocks at once, of a Type 5 tag: whether they were refused, and that each is asked for alone then.
use Rattle.std.proofs.Common.{◌≡◌, ℕ, zero, suc, ◌+◌, ◌-◌, ◌<◌, inl, inr, List, Bool, true, false, nat_le, if◌then◌else◌, refl, sym, ◌∙◌, subst, arith}
use Rattle.std.proofs.lemmas.Bool.{cases_Bool, le-leb, leb-true}
use Rattle.t5t_tag.specs.Store.{blocks_in}
use Rattle.tag_reader.specs.declared.ask.Ask.{Ask}
use Rattle.tag_reader.specs.declared.ask.Ask.TheVariants.{One, Many}
use Rattle.tag_reader.specs.Blocks.{IsMany, Progress, known_at, ask_at, progress_behind, progress_at}
use Rattle.tag_reader.specs.Counts.{IsRefused, IsRefusedAt}
use Rattle.tag_reader.proofs.BlockLists.{many_single}

-- once several blocks were refused, each is asked for alone
pub behind_single : (size : ℕ) (store : List ℕ) (p : Progress) (a : Ask) → p.single ≡ true → (progress_behind size store p a).single ≡ true
behind_single size store p (One block) is = is
behind_single size store p (Many block more) is = by_end (nat_le (blocks_in size store) (block + more))
  where
    by_end : (v : Bool) → (if v then record p { single = true } else record p { blocks = p.blocks + (more + 1) }).single ≡ true
    by_end true = refl
    by_end false = is

single_stays : (size : ℕ) (store : List ℕ) (j m : ℕ) → (progress_at size store j).single ≡ true → (progress_at size store (m + j)).single ≡ true
single_stays size store j zero is = let e : 0 + j ≡ j = omega arith in subst (λ k. (progress_at size store k).single ≡ true) (sym e) is
single_stays size store j (suc m) is =
    let e : suc m + j ≡ suc (m + j) = omega arith in
    subst (λ k. (progress_at size store k).single ≡ true) (sym e)
    (behind_single size store (progress_at size store (m + j)) (ask_at size store (progress_at size store (m + j))) (single_stays size store j m is))

pub refused_single : (size : ℕ) (store : List ℕ) (p : Progress) (a : Ask) → IsRefused size store a → (progress_behind size store p a).single ≡ true
refused_single size store p (One block) is = absurd is
refused_single size store p (Many block more) is = (let past : nat_le (blocks_in size store) (block + more) ≡ true = le-leb (blocks_in size store) (block + more) is in rw past refl)

pub refused_many : (size : ℕ) (store : List ℕ) (a : Ask) → IsRefused size store a → IsMany a
refused_many size store (One block) is = is
refused_many size store (Many block more) is = tt

pub once : (size : ℕ) (store : List ℕ) (j k : ℕ) → j < k → IsRefusedAt size store j → IsRefusedAt size store k → ⊥
once size store j k low one two =
    let p : Progress = progress_at size store k in
    let first : (progress_at size store (suc j)).single ≡ true = refused_single size store (progress_at size store j) (ask_at size store (progress_at size store j)) one in
    let e : (k - suc j) + suc j ≡ k = omega (arith, low) in
    let after : p.single ≡ true = subst (λ i. (progress_at size store i).single ≡ true) e (single_stays size store (suc j) (k - suc j) first) in
    let before : p.single ≡ false = many_single size p.single (known_at size store p) (refused_many size store (ask_at size store p) two) in
    let clash : true ≡ false = sym after ∙ before in
    cc

-- where none was refused, several may be asked for
pub behind_none : (size : ℕ) (store : List ℕ) (p : Progress) (a : Ask) → (IsRefused size store a → ⊥) → p.single ≡ false → (progress_behind size store p a).single ≡ false
behind_none size store p (One block) none is = is
behind_none size store p (Many block more) none is = elim (cases_Bool (nat_le (blocks_in size store) (block + more))) [
  | inl past ↦ absurd (none (leb-true (blocks_in size store) (block + more) past))
  | inr low ↦ rw low is
]

pub none_single : (size : ℕ) (store : List ℕ) (n : ℕ) → ((k : ℕ) → k < n → IsRefusedAt size store k → ⊥) → (progress_at size store n).single ≡ false
none_single size store zero none = refl
none_single size store (suc n) none =
    behind_none size store (progress_at size store n) (ask_at size store (progress_at size store n)) (none n (omega arith)) (none_single size store n (λ k low. none k (omega (arith, low))))
