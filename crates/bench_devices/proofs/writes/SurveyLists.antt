-- Each device has a list of what is asked of it before a write.
use Rattle.std.proofs.Common.{◌≡◌, ℕ, zero, suc, ◌+◌, ◌-◌, ◌*◌, ◌<◌, ◌≤◌, inl, inr, ◌⊎◌, List, length, refl, sym, ◌∙◌, ap, subst, arith}
use Rattle.std.specs.Prelude.{Result, Ok, Err}
use Rattle.std.proofs.lemmas.Bool.{cases_lt}
use Rattle.std.proofs.Math.Nat.{mul-le-mul_right}
use Rattle.nfc_base.specs.Signal.{Signal}
use Rattle.t5t_tag.specs.Store.{IsT5Store}
use Rattle.tlv_area.specs.declared.container.ContainerFault.{ContainerFault}
use Rattle.tlv_area.specs.declared.container.FileMap.{FileMap}
use Rattle.tlv_area.specs.declared.container.T5Container.{T5Container}
use Rattle.tlv_area.specs.declared.container.T5Container.TheVariants.{Ready, More}
use Rattle.tlv_area.specs.declared.space.Space.{Space}
use Rattle.tlv_area.specs.Containers.{t4_container, t5_front}
use Rattle.tlv_area.specs.Stores.{t5_reach}
use Rattle.tag_reader.specs.declared.how.How.{How}
use Rattle.tag_reader.specs.declared.how.How.TheVariants.{T2, T4, T5}
use Rattle.tag_reader.specs.Kinds.{area_of, first}
use Rattle.tag_reader.specs.Blocks.{Progress, known_at, ask_at, progress_at, AreaGoesOn}
use Rattle.tag_reader.specs.Files.{container_in}
use Rattle.tag_reader.specs.Asked.{ToWrite, IsLeft, IsDueFor, AreDueFor, IsAskedFor}
use Rattle.tag_reader.proofs.Knowing.{due_more_for}
use Rattle.tag_reader.proofs.BlockLists.{sizes, left_of, less_left, many_single}

-- it goes on behind the first so many commands, or it doesn't
abbrev pub Decided : Type 0 → Type 0
Decided P = P ⊎ (P → ⊥)

-- The commands up to where it doesn't go on any more, which it does with less and less left.
module _ (how : How) (size : ℕ) (store : List ℕ) (decide : (n : ℕ) → 0 < n → Decided (IsLeft how size store n)) (left : ℕ → ℕ)
    (less : (n : ℕ) → 0 < n → IsLeft how size store n → left (suc n) < left n) where
  list_from : (fuel n : ℕ) → 0 < n → left n < fuel → AreDueFor ToWrite how size store n → (xs : List Signal) × IsAskedFor ToWrite how size store xs
  list_from zero n some few each = absurd (omega (arith, few))
  list_from (suc fuel) n some few each = elim (decide n some) [
    | inl due ↦
        (let e : n + 1 ≡ suc n = omega arith in
        let step = less n some due in
        list_from fuel (suc n) (omega arith) (omega (arith, step, few)) (subst (AreDueFor ToWrite how size store) e (due_more_for ToWrite how size store n each (inr due))))
    | inr none ↦ (first how size store n, record { count = n; list = refl; each = each; no_more = no_more none })
  ]
    where
      no_more : (IsLeft how size store n → ⊥) → IsDueFor ToWrite how size store n → ⊥
      no_more none (inl e) = omega (arith, e, some)
      no_more none (inr due) = none due

  some_list : (xs : List Signal) × IsAskedFor ToWrite how size store xs
  some_list = list_from (suc (left 1)) 1 (omega arith) (omega arith) (λ k low. inl (omega (arith, low)))

-- Of a Type 2 tag the area goes on up to its end.
two_decided : (size : ℕ) (store : List ℕ) (r : Result Space ContainerFault) → area_of T2 size store ≡ r → (n : ℕ) → 0 < n → Decided (IsLeft T2 size store n)
two_decided size store (Err f) has n some = inr (λ m. (let clash : Ok m.space ≡ Err f = sym m.area ∙ has in cc))
two_decided size store (Ok space) has n some = elim (cases_lt (size * n) space.end) [
  | inl more ↦ inl (record { space = space; area = has; more = more })
  | inr past ↦ inr (λ m. (let both : Ok m.space ≡ Ok space = sym m.area ∙ has in let same : m.space ≡ space = cc in omega (arith, m.more, ap (λ s. s.end) same, past)))
]

end_of : Result Space ContainerFault → ℕ
end_of (Err f) = 0
end_of (Ok space) = space.end

two_less : (size : ℕ) (store : List ℕ) (r : Result Space ContainerFault) → area_of T2 size store ≡ r → size ≡ 16 → (n : ℕ) → 0 < n → IsLeft T2 size store n → end_of r + 1 - suc n < end_of r + 1 - n
unfolding end_of
two_less size store (Err f) has sixteen n some m = absurd (let clash : Ok m.space ≡ Err f = sym m.area ∙ has in cc)
two_less size store (Ok space) has sixteen n some m =
    let both : Ok m.space ≡ Ok space = sym m.area ∙ has in
    let same : m.space ≡ space = cc in
    let more : 16 * n < space.end = subst (λ k. k * n < space.end) sixteen (omega (arith, m.more, ap (λ s. s.end) same)) in
    omega (arith, more)

-- Of a Type 4 tag at most five commands.
four_decided : (size : ℕ) (store : List ℕ) (r : Result FileMap ContainerFault) → t4_container (container_in store) ≡ r → (n : ℕ) → 0 < n → Decided (IsLeft T4 size store n)
four_decided size store r has zero some = absurd (omega (arith, some))
four_decided size store r has (suc zero) some = inl (tt, omega arith)
four_decided size store r has (suc (suc zero)) some = inl (tt, omega arith)
four_decided size store (Ok map') has (suc (suc (suc zero))) some = inl ((map', has), omega arith)
four_decided size store (Err f) has (suc (suc (suc zero))) some = inr (λ m. (let clash : Ok m.0.0 ≡ Err f = sym m.0.1 ∙ has in cc))
four_decided size store (Ok map') has (suc (suc (suc (suc zero)))) some = inl ((map', has), omega arith)
four_decided size store (Err f) has (suc (suc (suc (suc zero)))) some = inr (λ m. (let clash : Ok m.0.0 ≡ Err f = sym m.0.1 ∙ has in cc))
four_decided size store r has (suc (suc (suc (suc (suc n))))) some = inr (λ m. omega (arith, m.1))

-- Of a Type 5 tag the blocks up to the area's end or the tag's.
goes_decided : (size known : ℕ) (r : Result T5Container ContainerFault) → Decided (AreaGoesOn size known r)
goes_decided size known (Ok More) = inl tt
goes_decided size known (Err f) = inr (λ goes. goes)
goes_decided size known (Ok (Ready space wide many)) = elim (cases_lt known (t5_reach size (record { space = space; wide = wide; many = many })).end) [
  | inl more ↦ inl more
  | inr past ↦ inr (λ more. omega (arith, more, past))
]

five_decided : (id : List ℕ) (size : ℕ) (store : List ℕ) (n : ℕ) → 0 < n → Decided (IsLeft (T5 id) size store n)
five_decided id size store n some =
    let p : Progress = progress_at size store n in
    elim (cases_lt (length store) (size * p.blocks)) [
      | inl short ↦ inr (λ m. (let within = m.within in omega (arith, within, short)))
      | inr within ↦ elim (goes_decided size (size * p.blocks) (t5_front (known_at size store p))) [
        | inl more ↦ inl (record { within = omega (arith, within); more = more })
        | inr none ↦ inr (λ m. none m.more)
      ]
    ]

five_less : (id : List ℕ) (size : ℕ) (store : List ℕ) → 1 ≤ size → (n : ℕ) → 0 < n → IsLeft (T5 id) size store n
    → left_of store (progress_at size store (suc n)) < left_of store (progress_at size store n)
five_less id size store least n some m =
    let p : Progress = progress_at size store n in
    let grown : 1 * p.blocks ≤ size * p.blocks = mul-le-mul_right p.blocks least in
    let low : p.blocks ≤ length store = (let within = m.within in omega (arith, grown, within)) in
    less_left size store p (ask_at size store p) low (many_single size p.single (known_at size store p))

pub two_surveyed : (size : ℕ) (store : List ℕ) → size ≡ 16 → (xs : List Signal) × IsAskedFor ToWrite T2 size store xs
two_surveyed size store sixteen =
    some_list T2 size store (two_decided size store (area_of T2 size store) refl) (λ n. end_of (area_of T2 size store) + 1 - n) (two_less size store (area_of T2 size store) refl sixteen)

pub four_surveyed : (size : ℕ) (store : List ℕ) → (xs : List Signal) × IsAskedFor ToWrite T4 size store xs
four_surveyed size store =
    some_list T4 size store (four_decided size store (t4_container (container_in store)) refl) (λ n. 5 - n) (λ n some m. omega (arith, m.1))

pub five_surveyed : (id : List ℕ) (size : ℕ) (store : List ℕ) → IsT5Store size store → (xs : List Signal) × IsAskedFor ToWrite (T5 id) size store xs
five_surveyed id size store is =
    let facts = sizes size store is in
    some_list (T5 id) size store (five_decided id size store) (λ n. left_of store (progress_at size store n)) (five_less id size store (omega (arith, facts.least)))
