-- A reading of a Type 5 tag takes few commands.
use Rattle.std.proofs.Common.{◌≡◌, ℕ, zero, suc, ◌*◌, ◌/◌, ◌%◌, ◌<◌, ◌≤◌, inl, inr, ◌⊎◌, List, [], length, take, Bool, true, false, nat_lt, ◌==◌, refl, sym, ◌∙◌, ap, subst, arith}
use Rattle.std.specs.Prelude.{slice_index, Result, Ok, Err}
use Rattle.std.proofs.lemmas.Bool.{cases_lt, cases_Bool, ltb-false}
use Rattle.std.proofs.lemmas.List.{length-take-le, get_or-take}
use Rattle.std.proofs.Math.Nat.{mul-div_cancel_left}
use Rattle.nfc_base.specs.TagLinks.{LinkView}
use Rattle.t5t_tag.specs.Store.{IsT5Store}
use Rattle.tlv_area.specs.declared.container.ContainerFault.{ContainerFault}
use Rattle.tlv_area.specs.declared.container.T5Container.{T5Container}
use Rattle.tlv_area.specs.declared.container.T5Container.TheVariants.{Ready, More}
use Rattle.tlv_area.specs.Containers.{t5_front, t5_is_open, t5_ready, t5_container}
use Rattle.tlv_area.proofs.FrontContainers.{front_ready, is_named}
use Rattle.tag_reader.specs.declared.how.How.{How}
use Rattle.tag_reader.specs.declared.how.How.TheVariants.{T2, T4, T5}
use Rattle.tag_reader.specs.Blocks.{IsOne, Progress, ask_by, known_at, ask_at, progress_at, AreaGoesOn}
use Rattle.tag_reader.specs.Asked.{Aim, ToRead, ToWrite, AreDueFor, IsSurveyed, AreSurveyed}
use Rattle.tag_reader.specs.Counts.{IsFew, AsksFew}
use Rattle.tag_reader.proofs.BlockLists.{sizes}
use Rattle.tag_reader.proofs.BlockSingles.{once, none_single}
use Rattle.tag_reader.proofs.BlockSeldom.{due_surveyed, asks_listed, asked_once, asked_seldom}

-- what is asked for alone then
alone : (size block : ℕ) (r : Result T5Container ContainerFault) → IsOne (ask_by size false block r) → ((f : ContainerFault) → r ≡ Err f → ⊥)
    → ((space : _) (wide many : Bool) → r ≡ Ok (Ready space wide many) → many ≡ true) →
    (r ≡ Ok More) ⊎ (256 ≤ block)
alone size block (Ok More) one faultless allows = inl refl
alone size block (Err f) one faultless allows = absurd (faultless f refl)
alone size block (Ok (Ready space wide many)) one faultless allows = elim (cases_Bool (nat_lt block 256)) [
  | inr high ↦ inr (ltb-false block 256 high)
  | inl low ↦ (let m : many ≡ true = allows space wide many refl in let h = rw (m, low) at one in absurd h)
]

front_open : (bytes : List ℕ) → t5_front bytes ≡ Ok More → t5_is_open bytes ≡ true
front_open bytes is = elim (cases_Bool (t5_is_open bytes)) [
  | inl open' ↦ open'
  | inr closed ↦ (let h = rw closed at is in absurd (never (t5_container bytes) h))
]
  where
    never : (r : Result _ ContainerFault) → t5_ready r ≡ Ok More → ⊥
    never (Ok area) e = cc
    never (Err f) e = cc

pub is_few : (id : List ℕ) (size : ℕ) (store : List ℕ) (n : ℕ) → IsT5Store size store → AreSurveyed (T5 id) size store n → IsFew id size store n
is_few id size store n is each = record {
  list = asks_listed id size store n;
  refused = λ j k low low' one two. elim (cases_lt j k) [
    | inl less ↦ absurd (once size store j k less one two)
    | inr more ↦ elim (cases_lt k j) [
      | inl less ↦ absurd (once size store k j less two one)
      | inr rest ↦ omega (arith, more, rest)
    ]
  ];
  once = asked_once size store n;
  seldom = asked_seldom id size store n is each;
  singles = λ allows none k low one. here allows k (none_single size store k (λ i less. none i (omega (arith, less, low)))) (each k low) one;
}
  where
    here : slice_index store 3 % 2 ≡ 1 → (k : ℕ) → (progress_at size store k).single ≡ false → IsSurveyed (T5 id) size store k → IsOne (ask_at size store (progress_at size store k)) →
        (t5_is_open (known_at size store (progress_at size store k)) ≡ true) ⊎ (256 ≤ (progress_at size store k).blocks)
    here allows k free due one =
        let p : Progress = progress_at size store k in
        let known : List ℕ = known_at size store p in
        let facts = sizes size store is in
        let within : size * p.blocks ≤ length store = within_at k due in
        let long : length known ≡ size * p.blocks = length-take-le (size * p.blocks) store within in
        let block : length known / size ≡ p.blocks = ap (λ m. m / size) long ∙ mul-div_cancel_left p.blocks (omega (arith, facts.least)) in
        let single : IsOne (ask_by size false p.blocks (t5_front known)) = subst (λ b. IsOne (ask_by size false b (t5_front known))) block
        (subst (λ v. IsOne (ask_by size v (length known / size) (t5_front known))) free one) in
        elim (alone size p.blocks (t5_front known) single (faultless k due) (says k)) [
          | inl open' ↦ inl (front_open known open')
          | inr high ↦ inr high
        ]
      where
        within_at : (i : ℕ) → IsSurveyed (T5 id) size store i → size * (progress_at size store i).blocks ≤ length store
        within_at zero d = (let none : size * 0 ≡ 0 = omega arith in omega (arith, none))
        within_at (suc i) (inl e) = absurd (omega arith)
        within_at (suc i) (inr d) = d.within

        faultless : (i : ℕ) → IsSurveyed (T5 id) size store i → (f : ContainerFault) → t5_front (known_at size store (progress_at size store i)) ≡ Err f → ⊥
        faultless zero d f e =
            let none : size * 0 ≡ 0 = omega arith in
            let empty : take (size * 0) store ≡ [] = ap (λ m. take m store) none in
            let clash : Ok More ≡ Err f = sym (ap (λ xs. t5_front xs) empty) ∙ e in
            cc
        faultless (suc i) (inl d) f e = omega arith
        faultless (suc i) (inr d) f e = subst (λ r. AreaGoesOn size (size * (progress_at size store (suc i)).blocks) r) e d.more

        says : (i : ℕ) (space : _) (wide many : Bool) → t5_front (known_at size store (progress_at size store i)) ≡ Ok (Ready space wide many) → many ≡ true
        says i space wide many e =
            let xs : List ℕ = known_at size store (progress_at size store i) in
            let named = is_named xs (record { space = space; wide = wide; many = many }) (front_ready xs space wide many e) in
            let far : 3 < size * (progress_at size store i).blocks =
            (let most : length xs ≤ size * (progress_at size store i).blocks = omega (arith, Rattle.std.proofs.lemmas.List.length-take (size * (progress_at size store i).blocks) store) in
            omega (arith, named.within, named.least, most)) in
            let byte : slice_index xs 3 ≡ slice_index store 3 = get_or-take (size * (progress_at size store i).blocks) store 3 0 far in
            let flag : (slice_index xs 3 % 2 == 1) ≡ true = rw (byte, allows) refl in
            sym (ap (λ a. a.many) named.is) ∙ flag

few_by : (aim : Aim) (id : List ℕ) (size : ℕ) (store : List ℕ) (n : ℕ) → IsT5Store size store → AreDueFor aim (T5 id) size store n → IsFew id size store n
few_by ToRead id size store n is each =
    (let least = (sizes size store is).least in is_few id size store n is (λ k low. due_surveyed id size store k (omega (arith, least)) (each k low)))
few_by ToWrite id size store n is each = is_few id size store n is each

pub few_of : (aim : Aim) (how : How) (a : LinkView) → AsksFew aim how a
few_of aim T2 a size is n each = tt
few_of aim T4 a size is n each = tt
few_of aim (T5 id) a size is n each = few_by aim id size a.state.store n is.store each
