-- A Type 5 tag is asked for several blocks at once as seldom as 256 bytes an answer allow.
use Rattle.std.proofs.Common.{◌≡◌, ℕ, zero, suc, ◌+◌, ◌-◌, ◌*◌, ◌/◌, ◌%◌, ◌<◌, ◌≤◌, inl, inr, ◌⊎◌, List, [], ◌∷◌, ◌++◌, length, take, drop, Bool, true, false, nat_le, nat_lt, if◌then◌else◌}
use Rattle.std.proofs.Common.{append-nil, refl, sym, ◌∙◌, ap, subst, arith}
use Rattle.std.specs.Prelude.{min, not, ◌&&◌, map, Result, Ok, Err}
use Rattle.std.specs.Int.{div_ceil}
use Rattle.std.proofs.lemmas.Bool.{cases_lt, cases_Bool, ltb-true, lt-leb, and_parts}
use Rattle.std.proofs.lemmas.List.{length-append, length-take-le, map-append}
use Rattle.std.proofs.lemmas.List.Elements.{filter-append}
use Rattle.std.proofs.lemmas.List.Sums.{sum_by-append}
use Rattle.std.proofs.lemmas.Grind.{div_ceil_times}
use Rattle.std.proofs.Math.Nat.{div-add-mod, mod-lt, mul-add, mul_comm, mul-div_cancel_left, le-div_iff_mul-le, lt_of_mul-lt-mul_left, lt_of_mul-lt-mul_right}
use Rattle.std.proofs.Math.Seq.{take-add}
use Rattle.t5t_tag.specs.Store.{IsT5Store, blocks_in}
use Rattle.tlv_area.specs.declared.space.Space.{Space}
use Rattle.tlv_area.specs.declared.container.ContainerFault.{ContainerFault}
use Rattle.tlv_area.specs.declared.container.T5Container.{T5Container}
use Rattle.tlv_area.specs.declared.container.T5Container.TheVariants.{Ready, More}
use Rattle.tlv_area.specs.Containers.{T5Area, t5_front, t5_is_open}
use Rattle.tlv_area.specs.Stores.{t5_reach}
use Rattle.tlv_area.specs.Writing.{blocks_below}
use Rattle.tlv_area.proofs.Cuts.{none_unknown}
use Rattle.tlv_area.proofs.FrontContainers.{front_ready, is_named, reach_area}
use Rattle.tlv_area.proofs.FrontGrown.{front_grown}
use Rattle.tag_reader.specs.declared.how.How.TheVariants.{T5}
use Rattle.tag_reader.specs.declared.ask.Ask.{Ask}
use Rattle.tag_reader.specs.declared.ask.Ask.TheVariants.{One, Many}
use Rattle.tag_reader.specs.Blocks.{IsOne, IsMany, Progress, ask_frame, ask_by, ask_count, most_blocks, known_at, ask_at, progress_behind, progress_at, NeedsBlocks, AreaGoesOn}
use Rattle.tag_reader.specs.Kinds.{command, first}
use Rattle.tag_reader.specs.Asked.{IsDue, IsSurveyed, AreSurveyed}
use Rattle.tag_reader.specs.Counts.{IsRefused, IsRefusedAt, first_asks, several, blocks_asked, is_many}
use Rattle.tag_reader.proofs.BlockLists.{Sizes, sizes, many_single}
use Rattle.tag_reader.proofs.BlockSingles.{behind_single}

-- what is due lies in the store
pub due_within : (id : List ℕ) (size : ℕ) (store : List ℕ) (n : ℕ) → IsSurveyed (T5 id) size store n → size * (progress_at size store n).blocks ≤ length store
due_within id size store zero d = (let none : size * 0 ≡ 0 = omega arith in omega (arith, none))
due_within id size store (suc n) (inl e) = absurd (omega arith)
due_within id size store (suc n) (inr d) = d.within

pub next_block : (size : ℕ) (store : List ℕ) (p : Progress) → 1 ≤ size → size * p.blocks ≤ length store → length (known_at size store p) / size ≡ p.blocks
next_block size store p some within = ap (λ m. m / size) (length-take-le (size * p.blocks) store within) ∙ mul-div_cancel_left p.blocks (omega (arith, some))

-- several blocks at once are asked for by a container that allows it
record IsSeveral (size block : ℕ) (r : Result T5Container ContainerFault) (a : Ask) : Type 0 where
  pub space : Space
  pub wide : Bool
  pub many : Bool
  pub ready : r ≡ Ok (Ready space wide many)
  pub low : block < 256
  pub ask : a ≡ Many block (most_blocks size space.end block - 1)

several_by : (size : ℕ) (single : Bool) (block : ℕ) (r : Result T5Container ContainerFault) → IsMany (ask_by size single block r) → IsSeveral size block r (ask_by size single block r)
several_by size single block (Ok More) is = absurd is
several_by size single block (Err f) is = absurd is
several_by size single block (Ok (Ready space wide many)) is = elim (cases_Bool (many && not single && nat_lt block 256)) [
  | inr denies ↦ (let h = rw denies at is in absurd h)
  | inl allows ↦
      (let parts = and_parts (many && not single) (nat_lt block 256) allows in
      record {
        space = space;
        wide = wide;
        many = many;
        ready = refl;
        low = ltb-true block 256 parts.1;
        ask = rw allows refl;
      })
]

several_at : (size : ℕ) (store : List ℕ) (p : Progress) → 1 ≤ size → size * p.blocks ≤ length store → IsMany (ask_at size store p)
    → IsSeveral size p.blocks (t5_front (known_at size store p)) (ask_at size store p)
several_at size store p some within is =
    subst (λ b. IsSeveral size b (t5_front (known_at size store p)) (ask_at size store p)) (next_block size store p some within)
    (several_by size p.single (length (known_at size store p) / size) (t5_front (known_at size store p)) is)

-- the least of three
least_is : (x y z : ℕ) → (min x (min y z) ≡ x) ⊎ ((min x (min y z) ≡ y) ⊎ (min x (min y z) ≡ z))
least_is x y z = elim (cases_lt y z) [
  | inl low ↦ elim (cases_lt x y) [
    | inl less ↦ inl (omega (arith, low, less))
    | inr more ↦ inr (inl (omega (arith, low, more)))
  ]
  | inr high ↦ elim (cases_lt x z) [
    | inl less ↦ inl (omega (arith, high, less))
    | inr more ↦ inr (inr (omega (arith, high, more)))
  ]
]

-- No several blocks at once are asked for any more: they were refused, one-byte numbers are used up, or nothing more is needed.
abbrev IsOver : List ℕ → ℕ → List ℕ → ℕ → Type 0
IsOver id size store n = ((progress_at size store n).single ≡ true) ⊎ ((256 ≤ (progress_at size store n).blocks) ⊎ (IsSurveyed (T5 id) size store n → ⊥))

over_none : (id : List ℕ) (size : ℕ) (store : List ℕ) (n : ℕ) → 1 ≤ size → IsSurveyed (T5 id) size store n → IsOver id size store n → IsMany (ask_at size store (progress_at size store n)) → ⊥
over_none id size store n some due (inl single) is =
    let p : Progress = progress_at size store n in
    let free : p.single ≡ false = many_single size p.single (known_at size store p) is in
    let clash : true ≡ false = sym single ∙ free in
    cc
over_none id size store n some due (inr (inl high)) is =
    (let p : Progress = progress_at size store n in let s = several_at size store p some (due_within id size store n due) is in omega (arith, high, s.low))
over_none id size store n some due (inr (inr none)) is = none due

blocks_grow : (size : ℕ) (store : List ℕ) (p : Progress) (a : Ask) → p.blocks ≤ (progress_behind size store p a).blocks
blocks_grow size store p (One block) = omega arith
blocks_grow size store p (Many block more) = by_end (nat_le (blocks_in size store) (block + more))
  where
    by_end : (v : Bool) → p.blocks ≤ (if v then record p { single = true } else record p { blocks = p.blocks + (more + 1) }).blocks
    by_end true = omega arith
    by_end false = omega arith

over_stays : (id : List ℕ) (size : ℕ) (store : List ℕ) (n : ℕ) → IsSurveyed (T5 id) size store n → IsOver id size store n → IsOver id size store (suc n)
over_stays id size store n due (inl single) = inl (behind_single size store (progress_at size store n) (ask_at size store (progress_at size store n)) single)
over_stays id size store n due (inr (inl high)) = inr (inl (omega (arith, high, blocks_grow size store (progress_at size store n) (ask_at size store (progress_at size store n)))))
over_stays id size store n due (inr (inr none)) = absurd (none due)

-- where less is known than the area has, the area goes on
end_below : (size end : ℕ) → 1 ≤ size → end ≤ size * blocks_below size end
end_below size end some =
    let parts : size * blocks_below size end + (end + size - 1) % size ≡ end + size - 1 = div-add-mod (end + size - 1) size in
    let low : (end + size - 1) % size < size = mod-lt (end + size - 1) (omega (arith, some)) in
    omega (arith, parts, low, some)

not_open : (known : List ℕ) (space : Space) (wide many : Bool) → t5_front known ≡ Ok (Ready space wide many) → t5_is_open known ≡ false
not_open known space wide many ready = elim (cases_Bool (t5_is_open known)) [
  | inr closed ↦ closed
  | inl open' ↦ (let h = rw open' at ready in absurd (cc))
]

whole_known : (size : ℕ) (store : List ℕ) (b c : ℕ) (space : Space) (wide many : Bool) → t5_front (take (size * b) store) ≡ Ok (Ready space wide many) → space.end ≤ size * (b + c) →
    AreaGoesOn size (size * (b + c)) (t5_front (take (size * (b + c)) store)) → ⊥
whole_known size store b c space wide many ready all more =
    let known : List ℕ = take (size * b) store in
    let now : List ℕ = take (size * (b + c)) store in
    let grown : now ≡ known ++ take (size * c) (drop (size * b) store) = ap (λ m. take m store) (mul-add size b c) ∙ take-add (size * b) (size * c) store in
    let there : t5_front now ≡ Ok (Ready space wide many) =
    ap (λ xs. t5_front xs) grown ∙ front_grown known (take (size * c) (drop (size * b) store)) (not_open known space wide many ready) ∙ ready in
    let short : AreaGoesOn size (size * (b + c)) (Ok (Ready space wide many)) = subst (λ r. AreaGoesOn size (size * (b + c)) r) there more in
    omega (arith, short, all)

-- where a command is due, the area isn't known whole
due_short : (id : List ℕ) (size : ℕ) (store : List ℕ) (n : ℕ) (space : Space) (wide many : Bool) → IsSurveyed (T5 id) size store n →
    t5_front (known_at size store (progress_at size store n)) ≡ Ok (Ready space wide many) → size * (progress_at size store n).blocks < space.end
due_short id size store n space wide many (inl first) ready =
    let p : Progress = progress_at size store n in
    let known : List ℕ = known_at size store p in
    let none : size * p.blocks ≡ size * 0 = ap (λ k. size * (progress_at size store k).blocks) first in
    let nothing : size * 0 ≡ 0 = omega arith in
    let named = is_named known (record { space = space; wide = wide; many = many }) (front_ready known space wide many ready) in
    let long : length known ≡ size * p.blocks = length-take-le (size * p.blocks) store (due_within id size store n (inl first)) in
    absurd (omega (arith, named.within, named.least, long, none, nothing))
due_short id size store n space wide many (inr due) ready =
    let bytes : ℕ = size * (progress_at size store n).blocks in
    let short : AreaGoesOn size bytes (Ok (Ready space wide many)) = subst (λ r. AreaGoesOn size bytes r) ready due.more in
    omega (arith, short)

-- what a reader asks a writer asks too: where the walk needs more, the area goes on
needs_goes_on : (size : ℕ) (known : List ℕ) (r : Result T5Container ContainerFault) → 1 ≤ size → t5_front known ≡ r → NeedsBlocks size known r → AreaGoesOn size (length known) r
needs_goes_on size known (Ok More) some is needs = tt
needs_goes_on size known (Err f) some is needs = needs
needs_goes_on size known (Ok (Ready space wide many)) some is needs =
    let area : T5Area = record { space = space; wide = wide; many = many } in
    let reach = reach_area size known area some (is_named known area (front_ready known space wide many is)) in
    elim (cases_lt (length known) (t5_reach size area).end) [
      | inl short ↦ short
      | inr all ↦ absurd (none_unknown (t5_reach size area) known reach.order all needs)
    ]

pub due_surveyed : (id : List ℕ) (size : ℕ) (store : List ℕ) (n : ℕ) → 1 ≤ size → IsDue (T5 id) size store n → IsSurveyed (T5 id) size store n
due_surveyed id size store n some (inl first) = inl first
due_surveyed id size store n some (inr due) =
    let known : List ℕ = known_at size store (progress_at size store n) in
    let long : length known ≡ size * (progress_at size store n).blocks = length-take-le (size * (progress_at size store n).blocks) store due.within in
    inr (record { within = due.within; more = subst (λ m. AreaGoesOn size m (t5_front known)) long (needs_goes_on size known (t5_front known) some refl due.needs) })

-- Several blocks are refused, or known then.
behind_by : (size : ℕ) (store : List ℕ) (p : Progress) (block more : ℕ) →
    ((progress_behind size store p (Many block more)).single ≡ true) ⊎ ((progress_behind size store p (Many block more)).blocks ≡ p.blocks + (more + 1))
behind_by size store p block more = by_end (nat_le (blocks_in size store) (block + more))
  where
    by_end : (v : Bool) → ((if v then record p { single = true } else record p { blocks = p.blocks + (more + 1) }).single ≡ true)
        ⊎ ((if v then record p { single = true } else record p { blocks = p.blocks + (more + 1) }).blocks ≡ p.blocks + (more + 1))
    by_end true = inl refl
    by_end false = inr refl

turn_by : (id : List ℕ) (size : ℕ) (store : List ℕ) (n more : ℕ) → ask_at size store (progress_at size store n) ≡ Many (progress_at size store n).blocks more →
    ((progress_at size store (suc n)).blocks ≡ (progress_at size store n).blocks + (more + 1) → IsOver id size store (suc n)) → IsOver id size store (suc n)
turn_by id size store n more is next =
    let p : Progress = progress_at size store n in
    let same : progress_at size store (suc n) ≡ progress_behind size store p (Many p.blocks more) = ap (λ a. progress_behind size store p a) is in
    elim (behind_by size store p p.blocks more) [
      | inl single ↦ inl (ap (λ v. v.single) same ∙ single)
      | inr blocks ↦ next (ap (λ v. v.blocks) same ∙ blocks)
    ]

-- the last blocks of the area
last_turn : (id : List ℕ) (size : ℕ) (store : List ℕ) (n more : ℕ) (space : Space) (wide many : Bool) → 1 ≤ size
    → t5_front (known_at size store (progress_at size store n)) ≡ Ok (Ready space wide many) →
    (progress_at size store n).blocks + (more + 1) ≡ blocks_below size space.end → (progress_at size store (suc n)).blocks ≡ (progress_at size store n).blocks + (more + 1)
    → IsOver id size store (suc n)
last_turn id size store n more space wide many some ready last blocks = inr (inr none)
  where
    none : IsSurveyed (T5 id) size store (suc n) → ⊥
    none (inl first) = omega arith
    none (inr due) =
        let b : ℕ = (progress_at size store n).blocks in
        let same : size * (progress_at size store (suc n)).blocks ≡ size * (b + (more + 1)) = ap (λ k. size * k) blocks in
        let all : size * blocks_below size space.end ≡ size * (b + (more + 1)) = ap (λ k. size * k) (sym last) in
        whole_known size store b (more + 1) space wide many ready (omega (arith, all, end_below size space.end some))
        (subst (λ m. AreaGoesOn size m (t5_front (take m store))) same due.more)

-- Several blocks that are asked for at once are as many as have 256 bytes, or several aren't asked for any more.
record IsTurn (id : List ℕ) (size : ℕ) (store : List ℕ) (n : ℕ) : Type 0 where
  pub some : 1 ≤ ask_count (ask_at size store (progress_at size store n))
  pub full : (ask_count (ask_at size store (progress_at size store n)) ≡ 256 / size) ⊎ IsOver id size store (suc n)

pub most_some : (size : ℕ) → 1 ≤ size → size ≤ 256 → 1 ≤ 256 / size
most_some size some most = (le-div_iff_mul-le {k = size} {x = 1} {y = 256} some).1 (omega (arith, most))

turn_at : (id : List ℕ) (size : ℕ) (store : List ℕ) (n : ℕ) → Sizes size store → IsSurveyed (T5 id) size store n → IsMany (ask_at size store (progress_at size store n)) → IsTurn id size store n
turn_at id size store n facts due is =
    let p : Progress = progress_at size store n in
    let a : Ask = ask_at size store p in
    let some : 1 ≤ size = omega (arith, facts.least) in
    let s = several_at size store p some (due_within id size store n due) is in
    let q : ℕ = 256 / size in
    let e : ℕ = blocks_below size s.space.end in
    let more : ℕ = most_blocks size s.space.end p.blocks - 1 in
    let one : 1 ≤ q = most_some size some (omega (arith, facts.most)) in
    let left : p.blocks < e = lt_of_mul-lt-mul_left size (omega (arith, due_short id size store n s.space s.wide s.many due s.ready, end_below size s.space.end some)) in
    let count : ask_count a ≡ more + 1 = ap ask_count s.ask in
    record {
      some = omega (arith, count);
      full = elim (least_is q (e - p.blocks) (256 - p.blocks)) [
        | inl full ↦ inl (omega (arith, count, full, one))
        | inr (inl last) ↦
            inr (turn_by id size store n more s.ask (last_turn id size store n more s.space s.wide s.many some s.ready (omega (arith, last, left))))
        | inr (inr short) ↦ inr (turn_by id size store n more s.ask (λ blocks. inr (inl (omega (arith, blocks, short, s.low)))))
      ];
    }

-- one command more
several_same : (xs : List Ask) (a : Ask) → IsOne a → several (xs ++ a ∷ []) ≡ several xs
several_same xs (One block) one = filter-append is_many xs (One block ∷ []) ∙ append-nil (several xs)
several_same xs (Many block more) one = absurd one

several_more : (xs : List Ask) (a : Ask) → IsMany a → several (xs ++ a ∷ []) ≡ several xs ++ a ∷ []
several_more xs (One block) many = absurd many
several_more xs (Many block more) many = filter-append is_many xs (Many block more ∷ [])

asked_more : (xs : List Ask) (a : Ask) → blocks_asked (xs ++ a ∷ []) ≡ blocks_asked xs + ask_count a
asked_more xs a = sum_by-append ask_count xs (a ∷ []) ∙ ap (λ k. blocks_asked xs + k) (omega arith)

one_or_many : (a : Ask) → IsOne a ⊎ IsMany a
one_or_many (One block) = inl tt
one_or_many (Many block more) = inr tt

-- All answers to several blocks at once were full, or none follows.
abbrev IsSeldom : List ℕ → ℕ → List ℕ → ℕ → List Ask → Type 0
IsSeldom id size store n asks = (256 / size * length asks ≡ blocks_asked asks) ⊎ ((256 / size * length asks < blocks_asked asks + 256 / size) × IsOver id size store n)

seldom_more : (id : List ℕ) (size : ℕ) (store : List ℕ) (n : ℕ) → Sizes size store → IsSurveyed (T5 id) size store n → IsSeldom id size store n (several (first_asks size store n)) →
    IsSeldom id size store (suc n) (several (first_asks size store (suc n)))
seldom_more id size store n facts due so =
    let a : Ask = ask_at size store (progress_at size store n) in
    let before : List Ask = several (first_asks size store n) in
    elim (one_or_many a) [
      | inl one ↦ subst (λ xs. IsSeldom id size store (suc n) xs) (sym (several_same (first_asks size store n) a one)) (stays so)
      | inr many ↦ subst (λ xs. IsSeldom id size store (suc n) xs) (sym (several_more (first_asks size store n) a many)) (grows many so)
    ]
  where
    stays : IsSeldom id size store n (several (first_asks size store n)) → IsSeldom id size store (suc n) (several (first_asks size store n))
    stays (inl full) = inl full
    stays (inr over) = inr (over.0, over_stays id size store n due over.1)

    grows : IsMany (ask_at size store (progress_at size store n)) → IsSeldom id size store n (several (first_asks size store n)) →
        IsSeldom id size store (suc n) (several (first_asks size store n) ++ ask_at size store (progress_at size store n) ∷ [])
    grows many (inr over) = absurd (over_none id size store n (omega (arith, facts.least)) due over.1 many)
    grows many (inl full) =
        let a : Ask = ask_at size store (progress_at size store n) in
        let before : List Ask = several (first_asks size store n) in
        let q : ℕ = 256 / size in
        let t = turn_at id size store n facts due many in
        let long : length (before ++ a ∷ []) ≡ length before + 1 = length-append before (a ∷ []) in
        let times : q * length (before ++ a ∷ []) ≡ q * length before + q = ap (λ k. q * k) long ∙ mul-add q (length before) 1 ∙ ap (λ k. q * length before + k) (omega arith) in
        let blocks = asked_more before a in
        elim t.full [
          | inl all ↦ inl (omega (arith, times, blocks, full, all))
          | inr over ↦ inr (omega (arith, times, blocks, full, t.some), over)
        ]

seldom_at : (id : List ℕ) (size : ℕ) (store : List ℕ) (n : ℕ) → Sizes size store → AreSurveyed (T5 id) size store n → IsSeldom id size store n (several (first_asks size store n))
seldom_at id size store zero facts each = inl (omega arith)
seldom_at id size store (suc n) facts each =
    seldom_more id size store n facts (each n (omega arith)) (seldom_at id size store n facts (λ k low. each k (omega (arith, low))))

pub asked_seldom : (id : List ℕ) (size : ℕ) (store : List ℕ) (n : ℕ) → IsT5Store size store → AreSurveyed (T5 id) size store n →
    length (several (first_asks size store n)) ≤ div_ceil (blocks_asked (several (first_asks size store n))) (256 / size)
asked_seldom id size store n is each =
    let facts = sizes size store is in
    let q : ℕ = 256 / size in
    let asks : List Ask = several (first_asks size store n) in
    let one : 1 ≤ q = most_some size (omega (arith, facts.least)) (omega (arith, facts.most)) in
    let bound : blocks_asked asks ≤ div_ceil (blocks_asked asks) q * q = (div_ceil_times (blocks_asked asks) q one).0 in
    let d : ℕ = div_ceil (blocks_asked asks) q in
    let low : q * length asks < d * q + q = below (d * q) (seldom_at id size store n facts each) bound one in
    let turned : length asks * q ≡ q * length asks = mul_comm (length asks) q in
    let sum : (d + 1) * q ≡ d * q + q = mul_comm (d + 1) q ∙ mul-add q d 1 ∙ ap (λ k. k + q * 1) (mul_comm q d) ∙ ap (λ k. d * q + k) (omega arith) in
    let less : length asks < d + 1 = lt_of_mul-lt-mul_right q (omega (arith, low, sum, turned)) in
    omega (arith, less)
  where
    below : (d : ℕ) → IsSeldom id size store n (several (first_asks size store n)) → blocks_asked (several (first_asks size store n)) ≤ d → 1 ≤ 256 / size →
        256 / size * length (several (first_asks size store n)) < d + 256 / size
    below d (inl full) bound one = omega (arith, full, bound, one)
    below d (inr over) bound one = omega (arith, over.0, bound)

-- where none is refused, each block is asked for once
pub asked_once : (size : ℕ) (store : List ℕ) (n : ℕ) → ((k : ℕ) → k < n → IsRefusedAt size store k → ⊥) → blocks_asked (first_asks size store n) ≡ (progress_at size store n).blocks
asked_once size store zero none = refl
asked_once size store (suc n) none =
    let p : Progress = progress_at size store n in
    let a : Ask = ask_at size store p in
    asked_more (first_asks size store n) a ∙ ap (λ k. k + ask_count a) (asked_once size store n (λ k low. none k (omega (arith, low))))
    ∙ by_ask a (none n (omega arith))
  where
    not_past : (k : ℕ) → (blocks_in size store ≤ k → ⊥) → k < blocks_in size store
    not_past k free = elim (cases_lt k (blocks_in size store)) [
      | inl low ↦ low
      | inr past ↦ absurd (free past)
    ]

    by_ask : (a : Ask) → (IsRefused size store a → ⊥) → (progress_at size store n).blocks + ask_count a ≡ (progress_behind size store (progress_at size store n) a).blocks
    by_ask (One block) free = refl
    by_ask (Many block more) free =
        let low : nat_le (blocks_in size store) (block + more) ≡ false = lt-leb (blocks_in size store) (block + more) (not_past (block + more) free) in
        rw low refl

-- the frames of what is asked for
pub asks_listed : (id : List ℕ) (size : ℕ) (store : List ℕ) (n : ℕ) → first (T5 id) size store n ≡ map (λ a. ask_frame id a) (first_asks size store n)
asks_listed id size store zero = refl
asks_listed id size store (suc n) =
    ap (λ xs. xs ++ command (T5 id) size store n ∷ []) (asks_listed id size store n)
    ∙ sym (map-append (λ a. ask_frame id a) (first_asks size store n) (ask_at size store (progress_at size store n) ∷ []))
