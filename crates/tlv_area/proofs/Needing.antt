-- Whether the walk over an area needs a byte behind the memory, and whether it comes to a message: it does, or it doesn't.
use Rattle.std.proofs.Common.{◌≡◌, ◌≢◌, ℕ, suc, zero, ◌+◌, ◌-◌, ◌*◌, ◌<◌, ◌≤◌, Bool, true, false, List, [], ◌∷◌, ◌++◌, length, refl, sym, ◌∙◌, ap, arith, subst, ltb, eqb, take, drop, inl, inr, ◌⊎◌}
use Rattle.std.proofs.Common.{append_assoc}
use Rattle.std.specs.Prelude.{◌&&◌, ◌||◌, slice_index}
use Rattle.std.proofs.lemmas.List.{take-append-drop}
use Rattle.std.proofs.lemmas.Bool.{cases_lt, cases_eq, cases_Bool}
use Rattle.tlv_area.specs.declared.space.Space.{Space}
use Rattle.tlv_area.specs.Layout.{free, is_known, bytes_at, spelling, Tlv, IsTlv, LiesIn, length_limit, reserved_by, reserves, Layout}
use Rattle.tlv_area.specs.Form.{Next, End, Fault, Unknown, Item, next, length_next, long_next, value_next, NeedsMore}
use Rattle.tlv_area.specs.Walking.{Trail}
use Rattle.tlv_area.proofs.Free.{free_split}
use Rattle.tlv_area.proofs.Trails.{chosen, trail_layout, trail_none, trail_more}
use Rattle.tlv_area.proofs.OneForm.{Steps, nonempty, split, next_there, layout_steps, same_past}

item_same : (u t : Tlv) → Item u ≡ Item t → u ≡ t
item_same u t e = cc

-- a TLV that stands next has the first addresses
abbrev Begins : Tlv → List ℕ → Type 0
Begins t cells = (rest : List ℕ) × (cells ≡ t.at ++ rest)

value_begins : (memory : List ℕ) (kind : ℕ) (long : Bool) (header : List ℕ) (n : ℕ) (cells : List ℕ) (t : Tlv) →
    value_next memory kind long header n cells ≡ Item t → Begins t (header ++ cells)
value_begins memory kind long header n cells t is =
    elim (chosen (ltb (length cells) n) Fault _ (Item t) is) [
      | inl h ↦ (cc h.1)
      | inr h ↦ elim (chosen (is_known memory (take n cells)) _ Unknown (Item t) h.1) [
        | inr k ↦ (cc k.1)
        | inl k ↦
            (let u : Tlv = record { kind = kind; long = long; value = bytes_at memory (take n cells); at = header ++ take n cells } in
            let same : header ++ take n cells ≡ t.at = ap (λ v. v.at) (item_same u t k.1) in
            (drop n cells, ap (λ xs. header ++ xs) (sym (take-append-drop n cells)) ∙ sym (append_assoc header (take n cells) (drop n cells)) ∙ ap (λ xs. xs ++ drop n cells) same))
      ]
    ]

long_begins : (memory : List ℕ) (kind a b : ℕ) (cells : List ℕ) (t : Tlv) → long_next memory kind a b cells ≡ Item t → Begins t (a ∷ b ∷ cells)
long_begins memory kind a b [] t is = cc is
long_begins memory kind a b (h ∷ []) t is = cc is
long_begins memory kind a b (h ∷ l ∷ cells) t is =
    let n : ℕ = slice_index memory h * 256 + slice_index memory l in
    elim (chosen (is_known memory (h ∷ l ∷ [])) _ Unknown (Item t) is) [
      | inr k ↦ (cc k.1)
      | inl k ↦ elim (chosen (eqb n 65535) Fault _ (Item t) k.1) [
        | inl e ↦ (cc e.1)
        | inr e ↦ value_begins memory kind true (a ∷ b ∷ h ∷ l ∷ []) n cells t e.1
      ]
    ]

length_begins : (memory : List ℕ) (kind a : ℕ) (cells : List ℕ) (t : Tlv) → length_next memory kind a cells ≡ Item t → Begins t (a ∷ cells)
length_begins memory kind a [] t is = cc is
length_begins memory kind a (b ∷ cells) t is =
    elim (chosen (ltb b (length memory)) _ Unknown (Item t) is) [
      | inr k ↦ (cc k.1)
      | inl k ↦ elim (chosen (eqb (slice_index memory b) 255) _ _ (Item t) k.1) [
        | inl e ↦ long_begins memory kind a b cells t e.1
        | inr e ↦ value_begins memory kind false (a ∷ b ∷ []) (slice_index memory b) cells t e.1
      ]
    ]

next_begins : (memory cells : List ℕ) (t : Tlv) → next memory cells ≡ Item t → Begins t cells
unfolding next
next_begins memory [] t is = cc is
next_begins memory (a ∷ cells) t is =
    elim (chosen (ltb a (length memory)) _ Unknown (Item t) is) [
      | inr k ↦ (cc k.1)
      | inl k ↦ elim (chosen (eqb (slice_index memory a) 254) End _ (Item t) k.1) [
        | inl e ↦ (cc e.1)
        | inr e ↦ elim (chosen (eqb (slice_index memory a) 0) _ _ (Item t) e.1) [
          | inl z ↦
              (let u : Tlv = record { kind = 0; long = false; value = []; at = a ∷ [] } in
              let same : a ∷ [] ≡ t.at = ap (λ v. v.at) (item_same u t z.1) in
              (cells, ap (λ xs. xs ++ cells) same))
          | inr z ↦ length_begins memory (slice_index memory a) a cells t z.1
        ]
      ]
    ]

-- whether a TLV lies in a memory is decided, part by part
pub bytes_decided : (xs ys : List ℕ) → (xs ≡ ys) ⊎ (xs ≡ ys → ⊥)
bytes_decided [] [] = inl refl
bytes_decided [] (y ∷ ys) = inr (λ e. cc e)
bytes_decided (x ∷ xs) [] = inr (λ e. cc e)
bytes_decided (x ∷ xs) (y ∷ ys) = elim (cases_eq x y) [
  | inr other ↦ inr (λ e. other (let h : x ≡ y = cc in h))
  | inl same ↦ elim (bytes_decided xs ys) [
    | inr other ↦ inr (λ e. other (let h : xs ≡ ys = cc in h))
    | inl rest ↦ inl (ap (λ z. z ∷ xs) same ∙ ap (λ zs. y ∷ zs) rest)
  ]
]

abbrev NoValue : ℕ → Bool → List ℕ → Type 0
NoValue kind long value = kind ≡ 0 → (long ≡ false) × (value ≡ [])

null_decided : (kind : ℕ) (long : Bool) (value : List ℕ) → NoValue kind long value ⊎ (NoValue kind long value → ⊥)
null_decided zero false [] = inl (λ e. (refl, refl))
null_decided zero false (x ∷ xs) = inr (λ f. (let h : x ∷ xs ≡ [] = (f refl).1 in cc))
null_decided zero true value = inr (λ f. (let h : true ≡ false = (f refl).0 in cc))
null_decided (suc k) long value = inl (λ e. (absurd (omega (arith, e)), absurd (omega (arith, e))))

proper_decided : (t : Tlv) → IsTlv t ⊎ (IsTlv t → ⊥)
proper_decided t = elim (cases_eq t.kind 254) [
  | inl e ↦ inr (λ is. is.no_end e)
  | inr kind ↦ elim (cases_lt (length t.value) (length_limit t.long)) [
    | inr over ↦ inr (λ is. (let low = is.fits in omega arith))
    | inl fits ↦ elim (null_decided t.kind t.long t.value) [
      | inr some ↦ inr (λ is. some is.null)
      | inl null ↦ inl (record { no_end = kind; fits = fits; null = null })
    ]
  ]
]

lies_decided : (memory : List ℕ) (t : Tlv) → LiesIn memory t ⊎ (LiesIn memory t → ⊥)
lies_decided memory t = elim (proper_decided t) [
  | inr other ↦ inr (λ is. other is.proper)
  | inl proper ↦ elim (cases_Bool (is_known memory t.at)) [
    | inr unknown ↦ inr (λ is. (let h : true ≡ false = sym is.known ∙ unknown in cc))
    | inl known ↦ elim (bytes_decided (bytes_at memory t.at) (spelling t)) [
      | inr other ↦ inr (λ is. other is.bytes)
      | inl bytes ↦ inl (record { proper = proper; known = known; bytes = bytes })
    ]
  ]
]

-- What a walk looks for at what stands next, which is no TLV but a message.
record IsSought (Is : Next → Type 0) : Type 0 where
  pub decide : (x : Next) → Is x ⊎ (Is x → ⊥)
  pub stops : (t : Tlv) → Is (Item t) → t.kind ≡ 3

module _ (space : Space) (memory : List ℕ) (Is : Next → Type 0) (sought : IsSought Is) where
  abbrev left : (ℕ → Bool) → ℕ → List ℕ
  left r at = free r at space.end

  abbrev Walks : (ℕ → Bool) → ℕ → List Tlv → List ℕ → Type 0
  Walks r at us rest = Steps memory space.control space.end r at us rest

  -- a layout is followed by it
  abbrev Found : Type 0
  Found = (ts : List Tlv) × (rest : List ℕ) × Layout space memory ts rest × Is (next memory rest)

  -- no TLVs from `at` on lead to it
  abbrev Never : (ℕ → Bool) → ℕ → Type 0
  Never r at = (us : List Tlv) (rest : List ℕ) → Walks r at us rest → Is (next memory rest) → ⊥

  -- the first of some TLVs stands next
  first : (r : ℕ → Bool) (at : ℕ) (u : Tlv) (us : List Tlv) (rest : List ℕ) → Walks r at (u ∷ us) rest → next memory (left r at) ≡ Item u
  first r at u us rest steps =
      let order : at ≤ steps.0 = omega (arith, steps.1) in
      ap (λ c. next memory c) (free_split r at steps.0 space.end order steps.2 ∙ ap (λ c. c ++ free r steps.0 space.end) (sym steps.3)) ∙ next_there memory u (free r steps.0 space.end) steps.5

  never : (r : ℕ → Bool) (at : ℕ) (x : Next) → next memory (left r at) ≡ x → (Is x → ⊥)
      → ((u : Tlv) → x ≡ Item u → LiesIn memory u → u.kind ≢ 3 → ⊥) → Never r at
  never r at x e none item [] rest steps is = none (subst Is (ap (λ c. next memory c) steps ∙ e) is)
  never r at x e none item (u ∷ us) rest steps is = item u (sym e ∙ first r at u us rest steps) steps.5 steps.6

  -- behind a TLV that stands next
  never_behind : (r : ℕ → Bool) (at p : ℕ) (t : Tlv) → next memory (left r at) ≡ Item t → t.kind ≢ 3 → at < p → r (p - 1) ≡ false → t.at ≡ free r at p
      → Never (λ a. r a || (space.control && reserves t a)) p → Never r at
  never_behind r at p t e plain up open_cell cells none [] rest steps is = plain (sought.stops t (subst Is (ap (λ c. next memory c) steps ∙ e) is))
  never_behind r at p t e plain up open_cell cells none (u ∷ us) rest steps is =
      let same : u ≡ t = item_same u t (sym (first r at u us rest steps) ∙ e) in
      let past : steps.0 ≡ p = same_past r at steps.0 p steps.1 up steps.4 open_cell (sym steps.3 ∙ ap (λ v. v.at) same ∙ cells) in
      let moved : Walks (λ a. r a || (space.control && reserves t a)) p us rest =
      subst (λ v. Walks (λ a. r a || (space.control && reserves v a)) p us rest) same
      (subst (λ n. Walks (λ a. r a || (space.control && reserves u a)) n us rest) past steps.7) in
      none us rest moved is

  -- a layout leads to it, or none does from `at` on
  abbrev Decides : (ℕ → Bool) → ℕ → Type 0
  Decides r at = Found ⊎ Never r at

  -- what is decided of each walk that has come further decides of this one
  behind : (ts : List Tlv) (at : ℕ) (r : ℕ → Bool) → space.start ≤ at → at ≤ space.end → Trail space memory ts at r
      → ((us : List Tlv) (p : ℕ) (s : ℕ → Bool) → at < p → p ≤ space.end → Trail space memory us p s → Decides s p)
      → (t : Tlv) → next memory (left r at) ≡ Item t → t.kind ≢ 3 → LiesIn memory t → Decides r at
  behind ts at r low high trail further t e plain lies =
      let begins = next_begins memory (left r at) t e in
      let some = nonempty memory t lies in
      let regroup : some.0 ∷ (some.1 ++ begins.0) ≡ free r at space.end = sym (begins.1 ∙ ap (λ c. c ++ begins.0) some.2) in
      let parts = split r at space.end some.0 some.1 begins.0 high regroup in
      let cells : t.at ≡ free r at parts.0 = some.2 ∙ parts.1.front_is in
      let more = trail_more space memory ts t at parts.0 r (λ a. r a || (space.control && reserves t a)) trail low parts.1.up cells parts.1.last lies plain (λ a. refl) in
      elim (further (ts ++ t ∷ []) parts.0 (λ a. r a || (space.control && reserves t a)) parts.1.up parts.1.below more) [
        | inl needs ↦ inl needs
        | inr none ↦ inr (never_behind r at parts.0 t e plain parts.1.up parts.1.last cells none)
      ]

  -- what stands next isn't a TLV that is gone past
  by_stop : (ts : List Tlv) (at : ℕ) (r : ℕ → Bool) → space.start ≤ at → at ≤ space.end → Trail space memory ts at r → (x : Next) → next memory (left r at) ≡ x
      → ((u : Tlv) → x ≡ Item u → LiesIn memory u → u.kind ≢ 3 → ⊥) → Decides r at
  by_stop ts at r low high trail x e item = elim (sought.decide x) [
    | inl is ↦ inl (ts, left r at, trail_layout space memory ts at r trail low high, subst Is (sym e) is)
    | inr none ↦ inr (never r at x e none item)
  ]

  by_next : (ts : List Tlv) (at : ℕ) (r : ℕ → Bool) → space.start ≤ at → at ≤ space.end → Trail space memory ts at r
      → ((us : List Tlv) (p : ℕ) (s : ℕ → Bool) → at < p → p ≤ space.end → Trail space memory us p s → Decides s p)
      → (x : Next) → next memory (left r at) ≡ x → Decides r at
  by_next ts at r low high trail further End e = by_stop ts at r low high trail End e (λ u h lies plain. cc h)
  by_next ts at r low high trail further Fault e = by_stop ts at r low high trail Fault e (λ u h lies plain. cc h)
  by_next ts at r low high trail further Unknown e = by_stop ts at r low high trail Unknown e (λ u h lies plain. cc h)
  by_next ts at r low high trail further (Item t) e = elim (cases_eq t.kind 3) [
    | inl message ↦ by_stop ts at r low high trail (Item t) e (λ u h lies plain. plain (sym (ap (λ v. v.kind) (item_same t u h)) ∙ message))
    | inr plain ↦ elim (lies_decided memory t) [
      | inl lies ↦ behind ts at r low high trail further t e plain lies
      | inr other ↦ by_stop ts at r low high trail (Item t) e (λ u h lies k. other (subst (LiesIn memory) (sym (item_same t u h)) lies))
    ]
  ]

  decided : (fuel : ℕ) (ts : List Tlv) (at : ℕ) (r : ℕ → Bool) → space.end < at + fuel → space.start ≤ at → at ≤ space.end → Trail space memory ts at r
      → Decides r at
  decided zero ts at r enough low high trail = absurd (omega arith)
  decided (suc fuel) ts at r enough low high trail =
      by_next ts at r low high trail (λ us p s up below walked. decided fuel us p s (omega arith) (omega arith) below walked) (next memory (left r at)) refl

  seeking : space.start ≤ space.end → Found ⊎ (Found → ⊥)
  seeking order =
      elim (decided (suc space.end) [] space.start (λ _. false) (omega arith) (omega arith) order (trail_none space memory (λ _. false) (λ a. refl))) [
        | inl needs ↦ inl needs
        | inr none ↦ inr (λ m. none m.0 m.1
            (layout_steps memory space.control space.end (λ _. false) (reserved_by space.control m.0) space.start m.0 m.1 (λ a. refl) m.2.addresses order m.2.lie m.2.plain)
            m.3)
      ]

-- a byte that isn't known
unknown_sought : IsSought (λ x. x ≡ Unknown)
unknown_sought = record { decide = decide; stops = λ t e. cc e }
  where
    decide : (x : Next) → (x ≡ Unknown) ⊎ (x ≡ Unknown → ⊥)
    decide End = inr (λ e. cc e)
    decide Fault = inr (λ e. cc e)
    decide Unknown = inl refl
    decide (Item t) = inr (λ e. cc e)

pub needing : (space : Space) (memory : List ℕ) → space.start ≤ space.end → NeedsMore space memory ⊎ (NeedsMore space memory → ⊥)
needing space memory order = seeking space memory (λ x. x ≡ Unknown) unknown_sought order

-- the message
abbrev IsMessage : List ℕ → Next → Type 0
IsMessage memory End = ⊥
IsMessage memory Fault = ⊥
IsMessage memory Unknown = ⊥
IsMessage memory (Item t) = (t.kind ≡ 3) × LiesIn memory t

message_sought : (memory : List ℕ) → IsSought (IsMessage memory)
message_sought memory = record { decide = decide; stops = λ t is. is.0 }
  where
    decide : (x : Next) → IsMessage memory x ⊎ (IsMessage memory x → ⊥)
    decide End = inr (λ e. e)
    decide Fault = inr (λ e. e)
    decide Unknown = inr (λ e. e)
    decide (Item t) = elim (cases_eq t.kind 3) [
      | inr other ↦ inr (λ is. other is.0)
      | inl kind ↦ elim (lies_decided memory t) [
        | inr other ↦ inr (λ is. other is.1)
        | inl lies ↦ inl (kind, lies)
      ]
    ]

-- A layout is followed by a message.
pub record HoldsOne (space : Space) (memory : List ℕ) : Type 0 where
  pub ts : List Tlv
  pub t : Tlv
  pub after : List ℕ
  pub layout : Layout space memory ts (t.at ++ after)
  pub lies : LiesIn memory t
  pub kind : t.kind ≡ 3

pub holding : (space : Space) (memory : List ℕ) → space.start ≤ space.end → HoldsOne space memory ⊎ (HoldsOne space memory → ⊥)
holding space memory order = elim (seeking space memory (IsMessage memory) (message_sought memory) order) [
  | inl found ↦ inl (there found.0 found.1 found.2 (next memory found.1) refl found.3)
  | inr none ↦ inr (λ h. none (h.ts, h.t.at ++ h.after, h.layout, subst (IsMessage memory) (sym (next_there memory h.t h.after h.lies)) (h.kind, h.lies)))
]
  where
    there : (ts : List Tlv) (rest : List ℕ) → Layout space memory ts rest → (x : Next) → next memory rest ≡ x → IsMessage memory x → HoldsOne space memory
    there ts rest layout End e is = absurd is
    there ts rest layout Fault e is = absurd is
    there ts rest layout Unknown e is = absurd is
    there ts rest layout (Item t) e is =
        let begins = next_begins memory rest t e in
        record { ts = ts; t = t; after = begins.0; layout = subst (Layout space memory ts) begins.1 layout; lies = is.1; kind = is.0 }
