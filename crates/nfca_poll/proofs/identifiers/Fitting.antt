-- Levels that fit, and what a device does that is asked.
use Rattle.std.proofs.Common.{◌≡◌, ℕ, zero, suc, ◌+◌, ◌-◌, ◌<◌, ◌≤◌, List, [], ◌∷◌, ◌++◌, length, take, drop, get_or, Bool, true, false, ◌&&◌, nat_lt, nat_eq, if◌then◌else◌, refl, sym, ◌∙◌, ap, subst}
use Rattle.std.proofs.Common.{arith, Option, Some, None, append_assoc}
use Rattle.std.specs.Cmp.Lexicographic.{pointwise}
use Rattle.nfc_base.specs.declared.frame.Tech.TheVariants.{A}
use Rattle.nfc_base.specs.Signal.{Signal}
use Rattle.nfc_base.specs.Bits.{bits_of, packed, of_bits}
use Rattle.nfc_base.proofs.Packing.{length_of_bits, packed_bits_of}
use Rattle.nfca_poll.specs.declared.kind.Kind.{Kind}
use Rattle.nfca_poll.specs.Levels.{level, levels}
use Rattle.nfca_poll.specs.Calls.{Reading, Calls, Sdd, Sel}
use Rattle.nfca_poll.specs.Front.{Front, Off, Idle, Sleep, Ready, Active, begins, level_at, more_levels, sel_res, taken, taken_answer, front_next, front_says}
use Rattle.nfca_poll.specs.Crowd.{Card, Each, with_front, is_idle, is_rest, ahead, level_bits_of}
use Rattle.nfca_poll.proofs.quiet.Clashes.{wrong, and_both, and_make, begins_through}
use Rattle.nfca_poll.proofs.identifiers.HeardBits.{pointwise_same, pointwise_path}
use Rattle.nfca_poll.proofs.identifiers.LevelFacts.{IsLevel}

abbrev pub card_next : Reading → Card → Card
card_next r c = with_front c (front_next (levels c.id) c.front r)

abbrev pub card_says : Reading → Card → Option Signal
card_says r c = front_says (levels c.id) c.kind c.front r

-- a level, counted from 0
abbrev pub nth : List (List ℕ) → ℕ → List ℕ
nth ls j = get_or ls j []

-- whether levels begin with these levels and then these bits of one level more
abbrev pub fits : List (List ℕ) → List Bool → List (List ℕ) → Bool
fits [] p [] = false
fits [] p (l ∷ ls) = begins p (bits_of l)
fits (x ∷ done) p [] = false
fits (x ∷ done) p (l ∷ ls) = pointwise nat_eq x l && fits done p ls

-- a device that is still asked: it was idle, and its levels fit
abbrev pub card_at : List (List ℕ) → List Bool → Card → Card
card_at done p c = if is_idle c.front && fits done p (levels c.id) then with_front c (Ready (length done + 1) false) else c

nth_is : (ls : List (List ℕ)) (n : ℕ) → level_at ls (n + 1) ≡ nth ls n
nth_is ls n = ap (λ j. get_or ls j []) (let q : n + 1 - 1 ≡ n = omega arith in q)

pub nat_eq_same : (n : ℕ) → nat_eq n n ≡ true
nat_eq_same n = grind arith

-- levels
pub fits_level : (done : List (List ℕ)) (p : List Bool) (ls : List (List ℕ)) → fits done p ls ≡ true → begins p (bits_of (nth ls (length done))) ≡ true
fits_level [] p [] h = wrong h
fits_level [] p (l ∷ ls) h = h
fits_level (x ∷ done) p [] h = wrong h
fits_level (x ∷ done) p (l ∷ ls) h = fits_level done p ls (and_both (pointwise nat_eq x l) (fits done p ls) h).1

pub fits_is : (done : List (List ℕ)) (p q : List Bool) (ls : List (List ℕ)) → fits done p ls ≡ true → begins q (bits_of (nth ls (length done))) ≡ fits done q ls
fits_is [] p q [] h = wrong h
fits_is [] p q (l ∷ ls) h = refl
fits_is (x ∷ done) p q [] h = wrong h
fits_is (x ∷ done) p q (l ∷ ls) h =
    let s : _ × _ = and_both (pointwise nat_eq x l) (fits done p ls) h in
    fits_is done p q ls s.1 ∙ ap (λ t. t && fits done q ls) (sym s.0)

pub fits_back : (done : List (List ℕ)) (p q : List Bool) (ls : List (List ℕ)) → begins p q ≡ true → fits done q ls ≡ true → fits done p ls ≡ true
fits_back [] p q [] b h = wrong h
fits_back [] p q (l ∷ ls) b h = begins_through p q (bits_of l) b h
fits_back (x ∷ done) p q [] b h = wrong h
fits_back (x ∷ done) p q (l ∷ ls) b h =
    let s : _ × _ = and_both (pointwise nat_eq x l) (fits done q ls) h in
    and_make (pointwise nat_eq x l) (fits done p ls) s.0 (fits_back done p q ls b s.1)

pub fits_more : (done : List (List ℕ)) (p q : List Bool) (ls : List (List ℕ)) → fits done p ls ≡ true → begins q (bits_of (nth ls (length done))) ≡ true → fits done q ls ≡ true
fits_more done p q ls h b = sym (fits_is done p q ls h) ∙ b

pub fits_not : (done : List (List ℕ)) (p q : List Bool) (ls : List (List ℕ)) → begins p q ≡ true → fits done p ls ≡ false → (v : Bool) → fits done q ls ≡ v → v ≡ false
fits_not done p q ls b h true k = wrong (sym h ∙ fits_back done p q ls b k)
fits_not done p q ls b h false k = refl

pub fits_in : (done : List (List ℕ)) (p : List Bool) (ls : List (List ℕ)) → fits done p ls ≡ true → length done < length ls
fits_in [] p [] h = wrong h
fits_in [] p (l ∷ ls) h = omega arith
fits_in (x ∷ done) p [] h = wrong h
fits_in (x ∷ done) p (l ∷ ls) h = let less : length done < length ls = fits_in done p ls (and_both (pointwise nat_eq x l) (fits done p ls) h).1 in omega arith

-- each level has what each has
pub each_level : (P : List ℕ → Type 0) (ls : List (List ℕ)) (j : ℕ) → Each P ls → j < length ls → P (nth ls j)
each_level P [] j e h = absurd (omega (arith, h))
each_level P (l ∷ ls) zero e h = e.0
each_level P (l ∷ ls) (suc j) e h = each_level P ls j e.1 (omega (arith, h))

-- bits
pub begins_split : (p x : List Bool) → begins p x ≡ true → x ≡ p ++ drop (length p) x
begins_split [] x h = refl
begins_split (a ∷ p) [] h = wrong h
begins_split (true ∷ p) (true ∷ x) h = ap (λ t. true ∷ t) (begins_split p x h)
begins_split (true ∷ p) (false ∷ x) h = wrong h
begins_split (false ∷ p) (true ∷ x) h = wrong h
begins_split (false ∷ p) (false ∷ x) h = ap (λ t. false ∷ t) (begins_split p x h)

pub begins_add : (p q x : List Bool) → begins q x ≡ true → begins (p ++ q) (p ++ x) ≡ true
begins_add [] q x h = h
begins_add (true ∷ p) q x h = begins_add p q x h
begins_add (false ∷ p) q x h = begins_add p q x h

pub begins_take : (n : ℕ) (p x : List Bool) → begins p x ≡ true → n ≤ length p → take n x ≡ take n p
begins_take zero p x h k = refl
begins_take (suc n) [] x h k = absurd (omega (arith, k))
begins_take (suc n) (a ∷ p) [] h k = wrong h
begins_take (suc n) (true ∷ p) (true ∷ x) h k = ap (λ t. true ∷ t) (begins_take n p x h (omega (arith, k)))
begins_take (suc n) (true ∷ p) (false ∷ x) h k = wrong h
begins_take (suc n) (false ∷ p) (true ∷ x) h k = wrong h
begins_take (suc n) (false ∷ p) (false ∷ x) h k = ap (λ t. false ∷ t) (begins_take n p x h (omega (arith, k)))

pub begins_whole : (p x : List Bool) → begins p x ≡ true → length p ≡ length x → p ≡ x
begins_whole [] [] h k = refl
begins_whole [] (b ∷ x) h k = absurd (omega (arith, k))
begins_whole (a ∷ p) [] h k = wrong h
begins_whole (true ∷ p) (true ∷ x) h k = ap (λ t. true ∷ t) (begins_whole p x h (omega (arith, k)))
begins_whole (true ∷ p) (false ∷ x) h k = wrong h
begins_whole (false ∷ p) (true ∷ x) h k = wrong h
begins_whole (false ∷ p) (false ∷ x) h k = ap (λ t. false ∷ t) (begins_whole p x h (omega (arith, k)))

-- the first 32 bits determine a level
four_bytes : (x : List ℕ) → length x ≡ 5 → take 32 (bits_of x) ≡ bits_of (take 4 x)
unfolding bits_of
four_bytes [] h = absurd (omega (arith, h))
four_bytes (a ∷ []) h = absurd (omega (arith, h))
four_bytes (a ∷ b ∷ []) h = absurd (omega (arith, h))
four_bytes (a ∷ b ∷ c ∷ []) h = absurd (omega (arith, h))
four_bytes (a ∷ b ∷ c ∷ d ∷ []) h = absurd (omega (arith, h))
four_bytes (a ∷ b ∷ c ∷ d ∷ e ∷ x) h = refl

take_fits : (n : ℕ) (x : List ℕ) → ((i : ℕ) → get_or x i 0 < 256) → (i : ℕ) → get_or (take n x) i 0 < 256
take_fits zero x h i = by_place i
  where
    by_place : (j : ℕ) → get_or (take 0 x) j 0 < 256
    by_place zero = omega arith
    by_place (suc j) = omega arith
take_fits (suc n) [] h i = h i
take_fits (suc n) (a ∷ x) h zero = h 0
take_fits (suc n) (a ∷ x) h (suc i) = take_fits n x (λ j. h (suc j)) i

pub same_level : (p : List Bool) (x y : List ℕ) → 32 ≤ length p → begins p (bits_of x) ≡ true → begins p (bits_of y) ≡ true → IsLevel x → IsLevel y → x ≡ y
same_level p x y n h k a b =
    let first : take 32 (bits_of x) ≡ take 32 (bits_of y) = begins_take 32 p (bits_of x) h n ∙ sym (begins_take 32 p (bits_of y) k n) in
    let four : bits_of (take 4 x) ≡ bits_of (take 4 y) = sym (four_bytes x a.size) ∙ first ∙ four_bytes y b.size in
    let same : take 4 x ≡ take 4 y = sym (packed_bits_of (take 4 x) (take_fits 4 x a.bytes)) ∙ ap packed four ∙ packed_bits_of (take 4 y) (take_fits 4 y b.bytes) in
    a.check ∙ ap level same ∙ sym b.check

pub level_size : (l : List ℕ) → IsLevel l → length (bits_of l) ≡ 40
level_size l a = let n : length l ≡ 5 = a.size in omega (arith, length_of_bits l, n)

pub level_by_bits : (x y : List ℕ) → IsLevel x → IsLevel y → bits_of x ≡ bits_of y → x ≡ y
level_by_bits x y a b e = sym (packed_bits_of x a.bytes) ∙ ap packed e ∙ packed_bits_of y b.bytes

-- order
pub ahead_tail : (p x y : List Bool) → ahead (p ++ x) (p ++ y) ≡ true → ahead x y ≡ true
ahead_tail [] x y h = h
ahead_tail (true ∷ p) x y h = ahead_tail p x y h
ahead_tail (false ∷ p) x y h = ahead_tail p x y h

pub ahead_cut : (x y r s : List Bool) → length x ≡ length y → ahead (x ++ r) (y ++ s) ≡ true → ahead x y ≡ true
ahead_cut x [] r s l h = refl
ahead_cut [] (b ∷ y) r s l h = absurd (omega (arith, l))
ahead_cut (true ∷ x) (true ∷ y) r s l h = ahead_cut x y r s (omega (arith, l)) h
ahead_cut (true ∷ x) (false ∷ y) r s l h = refl
ahead_cut (false ∷ x) (true ∷ y) r s l h = wrong h
ahead_cut (false ∷ x) (false ∷ y) r s l h = ahead_cut x y r s (omega (arith, l)) h

pub fits_flat : (done : List (List ℕ)) (p : List Bool) (ls : List (List ℕ)) → fits done p ls ≡ true → (r : List Bool) × (level_bits_of ls ≡ level_bits_of done ++ (bits_of (nth ls (length done)) ++ r))
fits_flat [] p [] h = wrong h
fits_flat [] p (l ∷ ls) h = (level_bits_of ls, refl)
fits_flat (x ∷ done) p [] h = wrong h
fits_flat (x ∷ done) p (l ∷ ls) h =
    let s : _ × _ = and_both (pointwise nat_eq x l) (fits done p ls) h in
    let f : (r : List Bool) × (level_bits_of ls ≡ level_bits_of done ++ (bits_of (nth ls (length done)) ++ r)) = fits_flat done p ls s.1 in (
      f.0,
      ap (λ t. bits_of l ++ t) f.1 ∙ ap (λ t. t ++ (level_bits_of done ++ (bits_of (nth ls (length done)) ++ f.0))) (ap bits_of (sym (pointwise_path x l s.0)))
          ∙ sym (append_assoc (bits_of x) (level_bits_of done) (bits_of (nth ls (length done)) ++ f.0)),
    )

pub ahead_rest : (done : List (List ℕ)) (p : List Bool) (ms ls : List (List ℕ)) → fits done p ms ≡ true → fits done p ls ≡ true
    → length (bits_of (nth ms (length done))) ≡ length (bits_of (nth ls (length done))) → ahead (level_bits_of ms) (level_bits_of ls) ≡ true
    → ahead (bits_of (nth ms (length done))) (bits_of (nth ls (length done))) ≡ true
ahead_rest done p ms ls f g l h =
    let a : (r : List Bool) × (level_bits_of ms ≡ level_bits_of done ++ (bits_of (nth ms (length done)) ++ r)) = fits_flat done p ms f in
    let b : (r : List Bool) × (level_bits_of ls ≡ level_bits_of done ++ (bits_of (nth ls (length done)) ++ r)) = fits_flat done p ls g in
    let e : ahead (level_bits_of done ++ (bits_of (nth ms (length done)) ++ a.0)) (level_bits_of done ++ (bits_of (nth ls (length done)) ++ b.0)) ≡ true =
    sym (ap (λ t. ahead t (level_bits_of ls)) a.1 ∙ ap (λ t. ahead (level_bits_of done ++ (bits_of (nth ms (length done)) ++ a.0)) t) b.1) ∙ h in
    ahead_cut (bits_of (nth ms (length done))) (bits_of (nth ls (length done))) a.0 b.0 l (ahead_tail (level_bits_of done) (bits_of (nth ms (length done)) ++ a.0)
    (bits_of (nth ls (length done)) ++ b.0) e)

pub ahead_behind : (p x y : List Bool) → begins p x ≡ true → begins p y ≡ true → ahead x y ≡ true → ahead (drop (length p) x) (drop (length p) y) ≡ true
ahead_behind p x y h k a =
    ahead_tail p (drop (length p) x) (drop (length p) y) (sym (ap (λ t. ahead t y) (begins_split p x h) ∙ ap (λ t. ahead (p ++ drop (length p) x) t) (begins_split p y k)) ∙ a)

-- SDD_REQ
abbrev pub rest_at : List (List ℕ) → List Bool → Card → Option (List Bool)
rest_at done p c = if is_idle c.front && fits done p (levels c.id) then Some (drop (length p) (bits_of (nth (levels c.id) (length done)))) else None

abbrev pub framed : Option (List Bool) → Option Signal
framed None = None
framed (Some x) = Some (of_bits A x)

abbrev pub asked_if : Card → ℕ → Bool → Card
asked_if c n v = if v then with_front c (Ready (n + 1) false) else c

abbrev pub sdd_at : List (List ℕ) → List Bool → Reading
sdd_at done known = Calls (Sdd (length done + 1) known)

abbrev pub sel_at : List (List ℕ) → List ℕ → Reading
sel_at done l = Calls (Sel (length done + 1) l)

-- what SDD_REQ makes of a device whose front is ready or idle, by whether its levels fit
pub sdd_next : (id : List ℕ) (k : Kind) (done : List (List ℕ)) (known : List Bool) (u v : Bool)
    → (u ≡ true → begins known (bits_of (nth (levels id) (length done))) ≡ v) → (u ≡ false → v ≡ false)
    → card_next (sdd_at done known) (asked_if (record { id = id; kind = k; front = Idle }) (length done) u) ≡ asked_if (record { id = id; kind = k; front = Idle }) (length done) v
sdd_next id k done known true v f g =
    let n : ℕ = length done + 1 in
    let C : Front → Card = λ x. record { id = id; kind = k; front = x } in
    ap (λ t. C (if t && begins known (bits_of (level_at (levels id) n)) then Ready n false else Idle)) (nat_eq_same n)
    ∙ ap (λ l. C (if begins known (bits_of l) then Ready n false else Idle)) (nth_is (levels id) (length done))
    ∙ ap (λ t. C (if t then Ready n false else Idle)) (f refl) ∙ spread v
  where
    spread : (w : Bool) → record { id = id; kind = k; front = if w then Ready (length done + 1) false else Idle } ≡ asked_if (record { id = id; kind = k; front = Idle }) (length done) w
    spread true = refl
    spread false = refl
sdd_next id k done known false v f g = ap (λ t. asked_if (record { id = id; kind = k; front = Idle }) (length done) t) (sym (g refl))

pub sdd_says : (id : List ℕ) (k : Kind) (done : List (List ℕ)) (known : List Bool) (u v : Bool)
    → (u ≡ true → begins known (bits_of (nth (levels id) (length done))) ≡ v) → (u ≡ false → v ≡ false)
    → card_says (sdd_at done known) (asked_if (record { id = id; kind = k; front = Idle }) (length done) u)
    ≡ framed (if v then Some (drop (length known) (bits_of (nth (levels id) (length done)))) else None)
sdd_says id k done known true v f g =
    let n : ℕ = length done + 1 in
    let S : Bool → List ℕ → Option Signal = λ t l. if t then Some (of_bits A (drop (length known) (bits_of l))) else None in
    ap (λ t. S (t && begins known (bits_of (level_at (levels id) n))) (level_at (levels id) n)) (nat_eq_same n)
    ∙ ap (λ l. S (begins known (bits_of l)) l) (nth_is (levels id) (length done))
    ∙ ap (λ t. S t (nth (levels id) (length done))) (f refl) ∙ spread v
  where
    spread : (w : Bool) → (if w then Some (of_bits A (drop (length known) (bits_of (nth (levels id) (length done))))) else None)
        ≡ framed (if w then Some (drop (length known) (bits_of (nth (levels id) (length done)))) else None)
    spread true = refl
    spread false = refl
sdd_says id k done known false v f g = ap (λ t. framed (if t then Some (drop (length known) (bits_of (nth (levels id) (length done)))) else None)) (sym (g refl))

asked_next_by : (done : List (List ℕ)) (pre known : List Bool) (id : List ℕ) (k : Kind) (f : Front) → begins pre known ≡ true → is_rest f ≡ true
    → card_next (sdd_at done known) (card_at done pre (record { id = id; kind = k; front = f })) ≡ card_at done known (record { id = id; kind = k; front = f })
asked_next_by done pre known id k Off b r = refl
asked_next_by done pre known id k Idle b r =
    sdd_next id k done known (fits done pre (levels id)) (fits done known (levels id)) (fits_is done pre known (levels id))
    (λ h. fits_not done pre known (levels id) b h (fits done known (levels id)) refl)
asked_next_by done pre known id k Sleep b r = refl
asked_next_by done pre known id k (Ready j s) b r = wrong r
asked_next_by done pre known id k (Active s) b r = wrong r

pub asked_next : (done : List (List ℕ)) (pre known : List Bool) (c : Card) → begins pre known ≡ true → is_rest c.front ≡ true
    → card_next (sdd_at done known) (card_at done pre c) ≡ card_at done known c
asked_next done pre known c b r = asked_next_by done pre known c.id c.kind c.front b r

asked_says_by : (done : List (List ℕ)) (pre known : List Bool) (id : List ℕ) (k : Kind) (f : Front) → begins pre known ≡ true → is_rest f ≡ true
    → card_says (sdd_at done known) (card_at done pre (record { id = id; kind = k; front = f })) ≡ framed (rest_at done known (record { id = id; kind = k; front = f }))
asked_says_by done pre known id k Off b r = refl
asked_says_by done pre known id k Idle b r =
    sdd_says id k done known (fits done pre (levels id)) (fits done known (levels id)) (fits_is done pre known (levels id))
    (λ h. fits_not done pre known (levels id) b h (fits done known (levels id)) refl)
asked_says_by done pre known id k Sleep b r = refl
asked_says_by done pre known id k (Ready j s) b r = wrong r
asked_says_by done pre known id k (Active s) b r = wrong r

pub asked_says : (done : List (List ℕ)) (pre known : List Bool) (c : Card) → begins pre known ≡ true → is_rest c.front ≡ true
    → card_says (sdd_at done known) (card_at done pre c) ≡ framed (rest_at done known c)
asked_says done pre known c b r = asked_says_by done pre known c.id c.kind c.front b r

-- SEL_REQ: a device whose level it is
pub sel_next : (id : List ℕ) (k : Kind) (done : List (List ℕ)) (l : List ℕ) (t : Bool) → nth (levels id) (length done) ≡ l → nat_lt (length done + 1) (length (levels id)) ≡ t
    → card_next (sel_at done l) (record { id = id; kind = k; front = Ready (length done + 1) false })
    ≡ record { id = id; kind = k; front = if t then Ready (length done + 1 + 1) false else Active false }
sel_next id k done l t e h =
    let n : ℕ = length done + 1 in
    let C : Front → Card = λ f. record { id = id; kind = k; front = f } in
    ap (λ v. C (if v && pointwise nat_eq l (level_at (levels id) n) then taken (levels id) n false else Idle)) (nat_eq_same n)
    ∙ ap (λ x. C (if pointwise nat_eq l x then taken (levels id) n false else Idle)) (nth_is (levels id) (length done) ∙ e)
    ∙ ap (λ v. C (if v then taken (levels id) n false else Idle)) (pointwise_same l)
    ∙ ap (λ v. C (if v then Ready (n + 1) false else Active false)) h

pub sel_says : (id : List ℕ) (k : Kind) (done : List (List ℕ)) (l : List ℕ) (t : Bool) → nth (levels id) (length done) ≡ l → nat_lt (length done + 1) (length (levels id)) ≡ t
    → card_says (sel_at done l) (record { id = id; kind = k; front = Ready (length done + 1) false }) ≡ Some (if t then more_levels else sel_res k)
sel_says id k done l t e h =
    let n : ℕ = length done + 1 in
    let O : Bool → Option Signal = λ v. if v then Some (taken_answer (levels id) k n) else None in
    ap (λ v. O (v && pointwise nat_eq l (level_at (levels id) n))) (nat_eq_same n)
    ∙ ap (λ x. O (pointwise nat_eq l x)) (nth_is (levels id) (length done) ∙ e)
    ∙ ap O (pointwise_same l)
    ∙ ap (λ v. Some (if v then more_levels else sel_res k)) h

-- one level more
pub fits_snoc : (done : List (List ℕ)) (l : List ℕ) (ls : List (List ℕ)) → fits done (bits_of l) ls ≡ true → nth ls (length done) ≡ l → length done + 1 < length ls → fits (done ++ l ∷ []) [] ls ≡ true
fits_snoc [] l [] h e n = wrong h
fits_snoc [] l (x ∷ []) h e n = let m : 0 + 1 < 1 = n in absurd (omega (arith, m))
fits_snoc [] l (x ∷ y ∷ ls) h e n = let S : List ℕ → Type 0 = λ t. pointwise nat_eq l t && true ≡ true in subst S (sym e) (and_make (pointwise nat_eq l l) true (pointwise_same l) refl)
fits_snoc (d ∷ done) l [] h e n = wrong h
fits_snoc (d ∷ done) l (x ∷ ls) h e n =
    let s : _ × _ = and_both (pointwise nat_eq d x) (fits done (bits_of l) ls) h in
    and_make (pointwise nat_eq d x) (fits (done ++ l ∷ []) [] ls) s.0 (fits_snoc done l ls s.1 e (omega (arith, n)))

-- and back
pub snoc_fits : (done : List (List ℕ)) (l : List ℕ) (ls : List (List ℕ)) → fits (done ++ l ∷ []) [] ls ≡ true → (fits done (bits_of l) ls ≡ true) × (length done + 1 < length ls)
snoc_fits [] l [] h = wrong h
snoc_fits [] l (x ∷ []) h = let s : _ × _ = and_both (pointwise nat_eq l x) false h in wrong s.1
snoc_fits [] l (x ∷ y ∷ ls) h =
    let s : _ × _ = and_both (pointwise nat_eq l x) true h in
    let B : List ℕ → Type 0 = λ t. begins (bits_of l) (bits_of t) ≡ true in
    (subst B (pointwise_path l x s.0) (begins_self (bits_of l)), omega arith)
  where
    begins_self : (z : List Bool) → begins z z ≡ true
    begins_self [] = refl
    begins_self (true ∷ z) = begins_self z
    begins_self (false ∷ z) = begins_self z
snoc_fits (d ∷ done) l [] h = wrong h
snoc_fits (d ∷ done) l (x ∷ ls) h =
    let s : _ × _ = and_both (pointwise nat_eq d x) (fits (done ++ l ∷ []) [] ls) h in
    let r : (fits done (bits_of l) ls ≡ true) × (length done + 1 < length ls) = snoc_fits done l ls s.1 in
    (and_make (pointwise nat_eq d x) (fits done (bits_of l) ls) s.0 r.0, (let n : length done + 1 < length ls = r.1 in omega (arith, n)))

-- levels that end there are these
pub fits_last : (done : List (List ℕ)) (l : List ℕ) (ls : List (List ℕ)) → fits done (bits_of l) ls ≡ true → nth ls (length done) ≡ l → length ls ≤ length done + 1 → ls ≡ done ++ l ∷ []
fits_last [] l [] h e n = wrong h
fits_last [] l (x ∷ []) h e n = ap (λ t. t ∷ []) e
fits_last [] l (x ∷ y ∷ ls) h e n = absurd (omega (arith, n))
fits_last (d ∷ done) l [] h e n = wrong h
fits_last (d ∷ done) l (x ∷ ls) h e n =
    let s : _ × _ = and_both (pointwise nat_eq d x) (fits done (bits_of l) ls) h in
    ap (λ t. t ∷ ls) (sym (pointwise_path d x s.0)) ∙ ap (λ t. d ∷ t) (fits_last done l ls s.1 e (omega (arith, n)))
