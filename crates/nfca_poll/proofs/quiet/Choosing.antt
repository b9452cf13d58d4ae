-- A resolution without noise picks the first in crowd order.
use Rattle.std.proofs.Common.{◌≡◌, ℕ, ◌+◌, ◌<◌, ◌≤◌, List, [], ◌∷◌, ◌++◌, length, map, filter_map, take, drop, get_or, Bool, true, false, ◌&&◌, nat_le, ◌==◌, if◌then◌else◌, inl, inr, refl, sym, ◌∙◌}
use Rattle.std.proofs.Common.{ap, subst, arith, Option, Some, None, append_assoc}
use Rattle.std.specs.List.{cons_option}
use Rattle.std.proofs.lemmas.List.{length-append, append_cancel_left, length-take-le}
use Rattle.nfc_base.specs.declared.frame.Tech.TheVariants.{A}
use Rattle.nfc_base.specs.declared.event.Heard.{Heard}
use Rattle.nfc_base.specs.declared.event.Heard.TheVariants.{Whole, Collided}
use Rattle.nfc_base.specs.Signal.{Signal}
use Rattle.nfc_base.specs.Bits.{bits, bits_of, packed, of_bits}
use Rattle.nfc_base.proofs.Packing.{packed_bits_of}
use Rattle.air_core.specs.Joint.{Single, Clashing, joint, common_all, all_same as all_frames}
use Rattle.nfca_poll.specs.declared.kind.Kind.{Kind}
use Rattle.nfca_poll.specs.Ident.{IsIdent}
use Rattle.nfca_poll.specs.Levels.{levels, bcc}
use Rattle.nfca_poll.specs.Calls.{Reading, Calls, Sens}
use Rattle.nfca_poll.specs.Front.{Front, Off, Idle, Sleep, Ready, Active, begins, sens_res}
use Rattle.nfca_poll.specs.Poll.{Seek, Calling, Asking, Selecting, Ended, Found, BadAnswer, seek_step, completed, narrowed}
use Rattle.nfca_poll.specs.Crowd.{Card, Each, with_front, is_idle, is_rest, ahead, crowd_bits}
use Rattle.nfca_poll.proofs.quiet.CrowdParts.{IsFirst}
use Rattle.nfca_poll.proofs.quiet.Clashes.{wrong, wrong_back, and_both, and_make, Has, all_same, begins-append, begins_same, begins_first, begins_each, each_same, clash, same_bits, same_self}
use Rattle.nfca_poll.proofs.quiet.Eaches.{each_map, each_with, each_has, has_middle, map_same, map_twice, IfSaid, said_map, said_same, said_each, each_said, said_has}
use Rattle.nfca_poll.proofs.identifiers.HeardBits.{bits_back, heard_of, heard_bits, joint_bits}
use Rattle.nfca_poll.proofs.quiet.OneLevel.{level_checks}
use Rattle.nfca_poll.proofs.identifiers.LevelFacts.{IsLevel, IsLevels, levels_are}
use Rattle.nfca_poll.proofs.identifiers.Fitting.{card_next, card_says, nth, fits, card_at, fits_level, fits_more, fits_not, fits_in, each_level, begins_split, begins_add, same_level}
use Rattle.nfca_poll.proofs.identifiers.Fitting.{level_size as forty, ahead_rest, ahead_behind, rest_at, framed, sdd_at, asked_next, asked_says, asked_if}

-- what a reader hears of some devices, without noise
abbrev pub hears : Reading → List Card → Heard
hears r cs = heard_of (joint (filter_map (card_says r) cs))

-- The devices are known at each point: before, those whose levels fit what was last asked, and the first alone.
abbrev pub Seeks : List Card → Card → List Card → Seek → List Card → Type 0
Seeks a m b (Calling n) v = v ≡ a ++ m ∷ b
Seeks a m b (Asking done known) v = (pre : List Bool) × (v ≡ map (card_at done pre) (a ++ m ∷ b)) × (begins pre known ≡ true) × (fits done known (levels m.id) ≡ true) × (length known ≤ 32)
Seeks a m b (Selecting done l) v = (v ≡ map (card_at done (bits_of l)) (a ++ m ∷ b)) × (fits done (bits_of l) (levels m.id) ≡ true) × IsLevel l
Seeks a m b (Ended o) v = (o ≡ Found (levels m.id) m.kind) × (v ≡ a ++ with_front m (Active false) ∷ b)

abbrev pub IsCard : Card → Type 0
IsCard c = IsIdent c.id × (is_rest c.front ≡ true)

-- SENS_REQ
pub has_levels : (ls : List (List ℕ)) → 0 < length ls → fits [] [] ls ≡ true
has_levels [] h = absurd (omega (arith, h))
has_levels (l ∷ ls) h = refl

pub heard_some : (g : Signal) (xs : List Signal) (n : ℕ) → Has g xs → seek_step (Calling n) (heard_of (joint xs)) ≡ Asking [] []
heard_some g [] n h = absurd h
heard_some g (x ∷ xs) n h = by_cases (all_frames x xs)
  where
    by_cases : (v : Bool) → seek_step (Calling n) (heard_of (if v then Single x else Clashing (of_bits x.tech (common_all (bits x) (map bits xs))))) ≡ Asking [] []
    by_cases true = refl
    by_cases false = refl

pub woken_by : (id : List ℕ) (k : Kind) (f : Front) → 0 < length (levels id) → is_rest f ≡ true
    → card_next (Calls Sens) (record { id = id; kind = k; front = f }) ≡ card_at [] [] (record { id = id; kind = k; front = f })
woken_by id k Off h r = refl
woken_by id k Idle h r = sym (ap (λ v. asked_if (record { id = id; kind = k; front = Idle }) 0 v) (has_levels (levels id) h))
woken_by id k Sleep h r = refl
woken_by id k (Ready j s) h r = wrong r
woken_by id k (Active s) h r = wrong r

pub calls_idle : (m : Card) → m.front ≡ Idle → card_says (Calls Sens) m ≡ Some (sens_res (length (levels m.id)))
calls_idle m i = let S : Front → Option Signal = λ f. card_says (Calls Sens) (with_front m f) in ap S i

pub some_levels : (id : List ℕ) → IsIdent id → 0 < length (levels id)
some_levels id i = let l : IsLevels (levels id) = levels_are id i in l.some

pub calling_turn : (a : List Card) (m : Card) (b : List Card) (n : ℕ) (v : List Card) → IsFirst a m b → v ≡ a ++ m ∷ b
    → Seeks a m b (seek_step (Calling n) (hears (Calls Sens) v)) (map (card_next (Calls Sens)) v)
calling_turn a m b n v F e =
    let W : List Card = a ++ m ∷ b in
    let r : Reading = Calls Sens in
    let here : IsIdent m.id = (each_has IsCard m W F.cards (has_middle m a b)).0 in
    let some : Has (sens_res (length (levels m.id))) (filter_map (card_says r) W) = said_has (card_says r) m (sens_res (length (levels m.id))) W (has_middle m a b) (calls_idle m F.idle) in
    let state : seek_step (Calling n) (hears r v) ≡ Asking [] [] = ap (λ t. seek_step (Calling n) (hears r t)) e ∙ heard_some (sens_res (length (levels m.id))) (filter_map (card_says r) W) n some in
    let world : map (card_next r) v ≡ map (card_at [] []) W =
    ap (map (card_next r)) e ∙ map_same (card_next r) (card_at [] []) W
    (each_map IsCard (λ c. card_next r c ≡ card_at [] [] c) (λ c h. woken_by c.id c.kind c.front (some_levels c.id h.0) h.1) W F.cards) in
    let Q : Seek → Type 0 = λ s. Seeks a m b s (map (card_next r) v) in
    subst Q (sym state) ([], world, refl, has_levels (levels m.id) (some_levels m.id here), omega arith)

-- SDD_REQ
pub if_said : {Y : Type 0} (P : Y → Type 0) (v : Bool) (x : Y) → (v ≡ true → P x) → IfSaid P (if v then Some x else None)
if_said P true x f = f refl
if_said P false x f = tt

pub said_if : {Y : Type 0} (P : Y → Type 0) (v : Bool) (x : Y) → IfSaid P (if v then Some x else None) → v ≡ true → P x
said_if P true x h e = h
said_if P false x h e = wrong e

-- what is known of each answer: it completes a level, and stands behind r
abbrev pub Good : List Bool → List Bool → List Bool → Type 0
Good known r x = (l : List ℕ) × IsLevel l × (known ++ x ≡ bits_of l) × (ahead r x ≡ true)

le_of : (n k : ℕ) → nat_le n k ≡ true → n ≤ k
le_of n k h = grind arith

less_of : (n k : ℕ) → nat_le n k ≡ false → k < n
less_of n k h = grind arith

eq_forty : (n : ℕ) → n ≡ 40 → (n == 40) ≡ true
eq_forty n h = grind arith

-- what one SDD_REQ comes to: all that answer have this level, or these bits in common
pub data Asked (done : List (List ℕ)) (known r : List Bool) (lm : List ℕ) (xs : List (List Bool)) : Seek → Type 0 where
  all : Each (λ y. r ≡ y) xs → Asked done known r lm xs (Selecting done lm)
  part : (c : List Bool) → Each (λ y. begins c y ≡ true) xs → begins (c ++ true ∷ []) r ≡ true → length (known ++ c) < 32 → Asked done known r lm xs (Asking done ((known ++ c) ++ true ∷ []))

-- the bits of a level complete it
is_completed : (done : List (List ℕ)) (l : List ℕ) → IsLevel l → completed done (bits_of l) ≡ Selecting done l
is_completed done l i =
    let size : length l ≡ 5 = i.size in
    let back : packed (bits_of l) ≡ l = packed_bits_of l i.bytes in
    let four : length (take 4 l) ≡ 4 = length-take-le 4 l (omega (arith, size)) in
    let P : List ℕ → Type 0 = λ t. (get_or t 4 0 == bcc t) ≡ true in
    let check : (get_or l 4 0 == bcc l) ≡ true = subst P (sym i.check) (level_checks (take 4 l) four) in
    let K : Bool → List ℕ → Seek = λ v t. if v && (get_or t 4 0 == bcc t) then Selecting done t else Ended BadAnswer in
    ap (λ v. K v (packed (bits_of l))) (eq_forty (length (bits_of l)) (forty l i)) ∙ ap (K true) back ∙ ap (λ v. if v then Selecting done l else Ended BadAnswer) check

good_size : (known r x : List Bool) → Good known r x → length (known ++ x) ≡ 40
good_size known r x g = ap length g.2 ∙ forty g.0 g.1

same_far : (known r c x y : List Bool) → 32 ≤ length (known ++ c) → begins c x ≡ true → begins c y ≡ true → Good known r x → Good known r y → x ≡ y
same_far known r c x y n h k p q =
    let B : List Bool → Type 0 = λ t. begins (known ++ c) t ≡ true in
    let same : p.0 ≡ q.0 = same_level (known ++ c) p.0 q.0 n (subst B p.2 (begins_add known c x h)) (subst B q.2 (begins_add known c y k)) p.1 q.1 in
    append_cancel_left known x y (p.2 ∙ ap bits_of same ∙ sym q.2)

is_narrowed : (done : List (List ℕ)) (known : List Bool) (v : Bool) → nat_le 32 (length known) ≡ v → v ≡ false → narrowed done known ≡ Asking done (known ++ true ∷ [])
is_narrowed done known v e f = ap (λ t. if t then Ended BadAnswer else Asking done (known ++ true ∷ [])) (e ∙ f)

one_of : (g x : List Bool) (xs : List (List Bool)) → g ≡ x → Each (λ y. g ≡ y) xs → all_same x xs ≡ true
one_of g x [] p e = refl
one_of g x (y ∷ ys) p e =
    let S : List Bool → Type 0 = λ t. same_bits x t ≡ true in
    and_make (same_bits x y) (all_same x ys) (subst S (sym p ∙ e.0) (same_self x)) (one_of g x ys p e.1)

pub asked_result : (done : List (List ℕ)) (known r : List Bool) (lm : List ℕ) (xs : List (List Bool)) → IsLevel lm → known ++ r ≡ bits_of lm → Has r xs → Each (Good known r) xs
    → Asked done known r lm xs (seek_step (Asking done known) (heard_bits xs))
asked_result done known r lm [] il el h e = absurd h
asked_result done known r lm (x ∷ ys) il el h e = by_cases (all_same x ys) refl
  where
    whole : all_same x ys ≡ true → r ≡ x
    whole s = elim h [ inl p ↦ p | inr k ↦ sym (each_has (λ y. x ≡ y) r ys (each_same x ys s) k) ]

    own : Good known r r
    own = each_has (Good known r) r (x ∷ ys) e h

    one_length : (y : List Bool) → length (known ++ y) ≡ 40 → length y ≡ length r
    one_length y n = let k : length (known ++ r) ≡ 40 = good_size known r r own in omega (arith, n, k, length-append known y, length-append known r)

    far : all_same x ys ≡ false → (v : Bool) → nat_le 32 (length (known ++ common_all x ys)) ≡ v → v ≡ false
    far d true n =
        let size : 32 ≤ length (known ++ common_all x ys) = le_of 32 (length (known ++ common_all x ys)) n in
        wrong_back (sym (one_of x x ys refl
        (each_with (λ y. begins (common_all x ys) y ≡ true) (Good known r) (λ y. x ≡ y)
        (λ y p g. same_far known r (common_all x ys) x y size (begins_first x ys) p e.0 g) ys (begins_each x ys) e.1)) ∙ d)
    far d false n = refl

    by_cases : (v : Bool) → all_same x ys ≡ v → Asked done known r lm (x ∷ ys) (seek_step (Asking done known) (if v then Whole (of_bits A x) else Collided (of_bits A (common_all x ys))))
    by_cases true s =
        let S : Seek → Type 0 = λ t. Asked done known r lm (x ∷ ys) t in
        let state : completed done (known ++ bits (of_bits A x)) ≡ Selecting done lm =
        ap (λ t. completed done (known ++ t)) (bits_back x ∙ sym (whole s)) ∙ ap (completed done) el ∙ is_completed done lm il in
        subst S (sym state) (all (whole s, each_map (λ y. x ≡ y) (λ y. r ≡ y) (λ y p. whole s ∙ p) ys (each_same x ys s)))
    by_cases false d =
        let c : List Bool = common_all x ys in
        let S : Seek → Type 0 = λ t. Asked done known r lm (x ∷ ys) t in
        let near : nat_le 32 (length (known ++ c)) ≡ false = far d (nat_le 32 (length (known ++ c))) refl in
        let state : narrowed done (known ++ bits (of_bits A c)) ≡ Asking done ((known ++ c) ++ true ∷ []) =
        ap (λ t. narrowed done (known ++ t)) (bits_back c) ∙ is_narrowed done (known ++ c) (nat_le 32 (length (known ++ c))) refl near in
        subst S (sym state)
        (part c (begins_first x ys, begins_each x ys)
        (clash r x ys (one_length x (good_size known r x e.0)) (each_map (Good known r) (λ y. length y ≡ length r) (λ y g. one_length y (good_size known r y g)) ys e.1) e.0.3
        (each_map (Good known r) (λ y. ahead r y ≡ true) (λ y g. g.3) ys e.1) h d) (less_of 32 (length (known ++ c)) near))

-- devices whose levels fit more
pub fits_same : (i : Bool) (done : List (List ℕ)) (p q : List Bool) (ls : List (List ℕ)) → begins p q ≡ true
    → (i && fits done p ls ≡ true → begins q (bits_of (nth ls (length done))) ≡ true) → (i && fits done p ls) ≡ (i && fits done q ls)
fits_same false done p q ls b f = refl
fits_same true done p q ls b f = by_cases (fits done p ls) refl
  where
    by_cases : (v : Bool) → fits done p ls ≡ v → v ≡ fits done q ls
    by_cases true h = sym (fits_more done p q ls h (f h))
    by_cases false h = sym (fits_not done p q ls b h (fits done q ls) refl)

card_same : (done : List (List ℕ)) (p q : List Bool) (c : Card) → begins p q ≡ true
    → ((is_idle c.front && fits done p (levels c.id)) ≡ true → begins q (bits_of (nth (levels c.id) (length done))) ≡ true) → card_at done p c ≡ card_at done q c
card_same done p q c b f = ap (λ t. asked_if c (length done) t) (fits_same (is_idle c.front) done p q (levels c.id) b f)

-- the answers and the devices of a turn
pub world_after : (f : Reading) (g h : Card → Card) (W v : List Card) → v ≡ map g W → Each (λ c. card_next f (g c) ≡ h c) W → map (card_next f) v ≡ map h W
world_after f g h W v e s = ap (map (card_next f)) e ∙ map_twice (card_next f) g W ∙ map_same (λ c. card_next f (g c)) h W s

pub answers_after : (f : Reading) (g : Card → Card) (p : Card → Option Signal) (W v : List Card) → v ≡ map g W → Each (λ c. card_says f (g c) ≡ p c) W → filter_map (card_says f) v ≡ filter_map p W
answers_after f g p W v e s = ap (filter_map (card_says f)) e ∙ said_map (card_says f) g W ∙ said_same (λ c. card_says f (g c)) p W s

cons_framed : (o : Option (List Bool)) (xs : List (List Bool)) → cons_option (framed o) (map (of_bits A) xs) ≡ map (of_bits A) (cons_option o xs)
cons_framed None xs = refl
cons_framed (Some x) xs = refl

framed_all : (p : Card → Option (List Bool)) (cs : List Card) → filter_map (λ c. framed (p c)) cs ≡ map (of_bits A) (filter_map p cs)
framed_all p [] = refl
framed_all p (c ∷ cs) = ap (cons_option (framed (p c))) (framed_all p cs) ∙ cons_framed (p c) (filter_map p cs)

pub nth_level : (done : List (List ℕ)) (p : List Bool) (ls : List (List ℕ)) → IsLevels ls → fits done p ls ≡ true → IsLevel (nth ls (length done))
nth_level done p ls l f = each_level IsLevel ls (length done) l.each (fits_in done p ls f)

good_answer : (done : List (List ℕ)) (known : List Bool) (m c : Card) → IsIdent m.id → IsIdent c.id → fits done known (levels m.id) ≡ true
    → (is_idle c.front ≡ true → ahead (crowd_bits m.id) (crowd_bits c.id) ≡ true) → (is_idle c.front && fits done known (levels c.id)) ≡ true
    → Good known (drop (length known) (bits_of (nth (levels m.id) (length done)))) (drop (length known) (bits_of (nth (levels c.id) (length done))))
good_answer done known m c im ic fm first v =
    let s : _ × _ = and_both (is_idle c.front) (fits done known (levels c.id)) v in
    let lc : List ℕ = nth (levels c.id) (length done) in
    let lm : List ℕ = nth (levels m.id) (length done) in
    let kc : IsLevel lc = nth_level done known (levels c.id) (levels_are c.id ic) s.1 in
    let km : IsLevel lm = nth_level done known (levels m.id) (levels_are m.id im) fm in
    let split : bits_of lc ≡ known ++ drop (length known) (bits_of lc) = begins_split known (bits_of lc) (fits_level done known (levels c.id) s.1) in (
      lc,
      kc,
      sym split,
      ahead_behind known (bits_of lm) (bits_of lc) (fits_level done known (levels m.id) fm) (fits_level done known (levels c.id) s.1)
          (ahead_rest done known (levels m.id) (levels c.id) fm s.1 (forty lm km ∙ sym (forty lc kc)) (first s.0)),
    )

pub begins_more : (known c x : List Bool) → begins known x ≡ true → begins c (drop (length known) x) ≡ true → begins (known ++ c) x ≡ true
begins_more known c x h k = let B : List Bool → Type 0 = λ t. begins (known ++ c) t ≡ true in subst B (sym (begins_split known x h)) (begins_add known c (drop (length known) x) k)

-- where each answer of known begins with more, the same devices fit known and more
more_fit : (done : List (List ℕ)) (known c : List Bool) (W : List Card) → Each (λ y. begins c y ≡ true) (filter_map (rest_at done known) W)
    → map (card_at done known) W ≡ map (card_at done (known ++ c)) W
more_fit done known c W e =
    map_same (card_at done known) (card_at done (known ++ c)) W
    (each_map (λ x. IfSaid (λ y. begins c y ≡ true) (rest_at done known x)) (λ x. card_at done known x ≡ card_at done (known ++ c) x)
    (λ x h. card_same done known (known ++ c) x (begins-append known c)
    (λ i. begins_more known c (bits_of (nth (levels x.id) (length done))) (fits_level done known (levels x.id) (and_both (is_idle x.front) (fits done known (levels x.id)) i).1)
    (said_if (λ y. begins c y ≡ true) (is_idle x.front && fits done known (levels x.id)) (drop (length known) (bits_of (nth (levels x.id) (length done)))) h i)))
    W (each_said (λ y. begins c y ≡ true) (rest_at done known) W e))

asked_ends : (a : List Card) (m : Card) (b : List Card) (done : List (List ℕ)) (known : List Bool) (v : List Card) → IsFirst a m b → IsIdent m.id → fits done known (levels m.id) ≡ true
    → map (card_next (sdd_at done known)) v ≡ map (card_at done known) (a ++ m ∷ b)
    → (s : Seek) → Asked done known (drop (length known) (bits_of (nth (levels m.id) (length done)))) (nth (levels m.id) (length done)) (filter_map (rest_at done known) (a ++ m ∷ b)) s
    → Seeks a m b s (map (card_next (sdd_at done known)) v)
asked_ends a m b done known v F here fm world _ (all e) =
    let W : List Card = a ++ m ∷ b in
    let l : List ℕ = nth (levels m.id) (length done) in
    let lm : List Bool = bits_of l in
    let r : List Bool = drop (length known) lm in
    let whole : known ++ r ≡ lm = sym (begins_split known lm (fits_level done known (levels m.id) fm)) in (
      world ∙ more_fit done known r W (each_map (λ y. r ≡ y) (λ y. begins r y ≡ true) (λ y p. (let R : List Bool → Type 0 = λ t. begins r t ≡ true in subst R p (begins_same r)))
          (filter_map (rest_at done known) W) e)
          ∙ ap (λ t. map (card_at done t) W) whole,
      fits_more done known lm (levels m.id) fm (begins_same lm),
      nth_level done known (levels m.id) (levels_are m.id here) fm,
    )
asked_ends a m b done known v F here fm world _ (part c e p n) =
    let lm : List Bool = bits_of (nth (levels m.id) (length done)) in
    let B : List Bool → Type 0 = λ t. begins t lm ≡ true in
    let one : length ((known ++ c) ++ true ∷ []) ≡ length (known ++ c) + 1 = length-append (known ++ c) (true ∷ []) in (
      known ++ c,
      world ∙ more_fit done known c (a ++ m ∷ b) e,
      begins-append (known ++ c) (true ∷ []),
      fits_more done known ((known ++ c) ++ true ∷ []) (levels m.id) fm
          (subst B (sym (append_assoc known c (true ∷ []))) (begins_more known (c ++ true ∷ []) lm (fits_level done known (levels m.id) fm) p)),
      omega (arith, one, n),
    )

pub asking_turn : (a : List Card) (m : Card) (b : List Card) (done : List (List ℕ)) (known : List Bool) (v : List Card) → IsFirst a m b → Seeks a m b (Asking done known) v
    → Seeks a m b (seek_step (Asking done known) (hears (sdd_at done known) v)) (map (card_next (sdd_at done known)) v)
asking_turn a m b done known v F k =
    let W : List Card = a ++ m ∷ b in
    let f : Reading = sdd_at done known in
    let pre : List Bool = k.0 in
    let l : List ℕ = nth (levels m.id) (length done) in
    let lm : List Bool = bits_of l in
    let r : List Bool = drop (length known) lm in
    let here : IsIdent m.id = (each_has IsCard m W F.cards (has_middle m a b)).0 in
    let world : map (card_next f) v ≡ map (card_at done known) W =
    world_after f (card_at done pre) (card_at done known) W v k.1 (each_map IsCard (λ c. card_next f (card_at done pre c) ≡ card_at done known c) (λ c h. asked_next done pre known c k.2 h.1) W
    F.cards) in
    let xs : List (List Bool) = filter_map (rest_at done known) W in
    let said : filter_map (card_says f) v ≡ map (of_bits A) xs =
    answers_after f (card_at done pre) (λ c. framed (rest_at done known c)) W v k.1 (each_map IsCard (λ c. card_says f (card_at done pre c) ≡ framed (rest_at done known c))
    (λ c h. asked_says done pre known c k.2 h.1) W F.cards)
    ∙ framed_all (rest_at done known) W in
    let heard : hears f v ≡ heard_bits xs = ap (λ t. heard_of (joint t)) said ∙ joint_bits xs in
    let own : rest_at done known m ≡ Some r = ap (λ t. if t then Some r else None) (and_make (is_idle m.front) (fits done known (levels m.id)) (ap is_idle F.idle) k.3) in
    let some : Has r xs = said_has (rest_at done known) m r W (has_middle m a b) own in
    let good : Each (Good known r) xs =
    said_each (Good known r) (rest_at done known) W
    (each_with IsCard (λ c. is_idle c.front ≡ true → ahead (crowd_bits m.id) (crowd_bits c.id) ≡ true) (λ c. IfSaid (Good known r) (rest_at done known c))
    (λ c i first. if_said (Good known r) (is_idle c.front && fits done known (levels c.id)) (drop (length known) (bits_of (nth (levels c.id) (length done))))
    (good_answer done known m c here i.0 k.3 first))
    W F.cards F.first) in
    let whole : known ++ r ≡ lm = sym (begins_split known lm (fits_level done known (levels m.id) k.3)) in
    let Q : Seek → Type 0 = λ s. Seeks a m b s (map (card_next f) v) in
    subst Q (ap (seek_step (Asking done known)) (sym heard))
    (asked_ends a m b done known v F here k.3 world (seek_step (Asking done known) (heard_bits xs))
    (asked_result done known r l xs (nth_level done known (levels m.id) (levels_are m.id here) k.3) whole some good))
