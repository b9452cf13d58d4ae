-- SEL_REQ in a resolution without noise, and each turn of one.
use Rattle.std.proofs.Common.{◌≡◌, ◌≢◌, ℕ, ◌+◌, ◌<◌, ◌≤◌, List, [], ◌∷◌, ◌++◌, length, map, filter_map, Bool, true, false, ◌&&◌, nat_lt, if◌then◌else◌, refl, sym, ◌∙◌, ap, subst, arith, Option, Some}
use Rattle.std.proofs.Common.{None}
use Rattle.std.specs.List.{cons_option}
use Rattle.std.proofs.lemmas.List.{length-append}
use Rattle.nfc_base.specs.declared.frame.Tech.TheVariants.{A}
use Rattle.nfc_base.specs.declared.event.Heard.TheVariants.{Whole}
use Rattle.nfc_base.specs.Signal.{Signal}
use Rattle.nfc_base.specs.Bits.{bits, bits_of, of_bits}
use Rattle.air_core.specs.Joint.{Single, Clashing, joint, common_all, all_same as all_frames, same_signal}
use Rattle.nfca_poll.specs.declared.kind.Kind.{Kind}
use Rattle.nfca_poll.specs.declared.kind.Kind.TheVariants.{T2, T4, Peer}
use Rattle.nfca_poll.specs.declared.seeking.Seeking.{Seeking}
use Rattle.nfca_poll.specs.declared.seeking.Seeking.TheVariants as seeks
use Rattle.nfca_poll.specs.declared.seeking.Done.{Done}
use Rattle.nfca_poll.specs.declared.seeking.Done.TheVariants as dones
use Rattle.nfca_poll.specs.Ident.{IsIdent, IsIdentLength}
use Rattle.nfca_poll.specs.Levels.{levels, identifier, cascades}
use Rattle.nfca_poll.specs.Calls.{Reading, call_of}
use Rattle.nfca_poll.specs.Front.{Front, Off, Idle, Sleep, Ready, Active, more_levels, sel_res}
use Rattle.nfca_poll.specs.Poll.{Seek, Asking, Selecting, Ended, Found, BadAnswer, seek_step, goes_on}
use Rattle.nfca_poll.specs.Seeking.{levels_of, seek_of, request_of}
use Rattle.nfca_poll.specs.Crowd.{Card, Each, with_front, is_idle, is_rest}
use Rattle.nfca_poll.proofs.quiet.CrowdParts.{IsFirst}
use Rattle.nfca_poll.proofs.quiet.Clashes.{wrong, and_both, and_make, Has}
use Rattle.nfca_poll.proofs.quiet.Eaches.{each_map, each_with, each_has, each_front, each_back, has_middle, map_twice, map_none, IfSaid, said_map, said_each, said_has, said_none}
use Rattle.nfca_poll.proofs.identifiers.HeardBits.{heard_of, signal_self}
use Rattle.nfca_poll.proofs.identifiers.LevelParts.{by_seven, by_ten, by_length}
use Rattle.nfca_poll.proofs.quiet.OneLevel.{by_four}
use Rattle.nfca_poll.proofs.identifiers.LevelFacts.{IsLevel, IsLevels, levels_are}
use Rattle.nfca_poll.proofs.identifiers.CallsRead.{sdd_read, sel_read}
use Rattle.nfca_poll.proofs.identifiers.Fitting.{card_next, card_says, nth, fits, card_at, fits_level, fits_in, begins_whole, level_size as forty, level_by_bits, sel_at, sel_next, sel_says, fits_snoc}
use Rattle.nfca_poll.proofs.identifiers.Fitting.{snoc_fits, fits_last, asked_if}
use Rattle.nfca_poll.proofs.quiet.Choosing.{hears, Seeks, IsCard, calling_turn, asking_turn, if_said, world_after, answers_after, nth_level}

-- what a device says whose levels fit
abbrev said_at : List (List ℕ) → List ℕ → Signal → Card → Option Signal
said_at done l g c = if is_idle c.front && fits done (bits_of l) (levels c.id) then Some g else None

-- answers that are all one frame
joint_one : (g : Signal) (xs : List Signal) → g.tech ≡ A → Has g xs → Each (λ y. g ≡ y) xs → joint xs ≡ Single g
joint_one g [] t h e = absurd h
joint_one g (x ∷ xs) t h e =
    ap (λ v. if v then Single x else Clashing (of_bits x.tech (common_all (bits x) (map bits xs)))) (all_one xs e.1) ∙ ap Single (sym e.0)
  where
    all_one : (ys : List Signal) → Each (λ y. g ≡ y) ys → all_frames x ys ≡ true
    all_one [] es = refl
    all_one (y ∷ ys) es =
        let P : Signal → Type 0 = λ z. same_signal x z ≡ true in
        let Q : Signal → Type 0 = λ z. z.tech ≡ A in
        and_make (same_signal x y) (all_frames x ys) (subst P (sym e.0 ∙ es.0) (signal_self x (subst Q e.0 t))) (all_one ys es.1)

-- a device whose levels have l next has more levels where l says so
more_at : (done : List (List ℕ)) (l : List ℕ) (ls ms : List (List ℕ)) → IsLevels ls → IsLevels ms → nth ls (length done) ≡ l → nth ms (length done) ≡ l
    → length done < length ls → length done < length ms → nat_lt (length done + 1) (length ms) ≡ nat_lt (length done + 1) (length ls)
more_at done l ls ms a b e f p q = by_cases (nat_lt (length done) 2) refl
  where
    lt_of : (n k : ℕ) → nat_lt n k ≡ true → n < k
    lt_of n k h = grind arith

    not_lt : (n k : ℕ) → k ≤ n → nat_lt n k ≡ false
    not_lt n k h = grind arith

    at_least : (n k : ℕ) → nat_lt n k ≡ false → k ≤ n
    at_least n k h = grind arith

    by_cases : (v : Bool) → nat_lt (length done) 2 ≡ v → nat_lt (length done + 1) (length ms) ≡ nat_lt (length done + 1) (length ls)
    by_cases true h =
        let two : length done < 2 = lt_of (length done) 2 h in
        sym (b.marks (length done) q two) ∙ ap cascades (f ∙ sym e) ∙ a.marks (length done) p two
    by_cases false h =
        let two : 2 ≤ length done = at_least (length done) 2 h in
        let x : length ms ≤ length done + 1 = (let t : length ms ≤ 3 = b.few in omega (arith, t, two)) in
        let y : length ls ≤ length done + 1 = (let t : length ls ≤ 3 = a.few in omega (arith, t, two)) in
        not_lt (length done + 1) (length ms) x ∙ sym (not_lt (length done + 1) (length ls) y)

level_is : (done : List (List ℕ)) (l : List ℕ) (ls : List (List ℕ)) → IsLevels ls → IsLevel l → fits done (bits_of l) ls ≡ true → nth ls (length done) ≡ l
level_is done l ls a n h =
    let k : IsLevel (nth ls (length done)) = nth_level done (bits_of l) ls a h in
    level_by_bits (nth ls (length done)) l k n (sym (begins_whole (bits_of l) (bits_of (nth ls (length done))) (fits_level done (bits_of l) ls h) (forty l n ∙ sym (forty (nth ls (length done)) k))))

lt_holds : (n k : ℕ) → nat_lt n k ≡ true → n < k
lt_holds n k h = grind arith

not_more : (n k : ℕ) → nat_lt n k ≡ false → k ≤ n
not_more n k h = grind arith

-- a level more: what each device does
sel_more_by : (done : List (List ℕ)) (l id mid : List ℕ) (k : Kind) (f : Front) → IsLevels (levels id) → IsLevels (levels mid) → is_rest f ≡ true → IsLevel l
    → fits done (bits_of l) (levels mid) ≡ true → nat_lt (length done + 1) (length (levels mid)) ≡ true
    → (card_next (sel_at done l) (card_at done (bits_of l) (record { id = id; kind = k; front = f })) ≡ card_at (done ++ l ∷ []) [] (record { id = id; kind = k; front = f }))
    × (card_says (sel_at done l) (card_at done (bits_of l) (record { id = id; kind = k; front = f })) ≡ said_at done l more_levels (record { id = id; kind = k; front = f }))
sel_more_by done l id mid k Off a b r n g t = (refl, refl)
sel_more_by done l id mid k Sleep a b r n g t = (refl, refl)
sel_more_by done l id mid k (Ready j s) a b r n g t = wrong r
sel_more_by done l id mid k (Active s) a b r n g t = wrong r
sel_more_by done l id mid k Idle a b r n g t = by_cases (fits done (bits_of l) (levels id)) refl
  where
    ls : List (List ℕ)
    ls = levels id

    by_cases : (v : Bool) → fits done (bits_of l) (levels id) ≡ v
        → (card_next (sel_at done l) (asked_if (record { id = id; kind = k; front = Idle }) (length done) v) ≡ card_at (done ++ l ∷ []) [] (record { id = id; kind = k; front = Idle }))
        × (card_says (sel_at done l) (asked_if (record { id = id; kind = k; front = Idle }) (length done) v) ≡ (if v then Some more_levels else None))
    by_cases true h =
        let e : nth (levels id) (length done) ≡ l = level_is done l (levels id) a n h in
        let more : nat_lt (length done + 1) (length (levels id)) ≡ true =
        more_at done l (levels mid) (levels id) b a (level_is done l (levels mid) b n g) e (fits_in done (bits_of l) (levels mid) g) (fits_in done (bits_of l) (levels id) h) ∙ t in
        let snoc : fits (done ++ l ∷ []) [] (levels id) ≡ true = fits_snoc done l (levels id) h e (lt_holds (length done + 1) (length (levels id)) more) in (
          sel_next id k done l true e more
              ∙ ap (λ x. record { id = id; kind = k; front = Ready (x + 1) false }) (sym (length-append done (l ∷ [])))
              ∙ ap (λ x. asked_if (record { id = id; kind = k; front = Idle }) (length (done ++ l ∷ [])) x) (sym snoc),
          sel_says id k done l true e more,
        )
    by_cases false h =
        let not : fits (done ++ l ∷ []) [] (levels id) ≡ false = unless (fits (done ++ l ∷ []) [] (levels id)) refl in
        (ap (λ x. asked_if (record { id = id; kind = k; front = Idle }) (length (done ++ l ∷ [])) x) (sym not), refl)
      where
        unless : (w : Bool) → fits (done ++ l ∷ []) [] (levels id) ≡ w → w ≡ false
        unless true q = wrong (sym h ∙ (snoc_fits done l (levels id) q).0)
        unless false q = refl

-- the last level: any device but the first stays
rest_stays : (c : Card) → is_rest c.front ≡ true → (done : List (List ℕ)) (l : List ℕ) → (card_next (sel_at done l) c ≡ c) × (card_says (sel_at done l) c ≡ None)
rest_stays c r done l = by_front c.id c.kind c.front r
  where
    by_front : (id : List ℕ) (k : Kind) (fr : Front) → is_rest fr ≡ true
        → (card_next (sel_at done l) (record { id = id; kind = k; front = fr }) ≡ record { id = id; kind = k; front = fr })
        × (card_says (sel_at done l) (record { id = id; kind = k; front = fr }) ≡ None)
    by_front id k Off q = (refl, refl)
    by_front id k Idle q = (refl, refl)
    by_front id k Sleep q = (refl, refl)
    by_front id k (Ready i s) q = wrong q
    by_front id k (Active s) q = wrong q

last_levels : (done : List (List ℕ)) (l : List ℕ) (ms : List (List ℕ)) → IsLevels ms → IsLevel l → fits done (bits_of l) ms ≡ true → nat_lt (length done + 1) (length ms) ≡ false → ms ≡ done ++ l ∷ []
last_levels done l ms b n g t = fits_last done l ms g (level_is done l ms b n g) (not_more (length done + 1) (length ms) t)

-- the levels determine the identifier
back : (id : List ℕ) → IsIdentLength (length id) → identifier (levels id) ≡ id
back =
    by_length (λ id. identifier (levels id) ≡ id) (by_four (λ id. identifier (levels id) ≡ id) (λ a b c d. refl)) (by_seven (λ id. identifier (levels id) ≡ id) (λ a b c d e f g. refl))
    (by_ten (λ id. identifier (levels id) ≡ id) (λ a b c d e f g h i j. refl))

pub identifier_of : (id : List ℕ) → IsIdent id → identifier (levels id) ≡ id
identifier_of id i = back id i.size

other_stays : (done : List (List ℕ)) (l : List ℕ) (mid : List ℕ) (c : Card) → IsCard c → IsIdent mid → c.id ≢ mid → IsLevel l
    → fits done (bits_of l) (levels mid) ≡ true → nat_lt (length done + 1) (length (levels mid)) ≡ false
    → (card_next (sel_at done l) (card_at done (bits_of l) c) ≡ c) × (card_says (sel_at done l) (card_at done (bits_of l) c) ≡ None)
other_stays done l mid c i im ne n g t =
    let P : Card → Type 0 = λ x. (card_next (sel_at done l) x ≡ c) × (card_says (sel_at done l) x ≡ None) in
    let at_home : card_at done (bits_of l) c ≡ c = ap (λ v. asked_if c (length done) v) (unless (is_idle c.front && fits done (bits_of l) (levels c.id)) refl) in
    subst P (sym at_home) (rest_stays c i.1 done l)
  where
    unless : (v : Bool) → (is_idle c.front && fits done (bits_of l) (levels c.id)) ≡ v → v ≡ false
    unless false e = refl
    unless true e =
        let b : IsLevels (levels mid) = levels_are mid im in
        let a : IsLevels (levels c.id) = levels_are c.id i.0 in
        let h : fits done (bits_of l) (levels c.id) ≡ true = (and_both (is_idle c.front) (fits done (bits_of l) (levels c.id)) e).1 in
        let k : nat_lt (length done + 1) (length (levels c.id)) ≡ false =
        more_at done l (levels mid) (levels c.id) b a (level_is done l (levels mid) b n g) (level_is done l (levels c.id) a n h) (fits_in done (bits_of l) (levels mid) g)
        (fits_in done (bits_of l) (levels c.id) h) ∙ t in
        let same : levels c.id ≡ levels mid = last_levels done l (levels c.id) a n h k ∙ sym (last_levels done l (levels mid) b n g t) in
        absurd (ne (sym (identifier_of c.id i.0) ∙ ap identifier same ∙ identifier_of mid im))

first_taken : (done : List (List ℕ)) (l : List ℕ) (m : Card) → IsLevels (levels m.id) → m.front ≡ Idle → IsLevel l → fits done (bits_of l) (levels m.id) ≡ true
    → nat_lt (length done + 1) (length (levels m.id)) ≡ false
    → (card_next (sel_at done l) (card_at done (bits_of l) m) ≡ with_front m (Active false)) × (card_says (sel_at done l) (card_at done (bits_of l) m) ≡ Some (sel_res m.kind))
first_taken done l m b i n g t =
    let ready : card_at done (bits_of l) m ≡ with_front m (Ready (length done + 1) false) =
    ap (λ v. asked_if m (length done) v) (and_make (is_idle m.front) (fits done (bits_of l) (levels m.id)) (ap is_idle i) g) in
    let e : nth (levels m.id) (length done) ≡ l = level_is done l (levels m.id) b n g in (
      ap (card_next (sel_at done l)) ready ∙ sel_next m.id m.kind done l false e t,
      ap (card_says (sel_at done l)) ready ∙ sel_says m.id m.kind done l false e t,
    )

said_middle : (p : Card → Option Signal) (a : List Card) (m : Card) (b : List Card) (g : Signal) → Each (λ c. p c ≡ None) a → p m ≡ Some g → Each (λ c. p c ≡ None) b
    → filter_map p (a ++ m ∷ b) ≡ g ∷ []
said_middle p [] m b g x y z = ap (λ o. cons_option o (filter_map p b)) y ∙ ap (λ t. g ∷ t) (said_none p b z)
said_middle p (c ∷ a) m b g x y z = ap (λ o. cons_option o (filter_map p (a ++ m ∷ b))) x.0 ∙ said_middle p a m b g x.1 y z

map_middle : (h : Card → Card) (a : List Card) (m n : Card) (b : List Card) → Each (λ c. h c ≡ c) a → h m ≡ n → Each (λ c. h c ≡ c) b → map h (a ++ m ∷ b) ≡ a ++ n ∷ b
map_middle h [] m n b x y z = ap (λ t. t ∷ map h b) y ∙ ap (λ t. n ∷ t) (map_none h b z)
map_middle h (c ∷ a) m n b x y z = ap (λ t. t ∷ map h (a ++ m ∷ b)) x.0 ∙ ap (λ t. c ∷ t) (map_middle h a m n b x.1 y z)

-- what the answer to SEL_REQ comes to
cascades_more : (done : List (List ℕ)) (l : List ℕ) (ms : List (List ℕ)) → IsLevels ms → IsLevel l → fits done (bits_of l) ms ≡ true
    → goes_on done l ≡ nat_lt (length done + 1) (length ms)
cascades_more done l ms b n g = by_cases (nat_lt (length done) 2) refl
  where
    lt_of : (n k : ℕ) → nat_lt n k ≡ true → n < k
    lt_of n k h = grind arith

    not_lt : (n k : ℕ) → k ≤ n → nat_lt n k ≡ false
    not_lt n k h = grind arith

    by_cases : (v : Bool) → nat_lt (length done) 2 ≡ v → (v && cascades l) ≡ nat_lt (length done + 1) (length ms)
    by_cases true h = ap cascades (sym (level_is done l ms b n g)) ∙ b.marks (length done) (fits_in done (bits_of l) ms g) (lt_of (length done) 2 h)
    by_cases false h =
        let two : 2 ≤ length done = not_more (length done) 2 h in
        let x : length ms ≤ length done + 1 = (let t : length ms ≤ 3 = b.few in omega (arith, t, two)) in
        sym (not_lt (length done + 1) (length ms) x)

selected_last : (done : List (List ℕ)) (l : List ℕ) (k : Kind) → goes_on done l ≡ false
    → seek_step (Selecting done l) (Whole (sel_res k)) ≡ Ended (Found (done ++ l ∷ []) k)
selected_last done l T2 h = ap (λ v. if v then Ended BadAnswer else Ended (Found (done ++ l ∷ []) T2)) h
selected_last done l T4 h = ap (λ v. if v then Ended BadAnswer else Ended (Found (done ++ l ∷ []) T4)) h
selected_last done l Peer h = ap (λ v. if v then Ended BadAnswer else Ended (Found (done ++ l ∷ []) Peer)) h

pub selecting_turn : (a : List Card) (m : Card) (b : List Card) (done : List (List ℕ)) (l : List ℕ) (v : List Card) → IsFirst a m b → Seeks a m b (Selecting done l) v
    → Seeks a m b (seek_step (Selecting done l) (hears (sel_at done l) v)) (map (card_next (sel_at done l)) v)
selecting_turn a m b done l v F k = by_cases (nat_lt (length done + 1) (length (levels m.id))) refl
  where
    own_id : IsIdent m.id
    own_id = (each_has IsCard m (a ++ m ∷ b) F.cards (has_middle m a b)).0

    here : IsLevels (levels m.id)
    here = levels_are m.id own_id

    by_cases : (t : Bool) → nat_lt (length done + 1) (length (levels m.id)) ≡ t → Seeks a m b (seek_step (Selecting done l) (hears (sel_at done l) v)) (map (card_next (sel_at done l)) v)
    by_cases true t =
        let W : List Card = a ++ m ∷ b in
        let f : Reading = sel_at done l in
        let g : Signal = more_levels in
        let world : map (card_next f) v ≡ map (card_at (done ++ l ∷ []) []) W =
        world_after f (card_at done (bits_of l)) (card_at (done ++ l ∷ []) []) W v k.0
        (each_map IsCard (λ c. card_next f (card_at done (bits_of l) c) ≡ card_at (done ++ l ∷ []) [] c)
        (λ c h. (sel_more_by done l c.id m.id c.kind c.front (levels_are c.id h.0) here h.1 k.2 k.1 t).0) W F.cards) in
        let heard : filter_map (card_says f) v ≡ filter_map (said_at done l g) W =
        answers_after f (card_at done (bits_of l)) (said_at done l g) W v k.0
        (each_map IsCard (λ c. card_says f (card_at done (bits_of l) c) ≡ said_at done l g c) (λ c h. (sel_more_by done l c.id m.id c.kind c.front (levels_are c.id h.0) here h.1 k.2 k.1 t).1) W
        F.cards) in
        let own : said_at done l g m ≡ Some g = ap (λ x. if x then Some g else None) (and_make (is_idle m.front) (fits done (bits_of l) (levels m.id)) (ap is_idle F.idle) k.1) in
        let one : joint (filter_map (said_at done l g) W) ≡ Single g =
        joint_one g (filter_map (said_at done l g) W) refl (said_has (said_at done l g) m g W (has_middle m a b) own)
        (said_each (λ y. g ≡ y) (said_at done l g) W (each_map IsCard (λ c. IfSaid (λ y. g ≡ y) (said_at done l g c))
        (λ c h. if_said (λ y. g ≡ y) (is_idle c.front && fits done (bits_of l) (levels c.id)) g (λ i. refl)) W F.cards)) in
        let state : seek_step (Selecting done l) (hears f v) ≡ Asking (done ++ l ∷ []) [] =
        ap (λ x. seek_step (Selecting done l) (heard_of (joint x))) heard ∙ ap (λ x. seek_step (Selecting done l) (heard_of x)) one
        ∙ ap (λ x. if x then Asking (done ++ l ∷ []) [] else Ended BadAnswer) (cascades_more done l (levels m.id) here k.2 k.1 ∙ t) in
        let Q : Seek → Type 0 = λ s. Seeks a m b s (map (card_next f) v) in
        subst Q (sym state) ([], world, refl, fits_snoc done l (levels m.id) k.1 (level_is done l (levels m.id) here k.2 k.1) (lt_holds (length done + 1) (length (levels m.id)) t), omega arith)
    by_cases false t =
        let W : List Card = a ++ m ∷ b in
        let f : Reading = sel_at done l in
        let O : Card → Type 0 = λ c. (card_next f (card_at done (bits_of l) c) ≡ c) × (card_says f (card_at done (bits_of l) c) ≡ None) in
        let before : Each O a = each_with IsCard (λ c. c.id ≢ m.id) O (λ c i ne. other_stays done l m.id c i own_id ne k.2 k.1 t) a (each_front IsCard a (m ∷ b) F.cards) F.distinct_before in
        let after : Each O b = each_with IsCard (λ c. c.id ≢ m.id) O (λ c i ne. other_stays done l m.id c i own_id ne k.2 k.1 t) b (each_back IsCard a (m ∷ b) F.cards).1 F.distinct_after in
        let own : (card_next f (card_at done (bits_of l) m) ≡ with_front m (Active false)) × (card_says f (card_at done (bits_of l) m) ≡ Some (sel_res m.kind)) =
        first_taken done l m here F.idle k.2 k.1 t in
        let h : Card → Card = λ c. card_next f (card_at done (bits_of l) c) in
        let p : Card → Option Signal = λ c. card_says f (card_at done (bits_of l) c) in
        let world : map (card_next f) v ≡ a ++ with_front m (Active false) ∷ b =
        ap (map (card_next f)) k.0 ∙ map_twice (card_next f) (card_at done (bits_of l)) W
        ∙ map_middle h a m (with_front m (Active false)) b (each_map O (λ c. h c ≡ c) (λ c o. o.0) a before) own.0 (each_map O (λ c. h c ≡ c) (λ c o. o.0) b after) in
        let heard : filter_map (card_says f) v ≡ sel_res m.kind ∷ [] =
        ap (filter_map (card_says f)) k.0 ∙ said_map (card_says f) (card_at done (bits_of l)) W
        ∙ said_middle p a m b (sel_res m.kind) (each_map O (λ c. p c ≡ None) (λ c o. o.1) a before) own.1 (each_map O (λ c. p c ≡ None) (λ c o. o.1) b after) in
        let state : seek_step (Selecting done l) (hears f v) ≡ Ended (Found (done ++ l ∷ []) m.kind) =
        ap (λ x. seek_step (Selecting done l) (heard_of (joint x))) heard ∙ selected_last done l m.kind (cascades_more done l (levels m.id) here k.2 k.1 ∙ t) in
        let Q : Seek → Type 0 = λ s. Seeks a m b s (map (card_next f) v) in
        subst Q (sym state) (ap (λ x. Found x m.kind) (sym (last_levels done l (levels m.id) here k.2 k.1 t)), world)

pub few_done : (d : Done) → length (levels_of d) + 1 ≤ 3
few_done dones.Nothing = omega arith
few_done (dones.One x) = omega arith
few_done (dones.Two x y) = omega arith

-- any turn of the code
pub quiet_turn : (a : List Card) (m : Card) (b : List Card) (q : Seeking) (v : List Card) → IsFirst a m b → Seeks a m b (seek_of q) v
    → Seeks a m b (seek_step (seek_of q) (hears (call_of (request_of q)) v)) (map (card_next (call_of (request_of q))) v)
quiet_turn a m b (seeks.Calling n) v F k = calling_turn a m b n v F k
quiet_turn a m b (seeks.Asking d known) v F k =
    let done : List (List ℕ) = levels_of d in
    let Q : Reading → Type 0 = λ r. Seeks a m b (seek_step (Asking done known) (hears r v)) (map (card_next r) v) in
    let few : length known ≤ 32 = k.4 in
    subst Q (sym (sdd_read (length done + 1) known (omega arith) (few_done d) (omega (arith, few)))) (asking_turn a m b done known v F k)
quiet_turn a m b (seeks.Selecting d l) v F k =
    let done : List (List ℕ) = levels_of d in
    let Q : Reading → Type 0 = λ r. Seeks a m b (seek_step (Selecting done l) (hears r v)) (map (card_next r) v) in
    let i : IsLevel l = k.2 in
    subst Q (sym (sel_read (length done + 1) l (omega arith) (few_done d) i.size)) (selecting_turn a m b done l v F k)
