-- A resolution over this project's listeners, whatever noise it meets.
use Rattle.std.proofs.Common.{◌≡◌, ◌⊎◌, ℕ, ◌+◌, ◌*◌, ◌<◌, ◌≤◌, List, [], ◌∷◌, ◌++◌, length, drop, map, filter_map, get_or, Bool, true, false, ◌&&◌, nat_lt, nat_le, ◌==◌, if◌then◌else◌, inl, inr, refl}
use Rattle.std.proofs.Common.{sym, ◌∙◌, ap, subst, append_assoc, arith, Some, None, Result, Ok, Err}
use Rattle.nfc_base.specs.declared.frame.Tech.TheVariants.{A}
use Rattle.nfc_base.specs.declared.event.Event.{Event}
use Rattle.nfc_base.specs.declared.event.Heard.{Heard}
use Rattle.nfc_base.specs.declared.event.Heard.TheVariants.{Whole, Collided, Damaged, Silent}
use Rattle.nfc_base.specs.Signal.{Signal}
use Rattle.nfc_base.specs.Bits.{bits, packed}
use Rattle.nfc_base.specs.Trace.{noise}
use Rattle.air_core.specs.Joint.{joint}
use Rattle.air_core.specs.World.{Machine, World}
use Rattle.air_core.specs.Turn.{Air, moment}
use Rattle.air_core.specs.Conversation.{Moment, TurnsTo}
use Rattle.nfca_poll.specs.declared.kind.Kind.{Kind}
use Rattle.nfca_poll.specs.declared.fault.Picked.{Picked}
use Rattle.nfca_poll.specs.declared.fault.PollFault.{PollFault}
use Rattle.nfca_poll.specs.declared.fault.PollFault.TheVariants as faults
use Rattle.nfca_poll.specs.declared.seeking.Seeking.{Seeking}
use Rattle.nfca_poll.specs.declared.seeking.Seeking.TheVariants as seeks
use Rattle.nfca_poll.specs.Ident.{IsIdent}
use Rattle.nfca_poll.specs.Levels.{levels, bcc}
use Rattle.nfca_poll.specs.Calls.{Reading, Calls, Sens, call_of}
use Rattle.nfca_poll.specs.Front.{Front, Off, Idle, Sleep, Ready, Active, sens_res, is_active}
use Rattle.nfca_poll.specs.Poll.{Seek, Calling, Asking, Selecting, Ended, Outcome, Nobody, Disturbed, BadAnswer, Found, seek_step, selected, goes_on, kind_of, has_bit, is_one_byte, level_bits}
use Rattle.nfca_poll.specs.Poll.{collision_bits}
use Rattle.nfca_poll.specs.Muted.{mute_air, AskEnds}
use Rattle.nfca_poll.specs.Seeking.{resolution, seek_of, request_of, outcome, levels_of}
use Rattle.nfca_poll.specs.Crowd.{Card, Each, with_front, is_rest, AreOurs, cards}
use Rattle.nfca_poll.proofs.quiet.CrowdParts.{IsFirst, EndsThroughNoise, PicksThroughNoise}
use Rattle.nfca_poll.proofs.quiet.Clashes.{wrong, wrong_back, Has}
use Rattle.nfca_poll.proofs.quiet.Eaches.{each_map, each_has, has_middle, map_same, map_twice, map_none, said_map, said_none, said_has}
use Rattle.nfca_poll.proofs.identifiers.HeardBits.{heard_of}
use Rattle.nfca_poll.proofs.enquiries.Enquiring.{Reached}
use Rattle.nfca_poll.proofs.identifiers.Fitting.{card_next, card_says, card_at, asked_if}
use Rattle.nfca_poll.proofs.quiet.Choosing.{hears, Seeks, IsCard, has_levels, heard_some, woken_by, calls_idle, some_levels}
use Rattle.nfca_poll.proofs.quiet.Selects.{quiet_turn, identifier_of}
use Rattle.nfca_poll.proofs.quiet.Crowding.{noise-append, drop-front, events_of, turn_trace}
use Rattle.nfca_poll.proofs.quiet.CardsAtRest.{request_a, none_active, each_mapped, at_inactive}
use Rattle.nfca_poll.proofs.noise.NoisyTurns.{TurnWas, passed, unheard, damaged, lost, turn_was}

-- how it ends, by how much noise it met
abbrev pub EndsSo : List Card → Card → List Card → Outcome → List Card → ℕ → Type 0
EndsSo a m b o v n =
    ((o ≡ Found (levels m.id) m.kind) × (v ≡ a ++ with_front m (Active false) ∷ b)) ⊎ (((o ≡ Disturbed) × (0 < n)) ⊎ ((o ≡ Nobody) × (2 ≤ n)))

-- Only while it calls may noise have been met: all are at home, or all that are idle are ready, and a silence is to spare.
abbrev pub Noisy : List Card → Card → List Card → Seek → List Card → ℕ → Type 0
Noisy a m b (Calling k) v n = ((v ≡ a ++ m ∷ b) × (k ≤ 2 * n)) ⊎ ((v ≡ map (card_at [] []) (a ++ m ∷ b)) × (k + 1 ≤ 2 * n))
Noisy a m b (Asking done known) v n = Seeks a m b (Asking done known) v
Noisy a m b (Selecting done l) v n = Seeks a m b (Selecting done l) v
Noisy a m b (Ended o) v n = EndsSo a m b o v n

abbrev pub is_calling : Seek → Bool
is_calling (Calling k) = true
is_calling (Asking done known) = false
is_calling (Selecting done l) = false
is_calling (Ended o) = false

either : (v : Bool) (s t : Seek) → is_calling s ≡ false → is_calling t ≡ false → is_calling (if v then s else t) ≡ false
either true s t h k = h
either false s t h k = k

pub asking_on : (done : List (List ℕ)) (known : List Bool) (h : Heard) → is_calling (seek_step (Asking done known) h) ≡ false
asking_on done known (Whole g) =
    let x : List Bool = known ++ bits g in
    either ((length x == level_bits) && (get_or (packed x) 4 0 == bcc (packed x))) (Selecting done (packed x)) (Ended BadAnswer) refl refl
asking_on done known (Collided g) = either (nat_le collision_bits (length (known ++ bits g))) (Ended BadAnswer) (Asking done ((known ++ bits g) ++ true ∷ [])) refl refl
asking_on done known Damaged = refl
asking_on done known Silent = refl

pub selecting_on : (done : List (List ℕ)) (l : List ℕ) (h : Heard) → is_calling (seek_step (Selecting done l) h) ≡ false
selecting_on done l (Whole g) =
    let res : ℕ = get_or g.bytes 0 0 in
    either (is_one_byte g) (selected done l res) (Ended BadAnswer)
    (either (has_bit res 0x04) (if goes_on done l then Asking (done ++ l ∷ []) [] else Ended BadAnswer)
    (if goes_on done l then Ended BadAnswer else Ended (Found (done ++ l ∷ []) (kind_of res)))
    (either (goes_on done l) (Asking (done ++ l ∷ []) []) (Ended BadAnswer) refl refl)
    (either (goes_on done l) (Ended BadAnswer) (Ended (Found (done ++ l ∷ []) (kind_of res))) refl refl))
    refl
selecting_on done l (Collided g) = refl
selecting_on done l Damaged = refl
selecting_on done l Silent = refl

seeks_noisy : (a : List Card) (m : Card) (b : List Card) (s : Seek) (v : List Card) (n : ℕ) → is_calling s ≡ false → Seeks a m b s v → Noisy a m b s v n
seeks_noisy a m b (Calling k) v n h q = wrong_back h
seeks_noisy a m b (Asking done known) v n h q = q
seeks_noisy a m b (Selecting done l) v n h q = q
seeks_noisy a m b (Ended o) v n h q = inl q

-- SENS_REQ among devices at rest
pub presence : (a : List Card) (m : Card) (b : List Card) (k : ℕ) → IsFirst a m b → seek_step (Calling k) (hears (Calls Sens) (a ++ m ∷ b)) ≡ Asking [] []
presence a m b k F =
    let W : List Card = a ++ m ∷ b in
    heard_some (sens_res (length (levels m.id))) (filter_map (card_says (Calls Sens)) W) k (said_has (card_says (Calls Sens)) m (sens_res (length (levels m.id))) W (has_middle m a b)
    (calls_idle m F.idle))

wakes : (a : List Card) (m : Card) (b : List Card) → IsFirst a m b → map (card_next (Calls Sens)) (a ++ m ∷ b) ≡ map (card_at [] []) (a ++ m ∷ b)
wakes a m b F =
    map_same (card_next (Calls Sens)) (card_at [] []) (a ++ m ∷ b) (each_map IsCard (λ c. card_next (Calls Sens) c ≡ card_at [] [] c) (λ c h. woken_by c.id c.kind c.front (some_levels c.id h.0) h.1)
    (a ++ m ∷ b) F.cards)

pub asked_first : (a : List Card) (m : Card) (b : List Card) → IsFirst a m b → Seeks a m b (Asking [] []) (map (card_at [] []) (a ++ m ∷ b))
asked_first a m b F = ([], refl, refl, has_levels (levels m.id) (some_levels m.id (each_has IsCard m (a ++ m ∷ b) F.cards (has_middle m a b)).0), omega arith)

-- and among those that are ready: they go home
abbrev GoesHome : Card → Type 0
GoesHome c = (card_next (Calls Sens) (card_at [] [] c) ≡ c) × (card_says (Calls Sens) (card_at [] [] c) ≡ None)

rests_by : (id : List ℕ) (k : Kind) (f : Front) → 0 < length (levels id) → is_rest f ≡ true → GoesHome (record { id = id; kind = k; front = f })
rests_by id k Off h r = (refl, refl)
rests_by id k Idle h r =
    let ready : card_at [] [] (record { id = id; kind = k; front = Idle }) ≡ record { id = id; kind = k; front = Ready 1 false } =
    ap (λ v. asked_if (record { id = id; kind = k; front = Idle }) 0 v) (has_levels (levels id) h) in
    (ap (card_next (Calls Sens)) ready, ap (card_says (Calls Sens)) ready)
rests_by id k Sleep h r = (refl, refl)
rests_by id k (Ready j s) h r = wrong r
rests_by id k (Active s) h r = wrong r

go_home : (a : List Card) (m : Card) (b : List Card) → IsFirst a m b → Each GoesHome (a ++ m ∷ b)
go_home a m b F = each_map IsCard GoesHome (λ c h. rests_by c.id c.kind c.front (some_levels c.id h.0) h.1) (a ++ m ∷ b) F.cards

are_home : (a : List Card) (m : Card) (b : List Card) → IsFirst a m b → map (card_next (Calls Sens)) (map (card_at [] []) (a ++ m ∷ b)) ≡ a ++ m ∷ b
are_home a m b F =
    map_twice (card_next (Calls Sens)) (card_at [] []) (a ++ m ∷ b)
    ∙ map_none (λ c. card_next (Calls Sens) (card_at [] [] c)) (a ++ m ∷ b) (each_map GoesHome (λ c. card_next (Calls Sens) (card_at [] [] c) ≡ c) (λ c h. h.0) (a ++ m ∷ b) (go_home a m b F))

say_none : (a : List Card) (m : Card) (b : List Card) → IsFirst a m b → filter_map (card_says (Calls Sens)) (map (card_at [] []) (a ++ m ∷ b)) ≡ []
say_none a m b F =
    said_map (card_says (Calls Sens)) (card_at [] []) (a ++ m ∷ b)
    ∙ said_none (λ c. card_says (Calls Sens) (card_at [] [] c)) (a ++ m ∷ b) (each_map GoesHome (λ c. card_says (Calls Sens) (card_at [] [] c) ≡ None) (λ c h. h.1) (a ++ m ∷ b) (go_home a m b F))

pub at_least : (k : ℕ) → nat_lt k 3 ≡ false → 3 ≤ k
at_least k h = grind arith

-- a silence more: at home, or ready with one silence to spare
silent_calm : (a : List Card) (m : Card) (b : List Card) (k : ℕ) (v : List Card) (n : ℕ) → v ≡ a ++ m ∷ b → k + 1 ≤ 2 * n → Noisy a m b (seek_step (Calling k) Silent) v n
silent_calm a m b k v n e h = by_count (nat_lt k 3) refl
  where
    by_count : (t : Bool) → nat_lt k 3 ≡ t → Noisy a m b (if t then Calling (k + 1) else Ended Nobody) v n
    by_count true q = inl (e, h)
    by_count false q = let l : 3 ≤ k = at_least k q in inr (inr (refl, omega (arith, l, h)))

silent_ready : (a : List Card) (m : Card) (b : List Card) (k : ℕ) (v : List Card) (n : ℕ) → v ≡ map (card_at [] []) (a ++ m ∷ b) → k + 2 ≤ 2 * n → Noisy a m b (seek_step (Calling k) Silent) v n
silent_ready a m b k v n e h = by_count (nat_lt k 3) refl
  where
    by_count : (t : Bool) → nat_lt k 3 ≡ t → Noisy a m b (if t then Calling (k + 1) else Ended Nobody) v n
    by_count true q = inr (e, (let p : k + 1 + 1 ≤ 2 * n = omega (arith, h) in p))
    by_count false q = let l : 3 ≤ k = at_least k q in inr (inr (refl, omega (arith, l, h)))

-- what was due of a resolution
abbrev pub due : Seeking → Reading
due q = call_of (request_of q)

nobody_says : (a : List Card) (m : Card) (b : List Card) (v : List Card) (g : Signal) → IsFirst a m b → v ≡ map (card_at [] []) (a ++ m ∷ b) → Has g (filter_map (card_says (Calls Sens)) v) → ⊥
nobody_says a m b v g F e h =
    let P : List Signal → Type 0 = λ t. Has g t in
    subst P (ap (filter_map (card_says (Calls Sens))) e ∙ say_none a m b F) h

-- a turn among devices that are at home, or ready
calls_home : (a : List Card) (m : Card) (b : List Card) (k : ℕ) (v w : List Card) (h : Heard) (n t : ℕ) → IsFirst a m b → v ≡ a ++ m ∷ b → k ≤ 2 * n → TurnWas (Calls Sens) v w h t
    → Noisy a m b (seek_step (Calling k) h) w (n + t)
calls_home a m b k v _ _ n _ F e l passed =
    let W : List Card = a ++ m ∷ b in
    let P : Seek → List Card → Type 0 = λ s x. Noisy a m b s x (n + 0) in
    let state : seek_step (Calling k) (hears (Calls Sens) v) ≡ Asking [] [] = ap (λ x. seek_step (Calling k) (hears (Calls Sens) x)) e ∙ presence a m b k F in
    let world : map (card_next (Calls Sens)) v ≡ map (card_at [] []) W = ap (map (card_next (Calls Sens))) e ∙ wakes a m b F in
    let Q : Seek → Type 0 = λ s. P s (map (card_next (Calls Sens)) v) in
    let R : List Card → Type 0 = λ x. P (Asking [] []) x in
    subst Q (sym state) (subst R (sym world) (asked_first a m b F))
calls_home a m b k v _ _ n _ F e l unheard = silent_calm a m b k v (n + 1) e (omega (arith, l))
calls_home a m b k v _ _ n _ F e l (damaged g h) =
    let R : List Card → Type 0 = λ x. Seeks a m b (Asking [] []) x in
    subst R (sym (ap (map (card_next (Calls Sens))) e ∙ wakes a m b F)) (asked_first a m b F)
calls_home a m b k v _ _ n _ F e l (lost g h) = silent_ready a m b k (map (card_next (Calls Sens)) v) (n + 1) (ap (map (card_next (Calls Sens))) e ∙ wakes a m b F) (omega (arith, l))

calls_ready : (a : List Card) (m : Card) (b : List Card) (k : ℕ) (v w : List Card) (h : Heard) (n t : ℕ) → IsFirst a m b → v ≡ map (card_at [] []) (a ++ m ∷ b) → k + 1 ≤ 2 * n
    → TurnWas (Calls Sens) v w h t
    → Noisy a m b (seek_step (Calling k) h) w (n + t)
calls_ready a m b k v _ _ n _ F e l passed =
    let silent : hears (Calls Sens) v ≡ Silent = ap (λ t. heard_of (joint t)) (ap (filter_map (card_says (Calls Sens))) e ∙ say_none a m b F) in
    let home : map (card_next (Calls Sens)) v ≡ a ++ m ∷ b = ap (map (card_next (Calls Sens))) e ∙ are_home a m b F in
    let Q : Heard → Type 0 = λ x. Noisy a m b (seek_step (Calling k) x) (map (card_next (Calls Sens)) v) (n + 0) in
    subst Q (sym silent) (silent_calm a m b k (map (card_next (Calls Sens)) v) (n + 0) home (omega (arith, l)))
calls_ready a m b k v _ _ n _ F e l unheard = silent_ready a m b k v (n + 1) e (omega (arith, l))
calls_ready a m b k v _ _ n _ F e l (damaged g h) = absurd (nobody_says a m b v g F e h)
calls_ready a m b k v _ _ n _ F e l (lost g h) = absurd (nobody_says a m b v g F e h)

calls_turn : (a : List Card) (m : Card) (b : List Card) (k : ℕ) (v w : List Card) (h : Heard) (n t : ℕ) → IsFirst a m b → Noisy a m b (Calling k) v n → TurnWas (Calls Sens) v w h t
    → Noisy a m b (seek_step (Calling k) h) w (n + t)
calls_turn a m b k v w h n t F (inl q) was = calls_home a m b k v w h n t F q.0 q.1 was
calls_turn a m b k v w h n t F (inr q) was = calls_ready a m b k v w h n t F q.0 q.1 was

later_turn : (a : List Card) (m : Card) (b : List Card) (q : Seeking) (v w : List Card) (h : Heard) (n t : ℕ) → IsFirst a m b → Seeks a m b (seek_of q) v
    → ((x : Heard) → is_calling (seek_step (seek_of q) x) ≡ false) → seek_step (seek_of q) Silent ≡ Ended Disturbed → seek_step (seek_of q) Damaged ≡ Ended Disturbed
    → TurnWas (due q) v w h t → Noisy a m b (seek_step (seek_of q) h) w (n + t)
later_turn a m b q v _ _ n _ F k on s d passed = seeks_noisy a m b (seek_step (seek_of q) (hears (due q) v)) (map (card_next (due q)) v) (n + 0) (on (hears (due q) v)) (quiet_turn a m b q v F k)
later_turn a m b q v _ _ n _ F k on s d unheard = let P : Seek → Type 0 = λ x. Noisy a m b x v (n + 1) in subst P (sym s) (inr (inl (refl, omega arith)))
later_turn a m b q v _ _ n _ F k on s d (damaged g h) = let P : Seek → Type 0 = λ x. Noisy a m b x (map (card_next (due q)) v) (n + 1) in subst P (sym d) (inr (inl (refl, omega arith)))
later_turn a m b q v _ _ n _ F k on s d (lost g h) = let P : Seek → Type 0 = λ x. Noisy a m b x (map (card_next (due q)) v) (n + 1) in subst P (sym s) (inr (inl (refl, omega arith)))

pub noisy_turn : (a : List Card) (m : Card) (b : List Card) (q : Seeking) (v w : List Card) (h : Heard) (n t : ℕ) → IsFirst a m b → Noisy a m b (seek_of q) v n → TurnWas (due q) v w h t
    → Noisy a m b (seek_step (seek_of q) h) w (n + t)
noisy_turn a m b (seeks.Calling k) v w h n t F s was = calls_turn a m b k v w h n t F s was
noisy_turn a m b (seeks.Asking d known) v w h n t F s was = later_turn a m b (seeks.Asking d known) v w h n t F s (asking_on (levels_of d) known) refl refl was
noisy_turn a m b (seeks.Selecting d l) v w h n t F s was = later_turn a m b (seeks.Selecting d l) v w h n t F s (selecting_on (levels_of d) l) refl refl was

noisy_inactive : (a : List Card) (m : Card) (b : List Card) (q : Seeking) (v : List Card) (n : ℕ) → IsFirst a m b → Noisy a m b (seek_of q) v n → Each (λ x. is_active x.front ≡ false) v
noisy_inactive a m b (seeks.Calling k) v n F (inl s) = none_active a m b (seeks.Calling k) v F s.0
noisy_inactive a m b (seeks.Calling k) v n F (inr s) =
    let P : List Card → Type 0 = λ w. Each (λ x. is_active x.front ≡ false) w in
    subst P (sym s.0) (each_mapped (card_at [] []) (λ x. is_active x.front ≡ false) (a ++ m ∷ b)
    (each_map IsCard (λ x. is_active (card_at [] [] x).front ≡ false) (λ x i. at_inactive [] [] x i.1) (a ++ m ∷ b) F.cards))
noisy_inactive a m b (seeks.Asking d known) v n F s = none_active a m b (seeks.Asking d known) v F s
noisy_inactive a m b (seeks.Selecting d l) v n F s = none_active a m b (seeks.Selecting d l) v F s

module _ {L : Type 0} (m : Machine L) (identifier' : L → List ℕ) where
  -- So far, whatever noise was met, this is known of the cards.
  abbrev pub Holds : Air L → Air L → Seek → Type 0
  Holds old now s =
      (ours : AreOurs m identifier') (a : List Card) (c : Card) (b : List Card) → cards ours old.listeners ≡ a ++ c ∷ b → IsFirst a c b
      → Noisy a c b s (cards ours now.listeners) (noise (drop (length old.trace) now.trace))

  pub holds_start : (old : Air L) → Holds old old (Calling 0)
  holds_start old ours a c b e F = inl (e, omega arith)

  pub noise_so_far : (old now new : Air L) (s : Seek) (f : Signal) (h : Heard) → Reached resolution m old now s → TurnsTo (mute_air m) (moment now) (moment new) f (Some h)
      → noise (drop (length old.trace) now.trace) + noise (events_of m now f) ≡ noise (drop (length old.trace) new.trace)
  noise_so_far old now new s f h r t =
      let M : Moment (World L) → List Event = λ x. x.trace in
      let es : List Event = r.going.events in
      let ts : List Event = events_of m now f in
      let before : now.trace ≡ old.trace ++ es = ap M r.going.moment in
      let all : new.trace ≡ old.trace ++ (es ++ ts) = turn_trace m now new f (Some h) t ∙ ap (λ x. x ++ ts) before ∙ append_assoc old.trace es ts in
      let left : drop (length old.trace) new.trace ≡ es ++ ts = ap (drop (length old.trace)) all ∙ drop-front old.trace (es ++ ts) in
      let first : drop (length old.trace) now.trace ≡ es = ap (drop (length old.trace)) before ∙ drop-front old.trace es in
      ap (λ x. noise x + noise ts) first ∙ sym (ap noise left ∙ noise-append es ts)

  pub holds_turn : (old now new : Air L) (q : Seeking) (f : Signal) (h : Heard) → Holds old now (seek_of q) → Reached resolution m old now (seek_of q) → f ≡ request_of q → AskEnds m now f (Ok h) new
      → Holds old new (seek_step (seek_of q) h)
  holds_turn old now new q f h holds r e t ours a c b start F =
      let k = holds ours a c b start F in
      let n : ℕ = noise (drop (length old.trace) now.trace) in
      let tech : f.tech ≡ A = ap (λ (x : Signal). x.tech) e ∙ request_a q in
      let was = turn_was m ours f tech now new h t.0 (noisy_inactive a c b q (cards ours now.listeners) n F k) in
      let W : Signal → Type 0 = λ x. TurnWas (call_of x) (cards ours now.listeners) (cards ours new.listeners) h (noise (events_of m now f)) in
      let N : ℕ → Type 0 = λ x. Noisy a c b (seek_step (seek_of q) h) (cards ours new.listeners) x in
      subst N (noise_so_far old now new (seek_of q) f h r t.0) (noisy_turn a c b q (cards ours now.listeners) (cards ours new.listeners) h n (noise (events_of m now f)) F k (subst W e was))

  ends : (a : List Card) (c : Card) (b : List Card) (o : Outcome) (v : List Card) (n : ℕ) → IsIdent c.id → EndsSo a c b o v n → EndsThroughNoise a c b (outcome o) v n
  ends a c b o v n i (inl f) =
      let P : Outcome → Type 0 = λ x. EndsThroughNoise a c b (outcome x) v n in
      let K : List ℕ → Picked = λ x. record { id = x; kind = c.kind } in
      subst P (sym f.0) (ap K (identifier_of c.id i), f.1)
  ends a c b o v n i (inr (inl d)) = let P : Outcome → Type 0 = λ x. EndsThroughNoise a c b (outcome x) v n in subst P (sym d.0) d.1
  ends a c b o v n i (inr (inr z)) = let P : Outcome → Type 0 = λ x. EndsThroughNoise a c b (outcome x) v n in subst P (sym z.0) z.1

  pub holds_end : (old new : Air L) (s : Seek) (o : Outcome) (r : Result Picked PollFault) → Holds old new s → s ≡ Ended o → r ≡ outcome o → (ours : AreOurs m identifier')
      → PicksThroughNoise ours old r new
  holds_end old new s o r holds e end ours a c b start F =
      let n : ℕ = noise (drop (length old.trace) new.trace) in
      let P : Seek → Type 0 = λ x. Noisy a c b x (cards ours new.listeners) n in
      let k : EndsSo a c b o (cards ours new.listeners) n = subst P e (holds ours a c b start F) in
      let own : IsIdent c.id = (each_has IsCard c (a ++ c ∷ b) F.cards (has_middle c a b)).0 in
      let R : Result Picked PollFault → Type 0 = λ x. EndsThroughNoise a c b x (cards ours new.listeners) n in
      subst R (sym end) (ends a c b o (cards ours new.listeners) n own k)

  pub holds_err : (old now new : Air L) (f : Signal) (fault : PollFault) → AskEnds m now f (Err fault) new → (ours : AreOurs m identifier') → PicksThroughNoise ours old (Err fault) new
  holds_err old now new f faults.Nobody t ours a c b start F = absurd t
  holds_err old now new f faults.Disturbed t ours a c b start F = absurd t
  holds_err old now new f faults.FieldLost t ours a c b start F = tt
  holds_err old now new f faults.Memory t ours a c b start F = tt
  holds_err old now new f faults.NotFound t ours a c b start F = absurd t
  holds_err old now new f faults.BadAnswer t ours a c b start F = absurd t
