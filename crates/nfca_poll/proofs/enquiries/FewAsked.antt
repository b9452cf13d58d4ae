-- A resolution asks only so often.
use Rattle.std.proofs.Common.{◌≡◌, ℕ, ◌+◌, ◌-◌, ◌<◌, ◌≤◌, List, [], ◌∷◌, ◌++◌, length, drop, get_or, Bool, true, false, ◌==◌, ◌&&◌, nat_lt, nat_le, if◌then◌else◌, refl, sym, ◌∙◌, ap, subst}
use Rattle.std.proofs.Common.{append_assoc, arith, Option, Some, None, Ok, Err}
use Rattle.std.proofs.lemmas.List.{length-append}
use Rattle.nfc_base.specs.declared.event.Event.{Event}
use Rattle.nfc_base.specs.declared.event.Event.TheVariants.{Reset, Request, Answer, Clash}
use Rattle.nfc_base.specs.declared.event.Fate.{Fate}
use Rattle.nfc_base.specs.declared.event.Fate.TheVariants.{Pass, Damage, Lose, Break}
use Rattle.nfc_base.specs.declared.event.Heard.{Heard}
use Rattle.nfc_base.specs.declared.event.Heard.TheVariants.{Whole, Collided, Damaged, Silent}
use Rattle.nfc_base.specs.Signal.{Signal}
use Rattle.nfc_base.specs.Bits.{bits, bit_count, packed}
use Rattle.air_core.specs.Joint.{Joint, Nothing, Single, Clashing}
use Rattle.air_core.specs.World.{Machine, World}
use Rattle.air_core.specs.Turn.{Air, moment}
use Rattle.air_core.specs.Conversation.{Moment, TurnsTo, first_fate, later_fates, turn_events, joint_events}
use Rattle.nfca_poll.specs.declared.kind.Kind.{Kind}
use Rattle.nfca_poll.specs.declared.seeking.Seeking.{Seeking}
use Rattle.nfca_poll.specs.declared.seeking.Seeking.TheVariants as seeks
use Rattle.nfca_poll.specs.declared.seeking.Done.{Done}
use Rattle.nfca_poll.specs.declared.seeking.Done.TheVariants as dones
use Rattle.nfca_poll.specs.declared.fault.PollFault.{PollFault}
use Rattle.nfca_poll.specs.declared.fault.PollFault.TheVariants as faults
use Rattle.nfca_poll.specs.Levels.{bcc}
use Rattle.nfca_poll.specs.Calls.{Sdd, call_frame, sel_cmd, sel_par, all_known, is_short, is_sdd, is_sel, is_sel_cmd, is_sdd_par, cmd_level, known_count}
use Rattle.nfca_poll.specs.Poll.{Seek, Calling, Asking, Selecting, Ended, Found, Nobody, BadAnswer, seek_step, selected, goes_on, kind_of, has_bit, is_one_byte, level_bits, collision_bits}
use Rattle.nfca_poll.specs.Seeking.{resolution, seek_of, request_of, levels_of}
use Rattle.nfca_poll.specs.Muted.{mute_air, AskEnds}
use Rattle.nfca_poll.specs.Counting.{requests_that, is_sens_req, is_sdd_req, is_sel_req, AsksFew}
use Rattle.nfca_poll.proofs.identifiers.KnownPacks.{two_bytes}
use Rattle.nfca_poll.proofs.enquiries.Enquiring.{Reached}
use Rattle.nfca_poll.proofs.quiet.Crowding.{drop-front}
use Rattle.nfca_poll.proofs.enquiries.TellingInventory.{less_of, one_if}
use Rattle.nfca_poll.proofs.enquiries.TellingResolution.{under_of}

requests-append : (p : Signal → Bool) (a b : List Event) → requests_that p (a ++ b) ≡ requests_that p a + requests_that p b
requests-append p [] b = (let q : requests_that p b ≡ 0 + requests_that p b = omega arith in q)
requests-append p (Reset ∷ a) b = requests-append p a b
requests-append p (Request f x ∷ a) b =
    ap (λ n. one_if (p f) + n) (requests-append p a b) ∙ (let q : one_if (p f) + (requests_that p a + requests_that p b) ≡ (one_if (p f) + requests_that p a) + requests_that p b = omega arith in q)
requests-append p (Answer f x ∷ a) b = requests-append p a b
requests-append p (Clash f x ∷ a) b = requests-append p a b

-- What may still be asked: SENS_REQ, and of level k SDD_REQ and SEL_REQ.
abbrev left_sens : Seek → ℕ
left_sens (Calling n) = 4 - n
left_sens (Asking done known) = 0
left_sens (Selecting done l) = 0
left_sens (Ended o) = 0

abbrev left_sdd : ℕ → Seek → ℕ
left_sdd k (Calling n) = 33
left_sdd k (Asking done known) = if k == length done + 1 then 33 - length known else if nat_lt (length done + 1) k then 33 else 0
left_sdd k (Selecting done l) = if nat_lt (length done + 1) k then 33 else 0
left_sdd k (Ended o) = 0

abbrev left_sel : ℕ → Seek → ℕ
left_sel k (Calling n) = 1
left_sel k (Asking done known) = if nat_le (length done + 1) k then 1 else 0
left_sel k (Selecting done l) = if nat_le (length done + 1) k then 1 else 0
left_sel k (Ended o) = 0

-- where a resolution can be
abbrev IsThere : Seek → Type 0
IsThere (Calling n) = n ≤ 3
IsThere (Asking done known) = length known ≤ 32
IsThere (Selecting done l) = Unit {0}
IsThere (Ended o) = Unit {0}

-- one step costs what it asks
record Costs (k : ℕ) (s : Seek) (x y z : ℕ) (t : Seek) : Type 0 where
  there : IsThere t
  sens : x + left_sens t ≤ left_sens s
  sdd : y + left_sdd k t ≤ left_sdd k s
  sel : z + left_sel k t ≤ left_sel k s

calls : (k n : ℕ) → n ≤ 3 → (v : Bool) → nat_lt n 3 ≡ v → Costs k (Calling n) 1 0 0 (if v then Calling (n + 1) else Ended Nobody)
calls k n h true e = let less : n < 3 = less_of n 3 e in record { there = omega (arith, less); sens = omega (arith, less); sdd = omega arith; sel = omega arith }
calls k n h false e = record { there = tt; sens = omega (arith, h); sdd = omega arith; sel = omega arith }

wakes : (k n : ℕ) → n ≤ 3 → Costs k (Calling n) 1 0 0 (Asking [] [])
wakes k n h = record { there = omega arith; sens = omega (arith, h); sdd = by_test (k == 1) (nat_lt 1 k); sel = by_one (nat_le 1 k) }
  where
    by_test : (u v : Bool) → 0 + (if u then 33 - 0 else if v then 33 else 0) ≤ 33
    by_test true v = omega arith
    by_test false true = omega arith
    by_test false false = omega arith

    by_one : (v : Bool) → 0 + (if v then 1 else 0) ≤ 1
    by_one true = omega arith
    by_one false = omega arith

completes : (k : ℕ) (done : List (List ℕ)) (known : List Bool) (l : List ℕ) → length known ≤ 32 → (v : Bool)
    → Costs k (Asking done known) 0 (one_if (length done + 1 == k)) 0 (if v then Selecting done l else Ended BadAnswer)
completes k done known l h true = record { there = tt; sens = omega arith; sdd = cost k (length done + 1) (length known) h; sel = omega arith }
  where
    cost : (a b n : ℕ) → n ≤ 32 → one_if (b == a) + (if nat_lt b a then 33 else 0) ≤ (if a == b then 33 - n else if nat_lt b a then 33 else 0)
    cost a b n q = grind arith
completes k done known l h false = record { there = tt; sens = omega arith; sdd = cost k (length done + 1) (length known) h; sel = omega arith }
  where
    cost : (a b n : ℕ) → n ≤ 32 → one_if (b == a) + 0 ≤ (if a == b then 33 - n else if nat_lt b a then 33 else 0)
    cost a b n q = grind arith

narrows : (k : ℕ) (done : List (List ℕ)) (known more : List Bool) → length known ≤ 32 → (v : Bool) → nat_le collision_bits (length (known ++ more)) ≡ v
    → Costs k (Asking done known) 0 (one_if (length done + 1 == k)) 0 (if v then Ended BadAnswer else Asking done ((known ++ more) ++ true ∷ []))
narrows k done known more h true e = record { there = tt; sens = omega arith; sdd = cost k (length done + 1) (length known) h; sel = omega arith }
  where
    cost : (a b n : ℕ) → n ≤ 32 → one_if (b == a) + 0 ≤ (if a == b then 33 - n else if nat_lt b a then 33 else 0)
    cost a b n q = grind arith
narrows k done known more h false e =
    let few : length (known ++ more) < 32 = under_of 32 (length (known ++ more)) e in
    let size : length (known ++ more) ≡ length known + length more = length-append known more in
    let one : length ((known ++ more) ++ true ∷ []) ≡ length (known ++ more) + 1 = length-append (known ++ more) (true ∷ []) in
    record {
      there = omega (arith, few, one);
      sens = omega arith;
      sdd = cost k (length done + 1) (length known) (length ((known ++ more) ++ true ∷ [])) h (omega (arith, size, one));
      sel = omega arith;
    }
  where
    cost : (a b n t : ℕ) → n ≤ 32 → n < t → one_if (b == a) + (if a == b then 33 - t else if nat_lt b a then 33 else 0) ≤ (if a == b then 33 - n else if nat_lt b a then 33 else 0)
    cost a b n t q r = grind arith

-- any end of SDD_REQ or of SEL_REQ
asks_end : (k : ℕ) (done : List (List ℕ)) (known : List Bool) → length known ≤ 32 → (o : _) → Costs k (Asking done known) 0 (one_if (length done + 1 == k)) 0 (Ended o)
asks_end k done known h o = record { there = tt; sens = omega arith; sdd = cost k (length done + 1) (length known) h; sel = omega arith }
  where
    cost : (a b n : ℕ) → n ≤ 32 → one_if (b == a) + 0 ≤ (if a == b then 33 - n else if nat_lt b a then 33 else 0)
    cost a b n q = grind arith

sels_end : (k : ℕ) (done : List (List ℕ)) (l : List ℕ) (o : _) → Costs k (Selecting done l) 0 0 (one_if (length done + 1 == k)) (Ended o)
sels_end k done l o = record { there = tt; sens = omega arith; sdd = omega arith; sel = cost k (length done + 1) }
  where
    cost : (a b : ℕ) → one_if (b == a) + 0 ≤ (if nat_le b a then 1 else 0)
    cost a b = grind arith

sels_on : (k : ℕ) (done : List (List ℕ)) (l : List ℕ) → Costs k (Selecting done l) 0 0 (one_if (length done + 1 == k)) (Asking (done ++ l ∷ []) [])
sels_on k done l =
    let one : length (done ++ l ∷ []) ≡ length done + 1 = length-append done (l ∷ []) in
    record { there = omega arith; sens = omega arith; sdd = more k (length done) (length (done ++ l ∷ [])) one; sel = cost k (length done) (length (done ++ l ∷ [])) one }
  where
    more : (a n t : ℕ) → t ≡ n + 1 → 0 + (if a == t + 1 then 33 - 0 else if nat_lt (t + 1) a then 33 else 0) ≤ (if nat_lt (n + 1) a then 33 else 0)
    more a n t e = grind arith

    cost : (a n t : ℕ) → t ≡ n + 1 → one_if (n + 1 == a) + (if nat_le (t + 1) a then 1 else 0) ≤ (if nat_le (n + 1) a then 1 else 0)
    cost a n t e = grind arith

selects : (k : ℕ) (done : List (List ℕ)) (l : List ℕ) (kind : Kind) (b v : Bool)
    → Costs k (Selecting done l) 0 0 (one_if (length done + 1 == k)) (if b then (if v then Asking (done ++ l ∷ []) [] else Ended BadAnswer)
    else (if v then Ended BadAnswer else Ended (Found (done ++ l ∷ []) kind)))
selects k done l kind true true = sels_on k done l
selects k done l kind true false = sels_end k done l BadAnswer
selects k done l kind false true = sels_end k done l BadAnswer
selects k done l kind false false = sels_end k done l (Found (done ++ l ∷ []) kind)

one_byte : (k : ℕ) (done : List (List ℕ)) (l : List ℕ) (res : ℕ) (v : Bool) → Costs k (Selecting done l) 0 0 (one_if (length done + 1 == k)) (if v then selected done l res else Ended BadAnswer)
one_byte k done l res true = selects k done l (kind_of res) (has_bit res 0x04) (goes_on done l)
one_byte k done l res false = sels_end k done l BadAnswer

-- the kinds of requests that are asked at each point
abbrev sens_at : Seeking → ℕ
sens_at (seeks.Calling n) = 1
sens_at (seeks.Asking d known) = 0
sens_at (seeks.Selecting d l) = 0

abbrev sdd_at : ℕ → Seeking → ℕ
sdd_at k (seeks.Calling n) = 0
sdd_at k (seeks.Asking d known) = one_if (length (levels_of d) + 1 == k)
sdd_at k (seeks.Selecting d l) = 0

abbrev sel_at : ℕ → Seeking → ℕ
sel_at k (seeks.Calling n) = 0
sel_at k (seeks.Asking d known) = 0
sel_at k (seeks.Selecting d l) = one_if (length (levels_of d) + 1 == k)

step_costs : (k : ℕ) (q : Seeking) (h : Heard) → IsThere (seek_of q) → Costs k (seek_of q) (sens_at q) (sdd_at k q) (sel_at k q) (seek_step (seek_of q) h)
step_costs k (seeks.Calling n) (Whole g) t = wakes k n t
step_costs k (seeks.Calling n) (Collided g) t = wakes k n t
step_costs k (seeks.Calling n) Damaged t = wakes k n t
step_costs k (seeks.Calling n) Silent t = calls k n t (nat_lt n 3) refl
step_costs k (seeks.Asking d known) (Whole g) t =
    completes k (levels_of d) known (packed (known ++ bits g)) t ((length (known ++ bits g) == level_bits) && (get_or (packed (known ++ bits g)) 4 0 == bcc (packed (known ++ bits g))))
step_costs k (seeks.Asking d known) (Collided g) t = narrows k (levels_of d) known (bits g) t (nat_le collision_bits (length (known ++ bits g))) refl
step_costs k (seeks.Asking d known) Damaged t = asks_end k (levels_of d) known t _
step_costs k (seeks.Asking d known) Silent t = asks_end k (levels_of d) known t _
step_costs k (seeks.Selecting d l) (Whole g) t = one_byte k (levels_of d) l (get_or g.bytes 0 0) (is_one_byte g)
step_costs k (seeks.Selecting d l) (Collided g) t = sels_end k (levels_of d) l _
step_costs k (seeks.Selecting d l) Damaged t = sels_end k (levels_of d) l _
step_costs k (seeks.Selecting d l) Silent t = sels_end k (levels_of d) l _

-- which requests these are
no_short : (byte : ℕ) (f : Signal) → 2 ≤ length f.bytes → is_short f byte ≡ false
no_short byte f h = by_parts (f.tail == 7) (length f.bytes) (get_or f.bytes 0 0 == byte) h
  where
    by_parts : (u : Bool) (n : ℕ) (w : Bool) → 2 ≤ n → (u && (n == 1) && w) ≡ false
    by_parts u n w q = grind arith

sdd_bytes : (k : ℕ) (known : List Bool) → k ≤ 3 → length known ≤ 32 → (call_frame (Sdd k known)).bytes ≡ sel_cmd k ∷ sel_par (length known) ∷ packed known
sdd_bytes k known h l = two_bytes (sel_cmd k) (sel_par (length known)) known (omega (arith, h)) (omega (arith, l))

two_more : (a b : ℕ) (xs : List ℕ) → 2 ≤ length (a ∷ b ∷ xs)
two_more a b xs = omega arith

sdd_two : (k : ℕ) (known : List Bool) → k ≤ 3 → length known ≤ 32 → 2 ≤ length (call_frame (Sdd k known)).bytes
sdd_two k known h l = let P : List ℕ → Type 0 = λ t. 2 ≤ length t in subst P (sym (sdd_bytes k known h l)) (two_more (sel_cmd k) (sel_par (length known)) (packed known))

level_back : (k b : ℕ) → b ≡ sel_cmd k → cmd_level b ≡ k
level_back k b e = omega (arith, e)

at_most : (v : Bool) (k a b : ℕ) → a ≡ b → one_if (v && (a == k)) ≤ one_if (b == k)
at_most true k a b e = ap_le (a == k) (b == k) (ap (λ t. t == k) e)
  where
    ap_le : (x y : Bool) → x ≡ y → one_if x ≤ one_if y
    ap_le true true p = omega arith
    ap_le true false p = absurd cc
    ap_le false y p = omega arith
at_most false k a b e = omega arith

none_of : (v : Bool) → v ≡ false → one_if v ≤ 0
none_of true h = absurd cc
none_of false h = omega arith

not_sdd : (u v w : Bool) → (u && v && is_sdd_par 0x70 && w) ≡ false
not_sdd u v w = grind arith

not_sel : (u v w : Bool) (n : ℕ) → n ≤ 32 → (u && v && w && (sel_par n == all_known)) ≡ false
not_sel u v w n h = grind arith

few_done : (d : Done) → length (levels_of d) + 1 ≤ 3
few_done dones.Nothing = omega arith
few_done (dones.One x) = omega arith
few_done (dones.Two x y) = omega arith

sens_ok : (q : Seeking) → IsThere (seek_of q) → one_if (is_sens_req (request_of q)) ≤ sens_at q
sens_ok (seeks.Calling n) t = omega arith
sens_ok (seeks.Asking d known) t = none_of (is_sens_req (request_of (seeks.Asking d known)))
    (no_short 0x26 (request_of (seeks.Asking d known)) (sdd_two (length (levels_of d) + 1) known (few_done d) t))
sens_ok (seeks.Selecting d l) t = none_of (is_sens_req (request_of (seeks.Selecting d l)))
    (no_short 0x26 (request_of (seeks.Selecting d l)) (two_more (sel_cmd (length (levels_of d) + 1)) all_known l))

sdd_ok : (k : ℕ) (q : Seeking) → IsThere (seek_of q) → one_if (is_sdd_req k (request_of q)) ≤ sdd_at k q
sdd_ok k (seeks.Calling n) t = omega arith
sdd_ok k (seeks.Asking d known) t =
    let n : ℕ = length (levels_of d) + 1 in
    let f : Signal = request_of (seeks.Asking d known) in
    at_most (is_sdd f) k (cmd_level (get_or f.bytes 0 0)) n (level_back n (get_or f.bytes 0 0) (ap (λ b. get_or b 0 0) (sdd_bytes n known (few_done d) t)))
sdd_ok k (seeks.Selecting d l) t =
    let f : Signal = request_of (seeks.Selecting d l) in
    none_of (is_sdd_req k f) (ap (λ v. v && (cmd_level (get_or f.bytes 0 0) == k)) (not_sdd (nat_le 2 (length f.bytes)) (is_sel_cmd (get_or f.bytes 0 0)) (bit_count f == 16 + known_count 0x70)))

sel_ok : (k : ℕ) (q : Seeking) → IsThere (seek_of q) → one_if (is_sel_req k (request_of q)) ≤ sel_at k q
sel_ok k (seeks.Calling n) t = omega arith
sel_ok k (seeks.Asking d known) t =
    let n : ℕ = length (levels_of d) + 1 in
    let f : Signal = request_of (seeks.Asking d known) in
    let par : get_or f.bytes 1 0 ≡ sel_par (length known) = ap (λ b. get_or b 1 0) (sdd_bytes n known (few_done d) t) in
    let not : is_sel f ≡ false =
    ap (λ b. (f.tail == 0) && (length f.bytes == 7) && is_sel_cmd (get_or f.bytes 0 0) && (b == all_known)) par
    ∙ not_sel (f.tail == 0) (length f.bytes == 7) (is_sel_cmd (get_or f.bytes 0 0)) (length known) t in
    none_of (is_sel_req k f) (ap (λ v. v && (cmd_level (get_or f.bytes 0 0) == k)) not)
sel_ok k (seeks.Selecting d l) t =
    let n : ℕ = length (levels_of d) + 1 in
    let f : Signal = request_of (seeks.Selecting d l) in
    at_most (is_sel f) k (cmd_level (get_or f.bytes 0 0)) n (level_back n (get_or f.bytes 0 0) refl)

joint_none : (p : Signal → Bool) (j : Joint) (y : Fate) → requests_that p (joint_events j y) ≡ 0
joint_none p Nothing y = refl
joint_none p (Single g) y = refl
joint_none p (Clashing g) y = refl

pub drop-all : {X : Type 0} (xs : List X) → drop (length xs) xs ≡ []
drop-all [] = refl
drop-all (x ∷ xs) = drop-all xs

module _ {L : Type 0} (m : Machine L) where
  turn_asks : (p : Signal → Bool) (w : World L) (f : Signal) (x y : Fate) → requests_that p (turn_events (mute_air m) w f x y) ≡ one_if (p f)
  turn_asks p w f Pass y = ap (λ n. one_if (p f) + n) (joint_none p ((mute_air m).joint w f) y) ∙ (let q : one_if (p f) + 0 ≡ one_if (p f) = omega arith in q)
  turn_asks p w f Damage y = (let q : one_if (p f) + 0 ≡ one_if (p f) = omega arith in q)
  turn_asks p w f Lose y = (let q : one_if (p f) + 0 ≡ one_if (p f) = omega arith in q)
  turn_asks p w f Break y = (let q : one_if (p f) + 0 ≡ one_if (p f) = omega arith in q)

  -- so far few were asked, and this is what may still be asked
  pub record Counted (old now : Air L) (s : Seek) : Type 0 where
    pub there : IsThere s
    pub sens : requests_that is_sens_req (drop (length old.trace) now.trace) + left_sens s ≤ 4
    pub sdd : (k : ℕ) → requests_that (is_sdd_req k) (drop (length old.trace) now.trace) + left_sdd k s ≤ 33
    pub sel : (k : ℕ) → requests_that (is_sel_req k) (drop (length old.trace) now.trace) + left_sel k s ≤ 1

  pub none_asked : (p : Signal → Bool) (old : Air L) → requests_that p (drop (length old.trace) old.trace) ≡ 0
  none_asked p old = ap (requests_that p) (drop-all old.trace)

  pub counted_start : (old : Air L) → Counted old old (Calling 0)
  counted_start old = record {
    there = omega arith;
    sens = omega (arith, none_asked is_sens_req old);
    sdd = λ k. omega (arith, none_asked (is_sdd_req k) old);
    sel = λ k. omega (arith, none_asked (is_sel_req k) old);
  }

  -- a turn more is a request more
  one_more : (p : Signal → Bool) (old now new : Air L) (s : Seek) (f : Signal) (h : Option Heard) → Reached resolution m old now s → TurnsTo (mute_air m) (moment now) (moment new) f h
      → requests_that p (drop (length old.trace) new.trace) ≡ requests_that p (drop (length old.trace) now.trace) + one_if (p f)
  one_more p old now new s f h r t =
      let M : Moment (World L) → List Event = λ x. x.trace in
      let es : List Event = r.going.events in
      let ts : List Event = turn_events (mute_air m) (moment now).world f (first_fate now.fates) (first_fate (later_fates now.fates)) in
      let before : now.trace ≡ old.trace ++ es = ap M r.going.moment in
      let after : new.trace ≡ now.trace ++ ts = ap M t.moment in
      let all : new.trace ≡ old.trace ++ (es ++ ts) = after ∙ ap (λ x. x ++ ts) before ∙ append_assoc old.trace es ts in
      let left : drop (length old.trace) new.trace ≡ es ++ ts = ap (drop (length old.trace)) all ∙ drop-front old.trace (es ++ ts) in
      let first : drop (length old.trace) now.trace ≡ es = ap (drop (length old.trace)) before ∙ drop-front old.trace es in
      ap (requests_that p) left ∙ requests-append p es ts
      ∙ ap (λ n. requests_that p es + n) (turn_asks p (moment now).world f (first_fate now.fates) (first_fate (later_fates now.fates)))
      ∙ ap (λ x. requests_that p x + one_if (p f)) (sym first)

  adds : (a b c x l t n : ℕ) → a ≡ b + c → c ≤ x → x + t ≤ l → b + l ≤ n → a + t ≤ n
  adds a b c x l t n e p q r = omega (arith, e, p, q, r)

  counted_by : (old now new : Air L) (q : Seeking) (f : Signal) (o : Option Heard) (h : Heard) → Counted old now (seek_of q) → Reached resolution m old now (seek_of q) → f ≡ request_of q
      → TurnsTo (mute_air m) (moment now) (moment new) f o → Counted old new (seek_step (seek_of q) h)
  counted_by old now new q f o h k r e t = record {
    there = (step_costs 0 q h k.there).there;
    sens = adds _ _ _ (sens_at q) (left_sens (seek_of q)) (left_sens (seek_step (seek_of q) h)) 4 (one_more is_sens_req old now new (seek_of q) f o r t)
        (here is_sens_req (sens_at q) (sens_ok q k.there)) (step_costs 0 q h k.there).sens k.sens;
    sdd = λ j. adds _ _ _ (sdd_at j q) (left_sdd j (seek_of q)) (left_sdd j (seek_step (seek_of q) h)) 33 (one_more (is_sdd_req j) old now new (seek_of q) f o r t)
        (here (is_sdd_req j) (sdd_at j q) (sdd_ok j q k.there)) (step_costs j q h k.there).sdd (k.sdd j);
    sel = λ j. adds _ _ _ (sel_at j q) (left_sel j (seek_of q)) (left_sel j (seek_step (seek_of q) h)) 1 (one_more (is_sel_req j) old now new (seek_of q) f o r t)
        (here (is_sel_req j) (sel_at j q) (sel_ok j q k.there)) (step_costs j q h k.there).sel (k.sel j);
  }
    where
      here : (p : Signal → Bool) (n : ℕ) → one_if (p (request_of q)) ≤ n → one_if (p f) ≤ n
      here p n i = let P : Signal → Type 0 = λ x. one_if (p x) ≤ n in subst P (sym e) i

  pub counted_turn : (old now new : Air L) (q : Seeking) (f : Signal) (h : Heard) → Counted old now (seek_of q) → Reached resolution m old now (seek_of q) → f ≡ request_of q
      → AskEnds m now f (Ok h) new
      → Counted old new (seek_step (seek_of q) h)
  counted_turn old now new q f h k r e t = counted_by old now new q f (Some h) h k r e t.0

  pub few_asked : (old now : Air L) (s : Seek) → Counted old now s → AsksFew (drop (length old.trace) now.trace)
  few_asked old now s k = record {
    sens = (let a = k.sens in omega (arith, a));
    sdd = λ j. (let a = k.sdd j in omega (arith, a));
    sel = λ j. (let a = k.sel j in omega (arith, a));
  }

  pub few_err : (old now new : Air L) (q : Seeking) (f : Signal) (fault : PollFault) → Counted old now (seek_of q) → Reached resolution m old now (seek_of q) → f ≡ request_of q
      → AskEnds m now f (Err fault) new
      → AsksFew (drop (length old.trace) new.trace)
  few_err old now new q f faults.Nobody k r e t = absurd t
  few_err old now new q f faults.Disturbed k r e t = absurd t
  few_err old now new q f faults.FieldLost k r e t = few_asked old new (seek_step (seek_of q) Silent) (counted_by old now new q f None Silent k r e t)
  few_err old now new q f faults.Memory k r e t =
      let P : Air L → Type 0 = λ a. AsksFew (drop (length old.trace) a.trace) in
      subst P (sym t) (few_asked old now (seek_of q) k)
  few_err old now new q f faults.NotFound k r e t = absurd t
  few_err old now new q f faults.BadAnswer k r e t = absurd t
