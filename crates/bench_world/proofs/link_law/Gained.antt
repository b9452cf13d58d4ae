-- What stands in the range of a link in its peer's list, by the machines of a bench and by their state.
use Rattle.std.proofs.Common.{◌≡◌, ℕ, zero, suc, ◌+◌, ◌-◌, ◌<◌, ◌≤◌, min, List, [], ◌∷◌, length, map, take, drop, get_or, Bool, true, false, nat_le, if◌then◌else◌, Option, Some, None, refl, sym, ◌∙◌}
use Rattle.std.proofs.Common.{ap, arith}
use Rattle.std.specs.Prelude.{unwrap_or, ◌&&◌}
use Rattle.std.proofs.lemmas.Bool.{le-leb, lt-ltb}
use Rattle.snep_core.specs.Server.{Received as Accepted}
use Rattle.far_air.specs.FarEnds.{by_link, first_far, later_fars}
use Rattle.far_air.specs.FarLaws.{shown}
use Rattle.peer_air.specs.PeerFars.{peer_ends}
use Rattle.bench_devices.specs.declared.device.Device.{Device}
use Rattle.bench_devices.specs.Device.{device_linked}
use Rattle.bench_world.specs.declared.inbox.LinkRange.{LinkRange}
use Rattle.bench_world.specs.private.Gains.{gained_above, gained_above_by}
use Rattle.bench_world.specs.Inbox.{chosen, is_before, is_in, gained_in}
use Rattle.bench_world.specs.Links.{end_numbered, is_number}
use Rattle.bench_world.specs.Obeying.{Machines, HasPlaces, state_at}
use Rattle.bench_world.specs.Stories.{accepted_of, gained_by, gained_on, range_of}
use Rattle.bench_world.specs.World.{FarEnd}
use Rattle.bench_world.proofs.link_law.InRanges.{in_open, out_of_begun, out_of_closed}

-- what is chosen of a list of which each element became something
pub chosen_map : {X Y : Type 0} (f : X → Y) (choose : ℕ → Bool) (n : ℕ) (xs : List X) → chosen choose n (map f xs) ≡ map f (chosen choose n xs)
chosen_map f choose n [] = refl
chosen_map f choose n (x ∷ xs) = by (choose n) (chosen_map f choose (n + 1) xs)
  where
    by : (v : Bool) → chosen choose (n + 1) (map f xs) ≡ map f (chosen choose (n + 1) xs)
        → (if v then f x ∷ chosen choose (n + 1) (map f xs) else chosen choose (n + 1) (map f xs)) ≡ map f (if v then x ∷ chosen choose (n + 1) xs else chosen choose (n + 1) xs)
    by true e = ap (λ zs. f x ∷ zs) e
    by false e = e

-- A server has accepted the same, whether the state has its far end whole or what stays of it.
same_by_link : (v : Bool) (o g : Option FarEnd) → accepted_of (by_link peer_ends v o) g ≡ accepted_of o g
same_by_link true o g = refl
same_by_link false None g = refl
same_by_link false (Some l) g = refl

same_shown : (n : ℕ) (ps : List (Option ℕ)) (ls : List Device) (os : List (Option FarEnd)) (g : Option FarEnd) → length ps ≡ length ls
    → accepted_of (end_numbered n ps os) g ≡ accepted_of (end_numbered n ps (shown device_linked peer_ends ls os)) g
same_shown n [] ls os g e = refl
same_shown n (p ∷ ps) [] os g e = absurd cc
same_shown n (p ∷ ps) (l ∷ ls) os g e = let more : length ps ≡ length ls = cc in by_number (is_number n p) (same_shown n ps ls (later_fars os) g more)
  where
    by_number : (v : Bool) → accepted_of (end_numbered n ps (later_fars os)) g ≡ accepted_of (end_numbered n ps (shown device_linked peer_ends ls (later_fars os))) g
        → accepted_of (if v then first_far os else end_numbered n ps (later_fars os)) g
        ≡ accepted_of (if v then by_link peer_ends (device_linked l) (first_far os) else end_numbered n ps (shown device_linked peer_ends ls (later_fars os))) g
    by_number true more = sym (same_by_link (device_linked l) (first_far os) g)
    by_number false more = more

pub gained_same : (m : Machines) (number : ℕ) → HasPlaces m → gained_above m number ≡ gained_on (state_at m) number
gained_same m number places = by (range_of number m.peers.links)
  where
    by : (r : Option LinkRange) → gained_above_by m r ≡ gained_by (state_at m) r
    by None = refl
    by (Some l) = ap (gained_in l) (same_shown l.peer m.peers.numbers m.air.listeners m.ends (get_or m.peers.gone l.peer None) places.numbers)

-- Where just the places of one stretch are chosen, that stretch is.
chosen_part : {X : Type 0} (choose : ℕ → Bool) (n s k : ℕ) (xs : List X) → s + k ≤ length xs
    → ((p : ℕ) → n ≤ p → p < n + s → choose p ≡ false)
    → ((p : ℕ) → n + s ≤ p → p < n + s + k → choose p ≡ true)
    → ((p : ℕ) → n + s + k ≤ p → p < n + length xs → choose p ≡ false)
    → take k (drop s xs) ≡ chosen choose n xs
chosen_part choose n zero zero [] fits before here behind = refl
chosen_part choose n zero (suc k) [] fits before here behind = absurd (omega (arith, fits))
chosen_part choose n (suc s) k [] fits before here behind = absurd (omega (arith, fits))
chosen_part choose n zero zero (x ∷ xs) fits before here behind =
    chosen_part choose (n + 1) zero zero xs (omega arith) (λ p from to. absurd (omega (arith, from, to))) (λ p from to. absurd (omega (arith, from, to)))
    (λ p from to. behind p (omega (arith, from)) (omega (arith, to)))
    ∙ sym (ap (λ v. if v then x ∷ chosen choose (n + 1) xs else chosen choose (n + 1) xs) (behind n (omega arith) (omega arith)))
chosen_part choose n zero (suc k) (x ∷ xs) fits before here behind =
    ap (λ zs. x ∷ zs) (chosen_part choose (n + 1) zero k xs (omega (arith, fits)) (λ p from to. absurd (omega (arith, from, to)))
    (λ p from to. here p (omega (arith, from)) (omega (arith, to))) (λ p from to. behind p (omega (arith, from)) (omega (arith, to))))
    ∙ sym (ap (λ v. if v then x ∷ chosen choose (n + 1) xs else chosen choose (n + 1) xs) (here n (omega arith) (omega arith)))
chosen_part choose n (suc s) k (x ∷ xs) fits before here behind =
    chosen_part choose (n + 1) s k xs (omega (arith, fits)) (λ p from to. before p (omega (arith, from)) (omega (arith, to)))
    (λ p from to. here p (omega (arith, from)) (omega (arith, to))) (λ p from to. behind p (omega (arith, from)) (omega (arith, to)))
    ∙ sym (ap (λ v. if v then x ∷ chosen choose (n + 1) xs else chosen choose (n + 1) xs) (before n (omega arith) (omega arith)))

in_closed : (r : LinkRange) (n e : ℕ) → r.end ≡ Some e → r.start ≤ n → n < e → is_in r n ≡ true
in_closed r n e closed from to =
    ap (λ x. nat_le r.start n && is_before n x) closed ∙ ap (λ v. nat_le r.start n && v) (lt-ltb n e to) ∙ ap (λ v. v && true) (le-leb r.start n from)

-- The range of a link, cut to a list, is the stretch of it that lies in the range.
pub range_part : {X : Type 0} (r : LinkRange) (xs : List X) (u e s : ℕ) → u ≡ unwrap_or r.end (length xs) → e ≡ min u (length xs) → s ≡ min r.start e
    → take (e - s) (drop s xs) ≡ chosen (is_in r) 0 xs
range_part {X} r xs u e s is_u is_e is_s = by r.end refl
  where
    whole : s + (e - s) ≤ length xs
    whole = omega (arith, is_e, is_s)

    early : (p : ℕ) → 0 ≤ p → p < 0 + s → is_in r p ≡ false
    early p from to = out_of_begun r p (omega (arith, is_s, to))

    by : (o : Option ℕ) → r.end ≡ o → take (e - s) (drop s xs) ≡ chosen (is_in r) 0 xs
    by None is =
        let all : u ≡ length xs = is_u ∙ ap (λ x. unwrap_or x (length xs)) is in
        chosen_part (is_in r) 0 s (e - s) xs whole early
        (λ p from to. in_open r p is (omega (arith, is_s, from, to)))
        (λ p from to. absurd (omega (arith, all, is_e, is_s, from, to)))
    by (Some f) is =
        let all : u ≡ f = is_u ∙ ap (λ x. unwrap_or x (length xs)) is in
        chosen_part (is_in r) 0 s (e - s) xs whole early
        (λ p from to. in_closed r p f is (omega (arith, is_s, from, to)) (omega (arith, all, is_e, is_s, from, to)))
        (λ p from to. out_of_closed r p f is (omega (arith, all, is_e, is_s, from, to)))

-- the range of the link with a number, where there are so many, and where there are fewer
range_there : (i : ℕ) (ls : List LinkRange) (d : LinkRange) → i < length ls → range_of (suc i) ls ≡ Some (get_or ls i d)
range_there i [] d within = absurd (omega (arith, within))
range_there zero (l ∷ ls) d within = refl
range_there (suc i) (l ∷ ls) d within = range_there i ls d (omega (arith, within))

pub range_at : (n : ℕ) (ls : List LinkRange) (d : LinkRange) → (n ≡ 0 → ⊥) → n ≤ length ls → Some (get_or ls (n - 1) d) ≡ range_of n ls
range_at zero ls d some within = absurd (some refl)
range_at (suc n) ls d some within =
    let one : suc n - 1 ≡ n = omega arith in
    ap (λ k. Some (get_or ls k d)) one ∙ sym (range_there n ls d (omega (arith, within)))

pub range_past : (n : ℕ) (ls : List LinkRange) → length ls < n → None ≡ range_of n ls
range_past zero ls past = refl
range_past (suc n) [] past = refl
range_past (suc zero) (l ∷ ls) past = absurd (omega (arith, past))
range_past (suc (suc n)) (l ∷ ls) past = range_past (suc n) ls (omega (arith, past))

-- what stands in its range of what a list shows of each accepted message
pub shown_on : {X : Type 0} (f : Accepted → X) (m : Machines) (number : ℕ) (r : LinkRange) (ms : List Accepted) → Some r ≡ range_of number m.peers.links
    → ms ≡ accepted_of (end_numbered r.peer m.peers.numbers m.ends) (get_or m.peers.gone r.peer None)
    → chosen (is_in r) 0 (map f ms) ≡ map f (gained_above m number)
shown_on f m number r ms found is =
    chosen_map f (is_in r) 0 ms ∙ ap (λ xs. map f (gained_in r xs)) is ∙ ap (λ o. map f (gained_above_by m o)) found
