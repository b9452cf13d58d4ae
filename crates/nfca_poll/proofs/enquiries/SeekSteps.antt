-- Each step of a resolution, and that it comes to an end.
use Rattle.std.proofs.Common.{◌≡◌, ℕ, suc, ◌+◌, ◌-◌, ◌*◌, ◌<◌, ◌≤◌, List, [], ◌∷◌, ◌++◌, length, drop, get_or, Bool, true, false, ◌==◌, ◌&&◌, nat_lt, nat_le, if◌then◌else◌, Result, Ok, refl, sym, ◌∙◌}
use Rattle.std.proofs.Common.{ap, arith}
use Rattle.std.proofs.lemmas.List.{length-take-le, length-append, length-drop}
use Rattle.nfc_base.specs.Signal.{Signal}
use Rattle.nfc_base.specs.Bits.{bits, bits_of, bit_count, packed}
use Rattle.nfc_base.specs.declared.event.Heard.{Heard}
use Rattle.nfc_base.specs.declared.event.Heard.TheVariants.{Whole, Collided, Damaged, Silent}
use Rattle.nfc_base.proofs.Packing.{length_of_bits}
use Rattle.nfca_poll.specs.declared.kind.Kind.{Kind}
use Rattle.nfca_poll.specs.declared.fault.Picked.{Picked}
use Rattle.nfca_poll.specs.declared.fault.PollFault.{PollFault}
use Rattle.nfca_poll.specs.declared.seeking.Seeking.{Seeking}
use Rattle.nfca_poll.specs.declared.seeking.Seeking.TheVariants as seeks
use Rattle.nfca_poll.specs.Levels.{bcc, identifier, cascades}
use Rattle.nfca_poll.specs.Poll.{Seek, Calling, Asking, Selecting, Ended, Found, Nobody, BadAnswer, seek_step, completed, narrowed, selected, goes_on, kind_of, has_bit, is_one_byte, level_bits}
use Rattle.nfca_poll.specs.Poll.{collision_bits}
use Rattle.nfca_poll.specs.Seeking.{seek_of, levels_of, outcome}
use Rattle.nfca_poll.proofs.identifiers.KnownPacks.{packed_more, packed_empty}

pub bits_size : (f : Signal) → bit_count f ≤ 8 * length f.bytes → length (bits f) ≡ bit_count f
bits_size f h = length-take-le (bit_count f) (bits_of f.bytes) (omega (arith, h, length_of_bits f.bytes))

pub known_size : (known : List Bool) (f : Signal) → bit_count f ≤ 8 * length f.bytes → length (known ++ bits f) ≡ length known + bit_count f
known_size known f h = length-append known (bits f) ∙ ap (λ n. length known + n) (bits_size f h)

pub not_complete : (done : List (List ℕ)) (known : List Bool) → (length known == level_bits) ≡ false → completed done known ≡ Ended BadAnswer
not_complete done known h = ap (λ v. if v && (get_or (packed known) 4 0 == bcc (packed known)) then Selecting done (packed known) else Ended BadAnswer) h

pub is_complete : (done : List (List ℕ)) (known : List Bool) (l : List ℕ) → (length known == level_bits) ≡ true → l ≡ packed known → (get_or l 4 0 == bcc l) ≡ true
    → Selecting done l ≡ completed done known
is_complete done known l h e c =
    let ok : (get_or (packed known) 4 0 == bcc (packed known)) ≡ true = ap (λ t. get_or t 4 0 == bcc t) (sym e) ∙ c in
    ap (Selecting done) e ∙ sym (ap (λ v. if v && (get_or (packed known) 4 0 == bcc (packed known)) then Selecting done (packed known) else Ended BadAnswer) h
    ∙ ap (λ v. if v then Selecting done (packed known) else Ended BadAnswer) ok)

pub too_far : (done : List (List ℕ)) (known : List Bool) → nat_le collision_bits (length known) ≡ true → narrowed done known ≡ Ended BadAnswer
too_far done known h = ap (λ v. if v then Ended BadAnswer else Asking done (known ++ true ∷ [])) h

pub is_found : (done : List (List ℕ)) (l : List ℕ) (f : Signal) → is_one_byte f ≡ true → has_bit (get_or f.bytes 0 0) 0x04 ≡ false → goes_on done l ≡ false
    → seek_step (Selecting done l) (Whole f) ≡ Ended (Found (done ++ l ∷ []) (kind_of (get_or f.bytes 0 0)))
is_found done l f one b g =
    let res : ℕ = get_or f.bytes 0 0 in
    let found : Seek = if goes_on done l then Ended BadAnswer else Ended (Found (done ++ l ∷ []) (kind_of res)) in
    ap (λ v. if v then selected done l res else Ended BadAnswer) one
    ∙ ap (λ v. if v then (if goes_on done l then Asking (done ++ l ∷ []) [] else Ended BadAnswer) else found) b
    ∙ ap (λ v. if v then Ended BadAnswer else Ended (Found (done ++ l ∷ []) (kind_of res))) g

pub found_is : (done : List (List ℕ)) (l : List ℕ) (res : ℕ) (id : List ℕ) (kind : Kind) → id ≡ identifier (done ++ l ∷ []) → kind ≡ kind_of res
    → ◌≡◌ {A = Result Picked PollFault} (Ok (record { id = id; kind = kind })) (outcome (Found (done ++ l ∷ []) (kind_of res)))
found_is done l res id kind e k =
    let R : List ℕ → Kind → Result Picked PollFault = λ i j. Ok (record { id = i; kind = j }) in
    ap (λ i. R i kind) e ∙ ap (R (identifier (done ++ l ∷ []))) k

-- how many steps are left at most
abbrev pub potential : Seek → ℕ
potential (Calling n) = 200 + (3 - n)
potential (Asking done known) = 50 * (2 - length done) + (2 + (33 - length known))
potential (Selecting done l) = 50 * (2 - length done) + 1
potential (Ended o) = 0

less_of : (m n : ℕ) → nat_lt m n ≡ true → m < n
less_of m n h = grind arith

above_of : (m n : ℕ) → nat_le m n ≡ false → n < m
above_of m n h = grind arith

calls_less : (n : ℕ) (v : Bool) → nat_lt n 3 ≡ v → potential (if v then Calling (n + 1) else Ended Nobody) < 200 + (3 - n)
calls_less n true h = let less : n < 3 = less_of n 3 h in omega (arith, less)
calls_less n false h = omega arith

completes_less : (done : List (List ℕ)) (l : List ℕ) (k : ℕ) (v : Bool) → potential (if v then Selecting done l else Ended BadAnswer) < 50 * (2 - length done) + (2 + (33 - k))
completes_less done l k true = omega arith
completes_less done l k false = omega arith

narrows_less : (done : List (List ℕ)) (known more : List Bool) (v : Bool) → nat_le collision_bits (length (known ++ more)) ≡ v
    → potential (if v then Ended BadAnswer else Asking done ((known ++ more) ++ true ∷ [])) < 50 * (2 - length done) + (2 + (33 - length known))
narrows_less done known more true h = omega arith
narrows_less done known more false h =
    let few : length (known ++ more) < 32 = above_of 32 (length (known ++ more)) h in
    let size : length (known ++ more) ≡ length known + length more = length-append known more in
    let one : length ((known ++ more) ++ true ∷ []) ≡ length (known ++ more) + 1 = length-append (known ++ more) (true ∷ []) in
    omega (arith, few, size, one)

goes_few : (done : List (List ℕ)) (l : List ℕ) (v : Bool) → nat_lt (length done) 2 ≡ v → v && cascades l ≡ true → length done < 2
goes_few done l true h g = less_of (length done) 2 h
goes_few done l false h g = absurd cc

selects_less : (done : List (List ℕ)) (l : List ℕ) (k : Kind) (b v : Bool) → goes_on done l ≡ v
    → potential (if b then (if v then Asking (done ++ l ∷ []) [] else Ended BadAnswer) else (if v then Ended BadAnswer else Ended (Found (done ++ l ∷ []) k))) < 50 * (2 - length done) + 1
selects_less done l k true true h =
    let few : length done < 2 = goes_few done l (nat_lt (length done) 2) refl h in
    let one : length (done ++ l ∷ []) ≡ length done + 1 = length-append done (l ∷ []) in
    omega (arith, few, one)
selects_less done l k true false h = omega arith
selects_less done l k false true h = omega arith
selects_less done l k false false h = omega arith

one_byte_less : (done : List (List ℕ)) (l : List ℕ) (res : ℕ) (v : Bool) → potential (if v then selected done l res else Ended BadAnswer) < 50 * (2 - length done) + 1
one_byte_less done l res true = selects_less done l (kind_of res) (has_bit res 0x04) (goes_on done l) refl
one_byte_less done l res false = omega arith

pub falls : (q : Seeking) (h : Heard) → potential (seek_step (seek_of q) h) < potential (seek_of q)
falls (seeks.Calling n) (Whole g) = omega arith
falls (seeks.Calling n) (Collided g) = omega arith
falls (seeks.Calling n) Damaged = omega arith
falls (seeks.Calling n) Silent = calls_less n (nat_lt n 3) refl
falls (seeks.Asking done known) (Whole g) =
    completes_less (levels_of done) (packed (known ++ bits g)) (length known) ((length (known ++ bits g) == level_bits) && (get_or (packed (known ++ bits g)) 4 0 == bcc (packed (known ++ bits g))))
falls (seeks.Asking done known) (Collided g) = narrows_less (levels_of done) known (bits g) (nat_le collision_bits (length (known ++ bits g))) refl
falls (seeks.Asking done known) Damaged = omega arith
falls (seeks.Asking done known) Silent = omega arith
falls (seeks.Selecting done l) (Whole g) = one_byte_less (levels_of done) l (get_or g.bytes 0 0) (is_one_byte g)
falls (seeks.Selecting done l) (Collided g) = omega arith
falls (seeks.Selecting done l) Damaged = omega arith
falls (seeks.Selecting done l) Silent = omega arith

-- forty bits are five bytes
pub packed_forty : (x : List Bool) → length x ≡ 40 → length (packed x) ≡ 5
packed_forty x h =
    let a : length (drop 8 x) ≡ 32 = omega (arith, h, length-drop 8 x) in
    let b : length (drop 8 (drop 8 x)) ≡ 24 = omega (arith, a, length-drop 8 (drop 8 x)) in
    let c : length (drop 8 (drop 8 (drop 8 x))) ≡ 16 = omega (arith, b, length-drop 8 (drop 8 (drop 8 x))) in
    let d : length (drop 8 (drop 8 (drop 8 (drop 8 x)))) ≡ 8 = omega (arith, c, length-drop 8 (drop 8 (drop 8 (drop 8 x)))) in
    let e : length (drop 8 (drop 8 (drop 8 (drop 8 (drop 8 x))))) ≡ 0 = omega (arith, d, length-drop 8 (drop 8 (drop 8 (drop 8 (drop 8 x))))) in
    more x 4 (omega (arith, h)) (more (drop 8 x) 3 (omega (arith, a)) (more (drop 8 (drop 8 x)) 2 (omega (arith, b)) (more (drop 8 (drop 8 (drop 8 x))) 1 (omega (arith, c))
    (more (drop 8 (drop 8 (drop 8 (drop 8 x)))) 0 (omega (arith, d)) (ap length (packed_empty (drop 8 (drop 8 (drop 8 (drop 8 (drop 8 x))))) (omega (arith, e))))))))
  where
    more : (y : List Bool) (n : ℕ) → 8 ≤ length y → length (packed (drop 8 y)) ≡ n → length (packed y) ≡ suc n
    more y n k i = ap length (packed_more y k) ∙ ap suc i
