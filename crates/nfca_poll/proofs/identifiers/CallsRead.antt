-- SDD_REQ and SEL_REQ are read as they are written.
use Rattle.std.proofs.Common.{◌≡◌, ℕ, suc, ◌+◌, ◌*◌, ◌≤◌, List, [], ◌∷◌, ◌++◌, length, drop, get_or, Bool, true, false, ◌==◌, ◌&&◌, nat_le, if◌then◌else◌, refl, sym, ◌∙◌, ap, arith}
use Rattle.nfc_base.specs.Signal.{Signal}
use Rattle.nfc_base.specs.Bits.{bits_of, bit_count, packed}
use Rattle.nfca_poll.specs.Calls.{Reading, Calls, Other, Sens, All, Slp, Sdd, Sel, call_of, call_frame, sel_cmd, sel_par, all_known, is_short, is_slp, is_sdd, is_sel, is_sel_cmd, is_sdd_par}
use Rattle.nfca_poll.specs.Calls.{known_count, known_bits, cmd_level, named_level}
use Rattle.nfca_poll.proofs.identifiers.KnownPacks.{two_bytes, two_size}
use Rattle.nfca_poll.proofs.identifiers.HeardBits.{bits_back, count_packed}

two_behind : (a p : ℕ) (known : List Bool) → drop 16 (bits_of (a ∷ p ∷ []) ++ known) ≡ known
unfolding bits_of
two_behind a p known = refl

short : (u : Bool) (m : ℕ) (w : Bool) → 2 ≤ m → (u && (m == 1) && w) ≡ false
short u m w h = grind arith

slp : (u v : Bool) (m : ℕ) (w : Bool) → 0x93 ≤ m → (u && v && (m == 0x50) && w) ≡ false
slp u v m w h = grind arith

sel_byte : (i j : ℕ) → i ≡ 0x91 + 2 * j → 1 ≤ j → j ≤ 3 → is_sel_cmd i ≡ true
sel_byte i j e h k = grind arith

reads : (f : Signal) (n k : ℕ) (rest : List ℕ) → f.bytes ≡ sel_cmd k ∷ sel_par n ∷ rest → bit_count f ≡ 16 + n → 1 ≤ k → k ≤ 3 → n ≤ 39 → call_of f ≡ Calls (Sdd k (known_bits f))
reads f n k rest b c l u z =
    let first : get_or f.bytes 0 0 ≡ sel_cmd k = ap (λ t. get_or t 0 0) b in
    let second : get_or f.bytes 1 0 ≡ sel_par n = ap (λ t. get_or t 1 0) b in
    let size : length f.bytes ≡ 2 + length rest = ap length b ∙ (let w : suc (suc (length rest)) ≡ 2 + length rest = omega arith in w) in
    let s1 : is_short f 0x26 ≡ false = short (f.tail == 7) (length f.bytes) (get_or f.bytes 0 0 == 0x26) (omega (arith, size)) in
    let s2 : is_short f 0x52 ≡ false = short (f.tail == 7) (length f.bytes) (get_or f.bytes 0 0 == 0x52) (omega (arith, size)) in
    let s3 : is_slp f ≡ false = slp (f.tail == 0) (length f.bytes == 2) (get_or f.bytes 0 0) (get_or f.bytes 1 0 == 0) (omega (arith, first, l)) in
    let s4 : is_sdd f ≡ true = sdd (length f.bytes) (get_or f.bytes 0 0) (get_or f.bytes 1 0) (bit_count f) (omega (arith, size)) (sel_byte (get_or f.bytes 0 0) k first l u)
    (par_ok (get_or f.bytes 1 0) n second z) (c ∙ ap (λ t. 16 + t) (sym (par_count (get_or f.bytes 1 0) n second z))) in
    let level : cmd_level (get_or f.bytes 0 0) ≡ k = omega (arith, first) in
    let rest_of : Reading = if is_sel f then Calls (Sel (cmd_level (get_or f.bytes 0 0)) (named_level f)) else Other in
    let D : Reading = Calls (Sdd (cmd_level (get_or f.bytes 0 0)) (known_bits f)) in
    ap (λ v. if v then Calls Sens else if is_short f 0x52 then Calls All else if is_slp f then Calls Slp else if is_sdd f then D else rest_of) s1
    ∙ ap (λ v. if v then Calls All else if is_slp f then Calls Slp else if is_sdd f then D else rest_of) s2
    ∙ ap (λ v. if v then Calls Slp else if is_sdd f then D else rest_of) s3
    ∙ ap (λ v. if v then D else rest_of) s4
    ∙ ap (λ t. Calls (Sdd t (known_bits f))) level
  where
    sdd : (m i j t : ℕ) → 2 ≤ m → is_sel_cmd i ≡ true → is_sdd_par j ≡ true → t ≡ 16 + known_count j → (nat_le 2 m && is_sel_cmd i && is_sdd_par j && (t == 16 + known_count j)) ≡ true
    sdd m i j t h q r e = grind arith

    par_ok : (j m : ℕ) → j ≡ sel_par m → m ≤ 39 → is_sdd_par j ≡ true
    par_ok j m e h = grind arith

    par_count : (j m : ℕ) → j ≡ sel_par m → m ≤ 39 → known_count j ≡ m
    par_count j m e h = omega (arith, e, h)

pub sdd_read : (k : ℕ) (known : List Bool) → 1 ≤ k → k ≤ 3 → length known ≤ 39 → call_of (call_frame (Sdd k known)) ≡ Calls (Sdd k known)
sdd_read k known h u l =
    let a : ℕ = sel_cmd k in
    let p : ℕ = sel_par (length known) in
    let y : List Bool = bits_of (a ∷ p ∷ []) ++ known in
    let bytes : packed y ≡ a ∷ p ∷ packed known = two_bytes a p known (omega (arith, u)) (omega (arith, l)) in
    reads (call_frame (Sdd k known)) (length known) k (packed known) bytes (count_packed y ∙ two_size a p known) h u l
    ∙ ap (λ t. Calls (Sdd k (drop 16 t))) (bits_back y) ∙ ap (λ t. Calls (Sdd k t)) (two_behind a p known)

pub sel_read : (k : ℕ) (l : List ℕ) → 1 ≤ k → k ≤ 3 → length l ≡ 5 → call_of (call_frame (Sel k l)) ≡ Calls (Sel k l)
sel_read k l h u n =
    let f : Signal = call_frame (Sel k l) in
    let a : ℕ = sel_cmd k in
    let size : length f.bytes ≡ 7 = omega (arith, n) in
    let s3 : is_slp f ≡ false = slp true (length f.bytes == 2) a (0x70 == 0) (omega (arith, h)) in
    let s4 : is_sdd f ≡ false = sdd (nat_le 2 (length f.bytes)) (is_sel_cmd a) (bit_count f == 16 + known_count 0x70) in
    let s5 : is_sel f ≡ true = sel (length f.bytes) a size (sel_byte a k refl h u) in
    let level : cmd_level a ≡ k = omega (arith, h) in
    let E : Reading = Calls (Sel (cmd_level a) l) in
    let D : Reading = Calls (Sdd (cmd_level a) (known_bits f)) in
    ap (λ v. if v then Calls Slp else if is_sdd f then D else if is_sel f then E else Other) s3
    ∙ ap (λ v. if v then D else if is_sel f then E else Other) s4
    ∙ ap (λ v. if v then E else Other) s5
    ∙ ap (λ t. Calls (Sel t l)) level
  where
    sdd : (i v w : Bool) → (i && v && is_sdd_par 0x70 && w) ≡ false
    sdd i v w = grind arith

    sel : (m i : ℕ) → m ≡ 7 → is_sel_cmd i ≡ true → (true && (m == 7) && is_sel_cmd i && (0x70 == all_known)) ≡ true
    sel m i e q = grind arith
