-- What some bytes spell has its fields in range, and isn't written in more bytes.
use Rattle.std.proofs.Common.{◌≡◌, ◌<◌, ◌≤◌, ℕ, suc, ◌+◌, ◌*◌, ◌%◌, ◌==◌, Bool, true, false, List, [], ◌∷◌, ◌++◌, length, Option, Some, None, refl, sym, ap, subst, arith, length-append, if◌then◌else◌}
use Rattle.llcp_pdu.specs.declared.param.Param.{Param}
use Rattle.llcp_pdu.specs.declared.param.Param.TheVariants.{Version, Miux, Wks, Lto, Rw, Opt, SdReq, SdRes}
use Rattle.llcp_pdu.specs.declared.part.Part.{Part}
use Rattle.llcp_pdu.specs.declared.part.Part.TheVariants.{Symm, Ui, Connect, Disc, Cc, Dm, Frmr, Snl, Info, Rr, Rnr}
use Rattle.llcp_pdu.specs.declared.pdu.Pdu.{Pdu}
use Rattle.llcp_pdu.specs.declared.pdu.Pdu.TheVariants.{Agf, One}
use Rattle.llcp_pdu.specs.Params.{one, two, begun, param, Tlv, printed, known_first, known, ParamsSpelling}
use Rattle.llcp_pdu.specs.Ranges.{IsParam, AreParams, IsPart, AreParts, IsPdu}
use Rattle.llcp_pdu.specs.Spelling.{Headed, head, PartSpelling, PartsSpelling, LlcpSpelling}
use Rattle.llcp_pdu.specs.Writing.{tlv_of, params_bytes, part_bytes}
use Rattle.llcp_pdu.proofs.PartSpellings.{AreBytes}

-- a parameter in range, whose value has so many bytes
abbrev IsGood : Option Param → ℕ → Type 0
IsGood None n = Unit {0}
IsGood (Some p) n = IsParam p × (length (tlv_of p).value ≡ n)

if_good : (b : Bool) (x y : Option Param) (n : ℕ) → IsGood x n → IsGood y n → IsGood (if b then x else y) n
if_good true x y n h k = h
if_good false x y n h k = k

one_good : (f : ℕ → Param) → ((x : ℕ) → IsGood (Some (f x)) 1) → (v : List ℕ) → IsGood (one f v) (length v)
one_good f h [] = tt
one_good f h (x ∷ []) = h x
one_good f h (x ∷ y ∷ v) = tt

two_good : (f : ℕ → ℕ → Param) → ((x y : ℕ) → IsGood (Some (f x y)) 2) → (v : List ℕ) → IsGood (two f v) (length v)
two_good f h [] = tt
two_good f h (x ∷ []) = tt
two_good f h (x ∷ y ∷ []) = h x y
two_good f h (x ∷ y ∷ z ∷ v) = tt

begun_good : (v : List ℕ) → length v < 256 → IsGood (begun SdReq v) (length v)
begun_good [] h = tt
begun_good (x ∷ v) h = (omega arith, refl)

param_good : (k : ℕ) (v : List ℕ) → length v < 256 → IsGood (param k v) (length v)
param_good k v h =
    if_good (k == 1) _ _ (length v) (one_good Version (λ x. (tt, refl)) v)
    (if_good (k == 2) _ _ (length v) (two_good (λ h l. Miux ((256 * h + l) % 2048)) (λ h l. (omega arith, refl)) v)
    (if_good (k == 3) _ _ (length v) (two_good (λ h l. Wks (256 * h + l)) (λ h l. (tt, refl)) v)
    (if_good (k == 4) _ _ (length v) (one_good Lto (λ x. (tt, refl)) v)
    (if_good (k == 5) _ _ (length v) (one_good (λ x. Rw (x % 16)) (λ x. (omega arith, refl)) v)
    (if_good (k == 6) _ _ (length v) (h, refl)
    (if_good (k == 7) _ _ (length v) (one_good Opt (λ x. (tt, refl)) v)
    (if_good (k == 8) _ _ (length v) (begun_good v h)
    (if_good (k == 9) _ _ (length v) (two_good SdRes (λ x y. (tt, refl)) v) tt))))))))

-- parameters in range, written in at most so many bytes
abbrev AreGood : List Param → ℕ → Type 0
AreGood ps n = AreParams ps × (length (params_bytes ps) ≤ n)

first_good : (o : Option Param) (n : ℕ) (ps : List Param) (m : ℕ) → IsGood o n → AreGood ps m → AreGood (known_first o ps) (2 + n + m)
first_good None n ps m h k = (k.0, omega arith)
first_good (Some p) n ps m h k =
    let l : length ((tlv_of p).value ++ params_bytes ps) ≡ length (tlv_of p).value + length (params_bytes ps) = omega (arith, length-append {A = ℕ}) in
    ((h.0, k.0), omega arith)

bytes_behind : (xs ys : List ℕ) → AreBytes (xs ++ ys) → AreBytes ys
bytes_behind [] ys h = h
bytes_behind (x ∷ xs) ys h = bytes_behind xs ys h.1

known_good : (ts : List Tlv) → AreBytes (printed ts) → AreGood (known ts) (length (printed ts))
known_good [] h = (tt, omega arith)
known_good (t ∷ ts) h =
    let g = first_good (param t.kind t.value) (length t.value) (known ts) (length (printed ts)) (param_good t.kind t.value h.1.0) (known_good ts (bytes_behind t.value (printed ts) h.1.1)) in
    let l : 2 + length t.value + length (printed ts) ≡ length (printed (t ∷ ts)) = omega (arith, length-append {A = ℕ}) in
    subst (AreGood (known_first (param t.kind t.value) (known ts))) l g

params_good : (ps : List Param) (rest : List ℕ) → AreBytes rest → ParamsSpelling ps rest → AreGood ps (length rest)
params_good ps rest bytes (ts, s, e, q) =
    subst (λ z. AreGood z (length rest)) e (subst (λ z. AreGood (known ts) (length z)) (sym q) (known_good ts (subst AreBytes q bytes)))

-- what follows a header that is spelled
behind : (d p s : ℕ) (b : List ℕ) (Rest : List ℕ → Type 0) → AreBytes b → Headed d p s b Rest
    → (rest : List ℕ) × (d < 64) × (s < 64) × AreBytes rest × (length b ≡ 2 + length rest) × Rest rest
behind d p s b Rest bytes (rest, hd, hs, e, k) =
    let c : AreBytes (head d p s ++ rest) = subst AreBytes e bytes in
    (rest, hd, hs, c.1.1, (let l : length b ≡ length (head d p s ++ rest) = ap length e in omega arith), k)

pub part_good : (p : Part) (b : List ℕ) → AreBytes b → PartSpelling p b → IsPart p × (length (part_bytes p) ≤ length b)
part_good Symm b bytes h = let k = behind 0 0 0 b _ bytes h in (tt, omega arith)
part_good (Ui d s info) b bytes h =
    let k = behind d 3 s b _ bytes h in let l : length k.0 ≡ length info = ap length k.5 in ((k.1, k.2), omega arith)
part_good (Connect d s ps) b bytes h =
    let k = behind d 4 s b _ bytes h in let g = params_good ps k.0 k.3 k.5 in ((k.1, k.2, g.0), omega arith)
part_good (Disc d s) b bytes h = let k = behind d 5 s b _ bytes h in ((k.1, k.2), omega arith)
part_good (Cc d s ps) b bytes h =
    let k = behind d 6 s b _ bytes h in let g = params_good ps k.0 k.3 k.5 in ((k.1, k.2, g.0), omega arith)
part_good (Dm d s x) b bytes h =
    let k = behind d 7 s b _ bytes h in let l : length k.0 ≡ 1 = ap length k.5 in ((k.1, k.2), omega arith)
part_good (Frmr d s w) b bytes h =
    let k = behind d 8 s b _ bytes h in let l : length k.0 ≡ 4 = ap length k.5.1 in ((k.1, k.2, k.5.0), omega arith)
part_good (Snl ps) b bytes h = let k = behind 1 9 1 b _ bytes h in let g = params_good ps k.0 k.3 k.5 in (g.0, omega arith)
part_good (Info d s ns nr info) b bytes h =
    let k = behind d 12 s b _ bytes h in
    let l : length k.0 ≡ suc (length info) = ap length k.5.2 in ((k.1, k.2, k.5.0, k.5.1), omega arith)
part_good (Rr d s nr) b bytes h =
    let k = behind d 13 s b _ bytes h in
    let l : length k.0 ≡ 1 = ap length k.5.2 in
    let n : nr < 16 = (let e : k.5.0 % 16 ≡ nr = k.5.1 in omega arith) in ((k.1, k.2, n), omega arith)
part_good (Rnr d s nr) b bytes h =
    let k = behind d 14 s b _ bytes h in
    let l : length k.0 ≡ 1 = ap length k.5.2 in
    let n : nr < 16 = (let e : k.5.0 % 16 ≡ nr = k.5.1 in omega arith) in ((k.1, k.2, n), omega arith)

bytes_before : (xs ys : List ℕ) → AreBytes (xs ++ ys) → AreBytes xs
bytes_before [] ys h = tt
bytes_before (x ∷ xs) ys h = (h.0, bytes_before xs ys h.1)

parts_good : (ps : List Part) (b : List ℕ) → AreBytes b → PartsSpelling ps b → AreParts ps
parts_good [] b bytes h = tt
parts_good (p ∷ ps) b bytes (h, l, one, rest, e, n, k, more) =
    let c : AreBytes (h ∷ l ∷ (one ++ rest)) = subst AreBytes e bytes in
    let high : h < 256 = c.0 in
    let low : l < 256 = c.1.0 in
    let g = part_good p one (bytes_before one rest c.1.1) k in
    (g.0, omega arith, parts_good ps rest (bytes_behind one rest c.1.1) more)

-- what some bytes spell has its fields in range
pub in_range : (v : Pdu) (b : List ℕ) → AreBytes b → LlcpSpelling v b → IsPdu v
in_range (One p) b bytes h = (part_good p b bytes h).0
in_range (Agf ps) b bytes h = let k = behind 0 2 0 b (PartsSpelling ps) bytes h in parts_good ps k.0 k.3 k.5
