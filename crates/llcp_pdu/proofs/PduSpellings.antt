-- A PDU that is spelled is read, and what is read is spelled: whole payloads.
use Rattle.std.proofs.Common.{◌≡◌, ◌<◌, ◌≤◌, ℕ, zero, suc, ◌+◌, ◌*◌, ◌/◌, ◌%◌, nat_lt, Bool, true, false, List, [], ◌∷◌, ◌++◌, length, take, drop, Option, Some, None, Result, Ok, Err, refl, sym, ap}
use Rattle.std.proofs.Common.{subst, arith, length-append, length-take}
use Rattle.std.proofs.lemmas.List.{take-append-drop}
use Rattle.llcp_pdu.specs.declared.fault.PduKind.TheVariants.{Short}
use Rattle.llcp_pdu.specs.declared.fault.Refusal.{Refusal}
use Rattle.llcp_pdu.specs.declared.header.Header.{Header}
use Rattle.llcp_pdu.specs.declared.header.Ptype.{Ptype}
use Rattle.llcp_pdu.specs.declared.header.Ptype.TheVariants.{Symm as SymmType, Agf as AgfType, Ui as UiType, Connect as ConnectType, Disc as DiscType, Cc as CcType, Dm as DmType, Frmr as FrmrType}
use Rattle.llcp_pdu.specs.declared.header.Ptype.TheVariants.{Snl as SnlType, Info as InfoType, Rr as RrType, Rnr as RnrType}
use Rattle.llcp_pdu.specs.declared.part.Part.{Part}
use Rattle.llcp_pdu.specs.declared.part.Part.TheVariants.{Symm, Ui, Connect, Disc, Cc, Dm, Frmr, Snl, Info, Rr, Rnr}
use Rattle.llcp_pdu.specs.declared.pdu.Pdu.{Pdu}
use Rattle.llcp_pdu.specs.declared.pdu.Pdu.TheVariants.{Agf, One}
use Rattle.llcp_pdu.specs.Wire.{ptype_number}
use Rattle.llcp_pdu.specs.Reading.{refused, gives, follows, onto}
use Rattle.llcp_pdu.specs.Parts.{ptype_of, ptype_bits, headed, between, body, part}
use Rattle.llcp_pdu.specs.Pdus.{joined, inner, is_agf, whole, pdu}
use Rattle.llcp_pdu.specs.Spelling.{Headed, PartSpelling, PartsSpelling, LlcpSpelling}
use Rattle.llcp_pdu.proofs.ParamLaws.{not_lt, le_from_not, take_length, same_ok}
use Rattle.llcp_pdu.proofs.PartSpellings.{AreBytes, ptype_there, dsap_there, ssap_there, part_reads, body_found, type_of_number, head_back, gave, between_there, at_saps}
use Rattle.llcp_pdu.proofs.PduLaws.{inner_skip}

pub inner_reads : (ps : List Part) (at : ℕ) (b : List ℕ) → PartsSpelling ps b → inner b 0 at ≡ Ok ps
inner_reads [] at b h = rw h refl
inner_reads (p ∷ ps) at b (h, l, one, rest, e, n, k, more) =
    let fit : nat_lt (length (one ++ rest)) (length one) ≡ false = not_lt _ _ (omega (arith, length-append {A = ℕ})) in
    rw (
      e,
      ← n,
      fit,
      take_length one rest,
      part_reads p (at + 2) one k,
      inner_skip one rest (at + 2),
      inner_reads ps (at + 2 + length one) rest more,
    ) refl

-- a header of a type that isn't AGF's is followed by one PDU
whole_one : (v : Part) (t : Ptype) (d p s : ℕ) (b : List ℕ) (Rest : List ℕ → Type 0) → ptype_of p ≡ Some t → is_agf t ≡ false → p < 16
    → Headed d p s b Rest → part b 0 ≡ Ok v → pdu b ≡ Ok (One v)
whole_one v t d p s b Rest e n h (rest, hd, hs, q, k) f =
    let g : part ((4 * d + p / 4) ∷ (64 * (p % 4) + s) ∷ rest) 0 ≡ Ok v = subst (λ z. part z 0 ≡ Ok v) q f in
    let w : body t d s rest 0 ≡ Ok v = rw (ptype_there d p s h hs, dsap_there d p h, ssap_there p s hs, e) at g in
    rw (q, ptype_there d p s h hs, dsap_there d p h, ssap_there p s hs, e, n, w) refl

one_reads : (v : Part) (b : List ℕ) → PartSpelling v b → part b 0 ≡ Ok v → pdu b ≡ Ok (One v)
one_reads Symm b h f = whole_one Symm SymmType 0 0 0 b _ refl refl (omega arith) h f
one_reads (Ui d s info) b h f = whole_one (Ui d s info) UiType d 3 s b _ refl refl (omega arith) h f
one_reads (Connect d s ps) b h f = whole_one (Connect d s ps) ConnectType d 4 s b _ refl refl (omega arith) h f
one_reads (Disc d s) b h f = whole_one (Disc d s) DiscType d 5 s b _ refl refl (omega arith) h f
one_reads (Cc d s ps) b h f = whole_one (Cc d s ps) CcType d 6 s b _ refl refl (omega arith) h f
one_reads (Dm d s x) b h f = whole_one (Dm d s x) DmType d 7 s b _ refl refl (omega arith) h f
one_reads (Frmr d s w) b h f = whole_one (Frmr d s w) FrmrType d 8 s b _ refl refl (omega arith) h f
one_reads (Snl ps) b h f = whole_one (Snl ps) SnlType 1 9 1 b _ refl refl (omega arith) h f
one_reads (Info d s ns nr info) b h f = whole_one (Info d s ns nr info) InfoType d 12 s b _ refl refl (omega arith) h f
one_reads (Rr d s nr) b h f = whole_one (Rr d s nr) RrType d 13 s b _ refl refl (omega arith) h f
one_reads (Rnr d s nr) b h f = whole_one (Rnr d s nr) RnrType d 14 s b _ refl refl (omega arith) h f

-- a PDU that is spelled is read
pub pdu_reads : (v : Pdu) (b : List ℕ) → LlcpSpelling v b → pdu b ≡ Ok v
pdu_reads (One p) b h = one_reads p b h (part_reads p 0 b h)
pdu_reads (Agf ps) b (rest, hd, hs, e, k) = rw (e, inner_reads ps 2 rest k) refl

-- the other way: a header that was read
headed_there : (t : Option Ptype) (d s at : ℕ) (h : Header) → headed at t d s ≡ Ok h → (h.dsap ≡ d) × (h.ssap ≡ s) × (t ≡ Some h.ptype)
headed_there None d s at h e = cc
headed_there (Some t) d s at h e =
    let k : record { dsap = d; ptype = t; ssap = s } ≡ h = same_ok _ _ e in
    (ap (λ (x : Header). x.dsap) (sym k), ap (λ (x : Header). x.ssap) (sym k), ap (λ (x : Header). Some x.ptype) k)

-- what was read behind a header
followed : {A B : Type 0} (z : Result A Refusal) (f : A → Result B Refusal) (v : B) → follows z f ≡ Ok v → (x : A) × (z ≡ Ok x) × (f x ≡ Ok v)
followed (Ok x) f v e = (x, refl, e)
followed (Err r) f v e = cc

-- a header that was read stands in front of what follows it
head_found : (x y at : ℕ) (rest : List ℕ) (h : Header) → x < 256 → y < 256 → headed at (ptype_of (ptype_bits x y)) (x / 4) (y % 64) ≡ Ok h
    → (Rest : List ℕ → Type 0) → Rest rest → Headed h.dsap (ptype_number h.ptype) h.ssap (x ∷ y ∷ rest) Rest
head_found x y at rest h i j e Rest z =
    let k = headed_there (ptype_of (ptype_bits x y)) (x / 4) (y % 64) at h e in
    let n : ptype_bits x y ≡ ptype_number h.ptype = type_of_number (ptype_bits x y) h.ptype k.2 in
    subst (λ s. Headed h.dsap (ptype_number h.ptype) s (x ∷ y ∷ rest) Rest) (sym k.1)
    (subst (λ d. Headed d (ptype_number h.ptype) (y % 64) (x ∷ y ∷ rest) Rest) (sym k.0) (head_back x y (ptype_number h.ptype) rest Rest i j n z))

pub part_found : (v : Part) (at : ℕ) (b : List ℕ) → AreBytes b → part b at ≡ Ok v → PartSpelling v b
part_found v at [] h e = cc
part_found v at (x ∷ []) h e = cc
part_found v at (x ∷ y ∷ rest) h e =
    let k = followed (headed at (ptype_of (ptype_bits x y)) (x / 4) (y % 64)) (λ g. body g.ptype g.dsap g.ssap rest at) v e in
    body_found k.0.ptype k.0.dsap k.0.ssap at rest (x ∷ y ∷ rest) v h.1.1 (head_found x y at rest k.0 h.0 h.1.0 k.1) k.2

bytes_front : (n : ℕ) (xs : List ℕ) → AreBytes xs → AreBytes (take n xs)
bytes_front zero xs h = tt
bytes_front (suc n) [] h = tt
bytes_front (suc n) (x ∷ xs) h = (h.0, bytes_front n xs h.1)

-- one PDU in an AGF, where those behind it are spelled
next_found : (h l : ℕ) (rest : List ℕ) (at : ℕ) (ps : List Part) → AreBytes rest
    → ((m i : ℕ) (qs : List Part) → m ≤ length rest → inner rest m i ≡ Ok qs → PartsSpelling qs (drop m rest))
    → inner (h ∷ l ∷ rest) 0 at ≡ Ok ps → PartsSpelling ps (h ∷ l ∷ rest)
next_found h l rest at ps bytes more e = go (nat_lt (length rest) (256 * h + l)) refl
  where
    both : 256 * h + l ≤ length rest → (p : Part) → part (take (256 * h + l) rest) (at + 2) ≡ Ok p
        → (z : Result (List Part) Refusal) → inner rest (256 * h + l) (at + 2) ≡ z → onto p z ≡ Ok ps → PartsSpelling ps (h ∷ l ∷ rest)
    both le p i (Err r) j f = cc
    both le p i (Ok qs) j f =
        let s : PartsSpelling qs (drop (256 * h + l) rest) = more (256 * h + l) (at + 2) qs le j in
        let long : length (take (256 * h + l) rest) ≡ 256 * h + l = omega (arith, length-take {A = ℕ}) in
        let z : PartsSpelling (p ∷ qs) (h ∷ l ∷ rest) = (
          h,
          l,
          take (256 * h + l) rest,
          drop (256 * h + l) rest,
          ap (λ u. h ∷ l ∷ u) (sym (take-append-drop (256 * h + l) rest)),
          long,
          part_found p (at + 2) (take (256 * h + l) rest) (bytes_front (256 * h + l) rest bytes) i,
          s,
        ) in
        subst (λ u. PartsSpelling u (h ∷ l ∷ rest)) (same_ok _ _ f) z

    go : (b : Bool) → nat_lt (length rest) (256 * h + l) ≡ b → PartsSpelling ps (h ∷ l ∷ rest)
    go true i = absurd (let f : refused {A = List Part} Short (at + 2 + length rest) ≡ Ok ps = rw i at e in cc)
    go false i =
        let le : 256 * h + l ≤ length rest = le_from_not (length rest) (256 * h + l) i in
        let f : joined (part (take (256 * h + l) rest) (at + 2)) (inner rest (256 * h + l) (at + 2)) ≡ Ok ps = rw i at e in
        let k = followed (part (take (256 * h + l) rest) (at + 2)) (λ p. onto p (inner rest (256 * h + l) (at + 2))) ps f in
        both le k.0 k.1 (inner rest (256 * h + l) (at + 2)) refl k.2

inner_found : (b : List ℕ) (m at : ℕ) (ps : List Part) → AreBytes b → m ≤ length b → inner b m at ≡ Ok ps → PartsSpelling ps (drop m b)
inner_found [] zero at ps bytes h e = let q : [] ≡ ps = same_ok _ _ e in subst (λ u. PartsSpelling u []) q refl
inner_found [] (suc m) at ps bytes h e = absurd (omega arith)
inner_found (x ∷ []) zero at ps bytes h e = cc
inner_found (h ∷ l ∷ rest) zero at ps bytes k e =
    next_found h l rest at ps bytes.1.1 (λ m i qs le f. inner_found rest m i qs bytes.1.1 le f) e
inner_found (x ∷ rest) (suc m) at ps bytes h e = inner_found rest m (at + 1) ps bytes.1 (omega arith) e

agf_type_is : (t : Ptype) → is_agf t ≡ true → t ≡ AgfType
agf_type_is AgfType e = refl
agf_type_is SymmType e = cc
agf_type_is UiType e = cc
agf_type_is ConnectType e = cc
agf_type_is DiscType e = cc
agf_type_is CcType e = cc
agf_type_is DmType e = cc
agf_type_is FrmrType e = cc
agf_type_is SnlType e = cc
agf_type_is InfoType e = cc
agf_type_is RrType e = cc
agf_type_is RnrType e = cc

-- what was read behind a header is spelled with it
whole_found : (h : Header) (rest b : List ℕ) (v : Pdu) → AreBytes rest → ((Rest : List ℕ → Type 0) → Rest rest → Headed h.dsap (ptype_number h.ptype) h.ssap b Rest)
    → whole h rest ≡ Ok v → LlcpSpelling v b
whole_found h rest b v bytes hd e = go (is_agf h.ptype) refl
  where
    go : (c : Bool) → is_agf h.ptype ≡ c → LlcpSpelling v b
    go true i =
        let f : between 0 h.dsap h.ssap 0 (gives (inner rest 0 2) Agf) ≡ Ok v = rw i at e in
        let k = between_there 0 h.dsap h.ssap 0 (gives (inner rest 0 2) Agf) v f in
        let g = gave (inner rest 0 2) Agf v k.2 in
        let t : ptype_number h.ptype ≡ 2 = ap ptype_number (agf_type_is h.ptype i) in
        subst (λ w. LlcpSpelling w b) g.2
        (at_saps h.dsap h.ssap 0 2 b (PartsSpelling g.0) k.0 k.1
        (subst (λ n. Headed h.dsap n h.ssap b (PartsSpelling g.0)) t (hd (PartsSpelling g.0) (inner_found rest 0 2 g.0 bytes (omega arith) g.1))))
    go false i =
        let f : gives (body h.ptype h.dsap h.ssap rest 0) One ≡ Ok v = rw i at e in
        let g = gave (body h.ptype h.dsap h.ssap rest 0) One v f in
        subst (λ w. LlcpSpelling w b) g.2 (body_found h.ptype h.dsap h.ssap 0 rest b g.0 bytes hd g.1)

-- a PDU that is read is spelled
pub pdu_found : (v : Pdu) (b : List ℕ) → AreBytes b → pdu b ≡ Ok v → LlcpSpelling v b
pdu_found v [] h e = cc
pdu_found v (x ∷ []) h e = cc
pdu_found v (x ∷ y ∷ rest) h e =
    let k = followed (headed 0 (ptype_of (ptype_bits x y)) (x / 4) (y % 64)) (λ g. whole g rest) v e in
    whole_found k.0 rest (x ∷ y ∷ rest) v h.1.1 (head_found x y 0 rest k.0 h.0 h.1.0 k.1) k.2
