-- A PDU that is spelled is read, and what is read is spelled: those that hold no other.
use Rattle.std.proofs.Common.{◌≡◌, ◌<◌, ℕ, ◌+◌, ◌*◌, ◌/◌, ◌%◌, ◌==◌, Bool, true, false, List, [], ◌∷◌, Option, Some, None, Result, Ok, Err, refl, ◌∙◌, ap, subst, arith}
use Rattle.std.proofs.lemmas.Bool.{eqb-true}
use Rattle.llcp_pdu.specs.declared.fault.PduKind.TheVariants.{Sap}
use Rattle.llcp_pdu.specs.declared.fault.Refusal.{Refusal}
use Rattle.llcp_pdu.specs.declared.header.Ptype.{Ptype}
use Rattle.llcp_pdu.specs.declared.header.Ptype.TheVariants.{Symm as SymmType, Agf as AgfType, Ui as UiType, Connect as ConnectType, Disc as DiscType, Cc as CcType, Dm as DmType, Frmr as FrmrType}
use Rattle.llcp_pdu.specs.declared.header.Ptype.TheVariants.{Snl as SnlType, Info as InfoType, Rr as RrType, Rnr as RnrType}
use Rattle.llcp_pdu.specs.declared.param.Param.{Param}
use Rattle.llcp_pdu.specs.declared.part.FrmrReport.{FrmrReport}
use Rattle.llcp_pdu.specs.declared.part.Part.{Part}
use Rattle.llcp_pdu.specs.declared.part.Part.TheVariants.{Symm, Ui, Connect, Disc, Cc, Dm, Frmr, Snl, Info, Rr, Rnr}
use Rattle.llcp_pdu.specs.Wire.{ptype_number}
use Rattle.llcp_pdu.specs.Reading.{refused, gives, ended, byte}
use Rattle.llcp_pdu.specs.Params.{params, ParamsSpelling}
use Rattle.llcp_pdu.specs.Parts.{pick, ptype_of, ptype_bits, between, report, numbered, body, part}
use Rattle.llcp_pdu.specs.Spelling.{Headed, IsReport, report_bytes, Receives, PartSpelling}
use Rattle.llcp_pdu.proofs.ParamLaws.{same_ok, params_read, params_found}

abbrev pub AreBytes : List ℕ → Type 0
AreBytes [] = Unit {0}
AreBytes (x ∷ xs) = (x < 256) × AreBytes xs

-- the header
pub ptype_there : (d p s : ℕ) → p < 16 → s < 64 → ptype_bits (4 * d + p / 4) (64 * (p % 4) + s) ≡ p
ptype_there d p s h k = omega arith

pub dsap_there : (d p : ℕ) → p < 16 → (4 * d + p / 4) / 4 ≡ d
dsap_there d p h = omega arith

pub ssap_there : (p s : ℕ) → s < 64 → (64 * (p % 4) + s) % 64 ≡ s
ssap_there p s h = omega arith

-- a header in front of bytes is read as its type, and then they are read
pub by_body : (v : Part) (t : Ptype) (d p s at : ℕ) (b : List ℕ) (Rest : List ℕ → Type 0) → ptype_of p ≡ Some t → p < 16
    → ((rest : List ℕ) → Rest rest → body t d s rest at ≡ Ok v) → Headed d p s b Rest → part b at ≡ Ok v
by_body v t d p s at b Rest e h f (rest, hd, hs, q, k) =
    rw (q, ptype_there d p s h hs, dsap_there d p h, ssap_there p s hs, e) (f rest k)

params_spelled : (at : ℕ) (ps : List Param) (f : List Param → Part) (rest : List ℕ) → ParamsSpelling ps rest → gives (params rest 0 at) f ≡ Ok (f ps)
params_spelled at ps f rest (ts, z, e, q) = rw (q, params_read ts at z, e) refl

info_read : (d s ns nr at : ℕ) (info : List ℕ) → nr < 16 → numbered d s ((16 * ns + nr) ∷ info) at ≡ Ok (Info d s ns nr info)
info_read d s ns nr at info h =
    let a : (16 * ns + nr) / 16 ≡ ns = omega arith in
    let b : (16 * ns + nr) % 16 ≡ nr = omega arith in rw (a, b) refl

flags_there : (a b : ℕ) → a % 16 ≡ 0 → b < 16 → 16 * ((a + b) / 16) ≡ a
flags_there a b h k = omega arith

low_there : (a b : ℕ) → a % 16 ≡ 0 → b < 16 → (a + b) % 16 ≡ b
low_there a b h k = omega arith

high_nibble : (a b : ℕ) → b < 16 → (16 * a + b) / 16 ≡ a
high_nibble a b h = omega arith

low_nibble : (a b : ℕ) → b < 16 → (16 * a + b) % 16 ≡ b
low_nibble a b h = omega arith

report_read : (r : FrmrReport) (at : ℕ) → IsReport r → report (report_bytes r) at ≡ Ok r
report_read r at h =
    let f : 16 * ((r.flags + r.ptype) / 16) ≡ r.flags = flags_there r.flags r.ptype h.flags h.ptype in
    let p : (r.flags + r.ptype) % 16 ≡ r.ptype = low_there r.flags r.ptype h.flags h.ptype in
    let a : (16 * r.vs + r.vr) / 16 ≡ r.vs = high_nibble r.vs r.vr h.vr in
    let b : (16 * r.vs + r.vr) % 16 ≡ r.vr = low_nibble r.vs r.vr h.vr in
    let c : (16 * r.vsa + r.vra) / 16 ≡ r.vsa = high_nibble r.vsa r.vra h.vra in
    let d : (16 * r.vsa + r.vra) % 16 ≡ r.vra = low_nibble r.vsa r.vra h.vra in
    rw (f, p, a, b, c, d) refl

pub part_reads : (v : Part) (at : ℕ) (b : List ℕ) → PartSpelling v b → part b at ≡ Ok v
part_reads Symm at b h = by_body Symm SymmType 0 0 0 at b (λ r. r ≡ []) refl (omega arith) (λ r e. rw e refl) h
part_reads (Ui d s info) at b h = by_body (Ui d s info) UiType d 3 s at b (λ r. r ≡ info) refl (omega arith) (λ r e. rw e refl) h
part_reads (Connect d s ps) at b h =
    by_body (Connect d s ps) ConnectType d 4 s at b (ParamsSpelling ps) refl (omega arith) (λ r e. params_spelled (at + 2) ps (Connect d s) r e) h
part_reads (Disc d s) at b h = by_body (Disc d s) DiscType d 5 s at b (λ r. r ≡ []) refl (omega arith) (λ r e. rw e refl) h
part_reads (Cc d s ps) at b h =
    by_body (Cc d s ps) CcType d 6 s at b (ParamsSpelling ps) refl (omega arith) (λ r e. params_spelled (at + 2) ps (Cc d s) r e) h
part_reads (Dm d s x) at b h = by_body (Dm d s x) DmType d 7 s at b (λ r. r ≡ x ∷ []) refl (omega arith) (λ r e. rw e refl) h
part_reads (Frmr d s w) at b h =
    by_body (Frmr d s w) FrmrType d 8 s at b (λ r. IsReport w × (r ≡ report_bytes w)) refl (omega arith) (λ r e. rw e.1 (ap (λ z. gives {B = Part} z (Frmr d s)) (report_read w (at + 2) e.0))) h
part_reads (Snl ps) at b h = by_body (Snl ps) SnlType 1 9 1 at b (ParamsSpelling ps) refl (omega arith) (λ r e. params_spelled (at + 2) ps Snl r e) h
part_reads (Info d s ns nr info) at b h =
    by_body (Info d s ns nr info) InfoType d 12 s at b (λ r. (ns < 16) × (nr < 16) × (r ≡ (16 * ns + nr) ∷ info)) refl (omega arith)
    (λ r e. rw e.2 (info_read d s ns nr (at + 2) info e.1)) h
part_reads (Rr d s nr) at b h = by_body (Rr d s nr) RrType d 13 s at b (Receives nr) refl (omega arith) (λ r e. rw (e.2, e.1) refl) h
part_reads (Rnr d s nr) at b h = by_body (Rnr d s nr) RnrType d 14 s at b (Receives nr) refl (omega arith) (λ r e. rw (e.2, e.1) refl) h

-- the other way: what the number of a type is
abbrev IsType : ℕ → Option Ptype → Type 0
IsType p None = Unit {0}
IsType p (Some t) = p ≡ ptype_number t

picked : (p n : ℕ) (t : Ptype) (other : Option Ptype) → n ≡ ptype_number t → IsType p other → IsType p (pick p n t other)
picked p n t other h o = go (p == n) refl
  where
    go : (b : Bool) → (p == n) ≡ b → IsType p (pick p n t other)
    go true e = let q : p ≡ n = eqb-true p n e in rw e (q ∙ h)
    go false e = rw e o

type_is : (p : ℕ) → IsType p (ptype_of p)
type_is p =
    picked p 0 SymmType _ refl (picked p 2 AgfType _ refl (picked p 3 UiType _ refl (picked p 4 ConnectType _ refl (picked p 5 DiscType _ refl
    (picked p 6 CcType _ refl (picked p 7 DmType _ refl (picked p 8 FrmrType _ refl (picked p 9 SnlType _ refl (picked p 12 InfoType _ refl
    (picked p 13 RrType _ refl (picked p 14 RnrType None refl tt)))))))))))

pub type_of_number : (p : ℕ) (t : Ptype) → ptype_of p ≡ Some t → p ≡ ptype_number t
type_of_number p t e = subst (IsType p) e (type_is p)

high_back : (x y : ℕ) → y < 256 → x ≡ 4 * (x / 4) + ptype_bits x y / 4
high_back x y h = omega arith

low_back : (x y : ℕ) → y < 256 → y ≡ 64 * (ptype_bits x y % 4) + y % 64
low_back x y h = omega arith

pub head_back : (x y p : ℕ) (rest : List ℕ) (Rest : List ℕ → Type 0) → x < 256 → y < 256 → ptype_bits x y ≡ p → Rest rest
    → Headed (x / 4) p (y % 64) (x ∷ y ∷ rest) Rest
head_back x y p rest Rest h k e z = (
  rest,
  omega arith,
  omega arith,
  (let a : x ≡ 4 * (x / 4) + p / 4 = subst (λ q. x ≡ 4 * (x / 4) + q / 4) e (high_back x y k) in
      let b : y ≡ 64 * (p % 4) + y % 64 = subst (λ q. y ≡ 64 * (q % 4) + y % 64) e (low_back x y k) in
      ap (λ u. u ∷ y ∷ rest) a ∙ ap (λ u. (4 * (x / 4) + p / 4) ∷ u ∷ rest) b),
  z,
)

-- what was read before it was made into something
pub gave : {A B : Type 0} (z : Result A Refusal) (f : A → B) (v : B) → gives z f ≡ Ok v → (x : A) × (z ≡ Ok x) × (f x ≡ v)
gave (Ok x) f v e = (x, refl, same_ok _ _ e)
gave (Err r) f v e = cc

pub ended_there : {A : Type 0} (rest : List ℕ) (at : ℕ) (w v : A) → ended rest at w ≡ Ok v → (rest ≡ []) × (w ≡ v)
ended_there [] at w v e = (refl, same_ok _ _ e)
ended_there (x ∷ rest) at w v e = cc

byte_there : (rest : List ℕ) (at x : ℕ) → byte rest at ≡ Ok x → rest ≡ x ∷ []
byte_there [] at x e = cc
byte_there (y ∷ rest) at x e = let h = ended_there rest (at + 1) y x e in rw (h.0, h.1) refl

report_there : (rest : List ℕ) (at : ℕ) (r : FrmrReport) → AreBytes rest → report rest at ≡ Ok r → IsReport r × (rest ≡ report_bytes r)
report_there [] at r h e = cc
report_there (a ∷ []) at r h e = cc
report_there (a ∷ b ∷ []) at r h e = cc
report_there (a ∷ b ∷ c ∷ []) at r h e = cc
report_there (a ∷ b ∷ c ∷ d ∷ rest) at r h e =
    let w : FrmrReport = record { flags = 16 * (a / 16); ptype = a % 16; sequence = b; vs = c / 16; vr = c % 16; vsa = d / 16; vra = d % 16 } in
    let k = ended_there rest (at + 4) w r e in
    let c0 : c < 256 = h.1.1.0 in
    let d0 : d < 256 = h.1.1.1.0 in
    let x : a ≡ 16 * (a / 16) + a % 16 = omega arith in
    let y : c ≡ 16 * (c / 16) + c % 16 = omega arith in
    let z : d ≡ 16 * (d / 16) + d % 16 = omega arith in
    let is : IsReport w = record { flags = omega arith; ptype = omega arith; vs = omega arith; vr = omega arith; vsa = omega arith; vra = omega arith } in
    let same : (a ∷ b ∷ c ∷ d ∷ rest) ≡ report_bytes w =
    ap (λ u. a ∷ b ∷ c ∷ d ∷ u) k.0 ∙ ap (λ u. u ∷ b ∷ c ∷ d ∷ []) x ∙ ap (λ u. (16 * (a / 16) + a % 16) ∷ b ∷ u ∷ d ∷ []) y
    ∙ ap (λ u. (16 * (a / 16) + a % 16) ∷ b ∷ (16 * (c / 16) + c % 16) ∷ u ∷ []) z in
    subst (λ v. IsReport v × ((a ∷ b ∷ c ∷ d ∷ rest) ≡ report_bytes v)) k.1 (is, same)

pub between_there : {A : Type 0} (sap d s at : ℕ) (r : Result A Refusal) (v : A) → between sap d s at r ≡ Ok v → (d ≡ sap) × (s ≡ sap) × (r ≡ Ok v)
between_there {A} sap d s at r v e = go (d == sap) (s == sap) refl refl
  where
    go : (b c : Bool) → (d == sap) ≡ b → (s == sap) ≡ c → (d ≡ sap) × (s ≡ sap) × (r ≡ Ok v)
    go true true i j = (eqb-true d sap i, eqb-true s sap j, rw (i, j) at e)
    go true false i j = absurd (let f : refused {A = A} Sap at ≡ Ok v = rw (i, j) at e in cc)
    go false c i j = absurd (let f : refused {A = A} Sap at ≡ Ok v = rw i at e in cc)

numbered_there : (d s : ℕ) (rest : List ℕ) (at : ℕ) (v : Part) → numbered d s rest at ≡ Ok v
    → (q : ℕ) × (info : List ℕ) × (rest ≡ q ∷ info) × (Info d s (q / 16) (q % 16) info ≡ v)
numbered_there d s [] at v e = cc
numbered_there d s (q ∷ info) at v e = (q, info, refl, same_ok _ _ e)

pub at_saps : (d s sap p : ℕ) (b : List ℕ) (Rest : List ℕ → Type 0) → d ≡ sap → s ≡ sap → Headed d p s b Rest → Headed sap p sap b Rest
at_saps d s sap p b Rest e f h = subst (λ x. Headed x p sap b Rest) e (subst (λ y. Headed d p y b Rest) f h)

-- what was read behind a header of its type is spelled with it
pub body_found : (t : Ptype) (d s at : ℕ) (rest b : List ℕ) (v : Part) → AreBytes rest
    → ((Rest : List ℕ → Type 0) → Rest rest → Headed d (ptype_number t) s b Rest) → body t d s rest at ≡ Ok v → PartSpelling v b
body_found SymmType d s at rest b v bytes hd e =
    let h = between_there 0 d s at (ended rest (at + 2) Symm) v e in
    let k = ended_there rest (at + 2) Symm v h.2 in
    subst (λ w. PartSpelling w b) k.1 (at_saps d s 0 0 b (λ x. x ≡ []) h.0 h.1 (hd (λ x. x ≡ []) k.0))
body_found AgfType d s at rest b v bytes hd e = cc
body_found UiType d s at rest b v bytes hd e = subst (λ w. PartSpelling w b) (same_ok _ _ e) (hd (λ x. x ≡ rest) refl)
body_found ConnectType d s at rest b v bytes hd e =
    let h = gave (params rest 0 (at + 2)) (Connect d s) v e in
    subst (λ w. PartSpelling w b) h.2 (hd (ParamsSpelling h.0) (params_found rest 0 (at + 2) h.0 (omega arith) h.1))
body_found DiscType d s at rest b v bytes hd e =
    let h = ended_there rest (at + 2) (Disc d s) v e in subst (λ w. PartSpelling w b) h.1 (hd (λ x. x ≡ []) h.0)
body_found CcType d s at rest b v bytes hd e =
    let h = gave (params rest 0 (at + 2)) (Cc d s) v e in
    subst (λ w. PartSpelling w b) h.2 (hd (ParamsSpelling h.0) (params_found rest 0 (at + 2) h.0 (omega arith) h.1))
body_found DmType d s at rest b v bytes hd e =
    let h = gave (byte rest (at + 2)) (Dm d s) v e in
    subst (λ w. PartSpelling w b) h.2 (hd (λ x. x ≡ h.0 ∷ []) (byte_there rest (at + 2) h.0 h.1))
body_found FrmrType d s at rest b v bytes hd e =
    let h = gave (report rest (at + 2)) (Frmr d s) v e in
    subst (λ w. PartSpelling w b) h.2 (hd (λ x. IsReport h.0 × (x ≡ report_bytes h.0)) (report_there rest (at + 2) h.0 bytes h.1))
body_found SnlType d s at rest b v bytes hd e =
    let k = between_there 1 d s at (gives (params rest 0 (at + 2)) Snl) v e in
    let h = gave (params rest 0 (at + 2)) Snl v k.2 in
    subst (λ w. PartSpelling w b) h.2 (at_saps d s 1 9 b (ParamsSpelling h.0) k.0 k.1 (hd (ParamsSpelling h.0) (params_found rest 0 (at + 2) h.0 (omega arith) h.1)))
body_found InfoType d s at rest b v bytes hd e =
    let h = numbered_there d s rest (at + 2) v e in
    let q : h.0 ≡ 16 * (h.0 / 16) + h.0 % 16 = omega arith in
    let small : AreBytes (h.0 ∷ h.1) = subst AreBytes h.2 bytes in
    let byte : h.0 < 256 = small.0 in
    subst (λ w. PartSpelling w b) h.3
    (hd (λ x. (h.0 / 16 < 16) × (h.0 % 16 < 16) × (x ≡ (16 * (h.0 / 16) + h.0 % 16) ∷ h.1)) (omega arith, omega arith, h.2 ∙ ap (λ z. z ∷ h.1) q))
body_found RrType d s at rest b v bytes hd e =
    let h = gave (byte rest (at + 2)) (λ q. Rr d s (q % 16)) v e in
    subst (λ w. PartSpelling w b) h.2 (hd (Receives (h.0 % 16)) (h.0, refl, byte_there rest (at + 2) h.0 h.1))
body_found RnrType d s at rest b v bytes hd e =
    let h = gave (byte rest (at + 2)) (λ q. Rnr d s (q % 16)) v e in
    subst (λ w. PartSpelling w b) h.2 (hd (Receives (h.0 % 16)) (h.0, refl, byte_there rest (at + 2) h.0 h.1))
