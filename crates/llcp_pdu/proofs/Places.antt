-- Where bytes are read in full, it says nothing at which place they stand.
use Rattle.std.proofs.Common.{◌≡◌, ℕ, zero, suc, ◌+◌, ◌*◌, ◌/◌, ◌%◌, ◌==◌, ◌&&◌, nat_lt, Bool, true, false, if◌then◌else◌, List, [], ◌∷◌, ◌++◌, length, take, drop, Option, Some, None, is_ok, Result}
use Rattle.std.proofs.Common.{Ok, Err, refl, sym, ◌∙◌, ap, option_to_list}
use Rattle.llcp_pdu.specs.declared.fault.PduKind.{PduKind}
use Rattle.llcp_pdu.specs.declared.fault.PduKind.TheVariants.{Short, Parameter, Sap}
use Rattle.llcp_pdu.specs.declared.fault.Refusal.{Refusal}
use Rattle.llcp_pdu.specs.declared.header.Ptype.{Ptype}
use Rattle.llcp_pdu.specs.declared.header.Ptype.TheVariants.{Symm as SymmType, Agf as AgfType, Ui as UiType, Connect as ConnectType, Disc as DiscType, Cc as CcType, Dm as DmType, Frmr as FrmrType}
use Rattle.llcp_pdu.specs.declared.header.Ptype.TheVariants.{Snl as SnlType, Info as InfoType, Rr as RrType, Rnr as RnrType}
use Rattle.llcp_pdu.specs.declared.param.Param.{Param}
use Rattle.llcp_pdu.specs.declared.part.Part.{Part}
use Rattle.llcp_pdu.specs.declared.part.Part.TheVariants.{Symm, Connect, Disc, Cc, Dm, Frmr, Snl, Rr, Rnr}
use Rattle.llcp_pdu.specs.Params.{param, is_known, kept, taken, params}
use Rattle.llcp_pdu.specs.Parts.{ptype_of, ptype_bits, headed, header, between, report, numbered, body, part}
use Rattle.llcp_pdu.specs.Pdus.{joined, inner}
use Rattle.llcp_pdu.specs.Reading.{refused, gives, follows, onto, ended, byte}
use Rattle.llcp_pdu.proofs.ParamLaws.{before}
use Rattle.llcp_pdu.specs.declared.pdu.Pdu.{Pdu}
use Rattle.llcp_pdu.specs.declared.pdu.Pdu.TheVariants.{One}
use Rattle.llcp_pdu.specs.declared.pdu_view.PduView.{PduView}
use Rattle.llcp_pdu.specs.Views.{HoldsParams, HoldsParts, params_in, parts_in, items_of, IsChecked, IsFirst, shown}
use Rattle.llcp_pdu.proofs.ParamLaws.{params_none}
use Rattle.llcp_pdu.proofs.PduLaws.{inner_none}
use Rattle.llcp_pdu.proofs.Outcomes.{whole_read}

-- What is read by the one is read by the other.
abbrev SameRead : {A : Type 0} → Result A Refusal → Result A Refusal → Type 0
SameRead {A} r s = (x : A) → r ≡ Ok x → s ≡ Ok x

none_read : {A : Type 0} (r : Refusal) (s : Result A Refusal) → SameRead (Err r) s
none_read {A} r s x e = absurd (let f : ◌≡◌ {A = Result A Refusal} (Err r) (Ok x) = e in cc)

gives_same : {A B : Type 0} (r s : Result A Refusal) (f : A → B) → SameRead r s → SameRead (gives r f) (gives s f)
gives_same (Ok x) s f h = λ y e. ap (λ z. gives z f) (h x refl) ∙ e
gives_same (Err r) s f h = none_read r (gives s f)

follows_same : {A B : Type 0} (r s : Result A Refusal) (f g : A → Result B Refusal) → SameRead r s → ((x : A) → SameRead (f x) (g x)) → SameRead (follows r f) (follows s g)
follows_same (Ok x) s f g h k = λ y e. ap (λ z. follows z g) (h x refl) ∙ k x y e
follows_same (Err r) s f g h k = none_read r (follows s g)

onto_same : {A : Type 0} (p : A) (r s : Result (List A) Refusal) → SameRead r s → SameRead (onto p r) (onto p s)
onto_same p (Ok xs) s h = λ y e. ap (onto p) (h xs refl) ∙ e
onto_same p (Err r) s h = none_read r (onto p s)

cut_same : {A : Type 0} (c : Bool) (kind : PduKind) (a b : ℕ) (r s : Result A Refusal) → SameRead r s → SameRead (if c then refused kind a else r) (if c then refused kind b else s)
cut_same true kind a b r s h = none_read (record { place = a; kind = kind }) (refused kind b)
cut_same false kind a b r s h = h

between_same : {A : Type 0} (sap d s a b : ℕ) (r t : Result A Refusal) → SameRead r t → SameRead (between sap d s a r) (between sap d s b t)
between_same sap d s a b r t h = go ((d == sap) && (s == sap))
  where
    go : (c : Bool) → SameRead (if c then r else refused Sap a) (if c then t else refused Sap b)
    go true = h
    go false = none_read (record { place = a; kind = Sap }) (refused Sap b)

ended_same : {A : Type 0} (rest : List ℕ) (a b : ℕ) (v : A) → SameRead (ended rest a v) (ended rest b v)
ended_same [] a b v = λ x e. e
ended_same (x ∷ rest) a b v = none_read _ _

byte_same : (rest : List ℕ) (a b : ℕ) → SameRead (byte rest a) (byte rest b)
byte_same [] a b = none_read _ _
byte_same (x ∷ rest) a b = ended_same rest (a + 1) (b + 1) x

report_same : (rest : List ℕ) (a b : ℕ) → SameRead (report rest a) (report rest b)
report_same [] a b = none_read _ _
report_same (w ∷ []) a b = none_read _ _
report_same (w ∷ x ∷ []) a b = none_read _ _
report_same (w ∷ x ∷ y ∷ []) a b = none_read _ _
report_same (w ∷ x ∷ y ∷ z ∷ rest) a b = ended_same rest (a + 4) (b + 4) _

numbered_same : (d s : ℕ) (rest : List ℕ) (a b : ℕ) → SameRead (numbered d s rest a) (numbered d s rest b)
numbered_same d s [] a b = none_read _ _
numbered_same d s (q ∷ info) a b = λ x e. e

taken_same : (o : Option Param) (known : Bool) (a b : ℕ) (r s : Result (List Param) Refusal) → SameRead r s → SameRead (taken o known a r) (taken o known b s)
taken_same (Some p) known a b r s h = onto_same p r s h
taken_same None true a b r s h = none_read _ _
taken_same None false a b r s h = h

params_same : (xs : List ℕ) (m a b : ℕ) → SameRead (params xs m a) (params xs m b)
params_same [] zero a b = λ x e. e
params_same [] (suc m) a b = λ x e. e
params_same (k ∷ []) zero a b = none_read _ _
params_same (k ∷ n ∷ rest) zero a b =
    cut_same (nat_lt (length rest) n) Parameter a b _ _
    (taken_same (param k (take n rest)) (is_known k) a b _ _ (params_same rest n (a + 2) (b + 2)))
params_same (k ∷ rest) (suc m) a b = params_same rest m (a + 1) (b + 1)

body_same : (t : Ptype) (d s : ℕ) (rest : List ℕ) (a b : ℕ) → SameRead (body t d s rest a) (body t d s rest b)
body_same SymmType d s rest a b = between_same 0 d s a b _ _ (ended_same rest (a + 2) (b + 2) Symm)
body_same AgfType d s rest a b = none_read _ _
body_same UiType d s rest a b = λ x e. e
body_same ConnectType d s rest a b = gives_same _ _ (Connect d s) (params_same rest 0 (a + 2) (b + 2))
body_same DiscType d s rest a b = ended_same rest (a + 2) (b + 2) (Disc d s)
body_same CcType d s rest a b = gives_same _ _ (Cc d s) (params_same rest 0 (a + 2) (b + 2))
body_same DmType d s rest a b = gives_same _ _ (Dm d s) (byte_same rest (a + 2) (b + 2))
body_same FrmrType d s rest a b = gives_same _ _ (Frmr d s) (report_same rest (a + 2) (b + 2))
body_same SnlType d s rest a b = between_same 1 d s a b _ _ (gives_same _ _ Snl (params_same rest 0 (a + 2) (b + 2)))
body_same InfoType d s rest a b = numbered_same d s rest (a + 2) (b + 2)
body_same RrType d s rest a b = gives_same _ _ (λ q. Rr d s (q % 16)) (byte_same rest (a + 2) (b + 2))
body_same RnrType d s rest a b = gives_same _ _ (λ q. Rnr d s (q % 16)) (byte_same rest (a + 2) (b + 2))

headed_same : (a b : ℕ) (t : Option Ptype) (d s : ℕ) → SameRead (headed a t d s) (headed b t d s)
headed_same a b None d s = none_read _ _
headed_same a b (Some t) d s = λ x e. e

header_same : (xs : List ℕ) (a b : ℕ) → SameRead (header a xs) (header b xs)
header_same [] a b = none_read _ _
header_same (x ∷ []) a b = none_read _ _
header_same (x ∷ y ∷ rest) a b = headed_same a b (ptype_of (ptype_bits x y)) (x / 4) (y % 64)

part_same : (xs : List ℕ) (a b : ℕ) → SameRead (part xs a) (part xs b)
part_same xs a b =
    follows_same (header a xs) (header b xs) _ _ (header_same xs a b) (λ h. body_same h.ptype h.dsap h.ssap (drop 2 xs) a b)

inner_same : (xs : List ℕ) (m a b : ℕ) → SameRead (inner xs m a) (inner xs m b)
inner_same [] zero a b = λ x e. e
inner_same [] (suc m) a b = λ x e. e
inner_same (h ∷ []) zero a b = none_read _ _
inner_same (h ∷ l ∷ rest) zero a b =
    cut_same (nat_lt (length rest) (256 * h + l)) Short (a + 2 + length rest) (b + 2 + length rest) _ _
    (follows_same (part (take (256 * h + l) rest) (a + 2)) (part (take (256 * h + l) rest) (b + 2)) _ _
    (part_same (take (256 * h + l) rest) (a + 2) (b + 2))
    (λ p. onto_same p _ _ (inner_same rest (256 * h + l) (a + 2) (b + 2))))
inner_same (x ∷ rest) (suc m) a b = inner_same rest m (a + 1) (b + 1)

-- what is read in full
holds : {A : Type 0} (r : Result (List A) Refusal) (xs : List A) → r ≡ Ok xs → (is_ok r ≡ true) × (items_of r ≡ xs)
holds r xs e = (ap is_ok e, ap items_of e)

-- what is left behind the first parameter of bytes that hold such
pub params_left : (xs tail : List ℕ) (o : Option Param) (n : ℕ) → HoldsParams xs → params xs 0 0 ≡ kept o (params tail 0 n) → HoldsParams tail × (params_in xs ≡ option_to_list o ++ params_in tail)
params_left xs tail o n h e = go o (params tail 0 n) (params_same tail 0 n 0) (sym (ap is_ok e) ∙ h) (ap items_of e)
  where
    go : (o : Option Param) (r : Result (List Param) Refusal) → ((ps : List Param) → r ≡ Ok ps → params tail 0 0 ≡ Ok ps) → is_ok (kept o r) ≡ true → params_in xs ≡ items_of (kept o r)
        → HoldsParams tail × (params_in xs ≡ option_to_list o ++ params_in tail)
    go None (Ok ps) k i f = let h = holds _ ps (k ps refl) in (h.0, f ∙ sym h.1)
    go (Some p) (Ok ps) k i f = let h = holds _ ps (k ps refl) in (h.0, f ∙ ap (λ z. p ∷ z) (sym h.1))
    go None (Err r) k i f = absurd (let g : false ≡ true = i in cc)
    go (Some p) (Err r) k i f = absurd (let g : false ≡ true = i in cc)

-- the first PDU of bytes that hold such, and what is left behind it
pub parts_left : (xs tail : List ℕ) (one : Result Part Refusal) (n : ℕ) → HoldsParts xs → inner xs 0 0 ≡ joined one (inner tail 0 n)
    → HoldsParts tail × (p : Part) × (one ≡ Ok p) × (parts_in xs ≡ p ∷ parts_in tail)
parts_left xs tail one n h e = go one (inner tail 0 n) (inner_same tail 0 n 0) (sym (ap is_ok e) ∙ h) (ap items_of e)
  where
    go : (one : Result Part Refusal) (r : Result (List Part) Refusal) → ((ps : List Part) → r ≡ Ok ps → inner tail 0 0 ≡ Ok ps) → is_ok (joined one r) ≡ true → parts_in xs ≡ items_of (joined one r)
        → HoldsParts tail × (p : Part) × (one ≡ Ok p) × (parts_in xs ≡ p ∷ parts_in tail)
    go (Ok p) (Ok ps) k i f = let h = holds _ ps (k ps refl) in (h.0, p, refl, f ∙ ap (λ z. p ∷ z) (sym h.1))
    go (Ok p) (Err r) k i f = absurd (let g : false ≡ true = i in cc)
    go (Err q) r k i f = absurd (let g : false ≡ true = i in cc)

-- bytes of which nothing is left to read hold what was found, and are read so at any place
pub all_params : (xs rest : List ℕ) (start at : ℕ) (found : List Param) → params xs 0 start ≡ before found (params rest 0 at) → length rest ≡ 0
    → (Ok (params_in xs) ≡ params xs 0 start) × HoldsParams xs
all_params xs rest start at found e n =
    let read = whole_read found (params xs 0 start) (params rest 0 at) e (params_none rest at n) in
    let h = holds _ found (params_same xs 0 start 0 found read) in
    (ap Ok h.1 ∙ sym read, h.0)

pub all_parts : (xs rest : List ℕ) (start at : ℕ) (found : List Part) → inner xs 0 start ≡ before found (inner rest 0 at) → length rest ≡ 0
    → (Ok (parts_in xs) ≡ inner xs 0 start) × HoldsParts xs
all_parts xs rest start at found e n =
    let read = whole_read found (inner xs 0 start) (inner rest 0 at) e (inner_none rest at n) in
    let h = holds _ found (inner_same xs 0 start 0 found read) in
    (ap Ok h.1 ∙ sym read, h.0)

-- one PDU, by what a view shows of it
pub one_read : (one : Result Part Refusal) (v : PduView) → Ok (shown v) ≡ gives one One → (p : Part) × (one ≡ Ok p) × (shown v ≡ One p)
one_read (Ok p) v e = (p, refl, (let f : Ok (shown v) ≡ Ok (One p) = e in cc))
one_read (Err r) v e = absurd (let f : Ok (shown v) ≡ Err r = e in cc)

pub one_refused : (one : Result Part Refusal) (r : Refusal) → Err r ≡ gives {B = Pdu} one One → one ≡ Err r
one_refused (Ok p) r e = absurd (let f : Err r ≡ Ok (One p) = e in cc)
one_refused (Err q) r e = (let f : ◌≡◌ {A = Result Pdu Refusal} (Err r) (Err q) = e in cc)

-- a view of the first PDU
pub shown_first : (v : PduView) (one : Result Part Refusal) (xs tail : List ℕ) → Ok (shown v) ≡ gives one One → (p : Part) × (one ≡ Ok p) × (parts_in xs ≡ p ∷ parts_in tail) → IsChecked v
    → IsFirst v (parts_in xs) (parts_in tail)
shown_first v one xs tail e (p, i, f) k =
    (p, same_shown v p (e ∙ ap (λ z. gives {B = Pdu} z One) i), f, k)
  where
    same_shown : (v : PduView) (p : Part) → ◌≡◌ {A = Result Pdu Refusal} (Ok (shown v)) (Ok (One p)) → shown v ≡ One p
    same_shown v p e = cc
