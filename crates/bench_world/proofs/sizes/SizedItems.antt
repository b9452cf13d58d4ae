-- No CONNECT and no CC says an MIU that is too long for a payload, whatever bytes a payload has.
use Rattle.std.proofs.Common.{◌+◌, ◌*◌, ◌/◌, ◌%◌, ◌==◌, ◌&&◌, ◌||◌, nat_lt, ℕ, zero, suc, Bool, true, false, List, [], ◌∷◌, length, map, take, Option, Some, None, Result, Ok, Err, if◌then◌else◌}
use Rattle.std.specs.Prelude.{IfSome}
use Rattle.std.specs.List.{AllByRecursion}
use Rattle.llcp_pdu.specs.declared.part.Part.{Part}
use Rattle.llcp_pdu.specs.declared.part.Part.TheVariants.{Symm, Connect, Disc, Cc, Dm, Frmr, Snl, Rr, Rnr}
use Rattle.llcp_pdu.specs.declared.pdu.Pdu.{Pdu}
use Rattle.llcp_pdu.specs.declared.pdu.Pdu.TheVariants.{Agf, One}
use Rattle.llcp_pdu.specs.declared.param.Param.{Param}
use Rattle.llcp_pdu.specs.declared.header.RawHeader.{RawHeader}
use Rattle.llcp_pdu.specs.Params.{last_of, miux_in, params}
use Rattle.llcp_pdu.specs.Parts.{between, body, headed, numbered, part, ptype_bits, report}
use Rattle.llcp_pdu.specs.Pdus.{inner, joined, pdu, whole}
use Rattle.llcp_pdu.specs.Raw.{raw}
use Rattle.llcp_pdu.specs.Reading.{byte, ended, follows, gives}
use Rattle.llcp_pdu.specs.Views.{refusal_told}
use Rattle.llcp_pdu.specs.Wire.{disc_type, info_type, rr_type, rnr_type}
use Rattle.llcp_link.specs.Taking.{Item, Good, Broken, broken, brought, items, items_of, minded}
use Rattle.llcp_link.specs.State.{LlcState}
use Rattle.llcp_link.proofs.Ranged.{either}
use Rattle.bench_world.proofs.sizes.SizedEnds.{AllSmall, IsLess, params_small}

-- so it is of a PDU
abbrev pub PartSmall : Part → Type 0
PartSmall (Connect d s ps) = IfSome (last_of miux_in ps) IsLess
PartSmall (Cc d s ps) = IfSome (last_of miux_in ps) IsLess
PartSmall p = Unit {0}

abbrev pub ItemSmall : Item → Type 0
ItemSmall (Good p) = PartSmall p
ItemSmall (Broken ty d s q) = Unit {0}

-- and of what was read as PDUs
abbrev OneSmall : {E : Type 0} → Result Part E → Type 0
OneSmall (Ok p) = PartSmall p
OneSmall (Err e) = Unit {0}

abbrev SeveralSmall : {E : Type 0} → Result (List Part) E → Type 0
SeveralSmall (Ok ps) = AllByRecursion PartSmall ps
SeveralSmall (Err e) = Unit {0}

said_small : (f : List Param → Part) → ((ps : List Param) → IfSome (last_of miux_in ps) IsLess → PartSmall (f ps)) → (r : Result (List Param) _) → AllSmall r → OneSmall (gives r f)
said_small f h (Ok ps) k = h ps k
said_small f h (Err e) k = tt

-- where what is made of it is neither
other_small : {A : Type 0} (f : A → Part) → ((x : A) → PartSmall (f x)) → (r : Result A _) → OneSmall (gives r f)
other_small f h (Ok x) = h x
other_small f h (Err e) = tt

ended_small : (rest : List ℕ) (at : ℕ) (p : Part) → PartSmall p → OneSmall (ended rest at p)
ended_small [] at p h = h
ended_small (x ∷ rest) at p h = tt

between_small : (sap d s at : ℕ) (r : Result Part _) → OneSmall r → OneSmall (between sap d s at r)
between_small sap d s at r h = either (λ x. OneSmall x) ((d == sap) && (s == sap)) r _ (λ e. h) (λ e. tt)

numbered_small : (d s : ℕ) (rest : List ℕ) (at : ℕ) → OneSmall (numbered d s rest at)
numbered_small d s [] at = tt
numbered_small d s (q ∷ info) at = tt

symm_small : (d s : ℕ) (rest : List ℕ) (at : ℕ) → OneSmall (between 0 d s at (ended rest (at + 2) Symm))
symm_small d s rest at = between_small 0 d s at (ended rest (at + 2) Symm) (ended_small rest (at + 2) Symm tt)

called_small : (d s : ℕ) (rest : List ℕ) (at : ℕ) → OneSmall (gives (params rest 0 (at + 2)) (Connect d s))
called_small d s rest at = said_small (Connect d s) (λ ps k. k) (params rest 0 (at + 2)) (params_small rest 0 (at + 2))

told_small : (d s : ℕ) (rest : List ℕ) (at : ℕ) → OneSmall (gives (params rest 0 (at + 2)) (Cc d s))
told_small d s rest at = said_small (Cc d s) (λ ps k. k) (params rest 0 (at + 2)) (params_small rest 0 (at + 2))

snl_small : (d s : ℕ) (rest : List ℕ) (at : ℕ) → OneSmall (between 1 d s at (gives (params rest 0 (at + 2)) Snl))
snl_small d s rest at = between_small 1 d s at (gives (params rest 0 (at + 2)) Snl) (other_small Snl (λ x. tt) (params rest 0 (at + 2)))

-- by its type, where it has one
if_so : {T : Type 0} (P : Option T → Type 0) (b : Bool) (x y : Option T) → P x → P y → P (if b then x else y)
if_so P true x y h k = h
if_so P false x y h k = k

-- There are twelve types of PDUs. They have no name in other crates, so this goes by their numbers.
twelve : {T : Type 0} (P : Option T → Type 0) (n : ℕ) (t0 t2 t3 t4 t5 t6 t7 t8 t9 t12 t13 t14 : T)
    → P (Some t0) → P (Some t2) → P (Some t3) → P (Some t4) → P (Some t5) → P (Some t6) → P (Some t7) → P (Some t8) → P (Some t9) → P (Some t12) → P (Some t13) → P (Some t14) → P None
    → P (if n == 0 then Some t0 else (if n == 2 then Some t2 else (if n == 3 then Some t3 else (if n == 4 then Some t4 else (if n == 5 then Some t5 else
    (if n == 6 then Some t6 else (if n == 7 then Some t7 else (if n == 8 then Some t8 else (if n == 9 then Some t9 else (if n == 12 then Some t12 else
    (if n == 13 then Some t13 else (if n == 14 then Some t14 else None))))))))))))
twelve P n t0 t2 t3 t4 t5 t6 t7 t8 t9 t12 t13 t14 h0 h2 h3 h4 h5 h6 h7 h8 h9 h12 h13 h14 none =
    if_so P (n == 0) _ _ h0 (if_so P (n == 2) _ _ h2 (if_so P (n == 3) _ _ h3 (if_so P (n == 4) _ _ h4 (if_so P (n == 5) _ _ h5
    (if_so P (n == 6) _ _ h6 (if_so P (n == 7) _ _ h7 (if_so P (n == 8) _ _ h8 (if_so P (n == 9) _ _ h9 (if_so P (n == 12) _ _ h12
    (if_so P (n == 13) _ _ h13 (if_so P (n == 14) _ _ h14 none)))))))))))

part_small : (b : List ℕ) (at : ℕ) → OneSmall (part b at)
part_small [] at = tt
part_small (x ∷ []) at = tt
part_small (x ∷ y ∷ rest) at =
    twelve (λ o. OneSmall (follows (headed at o d s) (λ h. body h.ptype h.dsap h.ssap rest at))) (ptype_bits x y) _ _ _ _ _ _ _ _ _ _ _ _
    (symm_small d s rest at) tt tt (called_small d s rest at) (ended_small rest (at + 2) (Disc d s) tt) (told_small d s rest at)
    (other_small (Dm d s) (λ x. tt) (byte rest (at + 2))) (other_small (Frmr d s) (λ x. tt) (report rest (at + 2))) (snl_small d s rest at)
    (numbered_small d s rest (at + 2)) (other_small (λ q. Rr d s (q % 16)) (λ x. tt) (byte rest (at + 2)))
    (other_small (λ q. Rnr d s (q % 16)) (λ x. tt) (byte rest (at + 2))) tt
  where
    d : ℕ
    d = x / 4

    s : ℕ
    s = y % 64

joined_small : (a : Result Part _) (r : Result (List Part) _) → OneSmall a → SeveralSmall r → SeveralSmall (joined a r)
joined_small (Ok p) (Ok ps) h k = (h, k)
joined_small (Ok p) (Err e) h k = tt
joined_small (Err e) r h k = tt

inner_small : (xs : List ℕ) (m at : ℕ) → SeveralSmall (inner xs m at)
inner_small [] zero at = tt
inner_small [] (suc m) at = tt
inner_small (h ∷ []) zero at = tt
inner_small (h ∷ l ∷ rest) zero at =
    either (λ r. SeveralSmall r) (nat_lt (length rest) (256 * h + l)) _ (joined (part (take (256 * h + l) rest) (at + 2)) (inner rest (256 * h + l) (at + 2))) (λ e. tt)
    (λ e. joined_small (part (take (256 * h + l) rest) (at + 2)) (inner rest (256 * h + l) (at + 2)) (part_small (take (256 * h + l) rest) (at + 2)) (inner_small rest (256 * h + l) (at + 2)))
inner_small (x ∷ rest) (suc m) at = inner_small rest m (at + 1)

-- what a payload brings
abbrev AllItems : List Item → Type 0
AllItems is = AllByRecursion ItemSmall is

abbrev ReadSmall : List ℕ → {E : Type 0} → Result Pdu E → Type 0
ReadSmall b (Ok (One p)) = PartSmall p
ReadSmall b (Ok (Agf ps)) = AllByRecursion PartSmall ps
ReadSmall b (Err e) = Unit {0}

one_read : (b : List ℕ) (r : Result Part _) → OneSmall r → ReadSmall b (gives r One)
one_read b (Ok p) h = h
one_read b (Err e) h = tt

several_read : (b : List ℕ) (r : Result (List Part) _) → SeveralSmall r → ReadSmall b (gives r Agf)
several_read b (Ok ps) h = h
several_read b (Err e) h = tt

agf_read : (b rest : List ℕ) (d s : ℕ) → ReadSmall b (between 0 d s 0 (gives (inner rest 0 2) Agf))
agf_read b rest d s = either (λ r. ReadSmall b r) ((d == 0) && (s == 0)) (gives (inner rest 0 2) Agf) _ (λ e. several_read b (inner rest 0 2) (inner_small rest 0 2)) (λ e. tt)

pdu_small : (b : List ℕ) → ReadSmall b (pdu b)
pdu_small [] = tt
pdu_small (x ∷ []) = tt
pdu_small (x ∷ y ∷ rest) =
    twelve (λ o. ReadSmall b (follows (headed 0 o d s) (λ h. whole h rest))) (ptype_bits x y) _ _ _ _ _ _ _ _ _ _ _ _
    (one_read b (between 0 d s 0 (ended rest 2 Symm)) (symm_small d s rest 0)) (agf_read b rest d s) tt
    (one_read b (gives (params rest 0 2) (Connect d s)) (called_small d s rest 0)) (one_read b (ended rest 2 (Disc d s)) (ended_small rest 2 (Disc d s) tt))
    (one_read b (gives (params rest 0 2) (Cc d s)) (told_small d s rest 0))
    (one_read b (gives (byte rest 2) (Dm d s)) (other_small (Dm d s) (λ x. tt) (byte rest 2)))
    (one_read b (gives (report rest 2) (Frmr d s)) (other_small (Frmr d s) (λ x. tt) (report rest 2)))
    (one_read b (between 1 d s 0 (gives (params rest 0 2) Snl)) (snl_small d s rest 0)) (one_read b (numbered d s rest 2) (numbered_small d s rest 2))
    (one_read b (gives (byte rest 2) (λ q. Rr d s (q % 16))) (other_small (λ q. Rr d s (q % 16)) (λ x. tt) (byte rest 2)))
    (one_read b (gives (byte rest 2) (λ q. Rnr d s (q % 16))) (other_small (λ q. Rnr d s (q % 16)) (λ x. tt) (byte rest 2))) tt
  where
    b : List ℕ
    b = x ∷ y ∷ rest

    d : ℕ
    d = x / 4

    s : ℕ
    s = y % 64

good_small : (ps : List Part) → AllByRecursion PartSmall ps → AllItems (map Good ps)
good_small [] h = tt
good_small (p ∷ ps) h = (h.0, good_small ps h.1)

minded_small : (h : RawHeader) → AllItems (minded h)
minded_small h =
    either AllItems (h.ptype == disc_type) _ _ (λ e. (tt, tt))
    (λ e. either AllItems ((h.ptype == info_type) || ((h.ptype == rr_type) || (h.ptype == rnr_type))) _ _ (λ e. (tt, tt)) (λ e. tt))

broken_small : (o : Option RawHeader) → AllItems (broken o)
broken_small None = tt
broken_small (Some h) = minded_small h

read_items : (b : List ℕ) (r : Result Pdu _) → ReadSmall b r → AllItems (items_of b (refusal_told r))
read_items b (Ok (One p)) h = (h, tt)
read_items b (Ok (Agf ps)) h = good_small ps h
read_items b (Err e) h = broken_small (raw b)

pub brought_small : {S : Type 0} (l : LlcState S) (b : List ℕ) → AllByRecursion ItemSmall (brought l b)
brought_small l b = either AllItems l.readable (items b) [] (λ e. read_items b (pdu b) (pdu_small b)) (λ e. tt)
