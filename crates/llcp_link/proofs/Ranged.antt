-- What a payload brings has its fields in range.
use Rattle.std.proofs.Common.{◌≡◌, ◌≤◌, ℕ, ◌==◌, ◌||◌, Bool, true, false, List, [], ◌∷◌, map, Option, Some, None, refl, arith, if◌then◌else◌, Result, Ok, Err, unwrap_or}
use Rattle.llcp_pdu.specs.declared.header.RawHeader.{RawHeader}
use Rattle.llcp_pdu.specs.declared.param.Param.{Param}
use Rattle.llcp_pdu.specs.declared.part.Part.{Part}
use Rattle.llcp_pdu.specs.declared.pdu.Pdu.TheVariants.{Agf, One}
use Rattle.llcp_pdu.specs.Params.{last_of, rw_in}
use Rattle.llcp_pdu.specs.Pdus.{pdu}
use Rattle.llcp_pdu.specs.Ranges.{IsPart, AreParts, AreParams}
use Rattle.llcp_pdu.specs.Raw.{raw}
use Rattle.llcp_pdu.specs.Views.{refusal_told}
use Rattle.llcp_pdu.specs.Wire.{disc_type, info_type, rr_type, rnr_type, rw_end}
use Rattle.llcp_pdu.proofs.Exact.{are_bytes}
use Rattle.llcp_pdu.proofs.InRange.{in_range}
use Rattle.llcp_pdu.proofs.PduSpellings.{pdu_found}
use Rattle.llcp_link.specs.Names.{rw_of}
use Rattle.llcp_link.specs.Running.{AreBytes}
use Rattle.llcp_link.specs.State.{LlcState}
use Rattle.llcp_link.specs.Taking.{Item, Good, Broken, brought, broken, items, items_of, minded}
use Rattle.llcp_link.proofs.Ranges.{IsBelow, rw_below}

pub either : {X : Type 0} (P : X → Type 0) (b : Bool) (x y : X) → (b ≡ true → P x) → (b ≡ false → P y) → P (if b then x else y)
either P true x y f g = f refl
either P false x y f g = g refl

abbrev pub IsRanged : Item → Type 0
IsRanged (Good p) = IsPart p
IsRanged (Broken t d s q) = Unit {0}

abbrev pub AreRanged : List Item → Type 0
AreRanged [] = Unit {0}
AreRanged (i ∷ is) = IsRanged i × AreRanged is

parts_ranged : (ps : List Part) → AreParts ps → AreRanged (map Good ps)
parts_ranged [] h = tt
parts_ranged (p ∷ ps) h = (h.0, parts_ranged ps h.2)

minded_ranged : (h : RawHeader) → AreRanged (minded h)
minded_ranged h =
    either AreRanged (h.ptype == disc_type) _ _ (λ e. (tt, tt))
    (λ e. either AreRanged ((h.ptype == info_type) || ((h.ptype == rr_type) || (h.ptype == rnr_type))) _ _ (λ e. (tt, tt)) (λ e. tt))

broken_ranged : (o : Option RawHeader) → AreRanged (broken o)
broken_ranged None = tt
broken_ranged (Some h) = minded_ranged h

items_ranged : (b : List ℕ) → AreBytes b → AreRanged (items b)
items_ranged b h = go (pdu b) refl
  where
    go : (r : Result _ _) → pdu b ≡ r → AreRanged (items_of b (refusal_told r))
    go (Ok (One p)) e = (in_range (One p) b (are_bytes b h) (pdu_found (One p) b (are_bytes b h) e), tt)
    go (Ok (Agf ps)) e = parts_ranged ps (in_range (Agf ps) b (are_bytes b h) (pdu_found (Agf ps) b (are_bytes b h) e))
    go (Err f) e = broken_ranged (raw b)

pub brought_ranged : {S : Type 0} (l : LlcState S) (b : List ℕ) → AreBytes b → AreRanged (brought l b)
brought_ranged l b h = either AreRanged l.readable (items b) [] (λ e. items_ranged b h) (λ e. tt)

-- a window of at most 15
pub window_small : (ps : List Param) → AreParams ps → rw_of ps ≤ 15
window_small ps h = go (last_of rw_in ps) (rw_below ps (last_of rw_in ps) h refl)
  where
    go : (o : Option ℕ) → IsBelow rw_end o → unwrap_or o 1 ≤ 15
    go None k = omega arith
    go (Some n) k = omega arith
