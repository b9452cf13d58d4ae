-- The answers of reading, by what the bytes spell.
use Rattle.std.proofs.Common.{◌≡◌, ◌<◌, ◌↔◌, ℕ, suc, List, [], ◌∷◌, slice_index, Result, Ok, Err, sym, ◌∙◌, ap}
use Rattle.llcp_pdu.specs.declared.fault.PduRefusal.{PduRefusal}
use Rattle.llcp_pdu.specs.declared.fault.Refusal.{Refusal}
use Rattle.llcp_pdu.specs.declared.pdu.Pdu.{Pdu}
use Rattle.llcp_pdu.specs.declared.pdu_view.PduView.{PduView}
use Rattle.llcp_pdu.specs.Pdus.{pdu}
use Rattle.llcp_pdu.specs.Ranges.{IsPdu}
use Rattle.llcp_pdu.specs.Spelling.{LlcpSpelling}
use Rattle.llcp_pdu.specs.Views.{Shows, seen, shown, refusal_told}
use Rattle.llcp_pdu.proofs.InRange.{in_range}
use Rattle.llcp_pdu.proofs.PartSpellings.{AreBytes}
use Rattle.llcp_pdu.proofs.PduSpellings.{pdu_reads, pdu_found}

pub are_bytes : (xs : List ℕ) → ((i : ℕ) → slice_index xs i < 256) → AreBytes xs
are_bytes [] h = tt
are_bytes (x ∷ xs) h = (h 0, are_bytes xs (λ i. h (suc i)))

told_ok : {A : Type 0} (r : Result A Refusal) (x : A) → refusal_told r ≡ Ok x → r ≡ Ok x
told_ok (Ok y) x e = cc
told_ok (Err f) x e = cc

same_ok : {A E : Type 0} (x y : A) → ◌≡◌ {A = Result A E} (Ok x) (Ok y) → x ≡ y
same_ok x y e = cc

read_back : (b : List ℕ) (p : Pdu) → LlcpSpelling p b → refusal_told (pdu b) ≡ Ok p
read_back b p h = ap refusal_told (pdu_reads p b h)

-- A view shows a PDU exactly where the bytes spell it.
pub shows_exactly : (result : Result PduView PduRefusal) (b : List ℕ) → AreBytes b → seen result ≡ refusal_told (pdu b) → (p : Pdu) → Shows result p ↔ LlcpSpelling p b
shows_exactly (Ok v) b bytes e p =
    ((λ h. pdu_found p b bytes (told_ok (pdu b) p (sym e ∙ ap Ok h))), (λ h. same_ok (shown v) p (e ∙ read_back b p h)))
shows_exactly (Err f) b bytes e p =
    ((λ h. absurd h), (λ h. let i : Err f ≡ Ok p = e ∙ read_back b p h in cc))

-- what a view shows has its fields in range
pub shown_in_range : (v : PduView) (b : List ℕ) → AreBytes b → Ok (shown v) ≡ refusal_told (pdu b) → IsPdu (shown v)
shown_in_range v b bytes e = in_range (shown v) b bytes (pdu_found (shown v) b bytes (told_ok (pdu b) (shown v) (sym e)))
