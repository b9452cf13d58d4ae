-- Frames that are counted on from where those before them left off.
use Rattle.std.proofs.Common.{◌≡◌, ℕ, ◌==◌, List, [], ◌∷◌, ◌++◌, Bool, true, false, if◌then◌else◌, refl, sym, ◌∙◌, ap, append_assoc, append-nil}
use Rattle.nfc_base.specs.LinkTurns.{arrived}
use Rattle.nfc_base.specs.declared.event.Event.{Event}
use Rattle.dep_pdu.specs.declared.frame.DepFrame.{DepFrame}
use Rattle.dep_pdu.specs.declared.frame.DepFrame.TheVariants.{AtrReq, AtrRes, Info, Ack, Nack, Attention, Extend, DslReq, DslRes, RlsReq, RlsRes}
use Rattle.dep_link.specs.Payloads.{Cut, begins, cut_by, joined, taken}
use Rattle.dep_link.specs.Exchange.{frames_of}
use Rattle.dep_link.specs.DepLinks.{brought}
use Rattle.link_calls.specs.Arriving.{IsCountedTo}
use Rattle.link_calls.proofs.Arriving.{cut_more}

-- a cut with payloads before its own
abbrev behind : List (List ℕ) → Cut → Cut
behind ps c = record { next = c.next; chain = c.chain; payloads = ps ++ c.payloads }

joined_behind : (ps : List (List ℕ)) (c : Cut) (more : Bool) (xs : List ℕ) → joined (behind ps c) more xs ≡ behind ps (joined c more xs)
joined_behind ps c true xs = refl
joined_behind ps c false xs =
    let C : List (List ℕ) → Cut = λ qs. record { next = (joined c false xs).next; chain = []; payloads = qs } in
    ap C (append_assoc ps c.payloads (xs ∷ []))

if_behind : (ps : List (List ℕ)) (b : Bool) (c d e : Cut) → c ≡ behind ps d → (if b then c else behind ps e) ≡ behind ps (if b then d else e)
if_behind ps true c d e q = q
if_behind ps false c d e q = refl

taken_behind : (ps : List (List ℕ)) (c : Cut) (v : DepFrame) → taken (behind ps c) v ≡ behind ps (taken c v)
taken_behind ps c (Info false more pni x) = if_behind ps (pni == c.next) _ _ c (joined_behind ps c more (c.chain ++ x.items))
taken_behind ps c (Info true more pni x) = refl
taken_behind ps c (Ack false pni) = if_behind ps (pni == c.next) _ _ c refl
taken_behind ps c (Ack true pni) = refl
taken_behind ps c (Nack pni) = refl
taken_behind ps c (Attention up) = refl
taken_behind ps c (Extend up times) = refl
taken_behind ps c (AtrReq id lr general) = refl
taken_behind ps c (AtrRes id timeout lr general) = refl
taken_behind ps c DslReq = refl
taken_behind ps c DslRes = refl
taken_behind ps c RlsReq = refl
taken_behind ps c RlsRes = refl

cut_behind : (ps : List (List ℕ)) (c : Cut) (vs : List DepFrame) → cut_by (behind ps c) vs ≡ behind ps (cut_by c vs)
cut_behind ps c [] = refl
cut_behind ps c (v ∷ vs) = ap (λ d. cut_by d vs) (taken_behind ps c v) ∙ cut_behind ps (taken c v) vs

module _ (first n : ℕ) (xs ys : List Event) (before : IsCountedTo first xs n) where
  abbrev came : List (List ℕ)
  came = brought first xs

  cut_on : cut_by (begins first) (frames_of (arrived (xs ++ ys))) ≡ behind came (cut_by (begins n) (frames_of (arrived ys)))
  cut_on =
      let C : List (List ℕ) → Cut = λ ps. cut_by (record { next = n; chain = []; payloads = ps }) (frames_of (arrived ys)) in
      cut_more first xs ys ∙ ap (λ c. cut_by c (frames_of (arrived ys))) before ∙ ap C (sym (append-nil came))
      ∙ cut_behind came (begins n) (frames_of (arrived ys))

  pub brought_on : brought first (xs ++ ys) ≡ came ++ brought n ys
  brought_on = ap (λ (c : Cut). c.payloads) cut_on

  pub counted_on : (next : ℕ) → IsCountedTo n ys next → IsCountedTo first (xs ++ ys) next
  counted_on next after =
      let C : List (List ℕ) → Cut = λ ps. record { next = next; chain = []; payloads = ps } in
      cut_on ∙ ap (behind came) after ∙ ap C (sym brought_on)
