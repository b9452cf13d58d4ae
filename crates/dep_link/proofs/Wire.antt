-- Frames of NFC-DEP that are in range pass through the air: either end does at the frame what its table says of its value, and
-- frames that arrived one after another bring their values one after another.
use Rattle.std.proofs.Common.{◌≡◌, ℕ, ◌<◌, ◌≤◌, List, [], ◌∷◌, ◌++◌, Bool, Option, Some, None, refl, sym, ◌∙◌, ap, arith, append-nil}
use Rattle.std.proofs.lemmas.List.{length-take}
use Rattle.nfc_base.specs.Signal.{Signal}
use Rattle.nfc_base.proofs.ExactlyOnce.{Tallies}
use Rattle.dep_pdu.specs.declared.frame.DepFrame.{DepFrame}
use Rattle.dep_pdu.specs.Spelling.{IsDepFrame}
use Rattle.dep_pdu.proofs.Spelled.{written_back}
use Rattle.dep_link.specs.Frames.{air_frame, spelled, piece}
use Rattle.dep_link.specs.Target as target
use Rattle.dep_link.specs.Target.{TargetState, target_table, heeded, obeyed}
use Rattle.dep_link.specs.Payloads.{Cut, taken, cut_by, begins}
use Rattle.dep_link.specs.Exchange.{frames_of, before_frames, nfc_dep, IsCut}

pub written_read : (v : DepFrame) → IsDepFrame v → spelled (air_frame v) ≡ Some v
written_read v r = written_back v r

-- a target does at the frame of a value what its table says
pub target_heeds : (t : TargetState) (v : DepFrame) → IsDepFrame v → target_table t (air_frame v) ≡ target.framed (heeded t v)
target_heeds t v r = ap (obeyed t) (written_read v r)

-- a piece is in range
pub is_piece : (up : Bool) (most n : ℕ) (xs : List ℕ) → n < 4 → most ≤ 251 → IsDepFrame (piece up most n xs)
is_piece up most n xs p q = (p, (let l = length-take most xs in omega (arith, l)))

before_append : (o : Option DepFrame) (xs ys zs : List DepFrame) → xs ≡ ys ++ zs → before_frames o xs ≡ before_frames o ys ++ zs
before_append None xs ys zs e = e
before_append (Some v) xs ys zs e = ap (λ vs. v ∷ vs) e

pub frames_append : (fs gs : List Signal) → frames_of (fs ++ gs) ≡ frames_of fs ++ frames_of gs
frames_append [] gs = refl
frames_append (f ∷ fs) gs = before_append (spelled f) (frames_of (fs ++ gs)) (frames_of fs) (frames_of gs) (frames_append fs gs)

pub cut_append : (c : Cut) (vs : List DepFrame) (v : DepFrame) → cut_by c (vs ++ v ∷ []) ≡ taken (cut_by c vs) v
cut_append c [] v = refl
cut_append c (x ∷ vs) v = cut_append (taken c x) vs v

-- the cut at which a target stands that was handed these payloads
abbrev pub cut_of : TargetState → List (List ℕ) → Cut
cut_of t handed = record { next = t.expected; chain = t.chain; payloads = handed }

-- the cut goes on by the value of a frame
pub cuts_on : (first : ℕ) (t u : TargetState) (f : Signal) (v : DepFrame) (more : List (List ℕ)) → f ≡ air_frame v → IsDepFrame v
    → ((handed : List (List ℕ)) → taken (cut_of t handed) v ≡ cut_of u (handed ++ more)) → Tallies (nfc_dep first) (IsCut first) t f u more
cuts_on first t u f v more e r h = λ handed fs s.
    let one : frames_of (f ∷ []) ≡ v ∷ [] = ap (λ o. before_frames o []) (ap spelled e ∙ written_read v r) in
    ap (cut_by (begins first)) (frames_append fs (f ∷ []) ∙ ap (λ vs. frames_of fs ++ vs) one) ∙ cut_append (begins first) (frames_of fs) v ∙ ap (λ c. taken c v) s ∙ h handed

-- it stays at a frame that brings nothing
pub cuts_same : (first : ℕ) (t u : TargetState) (f : Signal) (v : DepFrame) → f ≡ air_frame v → IsDepFrame v
    → ((handed : List (List ℕ)) → taken (cut_of t handed) v ≡ cut_of u handed) → Tallies (nfc_dep first) (IsCut first) t f u []
cuts_same first t u f v e r h = cuts_on first t u f v [] e r (λ handed. h handed ∙ ap (cut_of u) (sym (append-nil handed)))
