-- What is read as a frame spells it.
use Rattle.std.proofs.Common.{◌≡◌, ℕ, List, [], ◌∷◌, Bool, true, false, Option, Some, None, Result, Ok, Err, ◌↔◌, if◌then◌else◌, refl, ap, sym, subst, ◌∙◌, arith}
use Rattle.std.proofs.lemmas.Grind.{common_steps}
use Rattle.dep_pdu.specs.declared.frame.DepFrame.{DepFrame}
use Rattle.dep_pdu.specs.declared.frame.DepFrame.TheVariants.{DslReq, DslRes, RlsReq, RlsRes}
use Rattle.dep_pdu.specs.declared.refusal.DepRefusal.{DepRefusal}
use Rattle.dep_pdu.specs.declared.head.Head.{Head}
use Rattle.dep_pdu.specs.declared.head.Head.TheVariants.{Atr, Dep, Dsl, Rls}
use Rattle.dep_pdu.specs.Numbers.{request, answer, atr_req, atr_res}
use Rattle.dep_pdu.specs.Spelling.{DepSpelling}
use Rattle.dep_pdu.specs.Refusal.{dep_refusal, head, head_of, pfb_of}
use Rattle.dep_pdu.specs.Reading.{frame_of, atr_frame, spelled_frame, unless, told}
use Rattle.dep_pdu.proofs.Spelled.{spelled}
use Rattle.dep_pdu.proofs.Named.{named_atr, named_dsl, named_rls, no_short}
use Rattle.dep_pdu.proofs.AtrFrames.{atr_spelled}
use Rattle.dep_pdu.proofs.Plain.{plainly}
use Rattle.dep_pdu.proofs.DepFrames.{dep_long, dep_spelled}

-- nothing follows the head of DSL and RLS
dsl_ends : (up : Bool) (s l d c : ℕ) (rest : List ℕ) → head_of d c ≡ Some (Dsl up) → dep_refusal (s ∷ l ∷ d ∷ c ∷ rest) ≡ None → rest ≡ []
dsl_ends up s l d c [] h clean = refl
dsl_ends up s l d c (x ∷ rest) h clean = absurd (grind (arith, common_steps))

rls_ends : (up : Bool) (s l d c : ℕ) (rest : List ℕ) → head_of d c ≡ Some (Rls up) → dep_refusal (s ∷ l ∷ d ∷ c ∷ rest) ≡ None → rest ≡ []
rls_ends up s l d c [] h clean = refl
rls_ends up s l d c (x ∷ rest) h clean = absurd (grind (arith, common_steps))

-- a frame by its head
head_spelled : (s l d c : ℕ) (rest : List ℕ) (h : Option Head) → head_of d c ≡ h → dep_refusal (s ∷ l ∷ d ∷ c ∷ rest) ≡ None
    → (v : DepFrame) → frame_of h (s ∷ l ∷ d ∷ c ∷ rest) ≡ Some v → DepSpelling v (s ∷ l ∷ d ∷ c ∷ rest)
head_spelled s l d c rest None h clean v is = cc
head_spelled s l d c rest (Some (Atr up)) h clean v is =
    let same : atr_frame up (s ∷ l ∷ d ∷ c ∷ rest) ≡ v = cc in
    let n : (d ≡ (if up then answer else request)) × (c ≡ (if up then atr_res else atr_req)) = named_atr up d c h in
    let P : ℕ → ℕ → Type 0 = λ d c. dep_refusal (s ∷ l ∷ d ∷ c ∷ rest) ≡ None → DepSpelling (atr_frame up (s ∷ l ∷ d ∷ c ∷ rest)) (s ∷ l ∷ d ∷ c ∷ rest) in
    subst (λ v. DepSpelling v (s ∷ l ∷ d ∷ c ∷ rest)) same
    (subst (λ d. P d c) (sym n.0) (subst (P (if up then answer else request)) (sym n.1) (atr_spelled up s l rest)) clean)
head_spelled s l d c [] (Some (Dep up)) h clean v is = absurd (dep_long up s l d c h clean)
head_spelled s l d c (x ∷ content) (Some (Dep up)) h clean v is = dep_spelled up s l d c x content (pfb_of x) h refl clean v is
head_spelled s l d c rest (Some (Dsl true)) h clean v is =
    plainly DslRes s l d c rest clean tt refl (λ o. ap (λ m. d ∷ c ∷ m) (dsl_ends true s l d c rest h clean) ∙ named_dsl true d c h) v is
head_spelled s l d c rest (Some (Dsl false)) h clean v is =
    plainly DslReq s l d c rest clean tt refl (λ o. ap (λ m. d ∷ c ∷ m) (dsl_ends false s l d c rest h clean) ∙ named_dsl false d c h) v is
head_spelled s l d c rest (Some (Rls true)) h clean v is =
    plainly RlsRes s l d c rest clean tt refl (λ o. ap (λ m. d ∷ c ∷ m) (rls_ends true s l d c rest h clean) ∙ named_rls true d c h) v is
head_spelled s l d c rest (Some (Rls false)) h clean v is =
    plainly RlsReq s l d c rest clean tt refl (λ o. ap (λ m. d ∷ c ∷ m) (rls_ends false s l d c rest h clean) ∙ named_rls false d c h) v is

-- bytes without a fault spell what they are read as
bytes_spelled : (b : List ℕ) → dep_refusal b ≡ None → (v : DepFrame) → frame_of (head b) b ≡ Some v → DepSpelling v b
bytes_spelled [] clean v is = absurd (no_short [] (omega arith) clean)
bytes_spelled (s ∷ []) clean v is = absurd (no_short (s ∷ []) (omega arith) clean)
bytes_spelled (s ∷ l ∷ []) clean v is = absurd (no_short (s ∷ l ∷ []) (omega arith) clean)
bytes_spelled (s ∷ l ∷ d ∷ []) clean v is = absurd (no_short (s ∷ l ∷ d ∷ []) (omega arith) clean)
bytes_spelled (s ∷ l ∷ d ∷ c ∷ rest) clean v is = head_spelled s l d c rest (head_of d c) refl clean v is

clean_of : (r : Option DepRefusal) (o : Option DepFrame) (v : DepFrame) → unless r o ≡ Some v → (r ≡ None) × (o ≡ Some v)
clean_of None o v e = (refl, e)
clean_of (Some r) o v e = cc

-- what is read spells the frame
pub reads : (b : List ℕ) (v : DepFrame) → spelled_frame b ≡ Some v → DepSpelling v b
reads b v e =
    let f : (dep_refusal b ≡ None) × (frame_of (head b) b ≡ Some v) = clean_of (dep_refusal b) (frame_of (head b) b) v e in
    bytes_spelled b f.0 v f.1

told_ok : (r : Result DepFrame DepRefusal) (v : DepFrame) → told r ≡ Some v → r ≡ Ok v
told_ok (Ok w) v e = cc
told_ok (Err f) v e = cc

-- A result that tells what is spelled is a value exactly where the bytes spell it.
pub exact : (b : List ℕ) (r : Result DepFrame DepRefusal) → told r ≡ spelled_frame b → (v : DepFrame) → (r ≡ Ok v) ↔ DepSpelling v b
exact b r t v = ((λ e. reads b v (sym t ∙ ap told e)), (λ s. told_ok r v (t ∙ spelled v b s)))
