-- The bytes that a frame's name and its fields stand for, and what the first rows of the table leave.
use Rattle.std.proofs.Common.{◌≡◌, ℕ, ◌+◌, ◌/◌, ◌%◌, ◌<◌, List, [], ◌∷◌, length, Bool, true, false, ◌==◌, Some, None, if◌then◌else◌, arith}
use Rattle.std.proofs.lemmas.Grind.{common_steps}
use Rattle.dep_pdu.specs.declared.head.Head.TheVariants.{Atr, Dep, Dsl, Rls}
use Rattle.dep_pdu.specs.declared.pfb.Pfb.TheVariants.{Information, Ack as AckPfb, Nack as NackPfb, Attention as AttentionPfb, Extension as ExtensionPfb}
use Rattle.dep_pdu.specs.Numbers.{start_byte, request, answer, atr_req, atr_res, dep_req, dep_res, dsl_req, dsl_res, rls_req, rls_res, information, more_information, ack, nack, attention, extension}
use Rattle.dep_pdu.specs.Numbers.{general_follow}
use Rattle.dep_pdu.specs.Spelling.{pp_byte, pfb_byte, dep_head}
use Rattle.dep_pdu.specs.Refusal.{dep_refusal, head_of, is_pp, pfb_of}

-- the direction and command bytes that a head stands for
pub named_atr : (up : Bool) (d c : ℕ) → head_of d c ≡ Some (Atr up) → (d ≡ (if up then answer else request)) × (c ≡ (if up then atr_res else atr_req))
named_atr true d c h = (grind (arith, common_steps), grind (arith, common_steps))
named_atr false d c h = (grind (arith, common_steps), grind (arith, common_steps))

pub named_dep : (up : Bool) (d c : ℕ) → head_of d c ≡ Some (Dep up) → d ∷ c ∷ [] ≡ dep_head up
named_dep true d c h =
    let e : d ≡ answer = grind (arith, common_steps) in
    let f : c ≡ dep_res = grind (arith, common_steps) in
    cc
named_dep false d c h =
    let e : d ≡ request = grind (arith, common_steps) in
    let f : c ≡ dep_req = grind (arith, common_steps) in
    cc

pub named_dsl : (up : Bool) (d c : ℕ) → head_of d c ≡ Some (Dsl up) → d ∷ c ∷ [] ≡ (if up then answer ∷ dsl_res ∷ [] else request ∷ dsl_req ∷ [])
named_dsl true d c h =
    let e : d ≡ answer = grind (arith, common_steps) in
    let f : c ≡ dsl_res = grind (arith, common_steps) in
    cc
named_dsl false d c h =
    let e : d ≡ request = grind (arith, common_steps) in
    let f : c ≡ dsl_req = grind (arith, common_steps) in
    cc

pub named_rls : (up : Bool) (d c : ℕ) → head_of d c ≡ Some (Rls up) → d ∷ c ∷ [] ≡ (if up then answer ∷ rls_res ∷ [] else request ∷ rls_req ∷ [])
named_rls true d c h =
    let e : d ≡ answer = grind (arith, common_steps) in
    let f : c ≡ rls_res = grind (arith, common_steps) in
    cc
named_rls false d c h =
    let e : d ≡ request = grind (arith, common_steps) in
    let f : c ≡ rls_req = grind (arith, common_steps) in
    cc

-- the PFB byte that says this
pub pfb_information : (x pni : ℕ) (more : Bool) → pfb_of x ≡ Some (Information more pni) → (x ≡ pfb_byte (if more then more_information else information) pni) × (pni < 4)
pfb_information x pni true h = (grind (arith, common_steps), grind (arith, common_steps))
pfb_information x pni false h = (grind (arith, common_steps), grind (arith, common_steps))

pub pfb_ack : (x pni : ℕ) → pfb_of x ≡ Some (AckPfb pni) → (x ≡ pfb_byte ack pni) × (pni < 4)
pfb_ack x pni h = (grind (arith, common_steps), grind (arith, common_steps))

pub pfb_nack : (x pni : ℕ) → pfb_of x ≡ Some (NackPfb pni) → (x ≡ pfb_byte nack pni) × (pni < 4)
pfb_nack x pni h = (grind (arith, common_steps), grind (arith, common_steps))

pub pfb_attention : (x : ℕ) → pfb_of x ≡ Some AttentionPfb → x ≡ attention
pfb_attention x h = grind (arith, common_steps)

pub pfb_extension : (x : ℕ) → pfb_of x ≡ Some ExtensionPfb → x ≡ extension
pfb_extension x h = grind (arith, common_steps)

-- a PP byte by its LR code and its mark
pub pp_of : (pp : ℕ) → is_pp pp ≡ true → pp ≡ pp_byte (pp / 16) (pp % 16 == general_follow)
pp_of pp h = grind (arith, common_steps)

-- the facts that the first rows leave
pub start_of : (s l d c : ℕ) (rest : List ℕ) → dep_refusal (s ∷ l ∷ d ∷ c ∷ rest) ≡ None → s ≡ start_byte
start_of s l d c rest h = grind (arith, common_steps)

pub len_of : (s l d c : ℕ) (rest : List ℕ) → dep_refusal (s ∷ l ∷ d ∷ c ∷ rest) ≡ None → l ≡ length (d ∷ c ∷ rest) + 1
len_of s l d c rest h = grind (arith, common_steps)

pub no_short : (b : List ℕ) → length b < 4 → dep_refusal b ≡ None → ⊥
no_short [] l h = grind (arith, common_steps)
no_short (s ∷ []) l h = grind (arith, common_steps)
no_short (s ∷ t ∷ []) l h = grind (arith, common_steps)
no_short (s ∷ t ∷ d ∷ []) l h = grind (arith, common_steps)
no_short (s ∷ t ∷ d ∷ c ∷ rest) l h = absurd (omega (arith, l))
