-- Bytes that are read as a DEP frame spell it.
use Rattle.std.proofs.Common.{◌≡◌, ℕ, ◌≤◌, List, [], ◌∷◌, ◌++◌, length, Bool, true, false, Option, Some, None, refl, ap, ◌∙◌, arith}
use Rattle.std.proofs.lemmas.Grind.{common_steps}
use Rattle.dep_pdu.specs.declared.frame.DepFrame.{DepFrame}
use Rattle.dep_pdu.specs.declared.frame.DepFrame.TheVariants.{Info, Ack, Nack, Attention, Extend}
use Rattle.dep_pdu.specs.declared.head.Head.TheVariants.{Dep}
use Rattle.dep_pdu.specs.declared.pfb.Pfb.{Pfb}
use Rattle.dep_pdu.specs.declared.pfb.Pfb.TheVariants.{Information, Ack as AckPfb, Nack as NackPfb, Attention as AttentionPfb, Extension as ExtensionPfb}
use Rattle.dep_pdu.specs.Numbers.{nack, most_times, most_content}
use Rattle.dep_pdu.specs.Spelling.{pfb_byte, dep_head, DepSpelling}
use Rattle.dep_pdu.specs.Refusal.{dep_refusal, head_of, pfb_of, byte}
use Rattle.dep_pdu.specs.Reading.{dep_frame}
use Rattle.dep_pdu.proofs.Named.{named_dep, pfb_information, pfb_ack, pfb_nack, pfb_attention, pfb_extension}
use Rattle.dep_pdu.proofs.Plain.{plainly}

-- the PFB is there
pub dep_long : (up : Bool) (s l d c : ℕ) → head_of d c ≡ Some (Dep up) → dep_refusal (s ∷ l ∷ d ∷ c ∷ []) ≡ None → ⊥
dep_long up s l d c h clean = grind (arith, common_steps)

-- the content fits
info_fits : (up : Bool) (s l d c x : ℕ) (content : List ℕ) (more : Bool) (pni : ℕ) → head_of d c ≡ Some (Dep up) → pfb_of x ≡ Some (Information more pni)
    → dep_refusal (s ∷ l ∷ d ∷ c ∷ x ∷ content) ≡ None → length content ≤ most_content
info_fits up s l d c x content more pni h e clean = grind (arith, common_steps)

-- nothing follows these PFBs
ack_ends : (up : Bool) (s l d c x : ℕ) (content : List ℕ) (pni : ℕ) → head_of d c ≡ Some (Dep up) → pfb_of x ≡ Some (AckPfb pni)
    → dep_refusal (s ∷ l ∷ d ∷ c ∷ x ∷ content) ≡ None → content ≡ []
ack_ends up s l d c x [] pni h e clean = refl
ack_ends up s l d c x (y ∷ content) pni h e clean = absurd (grind (arith, common_steps))

nack_ends : (up : Bool) (s l d c x : ℕ) (content : List ℕ) (pni : ℕ) → head_of d c ≡ Some (Dep up) → pfb_of x ≡ Some (NackPfb pni)
    → dep_refusal (s ∷ l ∷ d ∷ c ∷ x ∷ content) ≡ None → (up ≡ false) × (content ≡ [])
nack_ends true s l d c x content pni h e clean = absurd (grind (arith, common_steps))
nack_ends false s l d c x [] pni h e clean = (refl, refl)
nack_ends false s l d c x (y ∷ content) pni h e clean = absurd (grind (arith, common_steps))

attention_ends : (up : Bool) (s l d c x : ℕ) (content : List ℕ) → head_of d c ≡ Some (Dep up) → pfb_of x ≡ Some AttentionPfb
    → dep_refusal (s ∷ l ∷ d ∷ c ∷ x ∷ content) ≡ None → content ≡ []
attention_ends up s l d c x [] h e clean = refl
attention_ends up s l d c x (y ∷ content) h e clean = absurd (grind (arith, common_steps))

-- the byte of an extension follows, and nothing else
extension_ends : (up : Bool) (s l d c x : ℕ) (content : List ℕ) → head_of d c ≡ Some (Dep up) → pfb_of x ≡ Some ExtensionPfb
    → dep_refusal (s ∷ l ∷ d ∷ c ∷ x ∷ content) ≡ None → (content ≡ byte content 0 ∷ []) × (1 ≤ byte content 0) × (byte content 0 ≤ most_times)
extension_ends up s l d c x [] h e clean = absurd (grind (arith, common_steps))
extension_ends up s l d c x (y ∷ []) h e clean = (refl, grind (arith, common_steps), grind (arith, common_steps))
extension_ends up s l d c x (y ∷ z ∷ content) h e clean = absurd (grind (arith, common_steps))

-- the bytes behind LEN of a DEP frame
dep_body : (up : Bool) (d c x y : ℕ) (content rest : List ℕ) → head_of d c ≡ Some (Dep up) → x ≡ y → content ≡ rest → d ∷ c ∷ x ∷ content ≡ dep_head up ++ y ∷ rest
dep_body up d c x y content rest h f m = ap (λ n. n ++ x ∷ content) (named_dep up d c h) ∙ ap (λ y. dep_head up ++ y ∷ content) f ∙ ap (λ m. dep_head up ++ y ∷ m) m

-- a DEP frame by its PFB
pub dep_spelled : (up : Bool) (s l d c x : ℕ) (content : List ℕ) (p : Option Pfb) → head_of d c ≡ Some (Dep up) → pfb_of x ≡ p
    → dep_refusal (s ∷ l ∷ d ∷ c ∷ x ∷ content) ≡ None → (v : DepFrame) → dep_frame up p (s ∷ l ∷ d ∷ c ∷ x ∷ content) ≡ Some v → DepSpelling v (s ∷ l ∷ d ∷ c ∷ x ∷ content)
dep_spelled up s l d c x content None h e clean v is = cc
dep_spelled up s l d c x content (Some (Information more pni)) h e clean v is =
    plainly (Info up more pni (record { items = content })) s l d c (x ∷ content) clean ((pfb_information x pni more e).1, info_fits up s l d c x content more pni h e clean) refl
    (λ o. dep_body up d c x _ content content h (pfb_information x pni more e).0 refl) v is
dep_spelled up s l d c x content (Some (AckPfb pni)) h e clean v is =
    plainly (Ack up pni) s l d c (x ∷ content) clean (pfb_ack x pni e).1 refl
    (λ o. dep_body up d c x _ content [] h (pfb_ack x pni e).0 (ack_ends up s l d c x content pni h e clean)) v is
dep_spelled up s l d c x content (Some (NackPfb pni)) h e clean v is =
    let m : (up ≡ false) × (content ≡ []) = nack_ends up s l d c x content pni h e clean in
    plainly (Nack pni) s l d c (x ∷ content) clean (pfb_nack x pni e).1 refl
    (λ o. dep_body up d c x _ content [] h (pfb_nack x pni e).0 m.1 ∙ ap (λ u. dep_head u ++ pfb_byte nack pni ∷ []) m.0) v is
dep_spelled up s l d c x content (Some AttentionPfb) h e clean v is =
    plainly (Attention up) s l d c (x ∷ content) clean tt refl
    (λ o. dep_body up d c x _ content [] h (pfb_attention x e) (attention_ends up s l d c x content h e clean)) v is
dep_spelled up s l d c x content (Some ExtensionPfb) h e clean v is =
    let m : (content ≡ byte content 0 ∷ []) × (1 ≤ byte content 0) × (byte content 0 ≤ most_times) = extension_ends up s l d c x content h e clean in
    plainly (Extend up (byte content 0)) s l d c (x ∷ content) clean (m.1, m.2) refl
    (λ o. dep_body up d c x _ content (byte content 0 ∷ []) h (pfb_extension x e) m.0) v is
