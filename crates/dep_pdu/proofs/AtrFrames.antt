-- Bytes that are read as ATR_REQ or ATR_RES spell it.
use Rattle.std.proofs.Common.{◌≡◌, ℕ, ◌+◌, ◌/◌, ◌%◌, ◌<◌, ◌≤◌, List, [], ◌∷◌, length, Bool, true, false, ◌==◌, None, if◌then◌else◌, refl, arith}
use Rattle.std.proofs.lemmas.Grind.{common_steps}
use Rattle.dep_pdu.specs.declared.frame.DepFrame.TheVariants.{AtrReq, AtrRes}
use Rattle.dep_pdu.specs.Numbers.{start_byte, request, answer, atr_req, atr_res, no_did, general_follow}
use Rattle.dep_pdu.specs.Spelling.{LeftOpen, pp_byte, DepSpelling}
use Rattle.dep_pdu.specs.Refusal.{dep_refusal, is_pp}
use Rattle.dep_pdu.specs.Reading.{atr_frame}
use Rattle.dep_pdu.proofs.Named.{pp_of, start_of, len_of}

-- the fixed bytes are there
req_long : (s l : ℕ) (rest : List ℕ) → dep_refusal (s ∷ l ∷ request ∷ atr_req ∷ rest) ≡ None → 14 ≤ length rest
req_long s l rest h = grind (arith, common_steps)

res_long : (s l : ℕ) (rest : List ℕ) → dep_refusal (s ∷ l ∷ answer ∷ atr_res ∷ rest) ≡ None → 15 ≤ length rest
res_long s l rest h = grind (arith, common_steps)

-- what holds of every fourteen bytes and what follows them holds of a list of at least fourteen
fourteen : (P : List ℕ → Type 0) → ((a b c d e f g h i j k m n o : ℕ) (more : List ℕ) → P (a ∷ b ∷ c ∷ d ∷ e ∷ f ∷ g ∷ h ∷ i ∷ j ∷ k ∷ m ∷ n ∷ o ∷ more)) → (rest : List ℕ) → 14 ≤ length rest → P rest
fourteen P p (a ∷ b ∷ c ∷ d ∷ e ∷ f ∷ g ∷ h ∷ i ∷ j ∷ k ∷ m ∷ n ∷ o ∷ more) l = p a b c d e f g h i j k m n o more
fourteen P p _ l = absurd (omega (arith, l))

open_by : ℕ → ℕ → ℕ → LeftOpen
open_by bs br pp = record { bs = bs; br = br; marked = pp % 16 == general_follow }

req_spelled : (s l a b c d e f g h i j did bs br pp : ℕ) (general : List ℕ)
    → dep_refusal (s ∷ l ∷ request ∷ atr_req ∷ a ∷ b ∷ c ∷ d ∷ e ∷ f ∷ g ∷ h ∷ i ∷ j ∷ did ∷ bs ∷ br ∷ pp ∷ general) ≡ None
    → DepSpelling (AtrReq (a ∷ b ∷ c ∷ d ∷ e ∷ f ∷ g ∷ h ∷ i ∷ j ∷ []) (pp / 16) (record { items = general }))
    (s ∷ l ∷ request ∷ atr_req ∷ a ∷ b ∷ c ∷ d ∷ e ∷ f ∷ g ∷ h ∷ i ∷ j ∷ did ∷ bs ∷ br ∷ pp ∷ general)
unfolding open_by
req_spelled s l a b c d e f g h i j did bs br pp general clean =
    let start : s ≡ start_byte = start_of s l request atr_req (a ∷ b ∷ c ∷ d ∷ e ∷ f ∷ g ∷ h ∷ i ∷ j ∷ did ∷ bs ∷ br ∷ pp ∷ general) clean in
    let len : l ≡ length (request ∷ atr_req ∷ a ∷ b ∷ c ∷ d ∷ e ∷ f ∷ g ∷ h ∷ i ∷ j ∷ no_did ∷ bs ∷ br ∷ pp_byte (pp / 16) (pp % 16 == general_follow) ∷ general) + 1 =
    len_of s l request atr_req (a ∷ b ∷ c ∷ d ∷ e ∷ f ∷ g ∷ h ∷ i ∷ j ∷ did ∷ bs ∷ br ∷ pp ∷ general) clean in
    let none : did ≡ no_did = grind (arith, common_steps) in
    let only : is_pp pp ≡ true = grind (arith, common_steps) in
    let whole : pp ≡ pp_byte (pp / 16) (pp % 16 == general_follow) = pp_of pp only in
    record {
      range = (refl, grind (arith, common_steps), grind (arith, common_steps));
      open_bytes = open_by bs br pp;
      announced = λ (more : 0 < length general). let m : (pp % 16 == general_follow) ≡ true = grind (arith, common_steps) in m;
      bytes = cc;
    }

fifteen : (P : List ℕ → Type 0) → ((a b c d e f g h i j k m n o p : ℕ) (more : List ℕ) → P (a ∷ b ∷ c ∷ d ∷ e ∷ f ∷ g ∷ h ∷ i ∷ j ∷ k ∷ m ∷ n ∷ o ∷ p ∷ more)) → (rest : List ℕ) → 15 ≤ length rest
    → P rest
fifteen P q (a ∷ b ∷ c ∷ d ∷ e ∷ f ∷ g ∷ h ∷ i ∷ j ∷ k ∷ m ∷ n ∷ o ∷ p ∷ more) l = q a b c d e f g h i j k m n o p more
fifteen P q _ l = absurd (omega (arith, l))

res_spelled : (s l a b c d e f g h i j did bs br timeout pp : ℕ) (general : List ℕ)
    → dep_refusal (s ∷ l ∷ answer ∷ atr_res ∷ a ∷ b ∷ c ∷ d ∷ e ∷ f ∷ g ∷ h ∷ i ∷ j ∷ did ∷ bs ∷ br ∷ timeout ∷ pp ∷ general) ≡ None
    → DepSpelling (AtrRes (a ∷ b ∷ c ∷ d ∷ e ∷ f ∷ g ∷ h ∷ i ∷ j ∷ []) timeout (pp / 16) (record { items = general }))
    (s ∷ l ∷ answer ∷ atr_res ∷ a ∷ b ∷ c ∷ d ∷ e ∷ f ∷ g ∷ h ∷ i ∷ j ∷ did ∷ bs ∷ br ∷ timeout ∷ pp ∷ general)
unfolding open_by
res_spelled s l a b c d e f g h i j did bs br timeout pp general clean =
    let start : s ≡ start_byte = start_of s l answer atr_res (a ∷ b ∷ c ∷ d ∷ e ∷ f ∷ g ∷ h ∷ i ∷ j ∷ did ∷ bs ∷ br ∷ timeout ∷ pp ∷ general) clean in
    let len : l ≡ length (answer ∷ atr_res ∷ a ∷ b ∷ c ∷ d ∷ e ∷ f ∷ g ∷ h ∷ i ∷ j ∷ no_did ∷ bs ∷ br ∷ timeout ∷ pp_byte (pp / 16) (pp % 16 == general_follow) ∷ general) + 1 =
    len_of s l answer atr_res (a ∷ b ∷ c ∷ d ∷ e ∷ f ∷ g ∷ h ∷ i ∷ j ∷ did ∷ bs ∷ br ∷ timeout ∷ pp ∷ general) clean in
    let none : did ≡ no_did = grind (arith, common_steps) in
    let only : is_pp pp ≡ true = grind (arith, common_steps) in
    let whole : pp ≡ pp_byte (pp / 16) (pp % 16 == general_follow) = pp_of pp only in
    record {
      range = (refl, grind (arith, common_steps), grind (arith, common_steps));
      open_bytes = open_by bs br pp;
      announced = λ (more : 0 < length general). let m : (pp % 16 == general_follow) ≡ true = grind (arith, common_steps) in m;
      bytes = cc;
    }

-- both, by their direction
pub atr_spelled : (up : Bool) (s l : ℕ) (rest : List ℕ) → dep_refusal (s ∷ l ∷ (if up then answer else request) ∷ (if up then atr_res else atr_req) ∷ rest) ≡ None
    → DepSpelling (atr_frame up (s ∷ l ∷ (if up then answer else request) ∷ (if up then atr_res else atr_req) ∷ rest))
    (s ∷ l ∷ (if up then answer else request) ∷ (if up then atr_res else atr_req) ∷ rest)
atr_spelled false s l rest clean =
    fourteen (λ rest. dep_refusal (s ∷ l ∷ request ∷ atr_req ∷ rest) ≡ None → DepSpelling (atr_frame false (s ∷ l ∷ request ∷ atr_req ∷ rest)) (s ∷ l ∷ request ∷ atr_req ∷ rest))
    (req_spelled s l) rest (req_long s l rest clean) clean
atr_spelled true s l rest clean =
    fifteen (λ rest. dep_refusal (s ∷ l ∷ answer ∷ atr_res ∷ rest) ≡ None → DepSpelling (atr_frame true (s ∷ l ∷ answer ∷ atr_res ∷ rest)) (s ∷ l ∷ answer ∷ atr_res ∷ rest))
    (res_spelled s l) rest (res_long s l rest clean) clean
