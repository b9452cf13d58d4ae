-- Rows of the table that don't stand.
use Rattle.std.proofs.Common.{◌≡◌, ℕ, ◌≤◌, nat_lt, List, [], ◌∷◌, Bool, true, false, Option, Some, None, Result, Ok, Err, if◌then◌else◌, ap, sym, ◌∙◌, arith}
use Rattle.dep_pdu.specs.declared.frame.DepFrame.{DepFrame}
use Rattle.dep_pdu.specs.declared.refusal.DepRefusal.{DepRefusal}
use Rattle.dep_pdu.specs.declared.refusal.DepKind.{DepKind}
use Rattle.dep_pdu.specs.declared.refusal.DepKind.TheVariants.{Short, Command}
use Rattle.dep_pdu.specs.Refusal.{Fault, fault, first}
use Rattle.dep_pdu.specs.Reading.{Tells, told, unless}

pub not_below : (n k : ℕ) → k ≤ n → nat_lt n k ≡ false
not_below n k h = grind arith

-- a row that doesn't stand is passed over
pub passed_over : (stands : Bool) (place : ℕ) (kind : DepKind) (fs : List Fault) → stands ≡ false → first (fault stands place kind ∷ fs) ≡ first fs
passed_over stands place kind fs h = ap (λ (s : Bool). if s then Some (record { place = place; kind = kind }) else first fs) h

-- where the direction and command bytes are there and name no frame, no row behind Command is looked at
pub unnamed : (r : Result DepFrame DepRefusal) (n : ℕ) (direction last : Fault) → 4 ≤ n
    → Tells r (direction ∷ fault true 3 Command ∷ []) None
    → Tells r (fault (nat_lt n 4) n Short ∷ direction ∷ fault true 3 Command ∷ last ∷ []) None
unnamed (Ok v) n direction last h t =
    (passed_over (nat_lt n 4) n Short (direction ∷ fault true 3 Command ∷ last ∷ []) (not_below n 4 h) ∙ t.0, t.1)
unnamed (Err e) n direction last h t =
    passed_over (nat_lt n 4) n Short (direction ∷ fault true 3 Command ∷ last ∷ []) (not_below n 4 h) ∙ t

-- the value that a result tells
pub told_by : (r : Result DepFrame DepRefusal) (fs : List Fault) (o : Option DepFrame) → Tells r fs o → told r ≡ unless (first fs) o
told_by (Ok v) fs o t = sym (ap (λ f. unless f o) t.0 ∙ t.1)
told_by (Err e) fs o t = sym (ap (λ f. unless f o) t)
