-- What is read of a whole, by what was read of its front.
use Rattle.std.proofs.Common.{◌≡◌, List, [], Result, Ok, Err, ◌∙◌, sym, ap}
use Rattle.llcp_pdu.specs.declared.fault.Refusal.{Refusal}
use Rattle.llcp_pdu.specs.Reading.{gives}
use Rattle.llcp_pdu.proofs.ParamLaws.{before}
use Rattle.llcp_pdu.proofs.ParamLaws.{before_err, before_end}

-- a refusal behind what was read is that of the whole
pub whole_refusal : {A : Type 0} (xs : List A) (whole rest : Result (List A) Refusal) (r : Refusal) → whole ≡ before xs rest → rest ≡ Err r → whole ≡ Err r
whole_refusal xs whole rest r e i = e ∙ ap (before xs) i ∙ before_err xs r

-- where nothing is left, all was read
pub whole_read : {A : Type 0} (xs : List A) (whole rest : Result (List A) Refusal) → whole ≡ before xs rest → rest ≡ Ok [] → whole ≡ Ok xs
whole_read xs whole rest e i = e ∙ ap (before xs) i ∙ before_end xs

-- a refusal that a check passes on
pub passes : {A : Type 0} (result : Result (Unit {0}) Refusal) (r : Refusal) (x : A) (whole : Result A Refusal) → result ≡ Err r → whole ≡ Err r → gives result (λ _. x) ≡ whole
passes result r x whole e i = ap (λ z. gives z (λ _. x)) e ∙ sym i
