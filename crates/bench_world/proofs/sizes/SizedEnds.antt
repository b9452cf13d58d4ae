-- No general bytes say an MIU that is too long for a payload.
use Rattle.std.proofs.Common.{◌≤◌, ◌<◌, ◌+◌, ◌*◌, ◌/◌, ◌%◌, ◌==◌, nat_lt, ℕ, zero, suc, Bool, true, false, List, [], ◌∷◌, length, take, Option, Some, None, Result, Ok, Err, if◌then◌else◌, arith}
use Rattle.std.proofs.Common.{unwrap_or}
use Rattle.std.specs.Prelude.{IfSome}
use Rattle.llcp_pdu.specs.declared.param.Param.{Param}
use Rattle.llcp_pdu.specs.declared.param.Param.TheVariants.{Version, Miux, Wks, Lto, Rw, Opt, SdReq, SdRes}
use Rattle.llcp_pdu.specs.General.{general, miu_by, said, said_behind, spoken, unmasked}
use Rattle.llcp_pdu.specs.Params.{begun, is_known, last_of, later, miux_in, one, param, params, taken, two, version_in, wks_in}
use Rattle.llcp_pdu.specs.Reading.{onto}
use Rattle.llcp_pdu.specs.Wire.{least_miu, magic_length, major, miux_end}
use Rattle.llcp_link.specs.State.{miu_said}
use Rattle.llcp_link.proofs.Ranged.{either}
use Rattle.bench_world.specs.Cutting.{IsShort}

-- a MIUX is less than 2,048
abbrev pub IsLess : ℕ → Type 0
IsLess n = n < miux_end

abbrev IsSmall : Param → Type 0
IsSmall p = IfSome (miux_in p) IsLess

one_small : (f : ℕ → Param) → ((x : ℕ) → IsSmall (f x)) → (v : List ℕ) → IfSome (one f v) IsSmall
one_small f h [] = tt
one_small f h (x ∷ []) = h x
one_small f h (x ∷ y ∷ v) = tt

two_small : (f : ℕ → ℕ → Param) → ((x y : ℕ) → IsSmall (f x y)) → (v : List ℕ) → IfSome (two f v) IsSmall
two_small f h [] = tt
two_small f h (x ∷ []) = tt
two_small f h (x ∷ y ∷ []) = h x y
two_small f h (x ∷ y ∷ z ∷ v) = tt

begun_small : (v : List ℕ) → IfSome (begun SdReq v) IsSmall
begun_small [] = tt
begun_small (x ∷ v) = tt

if_small : (b : Bool) (x y : Option Param) → IfSome x IsSmall → IfSome y IsSmall → IfSome (if b then x else y) IsSmall
if_small true x y h k = h
if_small false x y h k = k

param_small : (k : ℕ) (v : List ℕ) → IfSome (param k v) IsSmall
param_small k v =
    if_small (k == 1) _ _ (one_small Version (λ x. tt) v)
    (if_small (k == 2) _ _ (two_small (λ h l. Miux ((256 * h + l) % 2048)) (λ h l. omega arith) v)
    (if_small (k == 3) _ _ (two_small (λ h l. Wks (256 * h + l)) (λ h l. tt) v)
    (if_small (k == 4) _ _ (one_small Lto (λ x. tt) v)
    (if_small (k == 5) _ _ (one_small (λ x. Rw (x % 16)) (λ x. tt) v)
    (if_small (k == 6) _ _ tt
    (if_small (k == 7) _ _ (one_small Opt (λ x. tt) v)
    (if_small (k == 8) _ _ (begun_small v)
    (if_small (k == 9) _ _ (two_small SdRes (λ x y. tt) v) tt))))))))

-- so are all of a list that could be read
abbrev pub AllSmall : {E : Type 0} → Result (List Param) E → Type 0
AllSmall (Err e) = Unit {0}
AllSmall (Ok ps) = IfSome (last_of miux_in ps) IsLess

later_less : (a b : Option ℕ) → IfSome a IsLess → IfSome b IsLess → IfSome (later a b) IsLess
later_less None b h k = k
later_less (Some x) b h k = h

onto_small : (p : Param) (r : Result (List Param) _) → IsSmall p → AllSmall r → AllSmall (onto p r)
onto_small p (Err e) h k = tt
onto_small p (Ok ps) h k = later_less (last_of miux_in ps) (miux_in p) k h

taken_small : (o : Option Param) (known : Bool) (at : ℕ) (r : Result (List Param) _) → IfSome o IsSmall → AllSmall r → AllSmall (taken o known at r)
taken_small (Some p) known at r h k = onto_small p r h k
taken_small None true at r h k = tt
taken_small None false at r h k = k

pub params_small : (xs : List ℕ) (m at : ℕ) → AllSmall (params xs m at)
params_small [] zero at = tt
params_small [] (suc m) at = tt
params_small (k ∷ []) zero at = tt
params_small (k ∷ n ∷ rest) zero at =
    either (λ r. AllSmall r) (nat_lt (length rest) n) _ (taken (param k (take n rest)) (is_known k) at (params rest n (at + 2))) (λ e. tt)
    (λ e. taken_small (param k (take n rest)) (is_known k) at (params rest n (at + 2)) (param_small k (take n rest)) (params_small rest n (at + 2)))
params_small (k ∷ rest) (suc m) at = params_small rest m (at + 1)

-- what they say in all
miu_fits : (o : Option ℕ) → IfSome o IsLess → IsShort (miu_by least_miu o)
miu_fits None h = omega arith
miu_fits (Some n) h = omega arith

spoken_fits : (v : Option ℕ) (miu wks : ℕ) → IsShort miu → IsShort (miu_said (spoken v miu wks))
spoken_fits None miu wks h = omega arith
spoken_fits (Some v) miu wks h = either (λ r. IsShort (miu_said r)) (v / 16 == major) _ _ (λ e. h) (λ e. (let z : 128 ≤ 2176 = omega arith in z))

said_fits : (r : Result (List Param) _) → AllSmall r → IsShort (miu_said (said r))
said_fits (Err e) h = omega arith
said_fits (Ok ps) h = spoken_fits (last_of version_in ps) (miu_by least_miu (last_of miux_in ps)) (unwrap_or (last_of wks_in ps) 0) (miu_fits (last_of miux_in ps) h)

behind_fits : (o : Option (List ℕ)) → IsShort (miu_said (said_behind o))
behind_fits None = omega arith
behind_fits (Some rest) = said_fits (params rest 0 magic_length) (params_small rest 0 magic_length)

pub general_fits : (b : List ℕ) → IsShort (miu_said (general b))
general_fits b = behind_fits (unmasked b)
