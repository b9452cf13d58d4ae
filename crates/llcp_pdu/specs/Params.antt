-- How parameters stand in bytes: each is a type, a length and a value (NFC Forum LLCP 1.3).
use Rattle.std.specs.Prelude.{◌≡◌, ℕ, ◌+◌, ◌*◌, ◌%◌, ◌==◌, ◌&&◌, ◌||◌, not, nat_lt, nat_le, Bool, true, false}
use Rattle.std.specs.Prelude.{if◌then◌else◌, List, [], ◌∷◌, ◌++◌, length, take, Option, Some, None, is_some, Result, Ok}
use Rattle.std.specs.Prelude.{zero, suc}
use Rattle.llcp_pdu.specs.declared.fault.PduKind.TheVariants.{Parameter}
use Rattle.llcp_pdu.specs.declared.fault.Refusal.{Refusal}
use Rattle.llcp_pdu.specs.declared.param.Param.{Param}
use Rattle.llcp_pdu.specs.declared.param.Param.TheVariants.{Version, Miux, Wks, Lto, Rw, Sn, Opt, SdReq, SdRes}
use Rattle.llcp_pdu.specs.Wire.{version_type, miux_type, wks_type, lto_type, rw_type, sn_type, opt_type, sdreq_type}
use Rattle.llcp_pdu.specs.Wire.{sdres_type, miux_end, rw_end}
use Rattle.llcp_pdu.specs.Reading.{refused, onto}

-- values of one byte, of two, and of one or more
abbrev pub one : (ℕ → Param) → List ℕ → Option Param
one f (x ∷ []) = Some (f x)
one f _ = None

abbrev pub two : (ℕ → ℕ → Param) → List ℕ → Option Param
two f (x ∷ y ∷ []) = Some (f x y)
two f _ = None

abbrev pub begun : (ℕ → List ℕ → Param) → List ℕ → Option Param
begun f [] = None
begun f (x ∷ xs) = Some (f x xs)

-- the parameter of a type and a value, where the type is known and has values of this length
abbrev pub param : ℕ → List ℕ → Option Param
param k v =
    if k == version_type then one Version v else
    (if k == miux_type then two (λ h l. Miux ((256 * h + l) % miux_end)) v else
    (if k == wks_type then two (λ h l. Wks (256 * h + l)) v else
    (if k == lto_type then one Lto v else
    (if k == rw_type then one (λ x. Rw (x % rw_end)) v else
    (if k == sn_type then Some (Sn v) else
    (if k == opt_type then one Opt v else
    (if k == sdreq_type then begun SdReq v else
    (if k == sdres_type then two SdRes v else None))))))))

abbrev pub is_known : ℕ → Bool
is_known k = nat_le version_type k && nat_le k sdres_type

-- a parameter, where it is there, in front of those behind it
abbrev pub kept : Option Param → Result (List Param) Refusal → Result (List Param) Refusal
kept None behind = behind
kept (Some p) behind = onto p behind

-- a parameter, where its type is unknown nothing, and of a known type with a value of another length a fault
abbrev pub taken : Option Param → Bool → ℕ → Result (List Param) Refusal → Result (List Param) Refusal
taken (Some p) known at behind = onto p behind
taken None true at behind = refused Parameter at
taken None false at behind = behind

-- The parameters of the bytes behind the first so many, which stand at that place. A fault is told at the type.
abbrev pub params : List ℕ → ℕ → ℕ → Result (List Param) Refusal
params [] zero at = Ok []
params [] (suc m) at = Ok []
params (k ∷ []) zero at = refused Parameter at
params (k ∷ n ∷ rest) zero at =
    if nat_lt (length rest) n then refused Parameter at
    else taken (param k (take n rest)) (is_known k) at (params rest n (at + 2))
params (k ∷ rest) (suc m) at = params rest m (at + 1)

-- a parameter at that place, and then those in the bytes behind it
abbrev pub params_first : ℕ → List ℕ → List ℕ → ℕ → Result (List Param) Refusal
params_first k v tail at = kept (param k v) (params tail 0 (at + 2 + length v))

-- a parameter as it stands in bytes, of a known type or not
pub record Tlv : Type 0 where
  pub kind : ℕ
  pub value : List ℕ

abbrev pub tlv : ℕ → List ℕ → Tlv
tlv k v = record { kind = k; value = v }

abbrev pub printed : List Tlv → List ℕ
printed [] = []
printed (t ∷ ts) = t.kind ∷ length t.value ∷ (t.value ++ printed ts)

-- its length is right where its type is known
abbrev pub is_sized : Tlv → Bool
is_sized t = is_some (param t.kind t.value) || not (is_known t.kind)

abbrev pub AllSized : List Tlv → Type 0
AllSized [] = Unit {0}
AllSized (t ∷ ts) = (is_sized t ≡ true) × AllSized ts

-- those of a known type, in order
abbrev pub known_first : Option Param → List Param → List Param
known_first None ps = ps
known_first (Some p) ps = p ∷ ps

abbrev pub known : List Tlv → List Param
known [] = []
known (t ∷ ts) = known_first (param t.kind t.value) (known ts)

-- The bytes are a list of parameters of which these are the known ones, in order.
abbrev pub ParamsSpelling : List Param → List ℕ → Type 0
ParamsSpelling ps b = (ts : List Tlv) × (AllSized ts) × (known ts ≡ ps) × (b ≡ printed ts)

-- the later of two, where both are there
abbrev pub later : {A : Type 0} → Option A → Option A → Option A
later (Some x) o = Some x
later None o = o

-- Of repeated parameters the last counts: what the last one says of which something is read.
abbrev pub last_of : {A : Type 0} → (Param → Option A) → List Param → Option A
last_of pick [] = None
last_of pick (p ∷ ps) = later (last_of pick ps) (pick p)

-- what is read of a parameter of one type
abbrev pub version_in : Param → Option ℕ
version_in (Version x) = Some x
version_in _ = None

abbrev pub miux_in : Param → Option ℕ
miux_in (Miux n) = Some n
miux_in _ = None

abbrev pub wks_in : Param → Option ℕ
wks_in (Wks n) = Some n
wks_in _ = None

abbrev pub rw_in : Param → Option ℕ
rw_in (Rw n) = Some n
rw_in _ = None

abbrev pub name_in : Param → Option (List ℕ)
name_in (Sn name) = Some name
name_in _ = None
