-- Names of services, and the parameters of CONNECT, CC and SNL (NFC Forum LLCP 1.3).
use Rattle.std.specs.Prelude.{ℕ, ◌==◌, nat_eq, Bool, List, [], ◌∷◌, ◌++◌, take, filter_map, Option, Some, None}
use Rattle.std.specs.Prelude.{unwrap_or, if◌then◌else◌, codes}
use Rattle.std.specs.Cmp.Lexicographic.{pointwise}
use Rattle.llcp_pdu.specs.declared.param.Param.{Param}
use Rattle.llcp_pdu.specs.declared.param.Param.TheVariants.{Rw, SdReq, SdRes}
use Rattle.llcp_pdu.specs.Params.{last_of, miux_in, rw_in, name_in}
use Rattle.llcp_pdu.specs.General.{miu_by, miux_of}
use Rattle.llcp_pdu.specs.Wire.{least_miu, discovery_sap}
use Rattle.llcp_link.specs.State.{Bound, Lookup}

-- the name of service discovery
abbrev pub discovery_name : List ℕ
discovery_name = codes "urn:nfc:sn:sdp"

abbrev pub is_bound : ℕ → List Bound → Bool
is_bound sap [] = Bool.false
is_bound sap (b ∷ bs) = if b.sap == sap then Bool.true else is_bound sap bs

-- the SAP that a name is bound to
abbrev pub bound_to : List ℕ → List Bound → Option ℕ
bound_to name [] = None
bound_to name (b ∷ bs) = if pointwise nat_eq b.name name then Some b.sap else bound_to name bs

abbrev pub named : Option (List ℕ) → List Bound → Option ℕ
named None bound = None
named (Some name) bound = bound_to name bound

-- the bound SAP that a CONNECT to a SAP reaches: this one, or the one of its name where it goes to service discovery
abbrev pub reached : List Bound → ℕ → Option (List ℕ) → Option ℕ
reached bound d name = if is_bound d bound then Some d else (if d == discovery_sap then named name bound else None)

abbrev pub name_of : List Param → Option (List ℕ)
name_of ps = last_of name_in ps

-- the MIU and the receive window that an end says for a connection
abbrev pub miu_of : List Param → ℕ
miu_of ps = miu_by least_miu (last_of miux_in ps)

abbrev pub rw_of : List Param → ℕ
rw_of ps = unwrap_or (last_of rw_in ps) 1

-- what an end says of itself in CONNECT and CC
abbrev pub own_params : ℕ → ℕ → List Param
own_params miu window = miux_of miu ++ (if window == 1 then [] else Rw window ∷ [])

-- the SAP that service discovery tells of a name, 0 where there is none
abbrev pub found : List Bound → List ℕ → ℕ
found bound name = if pointwise nat_eq name discovery_name then discovery_sap else unwrap_or (bound_to name bound) 0

abbrev pub answer_to : List Bound → Param → Option Param
answer_to bound (SdReq tid name) = Some (SdRes tid (found bound name))
answer_to bound _ = None

-- the answers to the first so many requests
abbrev pub answers_to : List Bound → ℕ → List Param → List Param
answers_to bound most ps = take most (filter_map (answer_to bound) ps)

-- the lookups once one of them was told; a number that nobody asked for is dropped
abbrev pub told_one : ℕ → ℕ → List Lookup → List Lookup
told_one tid sap [] = []
told_one tid sap (x ∷ xs) = if x.tid == tid then record { tid = tid; told = Some sap } ∷ xs else x ∷ told_one tid sap xs

abbrev pub lookup_told : Param → List Lookup → List Lookup
lookup_told (SdRes tid sap) xs = told_one tid sap xs
lookup_told _ xs = xs

abbrev pub lookups_told : List Param → List Lookup → List Lookup
lookups_told [] xs = xs
lookups_told (p ∷ ps) xs = lookups_told ps (lookup_told p xs)
