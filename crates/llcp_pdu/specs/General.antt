-- What general bytes say of an end (NFC Forum LLCP 1.3): three bytes of magic, and then parameters.
use Rattle.std.specs.Prelude.{◌≡◌, ◌≤◌, ◌<◌, ℕ, ◌+◌, ◌-◌, ◌/◌, ◌==◌, ◌&&◌, if◌then◌else◌, List, [], ◌∷◌, ◌++◌, Option}
use Rattle.std.specs.Prelude.{Some, None, unwrap_or, Result, Ok, Err}
use Rattle.llcp_pdu.specs.declared.fault.Refusal.{Refusal}
use Rattle.llcp_pdu.specs.declared.general.GeneralFault.{GeneralFault}
use Rattle.llcp_pdu.specs.declared.general.GeneralFault.TheVariants.{NoMagic, NoVersion, OtherMajor, Malformed}
use Rattle.llcp_pdu.specs.declared.general.LinkParams.{LinkParams}
use Rattle.llcp_pdu.specs.declared.general.Spoken.{Spoken}
use Rattle.llcp_pdu.specs.declared.param.Param.{Param}
use Rattle.llcp_pdu.specs.declared.param.Param.TheVariants.{Version, Miux, Wks}
use Rattle.llcp_pdu.specs.Wire.{magic_first, magic_second, magic_third, magic_length, magic, major, least_miu, miux_end}
use Rattle.llcp_pdu.specs.Params.{params, later, last_of, version_in, miux_in, wks_in}
use Rattle.llcp_pdu.specs.Writing.{params_bytes}

-- the MIU by a MIUX, and another one where there is none
abbrev pub miu_by : ℕ → Option ℕ → ℕ
miu_by miu None = miu
miu_by miu (Some n) = least_miu + n

-- what an end says with this version, MIU and services, where it says a version that is spoken here
abbrev pub spoken : Option ℕ → ℕ → ℕ → Result LinkParams GeneralFault
spoken None miu wks = Err NoVersion
spoken (Some v) miu wks = if v / 16 == major then Ok (record { version = v; miu = miu; wks = wks }) else Err OtherMajor

-- what it says with these parameters, of which the last counts: a MIU of 128 and no services where it doesn't say more
abbrev pub said : Result (List Param) Refusal → Result LinkParams GeneralFault
said (Err r) = Err Malformed
said (Ok ps) = spoken (last_of version_in ps) (miu_by least_miu (last_of miux_in ps)) (unwrap_or (last_of wks_in ps) 0)

-- what stands behind the magic, where it is there
abbrev pub unmasked : List ℕ → Option (List ℕ)
unmasked (a ∷ b ∷ c ∷ rest) = if (a == magic_first) && ((b == magic_second) && (c == magic_third)) then Some rest
    else None
unmasked _ = None

abbrev pub said_behind : Option (List ℕ) → Result LinkParams GeneralFault
said_behind None = Err NoMagic
said_behind (Some rest) = said (params rest 0 magic_length)

-- what general bytes say, or the first that applies: no magic, a malformed list, no version, another major version
abbrev pub general : List ℕ → Result LinkParams GeneralFault
general b = said_behind (unmasked b)

-- an MIU that can be said
abbrev pub IsMiu : ℕ → Type 0
IsMiu miu = (least_miu ≤ miu) × (miu < least_miu + miux_end)

-- the ranges of what is spoken here
pub record IsLinkParams (p : LinkParams) : Type 0 where
  pub version : p.version / 16 ≡ major
  pub miu : IsMiu p.miu

-- a MIUX where the MIU isn't the least
abbrev pub miux_of : ℕ → List Param
miux_of miu = if miu == least_miu then [] else Miux (miu - least_miu) ∷ []

abbrev pub general_bytes : LinkParams → List ℕ
general_bytes p = magic ++ params_bytes (Version p.version ∷ (miux_of p.miu ++ Wks p.wks ∷ []))

-- what is read of a parameter, where there is one
abbrev pub in_one : {A : Type 0} → (Param → Option A) → Option Param → Option A
in_one pick None = None
in_one pick (Some p) = pick p

-- what was said so far, with one more parameter
abbrev pub heard : Spoken → Option Param → Spoken
heard s o = record {
  version = later (in_one version_in o) s.version;
  miu = miu_by s.miu (in_one miux_in o);
  wks = unwrap_or (in_one wks_in o) s.wks;
}
