-- What general bytes say, parameter after parameter.
use Rattle.std.proofs.Common.{◌≡◌, ℕ, List, Option, Some, None, unwrap_or, Result, Ok, Err, refl, sym, ◌∙◌, ap}
use Rattle.llcp_pdu.specs.declared.fault.Refusal.{Refusal}
use Rattle.llcp_pdu.specs.declared.general.GeneralFault.{GeneralFault}
use Rattle.llcp_pdu.specs.declared.general.GeneralFault.TheVariants.{Malformed}
use Rattle.llcp_pdu.specs.declared.general.LinkParams.{LinkParams}
use Rattle.llcp_pdu.specs.declared.general.Spoken.{Spoken}
use Rattle.llcp_pdu.specs.declared.param.Param.{Param}
use Rattle.llcp_pdu.specs.Wire.{least_miu, magic_length}
use Rattle.llcp_pdu.specs.Params.{params, kept, later, last_of, version_in, miux_in, wks_in}
use Rattle.llcp_pdu.specs.General.{miu_by, said, unmasked, said_behind, general, heard, spoken}
use Rattle.llcp_pdu.proofs.Latest.{later_none, later_joins}

-- what is said in all, where that was said so far
abbrev pub finished : Spoken → Result (List Param) Refusal → Result LinkParams GeneralFault
finished s (Err r) = Err Malformed
finished s (Ok ps) = spoken (later (last_of version_in ps) s.version) (miu_by s.miu (last_of miux_in ps)) (unwrap_or (last_of wks_in ps) s.wks)

miu_joins : (miu : ℕ) (a b : Option ℕ) → miu_by (miu_by miu b) a ≡ miu_by miu (later a b)
miu_joins miu None b = refl
miu_joins miu (Some n) b = refl

or_joins : (n : ℕ) (a b : Option ℕ) → unwrap_or a (unwrap_or b n) ≡ unwrap_or (later a b) n
or_joins n None b = refl
or_joins n (Some m) b = refl

-- where nothing was said, all that is said is in the parameters
pub finished_first : (r : Result (List Param) Refusal) → said r ≡ finished (record { version = None; miu = least_miu; wks = 0 }) r
finished_first (Err r) = refl
finished_first (Ok ps) = rw (later_none (last_of version_in ps)) refl

-- one more parameter
pub finished_more : (s : Spoken) (o : Option Param) (r : Result (List Param) Refusal) → finished s (kept o r) ≡ finished (heard s o) r
finished_more s None r = refl
finished_more s (Some p) (Err r) = refl
finished_more s (Some p) (Ok ps) =
    rw (later_joins (last_of version_in ps) (version_in p) s.version, miu_joins s.miu (last_of miux_in ps) (miux_in p), or_joins s.wks (last_of wks_in ps) (wks_in p)) refl

-- the parameters behind the magic
pub general_behind : (b rest : List ℕ) → Some rest ≡ unmasked b → general b ≡ finished (record { version = None; miu = least_miu; wks = 0 }) (params rest 0 magic_length)
general_behind b rest e = ap said_behind (sym e) ∙ finished_first (params rest 0 magic_length)

-- a parameter that is heard
pub general_more : (b xs tail : List ℕ) (s : Spoken) (o : Option Param) (place next : ℕ) → general b ≡ finished s (params xs 0 place) → params xs 0 place ≡ kept o (params tail 0 next)
    → general b ≡ finished (heard s o) (params tail 0 next)
general_more b xs tail s o place next e i = e ∙ ap (finished s) i ∙ finished_more s o (params tail 0 next)
