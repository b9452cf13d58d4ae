-- What a payload is read as in place: what a view shows, where its slices stand, and what was checked of them.
use Rattle.std.specs.Prelude.{◌≡◌, List, [], ◌∷◌, ℕ, drop, min, is_ok, true, option_map, Option, None, Some, Result, Ok}
use Rattle.std.specs.Prelude.{Err}
use Rattle.llcp_pdu.specs.declared.connect.ConnectParams.{ConnectParams}
use Rattle.llcp_pdu.specs.declared.fault.PduRefusal.{PduRefusal}
use Rattle.llcp_pdu.specs.declared.fault.Refusal.{Refusal}
use Rattle.llcp_pdu.specs.declared.param.Param.{Param}
use Rattle.llcp_pdu.specs.declared.param.Param.TheVariants as param
use Rattle.llcp_pdu.specs.declared.param_walk.ParamView.{ParamView}
use Rattle.llcp_pdu.specs.declared.param_walk.ParamView.TheVariants.{Version, Miux, Wks, Lto, Rw, Sn, Opt, SdReq, SdRes}
use Rattle.llcp_pdu.specs.declared.part.Part.{Part}
use Rattle.llcp_pdu.specs.declared.part.Part.TheVariants as part
use Rattle.llcp_pdu.specs.declared.pdu.Pdu.{Pdu}
use Rattle.llcp_pdu.specs.declared.pdu.Pdu.TheVariants as pdu
use Rattle.llcp_pdu.specs.declared.pdu_view.PduView.{PduView}
use Rattle.llcp_pdu.specs.declared.pdu_view.PduView.TheVariants.{Symm, Agf, Ui, Connect, Disc, Cc, Dm, Frmr, Snl, Info}
use Rattle.llcp_pdu.specs.declared.pdu_view.PduView.TheVariants.{Rr, Rnr}
use Rattle.llcp_pdu.specs.Params.{params}
use Rattle.llcp_pdu.specs.Pdus.{inner}
use Rattle.llcp_pdu.specs.Wire.{last_place}

-- The bytes are parameters; they are PDUs of an AGF, each behind its length.
abbrev pub HoldsParams : List ℕ → Type 0
HoldsParams bytes = is_ok (params bytes 0 0) ≡ true

abbrev pub HoldsParts : List ℕ → Type 0
HoldsParts bytes = is_ok (inner bytes 0 0) ≡ true

abbrev pub items_of : {A : Type 0} → Result (List A) Refusal → List A
items_of (Ok xs) = xs
items_of (Err r) = []

-- the parameters of known types, and the PDUs, in bytes that hold such
abbrev pub params_in : List ℕ → List Param
params_in bytes = items_of (params bytes 0 0)

abbrev pub parts_in : List ℕ → List Part
parts_in bytes = items_of (inner bytes 0 0)

-- the parameter that a view of it shows
abbrev pub shown_param : ParamView → Param
shown_param (Version x) = param.Version x
shown_param (Miux n) = param.Miux n
shown_param (Wks n) = param.Wks n
shown_param (Lto x) = param.Lto x
shown_param (Rw x) = param.Rw x
shown_param (Sn name) = param.Sn name.now
shown_param (Opt x) = param.Opt x
shown_param (SdReq tid name) = param.SdReq tid name.now
shown_param (SdRes tid sap) = param.SdRes tid sap

-- the PDU that a view of it shows
abbrev pub shown : PduView → Pdu
shown Symm = pdu.One part.Symm
shown (Agf parts) = pdu.Agf (parts_in parts.now)
shown (Ui d s info) = pdu.One (part.Ui d s info.now)
shown (Connect d s ps) = pdu.One (part.Connect d s (params_in ps.now))
shown (Disc d s) = pdu.One (part.Disc d s)
shown (Cc d s ps) = pdu.One (part.Cc d s (params_in ps.now))
shown (Dm d s reason) = pdu.One (part.Dm d s reason)
shown (Frmr d s r) = pdu.One (part.Frmr d s r)
shown (Snl ps) = pdu.One (part.Snl (params_in ps.now))
shown (Info d s ns nr info) = pdu.One (part.Info d s ns nr info.now)
shown (Rr d s nr) = pdu.One (part.Rr d s nr)
shown (Rnr d s nr) = pdu.One (part.Rnr d s nr)

-- what the slices of a view must hold
abbrev pub IsChecked : PduView → Type 0
IsChecked (Agf parts) = HoldsParts parts.now
IsChecked (Connect d s ps) = HoldsParams ps.now
IsChecked (Cc d s ps) = HoldsParams ps.now
IsChecked (Snl ps) = HoldsParams ps.now
IsChecked _ = Unit {0}

-- It is no AGF.
abbrev pub IsOne : PduView → Type 0
IsOne (Agf parts) = ⊥
IsOne _ = Unit {0}

-- the name of the service that a CONNECT asks for
abbrev pub named : ConnectParams → Option (List ℕ)
named said = option_map (λ name. name.now) said.name

-- The slice of a view is what follows the header, in an I PDU what follows the byte of N(S) and N(R).
abbrev pub Stands : PduView → List ℕ → Type 0
Stands (Agf parts) rest = parts.now ≡ rest
Stands (Ui d s info) rest = info.now ≡ rest
Stands (Connect d s ps) rest = ps.now ≡ rest
Stands (Cc d s ps) rest = ps.now ≡ rest
Stands (Snl ps) rest = ps.now ≡ rest
Stands (Info d s ns nr info) rest = info.now ≡ drop 1 rest
Stands _ rest = Unit {0}

-- a view of a PDU that follows its header so, checked
pub record IsViewOf (v : PduView) (rest : List ℕ) : Type 0 where
  pub stands : Stands v rest
  pub checked : IsChecked v

-- a fault as it is told: places behind the last one that is told are told as it
abbrev pub told : Refusal → PduRefusal
told r = record { place = min r.place last_place; kind = r.kind }

-- what bytes are read as, its fault as it is told
abbrev pub refusal_told : {A : Type 0} → Result A Refusal → Result A PduRefusal
refusal_told (Ok x) = Ok x
refusal_told (Err r) = Err (told r)

-- what is shown of what was seen
abbrev pub seen : {E : Type 0} → Result PduView E → Result Pdu E
seen (Ok v) = Ok (shown v)
seen (Err e) = Err e

-- The bytes were read as this PDU.
abbrev pub Shows : Result PduView PduRefusal → Pdu → Type 0
Shows (Ok v) p = shown v ≡ p
Shows (Err e) p = ⊥

-- The view shows the first of these PDUs, of which those are left behind it, and what was checked of it.
abbrev pub IsFirst : PduView → List Part → List Part → Type 0
IsFirst v parts left = (p : Part) × (shown v ≡ pdu.One p) × (parts ≡ p ∷ left) × IsChecked v

-- The first of the PDUs in an AGF is given, or none is left now or later.
abbrev pub GivesPart : List ℕ → Option PduView → List ℕ → Type 0
GivesPart old None new = (parts_in old ≡ []) × (parts_in new ≡ [])
GivesPart old (Some v) new = IsFirst v (parts_in old) (parts_in new)
