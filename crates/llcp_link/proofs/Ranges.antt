-- What CONNECT and CC say is in range.
use Rattle.std.proofs.Common.{◌≡◌, ◌<◌, ℕ, List, [], ◌∷◌, Option, Some, None, sym, subst, IfSome}
use Rattle.llcp_pdu.specs.declared.param.Param.{Param}
use Rattle.llcp_pdu.specs.declared.param.Param.TheVariants.{Version, Miux, Wks, Lto, Rw, Sn, Opt, SdReq, SdRes}
use Rattle.llcp_pdu.specs.Params.{later, last_of, miux_in, rw_in}
use Rattle.llcp_pdu.specs.Ranges.{IsParam, AreParams}
use Rattle.llcp_pdu.specs.Wire.{miux_end, rw_end}

abbrev pub IsBelow : ℕ → Option ℕ → Type 0
IsBelow end o = IfSome o (λ n. n < end)

later_below : (end : ℕ) (o p : Option ℕ) → IsBelow end o → IsBelow end p → IsBelow end (later o p)
later_below end None p h k = k
later_below end (Some n) p h k = h

one_miux : (p : Param) → IsParam p → IsBelow miux_end (miux_in p)
one_miux (Miux n) h = h
one_miux (Version x) h = tt
one_miux (Wks x) h = tt
one_miux (Lto x) h = tt
one_miux (Rw x) h = tt
one_miux (Sn x) h = tt
one_miux (Opt x) h = tt
one_miux (SdReq x y) h = tt
one_miux (SdRes x y) h = tt

one_rw : (p : Param) → IsParam p → IsBelow rw_end (rw_in p)
one_rw (Rw n) h = h
one_rw (Version x) h = tt
one_rw (Wks x) h = tt
one_rw (Lto x) h = tt
one_rw (Miux x) h = tt
one_rw (Sn x) h = tt
one_rw (Opt x) h = tt
one_rw (SdReq x y) h = tt
one_rw (SdRes x y) h = tt

all_below : (end : ℕ) (pick : Param → Option ℕ) → ((p : Param) → IsParam p → IsBelow end (pick p)) → (ps : List Param) → AreParams ps → IsBelow end (last_of pick ps)
all_below end pick f [] h = tt
all_below end pick f (p ∷ ps) h = later_below end (last_of pick ps) (pick p) (all_below end pick f ps h.1) (f p h.0)

pub miux_below : (ps : List Param) (o : Option ℕ) → AreParams ps → o ≡ last_of miux_in ps → IsBelow miux_end o
miux_below ps o h e = subst (IsBelow miux_end) (sym e) (all_below miux_end miux_in one_miux ps h)

pub rw_below : (ps : List Param) (o : Option ℕ) → AreParams ps → o ≡ last_of rw_in ps → IsBelow rw_end o
rw_below ps o h e = subst (IsBelow rw_end) (sym e) (all_below rw_end rw_in one_rw ps h)
