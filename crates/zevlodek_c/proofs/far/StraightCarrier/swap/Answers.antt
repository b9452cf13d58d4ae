use Rattle.std.proofs.Common.{[], ◌∷◌, inr, refl, sym, subst}
use Rattle.nfc_base.specs.declared.carrier.LinkEnd.{LinkEnd}
use Rattle.nfc_base.specs.Links.{Stopped, AskedBy}
use Rattle.zevlodek_c.proofs.far.StraightCarrier.swap.Goals as goal

pub returns-in-Err-clause-failed : goal.returns-in-Err-clause-failed
returns-in-Err-clause-failed g c = λ none.
    let P : LinkEnd → Type 0 = λ e. AskedBy e.answered e.cause c.args.out.now (Stopped c.args.out.now ∷ []) in
    record {
      did = Stopped c.args.out.now ∷ [];
      link = tt;
      far_moved = (c.in-Err.ensures.err.0, refl);
      tells = subst P (sym c.end-in-Err.ensures.told) (inr (refl, refl));
    }
