use Rattle.std.proofs.Common.{rules, [], ◌∷◌, inr, refl, sym, subst}
use Rattle.nfc_base.specs.declared.carrier.LinkEnd.{LinkEnd}
use Rattle.nfc_base.specs.Links.{Stepped, Stopped, AskedBy}
use Rattle.snep_tests.proofs.ends.StraightCarrier.swap.Goals as goal

pub returns-in-Err-clause-failed : goal.returns-in-Err-clause-failed
returns-in-Err-clause-failed g c = λ none.
    let P : LinkEnd → Type 0 = λ e. AskedBy e.answered e.cause c.args.out.now (Stopped c.args.out.now ∷ []) in
    record {
      did = Stopped c.args.out.now ∷ [];
      link = tt;
      far_moved = (c.in-Err.ensures.err.0, refl);
      tells = subst P (sym c.end-in-Err.ensures.told) (inr (refl, refl));
    }

pub returns-then-self-eq0-2-clause-failed : goal.returns-then-self-eq0-2-clause-failed
returns-then-self-eq0-2-clause-failed g c = λ none.
    let reply = c.answer.new.reply.items in
    let P : LinkEnd → Type 0 = λ e. AskedBy e.answered e.cause c.args.out.now (Stepped c.args.out.now reply ∷ []) in
    record {
      did = Stepped c.args.out.now reply ∷ [];
      link = tt;
      far_moved = (c.answer.new.self, (search rules), refl);
      tells = subst P (sym c.lose-then-self-eq0-2.ensures.told) (reply, refl);
    }
