use Rattle.std.proofs.Common.{rules, ◌≡◌, true, refl, subst, inl}
use Rattle.llcp_link.specs.Answering.{HaltsGiving}
use Rattle.llcp_link.proofs.Fronts.{front_law}
use Rattle.llcp_link.proofs.GivesAll.{halts_first}
use Rattle.llcp_link.proofs.llc.Llc.give.Goals as goal

pub returns-then-self-clause-err : goal.returns-then-self-clause-err
returns-then-self-clause-err g c =
    let m = g.S.Service.serving in
    let old = c.args.self.now in
    let stuck : old.stuck ≡ true = search rules in record {
      stuck = stuck;
      miu = refl {a = old.miu};
      window = refl {a = old.window};
      bound = refl {a = old.bound};
      halts = halts_first m old old.service (inl (inl refl));
    }

pub returns-in-Err-clause-err : goal.returns-in-Err-clause-err
returns-in-Err-clause-err g c =
    let m = g.S.Service.serving in
    let old = c.args.self.now in
    let halts : HaltsGiving m old c.give_payload.new.self.service = search rules in
    let service : c.give_payload.new.self.service ≡ c.self-2.inside.service = search rules in
    let miu : c.self-2.inside.miu ≡ old.miu = search rules in
    let window : c.self-2.inside.window ≡ old.window = search rules in
    let bound : c.self-2.inside.bound.items ≡ old.bound = search rules in record {
      stuck = refl;
      miu = miu;
      window = window;
      bound = bound;
      halts = subst (HaltsGiving m old) service halts;
    }

pub returns-then-self-clause-front : goal.returns-then-self-clause-front
returns-then-self-clause-front g c = front_law g.S.Service.serving

pub returns-in-Err-clause-front : goal.returns-in-Err-clause-front
returns-in-Err-clause-front g c = front_law g.S.Service.serving

pub returns-in-Ok-clause-front : goal.returns-in-Ok-clause-front
returns-in-Ok-clause-front g c = front_law g.S.Service.serving
