use Rattle.std.proofs.Common.{refl}
use Rattle.isodep_link.specs.IsoLinks.{seen_link}
use Rattle.isodep_link.proofs.IsoViews.{opens, activated_link}
use Rattle.isodep_link.proofs.link.IsoLink.activate.Goals as goal

pub returns-in-Ok : goal.returns-in-Ok
returns-in-Ok g c = (
  (cc, λ w. refl, tt),
  record {
    rests = tt;
    same = c.first.ensures.same;
    turns = opens g.L.Listener.machine c.args.field.now c.activate_card.new.field c.args.place c.in-Ok.code (seen_link c.first.result) c.first.ensures.first c.in-Ok.ensures.turns;
    ok = λ t.
        activated_link g.L.Listener g.L.CardListener.card g.L.CardListener.tag c.args.field.now c.activate_card.new.field c.args.place c.in-Ok.code (seen_link c.first.result)
        c.first.ensures.first (c.in-Ok.ensures.ends t);
  },
)
