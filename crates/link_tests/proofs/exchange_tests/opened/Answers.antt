use Rattle.std.proofs.Common.{true, ap}
use Rattle.dep_link.specs.DepLinks.{over_at}
use Rattle.dep_link.specs.Initiator.{InitState}
use Rattle.dep_link.specs.laws.Peering.{activated_in_step}
use Rattle.link_tests.specs.contracts.phone.PhoneListener.TheImpl.{ghosts}
use Rattle.link_tests.proofs.exchange_tests.opened.Goals as goal

pub returns : goal.returns
returns c =
    let a = (c.in_ok-initiator.ensures.ends (c.requires _)).2 in
    record {
      in_step = activated_in_step ghosts (λ l. l.target) c.activate.new.field _ c.in_ok-initiator.initiator c.in_ok-initiator._general.items a;
      going = ap (λ (i : InitState). over_at i.phase true) a.initiator;
    }
