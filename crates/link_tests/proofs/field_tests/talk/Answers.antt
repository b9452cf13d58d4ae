use Rattle.link_tests.specs.contracts.phone.PhoneListener.TheImpl.{ghosts}
use Rattle.dep_link.specs.laws.Peering.{activated_in_step}
use Rattle.link_tests.proofs.field_tests.talk.Goals as goal

pub swap-requires-clause-ready : goal.swap-requires-clause-ready
swap-requires-clause-ready g c =
    let t = c.requires _ in
    λ _. c.on-pair.ensures.ready (activated_in_step ghosts (λ l. l.target) c.activate.new.field _ c.in_ok-initiator.initiator c.in_ok-initiator.general.items (c.in_ok-initiator.ensures.ends t).2)
