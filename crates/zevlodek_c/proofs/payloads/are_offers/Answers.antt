use Rattle.std.proofs.Common.{rules, ◌∷◌}
use Rattle.snep_core.specs.Session.{Offer}
use Rattle.zevlodek_c.specs.Peer.{AreOffers, SpellsOffer}
use Rattle.zevlodek_c.proofs.Chains.{IsLeft, left_behind, none_begins}
use Rattle.zevlodek_c.proofs.Chunks.{less_offer, one_offer}
use Rattle.zevlodek_c.proofs.payloads.are_offers.Goals as goal

-- src/payloads.rt:57:13
pub returns-in_default-clause-no : goal.returns-in_default-clause-no
returns-in_default-clause-no c e offers =
    let left : AreOffers c.loop-rest.rest.now = c.loop-rest.invariant.left offers in
    none_begins SpellsOffer c.loop-rest.rest.now (c.in_default.ensures.none (search rules)) (search rules) left.0 left.1

-- src/payloads.rt:55:5
pub loop-rest-preserved : goal.loop-rest-preserved
loop-rest-preserved c =
    let o : Offer = record { key = c.in-Some.field-0-0.now; value = c.in-Some.field-0-1.now } in
    record {
      whole = λ offers. c.loop-rest.invariant.whole (o ∷ offers.0, (c.in-Some.left.now, c.in-Some.ensures.some, offers.1));
      left = λ offers.
          let all : AreOffers c.loop-rest.rest.now = c.loop-rest.invariant.left offers in
          let more : IsLeft SpellsOffer o c.in-Some.left.now all.0 =
          left_behind SpellsOffer less_offer one_offer o c.loop-rest.rest.now c.in-Some.left.now c.in-Some.ensures.some all.0 all.1 in
          (more.more, more.spelled);
    }
