use Rattle.std.proofs.Common.{rules, ◌≡◌, List, [], ◌∷◌, ap, sym, ◌∙◌}
use Rattle.snep_core.specs.Session.{Offer}
use Rattle.snep_core.specs.Server.{ServerState}
use Rattle.zevlodek_c.specs.Peer.{SpellsOffer, SpellsOffers, table_with}
use Rattle.zevlodek_c.proofs.Chains.{IsLeft, left_behind, none_begins, nothing_left}
use Rattle.zevlodek_c.proofs.Chunks.{less_offer, one_offer}
use Rattle.zevlodek_c.proofs.peer.offer_all.Goals as goal

-- the table that a server has once it has these offers too
offering : ServerState → List Offer → ServerState
offering s os = record s { table = table_with s.table os }

-- src/peer.rt:88:13
pub unreachable-requires : goal.unreachable-requires
unreachable-requires c =
    let left : (more : List Offer) × SpellsOffers more c.loop-rest.rest.now
    × (record c.args.server.now { table = table_with c.args.server.now.table c.requires.0 } ≡ record c.loop-rest.server { table = table_with c.loop-rest.server.table more })
    = c.loop-rest.invariant.goes c.requires.0 c.requires.1 in
    none_begins SpellsOffer c.loop-rest.rest.now (c.in_default.ensures.none (search rules)) (search rules) left.0 left.1

-- src/peer.rt:86:5
pub loop-rest-preserved : goal.loop-rest-preserved
loop-rest-preserved c = record {
  goes = λ os s.
      let o : Offer = record { key = c.in-Some.key.now; value = c.in-Some.value.now } in
      let all : (more : List Offer) × SpellsOffers more c.loop-rest.rest.now
      × (record c.args.server.now { table = table_with c.args.server.now.table os } ≡ record c.loop-rest.server { table = table_with c.loop-rest.server.table more })
      = c.loop-rest.invariant.goes os s in
      let left : IsLeft SpellsOffer o c.in-Some.left.now all.0 =
      left_behind SpellsOffer less_offer one_offer o c.loop-rest.rest.now c.in-Some.left.now c.in-Some.ensures.some all.0 all.1 in
      let offered : c.offer.new.self ≡ record c.loop-rest.server { table = table_with c.loop-rest.server.table (o ∷ []) } = search rules in (
        left.more,
        left.spelled,
        all.2 ∙ (ap (λ (xs : List Offer). record c.loop-rest.server { table = table_with c.loop-rest.server.table xs }) left.all_are
            ∙ ap (λ (server : ServerState). record server { table = table_with server.table left.more }) (sym offered)),
      );
}

-- src/peer.rt:80:1
pub returns : goal.returns
returns c = λ os s.
    let all : (more : List Offer) × SpellsOffers more c.loop-rest.rest.now
    × (record c.args.server.now { table = table_with c.args.server.now.table os } ≡ record c.loop-rest.server { table = table_with c.loop-rest.server.table more })
    = c.loop-rest.invariant.goes os s in
    let none : all.0 ≡ [] = nothing_left SpellsOffer less_offer c.loop-rest.rest.now (search rules) all.0 all.1 in
    sym (all.2 ∙ ap (λ (xs : List Offer). record c.loop-rest.server { table = table_with c.loop-rest.server.table xs }) none)
