use Rattle.std.proofs.Common.{rules, ◌≡◌, ◌<◌, ◌+◌, List, [], ◌∷◌, ◌++◌, length, ◌∙◌, ap, arith}
use Rattle.std.proofs.lemmas.List.{length-append}
use Rattle.snep_core.specs.Session.{Session, fresh_session}
use Rattle.snep_core.specs.Server.{padded}
use Rattle.llcp_pdu.specs.Wire.{sap_count}
use Rattle.snep_core.proofs.sessions.Sessions.{padded_more}
use Rattle.snep_core.proofs.server.make_room.Goals as goal

pub loop-alloc-preserved : goal.loop-alloc-preserved
loop-alloc-preserved c =
    let before : List Session = c.loop-alloc.sessions.items in
    let pushed : c.push.new.self.items ≡ before ++ c.new.result ∷ [] = search rules in
    let items : c.push.new.self.items ≡ before ++ fresh_session ∷ [] = pushed ∙ ap (λ x. before ++ x ∷ []) c.new.ensures in
    let short : length before < sap_count = search rules in
    let long : length c.push.new.self.items ≡ length before + 1 = ap length items ∙ length-append before (fresh_session ∷ []) in
    record {
      same = ap padded items ∙ padded_more before short ∙ c.loop-alloc.invariant.same;
      few = omega (arith, long, short);
    }
