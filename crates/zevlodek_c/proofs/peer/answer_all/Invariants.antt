use Rattle.std.proofs.Common.{◌≡◌, ℕ, List, length}
use Rattle.zevlodek_c.specs.Peer.{SpellsPayloads, answered_all, unasked}
use Rattle.zevlodek_c.proofs.peer.answer_all.Given as goal

abbrev pub invariant-loop-rest : goal.invariant-loop-rest
invariant-loop-rest l = record {
  goes : (ps : List (List ℕ)) → SpellsPayloads ps l.initial.rest → (more : List (List ℕ)) × SpellsPayloads more l.rest
      × (answered_all (unasked l.fn.end) ps ≡ answered_all (record { end = l.end; reply = l.reply.items }) more);
}

abbrev pub decreases-loop-rest : goal.decreases-loop-rest
decreases-loop-rest l = length l.rest
