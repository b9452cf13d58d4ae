use Rattle.std.proofs.Common.{rules, ◌≡◌, ℕ, List, [], ap, sym, ◌∙◌}
use Rattle.llcp_link.specs.Taking.{taken_from}
use Rattle.llcp_link.specs.Giving.{after_giving}
use Rattle.snep_core.specs.Server.{serving}
use Rattle.zevlodek_c.specs.Peer.{Answered, SpellsPayload, SpellsPayloads, answered_all, answered_one, unasked}
use Rattle.zevlodek_c.proofs.Chains.{IsLeft, left_behind, none_begins, nothing_left}
use Rattle.zevlodek_c.proofs.Chunks.{less_payload, one_payload}
use Rattle.zevlodek_c.proofs.peer.answer_all.Goals as goal

-- src/peer.rt:136:13
pub unreachable-requires : goal.unreachable-requires
unreachable-requires c =
    let now : Answered = record { end = c.loop-rest.end; reply = c.loop-rest.reply.items } in
    let left : (more : List (List ℕ)) × SpellsPayloads more c.loop-rest.rest.now × (answered_all (unasked c.args.end) c.requires.0 ≡ answered_all now more)
    = c.loop-rest.invariant.goes c.requires.0 c.requires.1 in
    none_begins SpellsPayload c.loop-rest.rest.now (c.in_default.ensures.none (search rules)) (search rules) left.0 left.1

-- src/peer.rt:134:5
pub loop-rest-preserved : goal.loop-rest-preserved
loop-rest-preserved c =
    let old : Answered = record { end = c.loop-rest.end; reply = c.loop-rest.reply.items } in
    let new : Answered = record { end = c.answer.new.self; reply = c.answer.new.reply.items } in
    let p : List ℕ = c.in-Some.payload.now in
    let step : new ≡ answered_one old p =
    ap (λ e. record { end = e; reply = c.answer.new.reply.items }) c.in_ok-answer.ensures.ok.0.gives.left
    ∙ ap (λ (r : List ℕ). record { end = after_giving serving 0 (taken_from serving c.loop-rest.end p); reply = r }) c.in_ok-answer.ensures.ok.0.gives.bytes_are in
    record {
      goes = λ ps s.
          let all : (more : List (List ℕ)) × SpellsPayloads more c.loop-rest.rest.now × (answered_all (unasked c.args.end) ps ≡ answered_all old more)
          = c.loop-rest.invariant.goes ps s in
          let left : IsLeft SpellsPayload p c.in-Some.left.now all.0 =
          left_behind SpellsPayload less_payload one_payload p c.loop-rest.rest.now c.in-Some.left.now c.in-Some.ensures.some all.0 all.1 in
          (left.more, left.spelled, all.2 ∙ (ap (λ (xs : List (List ℕ)). answered_all old xs) left.all_are ∙ ap (λ (a : Answered). answered_all a left.more) (sym step)));
    }

-- src/peer.rt:124:1
pub returns : goal.returns
returns c = λ ps s.
    let now : Answered = record { end = c.loop-rest.end; reply = c.loop-rest.reply.items } in
    let all : (more : List (List ℕ)) × SpellsPayloads more c.loop-rest.rest.now × (answered_all (unasked c.args.end) ps ≡ answered_all now more)
    = c.loop-rest.invariant.goes ps s in
    let none : all.0 ≡ [] = nothing_left SpellsPayload less_payload c.loop-rest.rest.now (search rules) all.0 all.1 in
    sym (all.2 ∙ ap (λ (xs : List (List ℕ)). answered_all now xs) none)
