use Rattle.std.proofs.Common.{rules, List, [], ◌++◌, refl, subst, sym, append-nil}
use Rattle.tag_steps.specs.declared.turn.Turn.{Turn}
use Rattle.zevlodek_c.specs.Log.{SpellsTurns}
use Rattle.zevlodek_c.proofs.Spelled.{read_more, left_over, none_in_rest, no_bytes, some_bytes}
use Rattle.zevlodek_c.proofs.log.turns_of.Goals as goal

-- src/log.rt:57:13
pub returns-in_default-clause-bad : goal.returns-in_default-clause-bad
returns-in_default-clause-bad c e turns s =
    let left : (more : List Turn) × SpellsTurns c.args.tech more c.loop-rest.rest.now = c.loop-rest.invariant.over turns s in
    none_in_rest c.args.tech c.loop-rest.rest.now (c.in_default.ensures.none refl) left.0 (some_bytes c.loop-rest.rest.now (search rules)) left.1

-- src/log.rt:55:5
pub loop-rest-preserved : goal.loop-rest-preserved
loop-rest-preserved c = record {
  whole = λ ts more.
      subst (λ (all : List Turn). SpellsTurns c.args.tech (all ++ ts) c.args.log.now) (sym (search rules))
      (read_more c.args.tech c.loop-rest.turns.items c.in-Some.turn c.args.log.now c.loop-rest.rest.now c.in-Some.left.now c.in-Some.ensures.some c.loop-rest.invariant.whole ts more);
  over = λ ts s.
      let left : (more : List Turn) × SpellsTurns c.args.tech more c.loop-rest.rest.now = c.loop-rest.invariant.over ts s in
      left_over c.args.tech c.in-Some.turn c.loop-rest.rest.now c.in-Some.left.now c.in-Some.ensures.some left.0 left.1;
}

-- src/log.rt:49:1
pub returns-clause-ok : goal.returns-clause-ok
returns-clause-ok c =
    subst (λ (all : List Turn). SpellsTurns c.args.tech all c.args.log.now) (append-nil c.loop-rest.turns.items)
    (c.loop-rest.invariant.whole [] (no_bytes c.loop-rest.rest.now (search rules)))
