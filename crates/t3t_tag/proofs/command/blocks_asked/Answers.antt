use Rattle.std.proofs.Common.{rules, ◌≡◌, ◌≢◌, ◌+◌, ◌*◌, ◌<◌, ◌++◌, ◌∷◌, [], length, drop, slice_index, sym, ◌∙◌, ap, arith}
use Rattle.std.proofs.lemmas.Grind.{common_steps}
use Rattle.t3t_tag.specs.Spelling.{element_code}
use Rattle.t3t_tag.specs.Reading.{blocks_named}
use Rattle.t3t_tag.proofs.Elements.{joined, one_more, no_more, asked_none}
use Rattle.t3t_tag.proofs.command.blocks_asked.Goals as goal

pub returns-then-elements-i : goal.returns-then-elements-i
returns-then-elements-i c =
    let within : 2 * c.loop-i.i + 1 < length c.args.elements.now = grind (arith, common_steps) in
    let other : slice_index c.args.elements.now (2 * c.loop-i.i) ≢ element_code = grind (arith, common_steps) in
    asked_none c.args.count c.args.elements.now (sym c.loop-i.invariant.0 ∙ no_more c.loop-i.blocks.items c.loop-i.i c.args.elements.now within other)

pub loop-i-preserved : goal.loop-i-preserved
loop-i-preserved c =
    let within : 2 * c.loop-i.i + 1 < length c.args.elements.now = grind (arith, common_steps) in
    let code : slice_index c.args.elements.now (2 * c.loop-i.i) ≡ element_code = grind (arith, common_steps) in
    let items : c.push.new.self.items ≡ c.loop-i.blocks.items ++ slice_index c.args.elements.now (2 * c.loop-i.i + 1) ∷ [] = search rules in (
      ap (λ x. joined x (blocks_named (drop (2 * (c.loop-i.i + 1)) c.args.elements.now))) items
          ∙ one_more c.loop-i.blocks.items c.loop-i.i c.args.elements.now within code
          ∙ c.loop-i.invariant.0,
      search rules,
    )
