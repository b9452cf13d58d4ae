use Rattle.std.proofs.Common.{rules, ◌≡◌, ◌≤◌, Ok, ap, subst, sym, ◌∙◌}
use Rattle.tlv_area.specs.declared.container.T5Container.TheVariants.{Ready}
use Rattle.tlv_area.specs.declared.space.Space.{Space}
use Rattle.tlv_area.specs.Containers.{t5_front}
use Rattle.zevlodek_c.proofs.NamedAreas.{Begins, area_begins, area_is}
use Rattle.zevlodek_c.proofs.dumps.area_t5.Goals as goal

-- src/dumps.rt:83:1
pub returns-in-Ok-Ready-clause-area : goal.returns-in-Ok-Ready-clause-area
returns-in-Ok-Ready-clause-area c =
    let front : t5_front c.args.memory.now ≡ Ok (Ready c.in-Ok-Ready.space c.in-Ok-Ready.wide c.in-Ok-Ready.field-0-2) =
    sym c.in-Ok-Ready.ensures.exact ∙ ap (λ x. Ok x) c.in-Ok-Ready.field-0-is in
    ap (λ (s : Space). Ok s) (c.reach.ensures c.in-Ok-Ready.field-0-2)
    ∙ sym (area_is c.args.size c.args.memory.now c.in-Ok-Ready.space c.in-Ok-Ready.wide c.in-Ok-Ready.field-0-2 front)

-- src/dumps.rt:83:1
pub returns-in-Ok-Ready-clause-begins : goal.returns-in-Ok-Ready-clause-begins
returns-in-Ok-Ready-clause-begins c =
    let front : t5_front c.args.memory.now ≡ Ok (Ready c.in-Ok-Ready.space c.in-Ok-Ready.wide c.in-Ok-Ready.field-0-2) =
    sym c.in-Ok-Ready.ensures.exact ∙ ap (λ x. Ok x) c.in-Ok-Ready.field-0-is in
    let some : 1 ≤ c.args.size = search rules in
    let begins : Begins c.args.memory.now c.reach.result =
    subst (λ (s : Space). Begins c.args.memory.now s) (sym (c.reach.ensures c.in-Ok-Ready.field-0-2))
    (area_begins c.args.size c.args.memory.now c.in-Ok-Ready.space c.in-Ok-Ready.wide c.in-Ok-Ready.field-0-2 some front) in
    (begins.area, begins.low)
