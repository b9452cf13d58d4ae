use Rattle.std.proofs.Common.{rules, ◌≡◌, ◌<◌, map, length, sym, ◌∙◌, ap, subst}
use Rattle.std.specs.List.{All}
use Rattle.snep_core.specs.Slots.{slot_count}
use Rattle.bench_world.specs.declared.entry.Answer.TheVariants as answers
use Rattle.bench_world.specs.declared.entry.SlotDone.{SlotDone}
use Rattle.bench_world.specs.private.LinkTaken.{marked_done}
use Rattle.std.proofs.lemmas.List.{length-map}
use Rattle.bench_world.proofs.open_link.SlotsTold.{done_within, several_by_slot, written_all}
use Rattle.bench_world.proofs.told.told_of.Goals as goal

pub mark_done-requires : goal.mark_done-requires
mark_done-requires c =
    subst (All (λ (d : SlotDone). d.slot < slot_count)) (sym (c.deref_mut.ensures.value ∙ c.requires.done c.if-messages-eq1.false)) (done_within c.args.messages.now c.requires.apart)

pub returns : goal.returns
returns c =
    let marked : c.mark_done.new.done ≡ map (marked_done c.args.client.now.slots) c.args.done.items =
    c.mark_done.ensures ∙ ap (map (marked_done c.args.client.now.slots)) c.deref_mut.ensures.value in
    let all : length c.mark_done.new.done ≡ length c.args.done.items = ap length marked ∙ length-map c.args.done.items (marked_done c.args.client.now.slots) in
    let many : c.args.done.len ≡ length c.args.done.items = search rules in
    let told : c.new.result ≡ c.mark_done.new.done = c.new.ensures ∙ written_all c.args.done.len c.mark_done.new.done c.args.done.items many all in
    ap answers.Puts (told ∙ marked)
    ∙ sym (several_by_slot c.args.messages.now c.args.done.items c.args.client.now.slots c.if-messages-eq1.false (c.requires.done c.if-messages-eq1.false))
