use Rattle.std.proofs.Common.{◌≡◌, ◌*◌, ◌≤◌, take, length, refl, sym, ◌∙◌, arith, Ok}
use Rattle.tag_reader.specs.declared.how.How.TheVariants.{T2}
use Rattle.tag_reader.specs.Kinds.{area_of}
use Rattle.tag_reader.proofs.Areas.{front_area}
use Rattle.tag_reader.proofs.Knowing.{due_more}
use Rattle.tag_reader.proofs.Lists.{walk_due, walk_ends}
use Rattle.tag_reader.proofs.law.count_reads.Goals as goal

pub loop-count-preserved : goal.loop-count-preserved
loop-count-preserved c =
    let area : area_of T2 16 c.args.store.now ≡ Ok c.in-Ok.space = sym (c.in-Ok.ensures.exact ∙ front_area 16 c.args.store.now (refl, c.requires)) in
    let within : 16 * c.loop-count.count ≤ length c.args.store.now = c.loop-count-test.true in
    let due = walk_due 16 c.args.store.now (take (16 * c.loop-count.count) c.args.store.now) c.in-Ok.space c.loop-count.count area within refl (c.in-More.ensures.more.0 refl) in
    record {
      some = omega arith;
      small = omega (arith, within);
      each = due_more T2 16 c.args.store.now c.loop-count.count c.loop-count.invariant.each due;
    }

pub returns-in_default-find_message : goal.returns-in_default-find_message
returns-in_default-find_message c =
    let area : area_of T2 16 c.args.store.now ≡ Ok c.in-Ok.space = sym (c.in-Ok.ensures.exact ∙ front_area 16 c.args.store.now (refl, c.requires)) in
    record {
      each = c.loop-count.invariant.each;
      no_more = walk_ends 16 c.args.store.now (take (16 * c.loop-count.count) c.args.store.now) c.in-Ok.space c.loop-count.count c.loop-count.invariant.some area refl
          (λ more. c.in_default-find_message.not-More (c.find_message.ensures.more.1 more));
    }
