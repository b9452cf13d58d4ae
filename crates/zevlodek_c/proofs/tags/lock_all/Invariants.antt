use Rattle.std.proofs.Common.{◌≡◌, drop}
use Rattle.t2t_tag.specs.Store.{block_count, locked_too}
use Rattle.zevlodek_c.specs.Tags.{locked_from}
use Rattle.zevlodek_c.proofs.tags.lock_all.Given as goal

abbrev pub invariant-loop-block : goal.invariant-loop-block
invariant-loop-block l = record {
  goes : locked_from locked_too l.tag l.block (drop l.block l.locks) ≡ locked_from locked_too l.fn.tag 0 l.locks;
  blocks : block_count l.tag.store ≡ block_count l.fn.tag.store;
}
