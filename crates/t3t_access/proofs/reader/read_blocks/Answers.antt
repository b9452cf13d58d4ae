use Rattle.std.proofs.Common.{rules, ◌≡◌, suc, inl, ◌+◌, ◌-◌, ◌*◌, ◌<◌, ◌≤◌, ◌++◌, length, take, min, Ok, Err, refl, sym, ◌∙◌, ap, subst, arith}
use Rattle.std.proofs.lemmas.List.{length-append, take-append-le}
use Rattle.std.proofs.Math.Nat.{min-le_right}
use Rattle.t3t_access.specs.Reading.{needed, most_at_once}
use Rattle.t3t_access.proofs.Growing.{IsUnder, goes_on, stops}
use Rattle.t3t_access.proofs.Judging.{whole_of}
use Rattle.t3t_access.proofs.reader.read_blocks.Goals as goal

pub loop-taken-init : goal.loop-taken-init
loop-taken-init g c = record {
  reads = λ a r. record { number = 0; is = refl; reads = r };
  most = omega arith;
  head = ap (take 16) c.requires.begun ∙ whole_of c.args.block.now c.requires.size;
  long = ap length c.requires.begun ∙ c.requires.size;
  of = c.requires.of;
  ready = c.requires.ready;
  same = refl;
  moves = g.met.T.TagLink.stays c.args.link.now;
}

pub returns-in-Err-clause-told : goal.returns-in-Err-clause-told
returns-in-Err-clause-told g c a r =
    let less : c.loop-taken.taken < needed c.args.block.now = omega (arith, c.loop-taken-test.true, c.needed-needed.ensures.needed) in
    let count : c.min-count.result ≡ min (most_at_once c.args.block.now) (needed c.args.block.now - c.loop-taken.taken) = search rules in
    stops c.args.id a (g.T.TagLink.seen c.loop-taken.link) (g.T.TagLink.seen c.check.new.link) c.args.block.now c.loop-taken.known.items c.loop-taken.taken c.min-count.result c.in-Err.fault
    c.requires.sized c.requires.flag (c.loop-taken.invariant.reads a r) less count (λ cs h. c.in-Err.ensures.next a cs (Err c.in-Err.fault) h refl)

pub returns-in-Err-clause-moves : goal.returns-in-Err-clause-moves
returns-in-Err-clause-moves g c = g.met.T.TagLink.goes_on c.args.link.now c.loop-taken.link c.check.new.link c.loop-taken.invariant.moves c.check.ensures.moves

pub returns-then-is_err-clause-told : goal.returns-then-is_err-clause-told
returns-then-is_err-clause-told g c a r =
    let less : c.loop-taken.taken < needed c.args.block.now = omega (arith, c.loop-taken-test.true, c.needed-needed.ensures.needed) in
    let count : c.min-count.result ≡ min (most_at_once c.args.block.now) (needed c.args.block.now - c.loop-taken.taken) = search rules in
    let head : take 16 (c.loop-taken.known.items ++ c.in-Ok.content.items) ≡ c.args.block.now =
    take-append-le 16 c.loop-taken.known.items c.in-Ok.content.items (omega (arith, c.loop-taken.invariant.long)) ∙ c.loop-taken.invariant.head in
    let under : IsUnder c.args.id a (g.T.TagLink.seen c.check.new.link) c.args.block.now (c.loop-taken.known.items ++ c.in-Ok.content.items) (c.loop-taken.taken + c.min-count.result) =
    goes_on c.args.id a (g.T.TagLink.seen c.loop-taken.link) (g.T.TagLink.seen c.check.new.link) c.args.block.now c.loop-taken.known.items c.loop-taken.taken c.min-count.result c.in-Ok.content.items
    c.requires.sized c.requires.flag (c.loop-taken.invariant.reads a r) less count head (λ cs h. c.in-Ok.ensures.next a cs (Ok c.in-Ok.content.items) h refl) in
    inl (record { block = c.args.block.now; number = suc under.number; bytes = c.loop-taken.known.items ++ c.in-Ok.content.items; reads = under.reads })

pub returns-then-is_err-clause-moves : goal.returns-then-is_err-clause-moves
returns-then-is_err-clause-moves g c = g.met.T.TagLink.goes_on c.args.link.now c.loop-taken.link c.check.new.link c.loop-taken.invariant.moves c.check.ensures.moves

pub loop-taken-preserved : goal.loop-taken-preserved
loop-taken-preserved g c =
    let less : c.loop-taken.taken < needed c.args.block.now = omega (arith, c.loop-taken-test.true, c.needed-needed.ensures.needed) in
    let count : c.min-count.result ≡ min (most_at_once c.args.block.now) (needed c.args.block.now - c.loop-taken.taken) = search rules in
    let few : min (most_at_once c.args.block.now) (needed c.args.block.now - c.loop-taken.taken) ≤ needed c.args.block.now - c.loop-taken.taken =
    min-le_right (most_at_once c.args.block.now) (needed c.args.block.now - c.loop-taken.taken) in
    let items : c.extend_from_slice.new.self.items ≡ c.loop-taken.known.items ++ c.in-Ok.content.items = search rules in
    let head : take 16 (c.loop-taken.known.items ++ c.in-Ok.content.items) ≡ c.args.block.now =
    take-append-le 16 c.loop-taken.known.items c.in-Ok.content.items (omega (arith, c.loop-taken.invariant.long)) ∙ c.loop-taken.invariant.head in
    let sum : length c.extend_from_slice.new.self.items ≡ length c.loop-taken.known.items + length c.in-Ok.content.items =
    ap length items ∙ length-append c.loop-taken.known.items c.in-Ok.content.items in
    let size : length c.in-Ok.content.items ≡ 16 * c.min-count.result = c.in-Ok.ensures.size in
    record {
      reads = λ a r. subst (λ bytes. IsUnder c.args.id a (g.T.TagLink.seen c.check.new.link) c.args.block.now bytes (c.loop-taken.taken + c.min-count.result)) (sym items)
          (goes_on c.args.id a (g.T.TagLink.seen c.loop-taken.link) (g.T.TagLink.seen c.check.new.link) c.args.block.now c.loop-taken.known.items c.loop-taken.taken c.min-count.result
          c.in-Ok.content.items
          c.requires.sized c.requires.flag (c.loop-taken.invariant.reads a r) less count head (λ cs h. c.in-Ok.ensures.next a cs (Ok c.in-Ok.content.items) h refl));
      most = omega (arith, count, few, less, c.needed-needed.ensures.needed);
      head = ap (take 16) items ∙ head;
      long = omega (arith, sum, c.loop-taken.invariant.long, size);
      of = c.check.ensures.of;
      ready = c.check.ensures.ready;
      same = c.check.ensures.same ∙ c.loop-taken.invariant.same;
      moves = g.met.T.TagLink.goes_on c.args.link.now c.loop-taken.link c.check.new.link c.loop-taken.invariant.moves c.check.ensures.moves;
    }

pub returns-clause-told : goal.returns-clause-told
returns-clause-told g c a r =
    let under = c.loop-taken.invariant.reads a r in
    let all : c.loop-taken.taken ≡ needed c.args.block.now = omega (arith, c.loop-taken-test.false, c.loop-taken.invariant.most, c.needed-needed.ensures.needed) in
    record { number = under.number; reads = under.reads; whole = sym under.is ∙ all }
