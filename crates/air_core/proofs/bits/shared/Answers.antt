use Rattle.std.proofs.Common.{◌≡◌, ◌<◌, List, take, get_or, Bool, false, sym, ◌∙◌, arith}
use Rattle.std.proofs.lemmas.Grind.{common_steps}
use Rattle.air_core.specs.Joint.{common}
use Rattle.nfc_base.specs.Bits.{bits_of}
use Rattle.nfc_base.proofs.Packing.{length_of_bits}
use Rattle.air_core.proofs.FirstBits.{shared_more, shared_end}
use Rattle.air_core.proofs.bits.shared.Goals as goal

pub loop-k-preserved : goal.loop-k-preserved
loop-k-preserved c =
    let u : List Bool = bits_of c.args.a.now in
    let w : List Bool = bits_of c.args.b.now in
    let kn : c.loop-k.k < c.args.n = omega arith in
    let km : c.loop-k.k < c.args.m = omega arith in
    let e : get_or u c.loop-k.k false ≡ get_or w c.loop-k.k false = sym c.bit.ensures ∙ grind (arith, common_steps) ∙ c.bit-in-loop-k.ensures in
    record {
      n = omega arith;
      m = omega arith;
      same = shared_more (common (take c.args.n u) (take c.args.m w)) u w c.args.n c.args.m c.loop-k.k (omega (arith, length_of_bits c.args.a.now, c.requires.a))
          (omega (arith, length_of_bits c.args.b.now, c.requires.b)) kn km e c.loop-k.invariant.same;
    }

pub returns-else-k-m-clause-common : goal.returns-else-k-m-clause-common
returns-else-k-m-clause-common c =
    let u : List Bool = bits_of c.args.a.now in
    let w : List Bool = bits_of c.args.b.now in
    shared_end (common (take c.args.n u) (take c.args.m w)) u w c.args.n c.args.m c.loop-k.k (omega (arith, length_of_bits c.args.a.now, c.requires.a))
    (omega (arith, length_of_bits c.args.b.now, c.requires.b))
    (λ h k e. grind (arith, common_steps)) c.loop-k.invariant.same

pub returns-then-bit-clause-common : goal.returns-then-bit-clause-common
returns-then-bit-clause-common c =
    let u : List Bool = bits_of c.args.a.now in
    let w : List Bool = bits_of c.args.b.now in
    shared_end (common (take c.args.n u) (take c.args.m w)) u w c.args.n c.args.m c.loop-k.k (omega (arith, length_of_bits c.args.a.now, c.requires.a))
    (omega (arith, length_of_bits c.args.b.now, c.requires.b))
    (λ h k e. grind (arith, common_steps)) c.loop-k.invariant.same
