use Rattle.std.proofs.Common.{refl}
use Rattle.zevlodek_c.proofs.Chunks.{behind_key}
use Rattle.zevlodek_c.proofs.payloads.offer_of.Goals as goal

-- src/payloads.rt:30:25
pub returns-in_err-value-clause-none : goal.returns-in_err-value-clause-none
returns-in_err-value-clause-none c e o rest s =
    c.in_err-value.ensures.none refl o.value rest s.value_fits
    (behind_key c.args.offers.now c.in_ok-key.key.now c.in_ok-key.rest.now o rest c.in_ok-key.ensures.some.0 s)
