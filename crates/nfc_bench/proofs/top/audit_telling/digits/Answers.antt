use Rattle.std.proofs.Common.{refl, arith}
use Rattle.nfc_bench.proofs.AuditTelling.{digits_done, digits_more}
use Rattle.nfc_bench.proofs.top.audit_telling.digits.Goals as goal

pub bytes-preserved : goal.bytes-preserved
bytes-preserved c = record {
  value = digits_more c.args.bytes.now c.bytes.piece.items c.push.new.self.items c.push-in-bytes.new.self.items _ c.bytes.byte-index _ _ (omega (arith, c.bytes-test.true)) refl refl
      c.bytes.invariant.value c.push.ensures.items c.push-in-bytes.ensures.items;
  size = omega (arith, c.push.ensures.len, c.push-in-bytes.ensures.len, c.bytes.invariant.size);
}

pub returns : goal.returns
returns c = digits_done c.args.bytes.now c.bytes.piece.items _ c.bytes.byte-index (omega (arith, c.bytes-test.false)) c.bytes.invariant.value
