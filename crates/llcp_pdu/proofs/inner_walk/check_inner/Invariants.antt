use Rattle.std.proofs.Common.{length, ◌≡◌, ◌+◌, List}
use Rattle.llcp_pdu.specs.declared.part.Part.{Part}
use Rattle.llcp_pdu.proofs.ParamLaws.{before}
use Rattle.llcp_pdu.specs.Pdus.{inner}
use Rattle.llcp_pdu.proofs.inner_walk.check_inner.Given as goal

abbrev pub invariant-inner : goal.invariant-inner
invariant-inner l = record {
  place : l.at + length l.rest ≡ l.start + length l.bytes;
  reads : (found : List Part) × (inner l.bytes 0 l.start ≡ before found (inner l.rest 0 l.at));
}

abbrev pub decreases-inner : goal.decreases-inner
decreases-inner l = length l.rest
