use Rattle.std.proofs.Common.{ℕ, length, ◌≡◌}
use Rattle.llcp_pdu.specs.Params.{params}
use Rattle.llcp_pdu.specs.General.{general, IsMiu}
use Rattle.llcp_pdu.proofs.GeneralLaws.{finished}
use Rattle.llcp_pdu.proofs.general.general_read.Given as goal

abbrev pub invariant-params : goal.invariant-params
invariant-params l = record {
  miu : IsMiu l.spoken.miu;
  reads : (at : ℕ) × (general l.bytes ≡ finished l.spoken (params l.rest 0 at));
}

abbrev pub decreases-params : goal.decreases-params
decreases-params l = length l.rest
