use Rattle.snep_core.proofs.accord.Ends.{begun_accords}
use Rattle.snep_core.proofs.client.Client.new.Goals as goal

pub returns-clause-accords : goal.returns-clause-accords
returns-clause-accords c = λ peer h. begun_accords c.args.llc peer h
