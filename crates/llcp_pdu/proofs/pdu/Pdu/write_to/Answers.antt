use Rattle.llcp_pdu.proofs.Written.{pdu_written, pdu_back}
use Rattle.llcp_pdu.proofs.pdu.Pdu.write_to.Goals as goal

pub returns-in_err-append_to-clause-exact : goal.returns-in_err-append_to-clause-exact
returns-in_err-append_to-clause-exact c = pdu_written c.args.self.now c.requires

pub returns-in_err-append_to-clause-back : goal.returns-in_err-append_to-clause-back
returns-in_err-append_to-clause-back c = pdu_back c.args.self.now c.requires

pub returns-clause-exact : goal.returns-clause-exact
returns-clause-exact c = pdu_written c.args.self.now c.requires

pub returns-clause-back : goal.returns-clause-back
returns-clause-back c = pdu_back c.args.self.now c.requires
