use Rattle.std.proofs.Common.{◌≡◌, ◌-◌, ◌++◌, take, length, filter_map}
use Rattle.llcp_pdu.specs.Views.{params_in}
use Rattle.llcp_link.specs.private.Answers.{AreAnswers}
use Rattle.llcp_link.specs.Names.{answer_to}
use Rattle.llcp_link.proofs.discovery.answers_to.Given as goal

abbrev pub invariant-params : goal.invariant-params
invariant-params l = record {
  answers : l.answers.items ++ take (l.most - length l.answers.items) (filter_map (answer_to l.bound) (params_in l.param-iterator)) ≡ take l.most (filter_map (answer_to l.bound) (params_in l.params));
  all : AreAnswers l.most l.answers.items;
}
