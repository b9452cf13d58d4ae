use Rattle.std.proofs.Common.{subst}
use Rattle.tlv_area.specs.Walking.{Finds}
use Rattle.tlv_area.proofs.walk.find_message.Goals as goal

pub returns-clause-front : goal.returns-clause-front
returns-clause-front c more settled = let finds = subst (λ s. Finds s c.args.known.now c.find_message.result) c.new.ensures.space c.find_message.ensures.finds in finds.front more settled

pub returns-clause-settled : goal.returns-clause-settled
returns-clause-settled c more settled = let finds = subst (λ s. Finds s c.args.known.now c.find_message.result) c.new.ensures.space c.find_message.ensures.finds in finds.settled more settled
