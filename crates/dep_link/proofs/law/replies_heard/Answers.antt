use Rattle.dep_link.proofs.Replies.{heard_replies}
use Rattle.dep_link.proofs.law.replies_heard.Goals as goal

pub returns : goal.returns
returns c = heard_replies
