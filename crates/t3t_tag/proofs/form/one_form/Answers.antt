use Rattle.t3t_tag.proofs.Forms.{has_one_form}
use Rattle.t3t_tag.proofs.form.one_form.Goals as goal

pub returns : goal.returns
returns c = has_one_form c.args.store.now
