use Rattle.tlv_area.proofs.OneForm.{one_layout}
use Rattle.tlv_area.proofs.OneNext.{one_form}
use Rattle.tlv_area.proofs.Cuts.{told}
use Rattle.tlv_area.proofs.form.one_form.Goals as goal

pub returns-clause-some : goal.returns-clause-some
returns-clause-some c = told c.args.space.now c.args.memory.now c.find_message.result (c.find_message.ensures.form c.requires.whole)

pub returns-clause-one : goal.returns-clause-one
returns-clause-one c = one_form c.args.space.now c.args.memory.now c.requires.area.order

pub returns-clause-layout : goal.returns-clause-layout
returns-clause-layout c = one_layout c.args.space.now c.args.memory.now c.requires.area.order
