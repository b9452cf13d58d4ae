use Rattle.std.proofs.Common.{subst, refl}
use Rattle.std.specs.Prelude.{IfOk}
use Rattle.tlv_area.specs.Layout.{IsArea}
use Rattle.tlv_area.specs.Containers.{t2_container}
use Rattle.tlv_area.specs.Form.{Form, Faulty}
use Rattle.tlv_area.specs.Stores.{four_bytes, IsFormBy}
use Rattle.tlv_area.proofs.OneNext.{one_form_by}
use Rattle.tlv_area.proofs.form.one_form_t2.Goals as goal

pub returns-in-Err-clause-some : goal.returns-in-Err-clause-some
returns-in-Err-clause-some c = (Faulty c.in-Err._fault, subst (λ r. IsFormBy r c.args.store.now (Faulty c.in-Err._fault)) c.in-Err.ensures.exact refl)

pub returns-in-Ok-clause-some : goal.returns-in-Ok-clause-some
returns-in-Ok-clause-some c = subst (λ r. (f : Form) × IsFormBy r c.args.store.now f) c.in-Ok.ensures.exact c.one_form.ensures.some

pub returns-in-Err-clause-one : goal.returns-in-Err-clause-one
returns-in-Err-clause-one c = one_form_by (t2_container (four_bytes c.args.store.now 12)) c.args.store.now (subst (λ r. IfOk r IsArea) c.in-Err.ensures.exact tt)

pub returns-in-Ok-clause-one : goal.returns-in-Ok-clause-one
returns-in-Ok-clause-one c = one_form_by (t2_container (four_bytes c.args.store.now 12)) c.args.store.now (subst (λ r. IfOk r IsArea) c.in-Ok.ensures.exact c.in-Ok.ensures.area)
