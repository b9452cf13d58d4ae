use Rattle.std.proofs.Common.{ap, sym, ◌∙◌, subst, refl, length, arith}
use Rattle.std.specs.Prelude.{Ok}
use Rattle.tlv_area.specs.declared.container.ContainerFault.TheVariants.{BadSize}
use Rattle.tlv_area.specs.Layout.{IsArea}
use Rattle.tlv_area.specs.Form.{Form, Faulty, IsForm}
use Rattle.tlv_area.specs.Stores.{IsFormBy, cut, cut_by, t5_area, t5_area_by}
use Rattle.tlv_area.proofs.OneNext.{one_form_by}
use Rattle.tlv_area.proofs.FrontContainers.{front_ready, front_fault, front_more, area_of_five, ready_area}
use Rattle.tlv_area.proofs.form.one_form_t5.Goals as goal

pub one_form-requires-clause-area : goal.one_form-requires-clause-area
one_form-requires-clause-area c =
    subst IsArea (sym (c.cut_at.ensures ∙ ap (λ s. cut s (length c.args.store.now)) (c.reach.ensures c.in-Ok-Ready.field-0-2)))
    (ready_area c.args.block (length c.args.store.now) c.args.store.now (record { space = c.in-Ok-Ready.space; wide = c.in-Ok-Ready.wide; many = c.in-Ok-Ready.field-0-2 }) c.requires.some
    (omega arith)
    (front_ready c.args.store.now c.in-Ok-Ready.space c.in-Ok-Ready.wide c.in-Ok-Ready.field-0-2 (sym c.in-Ok-Ready.ensures.exact ∙ ap (λ f. Ok f) c.in-Ok-Ready.field-0-is)))

pub returns-in-Ok-Ready-clause-some : goal.returns-in-Ok-Ready-clause-some
returns-in-Ok-Ready-clause-some c =
    let has = front_ready c.args.store.now c.in-Ok-Ready.space c.in-Ok-Ready.wide c.in-Ok-Ready.field-0-2 (sym c.in-Ok-Ready.ensures.exact ∙ ap (λ f. Ok f) c.in-Ok-Ready.field-0-is) in
    subst (λ r. (f : Form) × IsFormBy (cut_by (t5_area_by c.args.block r) (length c.args.store.now)) c.args.store.now f) (sym has)
    (subst (λ s. (f : Form) × IsForm s c.args.store.now f) (c.cut_at.ensures ∙ ap (λ s. cut s (length c.args.store.now)) (c.reach.ensures c.in-Ok-Ready.field-0-2)) c.one_form.ensures.some)

pub returns-in-Err-clause-some : goal.returns-in-Err-clause-some
returns-in-Err-clause-some c = (
  Faulty c.in-Err._fault,
  subst (λ r. IsFormBy (cut_by (t5_area_by c.args.block r) (length c.args.store.now)) c.args.store.now (Faulty c.in-Err._fault))
      (sym (front_fault c.args.store.now c.in-Err._fault (sym c.in-Err.ensures.exact))) refl,
)

pub returns-in-Ok-More-clause-some : goal.returns-in-Ok-More-clause-some
returns-in-Ok-More-clause-some c = (
  Faulty BadSize,
  subst (λ r. IsFormBy (cut_by (t5_area_by c.args.block r) (length c.args.store.now)) c.args.store.now (Faulty BadSize))
      (sym (front_more c.args.store.now c.requires.container (sym c.in-Ok-More.ensures.exact ∙ ap (λ f. Ok f) c.in-Ok-More.field-0-is))) refl,
)

pub returns-in-Ok-Ready-clause-one : goal.returns-in-Ok-Ready-clause-one
returns-in-Ok-Ready-clause-one c = one_form_by (cut_by (t5_area c.args.block c.args.store.now) (length c.args.store.now)) c.args.store.now
    (area_of_five c.args.block (length c.args.store.now) c.args.store.now c.requires.some (omega arith))

pub returns-in-Err-clause-one : goal.returns-in-Err-clause-one
returns-in-Err-clause-one c = one_form_by (cut_by (t5_area c.args.block c.args.store.now) (length c.args.store.now)) c.args.store.now
    (area_of_five c.args.block (length c.args.store.now) c.args.store.now c.requires.some (omega arith))

pub returns-in-Ok-More-clause-one : goal.returns-in-Ok-More-clause-one
returns-in-Ok-More-clause-one c = one_form_by (cut_by (t5_area c.args.block c.args.store.now) (length c.args.store.now)) c.args.store.now
    (area_of_five c.args.block (length c.args.store.now) c.args.store.now c.requires.some (omega arith))
