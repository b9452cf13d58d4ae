use Rattle.std.proofs.Common.{◌≡◌, inl, true, refl, sym, ◌∙◌, ap, subst}
use Rattle.std.specs.Prelude.{Result, Ok, Err, IfOk, IfErr}
use Rattle.nfc_base.specs.TagLinks.{LinkView}
use Rattle.tag_reader.specs.declared.ground.Ground.TheVariants.{Area, File}
use Rattle.tag_reader.specs.Survey.{IsGround, IsKnownArea, IsKnownFile, IsPlacedArea, IsPlacedGround}
use Rattle.tag_reader.specs.SurveyHeard.{IsSurveyedBy}
use Rattle.tag_writer.specs.WriteTold.{IsWorkOn}
use Rattle.tag_writer.proofs.Grounded.{area_low, planned_told}
use Rattle.tag_writer.specs.declared.fault.WriteFault.{WriteFault}
use Rattle.tag_writer.specs.Place.{TakesNot}
use Rattle.tag_writer.specs.Faults.{IsWriteFault, is_told, IsToldOrMemory, OnTold}
use Rattle.tag_writer.specs.Planning.{of_read, IsPlannedFor, IsDeclined}
use Rattle.tag_writer.proofs.Causes.{read_cause, declined_cause, declined_calm}
use Rattle.tag_writer.proofs.FileKnown.{for_file}
use Rattle.tag_writer.proofs.OnePlace.{read_takes_not, declined_takes_not}
use Rattle.tag_writer.proofs.Starting.{IsTold, prepared}
use Rattle.tag_writer.proofs.preparing.prepare.Goals as goal

ok_map : {A : Type 0} (P Q : A → Type 0) (r : Result A WriteFault) → ((x : A) → P x → Q x) → IfOk r P → IfOk r Q
ok_map P Q (Ok x) f p = f x p
ok_map P Q (Err e) f p = p

pub returns-in-Ok-Area-clause-ok : goal.returns-in-Ok-Area-clause-ok
returns-in-Ok-Area-clause-ok g c size is =
    let a : LinkView = g.T.TagLink.seen c.args.link.now in
    let b : LinkView = g.T.TagLink.seen c.survey.new.link in
    let told : IsTold c.args.how size a.state.store a b = record {
      tag = is;
      store' = refl;
      stays = c.in-Ok-Area.ensures.stays size is;
      asked = c.in-Ok-Area.ensures.asked size is;
      whole = c.in-Ok-Area.ensures.whole size is;
      goes_on = c.in-Ok-Area.ensures.goes_on size is;
      state = (c.in-Ok-Area.ensures.ok size is).state;
    } in
    let known : IsKnownArea c.args.how size a.state.store c.as_slice.result.now c.in-Ok-Area.block c.in-Ok-Area.map =
    subst (λ k. IsKnownArea c.args.how size a.state.store k c.in-Ok-Area.block c.in-Ok-Area.map) (sym c.as_slice.ensures)
    (subst (λ ground. IsGround c.args.how size a.state.store ground) c.in-Ok-Area.field-0-is (c.in-Ok-Area.ensures.ok size is).ground') in
    ok_map _ _ c.plan_area.result (λ p planned. prepared c.args.how size a.state.store c.args.message.now p.work a b told planned) (c.plan_area.ensures.ok size a.state.store is.store known)

err_map : {A : Type 0} (P Q : WriteFault → Type 0) (r : Result A WriteFault) → ((e : WriteFault) → P e → Q e) → IfErr r P → IfErr r Q
err_map P Q (Ok x) f p = p
err_map P Q (Err e) f p = f e p

pub returns-in-Err-clause-err : goal.returns-in-Err-clause-err
returns-in-Err-clause-err g c size is =
    let a : LinkView = g.T.TagLink.seen c.args.link.now in
    let b : LinkView = g.T.TagLink.seen c.survey.new.link in
    subst (IsWriteFault c.args.how size c.args.message.now a b) (sym c.from.ensures)
    (read_cause c.args.how size c.args.message.now a b c.in-Err.fault (c.in-Err.ensures.asked size is) (c.in-Err.ensures.err size is))

pub returns-in-Ok-Area-clause-err : goal.returns-in-Ok-Area-clause-err
returns-in-Ok-Area-clause-err g c size is =
    let a : LinkView = g.T.TagLink.seen c.args.link.now in
    let b : LinkView = g.T.TagLink.seen c.survey.new.link in
    let known : IsKnownArea c.args.how size a.state.store c.as_slice.result.now c.in-Ok-Area.block c.in-Ok-Area.map =
    subst (λ k. IsKnownArea c.args.how size a.state.store k c.in-Ok-Area.block c.in-Ok-Area.map) (sym c.as_slice.ensures)
    (subst (λ ground. IsGround c.args.how size a.state.store ground) c.in-Ok-Area.field-0-is (c.in-Ok-Area.ensures.ok size is).ground') in
    err_map (IsDeclined c.args.how size a.state.store c.args.message.now) (IsWriteFault c.args.how size c.args.message.now a b) c.plan_area.result
    (λ e d. declined_cause c.args.how size c.args.message.now a b e (c.in-Ok-Area.ensures.goes_on size is).over (c.in-Ok-Area.ensures.asked size is) d)
    (c.plan_area.ensures.err size a.state.store is.store known)

pub returns-in-Err-clause-untaken : goal.returns-in-Err-clause-untaken
returns-in-Err-clause-untaken g c size is t =
    let e : c.from.result ≡ of_read c.in-Err.fault = c.from.ensures in
    read_takes_not c.args.how size c.args.message.now (g.T.TagLink.seen c.args.link.now) (g.T.TagLink.seen c.survey.new.link) c.in-Err.fault (c.in-Err.ensures.err size is)
    (ap is_told (sym e) ∙ t)

pub returns-in-Ok-Area-clause-untaken : goal.returns-in-Ok-Area-clause-untaken
returns-in-Ok-Area-clause-untaken g c size is =
    let a : LinkView = g.T.TagLink.seen c.args.link.now in
    let known : IsKnownArea c.args.how size a.state.store c.as_slice.result.now c.in-Ok-Area.block c.in-Ok-Area.map =
    subst (λ k. IsKnownArea c.args.how size a.state.store k c.in-Ok-Area.block c.in-Ok-Area.map) (sym c.as_slice.ensures)
    (subst (λ ground. IsGround c.args.how size a.state.store ground) c.in-Ok-Area.field-0-is (c.in-Ok-Area.ensures.ok size is).ground') in
    err_map (IsDeclined c.args.how size a.state.store c.args.message.now) (λ e. is_told e ≡ true → TakesNot c.args.how size a.state.store c.args.message.now) c.plan_area.result
    (λ e d t. declined_takes_not c.args.how size a.state.store c.args.message.now e d t) (c.plan_area.ensures.err size a.state.store is.store known)

pub returns-in-Ok-File-clause-ok : goal.returns-in-Ok-File-clause-ok
returns-in-Ok-File-clause-ok g c size is =
    let a : LinkView = g.T.TagLink.seen c.args.link.now in
    let b : LinkView = g.T.TagLink.seen c.survey.new.link in
    let told : IsTold c.args.how size a.state.store a b = record {
      tag = is;
      store' = refl;
      stays = c.in-Ok-File.ensures.stays size is;
      asked = c.in-Ok-File.ensures.asked size is;
      whole = c.in-Ok-File.ensures.whole size is;
      goes_on = c.in-Ok-File.ensures.goes_on size is;
      state = (c.in-Ok-File.ensures.ok size is).state;
    } in
    let known : IsKnownFile c.args.how a.state.store c.in-Ok-File.map c.in-Ok-File.length =
    subst (λ ground. IsGround c.args.how size a.state.store ground) c.in-Ok-File.field-0-is (c.in-Ok-File.ensures.ok size is).ground' in
    let planned = for_file (λ how. IfOk c.plan_file.result (λ p. IsPlannedFor how size a.state.store c.args.message.now p.work)) c.args.how size a.state.store c.in-Ok-File.map c.in-Ok-File.length
    is.store known (c.plan_file.ensures.ok size a.state.store) in
    ok_map _ _ c.plan_file.result (λ p planned. prepared c.args.how size a.state.store c.args.message.now p.work a b told planned) planned

pub returns-in-Ok-File-clause-err : goal.returns-in-Ok-File-clause-err
returns-in-Ok-File-clause-err g c size is =
    let a : LinkView = g.T.TagLink.seen c.args.link.now in
    let b : LinkView = g.T.TagLink.seen c.survey.new.link in
    let known : IsKnownFile c.args.how a.state.store c.in-Ok-File.map c.in-Ok-File.length =
    subst (λ ground. IsGround c.args.how size a.state.store ground) c.in-Ok-File.field-0-is (c.in-Ok-File.ensures.ok size is).ground' in
    let declined = for_file (λ how. IfErr c.plan_file.result (IsDeclined how size a.state.store c.args.message.now)) c.args.how size a.state.store c.in-Ok-File.map c.in-Ok-File.length
    is.store known (c.plan_file.ensures.err size a.state.store) in
    err_map (IsDeclined c.args.how size a.state.store c.args.message.now) (IsWriteFault c.args.how size c.args.message.now a b) c.plan_file.result
    (λ e d. declined_cause c.args.how size c.args.message.now a b e (c.in-Ok-File.ensures.goes_on size is).over (c.in-Ok-File.ensures.asked size is) d) declined

pub returns-in-Ok-File-clause-untaken : goal.returns-in-Ok-File-clause-untaken
returns-in-Ok-File-clause-untaken g c size is =
    let a : LinkView = g.T.TagLink.seen c.args.link.now in
    let known : IsKnownFile c.args.how a.state.store c.in-Ok-File.map c.in-Ok-File.length =
    subst (λ ground. IsGround c.args.how size a.state.store ground) c.in-Ok-File.field-0-is (c.in-Ok-File.ensures.ok size is).ground' in
    let declined = for_file (λ how. IfErr c.plan_file.result (IsDeclined how size a.state.store c.args.message.now)) c.args.how size a.state.store c.in-Ok-File.map c.in-Ok-File.length
    is.store known (c.plan_file.ensures.err size a.state.store) in
    err_map (IsDeclined c.args.how size a.state.store c.args.message.now) (λ e. is_told e ≡ true → TakesNot c.args.how size a.state.store c.args.message.now) c.plan_file.result
    (λ e d t. declined_takes_not c.args.how size a.state.store c.args.message.now e d t) declined

pub returns-in-Ok-File-clause-calm : goal.returns-in-Ok-File-clause-calm
returns-in-Ok-File-clause-calm g c size is calm =
    let a : LinkView = g.T.TagLink.seen c.args.link.now in
    let known : IsKnownFile c.args.how a.state.store c.in-Ok-File.map c.in-Ok-File.length =
    subst (λ ground. IsGround c.args.how size a.state.store ground) c.in-Ok-File.field-0-is (c.in-Ok-File.ensures.ok size is).ground' in
    let declined = for_file (λ how. IfErr c.plan_file.result (IsDeclined how size a.state.store c.args.message.now)) c.args.how size a.state.store c.in-Ok-File.map c.in-Ok-File.length
    is.store known (c.plan_file.ensures.err size a.state.store) in
    err_map (IsDeclined c.args.how size a.state.store c.args.message.now) IsToldOrMemory c.plan_file.result (declined_calm c.args.how size a.state.store c.args.message.now) declined

-- whatever the tag does
pub plan_area-requires-clause-placed : goal.plan_area-requires-clause-placed
plan_area-requires-clause-placed g c =
    subst (λ k. IsPlacedArea k c.in-Ok-Area.block c.in-Ok-Area.map) (sym c.as_slice.ensures) (subst (λ ground. IsPlacedGround ground) c.in-Ok-Area.field-0-is c.in-Ok-Area.ensures.places)

pub plan_area-requires-clause-seen : goal.plan_area-requires-clause-seen
plan_area-requires-clause-seen g c =
    let a : LinkView = g.T.TagLink.seen c.args.link.now in
    let b : LinkView = g.T.TagLink.seen c.survey.new.link in
    let s : IsSurveyedBy c.args.how a b (Area c.as_slice.result.now c.in-Ok-Area.block c.in-Ok-Area.map) =
    subst (λ k. IsSurveyedBy c.args.how a b (Area k c.in-Ok-Area.block c.in-Ok-Area.map)) (sym c.as_slice.ensures)
    (subst (λ ground. IsSurveyedBy c.args.how a b ground) c.in-Ok-Area.field-0-is c.in-Ok-Area.ensures.told) in
    s.ground'.seen

pub plan_area-requires-clause-low : goal.plan_area-requires-clause-low
plan_area-requires-clause-low g c =
    let a : LinkView = g.T.TagLink.seen c.args.link.now in
    let b : LinkView = g.T.TagLink.seen c.survey.new.link in
    let s : IsSurveyedBy c.args.how a b (Area c.as_slice.result.now c.in-Ok-Area.block c.in-Ok-Area.map) =
    subst (λ k. IsSurveyedBy c.args.how a b (Area k c.in-Ok-Area.block c.in-Ok-Area.map)) (sym c.as_slice.ensures)
    (subst (λ ground. IsSurveyedBy c.args.how a b ground) c.in-Ok-Area.field-0-is c.in-Ok-Area.ensures.told) in
    area_low c.args.how a b c.as_slice.result.now c.in-Ok-Area.block c.in-Ok-Area.map s.ps s.ended s.heard s.ground'
    (subst (λ k. IsPlacedArea k c.in-Ok-Area.block c.in-Ok-Area.map) (sym c.as_slice.ensures) (subst (λ ground. IsPlacedGround ground) c.in-Ok-Area.field-0-is c.in-Ok-Area.ensures.places))

pub plan_file-requires : goal.plan_file-requires
plan_file-requires g c =
    let a : LinkView = g.T.TagLink.seen c.args.link.now in
    let b : LinkView = g.T.TagLink.seen c.survey.new.link in
    let s : IsSurveyedBy c.args.how a b (File c.in-Ok-File.map c.in-Ok-File.length) = subst (λ ground. IsSurveyedBy c.args.how a b ground) c.in-Ok-File.field-0-is c.in-Ok-File.ensures.told in
    record { named = (s.ground'.file.head, s.ground'.file.names) }

pub returns-in-Err-clause-told : goal.returns-in-Err-clause-told
returns-in-Err-clause-told g c = inl (c.in-Err.fault, c.from.ensures, c.in-Err.ensures.told)

pub returns-in-Ok-Area-clause-told : goal.returns-in-Ok-Area-clause-told
returns-in-Ok-Area-clause-told g c =
    let a : LinkView = g.T.TagLink.seen c.args.link.now in
    let b : LinkView = g.T.TagLink.seen c.survey.new.link in
    let s : IsSurveyedBy c.args.how a b (Area c.as_slice.result.now c.in-Ok-Area.block c.in-Ok-Area.map) =
    subst (λ k. IsSurveyedBy c.args.how a b (Area k c.in-Ok-Area.block c.in-Ok-Area.map)) (sym c.as_slice.ensures)
    (subst (λ ground. IsSurveyedBy c.args.how a b ground) c.in-Ok-Area.field-0-is c.in-Ok-Area.ensures.told) in
    planned_told c.args.how c.args.message.now a b (Area c.as_slice.result.now c.in-Ok-Area.block c.in-Ok-Area.map) c.plan_area.result s c.plan_area.ensures.on c.plan_area.ensures.declined

pub returns-in-Ok-File-clause-told : goal.returns-in-Ok-File-clause-told
returns-in-Ok-File-clause-told g c =
    let a : LinkView = g.T.TagLink.seen c.args.link.now in
    let b : LinkView = g.T.TagLink.seen c.survey.new.link in
    let s : IsSurveyedBy c.args.how a b (File c.in-Ok-File.map c.in-Ok-File.length) = subst (λ ground. IsSurveyedBy c.args.how a b ground) c.in-Ok-File.field-0-is c.in-Ok-File.ensures.told in
    planned_told c.args.how c.args.message.now a b (File c.in-Ok-File.map c.in-Ok-File.length) c.plan_file.result s
    (subst (λ h. IfOk c.plan_file.result (λ p. IsWorkOn h (File c.in-Ok-File.map c.in-Ok-File.length) c.args.message.now p.work)) (sym s.ground'.kind) c.plan_file.ensures.on)
    c.plan_file.ensures.declined

on_told : {A : Type 0} (P : Type 0) (r : Result A WriteFault) → P → OnTold r P
on_told P (Ok x) p = p
on_told P (Err e) p = λ told. p

pub returns-in-Ok-File-clause-whole : goal.returns-in-Ok-File-clause-whole
returns-in-Ok-File-clause-whole g c size is = on_told _ c.plan_file.result (c.in-Ok-File.ensures.whole size is)

pub returns-in-Ok-File-clause-goes_on : goal.returns-in-Ok-File-clause-goes_on
returns-in-Ok-File-clause-goes_on g c size is = on_told _ c.plan_file.result (c.in-Ok-File.ensures.goes_on size is)
