use Rattle.std.proofs.Common.{◌≡◌, true, false, Some, None, Err, sym, ◌∙◌, ap, subst}
use Rattle.std.specs.Prelude.{IfOk, OnErr}
use Rattle.air_core.specs.Turn.{moment}
use Rattle.bench_script.specs.declared.command.Command.TheVariants.{Link}
use Rattle.bench_script.specs.declared.command.DeviceId.TheVariants.{A}
use Rattle.bench_devices.specs.declared.polling.Selection.{Selection}
use Rattle.bench_devices.specs.Phases.{Selects, SelectsAt, SelectsTo, SelectionCut}
use Rattle.bench_devices.specs.Device.{is_tag}
use Rattle.bench_world.specs.declared.entry.Answer.TheVariants as answers
use Rattle.bench_world.specs.Answering.{poll_answer}
use Rattle.bench_world.specs.Legal.{MayLink, CutFront, no_joins}
use Rattle.bench_world.specs.Obeying.{Machines, IsSettled, Obeyed, state_at}
use Rattle.bench_world.specs.contracts.machines.Machines.{the_view}
use Rattle.bench_world.proofs.tags.Legality.{missed_part}
use Rattle.bench_world.proofs.open_link.Unlinking.{upon}
use Rattle.bench_world.proofs.open_link.LinkHere.{here_missed, here_cut, here_tag, here_served, here_opened}
use Rattle.bench_world.proofs.lines.Outcomes.{if_ok, on_err}
use Rattle.bench_world.proofs.devices.SelectedPlace.{looked_at}
use Rattle.bench_world.proofs.linking.select_and_open.Goals as goal

pub returns-in_default-clause-cut : goal.returns-in_default-clause-cut
returns-in_default-clause-cut c =
    let may : MayLink c.args.miu c.args.rw = record { size = c.requires.miu; window = c.requires.window } in
    let old : Machines = the_view c.machines.inside in
    let settled : IsSettled old = subst IsSettled (sym c.machines.view_is) c.requires.settled in
    let unlinked : old.link ≡ None = ap (λ (m : Machines). m.link) c.machines.view_is ∙ c.requires.unlinked in
    let C : Machines → Type 0 = λ m. CutFront no_joins (state_at m) (Link c.args.id.now c.args.miu c.args.rw) c.select.new.field.trace (state_at (upon old c.select.new.field)) in
    let part : SelectionCut (A c.args.id.now) (moment old.air) (moment c.select.new.field) =
    subst (λ i. SelectionCut (A i) (moment old.air) (moment c.select.new.field)) c.copy.ensures c.in_default.ensures.cut in
    subst C c.machines.view_is (here_cut old settled unlinked c.args.id.now c.args.miu c.args.rw may c.select.new.field part)

pub returns-in-Missed-clause-ok : goal.returns-in-Missed-clause-ok
returns-in-Missed-clause-ok c =
    let may : MayLink c.args.miu c.args.rw = record { size = c.requires.miu; window = c.requires.window } in
    let old : Machines = the_view c.machines.inside in
    let settled : IsSettled old = subst IsSettled (sym c.machines.view_is) c.requires.settled in
    let unlinked : old.link ≡ None = ap (λ (m : Machines). m.link) c.machines.view_is ∙ c.requires.unlinked in
    let S : Selection → Type 0 = λ s. SelectsTo (A c.copy.result) s (moment old.air) (moment c.select.new.field) in
    let s : Selects (A c.args.id.now) (Err c.in-Missed.fault) (moment old.air) (moment c.select.new.field) =
    subst (λ i. Selects (A i) (Err c.in-Missed.fault) (moment old.air) (moment c.select.new.field)) c.copy.ensures (subst S c.in-Missed.is c.in-Ok.ensures.ok) in
    if_ok c.not_found.result (λ answer. poll_answer c.in-Missed.fault ≡ Some answer) (λ answer. Obeyed c.args.machines.now (upon old c.select.new.field) (Link c.args.id.now c.args.miu c.args.rw)
    answer)
    (λ answer is. subst (λ m. Obeyed m (upon old c.select.new.field) (Link c.args.id.now c.args.miu c.args.rw) answer) c.machines.view_is
    (here_missed old settled unlinked c.args.id.now c.args.miu c.args.rw may c.select.new.field c.in-Missed.fault answer s is)) c.not_found.ensures.told

pub returns-in-Missed-clause-cut : goal.returns-in-Missed-clause-cut
returns-in-Missed-clause-cut c =
    let may : MayLink c.args.miu c.args.rw = record { size = c.requires.miu; window = c.requires.window } in
    let old : Machines = the_view c.machines.inside in
    let settled : IsSettled old = subst IsSettled (sym c.machines.view_is) c.requires.settled in
    let unlinked : old.link ≡ None = ap (λ (m : Machines). m.link) c.machines.view_is ∙ c.requires.unlinked in
    let S : Selection → Type 0 = λ s. SelectsTo (A c.copy.result) s (moment old.air) (moment c.select.new.field) in
    let s : Selects (A c.args.id.now) (Err c.in-Missed.fault) (moment old.air) (moment c.select.new.field) =
    subst (λ i. Selects (A i) (Err c.in-Missed.fault) (moment old.air) (moment c.select.new.field)) c.copy.ensures (subst S c.in-Missed.is c.in-Ok.ensures.ok) in
    let C : Machines → Type 0 = λ m. CutFront no_joins (state_at m) (Link c.args.id.now c.args.miu c.args.rw) c.select.new.field.trace (state_at (upon old c.select.new.field)) in
    on_err c.not_found.result
    (subst C c.machines.view_is (here_cut old settled unlinked c.args.id.now c.args.miu c.args.rw may c.select.new.field
    (missed_part (moment old.air) (moment c.select.new.field) (A c.args.id.now) c.in-Missed.fault s)))

pub returns-then-is_tag-clause-ok : goal.returns-then-is_tag-clause-ok
returns-then-is_tag-clause-ok c =
    let may : MayLink c.args.miu c.args.rw = record { size = c.requires.miu; window = c.requires.window } in
    let old : Machines = the_view c.machines.inside in
    let settled : IsSettled old = subst IsSettled (sym c.machines.view_is) c.requires.settled in
    let unlinked : old.link ≡ None = ap (λ (m : Machines). m.link) c.machines.view_is ∙ c.requires.unlinked in
    let S : Selection → Type 0 = λ s. SelectsTo (A c.copy.result) s (moment old.air) (moment c.select.new.field) in
    let s : SelectsAt (A c.args.id.now) c.in-Place.place (moment old.air) (moment c.select.new.field) =
    subst (λ i. SelectsAt (A i) c.in-Place.place (moment old.air) (moment c.select.new.field)) c.copy.ensures (subst S c.in-Place.is c.in-Ok.ensures.ok) in
    let found = looked_at c.select.new.field c.in-Place.place s.device s.stands c.devices.result.now c.index-devices-place.result c.devices.ensures c.index-devices-place.is in
    let tag : is_tag s.device ≡ true = sym (ap is_tag found) ∙ sym c.is_tag.ensures ∙ c.if-is_tag.true in
    subst (λ m. Obeyed m (upon old c.select.new.field) (Link c.args.id.now c.args.miu c.args.rw) answers.WrongKind) c.machines.view_is
    (here_tag old settled unlinked c.args.id.now c.args.miu c.args.rw may c.select.new.field c.in-Place.place s tag)

pub open-requires-clause-served : goal.open-requires-clause-served
open-requires-clause-served c =
    let may : MayLink c.args.miu c.args.rw = record { size = c.requires.miu; window = c.requires.window } in
    let old : Machines = the_view c.machines.inside in
    let settled : IsSettled old = subst IsSettled (sym c.machines.view_is) c.requires.settled in
    let unlinked : old.link ≡ None = ap (λ (m : Machines). m.link) c.machines.view_is ∙ c.requires.unlinked in
    let S : Selection → Type 0 = λ s. SelectsTo (A c.copy.result) s (moment old.air) (moment c.select.new.field) in
    let s : SelectsAt (A c.args.id.now) c.in-Place.place (moment old.air) (moment c.select.new.field) =
    subst (λ i. SelectsAt (A i) c.in-Place.place (moment old.air) (moment c.select.new.field)) c.copy.ensures (subst S c.in-Place.is c.in-Ok.ensures.ok) in
    let found = looked_at c.select.new.field c.in-Place.place s.device s.stands c.devices.result.now c.index-devices-place.result c.devices.ensures c.index-devices-place.is in
    let peer : is_tag s.device ≡ false = sym (ap is_tag found) ∙ sym c.is_tag.ensures ∙ c.if-is_tag.false in
    here_served old settled unlinked c.args.id.now c.args.miu c.args.rw may c.select.new.field c.in-Place.place s peer

pub returns-clause-ok : goal.returns-clause-ok
returns-clause-ok c =
    let may : MayLink c.args.miu c.args.rw = record { size = c.requires.miu; window = c.requires.window } in
    let old : Machines = the_view c.machines.inside in
    let settled : IsSettled old = subst IsSettled (sym c.machines.view_is) c.requires.settled in
    let unlinked : old.link ≡ None = ap (λ (m : Machines). m.link) c.machines.view_is ∙ c.requires.unlinked in
    let S : Selection → Type 0 = λ s. SelectsTo (A c.copy.result) s (moment old.air) (moment c.select.new.field) in
    let s : SelectsAt (A c.args.id.now) c.in-Place.place (moment old.air) (moment c.select.new.field) =
    subst (λ i. SelectsAt (A i) c.in-Place.place (moment old.air) (moment c.select.new.field)) c.copy.ensures (subst S c.in-Place.is c.in-Ok.ensures.ok) in
    let found = looked_at c.select.new.field c.in-Place.place s.device s.stands c.devices.result.now c.index-devices-place.result c.devices.ensures c.index-devices-place.is in
    let peer : is_tag s.device ≡ false = sym (ap is_tag found) ∙ sym c.is_tag.ensures ∙ c.if-is_tag.false in
    subst (λ m. IfOk c.open.result (λ a. Obeyed m c.open.new.self (Link c.args.id.now c.args.miu c.args.rw) a)) c.machines.view_is
    (here_opened old settled unlinked c.args.id.now c.args.miu c.args.rw may c.select.new.field c.in-Place.place s peer c.open.result c.open.new.self c.open.ensures).0

pub returns-clause-cut : goal.returns-clause-cut
returns-clause-cut c =
    let may : MayLink c.args.miu c.args.rw = record { size = c.requires.miu; window = c.requires.window } in
    let old : Machines = the_view c.machines.inside in
    let settled : IsSettled old = subst IsSettled (sym c.machines.view_is) c.requires.settled in
    let unlinked : old.link ≡ None = ap (λ (m : Machines). m.link) c.machines.view_is ∙ c.requires.unlinked in
    let S : Selection → Type 0 = λ s. SelectsTo (A c.copy.result) s (moment old.air) (moment c.select.new.field) in
    let s : SelectsAt (A c.args.id.now) c.in-Place.place (moment old.air) (moment c.select.new.field) =
    subst (λ i. SelectsAt (A i) c.in-Place.place (moment old.air) (moment c.select.new.field)) c.copy.ensures (subst S c.in-Place.is c.in-Ok.ensures.ok) in
    let found = looked_at c.select.new.field c.in-Place.place s.device s.stands c.devices.result.now c.index-devices-place.result c.devices.ensures c.index-devices-place.is in
    let peer : is_tag s.device ≡ false = sym (ap is_tag found) ∙ sym c.is_tag.ensures ∙ c.if-is_tag.false in
    subst (λ m. OnErr c.open.result (CutFront no_joins (state_at m) (Link c.args.id.now c.args.miu c.args.rw) c.open.new.self.air.trace (state_at c.open.new.self))) c.machines.view_is
    (here_opened old settled unlinked c.args.id.now c.args.miu c.args.rw may c.select.new.field c.in-Place.place s peer c.open.result c.open.new.self c.open.ensures).1

pub returns-clause-memory : goal.returns-clause-memory
returns-clause-memory c =
    let may : MayLink c.args.miu c.args.rw = record { size = c.requires.miu; window = c.requires.window } in
    let old : Machines = the_view c.machines.inside in
    let settled : IsSettled old = subst IsSettled (sym c.machines.view_is) c.requires.settled in
    let unlinked : old.link ≡ None = ap (λ (m : Machines). m.link) c.machines.view_is ∙ c.requires.unlinked in
    let S : Selection → Type 0 = λ s. SelectsTo (A c.copy.result) s (moment old.air) (moment c.select.new.field) in
    let s : SelectsAt (A c.args.id.now) c.in-Place.place (moment old.air) (moment c.select.new.field) =
    subst (λ i. SelectsAt (A i) c.in-Place.place (moment old.air) (moment c.select.new.field)) c.copy.ensures (subst S c.in-Place.is c.in-Ok.ensures.ok) in
    let found = looked_at c.select.new.field c.in-Place.place s.device s.stands c.devices.result.now c.index-devices-place.result c.devices.ensures c.index-devices-place.is in
    let peer : is_tag s.device ≡ false = sym (ap is_tag found) ∙ sym c.is_tag.ensures ∙ c.if-is_tag.false in
    (here_opened old settled unlinked c.args.id.now c.args.miu c.args.rw may c.select.new.field c.in-Place.place s peer c.open.result c.open.new.self c.open.ensures).2
