use Rattle.std.proofs.Common.{◌≡◌, ℕ, List, [], true, false, Some, None, Err, sym, ◌∙◌, ap, subst}
use Rattle.std.specs.Prelude.{IfOk, OnErr}
use Rattle.air_core.specs.Turn.{moment}
use Rattle.bench_script.specs.declared.command.Command.TheVariants.{Forge}
use Rattle.bench_script.specs.declared.command.DeviceId.TheVariants.{A}
use Rattle.bench_devices.specs.declared.polling.Selection.{Selection}
use Rattle.bench_devices.specs.Phases.{Selects, SelectsAt, SelectsTo, SelectionCut}
use Rattle.bench_devices.specs.Device.{is_tag}
use Rattle.bench_world.specs.declared.entry.Answer.TheVariants as answers
use Rattle.bench_world.specs.Answering.{poll_answer}
use Rattle.bench_world.specs.private.ForgedAt.{ForgeStops}
use Rattle.bench_world.specs.Legal.{Joins}
use Rattle.bench_world.specs.Obeying.{Machines, IsSettled, ObeyedBy, state_at}
use Rattle.bench_world.specs.contracts.machines.Machines.{the_view}
use Rattle.bench_world.proofs.tags.Legality.{missed_part}
use Rattle.bench_world.proofs.open_link.Unlinking.{upon}
use Rattle.bench_world.proofs.forged.ForgeHere.{here_missed, here_cut, here_tag, here_served, here_sent}
use Rattle.bench_world.proofs.lines.Outcomes.{if_ok, on_err}
use Rattle.bench_world.proofs.devices.SelectedPlace.{looked_at}
use Rattle.bench_world.proofs.forging.select_and_send.Goals as goal

pub returns-in_default-clause-cut : goal.returns-in_default-clause-cut
returns-in_default-clause-cut c =
    let old : Machines = the_view c.machines.inside in
    let settled : IsSettled old = subst IsSettled (sym c.machines.view_is) c.requires.settled in
    let unlinked : old.link ≡ None = ap (λ (m : Machines). m.link) c.machines.view_is ∙ c.requires.unlinked in
    let counts : List ℕ = c.args.joins.far in
    let J : Joins = record { own = []; far = counts } in
    let C : Machines → Type 0 = λ m. ForgeStops J (state_at m) (Forge c.args.id.now c.args.payloads.now) c.select.new.field.trace (state_at (upon old c.select.new.field)) in
    let part : SelectionCut (A c.args.id.now) (moment old.air) (moment c.select.new.field) =
    subst (λ i. SelectionCut (A i) (moment old.air) (moment c.select.new.field)) c.copy.ensures c.in_default.ensures.cut in
    subst C c.machines.view_is (here_cut old settled unlinked c.args.id.now c.args.payloads.now counts c.requires.payloads c.select.new.field part)

pub returns-in-Missed-clause-ok : goal.returns-in-Missed-clause-ok
returns-in-Missed-clause-ok c =
    let old : Machines = the_view c.machines.inside in
    let settled : IsSettled old = subst IsSettled (sym c.machines.view_is) c.requires.settled in
    let unlinked : old.link ≡ None = ap (λ (m : Machines). m.link) c.machines.view_is ∙ c.requires.unlinked in
    let counts : List ℕ = c.args.joins.far in
    let J : Joins = record { own = []; far = counts } in
    let S : Selection → Type 0 = λ s. SelectsTo (A c.copy.result) s (moment old.air) (moment c.select.new.field) in
    let s : Selects (A c.args.id.now) (Err c.in-Missed.fault) (moment old.air) (moment c.select.new.field) =
    subst (λ i. Selects (A i) (Err c.in-Missed.fault) (moment old.air) (moment c.select.new.field)) c.copy.ensures (subst S c.in-Missed.is c.in-Ok.ensures.ok) in
    if_ok c.not_found.result (λ answer. poll_answer c.in-Missed.fault ≡ Some answer) (λ answer. ObeyedBy J c.args.machines.now (upon old c.select.new.field) (Forge c.args.id.now c.args.payloads.now)
    answer)
    (λ answer is. subst (λ m. ObeyedBy J m (upon old c.select.new.field) (Forge c.args.id.now c.args.payloads.now) answer) c.machines.view_is
    (here_missed old settled unlinked c.args.id.now c.args.payloads.now counts c.requires.payloads c.select.new.field c.in-Missed.fault answer s is)) c.not_found.ensures.told

pub returns-in-Missed-clause-cut : goal.returns-in-Missed-clause-cut
returns-in-Missed-clause-cut c =
    let old : Machines = the_view c.machines.inside in
    let settled : IsSettled old = subst IsSettled (sym c.machines.view_is) c.requires.settled in
    let unlinked : old.link ≡ None = ap (λ (m : Machines). m.link) c.machines.view_is ∙ c.requires.unlinked in
    let counts : List ℕ = c.args.joins.far in
    let J : Joins = record { own = []; far = counts } in
    let S : Selection → Type 0 = λ s. SelectsTo (A c.copy.result) s (moment old.air) (moment c.select.new.field) in
    let s : Selects (A c.args.id.now) (Err c.in-Missed.fault) (moment old.air) (moment c.select.new.field) =
    subst (λ i. Selects (A i) (Err c.in-Missed.fault) (moment old.air) (moment c.select.new.field)) c.copy.ensures (subst S c.in-Missed.is c.in-Ok.ensures.ok) in
    let C : Machines → Type 0 = λ m. ForgeStops J (state_at m) (Forge c.args.id.now c.args.payloads.now) c.select.new.field.trace (state_at (upon old c.select.new.field)) in
    on_err c.not_found.result
    (subst C c.machines.view_is (here_cut old settled unlinked c.args.id.now c.args.payloads.now counts c.requires.payloads c.select.new.field
    (missed_part (moment old.air) (moment c.select.new.field) (A c.args.id.now) c.in-Missed.fault s)))

pub returns-then-is_tag-clause-ok : goal.returns-then-is_tag-clause-ok
returns-then-is_tag-clause-ok c =
    let old : Machines = the_view c.machines.inside in
    let settled : IsSettled old = subst IsSettled (sym c.machines.view_is) c.requires.settled in
    let unlinked : old.link ≡ None = ap (λ (m : Machines). m.link) c.machines.view_is ∙ c.requires.unlinked in
    let counts : List ℕ = c.args.joins.far in
    let J : Joins = record { own = []; far = counts } in
    let S : Selection → Type 0 = λ s. SelectsTo (A c.copy.result) s (moment old.air) (moment c.select.new.field) in
    let s : SelectsAt (A c.args.id.now) c.in-Place.place (moment old.air) (moment c.select.new.field) =
    subst (λ i. SelectsAt (A i) c.in-Place.place (moment old.air) (moment c.select.new.field)) c.copy.ensures (subst S c.in-Place.is c.in-Ok.ensures.ok) in
    let found = looked_at c.select.new.field c.in-Place.place s.device s.stands c.devices.result.now c.index-devices-place.result c.devices.ensures c.index-devices-place.is in
    let tag : is_tag s.device ≡ true = sym (ap is_tag found) ∙ sym c.is_tag.ensures ∙ c.if-is_tag.true in
    subst (λ m. ObeyedBy J m (upon old c.select.new.field) (Forge c.args.id.now c.args.payloads.now) answers.WrongKind) c.machines.view_is
    (here_tag old settled unlinked c.args.id.now c.args.payloads.now counts c.requires.payloads c.select.new.field c.in-Place.place s tag)

pub send_to-requires-clause-stands : goal.send_to-requires-clause-stands
send_to-requires-clause-stands c =
    let old : Machines = the_view c.machines.inside in
    let settled : IsSettled old = subst IsSettled (sym c.machines.view_is) c.requires.settled in
    let unlinked : old.link ≡ None = ap (λ (m : Machines). m.link) c.machines.view_is ∙ c.requires.unlinked in
    let counts : List ℕ = c.args.joins.far in
    let J : Joins = record { own = []; far = counts } in
    let S : Selection → Type 0 = λ s. SelectsTo (A c.copy.result) s (moment old.air) (moment c.select.new.field) in
    let s : SelectsAt (A c.args.id.now) c.in-Place.place (moment old.air) (moment c.select.new.field) =
    subst (λ i. SelectsAt (A i) c.in-Place.place (moment old.air) (moment c.select.new.field)) c.copy.ensures (subst S c.in-Place.is c.in-Ok.ensures.ok) in
    let found = looked_at c.select.new.field c.in-Place.place s.device s.stands c.devices.result.now c.index-devices-place.result c.devices.ensures c.index-devices-place.is in
    let peer : is_tag s.device ≡ false = sym (ap is_tag found) ∙ sym c.is_tag.ensures ∙ c.if-is_tag.false in
    (s.device, s.stands, peer)

pub send_to-requires-clause-served : goal.send_to-requires-clause-served
send_to-requires-clause-served c =
    let old : Machines = the_view c.machines.inside in
    let settled : IsSettled old = subst IsSettled (sym c.machines.view_is) c.requires.settled in
    let unlinked : old.link ≡ None = ap (λ (m : Machines). m.link) c.machines.view_is ∙ c.requires.unlinked in
    let counts : List ℕ = c.args.joins.far in
    let J : Joins = record { own = []; far = counts } in
    let S : Selection → Type 0 = λ s. SelectsTo (A c.copy.result) s (moment old.air) (moment c.select.new.field) in
    let s : SelectsAt (A c.args.id.now) c.in-Place.place (moment old.air) (moment c.select.new.field) =
    subst (λ i. SelectsAt (A i) c.in-Place.place (moment old.air) (moment c.select.new.field)) c.copy.ensures (subst S c.in-Place.is c.in-Ok.ensures.ok) in
    let found = looked_at c.select.new.field c.in-Place.place s.device s.stands c.devices.result.now c.index-devices-place.result c.devices.ensures c.index-devices-place.is in
    let peer : is_tag s.device ≡ false = sym (ap is_tag found) ∙ sym c.is_tag.ensures ∙ c.if-is_tag.false in
    here_served old settled unlinked c.args.id.now c.args.payloads.now counts c.requires.payloads c.select.new.field c.in-Place.place s peer

pub returns-clause-ok : goal.returns-clause-ok
returns-clause-ok c =
    let old : Machines = the_view c.machines.inside in
    let settled : IsSettled old = subst IsSettled (sym c.machines.view_is) c.requires.settled in
    let unlinked : old.link ≡ None = ap (λ (m : Machines). m.link) c.machines.view_is ∙ c.requires.unlinked in
    let counts : List ℕ = c.joins.inside.far in
    let J : Joins = record { own = []; far = counts } in
    let S : Selection → Type 0 = λ s. SelectsTo (A c.copy.result) s (moment old.air) (moment c.select.new.field) in
    let s : SelectsAt (A c.args.id.now) c.in-Place.place (moment old.air) (moment c.select.new.field) =
    subst (λ i. SelectsAt (A i) c.in-Place.place (moment old.air) (moment c.select.new.field)) c.copy.ensures (subst S c.in-Place.is c.in-Ok.ensures.ok) in
    let found = looked_at c.select.new.field c.in-Place.place s.device s.stands c.devices.result.now c.index-devices-place.result c.devices.ensures c.index-devices-place.is in
    let peer : is_tag s.device ≡ false = sym (ap is_tag found) ∙ sym c.is_tag.ensures ∙ c.if-is_tag.false in
    let sent = here_sent old settled unlinked c.args.id.now c.args.payloads.now counts c.requires.payloads c.select.new.field c.in-Place.place s peer c.send_to.result c.send_to.new.machines
    c.send_to.ensures in
    let T : Joins → Type 0 = λ j. IfOk c.send_to.result (λ a. ObeyedBy (record { own = []; far = j.far }) c.args.machines.now c.send_to.new.machines (Forge c.args.id.now c.args.payloads.now) a) in
    subst T c.joins.view_is (subst (λ m. IfOk c.send_to.result (λ a. ObeyedBy J m c.send_to.new.machines (Forge c.args.id.now c.args.payloads.now) a)) c.machines.view_is sent.0)

pub returns-clause-cut : goal.returns-clause-cut
returns-clause-cut c =
    let old : Machines = the_view c.machines.inside in
    let settled : IsSettled old = subst IsSettled (sym c.machines.view_is) c.requires.settled in
    let unlinked : old.link ≡ None = ap (λ (m : Machines). m.link) c.machines.view_is ∙ c.requires.unlinked in
    let counts : List ℕ = c.joins.inside.far in
    let J : Joins = record { own = []; far = counts } in
    let S : Selection → Type 0 = λ s. SelectsTo (A c.copy.result) s (moment old.air) (moment c.select.new.field) in
    let s : SelectsAt (A c.args.id.now) c.in-Place.place (moment old.air) (moment c.select.new.field) =
    subst (λ i. SelectsAt (A i) c.in-Place.place (moment old.air) (moment c.select.new.field)) c.copy.ensures (subst S c.in-Place.is c.in-Ok.ensures.ok) in
    let found = looked_at c.select.new.field c.in-Place.place s.device s.stands c.devices.result.now c.index-devices-place.result c.devices.ensures c.index-devices-place.is in
    let peer : is_tag s.device ≡ false = sym (ap is_tag found) ∙ sym c.is_tag.ensures ∙ c.if-is_tag.false in
    let sent = here_sent old settled unlinked c.args.id.now c.args.payloads.now counts c.requires.payloads c.select.new.field c.in-Place.place s peer c.send_to.result c.send_to.new.machines
    c.send_to.ensures in
    let stops : Joins → Machines → Type 0 =
    λ j m. OnErr c.send_to.result (ForgeStops (record { own = []; far = j.far }) (state_at m) (Forge c.args.id.now c.args.payloads.now) c.send_to.new.machines.air.trace
    (state_at c.send_to.new.machines)) in
    subst (λ j. stops j c.args.machines.now) c.joins.view_is
    (subst (λ m. OnErr c.send_to.result (ForgeStops J (state_at m) (Forge c.args.id.now c.args.payloads.now) c.send_to.new.machines.air.trace (state_at c.send_to.new.machines))) c.machines.view_is
    sent.1)

pub returns-clause-memory : goal.returns-clause-memory
returns-clause-memory c =
    let old : Machines = the_view c.machines.inside in
    let settled : IsSettled old = subst IsSettled (sym c.machines.view_is) c.requires.settled in
    let unlinked : old.link ≡ None = ap (λ (m : Machines). m.link) c.machines.view_is ∙ c.requires.unlinked in
    let counts : List ℕ = c.joins.inside.far in
    let J : Joins = record { own = []; far = counts } in
    let S : Selection → Type 0 = λ s. SelectsTo (A c.copy.result) s (moment old.air) (moment c.select.new.field) in
    let s : SelectsAt (A c.args.id.now) c.in-Place.place (moment old.air) (moment c.select.new.field) =
    subst (λ i. SelectsAt (A i) c.in-Place.place (moment old.air) (moment c.select.new.field)) c.copy.ensures (subst S c.in-Place.is c.in-Ok.ensures.ok) in
    let found = looked_at c.select.new.field c.in-Place.place s.device s.stands c.devices.result.now c.index-devices-place.result c.devices.ensures c.index-devices-place.is in
    let peer : is_tag s.device ≡ false = sym (ap is_tag found) ∙ sym c.is_tag.ensures ∙ c.if-is_tag.false in
    let sent = here_sent old settled unlinked c.args.id.now c.args.payloads.now counts c.requires.payloads c.select.new.field c.in-Place.place s peer c.send_to.result c.send_to.new.machines
    c.send_to.ensures in
    sent.2
