use Rattle.std.proofs.Common.{◌≡◌, ℕ, List, [], true, false, Some, None, Err, sym, ◌∙◌, ap, subst}
use Rattle.std.specs.Prelude.{IfOk, OnErr}
use Rattle.air_core.specs.Turn.{moment}
use Rattle.bench_script.specs.declared.command.Command.TheVariants.{Raw}
use Rattle.bench_devices.specs.declared.polling.Selection.{Selection}
use Rattle.bench_devices.specs.Phases.{Selects, SelectsAt, SelectsTo, SelectionCut}
use Rattle.bench_devices.specs.Device.{is_tag}
use Rattle.bench_world.specs.Answering.{poll_answer}
use Rattle.bench_world.specs.private.RawAt.{RawStops}
use Rattle.bench_world.specs.Legal.{Joins, MayRaw}
use Rattle.bench_world.specs.Obeying.{Machines, IsSettled, ObeyedBy, state_at}
use Rattle.bench_world.specs.contracts.machines.Machines.{the_view}
use Rattle.bench_world.proofs.tags.Legality.{missed_part}
use Rattle.bench_world.proofs.open_link.Unlinking.{upon}
use Rattle.bench_world.proofs.by_hand.RawHere.{here_below, here_cut, here_lit, here_missed, here_served, peer_sent, peer_served, tag_sent}
use Rattle.bench_world.proofs.lines.Outcomes.{if_ok, on_err}
use Rattle.bench_world.proofs.devices.SelectedPlace.{looked_at}
use Rattle.bench_world.proofs.raws.select_and_send.Goals as goal

pub returns-in_default-clause-cut : goal.returns-in_default-clause-cut
returns-in_default-clause-cut c =
    let old : Machines = the_view c.machines.inside in
    let settled : IsSettled old = subst IsSettled (sym c.machines.view_is) c.requires.settled in
    let unlinked : old.link ≡ None = ap (λ (m : Machines). m.link) c.machines.view_is ∙ c.requires.unlinked in
    let counts : List ℕ = c.args.joins.far in
    let J : Joins = record { own = []; far = counts } in
    let may : MayRaw (state_at old) c.args.id.now c.args.frames.now = subst (λ (m : Machines). MayRaw (state_at m) c.args.id.now c.args.frames.now) (sym c.machines.view_is) c.requires.frames in
    let C : Machines → Type 0 = λ m. RawStops J (state_at m) (Raw c.args.id.now c.args.frames.now) c.select.new.field.trace (state_at (upon old c.select.new.field)) in
    let part : SelectionCut c.args.id.now (moment old.air) (moment c.select.new.field) = c.in_default.ensures.cut in
    subst C c.machines.view_is (here_cut old settled unlinked c.args.id.now c.args.frames.now counts may c.select.new.field part)

pub returns-in-Missed-clause-ok : goal.returns-in-Missed-clause-ok
returns-in-Missed-clause-ok c =
    let old : Machines = the_view c.machines.inside in
    let settled : IsSettled old = subst IsSettled (sym c.machines.view_is) c.requires.settled in
    let unlinked : old.link ≡ None = ap (λ (m : Machines). m.link) c.machines.view_is ∙ c.requires.unlinked in
    let counts : List ℕ = c.args.joins.far in
    let J : Joins = record { own = []; far = counts } in
    let may : MayRaw (state_at old) c.args.id.now c.args.frames.now = subst (λ (m : Machines). MayRaw (state_at m) c.args.id.now c.args.frames.now) (sym c.machines.view_is) c.requires.frames in
    let S : Selection → Type 0 = λ s. SelectsTo c.args.id.now s (moment old.air) (moment c.select.new.field) in
    let s : Selects c.args.id.now (Err c.in-Missed.fault) (moment old.air) (moment c.select.new.field) = subst S c.in-Missed.is c.in-Ok.ensures.ok in
    if_ok c.not_found.result (λ answer. poll_answer c.in-Missed.fault ≡ Some answer) (λ answer. ObeyedBy J c.args.machines.now (upon old c.select.new.field) (Raw c.args.id.now c.args.frames.now)
    answer)
    (λ answer is. subst (λ m. ObeyedBy J m (upon old c.select.new.field) (Raw c.args.id.now c.args.frames.now) answer) c.machines.view_is
    (here_missed old settled unlinked c.args.id.now c.args.frames.now counts may c.select.new.field c.in-Missed.fault answer s is)) c.not_found.ensures.told

pub returns-in-Missed-clause-cut : goal.returns-in-Missed-clause-cut
returns-in-Missed-clause-cut c =
    let old : Machines = the_view c.machines.inside in
    let settled : IsSettled old = subst IsSettled (sym c.machines.view_is) c.requires.settled in
    let unlinked : old.link ≡ None = ap (λ (m : Machines). m.link) c.machines.view_is ∙ c.requires.unlinked in
    let counts : List ℕ = c.args.joins.far in
    let J : Joins = record { own = []; far = counts } in
    let may : MayRaw (state_at old) c.args.id.now c.args.frames.now = subst (λ (m : Machines). MayRaw (state_at m) c.args.id.now c.args.frames.now) (sym c.machines.view_is) c.requires.frames in
    let S : Selection → Type 0 = λ s. SelectsTo c.args.id.now s (moment old.air) (moment c.select.new.field) in
    let s : Selects c.args.id.now (Err c.in-Missed.fault) (moment old.air) (moment c.select.new.field) = subst S c.in-Missed.is c.in-Ok.ensures.ok in
    let C : Machines → Type 0 = λ m. RawStops J (state_at m) (Raw c.args.id.now c.args.frames.now) c.select.new.field.trace (state_at (upon old c.select.new.field)) in
    on_err c.not_found.result
    (subst C c.machines.view_is (here_cut old settled unlinked c.args.id.now c.args.frames.now counts may c.select.new.field
    (missed_part (moment old.air) (moment c.select.new.field) c.args.id.now c.in-Missed.fault s)))

pub send_to_tag-requires-clause-lit : goal.send_to_tag-requires-clause-lit
send_to_tag-requires-clause-lit c =
    let old : Machines = the_view c.machines.inside in
    let settled : IsSettled old = subst IsSettled (sym c.machines.view_is) c.requires.settled in
    let unlinked : old.link ≡ None = ap (λ (m : Machines). m.link) c.machines.view_is ∙ c.requires.unlinked in
    let counts : List ℕ = c.args.joins.far in
    let J : Joins = record { own = []; far = counts } in
    let S : Selection → Type 0 = λ s. SelectsTo c.args.id.now s (moment old.air) (moment c.select.new.field) in
    let s : SelectsAt c.args.id.now c.in-Place.place (moment old.air) (moment c.select.new.field) = subst S c.in-Place.is c.in-Ok.ensures.ok in
    let found = looked_at c.select.new.field c.in-Place.place s.device s.stands c.devices.result.now c.index-devices-place.result c.devices.ensures c.index-devices-place.is in
    let may : MayRaw (state_at old) c.args.id.now c.args.frames.now = subst (λ (m : Machines). MayRaw (state_at m) c.args.id.now c.args.frames.now) (sym c.machines.view_is) c.requires.frames in
    let tag : is_tag s.device ≡ true = sym (ap is_tag found) ∙ sym c.is_tag.ensures ∙ c.if-is_tag.true in
    here_lit old settled unlinked c.args.id.now c.args.frames.now counts may c.select.new.field c.in-Place.place s

pub send_to_tag-requires-clause-places : goal.send_to_tag-requires-clause-places
send_to_tag-requires-clause-places c =
    let old : Machines = the_view c.machines.inside in
    let settled : IsSettled old = subst IsSettled (sym c.machines.view_is) c.requires.settled in
    let unlinked : old.link ≡ None = ap (λ (m : Machines). m.link) c.machines.view_is ∙ c.requires.unlinked in
    let counts : List ℕ = c.args.joins.far in
    let J : Joins = record { own = []; far = counts } in
    let S : Selection → Type 0 = λ s. SelectsTo c.args.id.now s (moment old.air) (moment c.select.new.field) in
    let s : SelectsAt c.args.id.now c.in-Place.place (moment old.air) (moment c.select.new.field) = subst S c.in-Place.is c.in-Ok.ensures.ok in
    let found = looked_at c.select.new.field c.in-Place.place s.device s.stands c.devices.result.now c.index-devices-place.result c.devices.ensures c.index-devices-place.is in
    let may : MayRaw (state_at old) c.args.id.now c.args.frames.now = subst (λ (m : Machines). MayRaw (state_at m) c.args.id.now c.args.frames.now) (sym c.machines.view_is) c.requires.frames in
    let tag : is_tag s.device ≡ true = sym (ap is_tag found) ∙ sym c.is_tag.ensures ∙ c.if-is_tag.true in
    λ n at. (
      here_served old settled unlinked c.args.id.now c.args.frames.now counts may c.select.new.field c.in-Place.place s n at,
      here_below old settled unlinked c.args.id.now c.args.frames.now counts may c.select.new.field c.in-Place.place s n at,
    )

pub send_to_peer-requires-clause-stands : goal.send_to_peer-requires-clause-stands
send_to_peer-requires-clause-stands c =
    let old : Machines = the_view c.machines.inside in
    let settled : IsSettled old = subst IsSettled (sym c.machines.view_is) c.requires.settled in
    let unlinked : old.link ≡ None = ap (λ (m : Machines). m.link) c.machines.view_is ∙ c.requires.unlinked in
    let counts : List ℕ = c.args.joins.far in
    let J : Joins = record { own = []; far = counts } in
    let S : Selection → Type 0 = λ s. SelectsTo c.args.id.now s (moment old.air) (moment c.select.new.field) in
    let s : SelectsAt c.args.id.now c.in-Place.place (moment old.air) (moment c.select.new.field) = subst S c.in-Place.is c.in-Ok.ensures.ok in
    let found = looked_at c.select.new.field c.in-Place.place s.device s.stands c.devices.result.now c.index-devices-place.result c.devices.ensures c.index-devices-place.is in
    let may : MayRaw (state_at old) c.args.id.now c.args.frames.now = subst (λ (m : Machines). MayRaw (state_at m) c.args.id.now c.args.frames.now) (sym c.machines.view_is) c.requires.frames in
    let peer : is_tag s.device ≡ false = sym (ap is_tag found) ∙ sym c.is_tag.ensures ∙ c.if-is_tag.false in
    (s.device, s.stands, peer)

pub send_to_peer-requires-clause-served : goal.send_to_peer-requires-clause-served
send_to_peer-requires-clause-served c =
    let old : Machines = the_view c.machines.inside in
    let settled : IsSettled old = subst IsSettled (sym c.machines.view_is) c.requires.settled in
    let unlinked : old.link ≡ None = ap (λ (m : Machines). m.link) c.machines.view_is ∙ c.requires.unlinked in
    let counts : List ℕ = c.args.joins.far in
    let J : Joins = record { own = []; far = counts } in
    let S : Selection → Type 0 = λ s. SelectsTo c.args.id.now s (moment old.air) (moment c.select.new.field) in
    let s : SelectsAt c.args.id.now c.in-Place.place (moment old.air) (moment c.select.new.field) = subst S c.in-Place.is c.in-Ok.ensures.ok in
    let found = looked_at c.select.new.field c.in-Place.place s.device s.stands c.devices.result.now c.index-devices-place.result c.devices.ensures c.index-devices-place.is in
    let may : MayRaw (state_at old) c.args.id.now c.args.frames.now = subst (λ (m : Machines). MayRaw (state_at m) c.args.id.now c.args.frames.now) (sym c.machines.view_is) c.requires.frames in
    let peer : is_tag s.device ≡ false = sym (ap is_tag found) ∙ sym c.is_tag.ensures ∙ c.if-is_tag.false in
    peer_served old settled unlinked c.args.id.now c.args.frames.now counts may c.select.new.field c.in-Place.place s peer

pub returns-then-is_tag-clause-ok : goal.returns-then-is_tag-clause-ok
returns-then-is_tag-clause-ok c =
    let old : Machines = the_view c.machines.inside in
    let settled : IsSettled old = subst IsSettled (sym c.machines.view_is) c.requires.settled in
    let unlinked : old.link ≡ None = ap (λ (m : Machines). m.link) c.machines.view_is ∙ c.requires.unlinked in
    let counts : List ℕ = c.joins.inside.far in
    let J : Joins = record { own = []; far = counts } in
    let S : Selection → Type 0 = λ s. SelectsTo c.args.id.now s (moment old.air) (moment c.select.new.field) in
    let s : SelectsAt c.args.id.now c.in-Place.place (moment old.air) (moment c.select.new.field) = subst S c.in-Place.is c.in-Ok.ensures.ok in
    let found = looked_at c.select.new.field c.in-Place.place s.device s.stands c.devices.result.now c.index-devices-place.result c.devices.ensures c.index-devices-place.is in
    let may : MayRaw (state_at old) c.args.id.now c.args.frames.now = subst (λ (m : Machines). MayRaw (state_at m) c.args.id.now c.args.frames.now) (sym c.machines.view_is) c.requires.frames in
    let tag : is_tag s.device ≡ true = sym (ap is_tag found) ∙ sym c.is_tag.ensures ∙ c.if-is_tag.true in
    let sent = tag_sent old settled unlinked c.args.id.now c.args.frames.now counts may c.select.new.field c.in-Place.place s tag c.send_to_tag.new.machines c.send_to_tag.result
    c.send_to_tag.ensures.none c.send_to_tag.ensures.some in
    let T : Joins → Type 0 = λ j. IfOk c.send_to_tag.result (λ a. ObeyedBy (record { own = []; far = j.far }) c.args.machines.now c.send_to_tag.new.machines (Raw c.args.id.now c.args.frames.now) a) in
    subst T c.joins.view_is (subst (λ m. IfOk c.send_to_tag.result (λ a. ObeyedBy J m c.send_to_tag.new.machines (Raw c.args.id.now c.args.frames.now) a)) c.machines.view_is sent.0)

pub returns-then-is_tag-clause-cut : goal.returns-then-is_tag-clause-cut
returns-then-is_tag-clause-cut c =
    let old : Machines = the_view c.machines.inside in
    let settled : IsSettled old = subst IsSettled (sym c.machines.view_is) c.requires.settled in
    let unlinked : old.link ≡ None = ap (λ (m : Machines). m.link) c.machines.view_is ∙ c.requires.unlinked in
    let counts : List ℕ = c.joins.inside.far in
    let J : Joins = record { own = []; far = counts } in
    let S : Selection → Type 0 = λ s. SelectsTo c.args.id.now s (moment old.air) (moment c.select.new.field) in
    let s : SelectsAt c.args.id.now c.in-Place.place (moment old.air) (moment c.select.new.field) = subst S c.in-Place.is c.in-Ok.ensures.ok in
    let found = looked_at c.select.new.field c.in-Place.place s.device s.stands c.devices.result.now c.index-devices-place.result c.devices.ensures c.index-devices-place.is in
    let may : MayRaw (state_at old) c.args.id.now c.args.frames.now = subst (λ (m : Machines). MayRaw (state_at m) c.args.id.now c.args.frames.now) (sym c.machines.view_is) c.requires.frames in
    let tag : is_tag s.device ≡ true = sym (ap is_tag found) ∙ sym c.is_tag.ensures ∙ c.if-is_tag.true in
    let sent = tag_sent old settled unlinked c.args.id.now c.args.frames.now counts may c.select.new.field c.in-Place.place s tag c.send_to_tag.new.machines c.send_to_tag.result
    c.send_to_tag.ensures.none c.send_to_tag.ensures.some in
    let stops : Joins → Machines → Type 0 =
    λ j m. OnErr c.send_to_tag.result (RawStops (record { own = []; far = j.far }) (state_at m) (Raw c.args.id.now c.args.frames.now) c.send_to_tag.new.machines.air.trace
    (state_at c.send_to_tag.new.machines)) in
    subst (λ j. stops j c.args.machines.now) c.joins.view_is
    (subst (λ m. OnErr c.send_to_tag.result (RawStops J (state_at m) (Raw c.args.id.now c.args.frames.now) c.send_to_tag.new.machines.air.trace (state_at c.send_to_tag.new.machines)))
    c.machines.view_is sent.1)

pub returns-then-is_tag-clause-memory : goal.returns-then-is_tag-clause-memory
returns-then-is_tag-clause-memory c =
    let old : Machines = the_view c.machines.inside in
    let settled : IsSettled old = subst IsSettled (sym c.machines.view_is) c.requires.settled in
    let unlinked : old.link ≡ None = ap (λ (m : Machines). m.link) c.machines.view_is ∙ c.requires.unlinked in
    let counts : List ℕ = c.joins.inside.far in
    let J : Joins = record { own = []; far = counts } in
    let S : Selection → Type 0 = λ s. SelectsTo c.args.id.now s (moment old.air) (moment c.select.new.field) in
    let s : SelectsAt c.args.id.now c.in-Place.place (moment old.air) (moment c.select.new.field) = subst S c.in-Place.is c.in-Ok.ensures.ok in
    let found = looked_at c.select.new.field c.in-Place.place s.device s.stands c.devices.result.now c.index-devices-place.result c.devices.ensures c.index-devices-place.is in
    let may : MayRaw (state_at old) c.args.id.now c.args.frames.now = subst (λ (m : Machines). MayRaw (state_at m) c.args.id.now c.args.frames.now) (sym c.machines.view_is) c.requires.frames in
    let tag : is_tag s.device ≡ true = sym (ap is_tag found) ∙ sym c.is_tag.ensures ∙ c.if-is_tag.true in
    let sent = tag_sent old settled unlinked c.args.id.now c.args.frames.now counts may c.select.new.field c.in-Place.place s tag c.send_to_tag.new.machines c.send_to_tag.result
    c.send_to_tag.ensures.none c.send_to_tag.ensures.some in
    sent.2

pub returns-clause-ok : goal.returns-clause-ok
returns-clause-ok c =
    let old : Machines = the_view c.machines.inside in
    let settled : IsSettled old = subst IsSettled (sym c.machines.view_is) c.requires.settled in
    let unlinked : old.link ≡ None = ap (λ (m : Machines). m.link) c.machines.view_is ∙ c.requires.unlinked in
    let counts : List ℕ = c.joins.inside.far in
    let J : Joins = record { own = []; far = counts } in
    let S : Selection → Type 0 = λ s. SelectsTo c.args.id.now s (moment old.air) (moment c.select.new.field) in
    let s : SelectsAt c.args.id.now c.in-Place.place (moment old.air) (moment c.select.new.field) = subst S c.in-Place.is c.in-Ok.ensures.ok in
    let found = looked_at c.select.new.field c.in-Place.place s.device s.stands c.devices.result.now c.index-devices-place.result c.devices.ensures c.index-devices-place.is in
    let may : MayRaw (state_at old) c.args.id.now c.args.frames.now = subst (λ (m : Machines). MayRaw (state_at m) c.args.id.now c.args.frames.now) (sym c.machines.view_is) c.requires.frames in
    let peer : is_tag s.device ≡ false = sym (ap is_tag found) ∙ sym c.is_tag.ensures ∙ c.if-is_tag.false in
    let sent = peer_sent old settled unlinked c.args.id.now c.args.frames.now counts may c.select.new.field c.in-Place.place s peer
    (peer_served old settled unlinked c.args.id.now c.args.frames.now counts may c.select.new.field c.in-Place.place s peer) c.send_to_peer.result c.send_to_peer.new.machines
    c.send_to_peer.ensures in
    let T : Joins → Type 0 =
    λ j. IfOk c.send_to_peer.result (λ a. ObeyedBy (record { own = []; far = j.far }) c.args.machines.now c.send_to_peer.new.machines (Raw c.args.id.now c.args.frames.now) a) in
    subst T c.joins.view_is (subst (λ m. IfOk c.send_to_peer.result (λ a. ObeyedBy J m c.send_to_peer.new.machines (Raw c.args.id.now c.args.frames.now) a)) c.machines.view_is sent.0)

pub returns-clause-cut : goal.returns-clause-cut
returns-clause-cut c =
    let old : Machines = the_view c.machines.inside in
    let settled : IsSettled old = subst IsSettled (sym c.machines.view_is) c.requires.settled in
    let unlinked : old.link ≡ None = ap (λ (m : Machines). m.link) c.machines.view_is ∙ c.requires.unlinked in
    let counts : List ℕ = c.joins.inside.far in
    let J : Joins = record { own = []; far = counts } in
    let S : Selection → Type 0 = λ s. SelectsTo c.args.id.now s (moment old.air) (moment c.select.new.field) in
    let s : SelectsAt c.args.id.now c.in-Place.place (moment old.air) (moment c.select.new.field) = subst S c.in-Place.is c.in-Ok.ensures.ok in
    let found = looked_at c.select.new.field c.in-Place.place s.device s.stands c.devices.result.now c.index-devices-place.result c.devices.ensures c.index-devices-place.is in
    let may : MayRaw (state_at old) c.args.id.now c.args.frames.now = subst (λ (m : Machines). MayRaw (state_at m) c.args.id.now c.args.frames.now) (sym c.machines.view_is) c.requires.frames in
    let peer : is_tag s.device ≡ false = sym (ap is_tag found) ∙ sym c.is_tag.ensures ∙ c.if-is_tag.false in
    let sent = peer_sent old settled unlinked c.args.id.now c.args.frames.now counts may c.select.new.field c.in-Place.place s peer
    (peer_served old settled unlinked c.args.id.now c.args.frames.now counts may c.select.new.field c.in-Place.place s peer) c.send_to_peer.result c.send_to_peer.new.machines
    c.send_to_peer.ensures in
    let stops : Joins → Machines → Type 0 =
    λ j m. OnErr c.send_to_peer.result (RawStops (record { own = []; far = j.far }) (state_at m) (Raw c.args.id.now c.args.frames.now) c.send_to_peer.new.machines.air.trace
    (state_at c.send_to_peer.new.machines)) in
    subst (λ j. stops j c.args.machines.now) c.joins.view_is
    (subst (λ m. OnErr c.send_to_peer.result (RawStops J (state_at m) (Raw c.args.id.now c.args.frames.now) c.send_to_peer.new.machines.air.trace (state_at c.send_to_peer.new.machines)))
    c.machines.view_is sent.1)

pub returns-clause-memory : goal.returns-clause-memory
returns-clause-memory c =
    let old : Machines = the_view c.machines.inside in
    let settled : IsSettled old = subst IsSettled (sym c.machines.view_is) c.requires.settled in
    let unlinked : old.link ≡ None = ap (λ (m : Machines). m.link) c.machines.view_is ∙ c.requires.unlinked in
    let counts : List ℕ = c.joins.inside.far in
    let J : Joins = record { own = []; far = counts } in
    let S : Selection → Type 0 = λ s. SelectsTo c.args.id.now s (moment old.air) (moment c.select.new.field) in
    let s : SelectsAt c.args.id.now c.in-Place.place (moment old.air) (moment c.select.new.field) = subst S c.in-Place.is c.in-Ok.ensures.ok in
    let found = looked_at c.select.new.field c.in-Place.place s.device s.stands c.devices.result.now c.index-devices-place.result c.devices.ensures c.index-devices-place.is in
    let may : MayRaw (state_at old) c.args.id.now c.args.frames.now = subst (λ (m : Machines). MayRaw (state_at m) c.args.id.now c.args.frames.now) (sym c.machines.view_is) c.requires.frames in
    let peer : is_tag s.device ≡ false = sym (ap is_tag found) ∙ sym c.is_tag.ensures ∙ c.if-is_tag.false in
    let sent = peer_sent old settled unlinked c.args.id.now c.args.frames.now counts may c.select.new.field c.in-Place.place s peer
    (peer_served old settled unlinked c.args.id.now c.args.frames.now counts may c.select.new.field c.in-Place.place s peer) c.send_to_peer.result c.send_to_peer.new.machines
    c.send_to_peer.ensures in
    sent.2
