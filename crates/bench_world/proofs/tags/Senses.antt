-- Type 3 tags were searched for.
use Rattle.std.proofs.Common.{◌≡◌, [], IsSome, ◌⊎◌, Some, None, Result, Ok, Err, refl, ◌∙◌, ap, inl, inr}
use Rattle.air_core.specs.World.{World}
use Rattle.air_core.specs.Turn.{Air, moment}
use Rattle.air_core.specs.Conversation.{Moment, Going, replay}
use Rattle.nfca_poll.specs.declared.fault.PollFault.{PollFault}
use Rattle.nfca_poll.specs.declared.fault.PollFault.TheVariants as faults
use Rattle.t3t_access.specs.declared.polling.Fcrowd.{Fcrowd}
use Rattle.bench_script.specs.declared.command.Command.TheVariants.{Poll3}
use Rattle.bench_devices.specs.declared.device.Device.{Device}
use Rattle.bench_devices.specs.Device.{air}
use Rattle.bench_devices.specs.Keeping.{NoStore}
use Rattle.bench_devices.specs.Phases.{AskedPart, IsIdle}
use Rattle.bench_devices.specs.Polling.{asks}
use Rattle.bench_devices.specs.Sensing.{sensing, Senses, SensesField, SensingCut}
use Rattle.bench_world.specs.declared.entry.Answer.{Answer}
use Rattle.bench_world.specs.Answering.{poll_answer, sensed_answer}
use Rattle.bench_world.specs.Legal.{due}
use Rattle.bench_world.specs.Obeying.{ObeyedUnlinked, CutOffUnlinked}
use Rattle.bench_world.proofs.tags.Fronts.{stable_behind}
use Rattle.bench_world.proofs.tags.Legality.{above, asks_for, asks_obeyed, front_of, none_in, part_stays, stores_stay}
use Rattle.bench_world.proofs.devices.Placed.{Upon}

pub sense_obeyed : (old new : Air Device) (r : Result Fcrowd PollFault) (answer : Answer) → IsIdle old → Senses (moment old) (moment new) r → sensed_answer r ≡ Some answer
    → ObeyedUnlinked old new Poll3 answer
sense_obeyed old new r answer idle s told = λ ends peers places.
    let os : Upon = record { ends = ends; peers = peers; link = None } in
    let g : Going air (due (above os old) (asks_for []) Poll3) (moment old) (moment new) s.asked.notes = s.asked.going in
    let world : (moment new).world ≡ replay air (moment old).world g.events = ap (λ (t : Moment (World Device)). t.world) g.moment in
    asks_obeyed NoStore Poll3 (λ h. h) os old new [] s.asked.notes answer idle places tt tt refl g s.asked.over refl
    (record {
      tells = record { found = r; told = ap sensing s.asked.going.known ∙ s.told; heard = s.heard; cause = s.cause; lost = s.lost; answered = told };
      stays = stable_behind (moment old).world g.events os.ends (none_in Poll3 (λ h. h) os old new [] s.asked.notes g refl) (stores_stay old new g.events world s.asked.same);
    }) s.asked.same

pub sense_cut : (old new : Air Device) → IsIdle old → AskedPart NoStore (λ ns. asks (sensing ns)) (moment old) (moment new) → CutOffUnlinked old new Poll3
sense_cut old new idle part = λ ends peers.
    let os : Upon = record { ends = ends; peers = peers; link = None } in (
      asks_for [],
      refl,
      front_of None Poll3 (λ h. h) os old new [] part.notes idle tt refl part.going refl,
      part_stays os.ends old new part.going.events idle part.going.moment part.same (none_in Poll3 (λ h. h) os old new [] part.notes part.going refl),
    )

-- so much was asked, whatever it came to
part_of : (old new : Moment (World Device)) (r : Result Fcrowd PollFault) → Senses old new r → AskedPart NoStore (λ ns. asks (sensing ns)) old new
part_of old new r s = record { notes = s.asked.notes; going = s.asked.going; same = s.asked.same }

pub sense_part : (old new : Moment (World Device)) (r : Result Fcrowd PollFault) → SensesField old new r → SensingCut old new r → AskedPart NoStore (λ ns. asks (sensing ns)) old new
sense_part old new (Ok found) tells cut = part_of old new (Ok found) (tells (λ e. cc))
sense_part old new (Err faults.Nobody) tells cut = part_of old new (Err faults.Nobody) (tells (λ e. cc))
sense_part old new (Err faults.Disturbed) tells cut = part_of old new (Err faults.Disturbed) (tells (λ e. cc))
sense_part old new (Err faults.FieldLost) tells cut = part_of old new (Err faults.FieldLost) (tells (λ e. cc))
sense_part old new (Err faults.Memory) tells cut = cut refl
sense_part old new (Err faults.NotFound) tells cut = part_of old new (Err faults.NotFound) (tells (λ e. cc))
sense_part old new (Err faults.BadAnswer) tells cut = part_of old new (Err faults.BadAnswer) (tells (λ e. cc))

pub sense_fed : (e : PollFault) (answer : Answer) → poll_answer e ≡ Some answer → ◌≡◌ {A = Result Fcrowd PollFault} (Err e) (Err faults.Memory) → ⊥
sense_fed faults.Nobody answer told m = cc
sense_fed faults.Disturbed answer told m = cc
sense_fed faults.FieldLost answer told m = cc
sense_fed faults.Memory answer told m = cc
sense_fed faults.NotFound answer told m = cc
sense_fed faults.BadAnswer answer told m = cc

-- the faults by which it may end
pub may_sense : (old new : Moment (World Device)) (e : PollFault) → SensesField old new (Err e) → IsSome (poll_answer e) ⊎ (e ≡ faults.Memory)
may_sense old new faults.Nobody tells = let s : Senses old new (Err faults.Nobody) = tells (λ e. cc) in absurd s.cause
may_sense old new faults.Disturbed tells = inl refl
may_sense old new faults.FieldLost tells = inl refl
may_sense old new faults.Memory tells = inr refl
may_sense old new faults.NotFound tells = inl refl
may_sense old new faults.BadAnswer tells = let s : Senses old new (Err faults.BadAnswer) = tells (λ e. cc) in absurd s.cause
