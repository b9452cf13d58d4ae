use Rattle.std.proofs.Common.{◌≡◌, ℕ, List, Option, Result, Ok, Err, OnErr, IsErrOf, rules, sym, subst, map}
use Rattle.far_air.specs.FarEnds.{rests}
use Rattle.peer_air.specs.PeerFars.{peer_ends}
use Rattle.bench_world.specs.declared.bench.ObeyFault.{ObeyFault}
use Rattle.bench_world.specs.declared.bench.ObeyFault.TheVariants as faults
use Rattle.bench_world.specs.declared.entry.Answer.{Answer}
use Rattle.bench_script.specs.declared.command.Command.{Command}
use Rattle.bench_script.specs.declared.command.Command.TheVariants.{Raw}
use Rattle.bench_world.specs.Legal.{Accepts, joins_for}
use Rattle.bench_world.specs.Obeying.{Machines, IsCutOffBy, under, state_at}
use Rattle.bench_world.specs.declared.inbox.LinkRange.{LinkRange}
use Rattle.bench_world.specs.World.{FarEnd}
use Rattle.bench_world.specs.Peers.{Peers}
use Rattle.bench_world.proofs.bench.run_command.Goals as goal

-- the peers of these numbers, above which these far ends were taken away, with these links
abbrev peers_of : List (Option ℕ) → List (Option FarEnd) → List LinkRange → Peers
peers_of numbers gone links = record { numbers = numbers; gone = map (rests peer_ends) gone; links = links }

-- what holds of each error holds of this one
of_err : {P : Type 0} (r : Result Answer ObeyFault) → IsErrOf r faults.Memory → OnErr r P → P
of_err (Ok a) e p = absurd (let clash : ◌≡◌ {A = Result Answer ObeyFault} (Ok a) (Err faults.Memory) = e in cc)
of_err (Err x) e p = p

pub returns-in-Lock-clause-cause : goal.returns-in-Lock-clause-cause
returns-in-Lock-clause-cause c = λ e has.
    let peers : Peers = peers_of c.machines-in-Lock.inside.numbers.items c.machines-in-Lock.inside.gone.items c.machines-in-Lock.inside.links.items in
    let m : Machines = under c.machines-in-Lock.inside.ends.items peers c.machines-in-Lock.inside.link c.machines-in-Lock.inside.field in
    let is : c.args.machines.now ≡ m = search rules in
    let A : Machines → Command → Type 0 = λ x y. Accepts (state_at x) y in
    c.lock_block.ensures.cause e m.ends m.peers m.link (subst (A m) c.in-Lock.is (subst (λ x. A x c.args.command.now) is has))

pub returns-in-Busy-clause-cause : goal.returns-in-Busy-clause-cause
returns-in-Busy-clause-cause c = λ e has.
    let peers : Peers = peers_of c.machines-in-Busy.inside.numbers.items c.machines-in-Busy.inside.gone.items c.machines-in-Busy.inside.links.items in
    let m : Machines = under c.machines-in-Busy.inside.ends.items peers c.machines-in-Busy.inside.link c.machines-in-Busy.inside.field in
    let is : c.args.machines.now ≡ m = search rules in
    let A : Machines → Command → Type 0 = λ x y. Accepts (state_at x) y in
    c.set_busy.ensures.cause e m.ends m.peers m.link (subst (A m) c.in-Busy.is (subst (λ x. A x c.args.command.now) is has))

pub returns-in-Dump-clause-cause : goal.returns-in-Dump-clause-cause
returns-in-Dump-clause-cause c = λ e has.
    let peers : Peers = peers_of c.machines-in-Dump.inside.numbers.items c.machines-in-Dump.inside.gone.items c.machines-in-Dump.inside.links.items in
    let m : Machines = under c.machines-in-Dump.inside.ends.items peers c.machines-in-Dump.inside.link c.machines-in-Dump.inside.field in
    let is : c.args.machines.now ≡ m = search rules in
    let A : Machines → Command → Type 0 = λ x y. Accepts (state_at x) y in
    c.dump_store.ensures.cause e m.ends m.peers m.link (subst (A m) c.in-Dump.is (subst (λ x. A x c.args.command.now) is has))

pub returns-in-Find-clause-cut : goal.returns-in-Find-clause-cut
returns-in-Find-clause-cut c = λ e.
    subst (λ x. IsCutOffBy (joins_for x c.args.joins) c.args.machines.now c.find.new.machines x) (sym c.in-Find.is) (of_err c.find.result e c.find.ensures.cut)

pub returns-in-Crowd-clause-cut : goal.returns-in-Crowd-clause-cut
returns-in-Crowd-clause-cut c = λ e.
    subst (λ x. IsCutOffBy (joins_for x c.args.joins) c.args.machines.now c.find_tags.new.machines x) (sym c.in-Crowd.is) (of_err c.find_tags.result e c.find_tags.ensures.cut)

pub returns-in-Poll3-clause-cut : goal.returns-in-Poll3-clause-cut
returns-in-Poll3-clause-cut c = λ e.
    subst (λ x. IsCutOffBy (joins_for x c.args.joins) c.args.machines.now c.find_threes.new.machines x) (sym c.in-Poll3.is) (of_err c.find_threes.result e c.find_threes.ensures.cut)

pub returns-in-Read-clause-cut : goal.returns-in-Read-clause-cut
returns-in-Read-clause-cut c = λ e.
    subst (λ x. IsCutOffBy (joins_for x c.args.joins) c.args.machines.now c.read_tag.new.machines x) (sym c.in-Read.is) (of_err c.read_tag.result e c.read_tag.ensures.cut)

pub returns-in-Write-clause-cut : goal.returns-in-Write-clause-cut
returns-in-Write-clause-cut c = λ e.
    subst (λ x. IsCutOffBy (joins_for x c.args.joins) c.args.machines.now c.write_message.new.machines x) (sym c.in-Write.is) (of_err c.write_message.result e c.write_message.ensures.cut)

pub returns-in-Read3-clause-cut : goal.returns-in-Read3-clause-cut
returns-in-Read3-clause-cut c = λ e.
    subst (λ x. IsCutOffBy (joins_for x c.args.joins) c.args.machines.now c.read_tag_three.new.machines x) (sym c.in-Read3.is) (of_err c.read_tag_three.result e c.read_tag_three.ensures.cut)

pub returns-in-Write3-clause-cut : goal.returns-in-Write3-clause-cut
returns-in-Write3-clause-cut c = λ e.
    subst (λ x. IsCutOffBy (joins_for x c.args.joins) c.args.machines.now c.write_tag_three.new.machines x) (sym c.in-Write3.is) (of_err c.write_tag_three.result e c.write_tag_three.ensures.cut)

pub returns-in-Raw-clause-cut : goal.returns-in-Raw-clause-cut
returns-in-Raw-clause-cut c = λ e.
    let C : Command → Type 0 = λ x. IsCutOffBy (joins_for x c.args.joins) c.args.machines.now c.raw.new.machines x in
    subst C (sym c.in-Raw.is) (subst (λ fs. C (Raw c.in-Raw.id fs)) c.as_slice-in-Raw.ensures (c.raw.ensures.cut e))

pub returns-in-Put-clause-cut : goal.returns-in-Put-clause-cut
returns-in-Put-clause-cut c = λ e.
    subst (λ x. IsCutOffBy (joins_for x c.args.joins) c.args.machines.now c.put.new.machines x) (sym c.in-Put.is) (c.put.ensures.cut e)
