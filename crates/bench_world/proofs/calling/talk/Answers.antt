use Rattle.std.proofs.Common.{rules, ◌≡◌, Result, Ok, Err, IfOk, IsErr, Some, refl, sym, subst, map}
use Rattle.far_air.specs.FarEnds.{rests}
use Rattle.peer_air.specs.PeerFars.{peer_ends}
use Rattle.link_calls.specs.Asking.{asking_of}
use Rattle.bench_script.specs.declared.command.Command.{Command}
use Rattle.bench_world.specs.declared.bench.ObeyFault.{ObeyFault}
use Rattle.bench_world.specs.declared.entry.Answer.{Answer}
use Rattle.bench_world.specs.declared.entry.Answer.TheVariants as answers
use Rattle.bench_world.specs.Asked.{asked_on_link}
use Rattle.bench_world.specs.Legal.{Accepts, Joins}
use Rattle.bench_world.specs.Links.{OpenLink}
use Rattle.bench_world.specs.private.LinkTaken.{TakesLink, fault_told, put_back, put_down}
use Rattle.bench_world.specs.Obeying.{Machines, IsCutOffBy, ObeyedBy, state_at, under}
use Rattle.bench_world.specs.Peers.{Peers}
use Rattle.bench_world.proofs.open_link.TalkOver.{asked_closed, asked_cut, asked_ended, asked_told, nowhere}
use Rattle.bench_world.proofs.calling.talk.Goals as goal

-- what holds of each such command by what is told
of_each : (r : Result Answer ObeyFault) (A B : Command → Type 0) (P : Answer → Command → Type 0) → ((x : Command) → A x → B x → IfOk r (λ a. P a x)) → IfOk r (λ a. (x : Command) → A x → B x → P a x)
of_each (Ok a) A B P f = f
of_each (Err e) A B P f = tt

pub returns-in_default-take_link-clause-ok : goal.returns-in_default-take_link-clause-ok
returns-in_default-take_link-clause-ok c = λ x asks may.
    nowhere c.args.machines.now c.take_link.new.machines c.requires.settled (c.in_default-take_link.ensures.none refl).0 (c.in_default-take_link.ensures.none refl).1 c.args.joins x
    (asking_of c.args.request.now) asks may

pub returns-in-Err-clause-ok : goal.returns-in-Err-clause-ok
returns-in-Err-clause-ok c =
    let peers : Peers = record { numbers = c.machines.inside.numbers.items; gone = map (rests peer_ends) c.machines.inside.gone.items; links = c.machines.inside.links.items } in
    let mid : Machines = under c.machines.inside.ends.items peers c.machines.inside.link c.machines.inside.field in
    let is : c.take_link.new.machines ≡ mid = search rules in
    let l : OpenLink = record { peer = c.in-Some.on.peer; initiator = c.in-Some.on.initiator; client = c.in-Some.on.client.llc; slots = c.in-Some.on.client.slots } in
    let t : TakesLink c.args.machines.now c.in-Some.on.place l c.in-Some.on.far.end mid =
    subst (TakesLink c.args.machines.now c.in-Some.on.place l c.in-Some.on.far.end) is c.in-Some.ensures.some in
    let joins : Joins = record { own = c.joins.inside.own; far = c.joins.inside.far } in
    let same : c.args.joins ≡ joins = search rules in
    let counts : c.in-Some.on.far.numbers ≡ joins.far = search rules in
    let left : c.put_down.new.machines ≡ put_down (under mid.ends mid.peers mid.link c.call_on.new.field) c.in-Some.on.place c.call_on.new.far.end = search rules in
    subst (λ r. IfOk r (λ a. (x : Command) → asked_on_link x ≡ Some (asking_of c.args.request.now) → Accepts (state_at c.args.machines.now) x
    → ObeyedBy c.args.joins c.args.machines.now c.put_down.new.machines x a)) (sym c.fault_told.ensures)
    (of_each (fault_told c.in-Err.fault) (λ x. asked_on_link x ≡ Some (asking_of c.args.request.now)) (Accepts (state_at c.args.machines.now))
    (λ a x. ObeyedBy c.args.joins c.args.machines.now c.put_down.new.machines x a)
    (λ x asks may. subst (λ j. IfOk (fault_told c.in-Err.fault) (λ a. ObeyedBy j c.args.machines.now c.put_down.new.machines x a)) (sym same)
    (asked_told c.args.machines.now mid c.requires.settled c.in-Some.on.place l c.in-Some.on.far t joins counts c.call_on.new.field c.call_on.new.initiator c.call_on.new.far c.call_on.new.client.llc
    c.call_on.new.client.slots x may c.put_down.new.machines c.args.request.now c.in-Err.fault asks left c.in-Err.ensures.called)))

pub returns-in-Err-clause-cut : goal.returns-in-Err-clause-cut
returns-in-Err-clause-cut c = λ err x asks may.
    let peers : Peers = record { numbers = c.machines.inside.numbers.items; gone = map (rests peer_ends) c.machines.inside.gone.items; links = c.machines.inside.links.items } in
    let mid : Machines = under c.machines.inside.ends.items peers c.machines.inside.link c.machines.inside.field in
    let is : c.take_link.new.machines ≡ mid = search rules in
    let l : OpenLink = record { peer = c.in-Some.on.peer; initiator = c.in-Some.on.initiator; client = c.in-Some.on.client.llc; slots = c.in-Some.on.client.slots } in
    let t : TakesLink c.args.machines.now c.in-Some.on.place l c.in-Some.on.far.end mid =
    subst (TakesLink c.args.machines.now c.in-Some.on.place l c.in-Some.on.far.end) is c.in-Some.ensures.some in
    let joins : Joins = record { own = c.joins.inside.own; far = c.joins.inside.far } in
    let same : c.args.joins ≡ joins = search rules in
    let counts : c.in-Some.on.far.numbers ≡ joins.far = search rules in
    let left : c.put_down.new.machines ≡ put_down (under mid.ends mid.peers mid.link c.call_on.new.field) c.in-Some.on.place c.call_on.new.far.end = search rules in
    subst (λ j. IsCutOffBy j c.args.machines.now c.put_down.new.machines x) (sym same)
    (asked_cut c.args.machines.now mid c.requires.settled c.in-Some.on.place l c.in-Some.on.far t joins counts c.call_on.new.field c.call_on.new.initiator c.call_on.new.far c.call_on.new.client.llc
    c.call_on.new.client.slots x may c.put_down.new.machines c.args.request.now c.in-Err.fault asks left c.in-Err.ensures.called (subst IsErr c.fault_told.ensures err))

pub returns-then-closes-clause-ok : goal.returns-then-closes-clause-ok
returns-then-closes-clause-ok c = λ x asks may.
    let peers : Peers = record { numbers = c.machines.inside.numbers.items; gone = map (rests peer_ends) c.machines.inside.gone.items; links = c.machines.inside.links.items } in
    let mid : Machines = under c.machines.inside.ends.items peers c.machines.inside.link c.machines.inside.field in
    let is : c.take_link.new.machines ≡ mid = search rules in
    let l : OpenLink = record { peer = c.in-Some.on.peer; initiator = c.in-Some.on.initiator; client = c.in-Some.on.client.llc; slots = c.in-Some.on.client.slots } in
    let t : TakesLink c.args.machines.now c.in-Some.on.place l c.in-Some.on.far.end mid =
    subst (TakesLink c.args.machines.now c.in-Some.on.place l c.in-Some.on.far.end) is c.in-Some.ensures.some in
    let joins : Joins = record { own = c.joins.inside.own; far = c.joins.inside.far } in
    let same : c.args.joins ≡ joins = search rules in
    let counts : c.in-Some.on.far.numbers ≡ joins.far = search rules in
    let left : c.put_down-then-closes.new.machines ≡ put_down (under mid.ends mid.peers mid.link c.call_on.new.field) c.in-Some.on.place c.call_on.new.far.end = search rules in
    subst (λ j. ObeyedBy j c.args.machines.now c.put_down-then-closes.new.machines x answers.Unlinked) (sym same)
    (asked_closed c.args.machines.now mid c.requires.settled c.in-Some.on.place l c.in-Some.on.far t joins counts c.call_on.new.field c.call_on.new.initiator c.call_on.new.far c.call_on.new.client.llc
    c.call_on.new.client.slots x may c.put_down-then-closes.new.machines c.args.request.now c.in-Ok-call_on.ending asks (search rules) left c.in-Ok-call_on.ensures.called)

pub returns-else-closes-clause-ok : goal.returns-else-closes-clause-ok
returns-else-closes-clause-ok c = λ x asks may.
    let peers : Peers = record { numbers = c.machines.inside.numbers.items; gone = map (rests peer_ends) c.machines.inside.gone.items; links = c.machines.inside.links.items } in
    let mid : Machines = under c.machines.inside.ends.items peers c.machines.inside.link c.machines.inside.field in
    let is : c.take_link.new.machines ≡ mid = search rules in
    let l : OpenLink = record { peer = c.in-Some.on.peer; initiator = c.in-Some.on.initiator; client = c.in-Some.on.client.llc; slots = c.in-Some.on.client.slots } in
    let t : TakesLink c.args.machines.now c.in-Some.on.place l c.in-Some.on.far.end mid =
    subst (TakesLink c.args.machines.now c.in-Some.on.place l c.in-Some.on.far.end) is c.in-Some.ensures.some in
    let joins : Joins = record { own = c.joins.inside.own; far = c.joins.inside.far } in
    let same : c.args.joins ≡ joins = search rules in
    let counts : c.in-Some.on.far.numbers ≡ joins.far = search rules in
    let left : c.put_back.new.machines ≡ put_back (under mid.ends mid.peers mid.link c.call_on.new.field) c.in-Some.on.place c.call_on.new.far.end
    (record { peer = l.peer; initiator = c.call_on.new.initiator; client = c.call_on.new.client.llc; slots = c.call_on.new.client.slots }) = search rules in
    subst (λ j. ObeyedBy j c.args.machines.now c.put_back.new.machines x c.answer_to-answer.result) (sym same)
    (subst (λ a. ObeyedBy joins c.args.machines.now c.put_back.new.machines x a) (sym c.answer_to-answer.ensures)
    (asked_ended c.args.machines.now mid c.requires.settled c.in-Some.on.place l c.in-Some.on.far t joins counts c.call_on.new.field c.call_on.new.initiator c.call_on.new.far c.call_on.new.client.llc
    c.call_on.new.client.slots x may c.put_back.new.machines c.args.request.now c.in-Ok-call_on.ending asks (search rules) c.requires.may c.in-Some.ensures.rest left
    c.in-Ok-call_on.ensures.called))
