use Rattle.std.proofs.Common.{◌≡◌, ◌+◌, ◌++◌, [], ◌∷◌, ℕ, List, sym, ◌∙◌, subst, ap, length, refl, arith}
use Rattle.nfc_base.specs.declared.event.Event.{Event}
use Rattle.bench_world.specs.declared.entry.Entry.{Entry}
use Rattle.bench_world.specs.declared.following.Followed.{Followed}
use Rattle.bench_world.specs.declared.following.Followed.TheVariants.{Whole, Front}
use Rattle.bench_world.specs.Following.{Follows, FollowsAll, FollowsFront}
use Rattle.bench_world.specs.Obeying.{Benched}
use Rattle.trace_audit.specs.ReadEvents.{AreRead}
use Rattle.trace_audit.specs.private.Stepping.{ComesBehind}
use Rattle.trace_audit.proofs.Steps.{follows_one, whole_step, front_step, room_behind, room_on, last_is}
use Rattle.trace_audit.proofs.stepping.follow_line.Goals as goal

-- so many events were read
pub overflow_cast-events : goal.overflow_cast-events
overflow_cast-events c =
    let read : AreRead c.args.line c.args.command.now c.args.walk.left.now c.as_slice-events.result.now c.in-Ok.read.left.now =
    subst (λ (es : List Event). AreRead c.args.line c.args.command.now c.args.walk.left.now es c.in-Ok.read.left.now) (sym c.as_slice-events.ensures.value) c.in-Ok.ensures in
    let room = room_behind c.args.bench.now c.follow.new.self c.args.line c.args.command.now c.args.walk.left.now c.as_slice-events.result.now c.in-Ok.read.left.now read
    (length c.as_slice-events.result.now) (omega arith) in
    omega (arith, room, c.requires.room)

pub overflow_add-walk : goal.overflow_add-walk
overflow_add-walk c =
    let read : AreRead c.args.line c.args.command.now c.args.walk.left.now c.as_slice-events.result.now c.in-Ok.read.left.now =
    subst (λ (es : List Event). AreRead c.args.line c.args.command.now c.args.walk.left.now es c.in-Ok.read.left.now) (sym c.as_slice-events.ensures.value) c.in-Ok.ensures in
    let room = room_behind c.args.bench.now c.follow.new.self c.args.line c.args.command.now c.args.walk.left.now c.as_slice-events.result.now c.in-Ok.read.left.now read
    (length c.as_slice-events.result.now) (omega arith) in
    omega (arith, room, c.requires.room)

pub behind_events-requires : goal.behind_events-requires
behind_events-requires c =
    let read : AreRead c.args.line c.args.command.now c.args.walk.left.now c.as_slice-events.result.now c.in-Ok.read.left.now =
    subst (λ (es : List Event). AreRead c.args.line c.args.command.now c.args.walk.left.now es c.in-Ok.read.left.now) (sym c.as_slice-events.ensures.value) c.in-Ok.ensures in
    let room = room_behind c.args.bench.now c.follow.new.self c.args.line c.args.command.now c.args.walk.left.now c.as_slice-events.result.now c.in-Ok.read.left.now read
    (length c.as_slice-events.result.now) (omega arith) in
    omega (arith, room, c.requires.room)

pub returns-in-Whole-clause-ok : goal.returns-in-Whole-clause-ok
returns-in-Whole-clause-ok c =
    let old : Benched = c.args.bench.now in
    let new : Benched = c.follow.new.self in
    let events : List Event = c.as_slice-events.result.now in
    let behind : List ℕ = c.in-Ok.read.left.now in
    let read : AreRead c.args.line c.args.command.now c.args.walk.left.now c.as_slice-events.result.now c.in-Ok.read.left.now =
    subst (λ (es : List Event). AreRead c.args.line c.args.command.now c.args.walk.left.now es c.in-Ok.read.left.now) (sym c.as_slice-events.ensures.value) c.in-Ok.ensures in
    let told : Follows Whole old new c.args.line c.args.command.now events =
    subst (λ (f : Followed). Follows f old new c.args.line c.args.command.now events) c.in-Whole.is c.in_ok-follow.ensures.ok in
    let follows : FollowsAll old new c.args.line c.args.command.now events = follows_one Whole old new c.args.line c.args.command.now events c.requires.asks told in
    let journal : c.journal.result.now ≡ old.journal ++ follows.entry ∷ [] = c.journal.ensures ∙ ap (λ (b : Benched). b.journal) follows.is in
    let entry : c.in-Some.entry.now ≡ follows.entry = last_is c.journal.result.now old.journal follows.entry c.in-Some.entry.now journal c.in-Some.ensures.item.1 in
    let comes : ComesBehind follows.entry (c.args.walk.good + length events) behind c.behind_events.result =
    subst (λ (e : Entry). ComesBehind e (c.args.walk.good + length events) behind c.behind_events.result) entry c.behind_events.ensures in
    let step = whole_step old new c.args.line c.args.command.now c.args.walk.left.now events behind read follows c.behind_events.result c.args.walk.good comes in
    record { lines = step.0; good = step.1; step = step.2 }

pub returns-in-Whole-clause-room : goal.returns-in-Whole-clause-room
returns-in-Whole-clause-room c =
    let read : AreRead c.args.line c.args.command.now c.args.walk.left.now c.as_slice-events.result.now c.in-Ok.read.left.now =
    subst (λ (es : List Event). AreRead c.args.line c.args.command.now c.args.walk.left.now es c.in-Ok.read.left.now) (sym c.as_slice-events.ensures.value) c.in-Ok.ensures in
    room_on c.args.bench.now c.follow.new.self c.args.line c.args.command.now c.args.walk.left.now c.as_slice-events.result.now c.in-Ok.read.left.now read c.in-Some.entry.now c.args.walk.good
    c.behind_events.result c.behind_events.ensures

pub overflow_cast-result : goal.overflow_cast-result
overflow_cast-result c =
    let read : AreRead c.args.line c.args.command.now c.args.walk.left.now c.as_slice-events.result.now c.in-Ok.read.left.now =
    subst (λ (es : List Event). AreRead c.args.line c.args.command.now c.args.walk.left.now es c.in-Ok.read.left.now) (sym c.as_slice-events.ensures.value) c.in-Ok.ensures in
    let events : List Event = c.as_slice-events.result.now in
    let told : Follows (Front c.in-Front.good) c.args.bench.now c.follow.new.self c.args.line c.args.command.now events =
    subst (λ (f : Followed). Follows f c.args.bench.now c.follow.new.self c.args.line c.args.command.now events) c.in-Front.is c.in_ok-follow.ensures.ok in
    let follows : FollowsFront c.args.bench.now c.follow.new.self c.args.line c.args.command.now events c.in-Front.good =
    follows_one (Front c.in-Front.good) c.args.bench.now c.follow.new.self c.args.line c.args.command.now events c.requires.asks told in
    let room = room_behind c.args.bench.now c.follow.new.self c.args.line c.args.command.now c.args.walk.left.now c.as_slice-events.result.now c.in-Ok.read.left.now read c.in-Front.good
    follows.within in
    omega (arith, room, c.requires.room)

pub overflow_add-result : goal.overflow_add-result
overflow_add-result c =
    let read : AreRead c.args.line c.args.command.now c.args.walk.left.now c.as_slice-events.result.now c.in-Ok.read.left.now =
    subst (λ (es : List Event). AreRead c.args.line c.args.command.now c.args.walk.left.now es c.in-Ok.read.left.now) (sym c.as_slice-events.ensures.value) c.in-Ok.ensures in
    let events : List Event = c.as_slice-events.result.now in
    let told : Follows (Front c.in-Front.good) c.args.bench.now c.follow.new.self c.args.line c.args.command.now events =
    subst (λ (f : Followed). Follows f c.args.bench.now c.follow.new.self c.args.line c.args.command.now events) c.in-Front.is c.in_ok-follow.ensures.ok in
    let follows : FollowsFront c.args.bench.now c.follow.new.self c.args.line c.args.command.now events c.in-Front.good =
    follows_one (Front c.in-Front.good) c.args.bench.now c.follow.new.self c.args.line c.args.command.now events c.requires.asks told in
    let room = room_behind c.args.bench.now c.follow.new.self c.args.line c.args.command.now c.args.walk.left.now c.as_slice-events.result.now c.in-Ok.read.left.now read c.in-Front.good
    follows.within in
    omega (arith, room, c.requires.room)

pub returns-clause-ok : goal.returns-clause-ok
returns-clause-ok c =
    let read : AreRead c.args.line c.args.command.now c.args.walk.left.now c.as_slice-events.result.now c.in-Ok.read.left.now =
    subst (λ (es : List Event). AreRead c.args.line c.args.command.now c.args.walk.left.now es c.in-Ok.read.left.now) (sym c.as_slice-events.ensures.value) c.in-Ok.ensures in
    let events : List Event = c.as_slice-events.result.now in
    let told : Follows (Front c.in-Front.good) c.args.bench.now c.follow.new.self c.args.line c.args.command.now events =
    subst (λ (f : Followed). Follows f c.args.bench.now c.follow.new.self c.args.line c.args.command.now events) c.in-Front.is c.in_ok-follow.ensures.ok in
    let follows : FollowsFront c.args.bench.now c.follow.new.self c.args.line c.args.command.now events c.in-Front.good =
    follows_one (Front c.in-Front.good) c.args.bench.now c.follow.new.self c.args.line c.args.command.now events c.requires.asks told in
    record {
      lines = c.in-Front.good;
      good = refl;
      step = front_step c.args.bench.now c.follow.new.self c.args.line c.args.command.now c.args.walk.left.now c.as_slice-events.result.now
          c.in-Ok.read.left.now read c.in-Front.good c.in-Ok.read.left.now follows;
    }

pub returns-clause-room : goal.returns-clause-room
returns-clause-room c =
    let read : AreRead c.args.line c.args.command.now c.args.walk.left.now c.as_slice-events.result.now c.in-Ok.read.left.now =
    subst (λ (es : List Event). AreRead c.args.line c.args.command.now c.args.walk.left.now es c.in-Ok.read.left.now) (sym c.as_slice-events.ensures.value) c.in-Ok.ensures in
    let events : List Event = c.as_slice-events.result.now in
    let told : Follows (Front c.in-Front.good) c.args.bench.now c.follow.new.self c.args.line c.args.command.now events =
    subst (λ (f : Followed). Follows f c.args.bench.now c.follow.new.self c.args.line c.args.command.now events) c.in-Front.is c.in_ok-follow.ensures.ok in
    let follows : FollowsFront c.args.bench.now c.follow.new.self c.args.line c.args.command.now events c.in-Front.good =
    follows_one (Front c.in-Front.good) c.args.bench.now c.follow.new.self c.args.line c.args.command.now events c.requires.asks told in
    let room = room_behind c.args.bench.now c.follow.new.self c.args.line c.args.command.now c.args.walk.left.now c.as_slice-events.result.now c.in-Ok.read.left.now read c.in-Front.good
    follows.within in
    omega (arith, room)
