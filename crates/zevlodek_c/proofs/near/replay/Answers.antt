use Rattle.std.proofs.Common.{rules, ◌≡◌, None, Result, false, sym, subst}
use Rattle.zevlodek_c.specs.declared.far.LogFar.{LogFar}
use Rattle.snep_core.specs.declared.fault.SnepFault.{SnepFault}
use Rattle.zevlodek_c.specs.declared.near.CameOut.{CameOut}
use Rattle.zevlodek_c.specs.declared.near.NearFault.{NearFault}
use Rattle.zevlodek_c.specs.declared.near.Stand.{Stand}
use Rattle.zevlodek_c.specs.Entries.{Entry, SpellsEntry}
use Rattle.zevlodek_c.specs.Near.{call_of}
use Rattle.zevlodek_c.specs.NearReplaying.{IsNearReplay, IsObeyed, IsStanding, now_of}
use Rattle.zevlodek_c.proofs.NearReplays.{called, ends_odd, refuses, standing, stops_there}
use Rattle.zevlodek_c.proofs.near.replay.Goals as goal

-- src/near.rt:267:13
pub returns-in_default : goal.returns-in_default
returns-in_default c =
    ends_odd c.args.client.llc c.args.log.now c.loop-rest.rest.now (now_of c.loop-rest.client.llc c.loop-rest.came) c.loop-rest.invariant.reaches
    (search rules) (c.in_default.ensures.none (search rules))

-- src/near.rt:276:21
pub returns-in-None : goal.returns-in-None
returns-in-None c =
    let d : Entry = record { kind = c.in-Some.kind; content = c.in-Some.content.now } in
    let spelled : SpellsEntry d c.loop-rest.rest.now c.in-Some.behind.now = search rules in
    let none : call_of d ≡ None = search rules in
    refuses c.args.client.llc c.args.log.now c.loop-rest.rest.now c.in-Some.behind.now c.loop-rest.client.llc c.loop-rest.came d
    c.loop-rest.invariant.reaches spelled none

-- src/near.rt:277:29
pub returns-in-Some-Err : goal.returns-in-Some-Err
returns-in-Some-Err c =
    let d : Entry = record { kind = c.in-Some.kind; content = c.in-Some.content.now } in
    let f : LogFar = record { left = c.in-Some.behind; asked = None; odd = false; stuck = false } in
    let spelled : SpellsEntry d c.loop-rest.rest.now c.in-Some.behind.now = search rules in
    subst (λ (r : Result Stand NearFault). IsNearReplay c.args.client.llc c.args.log.now r) (sym c.stopped.ensures)
    (stops_there c.args.client.llc c.args.log.now c.loop-rest.rest.now c.loop-rest.client.llc c.loop-rest.came d f c.obey.new.client.llc c.obey.new.far
    c.in-Some-Err.field-0-0 c.loop-rest.invariant.reaches spelled
    (subst (λ (r : Result CameOut SnepFault). IsObeyed (call_of d) c.loop-rest.client.llc f c.obey.new.client.llc c.obey.new.far r)
    c.in-Some-Err.field-0-is c.in-Some-Err.ensures.some))

-- src/near.rt:265:5
pub loop-rest-preserved-in-Some-Ok : goal.loop-rest-preserved-in-Some-Ok
loop-rest-preserved-in-Some-Ok c =
    let d : Entry = record { kind = c.in-Some.kind; content = c.in-Some.content.now } in
    let f : LogFar = record { left = c.in-Some.behind; asked = None; odd = false; stuck = false } in
    let spelled : SpellsEntry d c.loop-rest.rest.now c.in-Some.behind.now = search rules in
    record {
      going = search rules;
      reaches = called c.args.client.llc c.args.log.now c.loop-rest.rest.now c.loop-rest.client.llc c.loop-rest.came d f c.obey.new.client.llc c.obey.new.far
          c.in-Some-Ok.out c.loop-rest.invariant.reaches spelled
          (subst (λ (r : Result CameOut SnepFault). IsObeyed (call_of d) c.loop-rest.client.llc f c.obey.new.client.llc c.obey.new.far r)
          c.in-Some-Ok.field-0-is c.in-Some-Ok.ensures.some);
    }

-- src/near.rt:265:5
pub loop-rest-preserved : goal.loop-rest-preserved
loop-rest-preserved c =
    let d : Entry = record { kind = c.in-Some.kind; content = c.in-Some.content.now } in
    let f : LogFar = record { left = c.in-Some.behind; asked = None; odd = false; stuck = false } in
    let spelled : SpellsEntry d c.loop-rest.rest.now c.in-Some.behind.now = search rules in
    record {
      going = search rules;
      reaches = called c.args.client.llc c.args.log.now c.loop-rest.rest.now c.loop-rest.client.llc c.loop-rest.came d f c.obey.new.client.llc c.obey.new.far
          c.in-Some-Ok.out c.loop-rest.invariant.reaches spelled
          (subst (λ (r : Result CameOut SnepFault). IsObeyed (call_of d) c.loop-rest.client.llc f c.obey.new.client.llc c.obey.new.far r)
          c.in-Some-Ok.field-0-is c.in-Some-Ok.ensures.some);
    }

-- src/near.rt:258:1
pub returns : goal.returns
returns c =
    subst (λ (s : Stand). IsStanding c.args.client.llc c.args.log.now s) (sym c.stand_of.ensures)
    (standing c.args.client.llc c.args.log.now c.loop-rest.rest.now c.loop-rest.client.llc c.loop-rest.came c.loop-rest.invariant.reaches (search rules))
