-- What a writing over the turns told.
use Rattle.std.proofs.Common.{◌≡◌, Result, Err, sym, ◌∙◌, subst}
use Rattle.nfc_base.specs.TagLinks.{LinkView}
use Rattle.tag_writer.specs.declared.fault.WriteFault.{WriteFault}
use Rattle.tag_writer.specs.declared.fault.WriteFault.TheVariants as faults
use Rattle.tag_writer.specs.WriteTold.{IsWriteToldBy}
use Rattle.tag_writer.specs.Writing.{KeepsLaw, TellsSuccess, TellsCause}
use Rattle.tag_steps.specs.Replay.{first_link, link_behind}
use Rattle.tag_steps.proofs.Losing.{told_lost}
use Rattle.tag_steps.proofs.Nexts.{tells_write, is_due, none_due}
use Rattle.tag_steps.proofs.OddWrites.{by_over, fault_in}
use Rattle.tag_steps.proofs.writing.next_write.Goals as goal

pub returns-in-Ok-clause-told : goal.returns-in-Ok-clause-told
returns-in-Ok-clause-told g c =
    let m = c.write.new.link in
    tells_write g.G.RealTag.real c.args.tag.now c.args.turns.now m.used m.over m.last c.args.how c.args.message.now _ m.tag.now m.turns.now c.in-Ok.ensures.moves.0 c.in-Ok.ensures.moves.1
    (record { few = c.in-Ok.ensures.ready.1; stops = tt; told = c.in-Ok.ensures.told; law = c.in-Ok.ensures.law; asked = c.in-Ok.ensures.asked; ok = c.in-Ok.ensures.ok; err = c.in-Ok.ensures.err })

pub returns-in-Some-clause-told : goal.returns-in-Some-clause-told
returns-in-Some-clause-told g c =
    let m = c.write.new.link in
    let due = is_due m.over m.last c.in-Some.command (sym c.due.ensures ∙ c.in-Some.is) in
    let first : LinkView = first_link (g.G.RealTag.real c.args.tag.now) in
    let behind : LinkView = link_behind (g.G.RealTag.real m.tag.now) m.turns.now m.used m.over m.last in
    let lost : c.in-Err.fault ≡ faults.FieldLost = told_lost c.args.how c.args.message.now first behind c.in-Err.fault c.in-Err.ensures.told due.0 in
    let ending : Result (Unit {0}) WriteFault → Type 0 = λ r.
    IsWriteToldBy c.args.how c.args.message.now first behind r × KeepsLaw c.args.how c.args.message.now first behind r
    × TellsSuccess c.args.how c.args.message.now first behind r × TellsCause c.args.how c.args.message.now first behind r in
    let ends : ending (Err faults.FieldLost) = subst (λ e. ending (Err e)) lost (c.in-Err.ensures.told, c.in-Err.ensures.law, c.in-Err.ensures.ok, c.in-Err.ensures.err) in
    tells_write g.G.RealTag.real c.args.tag.now c.args.turns.now m.used m.over m.last c.args.how c.args.message.now _ m.tag.now m.turns.now c.in-Err.ensures.moves.0 c.in-Err.ensures.moves.1
    (record {
      few = c.in-Err.ensures.ready.1;
      stops = ((c.in-Err.ensures.ready.2 due.0).0, due.0, due.1);
      told = ends.0;
      law = ends.1;
      asked = c.in-Err.ensures.asked;
      ok = ends.2;
      err = ends.3;
    })

pub returns-in-None-clause-told : goal.returns-in-None-clause-told
returns-in-None-clause-told g c =
    let m = c.write.new.link in
    tells_write g.G.RealTag.real c.args.tag.now c.args.turns.now m.used m.over m.last c.args.how c.args.message.now _ m.tag.now m.turns.now c.in-Err.ensures.moves.0 c.in-Err.ensures.moves.1
    (record {
      few = c.in-Err.ensures.ready.1;
      stops = none_due m.over m.last (sym c.due.ensures ∙ c.in-None.is) (λ q. (c.in-Err.ensures.ready.2 q).1);
      told = c.in-Err.ensures.told;
      law = c.in-Err.ensures.law;
      asked = c.in-Err.ensures.asked;
      ok = c.in-Err.ensures.ok;
      err = c.in-Err.ensures.err;
    })

pub returns-in-None-clause-odd : goal.returns-in-None-clause-odd
returns-in-None-clause-odd g c sent is =
    let m = c.write.new.link in
    by_over g.G.RealTag.real c.args.tag.now m.tag.now c.args.turns.now m.turns.now m.used m.over m.last c.args.how c.args.message.now
    c.in-Err.ensures.moves.0 c.in-Err.ensures.moves.1 sent c.in-Err.ensures.ready.3 c.in-Err.fault (fault_in c.in-Err.fault faults.Protocol is) c.in-Err.ensures.told
