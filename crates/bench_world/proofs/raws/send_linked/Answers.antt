use Rattle.std.proofs.Common.{◌≡◌, List, ℕ, ◌∙◌, ap, subst}
use Rattle.dep_link.specs.Activating.{by_cause}
use Rattle.llcp_link.specs.Counting.{AnswersCounted, RestartsCounted}
use Rattle.llcp_pdu.specs.General.{general_bytes}
use Rattle.snep_core.specs.Server.{serving}
use Rattle.bench_devices.specs.Opening.{OpensAny}
use Rattle.bench_world.specs.Forging.{forged_general}
use Rattle.bench_world.proofs.by_hand.RawSends.{opened_lit, raws_err, raws_ok}
use Rattle.bench_world.proofs.raws.send_linked.Goals as goal

pub send_each-requires : goal.send_each-requires
send_each-requires c =
    let bytes : c.deref.result.now ≡ forged_general = c.deref.ensures.0 ∙ c.general_write-general.ensures.bytes ∙ ap general_bytes c.own_params.ensures in
    let O : List ℕ → Type 0 = λ xs. OpensAny (RestartsCounted serving) (AnswersCounted serving) c.args.field.now c.args.far.now c.open_link.new.field c.open_link.new.far xs
    (by_cause c.open_link.result) in
    let asks : O forged_general = subst O bytes c.open_link.ensures.tells in
    opened_lit c.args.field.now c.open_link.new.field c.args.far.now c.open_link.new.far c.open_link.result asks c.in-Ok._opened c.in-Ok.is c.requires.stands.0 c.requires.stands.1 c.requires.stands.2
    c.requires.stands.3

pub returns-in-Ok : goal.returns-in-Ok
returns-in-Ok c =
    let bytes : c.deref.result.now ≡ forged_general = c.deref.ensures.0 ∙ c.general_write-general.ensures.bytes ∙ ap general_bytes c.own_params.ensures in
    let O : List ℕ → Type 0 = λ xs. OpensAny (RestartsCounted serving) (AnswersCounted serving) c.args.field.now c.args.far.now c.open_link.new.field c.open_link.new.far xs
    (by_cause c.open_link.result) in
    let asks : O forged_general = subst O bytes c.open_link.ensures.tells in
    raws_ok c.args.field.now c.open_link.new.field c.args.far.now c.open_link.new.far c.open_link.result asks c.in-Ok._opened c.in-Ok.is c.args.frames.now c.send_each.new.field c.send_each.new.far
    c.send_each.result c.send_each.ensures

pub returns-in-Err : goal.returns-in-Err
returns-in-Err c =
    let bytes : c.deref.result.now ≡ forged_general = c.deref.ensures.0 ∙ c.general_write-general.ensures.bytes ∙ ap general_bytes c.own_params.ensures in
    let O : List ℕ → Type 0 = λ xs. OpensAny (RestartsCounted serving) (AnswersCounted serving) c.args.field.now c.args.far.now c.open_link.new.field c.open_link.new.far xs
    (by_cause c.open_link.result) in
    let asks : O forged_general = subst O bytes c.open_link.ensures.tells in
    raws_err c.args.field.now c.open_link.new.field c.args.far.now c.open_link.new.far c.open_link.result asks c.in-Err.end c.in-Err.is c.args.frames.now
