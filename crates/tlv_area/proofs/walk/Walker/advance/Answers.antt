use Rattle.std.proofs.Common.{sym, ◌∙◌}
use Rattle.std.proofs.lemmas.Bool.{eqb-true}
use Rattle.tlv_area.specs.declared.ahead.Ahead.TheVariants as ahead
use Rattle.tlv_area.proofs.Walks.{ahead_here, stop_here}
use Rattle.tlv_area.proofs.walk.Walker.advance.Goals as goal

pub pass-requires-clause-found : goal.pass-requires-clause-found
pass-requires-clause-found c =
    let come = c.walk.invariant.come in
    let is = ahead_here c.walk.self c.args.known.now come.0 come.1 c.as_slice.result.now (ahead.Item c.in-Item.found) c.as_slice.ensures.value c.in-Item.ensures in
    (is.0, record { next' = is.1; found' = is.2 })

pub returns-then-is_message-clause-stops : goal.returns-then-is_message-clause-stops
returns-then-is_message-clause-stops c =
    let come = c.walk.invariant.come in
    let is = ahead_here c.walk.self c.args.known.now come.0 come.1 c.as_slice.result.now (ahead.Item c.in-Item.found) c.as_slice.ensures.value c.in-Item.ensures in
    (is.0, record { next' = is.1; found' = is.2 }, eqb-true c.in-Item.found.kind 3 (sym c.is_message.ensures ∙ c.if-is_message.true))

pub returns-in_default : goal.returns-in_default
returns-in_default c =
    let come = c.walk.invariant.come in
    record {
      come = come;
      space = c.walk.invariant.space;
      stops = stop_here c.walk.self c.args.known.now come.0 come.1 c.look_ahead.result
          (ahead_here c.walk.self c.args.known.now come.0 come.1 c.as_slice.result.now c.look_ahead.result c.as_slice.ensures.value c.look_ahead.ensures)
          (λ found e. c.in_default.not-Item found e);
    }
