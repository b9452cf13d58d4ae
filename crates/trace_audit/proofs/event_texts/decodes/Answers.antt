use Rattle.std.proofs.Common.{length, ◌∙◌, ap}
use Rattle.std.specs.Prelude.{Result, is_ok}
use Rattle.hex.specs.declared.error.FromHexError.{FromHexError}
use Rattle.trace_audit.proofs.Finding.{decoded}
use Rattle.trace_audit.proofs.event_texts.decodes.Goals as goal

pub returns : goal.returns
returns c = λ bytes is small.
    let done = decoded c.args.digits.now bytes c.decode_to_slice.new.out (length c.args.room.now) c.decode_to_slice.result is small c.requires c.decode_to_slice.ensures.value in
    (c.is_ok.ensures.value ∙ ap (λ (r : Result (Unit {0}) FromHexError). is_ok r) done.0, done.1)
