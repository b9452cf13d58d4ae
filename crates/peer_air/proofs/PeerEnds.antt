-- An end of a link is a far end of the world.
use Rattle.std.proofs.Common.{ap, [], ◌∙◌}
use Rattle.nfc_base.specs.Choosing.{Choosing, first_number}
use Rattle.llcp_link.specs.Serving.{Serving}
use Rattle.llcp_link.specs.State.{LlcState, restarted_by}
use Rattle.llcp_pdu.specs.General.{general as read_general}
use Rattle.peer_air.specs.Ends.{rested, ends, AreFarEnds, CountedStep, EndsStep}

module _ {S : Type 0} (m : Serving S) where
  pub are_far_ends : AreFarEnds m
  are_far_ends twice = record {
    twice = λ l. ap (λ s. record (rested m l) { service = s }) (twice l.service);
    anew = λ l bytes. ap (λ s. record (restarted_by m l (read_general bytes)) { service = s }) (twice l.service);
    keeps = λ l bytes. ap (λ s. record (rested m l) { service = s }) (twice l.service);
  }

  pub ends_step : EndsStep m
  ends_step =
      let Shown : LlcState S → Choosing (LlcState S) = λ l. record { end = l; numbers = [] } in
      record {
        restart = λ a bytes b e. ap Shown e;
        reply = λ a payload reply b s. s.gives.bytes_are;
        left = λ a payload reply b s. ap Shown s.gives.left;
      }

  pub counted_step : CountedStep m
  counted_step = record {
    restart = λ a bytes b e. e;
    reply = λ a payload reply b s. s.answers.gives.bytes_are;
    left = λ a payload reply b s.
        ap (λ l. record { end = l; numbers = b.numbers }) s.answers.gives.left ∙ ap (λ ns. record { end = (ends m).left a.end payload (first_number a.numbers); numbers = ns }) s.numbers;
  }
