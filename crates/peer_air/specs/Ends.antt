-- An end of a link as a far end of the world (NFC Forum LLCP 1.3; what stays without a link is this project's own).
use Rattle.std.specs.Prelude.{◌≡◌, []}
use Rattle.llcp_link.specs.Serving.{Serving}
use Rattle.llcp_link.specs.State.{LlcState, fresh_end, restarted}
use Rattle.llcp_link.specs.Taking.{taken_from}
use Rattle.llcp_link.specs.Giving.{given, after_giving}
use Rattle.llcp_link.specs.Answering.{Answers}
use Rattle.llcp_link.specs.Counting.{AnswersCounted, RestartsCounted}
use Rattle.far_air.specs.FarEnds.{FarTable}
use Rattle.far_air.specs.FarLaws.{IsFarTable, IsOfTable}

module _ {S : Type 0} (m : Serving S) where
  -- What stays of an end without a link: its MIU and receive window, what is bound, and of its service what a new link
  -- leaves. Else it is new.
  abbrev pub rested : LlcState S → LlcState S
  rested l = record (fresh_end l.miu l.window (m.renewed l.service)) { bound = l.bound }

  -- An end takes a payload, and gives one with so many PDUs.
  abbrev pub ends : FarTable (LlcState S)
  ends = record {
    restarted = restarted m;
    reply = λ l payload n. given m n (taken_from m l payload);
    left = λ l payload n. after_giving m n (taken_from m l payload);
    rested = rested;
  }

  -- ends are far ends where a new link leaves the same of a service that it left
  abbrev pub AreFarEnds : Type 0
  AreFarEnds = ((s : S) → m.renewed (m.renewed s) ≡ m.renewed s) → IsFarTable ends

  -- Each step of the code's end is one of the table: as many PDUs as fit, where no number is left to it.
  abbrev pub EndsStep : Type 0
  EndsStep = IsOfTable (λ old general new. new ≡ restarted m old general) (Answers m 0) ends
      (λ l. record { end = l; numbers = [] })

  -- and so is each of an end whose payloads have given numbers of PDUs
  abbrev pub CountedStep : Type 0
  CountedStep = IsOfTable (RestartsCounted m) (AnswersCounted m) ends (λ c. c)
