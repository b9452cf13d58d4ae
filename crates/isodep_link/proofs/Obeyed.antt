-- Over every air a card obeys the command of an exchange at most once, and exactly once where the reader has the answer.
use Rattle.std.proofs.Common.{ℕ, ◌*◌, ◌≤◌, List, length, None, refl, sym, ap, arith, append-nil}
use Rattle.nfc_base.specs.StopAndWait.{IsReplyTo}
use Rattle.nfc_base.proofs.ExactlyOnce.{Keeps, exactly_once}
use Rattle.isodep_link.specs.Sizes.{limit}
use Rattle.isodep_link.specs.Card.{CardState}
use Rattle.isodep_link.specs.Reader.{ReaderState, begun}
use Rattle.nfc_base.specs.Pieces.{pieces}
use Rattle.isodep_link.specs.Exchange.{iso_dep, blocks_back, InStep, IsCut, beginning, ObeysOnce}
use Rattle.nfc_base.proofs.Chains.{Asking, more, Fits}
use Rattle.isodep_link.proofs.Standing.{iso_ends, Ask, asks, Wait}
use Rattle.isodep_link.proofs.Landing.{lands_at}
use Rattle.isodep_link.proofs.Hearing.{unheard_at, lost_at, damaged_at, answered_at, ask_left}

-- What two ends of such a link owe for one step, the ends of ISO-DEP keep.
abbrev pub keeps : (m k : ℕ) (out : List ℕ) → Keeps iso_dep out
keeps m k out = record {
  Ask = Ask m k out;
  Wait = Wait m k out;
  Done = InStep;
  more = more iso_ends m k out;
  Fits = Fits iso_ends m k out;
  Stood = IsCut;
  stood = λ t commands arrived s. ap (λ c. c.commands) s;
  some_left = ask_left m k out;
  lands = lands_at m k out;
  unheard = unheard_at m k out;
  lost = lost_at m k out;
  damaged = damaged_at m k out;
  answered = answered_at m k out;
}

-- an exchange begins so
pub asking_first : (i : ReaderState) (t : CardState) (command : List ℕ) → length command ≤ limit → InStep i t → Asking iso_ends t.most t.busy command (begun i command).core t None
asking_first i t command short s =
    record {
      bounds = record {
        heeds = s.heeds;
        short = short;
        some = s.asks.0;
        fits = s.asks.1;
        sizes = refl;
        some_back = s.answers.0;
        fits_back = s.answers.1;
        asks = refl;
        few = s.busy;
        long = s.times.0;
        longest = s.times.1;
      };
      number = s.number;
      plain = refl;
      none_yet = refl;
      sending = refl;
      empty = refl;
      expects = s.other;
      joins = rw s.no_chain refl;
      none = refl;
    }

-- For every list of fates, and whatever the card's owner answers: between ends in step, a command of at most 264 bytes is
-- obeyed at most once, and exactly once where the exchange ends with the answer, which is the owner's answer to it. It never ends by
-- a frame that isn't allowed; and it takes at most 2 (k1 + k2 - 1) + 2 K + 4 b transmissions, for k1 blocks out, k2 blocks back and
-- b bad receptions.
pub obeyed_once : ObeysOnce
obeyed_once far i t commands arrived command fates fits short s c =
    exactly_once iso_dep commands command (keeps t.most t.busy command) (IsReplyTo far command) (pieces i.core.most command) (blocks_back t) (λ r. omega arith)
    far fits refl (beginning i t commands arrived command) fates (
      2 * pieces i.core.most command,
      asks refl refl (omega arith) (asking_first i t command short s) (omega arith),
      record { once = sym (append-nil commands); reply = tt; stood = c; bound = omega arith },
    )
