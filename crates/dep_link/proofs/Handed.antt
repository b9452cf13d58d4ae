-- Over every air the payload of an exchange is handed over at most once, and exactly once where the initiator has the reply.
use Rattle.std.proofs.Common.{ℕ, ◌≡◌, ◌+◌, ◌*◌, ◌≤◌, List, [], length, None, refl, sym, ap, arith, append-nil}
use Rattle.nfc_base.specs.Signal.{Signal}
use Rattle.nfc_base.specs.StopAndWait.{run, IsReplyTo}
use Rattle.nfc_base.specs.declared.event.Fate.{Fate}
use Rattle.nfc_base.proofs.ExactlyOnce.{Keeps, exactly_once}
use Rattle.dep_link.specs.Sizes.{limit}
use Rattle.dep_link.specs.Target.{TargetState}
use Rattle.dep_link.specs.Initiator.{InitState, begun}
use Rattle.nfc_base.specs.Pieces.{pieces}
use Rattle.dep_link.specs.Exchange.{nfc_dep, frames_back, InStep, IsCut, beginning, HandedOnce}
use Rattle.nfc_base.proofs.Chains.{Asking, more, Fits}
use Rattle.dep_link.proofs.Standing.{dep_ends, asking, Ask, asks, Wait}
use Rattle.dep_link.proofs.Landing.{lands_at}
use Rattle.dep_link.proofs.Hearing.{unheard_at, lost_at, damaged_at, answered_at, ask_left}

-- What two ends of such a link owe for one step, the ends of NFC-DEP keep.
abbrev pub keeps : (first m k : ℕ) (out : List ℕ) → Keeps (nfc_dep first) out
keeps first m k out = record {
  Ask = Ask m k out;
  Wait = Wait m k out;
  Done = InStep;
  more = more dep_ends m k out;
  Fits = Fits dep_ends m k out;
  Stood = IsCut first;
  stood = λ t handed arrived s. ap (λ c. c.payloads) s;
  some_left = ask_left first m k out;
  lands = lands_at first m k out;
  unheard = unheard_at first m k out;
  lost = lost_at first m k out;
  damaged = damaged_at first m k out;
  answered = answered_at first m k out;
}

-- an exchange begins so
pub asking_first : (i : InitState) (t : TargetState) (out : List ℕ) → length out ≤ limit → InStep i t → Asking dep_ends t.most t.busy out (begun i out).core t None
asking_first i t out short s =
    record {
      bounds = record {
        heeds = s.heeds;
        short = short;
        some = s.asks.0;
        fits = s.asks.1;
        sizes = refl;
        some_back = s.answers.0;
        fits_back = s.answers.1;
        asks = refl;
        few = s.busy;
        long = s.times.0;
        longest = s.times.1;
      };
      number = s.number;
      plain = refl;
      none_yet = refl;
      sending = refl;
      empty = refl;
      expects = s.expects;
      joins = rw s.no_chain refl;
      none = refl;
    }

-- a reply comes in its first frame and these more
pub back_more : (t : TargetState) (r : List ℕ) → frames_back t r ≡ 1 + more dep_ends t.most t.busy [] r
back_more t r = omega arith

-- For every list of fates, and whatever the far end replies: between ends in step, a payload of at most 2,178 bytes is handed over at
-- most once, and exactly once where the exchange ends with the reply, which is the far end's reply to it. It never ends by a frame
-- that isn't allowed; and it takes at most 2 (k1 + k2 - 1) + 2 K + 4 b transmissions, for k1 pieces out, k2 pieces back, K time extensions
-- and b bad receptions.
pub handed_once : (first : ℕ) (far : List ℕ → List ℕ) (i : InitState) (t : TargetState) (handed : List (List ℕ)) (arrived : List Signal) (out : List ℕ) (fates : List Fate)
    → ((xs : List ℕ) → length (far xs) ≤ limit) → length out ≤ limit → InStep i t → IsCut first t handed arrived
    → HandedOnce first far i t handed out (run (nfc_dep first) far (beginning i t handed arrived out) fates)
handed_once first far i t handed arrived out fates fits short s c =
    exactly_once (nfc_dep first) handed out (keeps first t.most t.busy out) (IsReplyTo far out) (pieces i.core.most out) (frames_back t) (back_more t)
    far fits refl (beginning i t handed arrived out) fates (
      2 * pieces i.core.most out,
      asks refl refl (asking (omega arith) (asking_first i t out short s) (omega arith)),
      record { once = sym (append-nil handed); reply = tt; stood = c; bound = omega arith },
    )
