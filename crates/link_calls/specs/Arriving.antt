-- What arrives at a link's peer, and what its end does by that (NFCIP-1, ISO/IEC 18092; NFC Forum LLCP 1.3 and SNEP
-- 1.0).
use Rattle.std.specs.Prelude.{◌≡◌, ◌⊎◌, ℕ, List, [], ◌∷◌, ◌++◌}
use Rattle.std.specs.List.{AllByRecursion}
use Rattle.nfc_base.specs.Choosing.{Choosing, first_number, later_numbers}
use Rattle.nfc_base.specs.LinkTurns.{arrived}
use Rattle.nfc_base.specs.declared.event.Event.{Event}
use Rattle.dep_link.specs.Payloads.{begins, cut_by}
use Rattle.dep_link.specs.Exchange.{frames_of}
use Rattle.dep_link.specs.DepLinks.{brought}
use Rattle.llcp_link.specs.Giving.{after_giving}
use Rattle.llcp_link.specs.Counting.{StopsCounted}
use Rattle.llcp_link.specs.Running.{AreBytes}
use Rattle.llcp_link.specs.Taking.{taken_from}
use Rattle.snep_core.specs.Accord.{PeerState}
use Rattle.snep_core.specs.Server.{serving}

-- A peer's end takes a payload, and gives one with so many PDUs, or with as many as can be joined.
abbrev pub answered : List ℕ → ℕ → PeerState → PeerState
answered payload count l = after_giving serving count (taken_from serving l payload)

-- So it does with some payloads, one after the other, each time by the next of its numbers.
abbrev pub all_answered : List (List ℕ) → Choosing PeerState → Choosing PeerState
all_answered [] far = far
all_answered (p ∷ ps) far =
    all_answered ps (record {
      end = answered p (first_number far.numbers) far.end;
      numbers = later_numbers far.numbers;
    })

-- Some events brought payloads to a peer, counted from this PNI. Its end answered just them, in order, by its numbers:
-- so it went from one state to another.
pub record Arrives (first : ℕ) (events : List Event) (far after : Choosing PeerState) : Type 0 where
  pub bytes : AllByRecursion AreBytes (brought first events)
  pub after_is : after ≡ all_answered (brought first events) far

-- As some events brought payloads to a peer, counted from this PNI, its end answered all before the last, and as it
-- took the last it stopped for want of memory.
pub record StopsAtLast (first : ℕ) (events : List Event) (far after : Choosing PeerState) : Type 0 where
  pub bytes : AllByRecursion AreBytes (brought first events)
  pub before : List (List ℕ)
  pub last : List ℕ
  pub split : brought first events ≡ before ++ last ∷ []
  pub stops : StopsCounted serving (all_answered before far) last after

-- What arrives in a call that want of memory cut off: the end answered it all, or stopped at the last payload.
abbrev pub ArrivesCut : ℕ → List Event → Choosing PeerState → Choosing PeerState → Type 0
ArrivesCut first events far after = Arrives first events far after ⊎ StopsAtLast first events far after

-- Behind these events, counted from that PNI, this PNI is next, and no piece of a payload came.
abbrev pub IsCountedTo : ℕ → List Event → ℕ → Type 0
IsCountedTo first events next = cut_by (begins first) (frames_of (arrived events))
    ≡ record { next = next; chain = []; payloads = brought first events }
