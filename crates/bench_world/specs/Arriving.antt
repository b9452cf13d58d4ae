-- What arrives at the peer of the open link in a command on it, or at that of a link that begins and ends in a command,
-- and how a link begins at its peer (NFCIP-1, ISO/IEC 18092; NFC Forum LLCP 1.3 and SNEP 1.0).
use Rattle.std.specs.Prelude.{◌≡◌, ℕ, List, Option, Some}
use Rattle.nfc_base.specs.Choosing.{Choosing}
use Rattle.nfc_base.specs.declared.event.Event.{Event}
use Rattle.llcp_link.specs.State.{restarted}
use Rattle.snep_core.specs.Server.{serving}
use Rattle.link_calls.specs.Arriving.{Arrives, ArrivesCut, IsCountedTo}
use Rattle.bench_world.specs.Calls.{IfLinked, OfEnd}
use Rattle.bench_world.specs.Links.{OpenLink, end_numbered}
use Rattle.bench_world.specs.World.{FarEnd}

-- From these far ends to those, by the numbers of peers, the frames of some events brought payloads to a link's peer,
-- counted from the initiator's number: its end answered just these, by the entry's numbers of PDUs, and what its server
-- accepted then it has accepted. Where the link is open still, the end stands so, and the frames are counted to the
-- initiator's number.
pub record ArrivesAt (l : OpenLink) (numbers : List (Option ℕ)) (counts : List ℕ) (before behind : List (Option FarEnd))
    (events : List Event) (now : Option OpenLink) : Type 0 where
  pub old : FarEnd
  pub stood : end_numbered l.peer numbers before ≡ Some old
  pub new : Choosing FarEnd
  pub arrives : Arrives l.initiator.core.number events (record { end = old; numbers = counts }) new
  pub accepted : OfEnd (λ end. end.service.accepted ≡ new.end.service.accepted) (end_numbered l.peer numbers behind)
  pub going : IfLinked now (λ k. (end_numbered l.peer numbers behind ≡ Some new.end)
      × IsCountedTo l.initiator.core.number events k.initiator.core.number) (Unit {0})

-- So it is in a command that want of memory cut off, but for the last payload, at which the end may have stopped.
pub record ArrivesCutAt (l : OpenLink) (numbers : List (Option ℕ)) (counts : List ℕ)
    (before behind : List (Option FarEnd)) (events : List Event) : Type 0 where
  pub old : FarEnd
  pub stood : end_numbered l.peer numbers before ≡ Some old
  pub new : Choosing FarEnd
  pub arrives : ArrivesCut l.initiator.core.number events (record { end = old; numbers = counts }) new
  pub accepted : OfEnd (λ end. end.service.accepted ≡ new.end.service.accepted) (end_numbered l.peer numbers behind)

-- a link begins at the end of its peer, with the general bytes that were said to it
abbrev pub BeginsAt : OpenLink → List ℕ → List (Option ℕ) → List (Option FarEnd) → List (Option FarEnd) → Type 0
BeginsAt l general numbers before behind =
    OfEnd (λ old. end_numbered l.peer numbers behind ≡ Some (restarted serving old general))
    (end_numbered l.peer numbers before)

-- A link to the peer with a number began, with these general bytes, and is over: from these far ends to those the
-- frames of the same events brought payloads to it, counted from PNI 0. Its end, which began the link, answered just
-- these, by the entry's numbers of PDUs, and what its server accepted then it has accepted.
pub record ArrivesWithin (peer : ℕ) (general : List ℕ) (numbers : List (Option ℕ)) (counts : List ℕ)
    (before behind : List (Option FarEnd)) (events : List Event) : Type 0 where
  pub old : FarEnd
  pub stood : end_numbered peer numbers before ≡ Some old
  pub new : Choosing FarEnd
  pub arrives : Arrives 0 events (record { end = restarted serving old general; numbers = counts }) new
  pub accepted : OfEnd (λ end. end.service.accepted ≡ new.end.service.accepted) (end_numbered peer numbers behind)

-- So it is in a command that want of memory cut off, but for the last payload, at which the end may have stopped.
pub record ArrivesCutWithin (peer : ℕ) (general : List ℕ) (numbers : List (Option ℕ)) (counts : List ℕ)
    (before behind : List (Option FarEnd)) (events : List Event) : Type 0 where
  pub old : FarEnd
  pub stood : end_numbered peer numbers before ≡ Some old
  pub new : Choosing FarEnd
  pub arrives : ArrivesCut 0 events (record { end = restarted serving old general; numbers = counts }) new
  pub accepted : OfEnd (λ end. end.service.accepted ≡ new.end.service.accepted) (end_numbered peer numbers behind)
