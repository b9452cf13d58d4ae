-- What one resolution in a lit field comes to over this project's listeners (ISO/IEC 14443-3; the crowd's order is this
-- project's own).
use Rattle.std.specs.Prelude.{◌≡◌, ℕ, List, true, Result}
use Rattle.air_core.specs.World.{Machine}
use Rattle.air_core.specs.Turn.{Air}
use Rattle.nfca_poll.specs.declared.fault.Picked.{Picked}
use Rattle.nfca_poll.specs.declared.fault.PollFault.{PollFault}
use Rattle.nfca_poll.specs.Crowd.{AreOurs, PicksFirst, PicksFromRest}
use Rattle.nfca_poll.specs.AnyStart.{PicksFromAny, PicksAlone}
use Rattle.nfca_poll.specs.Polled.{ArePolled}

module _ {L : Type 0} (m : Machine L) (identifier : L → List ℕ) (old : Air L) (r : Result Picked PollFault)
    (new : Air L) where
  -- where none is ready or active, without noise, and with any
  abbrev pub ResolvesFirst : Type 0
  ResolvesFirst = old.lit ≡ true → (ours : AreOurs m identifier) → PicksFirst ours old r new

  abbrev pub ResolvesFromRest : Type 0
  ResolvesFromRest = old.lit ≡ true → (ours : AreOurs m identifier) → PicksFromRest ours old r new

  -- from any start; and where none has a link
  abbrev pub ResolvesFromAny : Type 0
  ResolvesFromAny = old.lit ≡ true → (polled : ArePolled m identifier) → PicksFromAny polled.ours old r new

  abbrev pub ResolvesAlone : Type 0
  ResolvesAlone = old.lit ≡ true → (polled : ArePolled m identifier) → PicksAlone polled.ours polled.unlinked old r new
