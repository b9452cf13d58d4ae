-- How a search ends, by the request that is due.
use Rattle.std.proofs.Common.{◌≡◌, ℕ, List, Option, Some, None, Ok, refl}
use Rattle.nfc_base.specs.Signal.{Signal}
use Rattle.nfca_poll.specs.declared.fault.PollFault.{PollFault}
use Rattle.nfcv_poll.specs.Search.{stage_request, due_request, over_at, is_over}
use Rattle.nfcv_poll.specs.declared.search.Search.{Search}
use Rattle.nfcv_poll.specs.declared.search.Stage.{Stage}
use Rattle.nfcv_poll.specs.declared.search.Stage.TheVariants as stages

not_over : (found : List (List ℕ)) (stage : Stage) (f : Signal) → stage_request stage ≡ Some f → over_at found stage ≡ None
not_over found (stages.Slot m slot) f e = refl
not_over found (stages.Hush id next) f e = refl
not_over found (stages.WhoIsLeft asked) f e = refl
not_over found stages.Over f e = absurd cc
not_over found (stages.Fails fault) f e = absurd cc

pub due_not_over : (s : Search) (f : Signal) → due_request s ≡ Some f → is_over s ≡ None
due_not_over s f e = not_over s.found s.stage f e

-- nothing is due, and it didn't fail
pub over_well : (found : List (List ℕ)) (stage : Stage) (o : Option Signal) → o ≡ stage_request stage → ((f : Signal) → o ≡ Some f → ⊥) → ((fault : PollFault) → stage ≡ stages.Fails fault → ⊥)
    → over_at found stage ≡ Some (Ok found)
over_well found (stages.Slot m slot) o e none well = absurd (none _ e)
over_well found (stages.Hush id next) o e none well = absurd (none _ e)
over_well found (stages.WhoIsLeft asked) o e none well = absurd (none _ e)
over_well found stages.Over o e none well = refl
over_well found (stages.Fails fault) o e none well = absurd (well fault refl)
