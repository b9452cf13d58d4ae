-- What a client's end does for its job between payloads, for private calls: no public contract speaks of it, the table
-- is Talk.antt.
use Rattle.std.specs.Prelude.{◌≡◌, ◌||◌, ℕ, Bool, false, List, [], ◌∷◌, Option, Some, None, if◌then◌else◌}
use Rattle.llcp_link.specs.Asking.{forgotten, has_waiting_of}
use Rattle.snep_core.specs.declared.job.Awaiting.{Awaiting}
use Rattle.snep_core.specs.declared.job.Heard.{Heard}
use Rattle.snep_core.specs.declared.job.HeardAll.{HeardAll}
use Rattle.snep_core.specs.Jobs.{Job, has_byte, told_in}
use Rattle.snep_core.specs.Talk.{EndState, OnSap, emptied, gave_between, heard, heard_with, own_of, stands_of, submits}
use Rattle.snep_core.specs.Talk.{takes_more, units_of}

-- a unit was submitted, or it may not be now
pub record Offered (sap : ℕ) (old : EndState) (unit : List ℕ) (taken : Bool) (new : EndState) : Type 0 where
  pub test : taken ≡ takes_more old sap unit
  pub kept : new ≡ (if taken then submits old sap unit else old)

-- the units that were handed up came to this, and are taken away; or one of them puts the far end at fault
abbrev pub HearsUnits : ℕ → Bool → EndState → Job → Option Heard → EndState → Type 0
HearsUnits sap waiting old job None new =
    (told_in waiting job (units_of (own_of sap old)) ≡ None) × (forgotten new sap ≡ forgotten old sap)
HearsUnits sap waiting old job (Some h) new =
    (told_in waiting job (units_of (own_of sap old)) ≡ Some h.job) × (h.some ≡ has_byte (units_of (own_of sap old)))
    × (new ≡ emptied old sap)

-- all that was heard came to this; or the far end is at fault
abbrev pub Hears : ℕ → Bool → EndState → Job → Option Heard → EndState → Type 0
Hears sap waiting old job None new = (heard waiting old sap job ≡ None) × (forgotten new sap ≡ forgotten old sap)
Hears sap waiting old job (Some h) new =
    (heard waiting old sap job ≡ Some h.job) × (h.some ≡ has_byte (units_of (own_of sap old))) × (new ≡ emptied old sap)

-- a job whose payload was given: how its connection stood then, and whether a unit waited there
abbrev pub awaiting_of : EndState → OnSap → Awaiting
awaiting_of l x = record {
  sap = x.sap;
  job = x.job;
  before = stands_of (own_of x.sap l);
  waiting = has_waiting_of (own_of x.sap l);
}

abbrev pub all_awaiting : EndState → List OnSap → List Awaiting
all_awaiting l [] = []
all_awaiting l (x ∷ xs) = awaiting_of l x ∷ all_awaiting l xs

abbrev pub awaited_saps : List Awaiting → List ℕ
awaited_saps [] = []
awaited_saps (x ∷ xs) = x.sap ∷ awaited_saps xs

-- What they come to by what was heard, none where the far end is at fault; whether the reply gave something to one of
-- them; and the end, with all units taken away.
abbrev pub all_come : EndState → List Awaiting → Option (List OnSap)
all_come l [] = Some []
all_come l (x ∷ xs) = heard_with x.sap (heard x.waiting l x.sap x.job) (all_come l xs)

abbrev pub gave_here : EndState → Awaiting → Bool
gave_here l x = gave_between x.before (stands_of (own_of x.sap l)) || has_byte (units_of (own_of x.sap l))

abbrev pub gave_one : EndState → List Awaiting → Bool
gave_one l [] = false
gave_one l (x ∷ xs) = gave_here l x || gave_one l xs

abbrev pub empties : List Awaiting → EndState → EndState
empties [] l = l
empties (x ∷ xs) l = empties xs (emptied l x.sap)

-- the connections from these SAPs are forgotten
abbrev pub forgets : List ℕ → EndState → EndState
forgets [] l = l
forgets (s ∷ ss) l = forgets ss (forgotten l s)

-- All jobs came to this by what was heard; or the far end is at fault, and once it is forgotten nothing is left of it.
abbrev pub HearsAll : EndState → List Awaiting → Option HeardAll → EndState → Type 0
HearsAll old all None new =
    (all_come old all ≡ None) × (forgets (awaited_saps all) new ≡ forgets (awaited_saps all) old)
HearsAll old all (Some h) new =
    (all_come old all ≡ Some h.jobs) × (h.gave ≡ gave_one old all) × (new ≡ empties all old)
