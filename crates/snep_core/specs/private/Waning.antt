-- What a reply leaves to come, and what a job is for: for private calls.
use Rattle.std.specs.Prelude.{◌≡◌, ◌<◌, ◌≤◌, ℕ, Bool, true, false, Option, Some, None}
use Rattle.snep_core.specs.Jobs.{Job, Begins, Waits, Sends, Asks, Collects, Looks, Closes, Over, Ending, Done, Value}
use Rattle.snep_core.specs.Jobs.{Sap, Refused}

-- a reply that gave something leaves less to come, and another one not more
abbrev pub LessensTo : Bool → ℕ → ℕ → Type 0
LessensTo true old new = new < old
LessensTo false old new = new ≤ old

-- what a job is for: a message is put, a value is asked for, a name looked up, the connection ended
pub data Aim : Type 0 where
  Putting : Aim
  Getting : Aim
  Finding : Aim
  Leaving : Aim

abbrev pub aim_by : Option ℕ → Aim
aim_by None = Putting
aim_by (Some most) = Getting

abbrev pub aim_of : Job → Aim
aim_of (Begins most bytes) = aim_by most
aim_of (Waits most rest) = aim_by most
aim_of (Sends most rest) = aim_by most
aim_of (Asks size have) = Getting
aim_of (Collects size have) = Getting
aim_of (Looks tid) = Finding
aim_of Closes = Leaving
aim_of (Over Done) = Putting
aim_of (Over (Value v)) = Getting
aim_of (Over (Sap sap)) = Finding
aim_of (Over (Refused r)) = Putting

-- an ending is one of an aim
abbrev pub IsOf : Aim → Ending → Type 0
IsOf Putting Done = Unit {0}
IsOf Putting (Refused r) = Unit {0}
IsOf Getting (Value v) = Unit {0}
IsOf Getting (Refused r) = Unit {0}
IsOf Finding (Sap sap) = Unit {0}
IsOf Leaving Done = Unit {0}
IsOf _ _ = ⊥

-- a job serves an aim
abbrev pub Serves : Aim → Job → Type 0
Serves aim (Begins most bytes) = aim ≡ aim_by most
Serves aim (Waits most rest) = aim ≡ aim_by most
Serves aim (Sends most rest) = aim ≡ aim_by most
Serves aim (Asks size have) = aim ≡ Getting
Serves aim (Collects size have) = aim ≡ Getting
Serves aim (Looks tid) = aim ≡ Finding
Serves aim Closes = aim ≡ Leaving
Serves aim (Over e) = IsOf aim e
