-- What following the events of a command does: the bench is told what happened, and says how far that may have happened
-- (this project's own; which entries a bench may have is said in Legal.antt).
use Rattle.std.specs.Prelude.{◌≡◌, ◌≢◌, ℕ, suc, ◌<◌, ◌≤◌, List, [], ◌∷◌, ◌++◌, length, take, drop, true, false}
use Rattle.nfc_base.specs.declared.event.Event.{Event}
use Rattle.bench_script.specs.declared.command.Command.{Command}
use Rattle.bench_script.specs.declared.command.Command.TheVariants.{Skip}
use Rattle.bench_world.specs.declared.entry.Entry.{Entry}
use Rattle.bench_world.specs.declared.following.Followed.{Followed}
use Rattle.bench_world.specs.declared.following.Followed.TheVariants.{Whole, Front}
use Rattle.bench_world.specs.Alike.{Alike}
use Rattle.bench_world.specs.Halting.{CutOff}
use Rattle.bench_world.specs.Legal.{State, Given, Joins, Accepts, LegalStep}
use Rattle.bench_world.specs.Obeying.{Benched}
use Rattle.bench_world.specs.ReadBack.{AreOnAir}
use Rattle.bench_world.specs.Showing.{IsBetweenCommands, MayShow}
use Rattle.bench_world.specs.Unfinished.{Unfinished}

-- Two courses part: one is over, or the next events differ.
abbrev pub GoApart : List Event → List Event → Type 0
GoApart [] ys = Unit {0}
GoApart (x ∷ xs) [] = Unit {0}
GoApart (x ∷ xs) (y ∷ ys) = x ≢ y

-- They begin with the same so many events, and part there.
pub record BeginAlike (xs ys : List Event) (n : ℕ) : Type 0 where
  pub within : n ≤ length xs
  pub within_other : n ≤ length ys
  pub same : take n xs ≡ take n ys
  pub apart : GoApart (drop n xs) (drop n ys)

-- the events that were told are just those that were made, or begin so and part from them
abbrev pub Compares : List Event → List Event → Followed → Type 0
Compares made told Whole = told ≡ made
Compares made told (Front good) = BeginAlike made told good × (told ≢ made)

-- an entry goes to a journal where all that was told is its own, and else none does
abbrev pub Records : Followed → List Entry → List Entry → Entry → Type 0
Records Whole old new entry = new ≡ old ++ entry ∷ []
Records (Front good) old new entry = new ≡ old

-- A command may be followed where it is accepted, but for frames that are written by hand while a peer is placed.
abbrev pub MayFollow : State → Command → Type 0
MayFollow s c = Accepts s c × MayShow s c

-- All of the events may have happened: the journal gained one entry of this line and command with just these, by some
-- numbers of PDUs, and the machines are in the state that its step leads to.
pub record FollowsAll (old new : Benched) (line : ℕ) (c : Command) (events : List Event) : Type 0 where
  pub sound : old.spoiled ≡ false
  pub between : IsBetweenCommands old.state
  pub shows : MayShow old.state c
  pub entry : Entry
  pub state : State
  pub given : Given
  pub is : new ≡ record old { journal = old.journal ++ entry ∷ []; state = state }
  pub numbered : entry.line ≡ line
  pub asked : entry.command ≡ c
  pub happened : entry.events ≡ events
  pub legal : LegalStep old.state given entry state

-- no entry of this command begins with these events, by whatever numbers, from whatever state is alike to this one; ...
abbrev pub NoneBegins : State → Command → List Event → Type 0
NoneBegins s c es =
    (t u : State) (g : Given) (e : Entry) (rest : List Event) → Alike s t → LegalStep t g e u → e.command ≡ c
    → e.events ≡ es ++ rest → ⊥

-- ... and none has just these
abbrev pub NoneHas : State → Command → List Event → Type 0
NoneHas s c es = (t u : State) (g : Given) (e : Entry) → Alike s t → LegalStep t g e u → e.command ≡ c → e.events ≡ es
    → ⊥

-- The events aren't those of an entry: the first `good` of them begin one, no more of them do, and none has just these.
-- The journal is as before, and the machines are in the state that the step of an entry leads to which begins so.
pub record FollowsFront (old new : Benched) (line : ℕ) (c : Command) (events : List Event) (good : ℕ) : Type 0 where
  pub sound : old.spoiled ≡ false
  pub between : IsBetweenCommands old.state
  pub shows : MayShow old.state c
  pub made : Entry
  pub state : State
  pub given : Given
  pub is : new ≡ record old { state = state }
  pub numbered : made.line ≡ line
  pub asked : made.command ≡ c
  pub legal : LegalStep old.state given made state
  pub within : good ≤ length events
  pub behind : List Event
  pub begins : made.events ≡ take good events ++ behind
  pub on_air : AreOnAir made.events
  pub none_more : good < length events → NoneBegins old.state c (take (suc good) events)
  pub none_so : NoneHas old.state c events

abbrev pub FollowsOne : Followed → Benched → Benched → ℕ → Command → List Event → Type 0
FollowsOne Whole old new line c events = FollowsAll old new line c events
FollowsOne (Front good) old new line c events = FollowsFront old new line c events good

-- Where a line asks for nothing nothing happens.
pub record FollowsNone (f : Followed) (old new : Benched) (events : List Event) : Type 0 where
  pub sound : old.spoiled ≡ false
  pub is : new ≡ old
  pub compares : Compares [] events f

abbrev pub Follows : Followed → Benched → Benched → ℕ → Command → List Event → Type 0
Follows f old new line Skip events = FollowsNone f old new events
Follows f old new line c events = FollowsOne f old new line c events

-- Want of memory spoiled the bench: the journal stays, and of the command there is at most a front of its step, by some
-- numbers, whose events are gone. What tags hold is left as an unfinished command leaves it.
pub record SpoilsTrack (old new : Benched) (c : Command) : Type 0 where
  pub state : State
  pub joins : Joins
  pub events : List Event
  pub is : new ≡ record old { state = state; cut = []; spoiled = true }
  pub front : CutOff joins old.state c events state
  pub stores : Unfinished old.state c events state

-- ... and once it is spoiled, nothing changes
abbrev pub LosesTrack : Benched → Benched → Command → Type 0
LosesTrack old new c = (old.spoiled ≡ false → SpoilsTrack old new c) × (old.spoiled ≡ true → new ≡ old)
