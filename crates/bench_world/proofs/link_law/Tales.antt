-- Stories told by what a peer's list gained in each stretch, from the state before it to the one behind it.
use Rattle.std.specs.Prelude.{drop}
use Rattle.std.proofs.Common.{ℕ, length, List, [], ◌∷◌, ◌++◌, Option, Some, None}
use Rattle.snep_core.specs.Server.{Received as Accepted}
use Rattle.bench_world.specs.declared.entry.Entry.{Entry}
use Rattle.bench_world.specs.World.{FarEnd}
use Rattle.bench_world.specs.Legal.{State, Joins, changed}
use Rattle.bench_world.specs.Links.{end_numbered}
use Rattle.bench_world.specs.Stories.{Story, Stretch, arrived_by, begins_in, begun_by, open_goes_on, puts_in, state_behind, stretch_of}

-- what the server of the peer with a number accepted so far, while it stands
abbrev pub accepted_of : Option FarEnd → List Accepted
accepted_of None = []
accepted_of (Some end) = end.service.accepted

abbrev pub accepted_in : ℕ → State → List Accepted
accepted_in peer s = accepted_of (end_numbered peer s.peers.numbers s.world.fars)

-- what that list gained from one state to another
abbrev pub gained_by : ℕ → State → State → List Accepted
gained_by peer s t = drop (length (accepted_in peer s)) (accepted_in peer t)

abbrev pub goes_on : State → Stretch → State → Story → Story
goes_on s x t y = record y {
  events = y.events ++ x.events;
  arrivals = y.arrivals ++ arrived_by s x y;
  puts = y.puts ++ puts_in x.command x.told;
  gained = y.gained ++ gained_by y.peer s t;
}

abbrev pub stories_behind : State → Stretch → State → List Story → List Story
stories_behind s x t ys = open_goes_on (changed s x.command).link (goes_on s x t) ys ++ begun_by (begins_in x) (goes_on s x t) s t

abbrev pub stories_from : State → List Story → List Joins → List Entry → List Story
stories_from s ys [] es = ys
stories_from s ys (n ∷ ns) [] = ys
stories_from s ys (n ∷ ns) (e ∷ es) = stories_from (state_behind s n e) (stories_behind s (stretch_of n e) (state_behind s n e) ys) ns es
