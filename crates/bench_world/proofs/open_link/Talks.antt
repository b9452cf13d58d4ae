-- What holds of each command that asks something on the open link.
use Rattle.std.proofs.Common.{◌≡◌, ℕ, List, [], Bool, true, false, is_some, Some, refl, ap}
use Rattle.nfc_base.specs.declared.event.Event.{Event}
use Rattle.air_core.specs.Conversation.{LightUp, Note}
use Rattle.snep_core.specs.Talk.{closes}
use Rattle.link_calls.specs.Asking.{LinkAsking, Does, Closes, call_begins}
use Rattle.bench_script.specs.declared.command.Command.{Command}
use Rattle.bench_script.specs.declared.command.Command.TheVariants.{Put, Get, Lookup, OnPut, OnGet, Puts, Unlink, Read, Read3, Write, Write3}
use Rattle.bench_world.specs.Asked.{IsOnLink, asked_on_link}
use Rattle.bench_world.specs.Calls.{due_asked}
use Rattle.bench_world.specs.Legal.{State, CutFront, CutShort, IsAskedBy, Joins, changed}
use Rattle.bench_world.specs.Links.{OpenLink}
use Rattle.bench_world.proofs.open_link.CallNotes.{calls_plain, closings_plain}

-- a command that isn't one
pub off : {X : Type 0} → ◌≡◌ {A = Bool} false true → X
off e = absurd cc

pub on_link : (c : Command) (asked : LinkAsking) → asked_on_link c ≡ Some asked → IsOnLink c
on_link c asked is = ap is_some is

-- it changes nothing itself
pub still_on : (s : State) (c : Command) → IsOnLink c → changed s c ≡ s
still_on s (Put m) on = refl
still_on s (Get most key) on = refl
still_on s (Lookup name) on = refl
still_on s (OnPut slot m) on = refl
still_on s (OnGet slot most key) on = refl
still_on s (Puts puts) on = refl
still_on s Unlink on = refl
still_on s c on = off on

-- and asks nothing of a tag
pub asks_none : (s : State) (c : Command) → IsOnLink c → IsAskedBy s c []
asks_none s (Read id) on = off on
asks_none s (Write id m) on = off on
asks_none s (Read3 id) on = off on
asks_none s (Write3 id m) on = off on
asks_none s c on = refl

-- it is cut off as a front of its step alone says
pub short_of : (joins : Joins) (s : State) (c : Command) (cut : List Event) (t : State) → IsOnLink c → CutFront joins s c cut t → CutShort joins s c cut t
short_of joins s (Read id) cut t on f = off on
short_of joins s (Write id m) cut t on f = off on
short_of joins s (Read3 id) cut t on f = off on
short_of joins s (Write3 id m) cut t on f = off on
short_of joins s c cut t on f = f

-- what is due on the link is no reset
pub never_lit : (asked : LinkAsking) (l : OpenLink) (joins : List ℕ) (ns : List Note) → due_asked asked l joins ns ≡ LightUp → ⊥
never_lit (Does call) l joins ns = (calls_plain joins (call_begins l.client call) l.initiator ns).lit
never_lit Closes l joins ns = (closings_plain joins (closes l.client) l.initiator ns).lit
