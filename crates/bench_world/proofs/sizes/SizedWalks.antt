-- While a call is carried on a link, and while the link is closed, no payload of this end is longer than one may be; and behind
-- a call its end is such a one again.
use Rattle.std.proofs.Common.{◌≡◌, ◌≤◌, ◌+◌, ℕ, List, [], ◌∷◌, length, subst}
use Rattle.nfc_base.specs.Choosing.{first_number, later_numbers}
use Rattle.air_core.specs.Conversation.{Note, Lit, Got, Lost}
use Rattle.dep_link.specs.Initiator.{InitState}
use Rattle.dep_link.specs.Asking.{Standing, Waits, Rests, Broken, Astray, noted}
use Rattle.snep_core.specs.declared.slot.Slot.{Slot}
use Rattle.snep_core.specs.declared.slot.Slot.TheVariants.{Staged}
use Rattle.snep_core.specs.Slots.{fresh_slots, put_with, puts_from}
use Rattle.snep_core.specs.Talk.{EndState, Ends, Finds, Gets, GivesUp, Goes, Step, TaskOn, Working, client_sap, client_saps, closes, leave_from, replied}
use Rattle.link_calls.specs.Asking.{Call, Closes, Does, Finding, Getting, LinkAsking, Putting, call_begins}
use Rattle.link_calls.specs.AtOnce.{all_staged, puts_at_once}
use Rattle.link_calls.specs.Walk.{Carries, Comes, BrokenBy, Strays, walk_at, walk_carried, walk_noted}
use Rattle.link_calls.specs.CallDue.{CallStanding, by_client, call_at, call_on, call_stand, next_of}
use Rattle.link_calls.specs.ClosingDue.{Calls, ClosingStanding, Released, Releasing, closing_at, closing_noted, closing_on, closing_stand}
use Rattle.link_numbers.specs.OwnShows.{AtEnd}
use Rattle.link_numbers.proofs.far.FarClosing as closing
use Rattle.link_numbers.proofs.far.FarWalk.{Outs}
use Rattle.bench_world.proofs.sizes.SizedCalls.{NamesFit, Short, begins_short, carries_short, replied_short}

-- A name that is looked up fits into a payload.
abbrev CallNameFits : Call → Type 0
CallNameFits (Finding name) = length name ≤ 64
CallNameFits call = Unit {0}

abbrev pub AskedNameFits : LinkAsking → Type 0
AskedNameFits (Does call) = CallNameFits call
AskedNameFits Closes = Unit {0}

-- A call begins with such an end: nothing is looked up by a put, or where connections are ended.
put_names_fit : (sap : ℕ) (s : Slot) (more : List TaskOn) → NamesFit more → NamesFit (put_with sap s more)
put_names_fit sap (Staged m) more h = (tt, h)
put_names_fit sap s more h = h

puts_names_fit : (sap : ℕ) (ss : List Slot) → NamesFit (puts_from sap ss)
puts_names_fit sap [] = tt
puts_names_fit sap (s ∷ ss) = put_names_fit sap s (puts_from (sap + 1) ss) (puts_names_fit (sap + 1) ss)

leaves_names_fit : (ss : List ℕ) → NamesFit (leave_from ss)
leaves_names_fit [] = tt
leaves_names_fit (s ∷ ss) = (tt, leaves_names_fit ss)

call_short : (l : EndState) (call : Call) → CallNameFits call → Short l → AtEnd Short (call_begins l call)
call_short l (Putting ws) k h = begins_short l (puts_at_once ws) (puts_names_fit client_sap (all_staged ws fresh_slots)) h
call_short l (Getting sap most key) k h = begins_short l (record { sap = sap; task = Gets most key } ∷ []) (tt, tt) h
call_short l (Finding name) k h = begins_short l (record { sap = client_sap; task = Finds name } ∷ []) (k, tt) h

closes_short : (l : EndState) → Short l → AtEnd Short (closes l)
closes_short l h = begins_short l (leave_from client_saps) (leaves_names_fit client_saps) h

-- where a call stands its end is such a one
abbrev CallShort : CallStanding → Type 0
CallShort (Carries w s) = Short w.0.llc
CallShort (Comes to i) = AtEnd Short to
CallShort (BrokenBy cause) = Unit {0}
CallShort Strays = Unit {0}

starts_short : (to : Step) (ns : List ℕ) (i : InitState) → AtEnd Short to → CallShort (walk_at by_client (next_of ns to) i)
starts_short (Goes w) ns i h = h
starts_short (Ends jobs l) ns i h = h
starts_short (GivesUp g) ns i h = h

carried_short : (w : Working) (ns : List ℕ) (s : Standing) → Short w.llc → CallShort (walk_carried by_client (w, ns) s)
carried_short w ns (Waits i f) h = h
carried_short w ns (Rests i reply) h = starts_short (replied (first_number ns) w reply) (later_numbers ns) i (replied_short (first_number ns) w reply h)
carried_short w ns (Broken cause) h = tt
carried_short w ns Astray h = tt

noted_short : (c : CallStanding) (n : Note) → CallShort c → CallShort (walk_noted by_client c n)
noted_short (Carries w s) n h = carried_short w.0 w.1 (noted s n) h
noted_short (Comes to i) n h = tt
noted_short (BrokenBy cause) n h = tt
noted_short Strays n h = tt

all_short : (c : CallStanding) (ns : List Note) → CallShort c → CallShort (call_on c ns)
all_short c [] h = h
all_short c (n ∷ ns) h = all_short (walk_noted by_client c n) ns (noted_short c n h)

stands_short : (ns : List ℕ) (from : Step) (i : InitState) (notes : List Note) → AtEnd Short from → CallShort (call_stand ns from i notes)
stands_short ns from i notes h = all_short (call_at ns from i) notes (starts_short from ns i h)

-- and so is where a closing stands
abbrev ClosingShort : ClosingStanding → Type 0
ClosingShort (Calls c) = CallShort c
ClosingShort (Releasing to) = Unit {0}
ClosingShort (Released to) = Unit {0}

closing_at_short : (c : CallStanding) → CallShort c → ClosingShort (closing_at c)
closing_at_short (Comes (Ends jobs l) i) h = tt
closing_at_short (Comes (GivesUp g) i) h = h
closing_at_short (Comes (Goes w) i) h = h
closing_at_short (Carries w s) h = h
closing_at_short (BrokenBy cause) h = tt
closing_at_short Strays h = tt

closing_noted_short : (c : ClosingStanding) (n : Note) → ClosingShort c → ClosingShort (closing_noted c n)
closing_noted_short (Calls c) n h = closing_at_short (walk_noted by_client c n) (noted_short c n h)
closing_noted_short (Releasing to) Lit h = tt
closing_noted_short (Releasing to) (Got heard) h = tt
closing_noted_short (Releasing to) Lost h = tt
closing_noted_short (Released to) n h = tt

closing_short : (c : ClosingStanding) (ns : List Note) → ClosingShort c → ClosingShort (closing_on c ns)
closing_short c [] h = h
closing_short c (n ∷ ns) h = closing_short (closing_noted c n) ns (closing_noted_short c n h)

-- So no payload that is carried is too long, ...
outs_of : (c : CallStanding) → CallShort c → Outs by_client c
outs_of (Carries w s) h = carries_short (first_number w.1) w.0 h
outs_of (Comes to i) h = tt
outs_of (BrokenBy cause) h = tt
outs_of Strays h = tt

closing_outs_of : (c : ClosingStanding) → ClosingShort c → closing.Outs c
closing_outs_of (Calls c) h = outs_of c h
closing_outs_of (Releasing to) h = tt
closing_outs_of (Released to) h = tt

pub call_outs : (own : List ℕ) (l : EndState) (call : Call) (i : InitState) (notes : List Note) → CallNameFits call → Short l
    → Outs by_client (call_stand own (call_begins l call) i notes)
call_outs own l call i notes k h = outs_of (call_stand own (call_begins l call) i notes) (stands_short own (call_begins l call) i notes (call_short l call k h))

pub closing_outs : (own : List ℕ) (l : EndState) (i : InitState) (notes : List Note) → Short l → closing.Outs (closing_stand own (closes l) i notes)
closing_outs own l i notes h =
    closing_outs_of (closing_stand own (closes l) i notes)
    (closing_short (closing_at (call_at own (closes l) i)) notes (closing_at_short (call_at own (closes l) i) (starts_short (closes l) own i (closes_short l h))))

-- ... and the end that a call leaves is such a one again.
pub call_leaves : (own : List ℕ) (l : EndState) (call : Call) (to : Step) (i j : InitState) (notes : List Note) → CallNameFits call → Short l
    → call_stand own (call_begins l call) i notes ≡ Comes to j → AtEnd Short to
call_leaves own l call to i j notes k h e = subst CallShort e (stands_short own (call_begins l call) i notes (call_short l call k h))
