-- What is due while a client's call is carried over a link to a peer, by what was heard of it: each payload of the call
-- is one exchange of NFC-DEP, and the call goes on by its reply (NFCIP-1, ISO/IEC 18092; NFC Forum LLCP 1.3 and SNEP
-- 1.0).
use Rattle.std.specs.Prelude.{ℕ, List}
use Rattle.air_core.specs.Conversation.{Note, Next}
use Rattle.dep_link.specs.Initiator.{InitState}
use Rattle.dep_link.specs.Asking.{Standing}
use Rattle.nfc_base.specs.Choosing.{first_number, later_numbers}
use Rattle.snep_core.specs.Talk.{Step, Goes, Ends, GivesUp, Working, payload, replied}
use Rattle.link_calls.specs.Walk.{Course, Giver, Underway, Through, Walk, walk_at, walk_carried, walk_noted, walk_on}
use Rattle.link_calls.specs.Walk.{walk_due_at, walk_stand, walk_due}
pub use Rattle.link_calls.specs.Walk.{Carries, Comes, BrokenBy, Strays}

-- A call that is under way, with the numbers that are left, of which the first is how many PDUs its payload has. Where
-- there is none left it is 0, which is as many as fit.
abbrev pub OnCall : Type 0
OnCall = Working × List ℕ

-- a call goes on, or came to its end
abbrev pub next_of : List ℕ → Step → Course OnCall Step
next_of ns (Goes w) = Underway (w, ns)
next_of ns (Ends jobs l) = Through (Ends jobs l)
next_of ns (GivesUp l) = Through (GivesUp l)

-- at a reply it goes on by that
abbrev pub by_client : Giver OnCall Step
by_client = record {
  gives = λ c. payload (first_number c.1) c.0;
  told = λ c reply. next_of (later_numbers c.1) (replied (first_number c.1) c.0 reply);
}

-- where a call stands
abbrev pub CallStanding : Type 0
CallStanding = Walk OnCall Step

abbrev pub call_at : List ℕ → Step → InitState → CallStanding
call_at ns from i = walk_at by_client (next_of ns from) i

abbrev pub carried : Working → List ℕ → Standing → CallStanding
carried w ns s = walk_carried by_client (w, ns) s

abbrev pub call_noted : CallStanding → Note → CallStanding
call_noted c n = walk_noted by_client c n

abbrev pub call_on : CallStanding → List Note → CallStanding
call_on c ns = walk_on by_client c ns

abbrev pub call_due_at : CallStanding → Next
call_due_at c = walk_due_at c

-- where a call stands that began with this step, on a link whose initiator stood so, once this was heard; and what is
-- due then
abbrev pub call_stand : List ℕ → Step → InitState → List Note → CallStanding
call_stand ns from i notes = walk_stand by_client (next_of ns from) i notes

abbrev pub call_due : List ℕ → Step → InitState → List Note → Next
call_due ns from i notes = walk_due by_client (next_of ns from) i notes
