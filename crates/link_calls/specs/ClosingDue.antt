-- What is due while a client's connection is ended and its link released: behind the call RLS_REQ is sent once, and
-- whatever is heard of it is passed over, but that the field was lost (NFCIP-1, ISO/IEC 18092).
use Rattle.std.specs.Prelude.{ℕ, List, [], ◌∷◌}
use Rattle.nfc_base.specs.declared.carrier.EndCause.TheVariants.{FieldLost}
use Rattle.air_core.specs.Conversation.{Note, Lit, Got, Lost, Next, Over, Asks}
use Rattle.dep_link.specs.Initiator.{InitState}
use Rattle.dep_link.specs.Releasing.{rls_frame}
use Rattle.snep_core.specs.Talk.{Step, Goes, Ends, GivesUp}
use Rattle.link_calls.specs.CallDue.{CallStanding, Carries, Comes, BrokenBy, Strays, call_at, call_noted, call_due_at}

-- Where it stands: its call stands so, or it is over as a call is; or the call came to this step, behind which RLS_REQ
-- is due, or was sent.
pub data ClosingStanding : Type 0 where
  Calls : CallStanding → ClosingStanding
  Releasing : Step → ClosingStanding
  Released : Step → ClosingStanding

-- RLS_REQ follows where the connection was ended
abbrev pub closing_at : CallStanding → ClosingStanding
closing_at (Comes (Ends jobs l) i) = Releasing (Ends jobs l)
closing_at (Comes (GivesUp l) i) = Calls (Comes (GivesUp l) i)
closing_at (Comes (Goes w) i) = Calls (Comes (Goes w) i)
closing_at (Carries w s) = Calls (Carries w s)
closing_at (BrokenBy cause) = Calls (BrokenBy cause)
closing_at Strays = Calls Strays

abbrev pub closing_noted : ClosingStanding → Note → ClosingStanding
closing_noted (Calls c) n = closing_at (call_noted c n)
closing_noted (Releasing to) Lit = Calls Strays
closing_noted (Releasing to) (Got heard) = Released to
closing_noted (Releasing to) Lost = Calls (BrokenBy FieldLost)
closing_noted (Released to) n = Calls Strays

abbrev pub closing_on : ClosingStanding → List Note → ClosingStanding
closing_on c [] = c
closing_on c (n ∷ ns) = closing_on (closing_noted c n) ns

abbrev pub closing_due_at : ClosingStanding → Next
closing_due_at (Calls c) = call_due_at c
closing_due_at (Releasing to) = Asks rls_frame
closing_due_at (Released to) = Over

-- where a closing stands whose call began with this step, once this was heard, and what is due then
abbrev pub closing_stand : List ℕ → Step → InitState → List Note → ClosingStanding
closing_stand ns from i notes = closing_on (closing_at (call_at ns from i)) notes

abbrev pub closing_due : List ℕ → Step → InitState → List Note → Next
closing_due ns from i notes = closing_due_at (closing_stand ns from i notes)
