-- What a client's call over the open link of a field does, and how it leaves the link (NFC Forum LLCP 1.3 and SNEP
-- 1.0).
use Rattle.std.specs.Prelude.{◌≡◌, ◌⊎◌, ℕ, List}
use Rattle.nfc_base.specs.Choosing.{Choosing}
use Rattle.nfc_base.specs.declared.carrier.EndCause.{EndCause}
use Rattle.nfc_base.specs.declared.carrier.EndCause.TheVariants as cause
use Rattle.air_core.specs.Turn.{Air}
use Rattle.air_core.specs.declared.listener.Listener.{Ghosts}
use Rattle.dep_link.specs.Target.{TargetState}
use Rattle.dep_link.specs.Initiator.{InitState}
use Rattle.snep_core.specs.declared.fault.SnepFault.{SnepFault}
use Rattle.snep_core.specs.declared.fault.SnepFault.TheVariants.{BadPeer, LinkEnded, Memory}
use Rattle.snep_core.specs.declared.job.Refusal.{Refusal}
use Rattle.snep_core.specs.Accord.{PeerState}
use Rattle.snep_core.specs.Calling.{gives_up, refused_by}
use Rattle.snep_core.specs.declared.job.Job.TheVariants.{Over}
use Rattle.snep_core.specs.declared.job.Ending.TheVariants.{Refused}
use Rattle.snep_core.specs.Talk.{CameTo, EndState, Step, Ends, one_on}
use Rattle.link_calls.specs.CallDue.{CallStanding, by_client, next_of}
use Rattle.link_calls.specs.Carrying.{WalkComes, IsWalked, IsWalkEnded, IsWalkShort}
pub use Rattle.link_calls.specs.Carrying.{IsOpen, IsCarried}

module _ {L : Type 0} (k : Ghosts L) (target : L → TargetState) where
  -- A call on an open link, from a moment of the field, its initiator and its peer's end to others. These numbers say
  -- how many PDUs each of its payloads has, and those that are left to the peer's end the same of its replies.
  module _ (numbers : List ℕ) (from : Step) (old : Air L) (i : InitState) (far : Choosing PeerState) (new : Air L)
      (j : InitState) (after : Choosing PeerState) where
    -- In the world with the far ends of peers, at the place of this one, each of its requests was due, and what was
    -- heard brought it to where it stands so.
    abbrev pub CallComes : CallStanding → Type 0
    CallComes s = WalkComes k target by_client (next_of numbers from) old i far new j after s

    -- It came to its end.
    abbrev pub IsMade : Step → Type 0
    IsMade to = IsWalked k target by_client (next_of numbers from) old i far new j after to

    -- Its link ended by this cause.
    abbrev pub IsEndedBy : EndCause → Type 0
    IsEndedBy c = IsWalkEnded k target by_client (next_of numbers from) old i far new j after c

    -- Memory was wanting.
    abbrev pub IsCutShort : Type 0
    IsCutShort = IsWalkShort k target by_client (next_of numbers from) old i far new j after

    -- It was cut off, by its link or by want of memory.
    abbrev pub IsCutOff : SnepFault → Type 0
    IsCutOff (LinkEnded cause.FieldLost) = IsEndedBy cause.FieldLost
    IsCutOff (LinkEnded cause.SixBad) = IsEndedBy cause.SixBad
    IsCutOff (LinkEnded cause.Protocol) = ⊥
    IsCutOff (LinkEnded cause.Memory) = ⊥
    IsCutOff Memory = IsCutShort
    IsCutOff _ = ⊥

    -- It failed: the far end was given up, with what the job came to, or it was cut off.
    abbrev pub CallFails : EndState → SnepFault → Type 0
    CallFails client e = ((e ≡ BadPeer) × (came : List CameTo) × IsMade (gives_up came client)) ⊎ IsCutOff e

    -- A request on the connection from a SAP failed: it was refused, the far end was given up, or it was cut off.
    abbrev pub RequestFails : ℕ → EndState → SnepFault → Type 0
    RequestFails sap client e =
        ((why : Refusal) × (e ≡ refused_by why) × IsMade (Ends (one_on sap (Over (Refused why))) client))
        ⊎ CallFails client e
