-- What a whole write tells, whatever the tag does: what its survey's answers say, and those to its writes.
use Rattle.std.specs.Prelude.{◌≡◌, ℕ, ◌-◌, ◌<◌, ◌≤◌, ◌⊎◌, min, List, length, true, false, nat_lt, Result, Ok, Err}
use Rattle.nfc_base.specs.TagLinks.{LinkView}
use Rattle.t4t_tag.specs.Spelling.{most_per_command}
use Rattle.tlv_area.specs.Tail.{map_room, capacity_of}
use Rattle.tlv_area.specs.Writing.{GivesPlan}
use Rattle.tag_reader.specs.declared.how.How.{How}
use Rattle.tag_reader.specs.declared.how.How.TheVariants.{T4}
use Rattle.tag_reader.specs.declared.fault.ReadFault.{ReadFault}
use Rattle.tag_reader.specs.declared.ground.Ground.{Ground}
use Rattle.tag_reader.specs.declared.ground.Ground.TheVariants.{Area, File}
use Rattle.tag_reader.specs.SurveyHeard.{IsSurveyedBy, IsUnsurveyedBy}
use Rattle.tag_writer.specs.declared.fault.WriteFault.{WriteFault}
use Rattle.tag_writer.specs.declared.fault.WriteFault.TheVariants as fault
use Rattle.tag_writer.specs.declared.phase.Prepared.{Prepared}
use Rattle.tag_writer.specs.declared.work.Work.{Work}
use Rattle.tag_writer.specs.declared.work.Work.TheVariants as work
use Rattle.tag_writer.specs.Commands.{all_commands}
use Rattle.tag_writer.specs.Planning.{of_read}
use Rattle.tag_writer.specs.WriteHeard.{AreAcknowledged, StopsAmong}

-- The work writes the message to the ground that a survey told.
abbrev pub IsWorkOn : How → Ground → List ℕ → Work → Type 0
IsWorkOn how (Area known block map') message (work.Blocks how' plan) =
    (how' ≡ how) × GivesPlan block map' known message plan
IsWorkOn how (Area known block map') message (work.File message' most close) = ⊥
IsWorkOn how (File map' length') message (work.Blocks how' plan) = ⊥
IsWorkOn how (File map' length') message (work.File message' most close) =
    (how ≡ T4) × (message' ≡ message) × (most ≡ min map'.mlc most_per_command) × (close ≡ nat_lt 0 length')

-- All that was answered between two views says the ground, and this is the work on it.
pub record IsPlannedBy (how : How) (message : List ℕ) (work : Work) (a b : LinkView) : Type 0 where
  pub ground : Ground
  pub surveyed : IsSurveyedBy how a b ground
  pub on : IsWorkOn how ground message work

-- A ground doesn't take a message, or there is no memory; blocks of more than 32 bytes are no allowed answer of a tag.
abbrev pub IsDeclinedOn : Ground → List ℕ → WriteFault → Type 0
IsDeclinedOn (Area known block map') message fault.ReadOnly = map'.space.writable ≡ false
IsDeclinedOn (Area known block map') message (fault.TooLong n) =
    (map'.space.writable ≡ true) × (n ≡ capacity_of (map_room map')) × (n < length message)
IsDeclinedOn (Area known block map') message fault.Protocol = 32 < block
IsDeclinedOn (Area known block map') message fault.Memory = Unit {0}
IsDeclinedOn (Area known block map') message e = ⊥
IsDeclinedOn (File map' length') message fault.ReadOnly = map'.writable ≡ false
IsDeclinedOn (File map' length') message (fault.TooLong n) =
    (map'.writable ≡ true) × (n ≡ map'.size - 2) × (n < length message)
IsDeclinedOn (File map' length') message fault.ShortMlc =
    (map'.writable ≡ true) × (length message ≤ map'.size - 2) × (map'.mlc < 2)
IsDeclinedOn (File map' length') message fault.Memory = Unit {0}
IsDeclinedOn (File map' length') message e = ⊥

pub record IsDeclinedBy (how : How) (message : List ℕ) (a b : LinkView) (e : WriteFault) : Type 0 where
  pub ground : Ground
  pub surveyed : IsSurveyedBy how a b ground
  pub declined : IsDeclinedOn ground message e

-- why nothing is written: by the answers to what is read first, or by the ground that they say
abbrev pub IsUnplannedBy : How → List ℕ → LinkView → LinkView → WriteFault → Type 0
IsUnplannedBy how message a b e = ((f : ReadFault) × (e ≡ of_read f) × IsUnsurveyedBy how a b f)
    ⊎ IsDeclinedBy how message a b e

-- what preparing a write tells
abbrev pub TellsPlan : How → List ℕ → LinkView → LinkView → Result Prepared WriteFault → Type 0
TellsPlan how message a b (Ok p) = IsPlannedBy how message p.work a b
TellsPlan how message a b (Err e) = IsUnplannedBy how message a b e

-- What a whole write tells, whatever the tag. Success: there is a view of the link at which the work was planned, and
-- since then each write of it was acknowledged. A fault: nothing was written, or some writes were acknowledged, and the
-- next one wasn't.
abbrev pub IsWriteToldBy : How → List ℕ → LinkView → LinkView → Result Unit WriteFault → Type 0
IsWriteToldBy how message a b (Ok done') = (v : LinkView) × (w : Work) × IsPlannedBy how message w a v
    × AreAcknowledged how v b (all_commands w)
IsWriteToldBy how message a b (Err e) =
    IsUnplannedBy how message a b e ⊎ ((v : LinkView) × (w : Work) × IsPlannedBy how message w a v
    × StopsAmong how v b (all_commands w) e)
