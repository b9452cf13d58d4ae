-- What commands of links come to on quiet air, where no fate is left but Pass.
use Rattle.std.specs.Prelude.{◌≡◌, ℕ, ◌+◌, nat_lt, false, List, [], ◌∷◌, length, map, Some, if◌then◌else◌}
use Rattle.snep_core.specs.Accord.{from_sap}
use Rattle.snep_core.specs.Payloads.{accepted_from}
use Rattle.snep_core.specs.Server.{Received}
use Rattle.snep_core.specs.Talk.{sap_of_slot}
use Rattle.link_calls.specs.Asking.{LinkAsking, Does, Closes, Putting}
use Rattle.link_calls.specs.AtOnce.{EachOf, is_from}
use Rattle.link_calls.specs.declared.request.SlotMessage.{SlotMessage}
use Rattle.bench_devices.specs.declared.device.Device.{Device}
use Rattle.bench_world.specs.declared.entry.Answer.{Answer}
use Rattle.bench_world.specs.declared.entry.Entry.{Entry}
use Rattle.bench_world.specs.Asked.{asked_on_link}
use Rattle.bench_world.specs.Calls.{OfEnd, with_accepted}
use Rattle.bench_world.specs.CompletingLinks.{peer_answer, link_answer, OpensPlaced}
use Rattle.bench_world.specs.Journal.{LeadsTo}
use Rattle.bench_world.specs.Legal.{State, Given, Joins, LegalStep, peer_end_of}
use Rattle.bench_world.specs.Links.{OpenLink}
use Rattle.bench_world.specs.Quiet.{AllPass}
use Rattle.bench_world.specs.World.{FarEnd, stable}

-- what a peer's server gains by a message from its SAP: it, and nothing of one that is longer than its limit
abbrev pub gained : ℕ → List ℕ → List (List ℕ)
gained limit m = if nat_lt limit (length m) then [] else m ∷ []

-- So it gains by messages that are put at once, of the SAP of each its own, and from no other SAP anything.
pub record GainsEach (ws : List SlotMessage) (limit : ℕ) (more : List Received) : Type 0 where
  pub each : EachOf (λ slot m. accepted_from (sap_of_slot slot) more ≡ gained limit m) ws
  pub others : (s : ℕ) → is_from s ws ≡ false → accepted_from s more ≡ []

-- One alone is all that it gains then.
abbrev pub GainsAll : List SlotMessage → ℕ → List Received → Type 0
GainsAll (w ∷ []) limit more = more ≡ map (from_sap (sap_of_slot w.slot)) (gained limit w.message)
GainsAll [] limit more = GainsEach [] limit more
GainsAll (w ∷ v ∷ ws) limit more = GainsEach (w ∷ v ∷ ws) limit more

-- So it gains by what is asked: by any other than a put nothing.
abbrev pub GainsBy : LinkAsking → FarEnd → List Received → Type 0
GainsBy (Does (Putting ws)) end more = GainsAll ws end.service.limit more
GainsBy asked end more = more ≡ []

-- What was asked is told as the peer tells it, and the list of the peer's server gains just that at its end. Of other
-- far ends nothing that stays changes.
pub record IsQuietly (s : State) (l : OpenLink) (asked : LinkAsking) (answer : Answer) (t : State) (end : FarEnd)
    : Type 0 where
  pub told : answer ≡ peer_answer asked end
  pub more : List Received
  pub gains : GainsBy asked end more
  pub ends : (stable t.world).ends ≡ with_accepted more l.peer s.peers.numbers (stable s.world).ends

-- a link to the same peer is open still
abbrev pub StaysOpen : OpenLink → State → Type 0
StaysOpen l t = (now : OpenLink) × (t.link ≡ Some now) × (now.peer ≡ l.peer)

-- it stays open, but behind a close
abbrev pub StaysBehind : LinkAsking → OpenLink → State → Type 0
StaysBehind (Does call) l t = StaysOpen l t
StaysBehind Closes l t = Unit {0}

-- What a command asks on the open link is answered so, and the link stays open, but behind a close.
abbrev pub TalksQuietly : State → Entry → State → Type 0
TalksQuietly s e t =
    (l : OpenLink) (asked : LinkAsking) → asked_on_link e.command ≡ Some asked → s.link ≡ Some l
    → OfEnd (IsQuietly s l asked e.answer t) (peer_end_of s l) × StaysBehind asked l t

abbrev pub QuietTalks : Type 0
QuietTalks = (s t : State) (g : Given) (e : Entry) → LegalStep s g e t → AllPass s.queue → TalksQuietly s e t

-- A placed peer is linked, and a tag tells that it has no link as peers do.
abbrev pub LinksQuietly : State → Entry → Type 0
LinksQuietly s e = (id : List ℕ) (miu window : ℕ) (d : Device) → OpensPlaced s e id miu window d
    → e.answer ≡ link_answer (length s.peers.links + 1) d

-- So does an entry wherever the lines of a script lead.
abbrev pub QuietLinkings : Type 0
QuietLinkings =
    (lines : List (List ℕ)) (numbers : List Joins) (journal : List Entry) (s t : State) (g : Given) (e : Entry)
    → LeadsTo lines numbers journal s → LegalStep s g e t → AllPass s.queue → LinksQuietly s e
