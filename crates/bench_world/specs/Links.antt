-- The open link of a bench, and the links so far (NFCIP-1, ISO/IEC 18092; NFC Forum LLCP 1.3; that a link has a number,
-- and when it ends, are this project's own).
use Rattle.std.specs.Prelude.{ℕ, nat_eq, length, Bool, false, List, [], ◌∷◌, ◌++◌, if◌then◌else◌, Option, Some, None}
use Rattle.dep_link.specs.Initiator.{InitState}
use Rattle.far_air.specs.FarEnds.{first_far, later_fars}
use Rattle.snep_core.specs.declared.slot.Slot.{Slot}
use Rattle.snep_core.specs.Talk.{EndState}
use Rattle.bench_world.specs.World.{FarEnd}
use Rattle.bench_world.specs.declared.inbox.LinkRange.{LinkRange}
use Rattle.bench_world.specs.Peers.{Peers}

-- An open link: its peer, by its number; where the initiator stands between two exchanges; this end of it, from which a
-- client asks; and what each slot of the client was told last.
pub record OpenLink : Type 0 where
  pub peer : ℕ
  pub initiator : InitState
  pub client : EndState
  pub slots : List Slot

-- a device has this number among the peers; a tag has none
abbrev pub is_number : ℕ → Option ℕ → Bool
is_number n None = false
is_number n (Some p) = nat_eq p n

-- the far end of the peer with a number, by the numbers and far ends of devices at their places
abbrev pub end_numbered : ℕ → List (Option ℕ) → List (Option FarEnd) → Option FarEnd
end_numbered n [] os = None
end_numbered n (p ∷ ps) os = if is_number n p then first_far os else end_numbered n ps (later_fars os)

-- how many messages a far end's server has accepted
abbrev pub accepted_by : Option FarEnd → ℕ
accepted_by None = 0
accepted_by (Some l) = length l.service.accepted

abbrev pub accepted_at : ℕ → Peers → List (Option FarEnd) → ℕ
accepted_at n p fars = accepted_by (end_numbered n p.numbers fars)

-- one link more, from here on
abbrev pub with_link : LinkRange → Peers → Peers
with_link l p = record { numbers = p.numbers; gone = p.gone; links = p.links ++ l ∷ [] }

-- one that began and ended: its range goes from the end that its peer's list had before to the one that it has behind
abbrev pub with_link_within : ℕ → List (Option FarEnd) → List (Option FarEnd) → Peers → Peers
with_link_within n before behind p =
    with_link (record { peer = n; start = accepted_at n p before; end = Some (accepted_at n p behind) }) p

-- so it is to the peer with a number, where one has it
abbrev pub with_link_if : Option ℕ → List (Option FarEnd) → List (Option FarEnd) → Peers → Peers
with_link_if None before behind p = p
with_link_if (Some n) before behind p = with_link_within n before behind p

-- the last link is the one that is open; its range ends here
abbrev pub last_ended : ℕ → List LinkRange → List LinkRange
last_ended n [] = []
last_ended n (l ∷ []) = record { peer = l.peer; start = l.start; end = Some n } ∷ []
last_ended n (l ∷ m ∷ ls) = l ∷ last_ended n (m ∷ ls)

abbrev pub with_last_ended : ℕ → Peers → Peers
with_last_ended n p = record { numbers = p.numbers; gone = p.gone; links = last_ended n p.links }

-- the open link ends, where one is open: its range goes to the list's present end
abbrev pub ended : Option OpenLink → List (Option FarEnd) → Peers → Peers
ended None fars p = p
ended (Some l) fars p = with_last_ended (accepted_at l.peer p fars) p

-- whether the open link is one to the device with this number
abbrev pub is_with : Option OpenLink → Option ℕ → Bool
is_with None p = false
is_with (Some l) p = is_number l.peer p

-- a link begins, where one is open then: its range goes from the present end of its peer's list on
abbrev pub begun_if : Option OpenLink → List (Option FarEnd) → Peers → Peers
begun_if None fars p = p
begun_if (Some l) fars p = with_link (record { peer = l.peer; start = accepted_at l.peer p fars; end = None }) p

-- the link that was open ends, unless one is open still
abbrev pub ended_unless : Option OpenLink → Option OpenLink → List (Option FarEnd) → Peers → Peers
ended_unless None before fars p = ended before fars p
ended_unless (Some l) before fars p = p
