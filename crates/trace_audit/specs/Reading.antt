-- What a line of a report doesn't tell of an event: its technology. The command tells it. (Scripts and reports are this
-- project's own; the inventory is ISO/IEC 15693.)
use Rattle.std.specs.Prelude.{◌≡◌, ℕ, List, [], ◌∷◌, Bool, false, ◌==◌, ◌&&◌, if◌then◌else◌}
use Rattle.nfc_base.specs.declared.frame.Tech.{Tech}
use Rattle.nfc_base.specs.declared.frame.Tech.TheVariants.{A, V, F}
use Rattle.nfc_base.specs.declared.event.Event.{Event}
use Rattle.nfc_base.specs.declared.event.Event.TheVariants.{Reset, Request, Answer, Clash}
pub use Rattle.bench_world.specs.ReadBack.{AreOnAir}
use Rattle.bench_script.specs.declared.command.Command.{Command}
use Rattle.bench_script.specs.declared.command.Command.TheVariants.{Find, Crowd, Poll3, Read, Read3, Write, Write3, Raw}
use Rattle.bench_script.specs.DeviceIds.{tech_for}

-- the whole frame that asks all NFC-V devices for their identifiers
abbrev pub is_inventory : List ℕ → ℕ → Bool
is_inventory (a ∷ b ∷ c ∷ []) tail = (a == 0x26) && (b == 0x01) && (c == 0x00) && (tail == 0)
is_inventory bytes tail = false

-- the technology of a command's request with these bytes and this tail
abbrev pub sent_tech : Command → List ℕ → ℕ → Tech
sent_tech Find bytes tail = if is_inventory bytes tail then V else A
sent_tech Crowd bytes tail = V
sent_tech Poll3 bytes tail = F
sent_tech (Read3 id) bytes tail = F
sent_tech (Write3 id message) bytes tail = F
sent_tech (Read id) bytes tail = tech_for id
sent_tech (Write id message) bytes tail = tech_for id
sent_tech (Raw id frames) bytes tail = tech_for id
sent_tech c bytes tail = A

-- The events have the technologies of their command: an answer and a clash that of the request before them, which is
-- the last one where none of these events comes before.
abbrev pub HaveTech : Command → Tech → List Event → Type 0
HaveTech c last [] = Unit {0}
HaveTech c last (Reset ∷ es) = HaveTech c last es
HaveTech c last (Request f x ∷ es) = (f.tech ≡ sent_tech c f.bytes f.tail) × HaveTech c f.tech es
HaveTech c last (Answer f x ∷ es) = (f.tech ≡ last) × HaveTech c last es
HaveTech c last (Clash f x ∷ es) = (f.tech ≡ last) × HaveTech c last es
