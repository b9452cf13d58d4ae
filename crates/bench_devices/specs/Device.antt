-- The devices of the bench: a Type 2 tag, a Type 4 tag or a peer under the listener front of its identifier, and a Type
-- 5 or a Type 3 tag, which light selects (NFC Forum Digital Protocol; NFC Forum Type 2 Tag, Type 3 Tag, Type 4 Tag and
-- Type 5 Tag; NFCIP-1, ISO/IEC 18092).
use Rattle.std.specs.Prelude.{ℕ, List, [], Bool, true, false, not, ◌&&◌, ◌||◌, if◌then◌else◌, Option, Some, None}
use Rattle.nfc_base.specs.declared.frame.Tech.{Tech}
use Rattle.nfc_base.specs.declared.frame.Tech.TheVariants.{A, V, F}
use Rattle.nfc_base.specs.Signal.{Signal}
use Rattle.nfc_base.specs.Far.{FarUse, Untouched}
use Rattle.nfc_base.specs.TagLinks.{TagState, TagStep, plain_state}
use Rattle.air_core.specs.World.{Machine, World, quiet_air}
use Rattle.air_core.specs.Conversation.{AirModel}
use Rattle.nfca_poll.specs.declared.kind.Kind.TheVariants as kinds
use Rattle.nfca_poll.specs.declared.upper.UpStep.{UpStep}
use Rattle.nfca_poll.specs.declared.upper.UpStep.TheVariants as steps
use Rattle.nfca_poll.specs.Front.{Off, Idle, is_ready, is_active}
use Rattle.nfca_poll.specs.Fronted.{handed_by, answer_by, after_by, moved}
use Rattle.nfca_poll.specs.Upper.{UpperMachine}
use Rattle.t2t_tag.specs.Store as t2
use Rattle.t2t_tag.specs.Store.{T2Memory, unlocked}
use Rattle.t2t_tag.specs.Step.{t2_answer, t2_after}
use Rattle.t4t_tag.specs.declared.current.CurrentFile.{CurrentFile}
use Rattle.t4t_tag.specs.declared.current.CurrentFile.TheVariants as current
use Rattle.t4t_tag.specs.Store as t4
use Rattle.t4t_tag.specs.Store.{T4State}
use Rattle.t4t_tag.specs.Step.{t4_answer, t4_after}
use Rattle.t3t_tag.specs.Store as t3
use Rattle.t5t_tag.specs.Store.{fresh}
use Rattle.tag_reader.specs.declared.how.How.{How}
use Rattle.tag_reader.specs.declared.how.How.TheVariants as hows
use Rattle.tag_reader.specs.Kinds.{t2_step}
use Rattle.tag_reader.specs.Files.{t4_link_step, shown}
use Rattle.isodep_link.specs.declared.card.CardStep.{CardStep}
use Rattle.isodep_link.specs.declared.card.CardStep.TheVariants as card
use Rattle.isodep_link.specs.Blocks.{block_frame}
use Rattle.nfc_base.specs.Headed.{is_rats}
use Rattle.isodep_link.specs.Card as ends
use Rattle.isodep_link.specs.Card.{CardState, card_table, replied, reply_block}
use Rattle.bench_devices.specs.declared.device.Device.{Device}
use Rattle.bench_devices.specs.declared.device.Device.TheVariants.{T2, T4, Peer, T5, T3}
use Rattle.bench_devices.specs.declared.polling.SeenKind.{SeenKind}
use Rattle.bench_devices.specs.Kinds.{DeviceKind, T2Kind, T3Kind, T4Kind, PeerKind, T5Kind, seen_by}
use Rattle.bench_devices.specs.Powered.{light_three, light_five, powered_answer, powered_after, powered_woken}
use Rattle.bench_devices.specs.Powered.{powered_darkened, powered_locked}
use Rattle.dep_link.specs.Target.{TargetState}
use Rattle.dep_link.specs.Target as targets
use Rattle.bench_devices.specs.Cards.{T4Near, card_now}
use Rattle.bench_devices.specs.Peers.{peer_machine, no_commands, given_up, made_near, new_near, near_busy}

-- A Type 2 tag as the machine above a front: it takes the frames that spell a command, and answers each.
abbrev pub says_of : Option Signal → UpStep
says_of None = steps.Foreign
says_of (Some g) = steps.Reply g

abbrev pub t2_machine : UpperMachine T2Memory
t2_machine = record {
  kind = λ u. kinds.T2;
  handed = λ u f. Untouched;
  says = λ u f reply. says_of (t2_answer u f);
  after = λ u f reply. t2_after u f;
  cleared = λ u. u;
}

-- What a Type 4 tag says at a frame, and what it is then.
pub record T4Did : Type 0 where
  pub says : UpStep
  pub after : T4Near

-- it said this, and stands so with a link
abbrev pub said : UpStep → T4State → CardState → T4Did
said says tag card = record { says = says; after = record { tag = tag; card = card; linked = true } }

-- It does what the card's table says; a command is delivered to the tag, and its answer is sent back.
abbrev pub by_card : T4State → CardState → CardStep → T4Did
by_card tag t card.Quiet = said steps.Quiet tag t
by_card tag t (card.Reply f) = said (steps.Reply f) tag t
by_card tag t (card.Deliver command) =
    said (steps.Reply (block_frame (reply_block t (t4_answer tag command.items)))) (t4_after tag command.items)
    (replied t (t4_answer tag command.items))
by_card tag t (card.Asleep f) = said (steps.Sleep f) tag t

abbrev pub on_link : T4State → CardState → Signal → T4Did
on_link tag t f = by_card tag (card_table t f).state (card_table t f).does

-- it takes this frame, or it is none of its own
abbrev pub did_if : Bool → T4Near → Signal → T4Did
did_if taken u f = if taken then on_link u.tag (card_now u) f else record { says = steps.Foreign; after = u }

-- Without a link it takes RATS alone, which opens one; from then on the link takes every frame.
abbrev pub t4_did : T4Near → Signal → T4Did
t4_did u f = did_if (u.linked || is_rats f) u f

abbrev pub t4_machine : UpperMachine T4Near
t4_machine = record {
  kind = λ u. kinds.T4;
  handed = λ u f. Untouched;
  says = λ u f reply. (t4_did u f).says;
  after = λ u f reply. (t4_did u f).after;
  cleared = λ u. record { tag = t4.darkened u.tag; card = u.card; linked = false };
}

abbrev pub is_no_file : CurrentFile → Bool
is_no_file current.NoFile = true
is_no_file current.Container = false
is_no_file current.Ndef = false

-- It has no link, and nothing of it is selected.
abbrev pub is_unlinked : T4Near → Bool
is_unlinked u = not u.linked && not u.tag.selected && is_no_file u.tag.current

abbrev pub device_tech : Device → Tech
device_tech (T2 d) = A
device_tech (T4 d) = A
device_tech (Peer d) = A
device_tech (T5 p) = V
device_tech (T3 p) = F

-- tags ask nothing of a far end
abbrev pub device_handed : Device → Signal → FarUse
device_handed (T2 d) f = Untouched
device_handed (T4 d) f = Untouched
device_handed (Peer d) f = handed_by peer_machine d.front d f
device_handed (T5 p) f = Untouched
device_handed (T3 p) f = Untouched

-- a tag that light selects hears nothing in the dark
abbrev pub device_answer : Device → Signal → Option (List ℕ) → Option Signal
device_answer (T2 d) f reply = answer_by t2_machine d.front d f None
device_answer (T4 d) f reply = answer_by t4_machine d.front d f None
device_answer (Peer d) f reply = answer_by peer_machine d.front d f reply
device_answer (T5 p) f reply = powered_answer light_five p f
device_answer (T3 p) f reply = powered_answer light_three p f

abbrev pub device_after : Device → Signal → Option (List ℕ) → Device
device_after (T2 d) f reply = T2 (after_by t2_machine d.front d f None)
device_after (T4 d) f reply = T4 (after_by t4_machine d.front d f None)
device_after (Peer d) f reply = Peer (after_by peer_machine d.front d f reply)
device_after (T5 p) f reply = T5 (powered_after light_five p f)
device_after (T3 p) f reply = T3 (powered_after light_three p f)

-- light and dark: a front comes on idle, what a tag holds stays, and in the dark a peer has no link
abbrev pub device_woken : Device → Device
device_woken (T2 d) = T2 (moved t2_machine d Idle)
device_woken (T4 d) = T4 (moved t4_machine d Idle)
device_woken (Peer d) = Peer (moved peer_machine d Idle)
device_woken (T5 p) = T5 (powered_woken p)
device_woken (T3 p) = T3 (powered_woken p)

abbrev pub device_darkened : Device → Device
device_darkened (T2 d) = T2 (moved t2_machine d Off)
device_darkened (T4 d) = T4 (moved t4_machine d Off)
device_darkened (Peer d) = Peer (record { id = d.id; front = Off; upper = given_up d.upper })
device_darkened (T5 p) = T5 (powered_darkened light_five p)
device_darkened (T3 p) = T3 (powered_darkened light_three p)

abbrev pub device_id : Device → List ℕ
device_id (T2 d) = d.id
device_id (T4 d) = d.id
device_id (Peer d) = d.id
device_id (T5 p) = p.tag.id
device_id (T3 p) = p.tag.id

abbrev pub device_store : Device → List ℕ
device_store (T2 d) = d.upper.store
device_store (T4 d) = t4.store_of d.upper.tag
device_store (Peer d) = []
device_store (T5 p) = p.tag.store
device_store (T3 p) = p.tag.store

-- which of its blocks are locked; a Type 4 tag and a peer have none that can be
abbrev pub device_locks : Device → List Bool
device_locks (T2 d) = d.upper.locked
device_locks (T4 d) = []
device_locks (Peer d) = []
device_locks (T5 p) = p.tag.locked
device_locks (T3 p) = p.tag.locked

-- its card's end as it was made: how often it asks for more time before an answer, and by which value; no other device
-- has one
abbrev pub device_made : Device → CardState
device_made (T2 d) = ends.fresh 0
device_made (T4 d) = ends.darkened d.upper.card
device_made (Peer d) = ends.fresh 0
device_made (T5 p) = ends.fresh 0
device_made (T3 p) = ends.fresh 0

-- likewise a peer's end of NFC-DEP, with its NFCID3, its LR code and its general bytes
abbrev pub no_target : TargetState
no_target = targets.fresh [] 0 []

abbrev pub device_target : Device → TargetState
device_target (T2 d) = no_target
device_target (T4 d) = no_target
device_target (Peer d) = made_near d.upper
device_target (T5 p) = no_target
device_target (T3 p) = no_target

-- a peer's end of NFC-DEP as it is; a tag shows one that never changes
abbrev pub device_end : Device → TargetState
device_end (T2 d) = no_target
device_end (T4 d) = no_target
device_end (Peer d) = d.upper.target
device_end (T5 p) = no_target
device_end (T3 p) = no_target

-- what stays of a device in the dark
pub record StablePart : Type 0 where
  pub store : List ℕ
  pub locked : List Bool
  pub made : CardState
  pub target : TargetState

abbrev pub stable_of : Device → StablePart
stable_of d = record { store = device_store d; locked = device_locks d; made = device_made d; target = device_target d }

abbrev pub device_ready : Device → Bool
device_ready (T2 d) = is_ready d.front
device_ready (T4 d) = is_ready d.front
device_ready (Peer d) = is_ready d.front
device_ready (T5 p) = false
device_ready (T3 p) = false

-- a tag of NFC-V or NFC-F is selected in a lit field
abbrev pub device_selected : Device → Bool
device_selected (T2 d) = is_active d.front
device_selected (T4 d) = is_active d.front
device_selected (Peer d) = is_active d.front
device_selected (T5 p) = p.lit
device_selected (T3 p) = p.lit

-- the step on commands
abbrev pub device_commands : Device → TagState → Signal → TagStep
device_commands (T2 d) = t2_step d.upper.locked
device_commands (T4 d) = t4_link_step d.upper.tag.code
device_commands (Peer d) = no_commands
device_commands (T5 p) = light_five.commands p.tag
device_commands (T3 p) = light_three.commands p.tag

-- of a Type 4 tag, its card's end, and what it holds and what is selected of it
abbrev pub device_card : Device → CardState
device_card (T2 d) = ends.fresh 0
device_card (T4 d) = card_now d.upper
device_card (Peer d) = ends.fresh 0
device_card (T5 p) = ends.fresh 0
device_card (T3 p) = ends.fresh 0

abbrev pub device_tag : Device → TagState
device_tag (T2 d) = plain_state d.upper.store
device_tag (T4 d) = shown d.upper.tag
device_tag (Peer d) = plain_state []
device_tag (T5 p) = plain_state p.tag.store
device_tag (T3 p) = plain_state p.tag.store

-- whether a device has a link to its far end: a peer alone may have one
abbrev pub device_linked : Device → Bool
device_linked (T2 d) = false
device_linked (T4 d) = false
device_linked (Peer d) = d.upper.linked
device_linked (T5 p) = false
device_linked (T3 p) = false

-- what the devices of the bench do
abbrev pub devices : Machine Device
devices = record {
  tech = device_tech;
  handed = λ d f. device_handed d f;
  answer = λ d f reply. device_answer d f reply;
  after = λ d f reply. device_after d f reply;
  woken = device_woken;
  darkened = device_darkened;
}

-- the bench's world, and its air
abbrev pub BenchWorld : Type 0
BenchWorld = World Device

abbrev pub air : AirModel BenchWorld
air = quiet_air devices

-- how many devices may stand in the field at once; this project's own
abbrev pub most_devices : ℕ
most_devices = 16

-- a device that is newly placed: in the dark, a tag with no block locked
abbrev pub new_t2 : List ℕ → List ℕ → Device
new_t2 id store = T2 (record { id = id; front = Off; upper = unlocked store })

abbrev pub new_t4 : List ℕ → ℕ → List ℕ → List ℕ → Device
new_t4 id code container file =
    T4 (record {
      id = id;
      front = Off;
      upper = record {
        tag = t4.fresh code container file;
        card = ends.fresh code;
        linked = false;
      };
    })

abbrev pub new_t5 : List ℕ → ℕ → List ℕ → Device
new_t5 id size store = T5 (record { tag = fresh id size store; lit = false })

abbrev pub new_t3 : List ℕ → List ℕ → Device
new_t3 id store = T3 (record { tag = t3.unlocked id store; lit = false })

-- a peer of this LR code, which says that its far end has this MIU
abbrev pub new_peer : List ℕ → ℕ → ℕ → Device
new_peer id lr miu = Peer (record { id = id; front = Off; upper = new_near id lr miu })

-- How a tag is read, and how many bytes one READ asks for, which says nothing of a Type 4 tag. Neither says anything of
-- a device that isn't read (`may_be_read`).
abbrev pub how_of : Device → How
how_of (T2 d) = hows.T2
how_of (T4 d) = hows.T4
how_of (Peer d) = hows.T2
how_of (T5 p) = hows.T5 p.tag.id
how_of (T3 p) = hows.T2

abbrev pub size_of : Device → ℕ
size_of (T2 d) = 16
size_of (T4 d) = 0
size_of (Peer d) = 0
size_of (T5 p) = p.tag.size
size_of (T3 p) = 0

-- what it is, and what a reader sees that it is, where a search can find it (`may_be_found`)
abbrev pub kind_of : Device → DeviceKind
kind_of (T2 d) = T2Kind
kind_of (T4 d) = T4Kind
kind_of (Peer d) = PeerKind
kind_of (T5 p) = T5Kind
kind_of (T3 p) = T3Kind

abbrev pub seen_of : Device → SeenKind
seen_of d = seen_by (kind_of d)

-- whether a search can find it: none hears a Type 3 tag, which is of NFC-F
abbrev pub may_be_found : Device → Bool
may_be_found (T2 d) = true
may_be_found (T4 d) = true
may_be_found (Peer d) = true
may_be_found (T5 p) = true
may_be_found (T3 p) = false

-- how many blocks it has that can be locked: a Type 4 tag has none, nor has a peer
abbrev pub blocks_of : Device → ℕ
blocks_of (T2 d) = t2.block_count d.upper.store
blocks_of (T4 d) = 0
blocks_of (Peer d) = 0
blocks_of (T5 p) = light_five.blocks p.tag
blocks_of (T3 p) = light_three.blocks p.tag

-- the device with one block more locked
abbrev pub device_locked : ℕ → Device → Device
device_locked block (T2 d) = T2 (record { id = d.id; front = d.front; upper = t2.locked_too d.upper block })
device_locked block (T4 d) = T4 d
device_locked block (Peer d) = Peer d
device_locked block (T5 p) = T5 (powered_locked light_five block p)
device_locked block (T3 p) = T3 (powered_locked light_three block p)

-- whether it can ask for more time: a Type 4 tag and a peer can
abbrev pub may_be_busy : Device → Bool
may_be_busy (T2 d) = false
may_be_busy (T4 d) = true
may_be_busy (Peer d) = true
may_be_busy (T5 p) = false
may_be_busy (T3 p) = false

-- the device that asks so often for more time before each answer, by this value
abbrev pub device_busy : ℕ → ℕ → Device → Device
device_busy count times (T2 d) = T2 d
device_busy count times (T4 d) =
    T4 (record {
      id = d.id;
      front = d.front;
      upper = record {
        tag = d.upper.tag;
        card = ends.made_busy d.upper.card count times;
        linked = d.upper.linked;
      };
    })
device_busy count times (Peer d) = Peer (record { id = d.id; front = d.front; upper = near_busy count times d.upper })
device_busy count times (T5 p) = T5 p
device_busy count times (T3 p) = T3 p

-- whether it is a tag
abbrev pub is_tag : Device → Bool
is_tag (T2 d) = true
is_tag (T4 d) = true
is_tag (Peer d) = false
is_tag (T5 p) = true
is_tag (T3 p) = true

-- whether a read and a write are of it: a peer holds no message, and a Type 3 tag has commands of its own
abbrev pub may_be_read : Device → Bool
may_be_read (T2 d) = true
may_be_read (T4 d) = true
may_be_read (Peer d) = false
may_be_read (T5 p) = true
may_be_read (T3 p) = false

-- what a dump of it shows: all its memory, of a Type 4 tag the NDEF file alone, and nothing of a peer
abbrev pub memory_in : Device → List ℕ
memory_in (T2 d) = d.upper.store
memory_in (T4 d) = d.upper.tag.file
memory_in (Peer d) = []
memory_in (T5 p) = p.tag.store
memory_in (T3 p) = p.tag.store
