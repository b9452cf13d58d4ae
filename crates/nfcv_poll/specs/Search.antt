-- How a search for all Type 5 tags goes on by what is heard (ISO/IEC 15693-3). Passes, their number and the order of
-- masks are this project's own.
use Rattle.std.specs.Prelude.{ℕ, zero, suc, ◌+◌, List, [], ◌∷◌, ◌++◌, length, reverse, replicate, Bool, true, false}
use Rattle.std.specs.Prelude.{◌&&◌, ◌||◌, not, nat_eq, nat_lt, nat_le, if◌then◌else◌, Option, Some, None, Result, Ok}
use Rattle.std.specs.Prelude.{Err}
use Rattle.nfc_base.specs.Signal.{Signal}
use Rattle.nfc_base.specs.declared.event.Heard.{Heard}
use Rattle.nfc_base.specs.declared.event.Heard.TheVariants.{Whole, Collided, Damaged, Silent}
use Rattle.air_core.specs.Conversation.{Next, Over, LightUp, Asks}
use Rattle.nfca_poll.specs.declared.fault.PollFault.{PollFault}
use Rattle.nfca_poll.specs.declared.fault.PollFault.TheVariants as faults
use Rattle.nfca_poll.specs.Enquiry.{Enquiry}
use Rattle.t5t_tag.specs.declared.answer.T5Answer.{T5Answer}
use Rattle.t5t_tag.specs.declared.answer.T5Answer.TheVariants.{Present, Content, Error}
use Rattle.t5t_tag.specs.declared.command.T5Command.TheVariants.{Inventory, NextSlot, Quiet}
use Rattle.t5t_tag.specs.Reading.{spelled_answer}
use Rattle.t5t_tag.specs.Slots.{id_number, last_slot}
use Rattle.t5t_tag.specs.Spelling.{command_frame}
use Rattle.t5t_tag.specs.Store.{id_size}
use Rattle.nfcv_poll.specs.declared.mask.Mask.{Mask}
use Rattle.nfcv_poll.specs.Masks.{no_bits, extended, slots_frame}
use Rattle.nfcv_poll.specs.declared.search.Said.{Said}
use Rattle.nfcv_poll.specs.declared.search.Said.TheVariants as told
use Rattle.nfcv_poll.specs.declared.search.Search.{Search}
use Rattle.nfcv_poll.specs.declared.search.Stage.{Stage}
use Rattle.nfcv_poll.specs.declared.search.Stage.TheVariants as stages

-- how many passes there are, how many rounds a pass makes, and how often it is asked who is left
abbrev pub most_passes : ℕ
most_passes = 4

abbrev pub most_rounds : ℕ
most_rounds = 128

abbrev pub questions : ℕ
questions = 4

-- The identifiers that were recorded, ascending as numbers, each once.
abbrev pub with_id : List (List ℕ) → List ℕ → List (List ℕ)
with_id [] id = id ∷ []
with_id (i ∷ is) id =
    if nat_lt (id_number i) (id_number id) then i ∷ with_id is id
    else if nat_eq (id_number i) (id_number id) then i ∷ is
    else id ∷ i ∷ is

-- how many in front are below an identifier
abbrev pub below : List (List ℕ) → List ℕ → ℕ
below [] id = 0
below (i ∷ is) id = if nat_lt (id_number i) (id_number id) then suc (below is id) else 0

-- the identifier at a place
abbrev pub id_at : List (List ℕ) → ℕ → Option (List ℕ)
id_at [] n = None
id_at (i ∷ is) zero = Some i
id_at (i ∷ is) (suc n) = id_at is n

-- The masks whose rounds are still to be made: the first is the next.
abbrev pub next_mask : List Mask → Option Mask
next_mask [] = None
next_mask (m ∷ ms) = Some m

abbrev pub behind_first : List Mask → List Mask
behind_first [] = []
behind_first (m ∷ ms) = ms

-- What an answer tells in a slot: a tag, or nothing that a tag says there.
abbrev pub said_by : Option T5Answer → Said
said_by None = told.Strange
said_by (Some (Present id)) = told.Tag id
said_by (Some (Content content)) = told.Strange
said_by (Some (Error code)) = told.Strange

abbrev pub said : Heard → Said
said (Whole g) = said_by (spelled_answer g)
said (Collided g) = told.Clash
said Damaged = told.Nothing
said Silent = told.Nothing

-- a pass begins with the round of every tag
abbrev pub begins_pass : ℕ → Search → Search
begins_pass pass s = record s { pass = pass; rounds = 1; stage = stages.Slot no_bits 0 }

-- behind the reset
abbrev pub fresh : Search
fresh = record { pass = 1; rounds = 1; found = []; masks = []; clashes = []; stage = stages.Slot no_bits 0 }

abbrev pub fails : Search → PollFault → Search
fails s fault = record s { stage = stages.Fails fault }

-- Each tag that was recorded, from this place on, is told to stay quiet. Then it is asked who is left.
abbrev pub hush_stage : Option (List ℕ) → ℕ → Stage
hush_stage None at = stages.WhoIsLeft 0
hush_stage (Some id) at = stages.Hush id (at + 1)

abbrev pub hushes : Search → ℕ → Search
hushes s at = record s { stage = hush_stage (id_at s.found at) at }

-- the next round, with one round more in this pass
abbrev pub opens_with : Search → List Mask → Search
opens_with s [] = hushes (record s { masks = [] }) 0
opens_with s (m ∷ ms) =
    if nat_le most_rounds s.rounds then fails (record s { masks = ms }) faults.BadAnswer
    else record s { rounds = s.rounds + 1; masks = ms; stage = stages.Slot m 0 }

abbrev pub opens : Search → Search
opens s = opens_with s s.masks

-- the next slot, or behind the last one the next round: of the clashes that of the lowest slot first, and all of them
-- before older ones
abbrev pub leaves : Search → Mask → ℕ → Search
leaves s m slot =
    if nat_lt slot last_slot then record s { stage = stages.Slot m (slot + 1) }
    else opens (record s { masks = reverse s.clashes ++ s.masks; clashes = [] })

-- a clash in a slot: its mask is for later, and behind sixty bits of a mask it is passed over
abbrev pub with_clash : Search → Option Mask → Search
with_clash s None = s
with_clash s (Some m) = record s { clashes = m ∷ s.clashes }

abbrev pub is_clash : Said → Option Mask → Bool
is_clash told.Clash (Some m) = true
is_clash told.Clash None = false
is_clash told.Nothing m = false
is_clash (told.Tag id) m = false
is_clash told.Strange m = false

-- the last slot of the last round that a pass may make, and a mask is left: the pass needs one round more
abbrev pub is_spent : Search → Mask → ℕ → Said → Bool
is_spent s m slot x =
    nat_le last_slot slot && nat_le most_rounds s.rounds
    && (is_clash x (extended m slot) || not (nat_eq (length s.masks) 0) || not (nat_eq (length s.clashes) 0))

-- A slot goes on by what was told in it.
abbrev pub takes_in : Search → Mask → ℕ → Said → Search
takes_in s m slot told.Nothing = leaves s m slot
takes_in s m slot told.Clash = leaves (with_clash s (extended m slot)) m slot
takes_in s m slot (told.Tag id) = leaves (record s { found = with_id s.found id }) m slot
takes_in s m slot told.Strange = fails s faults.BadAnswer

abbrev pub takes : Search → Mask → ℕ → Said → Search
takes s m slot x = if is_spent s m slot x then fails s faults.BadAnswer else takes_in s m slot x

abbrev pub is_silence : Heard → Bool
is_silence (Whole g) = false
is_silence (Collided g) = false
is_silence Damaged = false
is_silence Silent = true

-- Four silences end the search; anything else begins the next pass, where there is one.
abbrev pub answers_left : Search → ℕ → Bool → Search
answers_left s asked true =
    record s { stage = if nat_lt (asked + 1) questions then stages.WhoIsLeft (asked + 1) else stages.Over }
answers_left s asked false = if nat_lt s.pass most_passes then begins_pass (s.pass + 1) s else fails s faults.Disturbed

-- What is heard of STAY QUIET is ignored.
abbrev pub hears_at : Search → Stage → Heard → Search
hears_at s (stages.Slot m slot) h = takes s m slot (said h)
hears_at s (stages.Hush id next) h = hushes s next
hears_at s (stages.WhoIsLeft asked) h = answers_left s asked (is_silence h)
hears_at s stages.Over h = s
hears_at s (stages.Fails fault) h = s

abbrev pub hears : Search → Heard → Search
hears s h = hears_at s s.stage h

-- the request of a stage
abbrev pub stage_request : Stage → Option Signal
stage_request (stages.Slot m slot) = Some (if nat_eq slot 0 then slots_frame m else command_frame NextSlot)
stage_request (stages.Hush id next) = Some (command_frame (Quiet id))
stage_request (stages.WhoIsLeft asked) = Some (command_frame (Inventory 0 (replicate id_size 0)))
stage_request stages.Over = None
stage_request (stages.Fails fault) = None

abbrev pub due_request : Search → Option Signal
due_request s = stage_request s.stage

abbrev pub over_at : List (List ℕ) → Stage → Option (Result (List (List ℕ)) PollFault)
over_at found (stages.Slot m slot) = None
over_at found (stages.Hush id next) = None
over_at found (stages.WhoIsLeft asked) = None
over_at found stages.Over = Some (Ok found)
over_at found (stages.Fails fault) = Some (Err fault)

-- what a search has come to, where it is over
abbrev pub is_over : Search → Option (Result (List (List ℕ)) PollFault)
is_over s = over_at s.found s.stage

-- The whole call: a reset, and the search.
pub data Course : Type 0 where
  Begins : Course
  Runs : Search → Course

abbrev pub course_step : Course → Heard → Course
course_step Begins h = Begins
course_step (Runs s) h = Runs (hears s h)

abbrev pub course_lit : Course → Course
course_lit Begins = Runs fresh
course_lit (Runs s) = Runs s

abbrev pub asked_for : Option Signal → Next
asked_for None = Over
asked_for (Some f) = Asks f

abbrev pub course_next : Course → Next
course_next Begins = LightUp
course_next (Runs s) = asked_for (due_request s)

abbrev pub course_ended : Course → Option (Result (List (List ℕ)) PollFault)
course_ended Begins = None
course_ended (Runs s) = is_over s

abbrev pub finding_all : Enquiry Course (List (List ℕ))
finding_all = record {
  start = Begins;
  light = course_lit;
  step = course_step;
  next = course_next;
  ended = course_ended;
}
