-- What is asked on an open link: a call, or that the link is closed (NFC Forum LLCP 1.3 and SNEP 1.0).
use Rattle.std.specs.Prelude.{◌≤◌, ◌<◌, ℕ, length, List, [], ◌∷◌, Bool, true, false}
use Rattle.snep_core.specs.Slots.{slot_count}
use Rattle.snep_core.specs.Talk.{EndState, Step, Task, Puts, Gets, Finds, Leaves, begins, begins_all, begins_from}
use Rattle.snep_core.specs.Talk.{sap_of_slot}
use Rattle.link_calls.specs.AtOnce.{AreApart, puts_at_once}
use Rattle.link_calls.specs.declared.request.LinkRequest.{LinkRequest}
use Rattle.link_calls.specs.declared.request.LinkRequest.TheVariants.{Put, Get, Lookup, Run, Close}
use Rattle.link_calls.specs.declared.request.SlotMessage.{SlotMessage}

-- A call: messages that are put at once, each from its slot, and told of in this order; a value is got, of at most so
-- many bytes, on the connection from a SAP; or a service is looked up by its name.
pub data Call : Type 0 where
  Putting : List SlotMessage → Call
  Getting : ℕ → ℕ → List ℕ → Call
  Finding : List ℕ → Call

pub data LinkAsking : Type 0 where
  Does : Call → LinkAsking
  Closes : LinkAsking

-- one message alone
abbrev pub put_from : ℕ → List ℕ → Call
put_from slot message = Putting (record { slot = slot; message = message } ∷ [])

-- where a call begins
abbrev pub call_begins : EndState → Call → Step
call_begins client (Putting ws) = begins_all client (puts_at_once ws)
call_begins client (Getting sap most key) = begins_from client sap (Gets most key)
call_begins client (Finding name) = begins client (Finds name)

-- what a request asks
abbrev pub asking_of : LinkRequest → LinkAsking
asking_of (Put message) = Does (put_from 0 message.now)
asking_of (Get slot most key) = Does (Getting (sap_of_slot slot) most key.now)
asking_of (Lookup name) = Does (Finding name.now)
asking_of (Run messages) = Does (Putting messages.now)
asking_of Close = Closes

-- no message and no key is longer than 65,536 bytes, and no name than 64
abbrev pub IsShort : Task → Type 0
IsShort (Puts message) = length message ≤ 65536
IsShort (Gets most key) = length key ≤ 65536
IsShort (Finds name) = length name ≤ 64
IsShort Leaves = Unit {0}

-- So it is of a request; and where it names slots, each is one of eight, and no two are the same.
abbrev pub MayAsk : LinkRequest → Type 0
MayAsk (Put message) = IsShort (Puts message.now)
MayAsk (Get slot most key) = (slot < slot_count) × IsShort (Gets most key.now)
MayAsk (Lookup name) = IsShort (Finds name.now)
MayAsk (Run messages) = AreApart messages.now
MayAsk Close = Unit {0}

abbrev pub is_closing : LinkAsking → Bool
is_closing (Does call) = false
is_closing Closes = true
