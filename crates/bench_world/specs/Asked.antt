-- What each command asks on the open link (NFC Forum LLCP 1.3 and SNEP 1.0; the commands are this project's own). All
-- that is said of such commands goes by this.
use Rattle.std.specs.Prelude.{List, map, Option, Some, None, IsSome}
use Rattle.snep_core.specs.Talk.{client_sap, sap_of_slot}
use Rattle.link_calls.specs.Asking.{LinkAsking, Does, Closes, Finding, Getting, Putting, put_from}
use Rattle.link_calls.specs.declared.request.SlotMessage.{SlotMessage}
use Rattle.bench_script.specs.declared.command.Command.{Command}
use Rattle.bench_script.specs.declared.command.Command.TheVariants.{Put, Get, Lookup, OnPut, OnGet, Puts, Unlink}
use Rattle.bench_script.specs.declared.command.SlotPut.{SlotPut}
use Rattle.bench_script.specs.Messages.{message_of}

-- the messages of puts, each with its slot, in their order
abbrev pub slot_messages : List SlotPut → List SlotMessage
slot_messages puts = map (λ (p : SlotPut). record { slot = p.slot; message = message_of p.message }) puts

-- nothing but of a put, a get, a lookup and an unlink, of whatever client
abbrev pub asked_on_link : Command → Option LinkAsking
asked_on_link (Put message) = Some (Does (put_from 0 (message_of message)))
asked_on_link (Get most key) = Some (Does (Getting client_sap most key))
asked_on_link (Lookup name) = Some (Does (Finding name))
asked_on_link (OnPut slot message) = Some (Does (put_from slot (message_of message)))
asked_on_link (OnGet slot most key) = Some (Does (Getting (sap_of_slot slot) most key))
asked_on_link (Puts puts) = Some (Does (Putting (slot_messages puts)))
asked_on_link Unlink = Some Closes
asked_on_link c = None

-- a command that talks on the link that is open, if one is
abbrev pub IsOnLink : Command → Type 0
IsOnLink c = IsSome (asked_on_link c)
