-- The events of a legal step have the technologies of its command: what is due in it is of such a one, and what is answered is of that
-- of the request before it.
use Rattle.std.proofs.Common.{◌≡◌, List, []}
use Rattle.std.proofs.lemmas.List.Elements.{recursion_from_All}
use Rattle.nfc_base.specs.Signal.{Signal}
use Rattle.nfc_base.specs.declared.frame.Tech.TheVariants.{A}
use Rattle.air_core.specs.Conversation.{Note, Asks}
use Rattle.air_core.proofs.Following.{over_is_no_request}
use Rattle.link_calls.specs.Asking.{Does, Closes, Finding, Getting, Putting, put_from}
use Rattle.snep_core.specs.Talk.{client_sap, sap_of_slot}
use Rattle.bench_script.specs.declared.command.Command.{Command}
use Rattle.bench_script.specs.declared.command.Command.TheVariants.{Skip, Fates, PlaceT2, PlaceT3, PlaceT4, PlaceT5, PlacePeer, Lock, Busy, Offer, Remove, Dump, Inbox, Find, Crowd, Poll3, Read, Read3}
use Rattle.bench_script.specs.declared.command.Command.TheVariants.{Write, Write3, Link, Forge, Raw, Put, Get, Lookup, OnPut, OnGet, Puts, Unlink}
use Rattle.bench_script.specs.DeviceIds.{bytes_of, tech_for}
use Rattle.bench_script.specs.Messages.{message_of}
use Rattle.bench_devices.specs.Placed.{device_with}
use Rattle.bench_devices.proofs.finding.CrowdSteps.{of_nfc_v}
use Rattle.bench_devices.proofs.finding.SelectingKept.{due_asked}
use Rattle.bench_world.specs.Asked.{slot_messages}
use Rattle.bench_world.specs.Legal.{State, Given, Accepts, IsAskedBy, world_at_start, due}
use Rattle.bench_world.specs.Linking.{own_general}
use Rattle.trace_audit.specs.Technologies.{LegalTech, NamesWell}
use Rattle.trace_audit.proofs.TechCommands.{read_told, write_told}
use Rattle.trace_audit.proofs.TechLinks.{call_tech, forging_tech, linking_tech}
use Rattle.trace_audit.proofs.TechPolling.{find_sent, sensing_tech}
use Rattle.trace_audit.proofs.TechRaws.{raws_tech}
use Rattle.trace_audit.proofs.TechTags.{tag_tech}
use Rattle.trace_audit.proofs.TechThrees.{read3_tech, three_tech, write3_tech}
use Rattle.trace_audit.proofs.TechTurns.{IsSentBy, turns_have}

module _ (s : State) (g : Given) where
  sent : (c : Command) → Accepts s c → IsAskedBy s c g.asked → NamesWell s c → (ns : List Note) (f : Signal) → due s g c ns ≡ Asks f → IsSentBy c f
  sent Skip may asked names ns f e = absurd (over_is_no_request f e)
  sent (Fates fates) may asked names ns f e = absurd (over_is_no_request f e)
  sent (PlaceT2 id blocks head) may asked names ns f e = absurd (over_is_no_request f e)
  sent (PlaceT3 id blocks head) may asked names ns f e = absurd (over_is_no_request f e)
  sent (PlaceT4 id code container head) may asked names ns f e = absurd (over_is_no_request f e)
  sent (PlaceT5 id blocks size head) may asked names ns f e = absurd (over_is_no_request f e)
  sent (PlacePeer id lr miu rw limit) may asked names ns f e = absurd (over_is_no_request f e)
  sent (Lock id block) may asked names ns f e = absurd (over_is_no_request f e)
  sent (Busy id count times) may asked names ns f e = absurd (over_is_no_request f e)
  sent (Offer id key value) may asked names ns f e = absurd (over_is_no_request f e)
  sent (Remove id) may asked names ns f e = absurd (over_is_no_request f e)
  sent (Dump id) may asked names ns f e = absurd (over_is_no_request f e)
  sent (Inbox id) may asked names ns f e = absurd (over_is_no_request f e)
  sent Find may asked names ns f e = find_sent ns f e
  sent Crowd may asked names ns f e = of_nfc_v ns f e
  sent Poll3 may asked names ns f e = sensing_tech ns f e
  sent (Read id) may asked names ns f e = tag_tech id g.asked (read_told id g.asked (device_with (bytes_of id) s.world.field.listeners) names asked) ns f e
  sent (Read3 id) may asked names ns f e = three_tech id g.asked (read3_tech id g.asked (device_with id s.world.field.listeners) asked) ns f e
  sent (Write id message) may asked names ns f e =
      tag_tech id g.asked (write_told id (message_of message) g.asked (device_with (bytes_of id) s.world.field.listeners) names asked) ns f e
  sent (Write3 id message) may asked names ns f e =
      three_tech id g.asked (write3_tech id (message_of message) g.asked (device_with id s.world.field.listeners) asked) ns f e
  sent (Link id miu window) may asked names ns f e = linking_tech id (own_general miu) ns f e
  sent (Forge id payloads) may asked names ns f e = forging_tech id payloads ns f e
  sent (Raw id frames) may asked names ns f e = raws_tech id frames (recursion_from_All (λ (x : Signal). x.tech ≡ tech_for id) frames may.each) ns f e
  sent (Put message) may asked names ns f e = call_tech (Does (put_from 0 (message_of message))) s.link g.joins.own ns f e
  sent (Get most key) may asked names ns f e = call_tech (Does (Getting client_sap most key)) s.link g.joins.own ns f e
  sent (Lookup name) may asked names ns f e = call_tech (Does (Finding name)) s.link g.joins.own ns f e
  sent (OnPut slot message) may asked names ns f e = call_tech (Does (put_from slot (message_of message))) s.link g.joins.own ns f e
  sent (OnGet slot most key) may asked names ns f e = call_tech (Does (Getting (sap_of_slot slot) most key)) s.link g.joins.own ns f e
  sent (Puts puts) may asked names ns f e = call_tech (Does (Putting (slot_messages puts))) s.link g.joins.own ns f e
  sent Unlink may asked names ns f e = call_tech Closes s.link g.joins.own ns f e

pub legal_tech : LegalTech
legal_tech s t g e names step =
    let each = due_asked (IsSentBy e.command) (due s g e.command) (sent s g e.command step.front.accepted step.front.asks names) [] e.events step.front.each in
    turns_have e.command (world_at_start s g.joins e.command) e.events A step.front.turns each
