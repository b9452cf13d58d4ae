use Rattle.std.proofs.Common.{[], sym, ◌++◌, ◌∙◌, ap, refl}
use Rattle.hex.specs.Hex.{encode_upper}
use Rattle.bench_world.specs.Report.{seen_text, received_text, tag_text, heard_text, slot_done_text}
use Rattle.bench_world.specs.Listing.{listed_text}
use Rattle.bench_world.proofs.lines.Joined.{item_listed, bare_listed}
use Rattle.bench_world.proofs.listed.Listed.next_item.Goals as goal

pub returns-in_ok-seen-in-Devices : goal.returns-in_ok-seen-in-Devices
returns-in_ok-seen-in-Devices c = (
  ap listed_text c.in-Devices.is
      ∙ bare_listed seen_text c.in-Devices.all.now c.in_ok-seen-in-Devices.rest.now c.in_ok-seen-in-Devices.seen.now c.device.result.items [] c.in_ok-seen-in-Devices.ensures.cases.0
      c.device.ensures.value refl,
  c.device.ensures.some,
)

pub returns-in_ok-id-in-Tags : goal.returns-in_ok-id-in-Tags
returns-in_ok-id-in-Tags c = (
  ap listed_text c.in-Tags.is
      ∙ bare_listed tag_text c.in-Tags.all.now c.in_ok-id-in-Tags.rest.now c.in_ok-id-in-Tags.id.now c.tag.result.items [] c.in_ok-id-in-Tags.ensures.cases.0 c.tag.ensures.value refl,
  c.tag.ensures.some,
)

pub returns-in_ok-heard-in-Heard : goal.returns-in_ok-heard-in-Heard
returns-in_ok-heard-in-Heard c = (
  ap listed_text c.in-Heard.is
      ∙ bare_listed heard_text c.in-Heard.all.now c.in_ok-heard-in-Heard.rest.now c.in_ok-heard-in-Heard.heard.now c.what_was_heard.result.items [] c.in_ok-heard-in-Heard.ensures.cases.0
      c.what_was_heard.ensures.value refl,
  c.what_was_heard.ensures.some,
)

pub returns-in_ok-done-in-Puts : goal.returns-in_ok-done-in-Puts
returns-in_ok-done-in-Puts c = (
  ap listed_text c.in-Puts.is
      ∙ bare_listed slot_done_text c.in-Puts.all.now c.in_ok-done-in-Puts.rest.now c.in_ok-done-in-Puts.done.now c.outcome.result.items [] c.in_ok-done-in-Puts.ensures.cases.0 c.outcome.ensures.value
      refl,
  c.outcome.ensures.some,
)

pub returns-in_ok-received-in-Messages : goal.returns-in_ok-received-in-Messages
returns-in_ok-received-in-Messages c = (
  ap listed_text c.in-Messages.is
      ∙ item_listed received_text c.in-Messages.all.now c.in_ok-received-in-Messages.rest.now c.in_ok-received-in-Messages.received.now c.origin.result.items c.as_slice.result.now
      c.in_ok-received-in-Messages.ensures.cases.0 (c.origin.ensures.value ∙ ap (λ x. c.origin.result.items ++ encode_upper x) (sym c.as_slice.ensures)),
  c.origin.ensures.some,
)
