use Rattle.std.proofs.Common.{[], ◌∷◌, List, subst, append-nil}
use Rattle.nfc_base.specs.declared.event.Event.{Event}
use Rattle.nfc_base.specs.declared.frame.Tech.TheVariants.{A}
use Rattle.trace_audit.specs.Reading.{HaveTech, AreOnAir}
use Rattle.trace_audit.proofs.reading.read_events.Goals as goal

pub returns : goal.returns
returns c =
    let kept = c.events.invariant in
    let events : List Event = c.events.events.items in
    record {
      split = kept.split;
      tech = subst (HaveTech c.args.command.now A) (append-nil events) (kept.tech [] tt);
      on_air = subst AreOnAir (append-nil events) (kept.on_air [] tt);
      ended = λ e more tech on_air is. c.in_default.ensures e more (record { tech = kept.back (e ∷ []) tech; on_air = on_air; is = is });
    }
