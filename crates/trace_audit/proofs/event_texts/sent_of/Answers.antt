use Rattle.std.proofs.Common.{◌≡◌, ap, sym, ◌∙◌, Some}
use Rattle.nfc_base.specs.Signal.{Signal}
use Rattle.nfc_base.specs.declared.event.Fate.{Fate}
use Rattle.trace_audit.proofs.Finding.{sent_parts}
use Rattle.trace_audit.proofs.event_texts.sent_of.Goals as goal
use Rattle.bench_world.proofs.lines.ReadBack.{fate_tells}

pub returns-in_err-fate-clause-finds : goal.returns-in_err-fate-clause-finds
returns-in_err-fate-clause-finds c = λ x is.
    let cut = c.in_ok-word.ensures in
    let parts = sent_parts c.args.tech c.args.text.now c.in_ok-word.word.now c.in_ok-word.name.now x.0 x.1 cut.0 cut.1 is in
    absurd (c.in_err-fate.ensures x.1 parts.1)

pub returns-in_err-frame-clause-finds : goal.returns-in_err-frame-clause-finds
returns-in_err-frame-clause-finds c = λ x is.
    let cut = c.in_ok-word.ensures in
    let parts = sent_parts c.args.tech c.args.text.now c.in_ok-word.word.now c.in_ok-word.name.now x.0 x.1 cut.0 cut.1 is in
    let found = c.in_err-frame.ensures.finds x.0 parts.0 in
    cc

pub returns-clause-finds : goal.returns-clause-finds
returns-clause-finds c = λ x is.
    let cut = c.in_ok-word.ensures in
    let parts = sent_parts c.args.tech c.args.text.now c.in_ok-word.word.now c.in_ok-word.name.now x.0 x.1 cut.0 cut.1 is in
    let frame : c.in_ok-frame.frame ≡ x.0 = (let found = c.in_ok-frame.ensures.finds x.0 parts.0 in cc) in
    let fate : c.in_ok-fate.fate ≡ x.1 = fate_tells c.in_ok-fate.fate x.1 (sym c.in_ok-fate.ensures ∙ parts.1) in
    ap (λ (f : Signal). Some (f, c.in_ok-fate.fate)) frame ∙ ap (λ (y : Fate). Some (x.0, y)) fate
