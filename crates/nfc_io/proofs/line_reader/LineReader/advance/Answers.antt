use Rattle.std.proofs.Common.{◌≡◌, ℕ, List, Option, Some, true, ◌∙◌, ap, subst, take, drop, length, arith}
use Rattle.nfc_io.specs.declared.held.LineEnd.TheVariants.{Source}
use Rattle.nfc_io.specs.Reading.{Lined, Fetches, Reaches, HoldsLf, Lacks}
use Rattle.nfc_io.proofs.Reading.{advances_by_lf, advances_by_end, advances_err}
use Rattle.nfc_io.proofs.line_reader.LineReader.advance.Goals as goal

pub returns-in-Ok-Lf-clause-next : goal.returns-in-Ok-Lf-clause-next
returns-in-Ok-Lf-clause-next g c = λ going.
    let a : Lined = c.args.self.now in
    let left : Option (List ℕ) = g.S.Source.left c.args.source.now in
    let left' : Option (List ℕ) = g.S.Source.left c.reach.new.source in
    let text : List ℕ = c.reach.new.self in
    let n : ℕ = c.in-Ok-Lf.length in
    let given : Lined = record { line = c.self-in-Ok-Lf.inside.line.items; held = c.self-in-Ok-Lf.inside.held; is_ended = c.self-in-Ok-Lf.inside.ended; stop = c.self-in-Ok-Lf.inside.stop } in
    let was : Lined = record { line = c.self.inside.line.items; held = text; is_ended = c.self.inside.ended; stop = c.self.inside.stop } in
    let gave : given ≡ record was { line = take n text; held = drop n text } = c.self-in-Ok-Lf.view_is ∙ c.give.ensures in
    let fetched : Fetches a.is_ended a.held text left left' = subst (λ (v : Lined). Fetches v.is_ended v.held text left left') c.self.view_is c.in-Ok-Lf.ensures.fetched in
    let lf : HoldsLf text n = subst (λ e. Reaches c.self.inside.ended text left' e) c.in-Ok-Lf.field-0-is c.in-Ok-Lf.ensures.ok in
    let is : record given { held = c.let_go.new.self } ≡ record a { line = take n text; held = drop 1 (drop n text) } =
    ap (λ h. record given { held = h }) c.let_go.ensures ∙ ap (λ (v : Lined). record v { held = drop 1 v.held }) gave
    ∙ ap (λ (v : Lined). record v { line = take n text; held = drop 1 (drop n text) }) c.self.view_is in
    advances_by_lf a _ left left' text n going fetched lf (omega (arith, lf.within, c.in-Ok-Lf.ensures.size)) is

pub returns-in-Err-clause-next : goal.returns-in-Err-clause-next
returns-in-Err-clause-next g c = λ going.
    let a : Lined = c.args.self.now in
    let left : Option (List ℕ) = g.S.Source.left c.args.source.now in
    let left' : Option (List ℕ) = g.S.Source.left c.reach.new.source in
    let text : List ℕ = c.reach.new.self in
    let fetched : Fetches a.is_ended a.held text left left' = subst (λ (v : Lined). Fetches v.is_ended v.held text left left') c.self.view_is c.in-Err.ensures.fetched in
    let is = ap (λ (v : Lined). record v { held = text; stop = Some c.in-Err.stop }) c.self.view_is in
    let lacks : Lacks a.is_ended text c.in-Err.stop = subst (λ (v : Lined). Lacks v.is_ended text c.in-Err.stop) c.self.view_is c.in-Err.ensures.err in
    advances_err a _ left left' text c.in-Err.stop fetched lacks is

pub returns-else-length-eq0-clause-next : goal.returns-else-length-eq0-clause-next
returns-else-length-eq0-clause-next g c = λ going.
    let a : Lined = c.args.self.now in
    let left : Option (List ℕ) = g.S.Source.left c.args.source.now in
    let left' : Option (List ℕ) = g.S.Source.left c.reach.new.source in
    let text : List ℕ = c.reach.new.self in
    let n : ℕ = length c.view-length.result.now in
    let fetched : Fetches a.is_ended a.held text left left' = subst (λ (v : Lined). Fetches v.is_ended v.held text left left') c.self.view_is c.in-Ok-Source.ensures.fetched in
    let ends : Reaches c.self.inside.ended text left' Source = subst (λ e. Reaches c.self.inside.ended text left' e) c.in-Ok-Source.field-0-is c.in-Ok-Source.ensures.ok in
    let end : Reaches a.is_ended text left' Source = subst (λ (v : Lined). Reaches v.is_ended text left' Source) c.self.view_is ends in
    let is = c.give-in-Ok-Source.ensures ∙ ap (λ (v : Lined). record v { line = take n text; held = drop n text; is_ended = true }) c.self.view_is in
    advances_by_end a _ left left' text n going fetched end (ap length c.view-length.ensures.value) c.if-length-eq0.false is
