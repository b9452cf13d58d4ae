use Rattle.std.proofs.Common.{◌≡◌, ℕ, ◌+◌, List, ◌++◌, get_or, drop, Option, ◌∙◌, subst, arith}
use Rattle.nfc_io.specs.Moves.{GainsFront}
use Rattle.nfc_bench.specs.AuditText.{accepted_line, messages_text}
use Rattle.nfc_bench.specs.Gathering.{IsWritten}
use Rattle.nfc_bench.proofs.Writing.{on_err, piece_cut, piece_written}
use Rattle.nfc_bench.proofs.AuditTelling.{messages_next}
use Rattle.nfc_bench.proofs.top.audit_telling.gather_link.Goals as goal

pub messages-preserved : goal.messages-preserved
messages-preserved g c =
    let t : Option (List ℕ) = g.K.Sink.taken c.args.sink.now in
    let t1 : Option (List ℕ) = g.K.Sink.taken c.messages.sink in
    let t2 : Option (List ℕ) = g.K.Sink.taken c.gather_message.new.sink in
    let link : ℕ = c.args.link in
    let ms : List (List ℕ) = c.args.messages.now in
    let ss : List ℕ = c.args.sources.now in
    let i : ℕ = c.messages.i in
    let held : List ℕ = c.messages.held.items in
    let held' : List ℕ = c.gather_message.new.held.items in
    let whole : List ℕ = c.args.held.now.items ++ messages_text link ms ss in
    let d : List ℕ = c.index-messages-i.result in
    let line : List ℕ = accepted_line link (record { source = get_or ss i 0; message = get_or ms i d }) in
    let rest : List ℕ = messages_text link (drop (i + 1) ms) (drop (i + 1) ss) in
    let message : c.as_slice.result.now ≡ get_or ms i d = c.as_slice.ensures ∙ c.index-messages-i.is in
    let so : IsWritten whole (held ++ (line ++ rest)) t t1 =
    subst (λ x. IsWritten whole (held ++ x) t t1) (messages_next link i ms ss d (omega (arith, c.messages-test.true)) c.requires) c.messages.invariant.written in
    let it : IsWritten (held ++ line) held' t1 t2 =
    subst (λ m. IsWritten (held ++ accepted_line link (record { source = get_or ss i 0; message = m })) held' t1 t2) message c.in_ok-gather_message.ensures.ok in
    record {
      written = piece_written whole held line rest held' t t1 t2 so it;
      still = c.in_ok-gather_message.ensures.still ∙ c.messages.invariant.still;
    }

pub returns-in_err-gather_message-clause-err : goal.returns-in_err-gather_message-clause-err
returns-in_err-gather_message-clause-err g c =
    let t : Option (List ℕ) = g.K.Sink.taken c.args.sink.now in
    let t1 : Option (List ℕ) = g.K.Sink.taken c.messages.sink in
    let t2 : Option (List ℕ) = g.K.Sink.taken c.gather_message.new.sink in
    let link : ℕ = c.args.link in
    let ms : List (List ℕ) = c.args.messages.now in
    let ss : List ℕ = c.args.sources.now in
    let i : ℕ = c.messages.i in
    let held : List ℕ = c.messages.held.items in
    let whole : List ℕ = c.args.held.now.items ++ messages_text link ms ss in
    let d : List ℕ = c.index-messages-i.result in
    let line : List ℕ = accepted_line link (record { source = get_or ss i 0; message = get_or ms i d }) in
    let rest : List ℕ = messages_text link (drop (i + 1) ms) (drop (i + 1) ss) in
    let message : c.as_slice.result.now ≡ get_or ms i d = c.as_slice.ensures ∙ c.index-messages-i.is in
    let so : IsWritten whole (held ++ (line ++ rest)) t t1 =
    subst (λ x. IsWritten whole (held ++ x) t t1) (messages_next link i ms ss d (omega (arith, c.messages-test.true)) c.requires) c.messages.invariant.written in
    on_err c.from_residual.result (GainsFront t t2 whole)
    (piece_cut whole held line rest t t1 t2 so
    (subst (λ m. GainsFront t1 t2 (held ++ accepted_line link (record { source = get_or ss i 0; message = m }))) message c.in_err-gather_message.ensures.err))
