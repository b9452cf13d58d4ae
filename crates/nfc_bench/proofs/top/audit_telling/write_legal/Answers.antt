use Rattle.std.proofs.Common.{◌≡◌, ℕ, List, ◌++◌, length, Option, ◌∙◌, subst, ap}
use Rattle.nfc_io.specs.Moves.{with_end, GainsFront}
use Rattle.nfc_io.proofs.Moves.{GainsFront-more}
use Rattle.nfc_bench.specs.AuditText.{legal_line, links_text}
use Rattle.nfc_bench.specs.Gathering.{IsWritten}
use Rattle.nfc_bench.proofs.Writing.{both_written, on_err, on_err_too, on_ok_too, rest_cut, then_cut}
use Rattle.nfc_bench.proofs.AuditTelling.{rest_told}
use Rattle.nfc_bench.proofs.top.audit_telling.write_legal.Goals as goal

pub returns-in_err-gather-clause-err : goal.returns-in_err-gather-clause-err
returns-in_err-gather-clause-err g c =
    let t : Option (List ℕ) = g.K.Sink.taken c.args.sink.now in
    let t1 : Option (List ℕ) = g.K.Sink.taken c.gather.new.sink in
    let legal : List ℕ = legal_line (length c.args.bench.now.journal) in
    let links : List ℕ = links_text c.args.bench.now.state 1 (length c.args.bench.now.state.peers.links) in
    let is : c.new-held.result.items ++ c.deref.result.now ≡ legal =
    ap (λ x. x ++ c.deref.result.now) c.new-held.ensures ∙ c.deref.ensures.0 ∙ c.legal_line.ensures ∙ ap (λ x. legal_line (length x)) c.journal.ensures in
    on_err c.from_residual.result (GainsFront t t1 (legal ++ links)) (GainsFront-more t t1 legal links (subst (λ x. GainsFront t t1 x) is c.in_err-gather.ensures.err))

pub returns-in_err-gather_links-clause-err : goal.returns-in_err-gather_links-clause-err
returns-in_err-gather_links-clause-err g c =
    let t : Option (List ℕ) = g.K.Sink.taken c.args.sink.now in
    let t1 : Option (List ℕ) = g.K.Sink.taken c.gather.new.sink in
    let t2 : Option (List ℕ) = g.K.Sink.taken c.gather_links.new.sink in
    let h1 : List ℕ = c.gather.new.held.items in
    let legal : List ℕ = legal_line (length c.args.bench.now.journal) in
    let links : List ℕ = links_text c.args.bench.now.state 1 (length c.args.bench.now.state.peers.links) in
    let is : c.new-held.result.items ++ c.deref.result.now ≡ legal =
    ap (λ x. x ++ c.deref.result.now) c.new-held.ensures ∙ c.deref.ensures.0 ∙ c.legal_line.ensures ∙ ap (λ x. legal_line (length x)) c.journal.ensures in
    let first : IsWritten legal h1 t t1 = subst (λ x. IsWritten x h1 t t1) is c.in_ok-gather.ensures.ok in
    on_err c.from_residual-in_err-gather_links.result (GainsFront t t2 (legal ++ links)) (then_cut legal links h1 t t1 t2 first c.in_err-gather_links.ensures.err)

pub returns-clause-ok : goal.returns-clause-ok
returns-clause-ok g c =
    let t : Option (List ℕ) = g.K.Sink.taken c.args.sink.now in
    let t1 : Option (List ℕ) = g.K.Sink.taken c.gather.new.sink in
    let t2 : Option (List ℕ) = g.K.Sink.taken c.gather_links.new.sink in
    let t3 : Option (List ℕ) = g.K.Sink.taken c.write_all.new.sink in
    let h1 : List ℕ = c.gather.new.held.items in
    let h2 : List ℕ = c.gather_links.new.held.items in
    let legal : List ℕ = legal_line (length c.args.bench.now.journal) in
    let links : List ℕ = links_text c.args.bench.now.state 1 (length c.args.bench.now.state.peers.links) in
    let is : c.new-held.result.items ++ c.deref.result.now ≡ legal =
    ap (λ x. x ++ c.deref.result.now) c.new-held.ensures ∙ c.deref.ensures.0 ∙ c.legal_line.ensures ∙ ap (λ x. legal_line (length x)) c.journal.ensures in
    let first : IsWritten legal h1 t t1 = subst (λ x. IsWritten x h1 t t1) is c.in_ok-gather.ensures.ok in
    let all : IsWritten (legal ++ links) h2 t t2 = both_written legal links h1 h2 t t1 t2 first c.in_ok-gather_links.ensures.ok in
    on_ok_too c.write_all.result (t3 ≡ with_end t2 c.as_slice.result.now) (t3 ≡ with_end t (legal ++ links))
    (λ told. rest_told (legal ++ links) h2 t t2 t3 all (told ∙ ap (with_end t2) c.as_slice.ensures.value)) c.write_all.ensures.ok

pub returns-clause-err : goal.returns-clause-err
returns-clause-err g c =
    let t : Option (List ℕ) = g.K.Sink.taken c.args.sink.now in
    let t1 : Option (List ℕ) = g.K.Sink.taken c.gather.new.sink in
    let t2 : Option (List ℕ) = g.K.Sink.taken c.gather_links.new.sink in
    let t3 : Option (List ℕ) = g.K.Sink.taken c.write_all.new.sink in
    let h1 : List ℕ = c.gather.new.held.items in
    let h2 : List ℕ = c.gather_links.new.held.items in
    let legal : List ℕ = legal_line (length c.args.bench.now.journal) in
    let links : List ℕ = links_text c.args.bench.now.state 1 (length c.args.bench.now.state.peers.links) in
    let is : c.new-held.result.items ++ c.deref.result.now ≡ legal =
    ap (λ x. x ++ c.deref.result.now) c.new-held.ensures ∙ c.deref.ensures.0 ∙ c.legal_line.ensures ∙ ap (λ x. legal_line (length x)) c.journal.ensures in
    let first : IsWritten legal h1 t t1 = subst (λ x. IsWritten x h1 t t1) is c.in_ok-gather.ensures.ok in
    let all : IsWritten (legal ++ links) h2 t t2 = both_written legal links h1 h2 t t1 t2 first c.in_ok-gather_links.ensures.ok in
    on_err_too c.write_all.result (GainsFront t2 t3 c.as_slice.result.now) (GainsFront t t3 (legal ++ links))
    (λ front. rest_cut (legal ++ links) h2 t t2 t3 all (subst (λ x. GainsFront t2 t3 x) c.as_slice.ensures.value front)) c.write_all.ensures.err
