use Rattle.std.proofs.Common.{◌≡◌, ℕ, List, ◌++◌, ◌∷◌, [], Option, ◌∙◌, subst}
use Rattle.nfc_io.specs.Moves.{GainsFront}
use Rattle.bench_script.specs.Canonical.{hex_text}
use Rattle.nfc_bench.specs.AuditText.{accepted_head}
use Rattle.nfc_bench.specs.Gathering.{IsWritten}
use Rattle.nfc_bench.proofs.Writing.{on_err, on_err_too, on_ok_too}
use Rattle.nfc_bench.proofs.AuditTelling.{first_cut, part_cut, part_written}
use Rattle.nfc_bench.proofs.top.audit_telling.gather_message.Goals as goal

pub returns-in_err-gather-clause-err : goal.returns-in_err-gather-clause-err
returns-in_err-gather-clause-err g c =
    let t : Option (List ℕ) = g.K.Sink.taken c.args.sink.now in
    let t1 : Option (List ℕ) = g.K.Sink.taken c.gather.new.sink in
    let held : List ℕ = c.args.held.now.items in
    let head : List ℕ = accepted_head c.args.link c.args.source in
    let rest : List ℕ = hex_text c.args.message.now ++ 10 ∷ [] in
    let is : c.deref.result.now ≡ head = c.deref.ensures.0 ∙ c.accepted_head.ensures in
    on_err c.from_residual.result (GainsFront t t1 (held ++ (head ++ rest)))
    (first_cut held head rest t t1 (subst (λ x. GainsFront t t1 (held ++ x)) is c.in_err-gather.ensures.err))

pub returns-in_err-gather_hex-clause-err : goal.returns-in_err-gather_hex-clause-err
returns-in_err-gather_hex-clause-err g c =
    let t : Option (List ℕ) = g.K.Sink.taken c.args.sink.now in
    let t1 : Option (List ℕ) = g.K.Sink.taken c.gather.new.sink in
    let t2 : Option (List ℕ) = g.K.Sink.taken c.gather_hex.new.sink in
    let held : List ℕ = c.args.held.now.items in
    let h1 : List ℕ = c.gather.new.held.items in
    let head : List ℕ = accepted_head c.args.link c.args.source in
    let hex : List ℕ = hex_text c.args.message.now in
    let is : c.deref.result.now ≡ head = c.deref.ensures.0 ∙ c.accepted_head.ensures in
    let first : IsWritten (held ++ head) h1 t t1 = subst (λ x. IsWritten (held ++ x) h1 t t1) is c.in_ok-gather.ensures.ok in
    on_err c.from_residual-in_err-gather_hex.result (GainsFront t t2 (held ++ (head ++ (hex ++ 10 ∷ []))))
    (part_cut held head h1 (hex ++ 10 ∷ []) t t1 t2 first (first_cut h1 hex (10 ∷ []) t1 t2 c.in_err-gather_hex.ensures.err))

pub returns-clause-ok : goal.returns-clause-ok
returns-clause-ok g c =
    let t : Option (List ℕ) = g.K.Sink.taken c.args.sink.now in
    let t1 : Option (List ℕ) = g.K.Sink.taken c.gather.new.sink in
    let t2 : Option (List ℕ) = g.K.Sink.taken c.gather_hex.new.sink in
    let t3 : Option (List ℕ) = g.K.Sink.taken c.gather-2.new.sink in
    let held : List ℕ = c.args.held.now.items in
    let h1 : List ℕ = c.gather.new.held.items in
    let h2 : List ℕ = c.gather_hex.new.held.items in
    let h3 : List ℕ = c.gather-2.new.held.items in
    let head : List ℕ = accepted_head c.args.link c.args.source in
    let hex : List ℕ = hex_text c.args.message.now in
    let is : c.deref.result.now ≡ head = c.deref.ensures.0 ∙ c.accepted_head.ensures in
    let first : IsWritten (held ++ head) h1 t t1 = subst (λ x. IsWritten (held ++ x) h1 t t1) is c.in_ok-gather.ensures.ok in
    on_ok_too c.gather-2.result (IsWritten (h2 ++ 10 ∷ []) h3 t2 t3) (IsWritten (held ++ (head ++ (hex ++ 10 ∷ []))) h3 t t3)
    (λ w. part_written held head h1 (hex ++ 10 ∷ []) h3 t t1 t3 first (part_written h1 hex h2 (10 ∷ []) h3 t1 t2 t3 c.in_ok-gather_hex.ensures.ok w)) c.gather-2.ensures.ok

pub returns-clause-err : goal.returns-clause-err
returns-clause-err g c =
    let t : Option (List ℕ) = g.K.Sink.taken c.args.sink.now in
    let t1 : Option (List ℕ) = g.K.Sink.taken c.gather.new.sink in
    let t2 : Option (List ℕ) = g.K.Sink.taken c.gather_hex.new.sink in
    let t3 : Option (List ℕ) = g.K.Sink.taken c.gather-2.new.sink in
    let held : List ℕ = c.args.held.now.items in
    let h1 : List ℕ = c.gather.new.held.items in
    let h2 : List ℕ = c.gather_hex.new.held.items in
    let head : List ℕ = accepted_head c.args.link c.args.source in
    let hex : List ℕ = hex_text c.args.message.now in
    let is : c.deref.result.now ≡ head = c.deref.ensures.0 ∙ c.accepted_head.ensures in
    let first : IsWritten (held ++ head) h1 t t1 = subst (λ x. IsWritten (held ++ x) h1 t t1) is c.in_ok-gather.ensures.ok in
    on_err_too c.gather-2.result (GainsFront t2 t3 (h2 ++ 10 ∷ [])) (GainsFront t t3 (held ++ (head ++ (hex ++ 10 ∷ []))))
    (λ front. part_cut held head h1 (hex ++ 10 ∷ []) t t1 t3 first (part_cut h1 hex h2 (10 ∷ []) t1 t2 t3 c.in_ok-gather_hex.ensures.ok front)) c.gather-2.ensures.err
