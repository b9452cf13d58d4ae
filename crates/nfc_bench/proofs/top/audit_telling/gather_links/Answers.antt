use Rattle.std.proofs.Common.{◌≡◌, ◌<◌, ℕ, ◌+◌, ◌-◌, List, ◌++◌, length, Option, ◌∙◌, subst, ap, arith}
use Rattle.nfc_io.specs.Moves.{GainsFront}
use Rattle.bench_world.specs.Legal.{State}
use Rattle.bench_world.specs.Stories.{gained_on}
use Rattle.snep_core.specs.Server.{messages_of}
use Rattle.nfc_bench.specs.AuditText.{link_text, links_text, messages_text}
use Rattle.nfc_bench.specs.Gathering.{IsWritten}
use Rattle.nfc_bench.proofs.Writing.{on_err, piece_cut, piece_written}
use Rattle.nfc_bench.proofs.AuditTelling.{links_next, messages_are}
use Rattle.nfc_bench.proofs.top.audit_telling.gather_links.Goals as goal

pub links-preserved : goal.links-preserved
links-preserved g c =
    let t : Option (List ℕ) = g.K.Sink.taken c.args.sink.now in
    let t1 : Option (List ℕ) = g.K.Sink.taken c.links.sink in
    let t2 : Option (List ℕ) = g.K.Sink.taken c.gather_link.new.sink in
    let s : State = c.args.bench.now.state in
    let n : ℕ = length s.peers.links in
    let link : ℕ = c.links.before + 1 in
    let held : List ℕ = c.links.held.items in
    let held' : List ℕ = c.gather_link.new.held.items in
    let whole : List ℕ = c.args.held.now.items ++ links_text s 1 n in
    let rest : List ℕ = links_text s (link + 1) (n - link) in
    let within : c.links.before < n = omega (arith, c.links-test.true, c.links-before-end.ensures) in
    let is : messages_text link c.accepted.result.now c.sources.result.now ≡ link_text s link =
    ap (λ x. messages_text link x c.sources.result.now) (c.accepted.ensures c.requires)
    ∙ ap (λ x. messages_text link (messages_of (gained_on s link)) x) (c.sources.ensures c.requires) ∙ messages_are link (gained_on s link) in
    let so : IsWritten whole (held ++ (link_text s link ++ rest)) t t1 = subst (λ x. IsWritten whole (held ++ x) t t1) (links_next s c.links.before n within) c.links.invariant.written in
    record {
      written = piece_written whole held (link_text s link) rest held' t t1 t2 so (subst (λ x. IsWritten (held ++ x) held' t1 t2) is c.in_ok-gather_link.ensures.ok);
      still = c.in_ok-gather_link.ensures.still ∙ c.links.invariant.still;
    }

pub returns-in_err-gather_link-clause-err : goal.returns-in_err-gather_link-clause-err
returns-in_err-gather_link-clause-err g c =
    let t : Option (List ℕ) = g.K.Sink.taken c.args.sink.now in
    let t1 : Option (List ℕ) = g.K.Sink.taken c.links.sink in
    let t2 : Option (List ℕ) = g.K.Sink.taken c.gather_link.new.sink in
    let s : State = c.args.bench.now.state in
    let n : ℕ = length s.peers.links in
    let link : ℕ = c.links.before + 1 in
    let held : List ℕ = c.links.held.items in
    let whole : List ℕ = c.args.held.now.items ++ links_text s 1 n in
    let rest : List ℕ = links_text s (link + 1) (n - link) in
    let within : c.links.before < n = omega (arith, c.links-test.true, c.links-before-end.ensures) in
    let is : messages_text link c.accepted.result.now c.sources.result.now ≡ link_text s link =
    ap (λ x. messages_text link x c.sources.result.now) (c.accepted.ensures c.requires)
    ∙ ap (λ x. messages_text link (messages_of (gained_on s link)) x) (c.sources.ensures c.requires) ∙ messages_are link (gained_on s link) in
    let so : IsWritten whole (held ++ (link_text s link ++ rest)) t t1 = subst (λ x. IsWritten whole (held ++ x) t t1) (links_next s c.links.before n within) c.links.invariant.written in
    on_err c.from_residual.result (GainsFront t t2 whole)
    (piece_cut whole held (link_text s link) rest t t1 t2 so (subst (λ x. GainsFront t1 t2 (held ++ x)) is c.in_err-gather_link.ensures.err))
