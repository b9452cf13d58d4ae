use Rattle.std.proofs.Common.{◌≡◌, ℕ, List, sym, ◌∙◌, ap, subst}
use Rattle.std.specs.Prelude.{slice_index, slice_index_or}
use Rattle.snep_core.specs.Server.{Received as Accepted, messages_of}
use Rattle.bench_world.proofs.link_law.Ranges.{told_at}
use Rattle.bench_world.proofs.inbox.received.Goals as goal

pub returns : goal.returns
returns c =
    let all : List Accepted = c.args.server.now.accepted in
    let i : ℕ = c.args.place in
    let m : List ℕ = c.in_ok-from_bytes.field-0 in
    let at : m ≡ slice_index_or (messages_of all) i m = subst (λ x. x ≡ slice_index_or (messages_of all) i x) (sym (c.in_ok-from_bytes.ensures ∙ c.as_slice.ensures))
    (c.index-accepted-place.is ∙ ap (λ xs. slice_index_or xs i c.index-accepted-place.result) c.accepted.ensures) in
    told_at c.args.link all i m (slice_index c.sources.result.now i) c.requires at (ap (λ xs. slice_index xs i) c.sources.ensures)
