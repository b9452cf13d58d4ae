use Rattle.std.proofs.lemmas.Result.{on_ok_weaker}
use Rattle.std.proofs.Common.{◌++◌, ◌∙◌, ℕ, List, map, refl}
use Rattle.std.specs.Prelude.{codes}
use Rattle.bench_script.specs.Canonical.{id_text, frame_text}
use Rattle.bench_script.proofs.Canonical.{row_behind}
use Rattle.bench_script.proofs.writing.add_raw.Goals as goal

pub returns : goal.returns
returns c =
    let x : List ℕ = c.args.line.now.items ++ codes "raw" in
    on_ok_weaker c.add_frames.result (λ e. e ∙ row_behind c.args.line.now.items x c.add_named.new.line.items (codes "raw") (id_text c.args.id.now) (map frame_text c.args.frames.now)
    refl c.in_ok-add_named.ensures) c.add_frames.ensures
