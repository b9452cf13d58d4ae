use Rattle.std.proofs.Common.{◌≡◌, ◌++◌, drop, map}
use Rattle.bench_script.specs.Canonical.{frame_text, row_text}
use Rattle.bench_script.proofs.writing.add_frames.Given as goal

abbrev pub invariant-loop-frame : goal.invariant-loop-frame
invariant-loop-frame l = l.line.items ++ row_text (map frame_text (drop l.frame-index l.frames)) ≡ l.initial.line.items ++ row_text (map frame_text l.frames)
