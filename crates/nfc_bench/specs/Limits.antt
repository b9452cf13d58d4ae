-- The limits of what a run reads; this project's own.
use Rattle.std.specs.Prelude.{ℕ, ◌+◌, ◌*◌}
use Rattle.bench_script.specs.Limits.{most_lines, longest_line}

-- how many bytes one call of the source asks for
abbrev pub chunk_size : ℕ
chunk_size = 4096

-- how many bytes a script within the limits may have, and how many a run may read
abbrev pub longest_script : ℕ
longest_script = most_lines * (longest_line + 1)

abbrev pub most_read : ℕ
most_read = longest_script + chunk_size
