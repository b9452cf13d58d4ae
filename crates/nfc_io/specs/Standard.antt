-- Sources and sinks over the readers and writers of std. This project's own.
use Rattle.std.specs.Prelude.{ℕ}

-- such an end: the reader or writer, and the count of faults
pub record OverStd (Inner : Type 0) : Type 0 where
  pub inner : Inner
  pub faults : ℕ
