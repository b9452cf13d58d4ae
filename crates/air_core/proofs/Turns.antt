-- Turns one after another, over any air and any fates.
pub use Rattle.air_core.specs.laws.Turning.{queue_after-append, fates-append, due-append, back_of-append, receptions-append, due_weaker, due_shift, replay-append, trace_of-append, turns-append}
pub use Rattle.air_core.specs.laws.Turning.{events-append, going_start, going_reset, going_turn, going_then}
