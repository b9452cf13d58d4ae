-- The laws that an audit stands on, passed on from one place.
pub use Rattle.bench_world.proofs.lines.ReadBack.{answers_apart, lines_tell}
pub use Rattle.bench_world.proofs.alike.AlikeStates.{alike_answers, alike_steps}
pub use Rattle.bench_world.proofs.showing.ShowingAlike.{alike_back, alike_on, alike_same}
pub use Rattle.bench_world.proofs.showing.ShowingLeft.{entries_leave_alike, events_tell}
pub use Rattle.trace_audit.proofs.TechJournals.{journals_tech}
