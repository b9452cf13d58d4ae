-- What a device at rest does, passed on to the crates above. Declares nothing.
pub use Rattle.nfca_poll.specs.laws.Resting.{wakes, whole_wakes_none, Rests, rests}
