pub mod Shown
pub mod OwnShows
pub mod Walking
