-- What serves private calls of this crate: a reader of its public contracts needs none of it. Read the files in this
-- order.
pub mod BlockSteps
pub mod FileSteps
pub mod SurveySteps
