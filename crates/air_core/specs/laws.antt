-- Proofs that traits' laws and crates above take from here: what they state is said by the definitions beside this
-- folder. Read the files in this order.
pub mod Following
pub mod PlainByLight
pub mod Turning
pub mod Waiting
pub mod PlainMoving
