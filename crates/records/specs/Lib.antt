-- What a reader must believe of the records: the limits, the records of one side, the ids that rest, the kept answers, the state, and what an end holds.
pub mod Limits
pub mod Numbers
pub mod Records
pub mod Resting
pub mod Kept
pub mod State
pub mod Held
pub mod Steps
