-- Laws and proofs of the protocol. Theorem has that what is shown was given, Invariant what it rests on, Steady and Fitting the run of one end, Resting and KeptAfter what changes the ids that rest and the kept answers, Room that what receive writes fits, Parted that written octets come apart as the APDUs, Computed P1 to P12 and the runs of Witness and Fetching; Instance says that the theorem speaks of two.
pub mod Checks
pub mod Facts
pub mod Refusals
pub mod Places
mod Ids
mod Coverage
pub mod Steady
pub mod Fitting
pub mod Resting
mod Invariant
mod Replies
pub mod Room
mod Keeping
mod Written
pub mod KeptAfter
pub mod Parted
mod Kiosk
mod Hearing
mod Controller
mod Showing
mod Reaching
pub mod Theorem
mod WitnessTables
mod Witness
mod Fetching
pub mod Computed
mod Instance
mod Linked
mod Levels
