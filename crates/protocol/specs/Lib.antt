-- What is to be believed of the protocol: the six calls, the marked examples, the run of one end, the two ends with the book, and that what is shown was given.
pub mod Call
pub mod Check
pub mod Service
pub mod Receive
pub mod Perform
pub mod Reading
pub mod Marked
pub mod End
pub mod Book
pub mod ShownWasGiven
