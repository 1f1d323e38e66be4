-- What is to be believed of the four APDUs: what a received one says, and the octets of an outgoing one.
pub mod Field
pub mod Problem
pub mod Parse
pub mod Inside
pub mod Reading
pub mod Encode
-- the steps between
pub mod Steps
