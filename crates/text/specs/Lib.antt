-- What is to be believed of text: what is put into a line and put out, and what hexadecimal text says. Steps only serves proofs.
pub mod Text
pub mod Hex
pub mod Out
pub mod Steps
