pub mod Answers
pub mod ValidLaws
