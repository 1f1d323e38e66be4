pub mod Format
pub mod Entry
