pub mod Rounds
pub mod Unique
pub mod Meaning
