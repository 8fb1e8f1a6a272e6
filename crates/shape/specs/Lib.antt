-- The definitions that the contracts of shape and the promises of exchange cite.
pub mod Answers
pub mod Bytes
pub mod Types
pub mod Coordinates
pub mod Writing
pub mod Reading
pub mod Refusals
