pub mod Peel
pub mod Reached
pub mod Code
pub mod Heap
pub mod Values
pub mod Accepting
