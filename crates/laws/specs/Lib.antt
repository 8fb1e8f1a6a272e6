pub mod First
pub mod Round
pub mod Bijection
pub mod Sorted
