pub mod Text
pub mod Says
pub mod Line
pub mod Answer
pub mod Code
