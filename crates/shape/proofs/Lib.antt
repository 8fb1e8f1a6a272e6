-- Laws that the proofs of shape and of the layers above share.
pub mod Octets
pub mod Floats
pub mod Judgements
pub mod Asking
pub mod Scanned
pub mod Lengths
pub mod Positions
pub mod Heads
pub mod Polygons
pub mod Runs
pub mod Shapes
