pub mod Blocks
pub mod Polygon
