-- The definitions that the promises of exchange cite, besides those of shape.
pub mod Points
pub mod PointRefusals
pub mod Districts
pub mod DistrictRefusals
