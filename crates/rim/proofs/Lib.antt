-- Theorems about the definitions. One peel, and what holds of all marks that peels lead to:
pub mod Marks
pub mod OnePeel
pub mod RimPoints
pub mod Starve
pub mod Tallied
pub mod Grow
pub mod Reached
pub mod Rings
pub mod Greatest
-- the side to peel next
pub mod TopSide
-- what the functions' proofs cite
pub mod Plain
pub mod Handed
pub mod Lowest
pub mod Mated
pub mod Cornered
-- the queue
pub mod Ranked
pub mod Bag
pub mod Stored
pub mod Rising
pub mod Sinking
pub mod Arrivals
pub mod Queueing
pub mod Gathered
-- a step
pub mod Stepping
pub mod Joining
pub mod Begun
pub mod Ringed
