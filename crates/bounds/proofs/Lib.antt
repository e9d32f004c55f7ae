-- Theorems about the definitions of specs/: how many subtrees a stretch of bytes meets (Stretches), what a plan costs in stores (Stores), how many fresh
-- blocks it takes (Taken), and so what a write costs (Writes); the house's figures and the claims about stores (Rules), a write that costs as much (Reached),
-- and the claims about plan slices (Room).
pub mod Stretches
pub mod Stores
pub mod Taken
pub mod Writes
pub mod Rules
pub mod Reached
pub mod Room
