-- Theorems about the blocks that a walk visits: one level at a time (Levels), by blocks (Same), stretch by stretch (Stretches); which blocks they are
-- (Paths), and the claims (Rules).
pub mod Levels
pub mod Same
pub mod Stretches
pub mod Paths
pub mod Rules
