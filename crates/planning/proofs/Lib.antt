-- What the proofs of several functions use: length changes (Lengths), growth and what follows it (Grown), and a write's ways
-- (Writes).
pub mod Lengths
pub mod Grown
pub mod Writes
