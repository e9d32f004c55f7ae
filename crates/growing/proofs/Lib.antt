-- What the proofs of several functions use: whether a tree grows (Growing), and growth (Growth).
pub mod Growing
pub mod Growth
