-- What proofs above use of the figures of a kind.
pub mod Figures
