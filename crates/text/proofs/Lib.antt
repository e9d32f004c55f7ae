-- What the proofs of several functions use: text piece by piece (Writing), and numbers (Numbers).
pub mod Writing
pub mod Numbers
