-- What the proofs of several functions use: a single word (SingleWord), and the ways of planning (Ways).
pub mod SingleWord
pub mod Ways
