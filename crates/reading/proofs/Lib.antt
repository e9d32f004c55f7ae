-- What the proofs of several functions use: a call's ways out (Answering), and how great answers are (Bounds).
pub mod Answering
pub mod Bounds
