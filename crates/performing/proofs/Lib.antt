-- What the proofs of several functions use: the pairs that a slice holds, chunk by chunk (Pairs), and perform's loops and ways out (Performing).
pub mod Pairs
pub mod Performing
