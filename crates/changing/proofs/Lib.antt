-- What the proofs of the calls use: the table of free blocks (Stock), and their ways out (Calls).
pub mod Stock
pub mod Calls
