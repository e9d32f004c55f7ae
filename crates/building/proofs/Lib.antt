-- What the proofs of several functions use: the blocks of a fresh tree (Trees), and those of the subtrees at the end of a file (TailPages).
pub mod Trees
pub mod TailPages
