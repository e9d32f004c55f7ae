-- What the proofs of several functions use: pages laid for fresh blocks (Taken), how many there are at most (Room), words with bytes written into them (Splicing), trees that
-- are written from their start (WholeTrees), and at their end (Tails), and the loop over the children that get bytes there (Ends).
pub mod Taken
pub mod Room
pub mod Splicing
pub mod WholeTrees
pub mod Tails
pub mod Ends
