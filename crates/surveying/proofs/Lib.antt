-- What the proofs of several functions use: marks that start at 0 find what is reached twice (Reached), one leaf and one file (Inodes), a survey's
-- ways out (Surveying), those of a check with a file number (FileNumbers), and the free blocks listed (Listing).
pub mod Reached
pub mod Inodes
pub mod Surveying
pub mod FileNumbers
pub mod Listing
