-- What the proofs of several functions use: where a file's inode stands (Inodes), and runs of zeros (Trailing).
pub mod Inodes
pub mod Trailing
