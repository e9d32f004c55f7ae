-- The words of the trailer (Trailers), and where a file's inode stands (Inodes).
pub mod Trailers
pub mod Inodes
