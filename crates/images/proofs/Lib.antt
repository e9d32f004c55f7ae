-- The board of an image answers what the image is to answer.
pub mod Boards
