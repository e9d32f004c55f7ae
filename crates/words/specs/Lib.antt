-- The front of a slice that a call filled (Filled), and how many words a block has (Width).
pub mod Filled
pub mod Width
