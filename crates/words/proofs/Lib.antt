-- What the proofs of several functions use: words off a slice (Off), the front of a lent slice filled (Filling), shifts by a block's bits (Widths), and bytes low byte first (Endian).
pub mod Off
pub mod Filling
pub mod Widths
pub mod Endian
