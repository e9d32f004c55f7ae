-- The bytes that a copy and a read show.
pub mod Bytes
-- Buffers filled whole.
mod Whole
