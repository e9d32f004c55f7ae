pub mod Bounds
pub mod Claims
