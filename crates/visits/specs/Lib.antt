pub mod Placed
pub mod Claims
