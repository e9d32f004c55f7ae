-- Marks of blocks that were reached (Marks), and what the functions on trees answer (Trees).
pub mod Marks
pub mod Trees
