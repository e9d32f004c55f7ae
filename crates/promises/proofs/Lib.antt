-- Pairs performed up to one of them are a cut (Parts); the promises (Kept), those about stores and plan slices (Costs).
pub mod Parts
pub mod Kept
pub mod Costs
