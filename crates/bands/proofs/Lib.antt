-- Bands for any words per block (Bands), and the same plan with them (SamePlan).
pub mod Bands
pub mod SamePlan
