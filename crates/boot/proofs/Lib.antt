-- Boards that are alike but for block 0 (Alike), their plans (BootPlans), and the rule (Boot).
pub mod Alike
pub mod BootPlans
pub mod Boot
