-- The parts of format's plan as they are laid, and its ways out.
pub mod Formatting
