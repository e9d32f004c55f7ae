-- What the proofs of several functions use: a write that is ready to be planned (ReadyWrites), a descent, pointer by pointer (Descents), and the plans of both shadows (Shadows).
pub mod ReadyWrites
pub mod Descents
pub mod Shadows
