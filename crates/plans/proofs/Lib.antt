-- What the proofs of several functions use: pairs laid into a slice (Laying), plans of one step (OneStep), the board with growth performed (Onto), and the ways out of a call that plans (Refusing).
pub mod Laying
pub mod OneStep
pub mod Onto
pub mod Refusing
