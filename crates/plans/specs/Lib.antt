-- Pairs laid into a slice (Laying), and the board with growth performed (Onto).
pub mod Laying
pub mod Onto
