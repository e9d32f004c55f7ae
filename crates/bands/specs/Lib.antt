-- N4 of document 02: the bench sheet and the height by it (Sheet), a write planned with it (Planned), and what is promised (Claims).
pub mod Sheet
pub mod Planned
pub mod Claims
