-- Document 01 in definitions: the board (Layout to Board), how a change is planned (Store to Format), what each call answers (Answers, Calls,
-- Cabinet, Lister), and the power-cut rule (Cut to Orders). Lists and Words are what they are written with.
pub mod Lists
pub mod Words
pub mod Layout
pub mod Tree
pub mod Board
pub mod Store
pub mod Hidden
pub mod Plan
pub mod Fresh
pub mod InPlace
pub mod Change
pub mod GivenUp
pub mod Format
pub mod Answers
pub mod Calls
pub mod Cabinet
pub mod Lister
pub mod Cut
pub mod Safe
pub mod Claims
pub mod Orders
