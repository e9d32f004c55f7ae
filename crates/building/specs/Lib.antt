-- What is built for bytes written under a tree.
pub mod Building
