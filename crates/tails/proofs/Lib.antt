-- What the proofs of several functions use: how many blocks and stores there are at most (Room), the walk along live pointers (Walking), words stored in place (TailStores), the
-- pointer to a fresh subtree (Hooking), the recursion, child by child (Children), and zeros written in place (Padding).
pub mod Room
pub mod Walking
pub mod TailStores
pub mod Hooking
pub mod Children
pub mod Padding
