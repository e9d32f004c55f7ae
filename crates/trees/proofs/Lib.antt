-- What the proofs of several functions use: where a walk ends (Ending), marks piece by piece (Marking), spans that can be computed (Reaching), a
-- tree's crawl one level at a time (Crawling), its count of blocks (Holding).
pub mod Ending
pub mod Marking
pub mod Reaching
pub mod Crawling
pub mod Holding
