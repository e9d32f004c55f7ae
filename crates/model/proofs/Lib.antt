-- Theorems about the definitions of specs/. docs/PROOF.md says how they lead to the rules.

-- Cases on numbers, loops, counting, bytes, spans; stores, addresses and epochs; lists of faults
pub mod Cases
pub mod Sums
pub mod Counting
pub mod Bytes
pub mod Spans
pub mod Perform
pub mod Addresses
pub mod Altering
pub mod Refusals
pub mod Epochs
-- Trees: one level at a time, where their blocks lie, walks, boards that agree on a tree; what a tree becomes by each kind of change
pub mod Trees
pub mod Walks
pub mod Agree
pub mod Splice
pub mod Paths
pub mod GivenUp
pub mod Changed
pub mod Built
pub mod PastTree
pub mod InPlaceStores
pub mod Tailed
pub mod Descent
pub mod Shrunk
pub mod Levels
-- Boards: what is shown, what acceptance says, the walk to a byte as a call, format, free blocks, commits, hidden stores
pub mod Shown
pub mod Accepting
pub mod Linked
pub mod Formatted
pub mod Ranges
pub mod Live
pub mod Census
pub mod Visible
pub mod Commits
pub mod Apart
pub mod HiddenStores
pub mod SpotCommits
pub mod Supplied
-- Plans: safe plans obey the power-cut rule; what is asked of a write; every way of planning is one good step, or growth and another
pub mod Safety
pub mod Steps
pub mod GoodSteps
pub mod StepBlocks
pub mod Writing
pub mod InsideWays
pub mod SizeWays
pub mod LeafWay
pub mod GrowthWay
pub mod AfterGrowth
pub mod Ways
pub mod Plans
-- The rules of specs/Claims.antt and specs/Orders.antt
pub mod Rules
pub mod WayNeeds
pub mod PastEnd
pub mod WalkEnds
pub mod FormatCut
-- Proofs by computation: one name for all definitions, and format on 16 blocks
pub mod Computing
pub mod FormatExample
