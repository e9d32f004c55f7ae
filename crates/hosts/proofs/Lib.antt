-- What the proof of the walk uses: its end as C gets it.
pub mod Ends
