-- rows: what a next turn comes to, the rule of a row with one more turn, somebody may always go on
pub mod Rows
-- the memory of a pace: the loops, what stands at each place, and a pace that stands for a row
pub mod Steps
pub mod Cells
pub mod Exact
pub mod Noted
