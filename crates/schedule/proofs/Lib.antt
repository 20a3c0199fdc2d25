-- what is sound
pub mod Sound
-- turns keep it
pub mod Preservation
-- rows and calls
pub mod Runs
-- what a turn tries and does, and which actions lie beyond one
pub mod Bounds
-- the list as links, and the second list
pub mod Linked
-- the statements that a reader is sent to stand here, and not in a folder, with the worked cases
pub mod Soundness
pub mod Stores
pub mod Occurrences
pub mod SerialLive
pub mod ThreadMemory
pub mod Beginnings
pub mod RowList
pub mod CaseLaws
pub mod Wrong
