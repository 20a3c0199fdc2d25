-- turns keep it
pub mod Starts
pub mod Does
pub mod ShareMoves
pub mod Advances
pub mod Holders
pub mod Releases
pub mod Moves
pub mod ListMoves
pub mod Ends
pub mod Forks
pub mod Turns
