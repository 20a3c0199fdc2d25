-- the list as links, and the second list
pub mod Once
pub mod Neighbours
pub mod Links
pub mod Waiting
pub mod Actives
pub mod ActiveMoves
pub mod Searches
pub mod Fills
pub mod LinkMoves
