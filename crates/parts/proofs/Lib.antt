pub mod Built
pub mod HeadRule
pub mod CopyLaws
pub mod CopyRules
pub mod CopyAmounts
pub mod ThreadRules
pub mod WholeRules
pub mod Short
-- several tables under a new root
pub mod RootLevels
pub mod PartsPlaced
pub mod JoinShape
pub mod JoinBodies
pub mod BodiesIn
pub mod JoinedShort
