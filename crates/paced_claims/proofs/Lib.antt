-- what a visitor is sent to: both limits with no hypothesis on the row, on the definitions (PacedLimit from C, MovesLimit by value) and from the functions' own promises (PacedFromC,
-- PacedByValue); rounds from the pace's beginning on, in calls one after the other and no other turns, keep the rule with 1 together (RoundsKeep) and are never refused with 60 (RoundsPass,
-- MovesPass)
pub mod PacedLimit
pub mod PacedFromC
pub mod MovesLimit
pub mod PacedByValue
pub mod RoundsKeep
pub mod RoundsPass
pub mod MovesPass
-- what they rest on: turns that a pace lets through keep the rule (Keeping), and every paced call is turns taken one by one (Steps)
pub mod Keeping
pub mod Steps
