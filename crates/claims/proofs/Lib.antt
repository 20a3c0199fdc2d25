-- What a visitor is sent to, each from the functions' own promises: by value (ByValue) and from C (FromC, and from an opening on: Opened) a history of calls is document 01's, and both limits
-- hold of it; a quota that is given serves (Board); one run in rounds needs no condition on its turns (Rounds); the peak of p workers needs none on any (Peaks); a limit of turns that is given
-- serves (Turns);
-- with marks among the calls (N11) the limits hold too, on the definitions (Marks), by value (MarksByValue) and from C (MarksFromC).
pub mod ByValue
pub mod Marks
pub mod MarksByValue
pub mod FromC
pub mod MarksFromC
pub mod Opened
pub mod Board
pub mod Rounds
pub mod Peaks
pub mod Turns
-- what they rest on: what the promises from C say (LentSays, MarkSays; of the wall chart ChartSays), lists of calls on lent memory are those on the record (LentLimit, Blank) and its marks
-- (LentMarked), what stands in blocks (Shaped, Sizes; of marks MarksShaped, MarkSizes), and that no call changes a run's table (Bytes)
pub mod LentSays
pub mod MarkSays
pub mod ChartSays
pub mod LentLimit
pub mod LentMarked
pub mod Blank
pub mod Shaped
pub mod Sizes
pub mod MarksShaped
pub mod MarkSizes
pub mod Bytes
