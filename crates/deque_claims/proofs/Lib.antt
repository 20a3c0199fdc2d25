-- What a visitor is sent to, each from the functions' own promises: by value (ByValue) and from C (FromC, and from an opening on: Opened) a history of calls is DFDeques' on the record, and its
-- limits hold (Limits), also that which `dequelimit` gives (ChoiceServes).
pub mod ByValue
pub mod FromC
pub mod Opened
pub mod Limits
pub mod ChoiceServes
-- what they rest on: what the promises say (DequeSays), lists of calls on lent memory are those on the record (DequesRefine, BlankDeques), and what stands in blocks (DequeSizes)
pub mod DequeSays
pub mod DequesRefine
pub mod BlankDeques
pub mod DequeSizes
