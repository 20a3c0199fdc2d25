-- Real memory from the functions' own promises: turns by value and from C, of AsyncDF and of DFDeques.
pub mod WorkersByValue
pub mod WorkersFromC
pub mod DequeWorkersByValue
pub mod DequeWorkersFromC
-- what a worker reads from C
pub mod ActionSays
