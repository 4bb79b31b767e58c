pub mod Types
pub mod End
pub mod WorkerReport
pub mod Accesses
pub mod Report
-- cited only by private contracts: nobody has to read these to believe what the crate promises
pub mod Banks
pub mod WorkerState
pub mod Crew
