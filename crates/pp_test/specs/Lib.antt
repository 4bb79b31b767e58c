pub mod EveryOrder
pub mod Expectations
pub mod JudgedLines
pub mod Nearest
pub mod RunLines
pub mod Verdict
-- cited only by private contracts: nobody has to read this to believe what the crate promises
pub mod Reading
