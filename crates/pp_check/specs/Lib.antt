pub mod TraceLine
pub mod LawfulTrace
pub mod TraceFault
pub mod FaultText
pub mod Verdict
-- cited only by private contracts: nobody has to read these to believe what the crate promises
pub mod Judge
