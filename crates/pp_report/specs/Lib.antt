pub mod Types
pub mod Serial
pub mod EveryRun
pub mod PrintedReport
pub mod ReportLaw
-- cited only by private contracts: nobody has to read these to believe what the crate promises
pub mod Authors
