pub mod Central
pub mod MachineState
pub mod MachineStep
pub mod Run
pub mod Headline
pub mod DeadStart
pub mod Lending
-- cited only by private contracts: nobody has to read these to believe what the crate promises
pub mod Rounds
pub mod Quiet
