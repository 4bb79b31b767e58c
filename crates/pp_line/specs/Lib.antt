pub mod Types
pub mod ChannelWord
pub mod LineLog
pub mod Merge
pub mod Order
pub mod SharedWords
pub mod LineView
pub mod LineState
-- cited only by private contracts: nobody has to read these to believe what the crate promises
pub mod LineSteps
