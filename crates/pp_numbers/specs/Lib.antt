pub mod ChannelNo
pub mod PpNo
pub mod Profile
pub mod Limits
pub mod Bounds
-- of numbers in order, and of lists, what the standard library lacks
pub mod GappedNumbers
pub mod Tables
pub mod Subsequence
