pub mod Session
pub mod History
pub mod Answer
pub mod ChannelText
pub mod Law
