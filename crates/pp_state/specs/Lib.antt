pub mod Changes
pub mod StateText
pub mod StateLaw
pub mod ShownStanding
pub mod DisplayCode
pub mod MemoryText
pub mod CentralText
pub mod MemoryReading
